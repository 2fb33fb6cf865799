-- No tokens have two first faults, and none where all of them are right and a sentence.
use Rattle.std.proofs.Common.{◌≡◌, ℕ, zero, suc, ◌<◌, ◌≤◌, List, [], ◌∷◌, ◌++◌, length, Option}
use Rattle.std.proofs.Common.{append_assoc, Some, None, refl, sym, ap, subst, ◌∙◌, arith}
use Rattle.std.specs.Prelude.{drop}
use Rattle.std.proofs.lemmas.List.{append-nil}
use Rattle.program_text.specs.declared.fault.ReadKind.{ReadKind}
use Rattle.program_text.specs.declared.fault.ReadKind.TheVariants.{Unclosed}
use Rattle.program_text.specs.declared.fault.ReadFault.{ReadFault}
use Rattle.program_text.specs.Tokens.{Token, texts}
use Rattle.task_program.specs.TokenCounts.{open_braces}
use Rattle.task_program.specs.FirstFault.{Rules, IsMisplaced, IsWrong, IsRight, EndsEarly}
use Rattle.task_program.specs.FirstFault.{AreRight, AreRightWhole, IsFirstFault}
use Rattle.task_program.specs.FirstFault.IsMisplaced.{OfHeader, AfterWhole, Elsewhere}
use Rattle.task_program.specs.FirstFault.IsWrong.{ByItself, Misplaced, PastLimit}
use Rattle.task_program.specs.FirstFault.AreRight.{Nothing, More}
use Rattle.task_program.specs.FirstFault.IsFirstFault.{AtToken, AtEnd}
use Rattle.task_program.specs.FirstFault.EndsEarly.{InHeader, BlockOpen, Inside}

-- ---- one fault at most

pub two_kinds : (one other : ReadKind) (found : Option ReadKind)
    → found ≡ Some one
    → found ≡ Some other
    → one ≡ other
two_kinds one other found h g = cc

pub some_none : (kind : ReadKind) (found : Option ReadKind) → found ≡ Some kind → found ≡ None → ⊥
some_none kind found h g = absurd cc

-- each sentence has the whole header
abbrev pub HasHeader : Rules → Type 0
HasHeader rules = (texts : List (List ℕ)) → rules.IsSentence texts → rules.header ≤ length texts

-- the header has no braces
none_left : (n : ℕ) (tokens : List Token) → length tokens < n → drop n tokens ≡ []
none_left zero tokens h = absurd (omega (arith, h))
none_left (suc n) [] h = refl
none_left (suc n) (token ∷ tokens) h = none_left n tokens (omega (arith, h))

abbrev pub fault_so : ReadKind → ℕ → ReadFault
fault_so kind line = record { kind = kind; line = line }

module _ (rules : Rules) where
  pub right_not_wrong : (before : List Token) (text : List ℕ) (kind : ReadKind)
      → IsRight rules before text
      → IsWrong rules before text kind
      → ⊥
  right_not_wrong before text kind r (ByItself form) = some_none kind _ form r.formed
  right_not_wrong before text kind r (Misplaced form no_viable misplaced) = no_viable r.viable
  right_not_wrong before text kind r (PastLimit form viable limit) =
      some_none kind _ limit r.within

  -- a token is misplaced in one way only
  misplaced_once : HasHeader rules → (before : List (List ℕ)) (text : List ℕ) (one other : ReadKind)
      → IsMisplaced rules before text one
      → IsMisplaced rules before text other
      → one ≡ other
  misplaced_once long before text _ _ (OfHeader short) (OfHeader again) = refl
  misplaced_once long before text _ _ (OfHeader short) (AfterWhole s text_is) =
      absurd (omega (arith, short, long before s))
  misplaced_once long before text _ _ (OfHeader short) (Elsewhere past no_whole) =
      absurd (omega (arith, short, past))
  misplaced_once long before text _ _ (AfterWhole s text_is) (OfHeader short) =
      absurd (omega (arith, short, long before s))
  misplaced_once long before text _ _ (AfterWhole s text_is) (AfterWhole again text_so) = refl
  misplaced_once long before text _ _ (AfterWhole s text_is) (Elsewhere past no_whole) =
      absurd (no_whole s text_is)
  misplaced_once long before text _ _ (Elsewhere past no_whole) (OfHeader short) =
      absurd (omega (arith, short, past))
  misplaced_once long before text _ _ (Elsewhere past no_whole) (AfterWhole s text_is) =
      absurd (no_whole s text_is)
  misplaced_once long before text _ _ (Elsewhere past no_whole) (Elsewhere again none) = refl

  -- a token is wrong in one way only
  pub wrong_once : HasHeader rules → (before : List Token) (text : List ℕ) (one other : ReadKind)
      → IsWrong rules before text one
      → IsWrong rules before text other
      → one ≡ other
  wrong_once long before text one other (ByItself form) (ByItself again) =
      two_kinds one other _ form again
  wrong_once long before text one other (ByItself form) (Misplaced none no_viable misplaced) =
      absurd (some_none one _ form none)
  wrong_once long before text one other (ByItself form) (PastLimit none viable limit) =
      absurd (some_none one _ form none)
  wrong_once long before text one other (Misplaced none no_viable misplaced) (ByItself form) =
      absurd (some_none other _ form none)
  wrong_once long before text one other (Misplaced none no_viable misplaced)
      (Misplaced again no_more misplaced_so) =
      misplaced_once long (texts before) text one other misplaced misplaced_so
  wrong_once long before text one other (Misplaced none no_viable misplaced)
      (PastLimit again viable limit) =
      absurd (no_viable viable)
  wrong_once long before text one other (PastLimit none viable limit) (ByItself form) =
      absurd (some_none other _ form none)
  wrong_once long before text one other (PastLimit none viable limit)
      (Misplaced again no_viable misplaced) =
      absurd (no_viable viable)
  wrong_once long before text one other (PastLimit none viable limit)
      (PastLimit again viable_too limit_too) =
      two_kinds one other _ limit limit_too

  no_braces : (all : List Token) (line : ℕ) (others : List ℕ)
      → length all < rules.header
      → open_braces (drop rules.header all) ≡ line ∷ others
      → ⊥
  no_braces all line others short braces =
      let none : open_braces (drop rules.header all) ≡ [] =
      ap (λ (ts : List Token). open_braces ts) (none_left rules.header all short) in
      absurd (let wrong : line ∷ others ≡ [] = sym braces ∙ none in cc)

  -- a text ends too early in one way only
  pub ends_once : (all : List Token) (end_line : ℕ) (one other : ReadFault)
      → EndsEarly rules all end_line one
      → EndsEarly rules all end_line other
      → one ≡ other
  ends_once all end_line _ _ (InHeader short) (InHeader again) = refl
  ends_once all end_line _ _ (InHeader short) (BlockOpen line others viable braces) =
      absurd (no_braces all line others short braces)
  ends_once all end_line _ _ (InHeader short) (Inside long no_viable) =
      absurd (omega (arith, short, long))
  ends_once all end_line _ _ (BlockOpen line others viable braces) (InHeader short) =
      absurd (no_braces all line others short braces)
  ends_once all end_line _ _ (BlockOpen line others viable braces)
      (BlockOpen line_too others_too again braces_too) =
      let same : line ∷ others ≡ line_too ∷ others_too = sym braces ∙ braces_too in
      let same_line : line ≡ line_too = cc in
      ap (λ (n : ℕ). fault_so Unclosed n) same_line
  ends_once all end_line _ _ (BlockOpen line others viable braces) (Inside long no_viable) =
      absurd (no_viable viable)
  ends_once all end_line _ _ (Inside long no_viable) (InHeader short) =
      absurd (omega (arith, short, long))
  ends_once all end_line _ _ (Inside long no_viable) (BlockOpen line others viable braces) =
      absurd (no_viable viable)
  ends_once all end_line _ _ (Inside long no_viable) (Inside again none) = refl

  -- ---- none where all are right

  -- each of these is right after those before it
  AllRight : (before tokens : List Token) → Type 0
  AllRight before [] = Unit {0}
  AllRight before (token ∷ later) =
      IsRight rules before token.text × AllRight (before ++ token ∷ []) later

  right_more : (tokens before : List Token) (token : Token)
      → AllRight before tokens
      → IsRight rules (before ++ tokens) token.text
      → AllRight before (tokens ++ token ∷ [])
  unfolding AllRight
  right_more [] before token all right =
      (subst (λ (ts : List Token). IsRight rules ts token.text) (append-nil before) right, tt)
  right_more (first ∷ tokens) before token all right = (
    all.0,
    right_more tokens (before ++ first ∷ []) token all.1
        (subst (λ (ts : List Token). IsRight rules ts token.text)
        (sym (append_assoc before (first ∷ []) tokens)) right),
  )

  all_right : (tokens : List Token) → AreRight rules tokens → AllRight [] tokens
  unfolding AllRight
  all_right _ Nothing = tt
  all_right _ (More before token are right) =
      right_more before [] token (all_right before are) right

  right_there : (tokens before : List Token) (token : Token) (later : List Token)
      → AllRight before (tokens ++ token ∷ later)
      → IsRight rules (before ++ tokens) token.text
  unfolding AllRight
  right_there [] before token later all =
      subst (λ (ts : List Token). IsRight rules ts token.text) (sym (append-nil before)) all.0
  right_there (first ∷ tokens) before token later all =
      subst (λ (ts : List Token). IsRight rules ts token.text)
      (append_assoc before (first ∷ []) tokens)
      (right_there tokens (before ++ first ∷ []) token later all.1)

  -- right tokens that are a sentence have no first fault
  pub no_fault : (tokens : List Token) (end_line : ℕ) (fault : ReadFault)
      → IsFirstFault rules tokens end_line fault
      → AreRightWhole rules tokens
      → ⊥
  no_fault _ _ _ (AtToken before later token end_line kind are wrong) whole =
      let all = all_right (before ++ token ∷ later) whole.right in
      right_not_wrong before token.text kind (right_there before [] token later all) wrong
  no_fault _ _ _ (AtEnd tokens end_line fault are no_sentence early) whole =
      no_sentence whole.sentence
