-- The first fault of the tokens of a text, apart from any reading: the first token at which
-- something is wrong, and what it is. What is asked of a token are the rules of the text.
use Rattle.std.specs.Prelude.{◌≡◌, ℕ, ◌<◌, ◌≤◌, List, [], ◌∷◌, ◌++◌, length, drop, Option}
use Rattle.std.specs.Prelude.{Some, None, codes}
use Rattle.program_text.specs.declared.fault.ReadKind.{ReadKind}
use Rattle.program_text.specs.declared.fault.ReadKind.TheVariants.{BadHeader, BadWord, Unclosed}
use Rattle.program_text.specs.declared.fault.ReadKind.TheVariants.{Unopened}
use Rattle.program_text.specs.declared.fault.ReadFault.{ReadFault}
use Rattle.program_text.specs.Tokens.{Token, texts}
use Rattle.task_program.specs.TokenCounts.{open_braces}

-- what is asked of tokens, of which so many are the header
pub record Rules : Type 1 where
  pub header : ℕ
  -- what is wrong with a token by itself, after these
  pub form_fault : List (List ℕ) → List ℕ → Option ReadKind
  -- the grammar, limits aside, derives these
  pub IsSentence : List (List ℕ) → Type 0
  -- which limit a token passes, after these, which come after the header
  pub limit_fault : List Token → List ℕ → Option ReadKind

-- some sentence of the grammar begins with these
abbrev pub IsViable : (IsSentence : List (List ℕ) → Type 0) → List (List ℕ) → Type 0
IsViable IsSentence texts = (later : List (List ℕ)) × IsSentence (texts ++ later)

-- the fault of a token that the grammar does not have after these
pub data IsMisplaced (rules : Rules) (before : List (List ℕ)) (text : List ℕ)
    : ReadKind → Type 0 where
  OfHeader : length before < rules.header → IsMisplaced rules before text BadHeader
  -- what stands before is whole, so no block is open
  AfterWhole : rules.IsSentence before
      → text ≡ codes "}"
      → IsMisplaced rules before text Unopened
  Elsewhere : rules.header ≤ length before
      → (rules.IsSentence before → text ≡ codes "}" → ⊥)
      → IsMisplaced rules before text BadWord

-- what is wrong with this token after these: what it is by itself; or else that the grammar does
-- not have it there; or else that it passes a limit
pub data IsWrong (rules : Rules) (before : List Token) (text : List ℕ) (kind : ReadKind)
    : Type 0 where
  ByItself : rules.form_fault (texts before) text ≡ Some kind → IsWrong rules before text kind
  Misplaced : rules.form_fault (texts before) text ≡ None
      → (IsViable rules.IsSentence (texts before ++ text ∷ []) → ⊥)
      → IsMisplaced rules (texts before) text kind
      → IsWrong rules before text kind
  PastLimit : rules.form_fault (texts before) text ≡ None
      → IsViable rules.IsSentence (texts before ++ text ∷ [])
      → rules.limit_fault (drop rules.header before) text ≡ Some kind
      → IsWrong rules before text kind

-- nothing is wrong with this token after these
pub record IsRight (rules : Rules) (before : List Token) (text : List ℕ) : Type 0 where
  pub formed : rules.form_fault (texts before) text ≡ None
  pub viable : IsViable rules.IsSentence (texts before ++ text ∷ [])
  pub within : rules.limit_fault (drop rules.header before) text ≡ None

-- nothing is wrong with any of these after those before it
pub data AreRight (rules : Rules) : List Token → Type 0 where
  Nothing : AreRight rules []
  More : (before : List Token) (token : Token)
      → AreRight rules before
      → IsRight rules before token.text
      → AreRight rules (before ++ token ∷ [])

-- these are a sentence, each of them right
pub record AreRightWhole (rules : Rules) (tokens : List Token) : Type 0 where
  pub sentence : rules.IsSentence (texts tokens)
  pub right : AreRight rules tokens

-- what is wrong where these are all tokens of the text, which ends on this line
pub data EndsEarly (rules : Rules) (all : List Token) (end_line : ℕ) : ReadFault → Type 0 where
  InHeader : length all < rules.header
      → EndsEarly rules all end_line (record { kind = BadHeader; line = end_line })
  -- a `}` could still come, for the innermost `{` that is open
  BlockOpen : (line : ℕ) (others : List ℕ)
      → IsViable rules.IsSentence (texts all ++ codes "}" ∷ [])
      → open_braces (drop rules.header all) ≡ line ∷ others
      → EndsEarly rules all end_line (record { kind = Unclosed; line = line })
  -- inside a statement or clause
  Inside : rules.header ≤ length all
      → (IsViable rules.IsSentence (texts all ++ codes "}" ∷ []) → ⊥)
      → EndsEarly rules all end_line (record { kind = BadWord; line = end_line })

-- the first fault of these tokens, where the text ends on this line
pub data IsFirstFault (rules : Rules) : (tokens : List Token) (end_line : ℕ) → ReadFault → Type 0
  where
    AtToken : (before later : List Token) (token : Token) (end_line : ℕ) (kind : ReadKind)
        → AreRight rules before
        → IsWrong rules before token.text kind
        → IsFirstFault rules (before ++ token ∷ later) end_line
        (record { kind = kind; line = token.line })
    AtEnd : (tokens : List Token) (end_line : ℕ) (fault : ReadFault)
        → AreRight rules tokens
        → (rules.IsSentence (texts tokens) → ⊥)
        → EndsEarly rules tokens end_line fault
        → IsFirstFault rules tokens end_line fault
