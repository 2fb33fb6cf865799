-- The fault of a text of version 2 for which the first pass stops is the first of its tokens.
use Rattle.std.proofs.Common.{◌≡◌, ℕ, ◌<◌, ◌≤◌, Bool, true, false, not, List, [], ◌∷◌, ◌++◌, length}
use Rattle.std.proofs.Common.{Option, Some, None, Result, Ok, Err, refl, sym, ap}
use Rattle.std.proofs.Common.{subst, ◌∙◌, arith, codes}
use Rattle.std.specs.Prelude.{◌↔◌, nat_le, reverse}
use Rattle.std.proofs.lemmas.Bool.{leb-true, leb-false, le-leb, lt-ltb, ltb-true, and_parts, not-false}
use Rattle.std.proofs.lemmas.List.{append-nil, length-map}
use Rattle.program_text.specs.declared.fault.ReadKind.{ReadKind}
use Rattle.program_text.specs.declared.fault.ReadKind.TheVariants.{BadWord, BadNumber}
use Rattle.program_text.specs.declared.fault.ReadKind.TheVariants.{Unclosed, Unopened, TooDeep}
use Rattle.program_text.specs.declared.fault.ReadFault.{ReadFault}
use Rattle.loop_text.specs.declared.loop_place.LoopPlace.{LoopPlace}
use Rattle.loop_text.specs.declared.loop_place.LoopPlace.TheVariants.{Statement, GroupBrace}
use Rattle.loop_text.specs.declared.loop_place.LoopPlace.TheVariants.{ForBrace, Clause}
use Rattle.loop_text.specs.declared.loop_reader.LoopHead.{LoopHead}
use Rattle.loop_text.specs.declared.open_loops.LoopBlock.{LoopBlock}
use Rattle.program_text.specs.declared.limits.TheConstants.{MOST_NESTING}
use Rattle.program_text.specs.Tokens.{Token, texts}
use Rattle.task_program.specs.TokenCounts.{is_too_deep, open_braces}
use Rattle.program_text.specs.Words.{is_text, is_number, value_of}
use Rattle.loop_text.specs.Loops.{Tree}
use Rattle.loop_text.specs.OpenBlocks.{variables_of, brace_of}
use Rattle.loop_text.specs.FirstPass.{State, is_allowed, closes_nothing, is_number_too_large}
use Rattle.loop_text.specs.FirstPass.{nests_too_deep, place_fault, unless_fault, step}
use Rattle.loop_text.specs.LoopTokens.{form_fault}
use Rattle.loop_text.specs.FirstPass.{end_at, tree_or_fault, first_pass, after_header}
use Rattle.task_program.specs.FirstLoopFault.{IsLoopSentence}
use Rattle.task_program.specs.FirstFault.{IsViable, IsWrong, IsRight, EndsEarly, AreRightWhole}
use Rattle.task_program.specs.FirstFault.{IsFirstFault}
use Rattle.task_program.specs.FirstFault.IsMisplaced.{AfterWhole, Elsewhere}
use Rattle.task_program.specs.FirstFault.IsWrong.{ByItself, Misplaced, PastLimit}
use Rattle.task_program.specs.FirstFault.EndsEarly.{BlockOpen, Inside}
use Rattle.task_program.specs.FirstLoopFault.{loop_rules}
use Rattle.task_program.proofs.Machines.{Machine, WrongSo, EndsSo, refused, whole_read, read_whole}
use Rattle.task_program.proofs.FoundPlaces.{same_text}
use Rattle.task_program.proofs.FirstFaults.{fault_so}
use Rattle.task_program.proofs.Begun.{row_cases}
use Rattle.task_program.proofs.LoopContinued.{nothing_follows}
use Rattle.task_program.proofs.LoopPiecesSpelled.{sentence_of_pieces}
use Rattle.task_program.proofs.LoopShapes.{closes_none, fits_at, FollowsAt}
use Rattle.task_program.proofs.LoopAccepting.{is_whole, accepts_none, sentence_accepted}
use Rattle.task_program.proofs.LoopBegun.{variables_of_each, shape_of, brace_lines, LoopBegan}
use Rattle.task_program.proofs.LoopBegun.{closes_same, fits_of, unfit_close, unfit_word}
use Rattle.task_program.proofs.LoopBegun.{is_not_viable, viable_next, step_passes, step_begins}
use Rattle.task_program.proofs.LoopBegun.{Passed}
use Rattle.task_program.proofs.LoopMost.{LastNow, last_more, large_at, small_at}
use Rattle.task_program.proofs.LoopMost.{above_so, is_above, most_after}
use Rattle.program_text.proofs.Bools.{bool_cases}

-- ---- what is known where right tokens were read

room_left : (open_now : ℕ) → nat_le MOST_NESTING open_now ≡ false → MOST_NESTING ≤ open_now → ⊥
room_left open_now shallow deep =
    let fewer : open_now < MOST_NESTING = leb-false MOST_NESTING open_now shallow in
    absurd (omega (arith, fewer, deep))

blocks_open : (before : List Token) (state : State)
    → LoopBegan before state
    → length (open_braces before) ≡ length state.tree.blocks
blocks_open before state began =
    ap length began.braces_are
    ∙ length-map state.tree.blocks (λ (one : LoopBlock). brace_of one.opening)

-- a `{` that may come, and does not nest too deep for its place, has room
shallow_at : (place : LoopPlace) (head : LoopHead) (open_now : List LoopBlock)
    → nests_too_deep place open_now (codes "{") ≡ false
    → is_allowed place head open_now (codes "{") ≡ true
    → MOST_NESTING ≤ length open_now
    → ⊥
shallow_at GroupBrace head open_now shallow allowed deep = room_left (length open_now) shallow deep
shallow_at ForBrace head open_now shallow allowed deep = room_left (length open_now) shallow deep
shallow_at Clause head open_now shallow allowed deep = room_left (length open_now) shallow deep
shallow_at _ head open_now shallow allowed deep = absurd cc

-- what the grammar has there, and what the last tokens say of a number
record Counts (before : List Token) (state : State) : Type 0 where
  began : LoopBegan before state
  last : LastNow before state

is_above_so : (most : Option ℕ) (text : List ℕ)
    → is_above most text ≡ true
    → (n : ℕ) × (is_number text ≡ true) × (most ≡ Some n) × (n < value_of text)
is_above_so None text h = absurd cc
is_above_so (Some most) text h =
    let parts = and_parts (is_number text) _ h in
    (most, parts.0, refl, ltb-true most (value_of text) parts.1)

-- a number that is not too large for its place is none by the last tokens
not_large : (before : List Token) (state next : State) (token : Token)
    → Counts before state
    → Passed state next token
    → is_above (most_after (texts before)) token.text ≡ false
not_large before state next token c p =
    bool_cases (is_above (most_after (texts before)) token.text)
    (λ large. absurd (small_at state.place (reverse (texts before)) state.head state.tree.blocks
    token.text c.last p.allowed p.small (is_above_so (most_after (texts before)) token.text large)))
    (λ small. small)

not_deep : (before : List Token) (state next : State) (token : Token)
    → Counts before state
    → Passed state next token
    → is_too_deep MOST_NESTING (length (open_braces before)) token.text ≡ false
not_deep before state next token c p =
    bool_cases (is_too_deep MOST_NESTING (length (open_braces before)) token.text)
    (λ deep.
    let parts = and_parts (is_text token.text (codes "{")) _ deep in
    let text_is : token.text ≡ codes "{" = same_text token.text (codes "{") parts.0 in
    let many = leb-true MOST_NESTING (length (open_braces before)) parts.1 in
    absurd (shallow_at state.place state.head state.tree.blocks
    (subst (λ (t : List ℕ). nests_too_deep state.place state.tree.blocks t ≡ false) text_is
    p.shallow)
    (subst (λ (t : List ℕ). is_allowed state.place state.head state.tree.blocks t ≡ true) text_is
    p.allowed)
    (omega (arith, many, blocks_open before state c.began))))
    (λ shallow. shallow)

-- a token that is read is right
step_right : (before : List Token) (state next : State) (token : Token)
    → Counts before state
    → step state token ≡ Ok next
    → IsRight loop_rules before token.text
step_right before state next token c h =
    let passed = step_passes state next token h in
    record {
      formed = passed.formed;
      viable = viable_next before state token.text c.began
          (fits_of state token.text passed.unopened passed.allowed);
      within = rw (
        above_so (texts before) token.text,
        not_large before state next token c passed,
        not_deep before state next token c passed,
      )
          refl;
    }

counts_more : (before : List Token) (state next : State) (token : Token)
    → Counts before state
    → step state token ≡ Ok next
    → Counts (before ++ token ∷ []) next
counts_more before state next token c h =
    let passed = step_passes state next token h in
    record {
      began = step_begins before state next token c.began h;
      last = last_more before state token next c.last passed.allowed passed.next_is;
    }

-- ---- the fault of a token

-- a `}` that closes nothing comes after what is whole
closes_at : (place : LoopPlace) (has_if has_final : Bool) (x : List ℕ) (variables : List (List ℕ))
    (around : List (List (List ℕ))) (text : List ℕ)
    → closes_none place around text ≡ true → (text ≡ codes "}") × FollowsAt place has_if has_final x
    variables around []
closes_at Statement has_if has_final x variables [] text h =
    (same_text text (codes "}") h, nothing_follows has_if has_final x variables)
closes_at Statement has_if has_final x variables (outer ∷ around) text h = absurd cc
closes_at _ has_if has_final x variables around text h = absurd cc

whole_closes : (place : LoopPlace) (around : List (List (List ℕ))) (text : List ℕ)
    → is_whole place around ≡ true
    → text ≡ codes "}"
    → closes_none place around text ≡ true
whole_closes Statement [] text h text_is = rw text_is refl
whole_closes Statement (outer ∷ around) text h text_is = absurd cc
whole_closes _ around text h text_is = absurd cc

whole_now : (before : List Token) (state : State)
    → LoopBegan before state
    → IsLoopSentence (texts before)
    → is_whole state.place (variables_of_each state.tree.blocks) ≡ true
whole_now before state b s =
    accepts_none (shape_of state)
    (b.accepted [] (subst IsLoopSentence (sym (append-nil (texts before))) s))

abbrev DeepHere : List LoopBlock → List ℕ → Type 0
DeepHere open_now text = (text ≡ codes "{") × (MOST_NESTING ≤ length open_now)

deep_block : (place : LoopPlace) (head : LoopHead) (open_now : List LoopBlock) (text : List ℕ)
    → nests_too_deep place open_now text ≡ true
    → is_allowed place head open_now text ≡ true
    → DeepHere open_now text
deep_block GroupBrace head open_now text deep allowed =
    (same_text text (codes "{") allowed, leb-true MOST_NESTING (length open_now) deep)
deep_block ForBrace head open_now text deep allowed =
    (same_text text (codes "{") allowed, leb-true MOST_NESTING (length open_now) deep)
deep_block Clause head open_now text deep allowed = (
  same_text text (codes "{") (and_parts (is_text text (codes "{")) _ deep).0,
  leb-true MOST_NESTING (length open_now) (and_parts (is_text text (codes "{")) _ deep).1,
)
deep_block _ head open_now text deep allowed = absurd cc

is_large : (most : Option ℕ) (text : List ℕ)
    → (n : ℕ) × (is_number text ≡ true) × (most ≡ Some n) × (n < value_of text)
    → is_above most text ≡ true
is_large most text past = rw (past.2, past.1) (lt-ltb past.0 (value_of text) past.3)

is_no_number : (most : Option ℕ) (text : List ℕ)
    → is_number text ≡ false
    → is_above most text ≡ false
is_no_number None text number = refl
is_no_number (Some most) text number = rw number refl

is_deep : (before : List Token) (state : State) (text : List ℕ)
    → Counts before state
    → DeepHere state.tree.blocks text
    → is_too_deep MOST_NESTING (length (open_braces before)) text ≡ true
is_deep before state text c block =
    let many : MOST_NESTING ≤ length (open_braces before) =
    omega (arith, block.1, blocks_open before state c.began) in
    rw block.0 (le-leb MOST_NESTING (length (open_braces before)) many)

-- the fault of a token that is one by itself
at_place : (before : List Token) (state : State) (text : List ℕ) (kind : ReadKind)
    → Counts before state
    → form_fault text ≡ None
    → place_fault state text ≡ Some kind
    → IsWrong loop_rules before text kind
at_place before state text kind c formed h =
    let began = c.began in
    let shape = shape_of state in
    let closes_so : closes_nothing state.place state.tree.blocks text
    ≡ closes_none shape.place shape.around text =
    closes_same state.place state.tree.blocks text in
    row_cases (closes_nothing state.place state.tree.blocks text) Unopened kind _ h
    (λ closes same.
    let whole = closes_at shape.place shape.has_if shape.has_final shape.variable shape.variables
    shape.around text
    (sym closes_so ∙ closes) in
    let sentence : IsLoopSentence (texts before) = subst IsLoopSentence (append-nil (texts before))
    (began.follows [] whole.1) in
    subst (IsWrong loop_rules before text) same (Misplaced formed
    (is_not_viable before state text began (unfit_close state text closes))
    (AfterWhole sentence whole.0)))
    (λ unopened h1.
    row_cases (not (is_allowed state.place state.head state.tree.blocks text)) BadWord kind _ h1
    (λ bad same.
    let no_whole : IsLoopSentence (texts before) → text ≡ codes "}" → ⊥ =
    λ sentence text_is. absurd
    (let wrong : true
    ≡ false = sym (whole_closes shape.place shape.around text (whole_now before state began
    sentence) text_is)
    ∙ sym closes_so
    ∙ unopened in cc)
    in
    subst (IsWrong loop_rules before text) same (Misplaced formed
    (is_not_viable before state text began (unfit_word state text bad))
    (Elsewhere (omega arith) no_whole)))
    (λ allowed h2.
    let allowed_so : is_allowed state.place state.head state.tree.blocks text
    ≡ true = not-false _ allowed in
    let viable : IsViable IsLoopSentence (texts before ++ text ∷ []) =
    viable_next before state text began (fits_of state text unopened allowed_so) in
    row_cases (is_number_too_large state.place text) BadNumber kind _ h2
    (λ large same.
    let past = large_at state.place (reverse (texts before)) state.head state.tree.blocks text
    c.last allowed_so large in
    subst (IsWrong loop_rules before text) same (PastLimit formed viable
    (rw (above_so (texts before) text, is_large (most_after (texts before)) text past) refl)))
    (λ small h3. row_cases (nests_too_deep state.place state.tree.blocks text) TooDeep kind _ h3
    (λ deep same.
    let block = deep_block state.place state.head state.tree.blocks text deep allowed_so in
    let no_number : is_number text ≡ false = rw block.0 refl in
    subst (IsWrong loop_rules before text) same (PastLimit formed viable
    (rw (
      above_so (texts before) text,
      is_no_number (most_after (texts before)) text no_number,
      is_deep before state text c block,
    ) refl)))
    (λ shallow none. absurd cc))))

unless_err : {P : Type 0} (found : Option ReadKind) (line : ℕ) (after : Result State ReadFault)
    (fault : ReadFault)
    → unless_fault found line after ≡ Err fault
    → ((kind : ReadKind) → found ≡ Some kind → fault_so kind line ≡ fault → P)
    → (found ≡ None → after ≡ Err fault → P) → P
unless_err (Some kind) line after fault h here later = here kind refl cc
unless_err None line after fault h here later = later refl h

-- what a token is refused for is wrong with it
token_wrong : (before : List Token) (state : State) (token : Token) (fault : ReadFault)
    → Counts before state
    → step state token ≡ Err fault
    → WrongSo loop_rules before token fault
unfolding step
token_wrong before state token fault c h =
    unless_err (form_fault token.text) token.line _ fault h
    (λ kind form same. (kind, ByItself form, same))
    (λ form h1. unless_err (place_fault state token.text) token.line _ fault h1
    (λ kind place same. (kind, at_place before state token.text kind c form place, same))
    (λ none wrong. absurd cc))

-- ---- the end

-- a text that ends where it may not ends too early, as the definition says
end_by : (all : List Token) (place : LoopPlace) (has_if has_final : Bool)
    (variables : List (List ℕ))
    (open_now : List LoopBlock) (end_line : ℕ) (fault : ReadFault)
    → open_braces all ≡ brace_lines open_now
    → (fits_at place has_if has_final variables (variables_of_each open_now) (codes "}") ≡ true
    → IsViable IsLoopSentence (texts all ++ codes "}" ∷ []))
    → (fits_at place has_if has_final variables (variables_of_each open_now) (codes "}") ≡ false
    → IsViable IsLoopSentence (texts all ++ codes "}" ∷ []) → ⊥)
    → end_at place open_now end_line ≡ Some fault → EndsEarly loop_rules all end_line fault
end_by all Statement has_if has_final variables [] end_line fault braces can cannot h = absurd cc
end_by all Statement has_if has_final variables (block ∷ others) end_line fault braces can cannot h
    =
    let same : fault_so Unclosed (brace_of block.opening) ≡ fault = cc in
    subst (EndsEarly loop_rules all end_line) same
    (BlockOpen (brace_of block.opening) (brace_lines others) (can refl) braces)
end_by all _ has_if has_final variables open_now end_line fault braces can cannot h =
    let same : fault_so BadWord end_line ≡ fault = cc in
    subst (EndsEarly loop_rules all end_line) same (Inside (omega arith) (cannot refl))

whole_ends : (place : LoopPlace) (open_now : List LoopBlock) (line : ℕ) (fault : ReadFault)
    → is_whole place (variables_of_each open_now) ≡ true
    → end_at place open_now line ≡ Some fault
    → ⊥
whole_ends Statement [] line fault h g = absurd cc
whole_ends Statement (block ∷ others) line fault h g = absurd cc
whole_ends _ open_now line fault h g = absurd cc

ended_err : (found : Option ReadFault) (state : State) (fault : ReadFault)
    → tree_or_fault found state ≡ Err fault
    → found ≡ Some fault
ended_err (Some other) state fault h = cc
ended_err None state fault h = absurd cc

ended_ok : (place : LoopPlace) (has_if has_final : Bool) (x : List ℕ) (variables : List (List ℕ))
    (open_now : List LoopBlock) (line : ℕ) (state : State) (tree : Tree)
    → tree_or_fault (end_at place open_now line) state ≡ Ok tree
    → FollowsAt place has_if has_final x variables (variables_of_each open_now) []
ended_ok Statement has_if has_final x variables [] line state tree h = nothing_follows has_if
    has_final x variables
ended_ok Statement has_if has_final x variables (block ∷ others) line state tree h = absurd cc
ended_ok _ has_if has_final x variables open_now line state tree h = absurd cc

early_at : (all : List Token) (state : State) (end_line : ℕ) (fault : ReadFault)
    → Counts all state
    → end_at state.place state.tree.blocks end_line ≡ Some fault
    → EndsEarly loop_rules all end_line fault
early_at all state end_line fault c h =
    let shape = shape_of state in
    end_by all state.place shape.has_if shape.has_final shape.variables state.tree.blocks end_line
    fault
    c.began.braces_are (viable_next all state (codes "}") c.began)
    (is_not_viable all state (codes "}") c.began) h

-- a text that ends at a place where it may not is no sentence
no_sentence_at : (all : List Token) (state : State) (end_line : ℕ) (fault : ReadFault)
    → Counts all state
    → end_at state.place state.tree.blocks end_line ≡ Some fault
    → IsLoopSentence (texts all)
    → ⊥
no_sentence_at all state end_line fault c h sentence =
    whole_ends state.place state.tree.blocks end_line fault (whole_now all state c.began sentence) h

end_is : (state : State) (line : ℕ) (fault : ReadFault)
    → first_pass [] line state ≡ Err fault
    → end_at state.place state.tree.blocks line ≡ Some fault
unfolding first_pass
end_is state line fault h = ended_err (end_at state.place state.tree.blocks line) state fault h

sentence_of : (later : List (List ℕ))
    → FollowsAt Statement false false [] [] [] later
    → IsLoopSentence later
sentence_of later f = sentence_of_pieces later f

-- before the first token
at_start : Counts [] after_header
unfolding variables_of
at_start = record {
  began = record {
    follows = λ later f. sentence_of later f;
    accepted = λ later s. sentence_accepted later s;
    braces_are = refl;
  };
  last = refl;
}

-- ---- the whole

one_on : (token : Token) (later : List Token) (line : ℕ) (state next : State)
    → step state token ≡ Ok next
    → first_pass (token ∷ later) line state ≡ first_pass later line next
unfolding first_pass
one_on token later line state next h = rw h refl

one_stops : (token : Token) (later : List Token) (line : ℕ) (state : State) (fault : ReadFault)
    → step state token ≡ Err fault
    → first_pass (token ∷ later) line state ≡ Err fault
unfolding first_pass
one_stops token later line state fault h = rw h refl

whole_at : (all : List Token) (line : ℕ) (state : State) (tree : Tree)
    → Counts all state
    → first_pass [] line state ≡ Ok tree
    → IsLoopSentence (texts all)
unfolding first_pass
whole_at all line state tree c h =
    let shape = shape_of state in
    subst IsLoopSentence (append-nil (texts all)) (c.began.follows [] (ended_ok shape.place
    shape.has_if shape.has_final shape.variable shape.variables state.tree.blocks line state tree
    h))

ends_so : (all : List Token) (line : ℕ) (state : State) (fault : ReadFault)
    → Counts all state
    → first_pass [] line state ≡ Err fault
    → EndsSo loop_rules all line fault
ends_so all line state fault c h =
    let ended = end_is state line fault h in (
      λ sentence. no_sentence_at all state line fault c ended sentence,
      early_at all state line fault c ended,
    )

abbrev reading : Machine loop_rules State Tree
reading = record {
  start = after_header;
  step = step;
  read = first_pass;
  goes_on = one_on;
  stops = one_stops;
  Known = Counts;
  at_start = at_start;
  after = counts_more;
  right = step_right;
  wrong = token_wrong;
  whole = whole_at;
  early = ends_so;
}

-- after the header a sentence has no header
no_header : (texts : List (List ℕ)) → IsLoopSentence texts → 0 ≤ length texts
no_header texts s = omega arith

-- what the first pass refuses has this first fault, and no other
pub refused_so : (tokens : List Token) (line : ℕ) (fault : ReadFault)
    → (first_pass tokens line after_header ≡ Err fault) ↔ IsFirstFault loop_rules tokens line fault
refused_so tokens line fault = refused loop_rules reading no_header tokens line fault

-- what it reads is a sentence of right tokens
pub read_right : (tokens : List Token) (line : ℕ) (tree : Tree)
    → first_pass tokens line after_header ≡ Ok tree
    → AreRightWhole loop_rules tokens
read_right tokens line tree h = whole_read loop_rules reading tokens line tree h

-- and each such is read
pub right_read : (tokens : List Token) (line : ℕ)
    → AreRightWhole loop_rules tokens
    → (tree : Tree) × (first_pass tokens line after_header ≡ Ok tree)
right_read tokens line whole = read_whole loop_rules reading tokens line whole
