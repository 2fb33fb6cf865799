-- A text in which nothing is wrong has a tree.
use Rattle.std.proofs.Common.{◌≡◌, ℕ, List, [], ◌∷◌, Option, Some, None, Result, Ok}
use Rattle.std.proofs.Common.{Err, refl, sym, ap, subst, ◌+◌, ◌++◌, ◌∙◌, ◌⊎◌, inl, inr, arith, length}
use Rattle.program_text.specs.declared.fault.ReadFault.{ReadFault}
use Rattle.program_text.specs.Limits.{work_of}
use Rattle.program_text.specs.Marks.{Mark}
use Rattle.program_text.specs.Tokens.{Token, texts}
use Rattle.task_program.specs.FirstFault.{IsRight}
use Rattle.task_program.specs.Faults.{State, start, end_at}
use Rattle.task_program.specs.FirstPlainFault.{IsSentence}
use Rattle.task_program.proofs.FirstFaults.{HasHeader}
use Rattle.task_program.proofs.Machines.{Machine, WrongSo, EndsSo, ends_whole, refused, whole_read}
use Rattle.large_text.specs.LargeFaults.{items_coming}
use Rattle.large_text.specs.LargeReading.{large_step}
use Rattle.large_text.specs.LargeTrees.{HasLargeTree, large_rules, IsLargeRightWhole}
use Rattle.large_text.specs.LargeTrees.{IsLargeFirstFault}
use Rattle.large_text.proofs.Sound.{IsBehind}
use Rattle.large_text.proofs.Steps.{passed}
use Rattle.large_text.proofs.Items.{AreCounted}
use Rattle.large_text.proofs.SoFar.{right_more, behind_more, counted_so}
use Rattle.large_text.proofs.Refused.{token_wrong}
use Rattle.large_text.proofs.Ended.{is_whole, ends_so}
use Rattle.large_text.proofs.Taken.{behind_start}

-- ---- reading a list of tokens

-- a state, and the depend items so far
record Reading : Type 0 where
  state : State
  all_items : ℕ

abbrev then_go : Result State ReadFault → (all_items : ℕ) → Result Reading ReadFault
then_go (Ok state) all_items = Ok (record { state = state; all_items = all_items })
then_go (Err fault) all_items = Err fault

abbrev told : Reading → Token → Result State ReadFault
told now token =
    large_step (work_of now.state.tree.marks) now.all_items now.state token

abbrev step : Reading → Token → Result Reading ReadFault
step now token = then_go (told now token) (now.all_items + items_coming now.state.place)

abbrev state_or_fault : Option ReadFault → State → Result State ReadFault
state_or_fault None state = Ok state
state_or_fault (Some fault) state = Err fault

abbrev then_read : Result Reading ReadFault → (Reading → Result State ReadFault)
    → Result State ReadFault
then_read (Ok next) later = later next
then_read (Err fault) later = Err fault

-- the state behind these tokens, where the text may end there, on this line
read : List Token → ℕ → Reading → Result State ReadFault
read [] line now = state_or_fault (end_at now.state.place now.state.tree.blocks line) now.state
read (token ∷ tokens) line now = then_read (step now token) (λ next. read tokens line next)

one_on : (token : Token) (later : List Token) (line : ℕ) (now next : Reading)
    → step now token ≡ Ok next
    → read (token ∷ later) line now ≡ read later line next
unfolding read
one_on token later line now next h = rw h refl

one_stops : (token : Token) (later : List Token) (line : ℕ) (now : Reading) (fault : ReadFault)
    → step now token ≡ Err fault
    → read (token ∷ later) line now ≡ Err fault
unfolding read
one_stops token later line now fault h = rw h refl

went_on : (result : Result State ReadFault) (all_items : ℕ) (next : Reading)
    → then_go result all_items ≡ Ok next
    → (result ≡ Ok next.state) × (next.all_items ≡ all_items)
went_on (Ok state) all_items next h =
    let same : record { state = state; all_items = all_items } ≡ next = cc in
    (ap (λ (r : Reading). Ok r.state) same, sym (ap (λ (r : Reading). r.all_items) same))
went_on (Err fault) all_items next h = absurd cc

stopped : (result : Result State ReadFault) (all_items : ℕ) (fault : ReadFault)
    → then_go result all_items ≡ Err fault
    → result ≡ Err fault
stopped (Ok state) all_items fault h = absurd cc
stopped (Err other) all_items fault h = cc

ended_ok : (found : Option ReadFault) (state end : State)
    → state_or_fault found state ≡ Ok end
    → (found ≡ None) × (state ≡ end)
ended_ok None state end h = (refl, cc)
ended_ok (Some fault) state end h = absurd cc

ended_err : (found : Option ReadFault) (state : State) (fault : ReadFault)
    → state_or_fault found state ≡ Err fault
    → found ≡ Some fault
ended_err None state fault h = absurd cc
ended_err (Some other) state fault h = cc

-- what is known of it behind these tokens
abbrev Known : List Token → Reading → Type 0
Known tokens now = IsBehind tokens now.state × AreCounted tokens now.state.place now.all_items

at_start : Known [] (record { state = start; all_items = 0 })
at_start = (behind_start, refl)

right_at : (before : List Token) (now next : Reading) (token : Token)
    → Known before now
    → step now token ≡ Ok next
    → IsRight large_rules before token.text
right_at before now next token known h =
    let work = work_of now.state.tree.marks in
    let on = went_on (told now token) (now.all_items + items_coming now.state.place) next h in
    right_more before work now.all_items now.state next.state token known.0 refl known.1
    (passed work now.all_items now.state token next.state on.0)

after : (before : List Token) (now next : Reading) (token : Token)
    → Known before now
    → step now token ≡ Ok next
    → Known (before ++ token ∷ []) next
after before now next token known h =
    let work = work_of now.state.tree.marks in
    let on = went_on (told now token) (now.all_items + items_coming now.state.place) next h in
    let p = passed work now.all_items now.state token next.state on.0 in (
      behind_more before work now.all_items now.state next.state token known.0 p,
      subst (AreCounted (before ++ token ∷ []) next.state.place) (sym on.1)
          (counted_so before work now.all_items now.state next.state token known.0 known.1 p),
    )

wrong_at : (before : List Token) (now : Reading) (token : Token) (fault : ReadFault)
    → Known before now
    → step now token ≡ Err fault
    → WrongSo large_rules before token fault
wrong_at before now token fault known h =
    token_wrong before (work_of now.state.tree.marks) now.all_items now.state token fault known.0 refl
    known.1 (stopped (told now token) (now.all_items + items_coming now.state.place) fault h)

whole : (all : List Token) (line : ℕ) (now : Reading) (end : State)
    → Known all now
    → read [] line now ≡ Ok end
    → IsSentence (texts all)
unfolding read
whole all line now end known h =
    let state = now.state in
    (is_whole all state line known.0
    (ended_ok (end_at state.place state.tree.blocks line) state end h).0).1

early : (all : List Token) (line : ℕ) (now : Reading) (fault : ReadFault)
    → Known all now
    → read [] line now ≡ Err fault
    → EndsSo large_rules all line fault
unfolding read
early all line now fault known h =
    let state = now.state in
    ends_so all state line fault known.0
    (ended_err (end_at state.place state.tree.blocks line) state fault h)

abbrev reading : Machine large_rules Reading State
reading = record {
  start = record { state = start; all_items = 0 };
  step = step;
  read = read;
  goes_on = one_on;
  stops = one_stops;
  Known = Known;
  at_start = at_start;
  after = after;
  right = right_at;
  wrong = wrong_at;
  whole = whole;
  early = early;
}

-- ---- the tree

tree_at : (all : List Token) (line : ℕ) (now : Reading) (end : State)
    → Known all now
    → read [] line now ≡ Ok end
    → HasLargeTree (texts all) now.state.tree.marks
unfolding read
tree_at all line now end known h =
    let state = now.state in
    (is_whole all state line known.0
    (ended_ok (end_at state.place state.tree.blocks line) state end h).0).0.tree

-- a text without a fault has a tree
pub has_tree : (tokens : List Token)
    → IsLargeRightWhole tokens
    → (marks : List Mark) × HasLargeTree (texts tokens) marks
has_tree tokens w =
    let ends = ends_whole large_rules reading tokens 0 w in
    (ends.0.state.tree.marks, tree_at tokens 0 ends.0 ends.2 ends.1 ends.3)

-- ---- the first fault

-- a sentence has the whole header
has_header : HasHeader large_rules
has_header words s = omega (arith, ap (λ (ts : List (List ℕ)). length ts) s.spelled)

abbrev read_all : List Token → ℕ → Result State ReadFault
read_all tokens line = read tokens line (record { state = start; all_items = 0 })

-- a text is without a fault or has a first one
pub right_or_fault : (tokens : List Token) (line : ℕ)
    → IsLargeRightWhole tokens ⊎ ((fault : ReadFault) × IsLargeFirstFault tokens line fault)
right_or_fault tokens line = by (read_all tokens line) refl
  where
    by : (result : Result State ReadFault) → read_all tokens line ≡ result
        → IsLargeRightWhole tokens ⊎ ((fault : ReadFault) × IsLargeFirstFault tokens line fault)
    by (Ok state) h = inl (whole_read large_rules reading tokens line state h)
    by (Err fault) h = inr (fault, (refused large_rules reading has_header tokens line fault).0 h)

-- and has no other
pub one_fault : (tokens : List Token) (line : ℕ) (one other : ReadFault)
    → IsLargeFirstFault tokens line one
    → IsLargeFirstFault tokens line other
    → one ≡ other
one_fault tokens line one other h k =
    let first = (refused large_rules reading has_header tokens line one).1 h in
    let second = (refused large_rules reading has_header tokens line other).1 k in
    let both : Err one ≡ Err other = sym first ∙ second in
    cc
