-- Pieces of an expansion, one part after another, whatever takes them.
use Rattle.std.proofs.Common.{◌≡◌, ◌<◌, List, [], ◌++◌, length, Result, Ok, Err, sym, ap, subst, ◌∙◌, arith}
use Rattle.program_text.specs.declared.fault.ReadFault.{ReadFault}
use Rattle.task_program.specs.Expansion.{Piece}
use Rattle.task_program.specs.Expanded.{ExpansionState}
use Rattle.task_program.specs.TreeSoFar.{Block}
use Rattle.task_program.specs.SecondPass.{PieceTest, take_pieces_by}
use Rattle.task_program.specs.Walks.{IsSomewhere, IsInside, LeadsOn, StopsAt, TakesSo}
use Rattle.task_program.proofs.Expanding.{no_pieces, in_turn_ok, in_turn_err, fails_with}

pub leads_none : (test : PieceTest) (P : ExpansionState → Type 0) → LeadsOn test [] P P
leads_none test P state here = (state, no_pieces test state, here)

pub leads_then : (test : PieceTest) (one other : List Piece) (P Q R : ExpansionState → Type 0)
    → LeadsOn test one P Q
    → LeadsOn test other Q R
    → LeadsOn test (one ++ other) P R
leads_then test one other P Q R h g state here =
    let first = h state here in
    let second = g first.0 first.2 in
    (second.0, in_turn_ok test state first.0 one other first.1 ∙ second.1, second.2)

-- where some pieces are refused, so are they with others behind them
pub stops_before : (test : PieceTest) (one other : List Piece) (P : ExpansionState → Type 0) (fault : ReadFault)
    → StopsAt test one P fault
    → StopsAt test (one ++ other) P fault
stops_before test one other P fault h state here =
    fails_with fault (take_pieces_by test state one) (take_pieces_by test state (one ++ other))
    (h state here) (λ is. in_turn_err test state fault one other is)

-- and where they are taken and those behind them refused, so are all
pub stops_then : (test : PieceTest) (one other : List Piece) (P Q : ExpansionState → Type 0) (fault : ReadFault)
    → LeadsOn test one P Q
    → StopsAt test other Q fault
    → StopsAt test (one ++ other) P fault
stops_then test one other P Q fault h g state here =
    let first = h state here in
    fails_with fault (take_pieces_by test first.0 other) (take_pieces_by test state (one ++ other))
    (g first.0 first.2) (λ is. in_turn_ok test state first.0 one other first.1 ∙ is)

pub takes_then : {X : Type 0} (test : PieceTest) (one other : List Piece) (P Q R : ExpansionState → Type 0)
    (answer : Result X ReadFault)
    → LeadsOn test one P Q
    → TakesSo test other Q R answer
    → TakesSo test (one ++ other) P R answer
takes_then test one other P Q R (Ok x) h g = leads_then test one other P Q R h g
takes_then test one other P Q R (Err fault) h g = stops_then test one other P Q fault h g

pub takes_these : {X : Type 0} (test : PieceTest) (one other : List Piece) (P Q : ExpansionState → Type 0)
    (answer : Result X ReadFault)
    → other ≡ one
    → TakesSo test one P Q answer
    → TakesSo test other P Q answer
takes_these test one other P Q answer same h =
    subst (λ (pieces : List Piece). TakesSo test pieces P Q answer) (sym same) h

pub leads_these : (test : PieceTest) (one other : List Piece) (P Q : ExpansionState → Type 0)
    → other ≡ one
    → LeadsOn test one P Q
    → LeadsOn test other P Q
leads_these test one other P Q same h =
    subst (λ (pieces : List Piece). LeadsOn test pieces P Q) (sym same) h

pub stops_these : (test : PieceTest) (one other : List Piece) (P : ExpansionState → Type 0) (fault : ReadFault)
    → other ≡ one
    → StopsAt test one P fault
    → StopsAt test other P fault
stops_these test one other P fault same h =
    subst (λ (pieces : List Piece). StopsAt test pieces P fault) (sym same) h

pub somewhere_then : (test : PieceTest) (pieces : List Piece) (P Q : ExpansionState → Type 0)
    → LeadsOn test pieces P Q
    → IsSomewhere P
    → IsSomewhere Q
somewhere_then test pieces P Q h here =
    let next = h here.0 here.1 in
    (next.0, next.2)

-- ---- the pieces that are left

-- to take all pieces is to take those that are left, from where it stands
abbrev pub LeadsTo : PieceTest → (all left : List Piece) → (before after : ExpansionState → Type 0) → Type 0
LeadsTo test all left before after =
    (state : ExpansionState) → before state
    → (middle : ExpansionState)
    × (take_pieces_by test state all ≡ take_pieces_by test middle left)
    × after middle

pub left_first : (test : PieceTest) (all left : List Piece) (P : ExpansionState → Type 0)
    → left ≡ all
    → LeadsTo test all left P P
left_first test all left P same state here =
    (state, ap (λ (pieces : List Piece). take_pieces_by test state pieces) (sym same), here)

pub left_stops : (test : PieceTest) (all left : List Piece) (P Q : ExpansionState → Type 0) (fault : ReadFault)
    → LeadsTo test all left P Q
    → StopsAt test left Q fault
    → StopsAt test all P fault
left_stops test all left P Q fault h g state here =
    let middle = h state here in
    fails_with fault (take_pieces_by test middle.0 left) (take_pieces_by test state all)
    (g middle.0 middle.2) (λ is. middle.1 ∙ is)

pub left_on : (test : PieceTest) (all left one later : List Piece) (P Q R : ExpansionState → Type 0)
    → LeadsTo test all left P Q
    → left ≡ one ++ later
    → LeadsOn test one Q R
    → LeadsTo test all later P R
left_on test all left one later P Q R h is g state here =
    let middle = h state here in
    let next = g middle.0 middle.2 in (
      next.0,
      middle.1
          ∙ ap (λ (pieces : List Piece). take_pieces_by test middle.0 pieces) is
          ∙ in_turn_ok test middle.0 next.0 one later next.1,
      next.2,
    )

pub left_none : (test : PieceTest) (all left : List Piece) (P Q : ExpansionState → Type 0)
    → LeadsTo test all left P Q
    → left ≡ []
    → LeadsOn test all P Q
left_none test all left P Q h none state here =
    let middle = h state here in (
      middle.0,
      middle.1
          ∙ ap (λ (pieces : List Piece). take_pieces_by test middle.0 pieces) none
          ∙ no_pieces test middle.0,
      middle.2,
    )

pub left_somewhere : (test : PieceTest) (all left : List Piece) (P Q : ExpansionState → Type 0)
    → LeadsTo test all left P Q
    → IsSomewhere P
    → IsSomewhere Q
left_somewhere test all left P Q h here =
    let middle = h here.0 here.1 in
    (middle.0, middle.2)

-- ---- inside a block

-- behind what opens a block and what keeps the open blocks it is inside of one
pub inside_after : (test : PieceTest) (front body : List Piece)
    (P Q R : ExpansionState → Type 0)
    → ((state next : ExpansionState) → take_pieces_by test state front ≡ Ok next
    → 0 < length next.tree.blocks)
    → ((state next : ExpansionState) → take_pieces_by test state body ≡ Ok next
    → next.tree.blocks ≡ state.tree.blocks)
    → LeadsOn test front P Q
    → LeadsOn test body Q R
    → IsSomewhere P
    → IsInside R
inside_after test front body P Q R opened kept h g here =
    let first = h here.0 here.1 in
    let second = g first.0 first.2 in
    let same = ap (λ (bs : List Block). length bs) (kept first.0 second.0 second.1) in (
      second.0,
      second.2,
      omega (arith, same, opened here.0 first.0 first.1),
    )
