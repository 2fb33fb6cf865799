-- Names stay few, piece by piece.
use Rattle.std.proofs.Common.{◌≡◌, ◌+◌, ◌<◌, List, [], ◌∷◌, ◌++◌, length, length-append}
use Rattle.std.proofs.Common.{None, Ok, Err, Result, refl, sym, ap, subst, ◌∙◌, arith}
use Rattle.std.specs.Prelude.{nat_le, false, OnOk}
use Rattle.std.proofs.lemmas.Bool.{leb-false}
use Rattle.program_text.specs.declared.statement.Item.{Item}
use Rattle.program_text.specs.Marks.Mark.{Begins}
use Rattle.program_text.specs.Limits.{tasks_begun}
use Rattle.program_text.specs.declared.limits.TheConstants.{MOST_ITEMS}
use Rattle.task_program.specs.Names.{number_of_name}
use Rattle.task_program.specs.Expansion.{Piece}
use Rattle.task_program.specs.Expansion.Piece.{TurnBegins, TaskComes, ItemComes, TaskOpens}
use Rattle.task_program.specs.Expansion.Piece.{GroupComes}
use Rattle.task_program.specs.SecondPass.{take_piece, take_pieces}
use Rattle.task_program.specs.PieceFaults.{fault_of}
use Rattle.task_program.specs.Expanded.{ExpansionState, after_piece}
use Rattle.task_program.specs.FewNames.{HasFewNames, IsAt}
use Rattle.task_program.specs.Walks.{IsSomewhere, IsInside, TakesSo}
use Rattle.program_text.specs.Answers.{Fails, Gives}
use Rattle.program_text.specs.declared.fault.ReadFault.{ReadFault}
use Rattle.task_program.proofs.Expanding.{one_piece}
use Rattle.task_program.proofs.Blocks.{blocks_kept}
use Rattle.loop_text.specs.Loops.{Tree}
use Rattle.task_program.specs.Expansion.{expansion}
use Rattle.task_program.proofs.Allowed.{below_piece, weighs}
use Rattle.task_program.proofs.Keeping.{with_one, one_name_more}
use Rattle.task_program.proofs.KeptNames.{take_pieces_first, at_end, not_first, is_fault}

-- a piece with no fault keeps the names few
few_piece : (state : ExpansionState) (piece : Piece)
    → fault_of state piece ≡ None
    → HasFewNames state
    → HasFewNames (after_piece state piece)
few_piece state (TurnBegins line) none h = record { items = h.items; names = h.names }
few_piece state (TaskComes line) none h = h
few_piece state (ItemComes place) none h =
    let room : length state.items < MOST_ITEMS = leb-false MOST_ITEMS (length state.items)
    (not_first (nat_le MOST_ITEMS (length state.items)) _ _ none (is_fault _ place.line)).0 in
    let item : Item = record {
      kind = place.kind;
      name = number_of_name state.names place.location;
    } in
    let one : length (state.items ++ item ∷ []) ≡ length state.items + 1 =
    length-append state.items (item ∷ []) in
    let names_are = h.names in
    record {
      items = omega (arith, room, one);
      names = omega (arith, one, names_are, one_name_more state.names place.location);
    }
few_piece state (TaskOpens undeferred line) none h =
    let tasks = with_one tasks_begun state.tree.marks (Begins undeferred state.items) in
    let names_are = h.names in
    let items_are = h.items in
    record { items = omega arith; names = omega (arith, tasks, names_are, items_are) }
few_piece state (GroupComes line) none h = h
few_piece state piece none h =
    let tasks = weighs tasks_begun state _ (below_piece state piece) in
    let names_are = h.names in
    record { items = h.items; names = omega (arith, tasks, names_are) }

pub few_pieces : (pieces : List Piece) (state next : ExpansionState)
    → take_pieces state pieces ≡ Ok next
    → HasFewNames state
    → HasFewNames next
few_pieces [] state next taken h = subst HasFewNames (at_end fault_of state next taken) h
few_pieces (piece ∷ pieces) state next taken h =
    let one = take_pieces_first fault_of state next piece pieces taken in
    few_pieces pieces (after_piece state piece) next one.1 (few_piece state piece one.0 h)

-- ---- what stands at its state

abbrev ok_so : ExpansionState → Result ExpansionState ReadFault
ok_so state = Ok state

pub given_so : {X : Type 0} (pieces : List Piece) (here after : ExpansionState)
    (answer : Result X ReadFault)
    → Gives (λ _. after) answer (take_pieces here pieces)
    → TakesSo fault_of pieces (IsAt here) (IsAt after) answer
given_so pieces here after (Ok x) h = λ state same. (
  after,
  ap (λ (s : ExpansionState). take_pieces s pieces) (sym same.0) ∙ h,
  (refl, few_pieces pieces here after h same.1),
)
given_so pieces here after (Err fault) h = λ state same.
    subst (λ (s : ExpansionState). Fails fault (take_pieces s pieces)) same.0 h

pub given_one : {X : Type 0} (piece : Piece) (here after : ExpansionState)
    (answer : Result X ReadFault)
    → Gives (λ _. after) answer (take_piece here piece)
    → TakesSo fault_of (piece ∷ []) (IsAt here) (IsAt after) answer
given_one piece here after answer h =
    given_so (piece ∷ []) here after answer
    (subst (λ (read : Result ExpansionState ReadFault). Gives (λ _. after) answer read)
    (sym (one_piece fault_of here piece)) h)

-- and the other way
pub so_given : {X : Type 0} (pieces : List Piece) (here after : ExpansionState)
    (answer : Result X ReadFault)
    → HasFewNames here
    → TakesSo fault_of pieces (IsAt here) (IsAt after) answer
    → Gives (λ _. after) answer (take_pieces here pieces)
so_given pieces here after (Ok x) few h =
    let next = h here (refl, few) in
    next.1 ∙ ap (λ (s : ExpansionState). ok_so s) (sym next.2.0)
so_given pieces here after (Err fault) few h = h here (refl, few)

pub few_there : (here : ExpansionState) → IsSomewhere (IsAt here) → HasFewNames here
few_there here some = some.1.1

pub inside_there : (here : ExpansionState) → IsInside (IsAt here) → 0 < length here.tree.blocks
inside_there here some =
    let same = ap (λ (s : ExpansionState). length s.tree.blocks) some.1.0 in
    omega (arith, same, some.2)

pub somewhere : (here : ExpansionState) → HasFewNames here → IsSomewhere (IsAt here)
somewhere here few = (here, (refl, few))

pub same_blocks : {X : Type 0} (tree : Tree) (here after : ExpansionState) (answer : Result X ReadFault)
    → Gives (λ _. after) answer (take_pieces here (expansion [] false tree))
    → OnOk answer (after.tree.blocks ≡ here.tree.blocks)
same_blocks tree here after (Ok x) h = blocks_kept fault_of [] false tree here after h
same_blocks tree here after (Err fault) h = tt
