use Rattle.std.proofs.Common.{length, ◌∙◌, ◌∷◌, ◌≤◌, ◌<◌, ◌||◌, [], reverse, refl, ap, arith, List, ℕ}
use Rattle.std.proofs.lemmas.Result.{err_from_is_err_and}
use Rattle.task_program.specs.Expansion.{expansion}
use Rattle.task_program.specs.Expansion.Piece.{TurnBegins}
use Rattle.loop_text.specs.LoopsSeen.{tree_of}
use Rattle.task_program.proofs.Blocks.{blocks_kept, in_group, in_task}
use Rattle.task_program.proofs.Leading.{leads_none, leads_then, stops_before, stops_then, takes_then}
use Rattle.task_program.proofs.Leading.{takes_these, leads_these, stops_these, somewhere_then}
use Rattle.task_program.proofs.Leading.{left_first, left_stops, left_on, left_none}
use Rattle.task_program.proofs.Leading.{left_somewhere, inside_after}
use Rattle.task_program.proofs.Turns.{more_statements, all_statements, all_taken, no_statement}
use Rattle.task_program.proofs.Turns.{size_of_one_among, group_size, task_size, for_size, work_is}
use Rattle.task_program.proofs.Turns.{wait_is, group_is, task_is, for_is, turn_is, no_turn}
use Rattle.task_program.proofs.Turns.{turns_left, reverse_of_pushed, take_of_popped}
use Rattle.task_program.proofs.walk.+expanding.Goals as goal

pub expand-statements-init : goal.expand-statements-init
expand-statements-init g t c = record {
  so_far = leads_these g.T.TakesPieces.test [] _ (g.T.TakesPieces.stands_at c.args.taker.now)
      (g.T.TakesPieces.stands_at c.args.taker.now)
      (no_statement (reverse c.args.values.now.items) c.args.in_final)
      (leads_none g.T.TakesPieces.test (g.T.TakesPieces.stands_at c.args.taker.now));
  values = refl;
}

pub expand-expand_one-requires : goal.expand-expand_one-requires
expand-expand_one-requires g t c κs within =
    let fits = size_of_one_among c.args.statements.now c.statements.statement-index
    c.statement-item.result _ c.statements-test.true c.statement-item.is in (
      omega (arith, fits, c.decreases),
      (
        within,
        somewhere_then g.T.TakesPieces.test _ (g.T.TakesPieces.stands_at c.args.taker.now)
            (g.T.TakesPieces.stands_at c.statements.taker) c.statements.invariant.so_far
            c.requires,
      ),
    )

pub expand-returns-in_err-expand_one-clause-takes :
    goal.expand-returns-in_err-expand_one-clause-takes
expand-returns-in_err-expand_one-clause-takes g t c =
    let fault = c.in_err-expand_one.field-0.0 in
    let values_are = ap (λ (vs : List ℕ). reverse vs) c.statements.invariant.values in
    let all = all_statements (reverse c.args.values.now.items) _ c.args.in_final c.args.statements.now
    c.statements.statement-index c.statement-item.result _ c.statements-test.true
    c.statement-item.is values_are in
    let fails_so = stops_these g.T.TakesPieces.test _ _ (g.T.TakesPieces.stands_at c.args.taker.now) fault all.1
    (stops_then g.T.TakesPieces.test _ _ (g.T.TakesPieces.stands_at c.args.taker.now)
    (g.T.TakesPieces.stands_at c.statements.taker) fault c.statements.invariant.so_far
    (stops_before g.T.TakesPieces.test _ all.0 (g.T.TakesPieces.stands_at c.statements.taker) fault
    c.in_err-expand_one.ensures.takes)) in
    let passed_on = err_from_is_err_and c.from_residual.result c.from_residual.ensures.1 in
    rw (passed_on.1, passed_on.2) fails_so

pub expand-statements-preserved : goal.expand-statements-preserved
expand-statements-preserved g t c =
    let stands_at = g.T.TakesPieces.stands_at in
    let values_are = ap (λ (vs : List ℕ). reverse vs) c.statements.invariant.values in
    record {
      so_far = leads_these g.T.TakesPieces.test _ _ (stands_at c.args.taker.now)
          (stands_at c.expand_one.new.taker)
          (more_statements (reverse c.args.values.now.items) _ c.args.in_final
          c.args.statements.now c.statements.statement-index c.statement-item.result _
          c.statements-test.true c.statement-item.is values_are)
          (leads_then g.T.TakesPieces.test _ _ (stands_at c.args.taker.now)
          (stands_at c.statements.taker) (stands_at c.expand_one.new.taker)
          c.statements.invariant.so_far c.in_ok-expand_one.ensures.takes);
      values = c.in_ok-expand_one.ensures.values ∙ c.statements.invariant.values;
    }

pub expand-returns-clause-takes : goal.expand-returns-clause-takes
expand-returns-clause-takes g t c =
    leads_these g.T.TakesPieces.test _ _ (g.T.TakesPieces.stands_at c.args.taker.now)
    (g.T.TakesPieces.stands_at c.statements.taker)
    (all_taken (reverse c.args.values.now.items) c.args.in_final c.args.statements.now
    c.statements.statement-index c.statements-test.false)
    c.statements.invariant.so_far

pub expand-returns-clause-values : goal.expand-returns-clause-values
expand-returns-clause-values g t c = c.statements.invariant.values

pub expand_one-returns-in_err-group-in-Group-clause-takes :
    goal.expand_one-returns-in_err-group-in-Group-clause-takes
expand_one-returns-in_err-group-in-Group-clause-takes g t c =
    let fault = c.in_err-group-in-Group.field-0.0 in
    let pieces = group_is (reverse c.args.values.now.items) c.args.in_final c.args.statement.now _ _ c.in-Group.body
    c.in-Group.body c.in-Group.is refl in
    let fails_so = stops_these g.T.TakesPieces.test _ _ (g.T.TakesPieces.stands_at c.args.taker.now) fault pieces
    (stops_before g.T.TakesPieces.test _ _ (g.T.TakesPieces.stands_at c.args.taker.now) fault
    c.in_err-group-in-Group.ensures) in
    let passed_on = err_from_is_err_and c.from_residual.result c.from_residual.ensures.1 in
    rw (passed_on.1, passed_on.2) fails_so

pub expand_one-expand-requires : goal.expand_one-expand-requires
expand_one-expand-requires g t c κs within =
    let size = group_size c.args.statement.now _ _ _ _ c.in-Group.is c.as_slice.ensures in (
      omega (arith, size, c.decreases),
      (
        within,
        somewhere_then g.T.TakesPieces.test _ (g.T.TakesPieces.stands_at c.args.taker.now)
            (g.T.TakesPieces.stands_at c.group.new.self) c.in_ok-group-in-Group.ensures c.requires,
      ),
    )

pub expand_one-returns-in_err-expand-in-Group-clause-takes :
    goal.expand_one-returns-in_err-expand-in-Group-clause-takes
expand_one-returns-in_err-expand-in-Group-clause-takes g t c =
    let fault = c.in_err-expand-in-Group.field-0.0 in
    let pieces = group_is (reverse c.args.values.now.items) c.args.in_final c.args.statement.now _ _ _ _ c.in-Group.is
    c.as_slice.ensures in
    let fails_so = stops_these g.T.TakesPieces.test _ _ (g.T.TakesPieces.stands_at c.args.taker.now) fault pieces
    (stops_then g.T.TakesPieces.test _ _ (g.T.TakesPieces.stands_at c.args.taker.now)
    (g.T.TakesPieces.stands_at c.group.new.self) fault c.in_ok-group-in-Group.ensures
    (stops_before g.T.TakesPieces.test _ _ (g.T.TakesPieces.stands_at c.group.new.self) fault
    c.in_err-expand-in-Group.ensures.takes)) in
    let passed_on = err_from_is_err_and c.from_residual-in_err-expand-in-Group.result c.from_residual-in_err-expand-in-Group.ensures.1 in
    rw (passed_on.1, passed_on.2) fails_so

pub expand_one-close-requires : goal.expand_one-close-requires
expand_one-close-requires g t c =
    inside_after g.T.TakesPieces.test _ _ (g.T.TakesPieces.stands_at c.args.taker.now)
    (g.T.TakesPieces.stands_at c.group.new.self) (g.T.TakesPieces.stands_at c.expand.new.taker)
    (λ state next taken. in_group g.T.TakesPieces.test _ _ state next taken)
    (λ state next taken. blocks_kept g.T.TakesPieces.test (reverse c.args.values.now.items) c.args.in_final _ state next
    taken)
    c.in_ok-group-in-Group.ensures c.in_ok-expand-in-Group.ensures.takes c.requires

pub expand_one-returns-in_err-task-in-Task-clause-takes :
    goal.expand_one-returns-in_err-task-in-Task-clause-takes
expand_one-returns-in_err-task-in-Task-clause-takes g t c =
    let fault = c.in_err-task-in-Task.field-0.0 in
    let values_are = ap (λ (vs : List ℕ). reverse vs) c.as_slice-in-Task.ensures.value in
    let pieces = task_is (reverse c.args.values.now.items) _ c.args.in_final
    (c.in-Task.task.is_final || c.args.in_final) c.args.statement.now _ c.in-Task.body
    c.in-Task.body c.in-Task.is refl refl values_are in
    let fails_so = stops_these g.T.TakesPieces.test _ _ (g.T.TakesPieces.stands_at c.args.taker.now) fault pieces
    (stops_before g.T.TakesPieces.test _ _ (g.T.TakesPieces.stands_at c.args.taker.now) fault c.in_err-task-in-Task.ensures) in
    let passed_on = err_from_is_err_and c.from_residual-in_err-task-in-Task.result c.from_residual-in_err-task-in-Task.ensures.1 in
    rw (passed_on.1, passed_on.2) fails_so

pub expand_one-expand-requires-in-Task : goal.expand_one-expand-requires-in-Task
expand_one-expand-requires-in-Task g t c κs within =
    let size = task_size c.args.statement.now _ _ _ c.in-Task.is c.as_slice-in-Task-2.ensures in (
      omega (arith, size, c.decreases),
      (
        within,
        somewhere_then g.T.TakesPieces.test _ (g.T.TakesPieces.stands_at c.args.taker.now)
            (g.T.TakesPieces.stands_at c.task.new.self) c.in_ok-task-in-Task.ensures c.requires,
      ),
    )

pub expand_one-returns-in_err-expand-in-Task-clause-takes :
    goal.expand_one-returns-in_err-expand-in-Task-clause-takes
expand_one-returns-in_err-expand-in-Task-clause-takes g t c =
    let fault = c.in_err-expand-in-Task.field-0.0 in
    let values_are = ap (λ (vs : List ℕ). reverse vs) c.as_slice-in-Task.ensures.value in
    let pieces = task_is (reverse c.args.values.now.items) _ c.args.in_final c.is_either.result c.args.statement.now _ _ _
    c.in-Task.is c.as_slice-in-Task-2.ensures c.is_either.ensures values_are in
    let fails_so = stops_these g.T.TakesPieces.test _ _ (g.T.TakesPieces.stands_at c.args.taker.now) fault pieces
    (stops_then g.T.TakesPieces.test _ _ (g.T.TakesPieces.stands_at c.args.taker.now)
    (g.T.TakesPieces.stands_at c.task.new.self) fault c.in_ok-task-in-Task.ensures
    (stops_before g.T.TakesPieces.test _ _ (g.T.TakesPieces.stands_at c.task.new.self) fault
    c.in_err-expand-in-Task.ensures.takes)) in
    let passed_on = err_from_is_err_and c.from_residual-in_err-expand-in-Task.result c.from_residual-in_err-expand-in-Task.ensures.1 in
    rw (passed_on.1, passed_on.2) fails_so

pub expand_one-close-requires-in-Task : goal.expand_one-close-requires-in-Task
expand_one-close-requires-in-Task g t c =
    inside_after g.T.TakesPieces.test _ _ (g.T.TakesPieces.stands_at c.args.taker.now)
    (g.T.TakesPieces.stands_at c.task.new.self) (g.T.TakesPieces.stands_at c.expand-in-Task.new.taker)
    (λ state next taken. in_task g.T.TakesPieces.test _ c.args.in_final c.in-Task.task state next taken)
    (λ state next taken. blocks_kept g.T.TakesPieces.test (reverse c.args.values.now.items) c.is_either.result _ state next
    taken)
    c.in_ok-task-in-Task.ensures c.in_ok-expand-in-Task.ensures.takes c.requires

pub expand_one-expand_turns-requires : goal.expand_one-expand_turns-requires
expand_one-expand_turns-requires g t c κs within =
    let size = for_size c.args.statement.now _ _ _ _ _ c.in-For.is c.as_slice-in-For.ensures in
    (omega (arith, size, c.decreases), (within, c.requires))

pub expand_one-returns-in-Work-clause-takes : goal.expand_one-returns-in-Work-clause-takes
expand_one-returns-in-Work-clause-takes g t c =
    takes_these g.T.TakesPieces.test _ _ (g.T.TakesPieces.stands_at c.args.taker.now)
    (g.T.TakesPieces.stands_at c.work.new.self) c.work.result
    (work_is (reverse c.args.values.now.items) c.args.in_final c.args.statement.now _ _ c.in-Work.is)
    c.work.ensures

pub expand_one-returns-in-Wait-clause-takes : goal.expand_one-returns-in-Wait-clause-takes
expand_one-returns-in-Wait-clause-takes g t c =
    takes_these g.T.TakesPieces.test _ _ (g.T.TakesPieces.stands_at c.args.taker.now)
    (g.T.TakesPieces.stands_at c.wait.new.self) c.wait.result
    (wait_is (reverse c.args.values.now.items) c.args.in_final c.args.statement.now _ c.in-Wait.is)
    c.wait.ensures

pub expand_one-returns-in_ok-expand-in-Group-clause-takes :
    goal.expand_one-returns-in_ok-expand-in-Group-clause-takes
expand_one-returns-in_ok-expand-in-Group-clause-takes g t c =
    let pieces = group_is (reverse c.args.values.now.items) c.args.in_final c.args.statement.now _ _ _ _ c.in-Group.is
    c.as_slice.ensures in
    takes_these g.T.TakesPieces.test _ _ (g.T.TakesPieces.stands_at c.args.taker.now)
    (g.T.TakesPieces.stands_at c.close.new.self) c.close.result pieces
    (takes_then g.T.TakesPieces.test _ _ (g.T.TakesPieces.stands_at c.args.taker.now) (g.T.TakesPieces.stands_at c.group.new.self)
    (g.T.TakesPieces.stands_at c.close.new.self) c.close.result c.in_ok-group-in-Group.ensures
    (takes_then g.T.TakesPieces.test _ _ (g.T.TakesPieces.stands_at c.group.new.self)
    (g.T.TakesPieces.stands_at c.expand.new.taker) (g.T.TakesPieces.stands_at c.close.new.self) c.close.result
    c.in_ok-expand-in-Group.ensures.takes c.close.ensures))

pub expand_one-returns-in_ok-expand-in-Task-clause-takes :
    goal.expand_one-returns-in_ok-expand-in-Task-clause-takes
expand_one-returns-in_ok-expand-in-Task-clause-takes g t c =
    let values_are = ap (λ (vs : List ℕ). reverse vs) c.as_slice-in-Task.ensures.value in
    let pieces = task_is (reverse c.args.values.now.items) _ c.args.in_final c.is_either.result c.args.statement.now _ _ _
    c.in-Task.is c.as_slice-in-Task-2.ensures c.is_either.ensures values_are in
    takes_these g.T.TakesPieces.test _ _ (g.T.TakesPieces.stands_at c.args.taker.now)
    (g.T.TakesPieces.stands_at c.close-in-Task.new.self) c.close-in-Task.result pieces
    (takes_then g.T.TakesPieces.test _ _ (g.T.TakesPieces.stands_at c.args.taker.now) (g.T.TakesPieces.stands_at c.task.new.self)
    (g.T.TakesPieces.stands_at c.close-in-Task.new.self) c.close-in-Task.result c.in_ok-task-in-Task.ensures
    (takes_then g.T.TakesPieces.test _ _ (g.T.TakesPieces.stands_at c.task.new.self)
    (g.T.TakesPieces.stands_at c.expand-in-Task.new.taker) (g.T.TakesPieces.stands_at c.close-in-Task.new.self) c.close-in-Task.result
    c.in_ok-expand-in-Task.ensures.takes c.close-in-Task.ensures))

pub expand_one-returns-in-For-clause-takes : goal.expand_one-returns-in-For-clause-takes
expand_one-returns-in-For-clause-takes g t c =
    takes_these g.T.TakesPieces.test _ _ (g.T.TakesPieces.stands_at c.args.taker.now)
    (g.T.TakesPieces.stands_at c.expand_turns.new.taker) c.expand_turns.result
    (for_is (reverse c.args.values.now.items) c.args.in_final c.args.statement.now _ _ _ _ _
    c.in-For.is c.as_slice-in-For.ensures)
    c.expand_turns.ensures.takes

pub expand_turns-turns-init : goal.expand_turns-turns-init
expand_turns-turns-init g t c = record {
  left = left_first g.T.TakesPieces.test _ _ (g.T.TakesPieces.stands_at c.args.taker.now) (ap
      (λ (n : ℕ). turns_left (reverse c.args.values.now.items) c.args.in_final c.args.line
      (tree_of c.args.body.now) n c.args.to)
      c.from-value.ensures);
  values = refl;
}

pub expand_turns-turn-requires : goal.expand_turns-turn-requires
expand_turns-turn-requires g t c =
    left_somewhere g.T.TakesPieces.test _ _ (g.T.TakesPieces.stands_at c.args.taker.now)
    (g.T.TakesPieces.stands_at c.turns.taker) c.turns.invariant.left c.requires

pub expand_turns-returns-in_err-turn-clause-takes :
    goal.expand_turns-returns-in_err-turn-clause-takes
expand_turns-returns-in_err-turn-clause-takes g t c =
    let fault = c.in_err-turn.field-0.0 in
    let below : c.turns.value ≤ c.args.to = omega (arith, c.turns-test.true, c.from.ensures) in
    let pieces = turn_is (reverse c.args.values.now.items) _ c.args.in_final c.args.line (tree_of c.args.body.now)
    c.turns.value c.args.to below refl in
    let fails_so = left_stops g.T.TakesPieces.test _ _ (g.T.TakesPieces.stands_at c.args.taker.now)
    (g.T.TakesPieces.stands_at c.turns.taker) fault c.turns.invariant.left
    (stops_these g.T.TakesPieces.test _ _ (g.T.TakesPieces.stands_at c.turns.taker) fault pieces
    (stops_before g.T.TakesPieces.test _ _ (g.T.TakesPieces.stands_at c.turns.taker) fault c.in_err-turn.ensures)) in
    let passed_on = err_from_is_err_and c.from_residual.result c.from_residual.ensures.1 in
    rw (passed_on.1, passed_on.2) fails_so

pub expand_turns-expand-requires : goal.expand_turns-expand-requires
expand_turns-expand-requires g t c κs within = (
  omega (arith, c.decreases),
  (
    within,
    somewhere_then g.T.TakesPieces.test _ (g.T.TakesPieces.stands_at c.turns.taker)
        (g.T.TakesPieces.stands_at c.turn.new.self) c.in_ok-turn.ensures
        (left_somewhere g.T.TakesPieces.test _ _ (g.T.TakesPieces.stands_at c.args.taker.now)
        (g.T.TakesPieces.stands_at c.turns.taker) c.turns.invariant.left c.requires),
  ),
)

pub expand_turns-returns-in_err-expand-clause-takes :
    goal.expand_turns-returns-in_err-expand-clause-takes
expand_turns-returns-in_err-expand-clause-takes g t c =
    let fault = c.in_err-expand.field-0.0 in
    let below : c.turns.value ≤ c.args.to = omega (arith, c.turns-test.true, c.from.ensures) in
    let seen = reverse_of_pushed c.args.values.now.items c.push.new.self.items c.turns.values.items
    c.turns.value c.in_ok-push.ensures.items c.turns.invariant.values in
    let pieces = turn_is (reverse c.args.values.now.items) _ c.args.in_final c.args.line (tree_of c.args.body.now)
    c.turns.value c.args.to below seen in
    let fails_so = left_stops g.T.TakesPieces.test _ _ (g.T.TakesPieces.stands_at c.args.taker.now)
    (g.T.TakesPieces.stands_at c.turns.taker) fault c.turns.invariant.left
    (stops_these g.T.TakesPieces.test _ _ (g.T.TakesPieces.stands_at c.turns.taker) fault pieces
    (stops_then g.T.TakesPieces.test _ _ (g.T.TakesPieces.stands_at c.turns.taker)
    (g.T.TakesPieces.stands_at c.turn.new.self) fault c.in_ok-turn.ensures
    (stops_before g.T.TakesPieces.test _ _ (g.T.TakesPieces.stands_at c.turn.new.self) fault
    c.in_err-expand.ensures.takes))) in
    let passed_on = err_from_is_err_and c.from_residual-in_err-expand.result c.from_residual-in_err-expand.ensures.1 in
    rw (passed_on.1, passed_on.2) fails_so

pub expand_turns-turns-preserved : goal.expand_turns-turns-preserved
expand_turns-turns-preserved g t c =
    let below : c.turns.value ≤ c.args.to = omega (arith, c.turns-test.true, c.from.ensures) in
    let seen = reverse_of_pushed c.args.values.now.items c.push.new.self.items c.turns.values.items
    c.turns.value c.in_ok-push.ensures.items c.turns.invariant.values in
    let pieces = turn_is (reverse c.args.values.now.items) _ c.args.in_final c.args.line (tree_of c.args.body.now)
    c.turns.value c.args.to below seen in
    record {
      left = left_on g.T.TakesPieces.test _ _ (expansion _ c.args.in_final (tree_of c.args.body.now)) _
          (g.T.TakesPieces.stands_at c.args.taker.now) (g.T.TakesPieces.stands_at c.turn.new.self)
          (g.T.TakesPieces.stands_at c.expand.new.taker)
          (left_on g.T.TakesPieces.test _ _ (TurnBegins c.args.line ∷ []) _
          (g.T.TakesPieces.stands_at c.args.taker.now) (g.T.TakesPieces.stands_at c.turns.taker)
          (g.T.TakesPieces.stands_at c.turn.new.self) c.turns.invariant.left pieces c.in_ok-turn.ensures)
          refl c.in_ok-expand.ensures.takes;
      values = c.truncate.ensures.items
          ∙ take_of_popped c.args.values.now.items c.expand.new.values.items c.push.new.self.items
          c.turns.values.items c.turns.value _ c.in_ok-expand.ensures.values
          c.in_ok-push.ensures.items c.turns.invariant.values
          (c.how_many-around.ensures ∙ ap (λ (vs : List ℕ). length vs) c.as_slice.ensures.value);
    }

pub expand_turns-returns-clause-takes : goal.expand_turns-returns-clause-takes
expand_turns-returns-clause-takes g t c =
    let above : c.args.to < c.turns.value = omega (arith, c.turns-test.false, c.from.ensures) in
    left_none g.T.TakesPieces.test _ _ (g.T.TakesPieces.stands_at c.args.taker.now)
    (g.T.TakesPieces.stands_at c.turns.taker) c.turns.invariant.left
    (no_turn (reverse c.args.values.now.items) c.args.in_final c.args.line (tree_of c.args.body.now)
    c.turns.value c.args.to above)

pub expand_turns-returns-clause-values : goal.expand_turns-returns-clause-values
expand_turns-returns-clause-values g t c = c.turns.invariant.values
