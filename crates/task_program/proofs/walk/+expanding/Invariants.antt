use Rattle.std.proofs.Common.{◌≡◌, ◌+◌, ◌-◌, ◌*◌, take, reverse}
use Rattle.loop_text.specs.Loops.{size_of_tree}
use Rattle.loop_text.specs.Loops.Tree.{NoStatement}
use Rattle.loop_text.specs.LoopsSeen.{tree_of, with_statement}
use Rattle.task_program.specs.Expansion.{expansion, values_between, turns_of}
use Rattle.task_program.specs.Walks.{LeadsOn}
use Rattle.task_program.proofs.Leading.{LeadsTo}
use Rattle.task_program.proofs.Turns.{turns_left}
use Rattle.task_program.proofs.walk.+expanding.Given as goal

abbrev pub invariant-expand-statements : goal.invariant-expand-statements
invariant-expand-statements g l =
    let stands_at = g.T.TakesPieces.stands_at in
    record {
      so_far : LeadsOn g.T.TakesPieces.test (expansion (reverse l.fn.values.items) l.in_final
          (tree_of (take l.statement-index l.statements)))
          (stands_at l.fn.taker) (stands_at l.taker);
      values : l.values.items ≡ l.fn.values.items;
    }

abbrev pub invariant-expand_turns-turns : goal.invariant-expand_turns-turns
invariant-expand_turns-turns g l =
    let stands_at = g.T.TakesPieces.stands_at in
    record {
      left : LeadsTo g.T.TakesPieces.test (turns_of (reverse l.fn.values.items) l.in_final l.line
          (tree_of l.body) (values_between l.from l.to))
          (turns_left (reverse l.fn.values.items) l.in_final l.line (tree_of l.body) l.value l.to)
          (stands_at l.fn.taker) (stands_at l.taker);
      values : l.values.items ≡ l.fn.values.items;
    }

abbrev pub decreases-expand : goal.decreases-expand
decreases-expand g l = 3 * size_of_tree (tree_of l.statements.now) + 1

abbrev pub decreases-expand_one : goal.decreases-expand_one
decreases-expand_one g l = 3 * size_of_tree (with_statement NoStatement l.statement.now)

abbrev pub decreases-expand_turns : goal.decreases-expand_turns
decreases-expand_turns g l = 3 * size_of_tree (tree_of l.body.now) + 2

abbrev pub decreases-expand_turns-turns : goal.decreases-expand_turns-turns
decreases-expand_turns-turns g l = (l.to + 1) - l.value
