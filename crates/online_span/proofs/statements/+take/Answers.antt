use Rattle.std.proofs.Common.{◌+◌, ◌∷◌, arith, List, drop, take, subst, sym}
use Rattle.std.proofs.lemmas.Result.{on_ok_weaker}
use Rattle.program_text.specs.Statements.{marks_of, marks_of_one}
use Rattle.program_text.specs.declared.statement.Item.{Item}
use Rattle.task_program.specs.Marks.Mark.{Begins, GroupBegins}
use Rattle.task_segments.specs.Moments.{moment_after}
use Rattle.task_segments.proofs.Walks.{statement_is_placed, one_has_fewer_marks}
use Rattle.online_span.specs.Measuring.{Measures}
use Rattle.online_span.specs.Taking.{HasTaken}
use Rattle.online_span.proofs.Taking.{taken_more, room_within, begins, task_ends, task_taken}
use Rattle.online_span.proofs.Taking.{group_ends, group_taken}
use Rattle.online_span.proofs.statements.+take.Goals as goal

pub take_all-take_one-requires : goal.take_all-take_one-requires
take_all-take_one-requires t c =
    let index = c.loop-statement.statement-index in
    let statements = c.args.statements.now in
    let statement = c.statement-item.result in
    let placed = statement_is_placed statements index statement (omega arith) c.statement-item.is in
    let fewer =
    one_has_fewer_marks statements index statement (omega arith) c.statement-item.is in
    let taken = c.loop-statement.invariant c.requires.moment c.requires.measures in (
      omega (arith, c.decreases, fewer),
      room_within c.args.meter.now c.loop-statement.meter (marks_of statements) c.requires
          (marks_of (take index statements)) (marks_of_one statement)
          (marks_of (drop (index + 1) statements)) placed.whole taken.measures,
    )

pub take_all-loop-statement-preserved : goal.take_all-loop-statement-preserved
take_all-loop-statement-preserved t c = λ moment m.
    let index = c.loop-statement.statement-index in
    let statements = c.args.statements.now in
    let statement = c.statement-item.result in
    let placed = statement_is_placed statements index statement (omega arith) c.statement-item.is in
    let before = c.loop-statement.invariant moment m in
    let marks_before = marks_of (take index statements) in
    let one = c.in_ok-take_one.ensures (moment_after moment marks_before) before.measures in
    subst (HasTaken c.take_one.new.meter moment) (sym placed.more)
    (taken_more c.loop-statement.meter c.take_one.new.meter moment marks_before
    (marks_of_one statement) before one)

pub take_group-end_group-requires : goal.take_group-end_group-requires
take_group-end_group-requires t c =
    let room = c.requires in
    let begun = c.in_ok-begin_group.ensures.ok room.moment room.measures in
    group_ends c.args.meter.now c.take_all.new.meter c.args.body.now room
    (marks_of c.as_slice.result.now) (sym c.as_slice.ensures)
    (c.in_ok-take_all.ensures (GroupBegins ∷ room.moment) begun)

pub take_group-returns : goal.take_group-returns
take_group-returns t c = λ moment m.
    let marks = marks_of c.as_slice.result.now in
    let begun = c.in_ok-begin_group.ensures.ok moment m in
    let taken = c.in_ok-take_all.ensures (GroupBegins ∷ moment) begun in
    group_taken c.take_all.new.meter c.end_group.new.self c.args.body.now moment marks
    (sym c.as_slice.ensures) taken
    (c.end_group.ensures (moment_after (GroupBegins ∷ moment) marks) taken.measures)

pub take_task-end_task-requires : goal.take_task-end_task-requires
take_task-end_task-requires t c =
    let room = c.requires in
    let task = c.args.task.now in
    let P : List Item → Type 0 = λ items.
    Measures c.begin_task.new.self (Begins task.undeferred items ∷ room.moment) in
    let begun = subst P c.as_slice.ensures
    (c.in_ok-begin_task.ensures.ok room.moment room.measures) in
    task_ends c.args.meter.now c.take_all.new.meter task room (marks_of c.as_slice-2.result.now)
    (sym c.as_slice-2.ensures) (c.in_ok-take_all.ensures (begins task ∷ room.moment) begun)

pub take_task-returns : goal.take_task-returns
take_task-returns t c =
    on_ok_weaker c.end_task.result (λ ends moment m.
    let task = c.args.task.now in
    let marks = marks_of c.as_slice-2.result.now in
    let P : List Item → Type 0 = λ items.
    Measures c.begin_task.new.self (Begins task.undeferred items ∷ moment) in
    let begun = subst P c.as_slice.ensures (c.in_ok-begin_task.ensures.ok moment m) in
    let taken = c.in_ok-take_all.ensures (begins task ∷ moment) begun in
    task_taken c.take_all.new.meter c.end_task.new.self task moment marks
    (sym c.as_slice-2.ensures) taken
    (ends (moment_after (begins task ∷ moment) marks) taken.measures)) c.end_task.ensures.ok
