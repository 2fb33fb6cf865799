use Rattle.std.proofs.Common.{[], ◌∷◌, ◌++◌, ◌∙◌, List, ℕ, ap, sym, subst}
use Rattle.program_text.specs.declared.statement.Item.{Item}
use Rattle.large_text.specs.declared.reader.OpenBlock.TheVariants.{OpenTask}
use Rattle.std.proofs.lemmas.Result.{err_from_is_err_and}
use Rattle.program_text.specs.declared.fault.ReadFault.{ReadFault}
use Rattle.program_text.specs.Marks.Mark.{Begins}
use Rattle.task_program.specs.Expansion.Piece.{TaskOpens}
use Rattle.task_program.specs.Walks.{LeadsOn, StopsAt}
use Rattle.large_text.specs.declared.loop_marks.LoopMarks.{LoopMarks}
use Rattle.large_text.specs.LoopFaults.{large_fault_of}
use Rattle.large_text.specs.LoopMarked.{HasEntered}
use Rattle.large_text.specs.Tallied.{CanTally}
use Rattle.large_text.proofs.LoopMarking.{Enters, can_task, task_leads, task_stops}
use Rattle.large_text.proofs.loop_marks.LoopMarks.task_brace.Goals as goal

pub returns-in_err-add_lines-clause-takes : goal.returns-in_err-add_lines-clause-takes
returns-in_err-add_lines-clause-takes c =
    let past = c.in_err-add_lines.ensures.err in
    let fails_so = subst
    (λ (fault : ReadFault). StopsAt large_fault_of (TaskOpens c.args.undeferred c.args.line ∷ []) (HasEntered c.args.self.now) fault)
    (sym past.1) (task_stops c.args.self.now c.args.undeferred c.args.line past.0) in
    let passed_on = err_from_is_err_and c.from_residual.result c.from_residual.ensures.1 in
    rw (passed_on.1, passed_on.2) fails_so

pub take_mark-requires : goal.take_mark-requires
take_mark-requires c =
    let items_are = c.replace-items.ensures.value
    ∙ ap (λ (taker : LoopMarks). taker.items) c.in_ok-add_lines.ensures.ok.1
    ∙ sym c.requires.1.items in
    subst (λ (items : List Item). CanTally c.add_lines.new.self.tally (Begins c.args.undeferred items))
    (sym items_are)
    (subst
    (λ (taker : LoopMarks).
    CanTally taker.tally (Begins c.args.undeferred c.requires.0.items))
    (sym c.in_ok-add_lines.ensures.ok.1) (can_task c.args.self.now c.requires.0 c.args.undeferred c.requires.1))

pub returns-clause-takes : goal.returns-clause-takes
returns-clause-takes c =
    let pushed = c.in_ok-push.ensures.items
    ∙ ap (λ (n : ℕ). c.add_lines.new.self.blocks.items ++ OpenTask n ∷ []) c.from.ensures
    ∙ ap (λ (taker : LoopMarks). taker.blocks.items ++ OpenTask c.args.line ∷ []) c.in_ok-add_lines.ensures.ok.1 in
    let items_are = c.replace-items.ensures.value
    ∙ ap (λ (taker : LoopMarks). taker.items) c.in_ok-add_lines.ensures.ok.1 in
    let none = c.replace-items.ensures.after ∙ c.new.ensures in
    subst
    (λ (items : List Item). LeadsOn large_fault_of (TaskOpens c.args.undeferred c.args.line ∷ [])
    (HasEntered c.args.self.now)
    (HasEntered (record c.add_lines.new.self {
      items = items;
      blocks = c.push.new.self;
      tally = c.take_mark.new.tally;
    })))
    (sym none)
    (subst
    (λ (taker : LoopMarks). LeadsOn large_fault_of (TaskOpens c.args.undeferred c.args.line ∷ [])
    (HasEntered c.args.self.now)
    (HasEntered (record taker {
      items = [];
      blocks = c.push.new.self;
      tally = c.take_mark.new.tally;
    })))
    (sym c.in_ok-add_lines.ensures.ok.1)
    (task_leads c.args.self.now c.push.new.self c.take_mark.new.tally c.args.undeferred c.args.line pushed c.in_ok-add_lines.ensures.ok.0
    (subst
    (λ (items : List Item). Enters c.args.self.now.tally c.take_mark.new.tally
    (Begins c.args.undeferred items))
    items_are
    (subst
    (λ (taker : LoopMarks). Enters taker.tally c.take_mark.new.tally
    (Begins c.args.undeferred c.replace-items.result))
    c.in_ok-add_lines.ensures.ok.1
    (c.in_ok-take_mark.ensures.takes, c.in_ok-take_mark.ensures.prints)))))
