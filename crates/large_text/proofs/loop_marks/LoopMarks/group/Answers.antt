use Rattle.std.proofs.Common.{[], ◌∷◌, ◌++◌, ◌∙◌, ℕ, ap, sym, subst}
use Rattle.large_text.specs.declared.reader.OpenBlock.TheVariants.{OpenGroup}
use Rattle.std.proofs.lemmas.Result.{err_from_is_err_and}
use Rattle.program_text.specs.declared.fault.ReadFault.{ReadFault}
use Rattle.program_text.specs.Marks.Mark.{GroupBegins}
use Rattle.task_program.specs.Expansion.Piece.{GroupComes, GroupOpens}
use Rattle.task_program.specs.Walks.{LeadsOn, StopsAt}
use Rattle.large_text.specs.declared.loop_marks.LoopMarks.{LoopMarks}
use Rattle.large_text.specs.LoopFaults.{large_fault_of}
use Rattle.large_text.specs.LoopMarked.{HasEntered}
use Rattle.large_text.specs.Tallied.{CanTally}
use Rattle.large_text.proofs.LoopMarking.{Enters, can_group, group_leads, group_stops}
use Rattle.large_text.proofs.loop_marks.LoopMarks.group.Goals as goal

pub returns-in_err-add_lines-clause-takes : goal.returns-in_err-add_lines-clause-takes
returns-in_err-add_lines-clause-takes c =
    let past = c.in_err-add_lines.ensures.err in
    let fails_so = subst
    (λ (fault : ReadFault). StopsAt large_fault_of (GroupComes c.args.line ∷ GroupOpens c.args.brace_line ∷ []) (HasEntered c.args.self.now) fault)
    (sym past.1) (group_stops c.args.self.now c.args.line c.args.brace_line past.0) in
    let passed_on = err_from_is_err_and c.from_residual.result c.from_residual.ensures.1 in
    rw (passed_on.1, passed_on.2) fails_so

pub take_mark-requires : goal.take_mark-requires
take_mark-requires c =
    subst (λ (taker : LoopMarks). CanTally taker.tally _) (sym c.in_ok-add_lines.ensures.ok.1)
    (can_group c.args.self.now c.requires.0 c.requires.1)

pub returns-clause-takes : goal.returns-clause-takes
returns-clause-takes c =
    let pushed = c.in_ok-push.ensures.items
    ∙ ap (λ (n : ℕ). c.add_lines.new.self.blocks.items ++ OpenGroup n ∷ []) c.from.ensures
    ∙ ap (λ (taker : LoopMarks). taker.blocks.items ++ OpenGroup c.args.brace_line ∷ []) c.in_ok-add_lines.ensures.ok.1 in
    subst
    (λ (taker : LoopMarks). LeadsOn large_fault_of
    (GroupComes c.args.line ∷ GroupOpens c.args.brace_line ∷ []) (HasEntered c.args.self.now)
    (HasEntered (record taker { blocks = c.push.new.self; tally = c.take_mark.new.tally })))
    (sym c.in_ok-add_lines.ensures.ok.1)
    (group_leads c.args.self.now c.push.new.self c.take_mark.new.tally c.args.line c.args.brace_line pushed
    c.in_ok-add_lines.ensures.ok.0
    (subst (λ (taker : LoopMarks). Enters taker.tally c.take_mark.new.tally GroupBegins)
    c.in_ok-add_lines.ensures.ok.1
    (c.in_ok-take_mark.ensures.takes, c.in_ok-take_mark.ensures.prints)))
