use Rattle.std.proofs.Common.{[], ◌∷◌, ◌+◌, ◌≤◌, arith, sym, subst}
use Rattle.program_text.specs.declared.limits.TheConstants.{MOST_WORK}
use Rattle.std.proofs.lemmas.Result.{err_from_is_err_and}
use Rattle.program_text.specs.declared.fault.ReadFault.{ReadFault}
use Rattle.program_text.specs.Marks.Mark.{Works}
use Rattle.task_program.specs.Expansion.Piece.{WorkIs}
use Rattle.task_program.specs.Walks.{LeadsOn, StopsAt}
use Rattle.large_text.specs.declared.loop_marks.LoopMarks.{LoopMarks}
use Rattle.large_text.specs.LoopFaults.{large_fault_of}
use Rattle.large_text.specs.LoopMarked.{HasEntered}
use Rattle.large_text.specs.Tallied.{CanTally}
use Rattle.large_text.proofs.LoopMarking.{Enters, can_work, work_heavy, work_leads, work_stops}
use Rattle.large_text.proofs.loop_marks.LoopMarks.work.Goals as goal

pub returns-then-cost-self-clause-takes : goal.returns-then-cost-self-clause-takes
returns-then-cost-self-clause-takes c =
    subst
    (λ (fault : ReadFault). StopsAt large_fault_of (WorkIs c.args.cost c.args.line ∷ [])
    (HasEntered c.args.self.now) fault)
    (sym c.fault.ensures)
    (work_heavy c.args.self.now c.args.cost c.args.line
    (omega (arith, c.if-cost-self.true, c.requires.1.little_work)))

pub returns-in_err-add_lines-clause-takes : goal.returns-in_err-add_lines-clause-takes
returns-in_err-add_lines-clause-takes c =
    let little : c.args.self.now.work + c.args.cost ≤ MOST_WORK = omega (arith, c.if-cost-self.false, c.requires.1.little_work) in
    let past = c.in_err-add_lines.ensures.err in
    let fails_so = subst
    (λ (fault : ReadFault). StopsAt large_fault_of (WorkIs c.args.cost c.args.line ∷ [])
    (HasEntered c.args.self.now) fault)
    (sym past.1) (work_stops c.args.self.now c.args.cost c.args.line little past.0) in
    let passed_on = err_from_is_err_and c.from_residual.result c.from_residual.ensures.1 in
    rw (passed_on.1, passed_on.2) fails_so

pub take_mark-requires : goal.take_mark-requires
take_mark-requires c =
    let little : c.args.self.now.work + c.args.cost ≤ MOST_WORK = omega (arith, c.if-cost-self.false, c.requires.1.little_work) in
    subst (λ (taker : LoopMarks). CanTally taker.tally (Works c.args.cost)) (sym c.in_ok-add_lines.ensures.ok.1)
    (can_work c.args.self.now c.requires.0 c.args.cost c.requires.1 little)

pub returns-clause-takes : goal.returns-clause-takes
returns-clause-takes c =
    let little : c.args.self.now.work + c.args.cost ≤ MOST_WORK = omega (arith, c.if-cost-self.false, c.requires.1.little_work) in
    subst
    (λ (taker : LoopMarks). LeadsOn large_fault_of (WorkIs c.args.cost c.args.line ∷ [])
    (HasEntered c.args.self.now)
    (HasEntered (record taker {
      work = taker.work + c.args.cost;
      tally = c.take_mark.new.tally;
    })))
    (sym c.in_ok-add_lines.ensures.ok.1)
    (work_leads c.args.self.now c.take_mark.new.tally c.args.cost c.args.line c.in_ok-add_lines.ensures.ok.0 little (subst
    (λ (taker : LoopMarks). Enters taker.tally c.take_mark.new.tally (Works c.args.cost))
    c.in_ok-add_lines.ensures.ok.1
    (c.in_ok-take_mark.ensures.takes, c.in_ok-take_mark.ensures.prints)))
