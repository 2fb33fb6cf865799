use Rattle.std.proofs.Common.{length, map, option_map, refl, ap, ◌∙◌, arith}
use Rattle.std.specs.Prelude.{Some}
use Rattle.std.proofs.lemmas.List.{length-map}
use Rattle.std.proofs.lemmas.Option.{slice_get-map, slice_get-get_or, slice_get_read}
use Rattle.worker_run.specs.declared.record.RunFault.{RunFault}
use Rattle.worker_run.specs.WorkerEnds.{Tells}
use Rattle.worker_run.proofs.Places.{up_to_next}
use Rattle.worker_run.proofs.worked.first_fault.Goals as goal

pub loop-end-preserved : goal.loop-end-preserved
loop-end-preserved g c worker its told less at tells =
    let core = c.args.core.now in
    let end = c.end-item.result in
    let is = slice_get-map (λ e. e.how) c.args.ends.now c.loop-end.end-index
    ∙ ap (option_map (λ e. e.how)) (slice_get_read c.args.ends.now (length c.args.ends.now)
    c.loop-end.end-index end refl c.loop-end-test.true c.end-item.is) in
    up_to_next (λ k e. (t : RunFault) → ¬ Tells core.table core.history g.K.Kernel.value_of e t)
    (map (λ e. e.how) c.args.ends.now) c.loop-end.end-index end.how is
    (λ k e before there t. c.loop-end.invariant k e t before there)
    c.in_default.ensures.told worker its less at told tells

pub returns-clause-first : goal.returns-clause-first
returns-clause-first g c end fault has =
    let ends = map (λ e. e.how) c.args.ends.now in
    c.loop-end.invariant has.0 end fault (omega (arith, has.1, length-map c.args.ends.now (λ e. e.how)))
    (slice_get-get_or ends has.0 end has.1 ∙ ap Some has.2)
