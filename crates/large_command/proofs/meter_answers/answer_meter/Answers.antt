use Rattle.std.proofs.Common.{inr, rules}
use Rattle.std.proofs.lemmas.Result.{IfOk-weaker}
use Rattle.large_command.proofs.Told.{accepts, is_of_program, refuses}
use Rattle.large_command.proofs.meter_answers.answer_meter.Goals as goal

pub tell-requires : goal.tell-requires
tell-requires c =
    is_of_program c.requires.bytes c.in-Ok.meter
    (c.in-Ok.ensures.measured c.requires.bytes c.requires.taken)

pub returns-in-Ok : goal.returns-in-Ok
returns-in-Ok c =
    IfOk-weaker c.tell.result _ _
    (λ report tells bytes taken. accepts c.args.asked bytes c.in-Ok.meter report
    (c.in-Ok.ensures.measured bytes taken) tells)
    c.tell.ensures

pub returns-else-eq : goal.returns-else-eq
returns-else-eq c =
    IfOk-weaker c.text_refusal.result _ _
    (λ report says bytes taken. inr (refuses bytes c.in-Err.fault report
    (c.in-Err.ensures.refused (search rules) bytes taken) says))
    c.text_refusal.ensures
