use Rattle.std.proofs.Common.{inr, rules}
use Rattle.std.proofs.lemmas.Result.{IfOk-weaker}
use Rattle.large_command.proofs.Told.{accepts_text, refuses}
use Rattle.large_command.proofs.text_answers.answer_printed.Goals as goal

pub returns-in-Some : goal.returns-in-Some
returns-in-Some c =
    IfOk-weaker c.tell_printed.result _ _
    (λ report tells bytes taken. accepts_text c.args.asked bytes _ c.in-Some.written
    (λ written. written.items) _ report c.in-Some.is (c.in-Ok.ensures.text bytes taken)
    (c.in-Ok.ensures.table bytes taken) tells)
    c.tell_printed.ensures

pub returns-else-eq : goal.returns-else-eq
returns-else-eq c =
    IfOk-weaker c.text_refusal.result _ _
    (λ report says bytes taken. inr
    (refuses bytes c.in-Err.fault report (c.in-Err.ensures.refused (search rules) bytes taken) says))
    c.text_refusal.ensures
