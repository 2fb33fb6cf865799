use Rattle.std.proofs.Common.{rules}
use Rattle.std.proofs.lemmas.Result.{IfOk-weaker}
use Rattle.large_command.proofs.Told.{answers_length, answers_text, can_finish, still_keeps}
use Rattle.large_command.proofs.engine.answer_text.Goals as goal

pub tell_taken-requires-clause-can : goal.tell_taken-requires-clause-can
tell_taken-requires-clause-can g c = λ κs lives.
    can_finish _ _ c.take_input.new.text c.in-Ok.ensures.takes

pub tell_taken-requires-clause-keeps : goal.tell_taken-requires-clause-keeps
tell_taken-requires-clause-keeps g c = λ κs lives.
    still_keeps c.args.asked.now _ c.take_input.new.text c.in-Ok.ensures.text
    c.in_ok-text-in-OfMeter.ensures.keeps

pub returns-in-Ok-clause-report : goal.returns-in-Ok-clause-report
returns-in-Ok-clause-report g c =
    answers_text c.args.asked.now _ _ c.take_input.new.text _ c.in-Ok.ensures.takes
    c.in_ok-tell_taken-in-Ok.ensures

pub returns-in-Err-TooLong-clause-report : goal.returns-in-Err-TooLong-clause-report
returns-in-Err-TooLong-clause-report g c =
    IfOk-weaker c.too_long.result _ _
    (λ report says. answers_length c.args.asked.now _ _ report
    (c.in-Err-TooLong.ensures.too_long (search rules)) says)
    c.too_long.ensures.says
