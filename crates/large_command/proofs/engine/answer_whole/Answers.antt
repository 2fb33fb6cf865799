use Rattle.std.proofs.Common.{List, rules, subst, ℕ}
use Rattle.std.proofs.lemmas.Result.{IfOk-weaker}
use Rattle.command_words.specs.declared.large.LargeRequest.TheVariants.{OfDocument}
use Rattle.large_command.proofs.Told.{answers_length, answers_whole}
use Rattle.large_command.specs.LargeReports.{Answers}
use Rattle.large_command.proofs.engine.answer_whole.Goals as goal

pub returns-in_ok-answer_document-in-Ok-clause-report : goal.returns-in_ok-answer_document-in-Ok-clause-report
returns-in_ok-answer_document-in-Ok-clause-report g c =
    let report = c.in_ok-answer_document-in-Ok.field-0 in
    answers_whole c.args.asked _ _ c.in-Ok.document.items _ c.in-Ok.ensures.reads
    (subst (λ (bytes : List ℕ). Answers (OfDocument c.args.asked) bytes report)
    c.as_slice.ensures.value c.in_ok-answer_document-in-Ok.ensures)

pub returns-in-Err-TooLong-clause-report : goal.returns-in-Err-TooLong-clause-report
returns-in-Err-TooLong-clause-report g c =
    IfOk-weaker c.too_long.result _ _
    (λ report says. answers_length (OfDocument c.args.asked) _ _ report
    (c.in-Err-TooLong.ensures.too_long (search rules)) says)
    c.too_long.ensures.says
