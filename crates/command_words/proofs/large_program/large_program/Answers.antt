use Rattle.std.proofs.Common.{◌∙◌, ap}
use Rattle.std.proofs.lemmas.Result.{IfOk-weaker}
use Rattle.command_words.specs.LargeWords.{large_program, with_documents, with_measures, with_tables}
use Rattle.command_words.specs.LargeWords.{with_texts}
use Rattle.command_words.specs.LargeWords.{with_upto}
use Rattle.command_words.proofs.large_program.large_program.Goals as goal

-- the option, and the four groups of commands in turn
pub returns : goal.returns
unfolding large_program
returns c =
    let upto = c.in_ok-command.ensures ∙ ap with_upto c.no_large_commands.ensures in
    let measures = c.in_ok-command-2.ensures ∙ ap with_measures upto in
    let tables = c.in_ok-command-3.ensures ∙ ap with_tables measures in
    let texts = c.in_ok-command-4.ensures ∙ ap with_texts tables in
    IfOk-weaker c.with_documents.result _ _ (λ command added. added ∙ ap with_documents texts)
    c.with_documents.ensures
