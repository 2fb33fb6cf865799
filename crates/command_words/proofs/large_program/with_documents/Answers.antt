use Rattle.clap.specs.Words.{app_of}
use Rattle.std.proofs.Common.{◌∙◌, ap, ap₂}
use Rattle.std.proofs.lemmas.Result.{IfOk-weaker}
use Rattle.command_words.specs.Program.{and_then}
use Rattle.command_words.proofs.large_program.with_documents.Goals as goal

-- each command in turn
pub returns : goal.returns
returns c =
    let above = app_of c.args.command in
    let account = c.in_ok-command.ensures ∙ ap (and_then above) c.in_ok-account_command.ensures.app
    in
    let replay = c.in_ok-command-2.ensures ∙ ap₂ and_then account c.new.ensures.app in
    let check = c.in_ok-command-3.ensures ∙ ap₂ and_then replay c.new-2.ensures.app in
    let places = c.in_ok-command-4.ensures ∙ ap₂ and_then check c.new-3.ensures.app in
    IfOk-weaker c.with_command-5.result _ _ (λ command added. added
    ∙ ap₂ and_then places c.new-4.ensures.app) c.with_command-5.ensures
