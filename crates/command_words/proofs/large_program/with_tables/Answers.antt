use Rattle.clap.specs.Words.{app_of}
use Rattle.std.proofs.Common.{◌∙◌, ap, ap₂}
use Rattle.std.proofs.lemmas.Result.{IfOk-weaker}
use Rattle.command_words.specs.Program.{and_then}
use Rattle.command_words.proofs.large_program.with_tables.Goals as goal

-- each command in turn
pub returns : goal.returns
returns c =
    let above = app_of c.args.command in
    let slack = c.in_ok-command.ensures ∙ ap (and_then above) (c.new.ensures.app) in
    let greedy =
    c.in_ok-command-2.ensures ∙ ap₂ and_then slack (c.in_ok-with_option.ensures.app) in
    let curve =
    c.in_ok-command-3.ensures ∙ ap₂ and_then greedy (c.in_ok-with_option-2.ensures.app) in
    let whatif =
    c.in_ok-command-4.ensures ∙ ap₂ and_then curve c.in_ok-what_if_command.ensures.app in
    IfOk-weaker c.with_command-5.result _ _ (λ command added. added
    ∙ ap₂ and_then whatif c.new-2.ensures.app) c.with_command-5.ensures
