use Rattle.std.proofs.Common.{◌∙◌, ap, codes, subst}
use Rattle.clap.specs.Words.{Text, found_of, subcommand_rows_of}
use Rattle.clap.proofs.WalkLemmas.{first_value-rows}
use Rattle.std.specs.Prelude.{Option}
use Rattle.command_words.specs.LargeWords.{large_request_by}
use Rattle.command_words.specs.Reading.{Gives}
use Rattle.command_words.proofs.large.large_request_in.Goals as goal

pub returns : goal.returns
returns c =
    let command = subcommand_rows_of c.args.matches.now in
    let option = c.get_str.ensures ∙ first_value-rows (found_of c.args.matches.now) (codes "upto") in
    subst (λ wanted. Gives wanted c.large_request_by.result)
    (ap (λ (upto : Option Text). large_request_by upto command) option)
    c.large_request_by.ensures
