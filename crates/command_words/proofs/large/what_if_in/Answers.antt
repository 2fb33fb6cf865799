use Rattle.std.proofs.Common.{◌∙◌, ap₂, codes, subst}
use Rattle.clap.specs.Words.{found_of}
use Rattle.clap.proofs.WalkLemmas.{raw_values-rows}
use Rattle.command_words.specs.LargeWords.{what_if_by}
use Rattle.command_words.specs.Reading.{Gives}
use Rattle.command_words.proofs.large.what_if_in.Goals as goal

pub returns-in-None : goal.returns-in-None
returns-in-None c =
    let rows = c.in-None.ensures ∙ raw_values-rows (found_of c.args.values.now) (codes "changes") in
    subst (λ wanted. Gives wanted c.list_asked.result)
    (ap₂ what_if_by c.is_set-listed.ensures rows) c.list_asked.ensures

pub returns-in-Some : goal.returns-in-Some
returns-in-Some c =
    let rows = c.in-Some.ensures ∙ raw_values-rows (found_of c.args.values.now) (codes "changes") in
    subst (λ wanted. Gives wanted c.changes_asked.result)
    (ap₂ what_if_by c.is_set-listed.ensures rows) c.changes_asked.ensures
