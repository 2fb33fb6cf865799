use Rattle.std.proofs.Common.{◌∙◌, ap, ap₂, subst, sym, rules}
use Rattle.clap.specs.Words.{app_of, is_simple, is_simple_and_free}
use Rattle.command_words.proofs.Parse.{large_accepted, large_is_free, large_is_simple}
use Rattle.command_words.proofs.Parse.{large_refused}
use Rattle.command_words.specs.LargeWords.{large_request_in}
use Rattle.command_words.specs.Reading.{Gives}
use Rattle.command_words.proofs.large.read_large_words.Goals as goal

pub returns-in-Ok-try_get_matches_from : goal.returns-in-Ok-try_get_matches_from
returns-in-Ok-try_get_matches_from c =
    let parse = c.in-Ok-try_get_matches_from.ensures in
    let made = c.in-Ok.ensures in
    let none = parse.kinds (ap is_simple_and_free made ∙ large_is_free) in
    let read = parse.matches (ap is_simple made ∙ large_is_simple) in
    subst (λ wanted. Gives wanted c.large_request_in.result)
    (ap₂ large_request_in read.0 read.1 ∙ sym (large_accepted (app_of c.in-Ok.program) _ made none))
    c.large_request_in.ensures

pub returns-in-Err-2 : goal.returns-in-Err-2
returns-in-Err-2 c =
    let made = c.in-Ok.ensures in
    let kinds = c.in-Err.ensures.kinds (ap is_simple_and_free made ∙ large_is_free) in
    large_refused (app_of c.in-Ok.program) _ _ made kinds (search rules)
