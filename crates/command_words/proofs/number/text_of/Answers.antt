use Rattle.std.proofs.lemmas.Str.{IsUtf8-from_ascii}
use Rattle.command_words.proofs.Digits.{digits_are_ascii}
use Rattle.command_words.proofs.number.text_of.Goals as goal

pub unreachable-requires : goal.unreachable-requires
unreachable-requires c =
    c.in-Err.ensures.cases.0
    (IsUtf8-from_ascii c.args.digits.now (digits_are_ascii c.args.digits.now c.requires))
