use Rattle.std.proofs.lemmas.Str.{IsUtf8-from_ascii}
use Rattle.program_text.proofs.Runs.{run_is_ascii}
use Rattle.program_text.proofs.words.text_of.Goals as goal

pub unreachable-requires : goal.unreachable-requires
unreachable-requires c =
    c.in-Err.ensures.cases.0
    (IsUtf8-from_ascii c.args.run.now (run_is_ascii c.args.run.now c.requires))
