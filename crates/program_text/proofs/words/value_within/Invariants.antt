use Rattle.std.proofs.Common.{◌≡◌, ◌≤◌, take}
use Rattle.program_text.specs.Words.{value_of}
use Rattle.program_text.proofs.words.value_within.Given as goal

abbrev pub invariant-loop-digit : goal.invariant-loop-digit
invariant-loop-digit
    l = record {
      so_far : l.value ≡ value_of (take l.digit-index l.digits);
      within : l.value ≤ l.most;
    }
