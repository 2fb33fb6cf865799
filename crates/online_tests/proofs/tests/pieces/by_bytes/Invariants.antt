use Rattle.std.proofs.Common.{ℕ, ◌≡◌, ◌≤◌, ◌-◌, List, length}
use Rattle.large_text.specs.Streamed.{HasTaken}
use Rattle.online_tests.proofs.tests.pieces.by_bytes.Given as goal

abbrev pub invariant-bytes : goal.invariant-bytes
invariant-bytes l = record {
  so_far : (bytes : List ℕ) × HasTaken bytes l.meter × (length bytes ≡ l.taken);
  within : l.taken ≤ length l.text;
}

abbrev pub decreases-bytes : goal.decreases-bytes
decreases-bytes l = length l.text - l.taken
