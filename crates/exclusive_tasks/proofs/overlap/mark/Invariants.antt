use Rattle.std.proofs.Common.{◌≡◌, ℕ, ◌<◌, ◌≤◌, length}
use Rattle.exclusive_tasks.specs.Exclusion.{claim_at}
use Rattle.exclusive_tasks.specs.Marking.{mark_after, mark_at}
use Rattle.exclusive_tasks.proofs.overlap.mark.Given as goal

abbrev pub invariant-loop-index : goal.invariant-loop-index
invariant-loop-index l = record {
  each : length l.marks ≡ length l.fn.marks;
  below : (i : ℕ) → i < l.index
      → mark_at l.marks i ≡ mark_after l.fn.event (claim_at l.claims i) (mark_at l.fn.marks i);
  above : (i : ℕ) → l.index ≤ i → mark_at l.marks i ≡ mark_at l.fn.marks i;
}
