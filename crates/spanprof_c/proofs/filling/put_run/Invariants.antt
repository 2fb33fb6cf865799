use Rattle.std.proofs.Common.{ℕ, ◌<◌, ◌≡◌, None, get_or}
use Rattle.spanprof_c.specs.Told.{thread_number}
use Rattle.spanprof_c.proofs.filling.put_run.Given as goal

abbrev pub invariant-loop-segment : goal.invariant-loop-segment
invariant-loop-segment l = record {
  starts : (k : ℕ) → k < l.segment → get_or l.starts k 0 ≡ get_or l.run.starts k 0;
  threads : (k : ℕ)
      → k < l.segment
      → get_or l.threads k 0 ≡ thread_number (get_or l.run.threads k None);
}
