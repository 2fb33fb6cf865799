-- What the pass over the marks finds as an end is the least one.
use Rattle.std.proofs.Common.{ℕ, ◌<◌}
use Rattle.std.proofs.Common.{List, arith}
use Rattle.task_program.specs.Marks.{Mark}
use Rattle.task_program.specs.Nested.{IsNested}
use Rattle.task_segments.specs.Moments.{last_moment}
use Rattle.task_segments.specs.Moments.{segments_so_far}
use Rattle.task_segments.specs.Table.{table_at, table_of}
use Rattle.task_segments.specs.Precedence.{IsSegment, MustPrecede}
use Rattle.task_segments.specs.Schedule.{at}
use Rattle.task_segments.proofs.Facts.{IsLast, segments-at}
use Rattle.task_segments.proofs.LastMoment.{last_of_nested}
use Rattle.task_segments.proofs.Schedules.{at-by_rule}
use Rattle.task_segments.proofs.StartsAndTails.{IsLeastStart-earliest}
use Rattle.online_span.specs.Awaiting.{end_of}
use Rattle.online_span.specs.LeastEnds.{IsLeastEndOf}
use Rattle.online_span.specs.Spans.{costs_at}
use Rattle.online_span.proofs.Earliest.{cost-at, costs-length, end_is, start_of, starts_at}
use Rattle.online_span.proofs.Program.{must_ascend, must_be_earliest}

least_end : (e : List Mark) → IsLast e → (s : ℕ) → s < segments_so_far e
    → IsLeastEndOf (table_at e) s (end_of e s)
least_end e last s l =
    let n = segments_so_far e in
    record {
      start = at (starts_at e) s;
      is_least_start = IsLeastStart-earliest (costs_at e) (MustPrecede (table_at e)) (starts_at e)
          (must_ascend e last) (must_be_earliest e last) s (omega (arith, costs-length e));
      ends = omega (arith, at-by_rule (start_of e) n s l, cost-at e s l, end_is e s l);
    }

pub segment_ends : (body : List Mark) (s : ℕ) → IsNested body → IsSegment (table_of body) s
    → IsLeastEndOf (table_of body) s (end_of (last_moment body) s)
segment_ends body s n l =
    let e = last_moment body in
    least_end e (last_of_nested body n) s (omega (arith, l, segments-at e))
