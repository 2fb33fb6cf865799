-- The greatest end at the last moment of a program is the span of its table.
use Rattle.std.proofs.Common.{ℕ, ◌<◌, List, inl, inr, arith, ap, length}
use Rattle.task_program.specs.Marks.{Mark}
use Rattle.task_program.specs.Nested.{IsNested}
use Rattle.task_segments.specs.Moments.{last_moment, open_tasks}
use Rattle.task_segments.specs.Table.{table_at}
use Rattle.task_segments.specs.Precedence.{MustPrecede}
use Rattle.task_segments.specs.Schedule.{end_of}
use Rattle.task_segments.specs.StartsAndTails.{IsAscending, IsEarliest}
use Rattle.task_segments.proofs.Facts.{IsLast}
use Rattle.task_segments.proofs.StartsAndTails.{IsSpan-earliest, IsLeastEnd-earliest}
use Rattle.task_segments.proofs.LastMoment.{last_of_nested}
use Rattle.online_span.specs.Measuring.{IsGreatestEnd}
use Rattle.online_span.specs.Spans.{IsSpanOf, costs_at}
use Rattle.online_span.proofs.Stays.{some_segment}
use Rattle.online_span.proofs.Earliest.{ascends, earliest, span_under, starts_at, costs-length}
use Rattle.online_span.proofs.Whole.{awaited_precedes, preceding_is_awaited}

pub must_ascend : (e : List Mark) → IsLast e → IsAscending (MustPrecede (table_at e))
must_ascend e last = record {
  up = λ s t r. (ascends e last.proper).up s t (preceding_is_awaited e last s t r);
}

pub must_be_earliest : (e : List Mark) → IsLast e
    → IsEarliest (costs_at e) (MustPrecede (table_at e)) (starts_at e)
must_be_earliest e last =
    let first = earliest e last.proper in
    record {
      legal = record {
        each = first.legal.each;
        kept = λ s t l r. first.legal.kept s t l (preceding_is_awaited e last s t r);
      };
      reached = λ t l. elim (first.reached t l) [
        | inl none ↦ inl none
        | inr k ↦ inr (k.0, awaited_precedes e last k.0 t k.1, k.2)
      ];
    }

pub span_of_program : (body : List Mark) → IsNested body → (span : ℕ)
    → IsGreatestEnd (last_moment body) span
    → IsSpanOf body span
span_of_program body nested span h =
    let e = last_moment body in
    let last = last_of_nested body nested in
    let one : 0 < length (open_tasks e) = omega (arith, ap (λ (xs : List ℕ). length xs) last.root) in
    let is = span_under e (MustPrecede (table_at e)) span (some_segment e last.proper one)
    (must_ascend e last) (must_be_earliest e last) h in
    record { greatest_sum = is.0; least_end = is.1 }

-- and there is one
pub span_exists : (body : List Mark) → IsNested body → (span : ℕ) × IsSpanOf body span
span_exists body nested =
    let e = last_moment body in
    let last = last_of_nested body nested in
    let R = MustPrecede (table_at e) in
    let one : 0 < length (open_tasks e) = omega (arith, ap (λ (xs : List ℕ). length xs) last.root) in
    let some = some_segment e last.proper one in
    let many = costs-length e in (
      end_of (costs_at e) (starts_at e),
      record {
        greatest_sum = IsSpan-earliest (costs_at e) R (starts_at e) (must_ascend e last)
            (must_be_earliest e last) (omega arith);
        least_end = IsLeastEnd-earliest (costs_at e) R (starts_at e) (must_ascend e last)
            (must_be_earliest e last);
      },
    )
