-- Bounds of the schedules of nested marks, whatever their number.
use Rattle.std.proofs.Common.{◌≡◌, ◌≤◌, ◌<◌, ◌+◌, ◌-◌, ℕ, List, length, take, sum, arith}
use Rattle.std.proofs.Common.{subst, zero, suc, ap, add-zero}
use Rattle.std.proofs.lemmas.List.Sums.{sum_by-take-le, sum_by_more}
use Rattle.task_program.specs.Limits.{work_of}
use Rattle.task_program.specs.Marks.{Mark}
use Rattle.task_program.specs.Nested.{IsNested}
use Rattle.task_segments.specs.Moments.{last_moment}
use Rattle.task_segments.specs.Precedence.{MustPrecede}
use Rattle.task_segments.specs.Schedule.{IsLegal, IsSpan, at, end_of}
use Rattle.task_segments.specs.StartsAndTails.{IsAscending}
use Rattle.task_segments.specs.Table.{costs_of, table_of}
use Rattle.task_segments.proofs.Facts.{nested}
use Rattle.task_segments.proofs.Order.{goes_up}
use Rattle.task_segments.proofs.LastMoment.{last_of_nested}
use Rattle.task_segments.proofs.Schedules.{IsLegal-by_rule, by_rule, end_of-by_rule}
use Rattle.task_segments.proofs.Work.{all_work_at}
use Rattle.online_span.specs.Spans.{IsSpanOf}
use Rattle.greedy_sim.proofs.EverySchedule.{span-le}

-- what must precede a segment has a smaller number, in the table of any nested marks
pub must_ascend : (body : List Mark) → IsNested body → IsAscending (MustPrecede (table_of body))
must_ascend body h = record {
  up = goes_up (table_of body) (nested (last_moment body) (last_of_nested body h));
}

-- the costs of its segments add up to the work of the marks
pub all_work_of : (body : List Mark) → IsNested body
    → sum (costs_of (table_of body)) ≡ work_of (last_moment body)
all_work_of body h = all_work_at (last_moment body) (last_of_nested body h).proper

-- ---- one segment after another

-- the schedule that starts each segment once all before it have ended
abbrev work_before : List ℕ → ℕ → ℕ
work_before costs s = sum (take s costs)

work_more : (costs : List ℕ) (s : ℕ)
    → s < length costs
    → work_before costs (s + 1) ≡ work_before costs s + at costs s
work_more costs s inside = sum_by_more (λ x. x) costs s 0 inside

work_grows : (costs : List ℕ) (s d : ℕ)
    → s + d ≤ length costs
    → work_before costs s ≤ work_before costs (s + d)
work_grows costs s zero inside =
    let same : work_before costs (s + 0) ≡ work_before costs s =
    ap (work_before costs) (add-zero s) in
    omega (arith, same)
work_grows costs s (suc d) inside =
    let before : work_before costs s ≤ work_before costs (s + d) =
    work_grows costs s d (omega arith) in
    let more : work_before costs (s + d + 1) ≡ work_before costs (s + d) + at costs (s + d) =
    work_more costs (s + d) (omega arith) in
    let one_on : s + suc d ≡ s + d + 1 = omega arith in
    omega (arith, before, more, ap (work_before costs) one_on)

-- it is legal, and ends with the work
pub span_is_within : (costs : List ℕ) (R : ℕ → ℕ → Type 0) (span : ℕ) → IsAscending R
    → IsSpan costs R span → span ≤ sum costs
span_is_within costs R span asc is_span =
    let legal : IsLegal costs R (by_rule (work_before costs) (length costs)) =
    IsLegal-by_rule costs R asc (work_before costs) (λ s t s_in t_in pair.
    let up : s < t = asc.up s t pair in
    let whole : s + 1 + (t - (s + 1)) ≡ t = omega arith in
    let later : work_before costs (s + 1) ≤ work_before costs t =
    subst (λ (n : ℕ). work_before costs (s + 1) ≤ work_before costs n) whole
    (work_grows costs (s + 1) (t - (s + 1)) (omega arith)) in
    omega (arith, work_more costs s s_in, later)) in
    let ends : end_of costs (by_rule (work_before costs) (length costs)) ≤ sum costs =
    end_of-by_rule costs (work_before costs) (sum costs) (λ s inside.
    omega (arith, work_more costs s inside, sum_by-take-le (λ x. x) costs (s + 1))) in
    omega (
      arith,
      ends,
      span-le costs R span (by_rule (work_before costs) (length costs)) legal is_span,
    )

-- the span of nested marks is no more than their work
pub within_work : (body : List Mark) (span : ℕ) → IsNested body → IsSpanOf body span
    → span ≤ work_of (last_moment body)
within_work body span nested is_span =
    subst (λ (work : ℕ). span ≤ work) (all_work_of body nested)
    (span_is_within (costs_of (table_of body)) (MustPrecede (table_of body)) span
    (must_ascend body nested) is_span.greatest_sum)
