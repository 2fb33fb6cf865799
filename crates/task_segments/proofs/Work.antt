-- The costs of all segments together are the work of the program.
use Rattle.std.proofs.Common.{◌≡◌, ℕ, zero, suc, ◌+◌, ◌-◌, ◌<◌, ◌≤◌, inl, inr, true, false, List}
use Rattle.std.proofs.Common.{[], ◌∷◌, map, refl, ap, ◌∙◌, arith}
use Rattle.std.specs.List.{range_with_len, sum, sum_by}
use Rattle.std.proofs.lemmas.Bool.{cases_eq}
use Rattle.std.proofs.lemmas.Bool.Decides.{nat_tests}
use Rattle.std.proofs.lemmas.List.FromFn.{sum_by-map-range_with_len_more}
use Rattle.std.proofs.lemmas.List.Sums.{sum_by-cons, sum-map}
use Rattle.task_program.specs.Limits.{work_done, work_of}
use Rattle.task_program.specs.Marks.{Mark}
use Rattle.task_program.specs.Marks.Mark.{Begins, Ends, Works, Waits, GroupBegins, GroupEnds}
use Rattle.task_program.specs.ProgramMarks.{ProgramMarks}
use Rattle.task_program.specs.Programs.{IsProgram}
use Rattle.task_program.proofs.Nested.{is_nested}
use Rattle.task_segments.specs.declared.table.Segment.{Segment}
use Rattle.task_segments.specs.Moments.{segments_so_far, opening_of, opens, cost_of, is_latest}
use Rattle.task_segments.specs.Moments.{moment_after, last_moment, IsProper}
use Rattle.task_segments.specs.MarksTable.{IsMarksTable}
use Rattle.task_segments.specs.Table.{Table, costs_of, segment_row, table_at, table_of}
use Rattle.task_segments.proofs.Facts.{begun_some_segment}
use Rattle.task_segments.proofs.LastMoment.{last_of_nested}
use Rattle.task_segments.proofs.Rows.{cost_none}
use Rattle.task_segments.proofs.Steps.{open_below, segments_opens}
use Rattle.program_text.specs.declared.limits.TheConstants.{MOST_WORK}

-- the costs of the first segments together
total : List Mark → ℕ → ℕ
total e zero = 0
total e (suc n) = total e n + cost_of n e

-- and the same as a sum over the rows
total_is : (e : List Mark) (n : ℕ)
    → sum_by (λ (row : Segment). row.cost)
    (map (λ s. segment_row e s (opening_of s e)) (range_with_len 0 n))
    ≡ total e n
unfolding total
total_is e zero = refl
total_is e (suc n) =
    let next : suc n ≡ n + 1 = omega arith in
    ap
    (λ (k : ℕ). sum_by (λ (row : Segment). row.cost)
    (map (λ s. segment_row e s (opening_of s e)) (range_with_len 0 k)))
    next
    ∙ sum_by-map-range_with_len_more (λ (row : Segment). row.cost)
    (λ s. segment_row e s (opening_of s e)) 0 n n (omega arith)
    ∙ ap (λ k. k + cost_of n e) (total_is e n)

none : (n : ℕ) → total [] n ≤ 0
unfolding total
none zero = omega arith
none (suc n) = omega (arith, none n)

-- work counts for the latest segment alone
gains : (cost : ℕ) (e : List Mark) (n : ℕ)
    → n < segments_so_far e
    → total (Works cost ∷ e) n ≡ total e n
unfolding total
gains cost e zero l = refl
gains cost e (suc n) l =
    let not_latest : is_latest n e ≡ false = grind (arith, nat_tests) in
    let earlier = gains cost e n (omega arith) in
    let same_cost : cost_of n (Works cost ∷ e) ≡ cost_of n e = rw not_latest (omega arith) in
    omega (arith, earlier, same_cost)

-- a case of the sum: one more mark that is no work
same : (m : Mark) (e : List Mark) → ((s : ℕ) → cost_of s (m ∷ e) ≡ cost_of s e) → (n : ℕ)
    → total (m ∷ e) n ≡ total e n
unfolding total
same m e h zero = refl
same m e h (suc n) = omega (arith, same m e h n, h n)

-- work adds its cost at most once
adds : (cost : ℕ) (e : List Mark) (n : ℕ) → total (Works cost ∷ e) n ≤ total e n + cost
unfolding total
adds cost e zero = omega arith
adds cost e (suc n) = elim (cases_eq (segments_so_far e) (n + 1)) [
  | inl x ↦ (
      let tested : is_latest n e ≡ true = grind (arith, nat_tests) in
      let earlier = gains cost e n (omega arith) in
      let cost_is : cost_of n (Works cost ∷ e) ≡ cost + cost_of n e = rw tested refl in
      omega (arith, earlier, cost_is))
  | inr x ↦ (
      let tested : is_latest n e ≡ false = grind (arith, nat_tests) in
      let earlier = adds cost e n in
      let cost_is : cost_of n (Works cost ∷ e) ≡ cost_of n e = rw tested (omega arith) in
      omega (arith, earlier, cost_is))
]

-- the sum is at most the work, however many numbers are counted
sums : (e : List Mark) (n : ℕ) → total e n ≤ work_of e
sums [] n = none n
sums (Begins d i ∷ e) n =
    omega (arith, same (Begins d i) e (λ s. refl) n, sums e n, sum_by-cons work_done (Begins d i) e)
sums (Ends ∷ e) n = omega (arith, same Ends e (λ s. refl) n, sums e n, sum_by-cons work_done Ends e)
sums (Works cost ∷ e) n =
    omega (arith, adds cost e n, sums e n, sum_by-cons work_done (Works cost) e)
sums (Waits ∷ e) n =
    omega (arith, same Waits e (λ s. refl) n, sums e n, sum_by-cons work_done Waits e)
sums (GroupBegins ∷ e) n =
    omega (arith, same GroupBegins e (λ s. refl) n, sums e n, sum_by-cons work_done GroupBegins e)
sums (GroupEnds ∷ e) n =
    omega (arith, same GroupEnds e (λ s. refl) n, sums e n, sum_by-cons work_done GroupEnds e)

total_more : (e : List Mark) (n : ℕ) → total e (n + 1) ≡ total e n + cost_of n e
unfolding total
total_more e n = let next : n + 1 ≡ suc n = omega arith in ap (total e) next

-- a case of the next sum: one more segment, with no cost yet
opens_same : (m : Mark) (e : List Mark)
    → opens m ≡ true
    → ((s : ℕ) → cost_of s (m ∷ e) ≡ cost_of s e)
    → total (m ∷ e) (segments_so_far (m ∷ e)) ≡ total e (segments_so_far e)
opens_same m e one_more h = grind (arith, total, segments_opens, total_more, same, cost_none)

works : (cost : ℕ) (e : List Mark) (n : ℕ) → segments_so_far e ≡ n + 1
    → total (Works cost ∷ e) (n + 1) ≡ total e (n + 1) + cost
works cost e n is =
    let latest : is_latest n e ≡ true = grind (arith, nat_tests) in
    let more : cost_of n (Works cost ∷ e) ≡ cost + cost_of n e = rw latest refl in
    omega (arith, total_more (Works cost ∷ e) n, total_more e n, gains cost e n (omega arith), more)

-- all work is some segment's
sums_all : (e : List Mark) → IsProper e → total e (segments_so_far e) ≡ work_of e
unfolding total
sums_all [] p = refl
sums_all (Begins d i ∷ e) p =
    omega (
      arith,
      opens_same (Begins d i) e refl (λ s. refl),
      sums_all e p.1,
      sum_by-cons work_done (Begins d i) e,
    )
sums_all (Ends ∷ e) p =
    omega (arith, opens_same Ends e refl (λ s. refl), sums_all e p.1, sum_by-cons work_done Ends e)
sums_all (Works cost ∷ e) p =
    let count = segments_so_far e in
    let one_open = p.0 in
    let some = begun_some_segment e p.1 (omega (arith, open_below e 0 0 (omega arith))) in
    let last : count ≡ (count - 1) + 1 = omega arith in
    omega (
      arith,
      ap (total (Works cost ∷ e)) last,
      works cost e (count - 1) last,
      ap (total e) last,
      sums_all e p.1,
      sum_by-cons work_done (Works cost) e,
    )
sums_all (Waits ∷ e) p =
    omega
    (arith, opens_same Waits e refl (λ s. refl), sums_all e p.1, sum_by-cons work_done Waits e)
sums_all (GroupBegins ∷ e) p =
    omega (
      arith,
      same GroupBegins e (λ s. refl) (segments_so_far e),
      sums_all e p.1,
      sum_by-cons work_done GroupBegins e,
    )
sums_all (GroupEnds ∷ e) p =
    omega (
      arith,
      opens_same GroupEnds e refl (λ s. refl),
      sums_all e p.1,
      sum_by-cons work_done GroupEnds e,
    )

pub work_read : (e marks : List Mark) → work_of (moment_after e marks) ≡ work_of e + work_of marks
work_read e [] = omega arith
work_read e (m ∷ marks) =
    omega (arith, work_read (m ∷ e) marks, sum_by-cons work_done m e, sum_by-cons work_done m marks)

-- the limit of the work of a table
pub little_work : (table : Table) → IsMarksTable table
    → sum (map (λ (row : Segment). row.cost) table.segments) ≤ MOST_WORK
little_work table h = grind (arith, map, sum-map, total_is, sums, work_read)

-- the table at a moment has all work so far
pub all_work_at : (e : List Mark) → IsProper e → sum (costs_of (table_at e)) ≡ work_of e
all_work_at e p =
    omega (
      arith,
      sum-map (λ (row : Segment). row.cost) (table_at e).segments,
      total_is e (segments_so_far e),
      sums_all e p,
    )

-- a table has all work of its program
pub all_work : (program : ProgramMarks) → IsProgram program
    → sum (costs_of (table_of program.marks)) ≡ work_of program.marks
all_work program h =
    let moment = last_moment program.marks in
    let proper = (last_of_nested program.marks (is_nested program h)).proper in
    omega (arith, all_work_at moment proper, work_read (Begins false [] ∷ []) program.marks)
