-- Along one task: each of its segments leads to each later one.
use Rattle.std.proofs.Common.{ℕ, zero, suc, ◌+◌, ◌-◌, ◌<◌, ◌≤◌, ◌≡◌, inl, inr, refl, sym, ◌∙◌, ap}
use Rattle.std.proofs.Common.{subst, arith}
use Rattle.std.proofs.lemmas.Bool.{cases_lt}
use Rattle.task_segments.specs.Table.{Table, segment, task}
use Rattle.task_segments.specs.declared.table.Closing.{Closing}
use Rattle.task_segments.specs.declared.table.Closing.TheVariants.{Creates, Waits, EndsGroup}
use Rattle.task_segments.specs.declared.table.Closing.TheVariants.{EndsTask}
use Rattle.task_segments.specs.Precedence.{IsSegment, IsTask, Continues}
use Rattle.task_segments.specs.Nesting.{IsNestedTable}
use Rattle.task_segments.specs.InPlace.{IsOf}
use Rattle.task_segments.proofs.Order.{continues_up, after_created}
use Rattle.task_segments.proofs.Reaches.{Reaches}
use Rattle.task_segments.proofs.Reaches.Reaches.{Stays, Goes}

-- no other segment of a task lies between one and its next
pub next_is_nearest : (table : Table)
    → IsNestedTable table
    → (s t other : ℕ)
    → Continues table s t
    → IsSegment table other
    → (segment table other).task ≡ (segment table s).task
    → s < other
    → t ≤ other
next_is_nearest table nested s t other next is_other of_task after = grind (arith, cases_lt)

-- a segment that is not its task's last has a next
pub has_next : (table : Table) → IsNestedTable table → (s : ℕ) → IsSegment table s
    → s < (task table (segment table s).task).last → (t : ℕ) × Continues table s t
has_next table nested s is_s less = by_closing (segment table s).closing refl
  where
    by_closing : (closing : Closing)
        → (segment table s).closing ≡ closing
        → (t : ℕ) × Continues table s t
    by_closing (Creates u) e = ((task table u).last + 1, after_created table nested s u is_s e)
    by_closing Waits e = (s + 1, nested.after_wait s is_s e)
    by_closing EndsGroup e = (s + 1, nested.after_group s is_s e)
    by_closing EndsTask e = absurd (let last = nested.ends s is_s e in omega arith)

-- a segment is of a task that there is
pub is_owner : (table : Table) → IsNestedTable table → (u s : ℕ) → IsOf table u s → IsTask table u
is_owner table nested u s a = subst (λ n. IsTask table n) a.of_task (nested.tasks s a.is_segment)

-- a chain leads along a task from one of its segments to a later one
pub reaches_along_task : (fuel : ℕ) (table : Table)
    → IsNestedTable table
    → (s t u : ℕ)
    → IsOf table u s
    → IsOf table u t
    → s ≤ t
    → t - s ≤ fuel
    → Reaches (Continues table) s t
reaches_along_task zero table nested s t u a b h bound =
    let same : s ≡ t = omega arith in subst (Reaches (Continues table) s) same Stays
reaches_along_task (suc fuel) table nested s t u a b h bound =
    elim (cases_lt s t) [
      | inr none ↦ let same : s ≡ t = omega arith in subst (Reaches (Continues table) s) same Stays
      | inl less ↦
          let between =
          (nested.segments u (is_owner table nested u s a)).between t b.is_segment b.of_task in
          let within = between.1 in
          let last = ap (λ n. (task table n).last) a.of_task in
          let next = has_next table nested s a.is_segment (omega arith) in
          let larger = continues_up table nested s next.0 next.1 in
          let nearest =
          next_is_nearest table nested s next.0 t next.1 b.is_segment (b.of_task ∙ sym a.of_task)
          less in
          Goes next.1 (reaches_along_task fuel table nested next.0 t u
          (record { is_segment = next.1.is_to; of_task = next.1.same_task ∙ a.of_task }) b nearest
          (omega arith))
    ]

-- the last segment of a task is of it
pub is_last : (table : Table)
    → IsNestedTable table
    → (u : ℕ)
    → IsTask table u
    → IsOf table u (task table u).last
is_last table nested u is_u =
    let whole = nested.segments u is_u in
    record { is_segment = whole.is_last; of_task = whole.of_last }

-- from a segment of a task to its last
pub along_to_last : (table : Table) → IsNestedTable table → (s u : ℕ) → IsOf table u s
    → Reaches (Continues table) s (task table u).last
along_to_last table nested s u a =
    let is_u = is_owner table nested u s a in
    let between = (nested.segments u is_u).between s a.is_segment a.of_task in
    let bound = between.1 in
    reaches_along_task ((task table u).last - s) table nested s (task table u).last u a
    (is_last table nested u is_u) (omega arith) (omega arith)

-- from the first segment of a task to its last
pub along_task : (table : Table) → IsNestedTable table → (u : ℕ) → IsTask table u
    → Reaches (Continues table) (task table u).first (task table u).last
along_task table nested u is_u = grind (arith, is_last, along_to_last)
