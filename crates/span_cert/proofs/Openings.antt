-- What a segment can have to wait for, by where it opens.
use Rattle.std.proofs.Common.{ℕ, ◌+◌, ◌≡◌, ◌⊎◌, true, Some, inl, inr, sym, ◌∙◌, ap, subst, arith}
use Rattle.std.proofs.lemmas.Option.{same_Some}
use Rattle.program_text.specs.Conflict.{items_conflict}
use Rattle.task_segments.specs.Nesting.{IsNestedTable}
use Rattle.task_segments.specs.Precedence.{Continues, IsTask, MustPrecede}
use Rattle.task_segments.specs.Table.{Table, segment, task}
use Rattle.task_segments.proofs.Order.{continues_up, depends_parts, not_root_made, one_next}
use Rattle.span_cert.specs.NameMarks.{IsCut, OpensAfterChild, OpensTask}

-- a segment that opens its task is no next one
opens_no_next : (table : Table) → IsNestedTable table → (s t : ℕ) → OpensTask table t
    → ¬ Continues table s t
opens_no_next table nested s t opens next =
    let up = continues_up table nested s t next in
    let own = (segment table t).task in
    let within = (nested.segments own (nested.tasks t next.is_to)).between s next.is_from
    (sym next.same_task) in
    omega (arith, up, within.0, opens)

-- the first segment of a task is one of that task
first_is_of : (table : Table) → IsNestedTable table → (u t : ℕ) → IsTask table u
    → (task table u).first ≡ t
    → u ≡ (segment table t).task
first_is_of table nested u t is_task first =
    sym (nested.segments u is_task).of_first ∙ ap (λ (s : ℕ). (segment table s).task) first

-- so the first segment of any task opens its task
first_opens : (table : Table) → IsNestedTable table → (u t : ℕ) → IsTask table u
    → (task table u).first ≡ t
    → OpensTask table t
first_opens table nested u t is_task first =
    ap (λ (v : ℕ). (task table v).first) (sym (first_is_of table nested u t is_task first)) ∙ first

-- what opens its task waits for its creator and for what conflicts
pub first_waits : (table : Table) → IsNestedTable table → (s t : ℕ) → OpensTask table t
    → MustPrecede table s t
    → ((task table (segment table t).task).creator ≡ Some s)
    ⊎ (items_conflict (task table (segment table s).task).items
    (task table (segment table t).task).items ≡ true)
first_waits table nested s t opens precedes = elim precedes [
  | inl next ↦ absurd (opens_no_next table nested s t opens next)
  | inr p ↦ elim p [
    | inl c ↦ inl (ap (λ (v : ℕ). (task table v).creator)
        (sym (first_is_of table nested c.child t c.is_child c.first)) ∙ c.creator)
    | inr q ↦ elim q [
      | inl r ↦ absurd (opens_no_next table nested r.creator t opens r.resumes)
      | inr x ↦ elim x [
        | inl d ↦ inr (depends_parts table nested s t d).2.conflict
        | inr y ↦ elim y [
          | inl w ↦ absurd (opens_no_next table nested w.before t opens w.opens)
          | inr g ↦
              absurd (opens_no_next table nested g.encloses.before t opens g.encloses.opens)
        ]
      ]
    ]
  ]
]

-- what opens after a cut follows the segment that ends there
next_of_cut : (table : Table) → IsNestedTable table → (before t : ℕ)
    → IsCut (segment table before).closing
    → Continues table before t
    → before + 1 ≡ t
next_of_cut table nested before t cut next = elim cut [
  | inl waits ↦ one_next table nested before (before + 1) t
      (nested.after_wait before next.is_from waits) next
  | inr group ↦ one_next table nested before (before + 1) t
      (nested.after_group before next.is_from group) next
]

-- what opens after a child waits for its own task and for the segment before it
pub after_child_waits : (table : Table) → IsNestedTable table → (s t : ℕ) → OpensAfterChild table t
    → MustPrecede table s t
    → (s + 1 ≡ t) ⊎ ((segment table s).task ≡ (segment table t).task)
after_child_waits table nested s t opens precedes = elim precedes [
  | inl next ↦ inr (sym next.same_task)
  | inr p ↦ elim p [
    | inl c ↦ absurd (opens.within (first_opens table nested c.child t c.is_child c.first))
    | inr q ↦ elim q [
      | inl r ↦
          let child = nested.children r.child
          (not_root_made table nested r.child r.creator r.is_creator) r.is_child in
          let same : child.creator ≡ r.creator = same_Some _ _ (sym child.is_creator ∙ r.is_creator)
          in
          let P : ℕ → Type 0 = λ c. Continues table c t in
          let next = one_next table nested child.creator ((task table r.child).last + 1) t
          child.resumes (subst P (sym same) r.resumes) in
          inl (omega (arith, next, r.last))
      | inr x ↦ elim x [
        | inl d ↦
            absurd (opens.within (first_opens table nested d.later t d.is_later d.first))
        | inr y ↦ elim y [
          | inl w ↦ absurd (opens.no_cut w.before
              (next_of_cut table nested w.before t (inl w.waits) w.opens) (inl w.waits))
          | inr g ↦ absurd (opens.no_cut g.encloses.before
              (next_of_cut table nested g.encloses.before t (inr g.encloses.ends_group)
              g.encloses.opens) (inr g.encloses.ends_group))
        ]
      ]
    ]
  ]
]
