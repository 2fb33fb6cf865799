-- The one segment by whose finish another opens.
use Rattle.std.proofs.Common.{ℕ, ◌+◌, ◌≡◌, ◌⊎◌, ◌↔◌, Option, Some, None, refl, sym, ap, ◌∙◌, subst}
use Rattle.std.proofs.Common.{arith, inl, inr}
use Rattle.std.proofs.lemmas.Option.{same_Some, none-some}
use Rattle.task_segments.specs.Table.{Table, segment, task}
use Rattle.task_segments.specs.declared.table.Closing.{Closing}
use Rattle.task_segments.specs.declared.table.Closing.TheVariants.{Creates, Waits, EndsGroup}
use Rattle.task_segments.specs.declared.table.Closing.TheVariants.{EndsTask}
use Rattle.task_segments.specs.Precedence.{IsSegment, Continues, Creation}
use Rattle.task_segments.specs.InPlace.{IsReadInPlace}

-- the segment after the last of a child is that after the child's creator
pub ends_child : (table : Table) (last creator : ℕ)
    → IsReadInPlace table
    → IsSegment table last
    → (segment table last).closing ≡ EndsTask
    → (task table (segment table last).task).creator ≡ Some creator
    → Continues table creator (last + 1)
    × ((segment table creator).closing ≡ Creates (segment table last).task)
ends_child table last creator facts known ends is_creator =
    let child : ℕ = (segment table last).task in
    let is_task = facts.has_task last known in
    let at_end : (task table child).last ≡ last = facts.ends_last last known ends in (
      subst (λ (n : ℕ). Continues table creator (n + 1)) at_end
          (facts.after_task child creator is_task is_creator),
      (facts.created creator child is_task is_creator).1,
    )

not_ends : (closing : Closing) (child : ℕ) → closing ≡ EndsTask → closing ≡ Creates child → ⊥
not_ends closing child one other = cc

no_wait_end : (closing : Closing) → closing ≡ EndsTask → closing ≡ Waits → ⊥
no_wait_end closing one other = cc

no_group_end : (closing : Closing) → closing ≡ EndsTask → closing ≡ EndsGroup → ⊥
no_group_end closing one other = cc

-- the segment before one that follows another of its task is not the root's last
followed_root : (table : Table) (last s : ℕ) (closing : Closing)
    → IsReadInPlace table
    → (segment table last).closing ≡ EndsTask
    → (task table (segment table last).task).creator ≡ None
    → Continues table s (last + 1)
    → (segment table s).closing ≡ closing
    → ⊥
followed_root table last s (Creates child) facts ends none follows is =
    let made = facts.creates s child follows.is_from is in
    let after : (task table child).last + 1 ≡ last + 1 = facts.one_follows s
    ((task table child).last + 1) (last + 1) (facts.after_task child s made.0 made.1) follows in
    let same : (task table child).last ≡ last = omega (arith, after) in
    let of_child : (segment table last).task ≡ child =
    ap (λ (n : ℕ). (segment table n).task) (sym same) ∙ (facts.last_of child made.0).of_task in
    none-some s (sym none ∙ ap (λ (u : ℕ). (task table u).creator) of_child ∙ made.1)
followed_root table last s Waits facts ends none follows is =
    let after : s + 1 ≡ last + 1 =
    facts.one_follows s (s + 1) (last + 1) (facts.after_wait s follows.is_from is) follows in
    let same : s ≡ last = omega (arith, after) in
    no_wait_end (segment table last).closing ends
    (ap (λ (n : ℕ). (segment table n).closing) (sym same) ∙ is)
followed_root table last s EndsGroup facts ends none follows is =
    let after : s + 1 ≡ last + 1 =
    facts.one_follows s (s + 1) (last + 1) (facts.after_group s follows.is_from is) follows in
    let same : s ≡ last = omega (arith, after) in
    no_group_end (segment table last).closing ends
    (ap (λ (n : ℕ). (segment table n).closing) (sym same) ∙ is)
followed_root table last s EndsTask facts ends none follows is =
    let at_end : (task table (segment table s).task).last ≡ s =
    facts.ends_last s follows.is_from is in
    facts.last_followed (segment table s).task (last + 1) (facts.has_task s follows.is_from)
    (subst (λ (n : ℕ). Continues table n (last + 1)) (sym at_end) follows)

pub ends_root : (table : Table) (last : ℕ)
    → IsReadInPlace table
    → (segment table last).closing ≡ EndsTask
    → (task table (segment table last).task).creator ≡ None
    → (s : ℕ) × (Continues table s (last + 1) ⊎ Creation table s (last + 1))
    → ⊥
ends_root table last facts ends none opener = elim opener.1 [
  | inl follows ↦ followed_root table last opener.0 (segment table opener.0).closing facts ends none
      follows refl
  | inr creation ↦
      let child : ℕ = creation.child in
      let made = facts.created opener.0 child creation.is_child creation.creator in
      let first = facts.first_created child opener.0 creation.is_child creation.creator in
      let same : opener.0 ≡ last =
      let at_first = creation.first in omega (arith, first, at_first) in
      not_ends (segment table last).closing child ends
      (ap (λ (n : ℕ). (segment table n).closing) (sym same) ∙ made.1)
]

abbrev pub Opens : Table → ℕ → ℕ → Type 0
Opens table s t = Continues table s t ⊎ Creation table s t

pub created_apart : (table : Table) (a b t : ℕ) → IsReadInPlace table → Continues table a t
    → Creation table b t → ⊥
created_apart table a b t facts follows creation =
    facts.first_follows creation.child a creation.is_child
    (subst (λ (n : ℕ). Continues table a n) (sym creation.first) follows)

pub one_opener : (table : Table) (a b t : ℕ) → IsReadInPlace table → Opens table a t
    → Opens table b t → a ≡ b
one_opener table a b t facts (inl one) (inl other) = facts.follows_one a b t one other
one_opener table a b t facts (inl one) (inr other) =
    absurd (created_apart table a b t facts one other)
one_opener table a b t facts (inr one) (inl other) =
    absurd (created_apart table b a t facts other one)
one_opener table a b t facts (inr one) (inr other) =
    let same : one.child ≡ other.child = facts.first_of_one one.child other.child one.is_child
    other.is_child (one.first ∙ sym other.first) in
    same_Some a b (sym one.creator ∙ ap (λ (u : ℕ). (task table u).creator) same ∙ other.creator)

pub none_opens_first : (table : Table) (s : ℕ) → IsReadInPlace table → ¬ Opens table s 0
none_opens_first table s facts (inl follows) =
    let less = facts.follows_later s 0 follows in absurd (omega (arith, less))
none_opens_first table s facts (inr creation) =
    let first = facts.first_created creation.child s creation.is_child creation.creator in
    let at_first = creation.first in
    absurd (omega (arith, first, at_first))

-- after the last segment of a task it is the task's creator
pub opens_ended : (table : Table) (last s : ℕ) (creator : Option ℕ)
    → IsReadInPlace table
    → IsSegment table last
    → (segment table last).closing ≡ EndsTask
    → (task table (segment table last).task).creator ≡ creator
    → ((s : ℕ) × Opens table s (last + 1))
    → (creator ≡ Some s) ↔ Opens table s (last + 1)
opens_ended table last s None facts known ends is opener =
    absurd (ends_root table last facts ends is opener)
opens_ended table last s (Some c) facts known ends is opener =
    let follows = (ends_child table last c facts known ends is).0 in (
      λ same. inl (subst (λ (n : ℕ). Continues table n (last + 1)) (same_Some c s same) follows),
      λ opens. ap (λ (n : ℕ). Some n) (one_opener table c s (last + 1) facts (inl follows) opens),
    )

pub opened_ended : (table : Table) (last : ℕ)
    → IsReadInPlace table
    → (segment table last).closing ≡ EndsTask
    → ((s : ℕ) × Opens table s (last + 1))
    → ¬ ((task table (segment table last).task).creator ≡ None)
opened_ended table last facts ends opener none = ends_root table last facts ends none opener

-- and else the segment before it
opens_next : (table : Table) (before : ℕ) (closing : Closing)
    → IsReadInPlace table
    → IsSegment table before
    → (segment table before).closing ≡ closing
    → ¬ (closing ≡ EndsTask)
    → Opens table before (before + 1)
opens_next table before (Creates child) facts known is no_end =
    let made = facts.creates before child known is in
    inr (record {
      child = child;
      is_child = made.0;
      creator = made.1;
      first = facts.first_created child before made.0 made.1;
    })
opens_next table before Waits facts known is no_end = inl (facts.after_wait before known is)
opens_next table before EndsGroup facts known is no_end = inl (facts.after_group before known is)
opens_next table before EndsTask facts known is no_end = absurd (no_end refl)

pub opens_after : (table : Table) (before s : ℕ)
    → IsReadInPlace table
    → IsSegment table before
    → ¬ ((segment table before).closing ≡ EndsTask)
    → (Some before ≡ Some s) ↔ Opens table s (before + 1)
opens_after table before s facts known no_end =
    let opens = opens_next table before (segment table before).closing facts known refl no_end in (
      λ same. subst (λ (n : ℕ). Opens table n (before + 1)) (same_Some before s same) opens,
      λ other. ap (λ (n : ℕ). Some n) (one_opener table before s (before + 1) facts opens other),
    )
