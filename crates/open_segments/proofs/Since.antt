-- Where the children since a task's previous wait begin. What waits ends no group.
use Rattle.std.proofs.Common.{ℕ, ◌<◌, ◌≤◌, ◌≡◌, ◌↔◌, refl, sym, ap, ◌∙◌}
use Rattle.std.proofs.Common.{arith, inl, inr}
use Rattle.std.proofs.lemmas.Bool.{cases_eq, cases_lt}
use Rattle.task_segments.specs.Table.{Table, segment, task}
use Rattle.task_segments.specs.declared.table.Closing.{Closing}
use Rattle.task_segments.specs.declared.table.Closing.TheVariants.{Waits, EndsGroup}
use Rattle.task_segments.specs.InPlace.{IsOf, IsReadInPlace}
use Rattle.task_segments.specs.Precedence.{Continues, IsEarlierChild}
use Rattle.depend_table.specs.KeptEdges.{KeptWait, KeptGroupEnd}
use Rattle.open_segments.specs.WaysToOpen.{Joins}
use Rattle.open_segments.proofs.Edges.{waits_not_creates}

-- the task does not wait from this segment on before that one
pub record Unwaited (table : Table) (from before : ℕ) : Type 0 where
  pub of_task : IsOf table (segment table before).task from
  pub up_to : from ≤ before
  pub none : (w : ℕ)
      → IsOf table (segment table before).task w
      → (segment table w).closing ≡ Waits
      → from ≤ w
      → before ≤ w

task_before : (table : Table) (u earlier from : ℕ)
    → Continues table earlier from
    → IsOf table u from
    → (segment table earlier).task ≡ u
task_before table u earlier from follows of_task = sym follows.same_task ∙ of_task.of_task

-- and not from the one before it on, which does not wait
pub unwaited_step : (table : Table) (earlier from before : ℕ)
    → IsReadInPlace table
    → Continues table earlier from
    → ¬ ((segment table earlier).closing ≡ Waits)
    → Unwaited table from before
    → Unwaited table earlier before
unwaited_step table earlier from before facts follows no_wait so_far = grind (arith, task_before, cases_eq)

-- the children that end from there on are waited for
pub waited_since : (table : Table) (from before next child : ℕ)
    → IsReadInPlace table
    → Continues table before next
    → (segment table before).closing ≡ Waits
    → Unwaited table from before
    → IsEarlierChild table child next
    → from ≤ (task table child).last
    → KeptWait table (task table child).last next
waited_since table from before next child facts follows waits since created above =
    let its_task : ℕ = (segment table next).task in
    let creator : ℕ = created.creator in
    let same : its_task ≡ (segment table before).task = follows.same_task in
    let of_task : IsOf table its_task from =
    record { is_segment = since.of_task.is_segment; of_task = since.of_task.of_task ∙ sym same } in
    let upto : from ≤ creator = elim (cases_lt creator from) [
      | inl below ↦ (let less =
          facts.children child its_task creator from created.parent created.is_creator of_task
          below in
          absurd (omega (arith, less, above)))
      | inr upto ↦ upto
    ] in
    record {
      wait = record {
        before = before;
        waits = waits;
        opens = follows;
        child = child;
        created = created;
        last = refl;
      };
      none_between = λ w is_segment of_task is_wait after. since.none w
          (record { is_segment = is_segment; of_task = of_task ∙ same }) is_wait
          (omega (arith, upto, after));
    }

-- the creator of a child that is waited for
pub record Created (table : Table) (before p : ℕ) (creator : ℕ) : Type 0 where
  pub of_task : IsOf table (segment table before).task creator
  pub earlier : creator < p

pub creator_precedes : (table : Table) (before next p : ℕ)
    → IsReadInPlace table
    → Continues table before next
    → (kept : KeptWait table p next)
    → Created table before p kept.wait.created.creator
creator_precedes table before next p facts follows kept =
    let made = kept.wait.created in
    let by =
    facts.creator_of kept.wait.child (segment table next).task made.creator made.is_child
    made.parent made.is_creator in
    let less = facts.created_before kept.wait.child made.creator made.is_child made.is_creator in
    record {
      of_task = record { is_segment = by.is_segment; of_task = by.of_task ∙ follows.same_task };
      earlier = omega (arith, less, kept.wait.last);
    }

-- none of them ends before the first segment of the task
pub since_first : (table : Table) (from before next p : ℕ)
    → IsReadInPlace table
    → Continues table before next
    → IsOf table (segment table before).task from
    → ((e : ℕ) → ¬ Continues table e from)
    → KeptWait table p next
    → from ≤ p
since_first table from before next p facts follows of_task none kept =
    let its_task : ℕ = (segment table before).task in
    let made = creator_precedes table before next p facts follows kept in
    let earlier = made.earlier in
    elim (cases_eq from 0) [
      | inl none ↦ omega (arith, none)
      | inr apart ↦
          let opens = facts.opens from (omega (arith, apart)) of_task.is_segment in
          elim opens.1 [
            | inl continues ↦ absurd (none opens.0 continues)
            | inr creation ↦
                let first = facts.first_of creation.child creation.is_child in
                let same : creation.child ≡ its_task =
                sym first.of_task
                ∙ ap (λ (n : ℕ). (segment table n).task) creation.first
                ∙ of_task.of_task in
                let at_first : (task table its_task).first ≡ from =
                ap (λ (n : ℕ). (task table n).first) (sym same) ∙ creation.first in
                let low = facts.from_first its_task kept.wait.created.creator made.of_task in
                omega (arith, low, at_first, earlier)
          ]
    ]

-- and none before the previous wait
pub since_wait : (table : Table) (earlier from before next p : ℕ) → IsReadInPlace table
    → Continues table before next → Unwaited table from before → Continues table earlier from
    → (segment table earlier).closing ≡ Waits → KeptWait table p next → from ≤ p
since_wait table earlier from before next p facts follows since previous waits kept =
    let its_task : ℕ = (segment table before).task in
    let wait = kept.wait in
    let creator : ℕ = wait.created.creator in
    let made = creator_precedes table before next p facts follows kept in
    let of_task : (segment table earlier).task ≡ its_task =
    task_before table its_task earlier from previous since.of_task in
    let less = made.earlier in
    let later = facts.follows_later earlier from previous in
    let up = since.up_to in
    elim (cases_lt p from) [
      | inr above ↦ above
      | inl below ↦ elim (cases_lt earlier creator) [
        | inl after ↦
            let past =
            facts.nearest earlier from creator previous
            (record {
              is_segment = made.of_task.is_segment;
              of_task = made.of_task.of_task ∙ sym of_task;
            })
            after in
            absurd (omega (arith, past, less, below))
        | inr upto ↦ elim (cases_eq creator earlier) [
          | inl same ↦
              let creates =
              (facts.created creator wait.child wait.created.is_child
              wait.created.is_creator).1 in
              absurd (waits_not_creates (segment table creator).closing wait.child
              (ap (λ (n : ℕ). (segment table n).closing) same ∙ waits) creates)
          | inr apart ↦
              let past =
              kept.none_between earlier previous.is_from (of_task ∙ sym follows.same_task) waits
              (omega (arith, apart, upto)) in
              absurd (omega (
                arith,
                past,
                later,
                up,
                facts.follows_one wait.before before next wait.opens follows,
              ))
        ]
      ]
    ]

no_group : (closing : Closing) → closing ≡ Waits → closing ≡ EndsGroup → ⊥
no_group closing waits ends = cc

-- after a wait no group's end is recorded, and after the end of a group no wait
pub wait_no_group : (table : Table) (before next s : ℕ)
    → IsReadInPlace table
    → Continues table before next
    → (segment table before).closing ≡ Waits
    → ¬ KeptGroupEnd table s next
wait_no_group table before next s facts follows waits group =
    let ends = (facts.group group.inside next group.is_inside group.innermost).0 in
    no_group (segment table ends.before).closing
    (ap (λ (n : ℕ). (segment table n).closing)
    (facts.follows_one ends.before before next ends.after follows)
    ∙ waits) ends.ends_group

pub group_no_wait : (table : Table) (before next s : ℕ)
    → IsReadInPlace table
    → Continues table before next
    → (segment table before).closing ≡ EndsGroup
    → ¬ KeptWait table s next
group_no_wait table before next s facts follows ends kept =
    no_group (segment table kept.wait.before).closing kept.wait.waits
    (ap (λ (n : ℕ). (segment table n).closing)
    (facts.follows_one kept.wait.before before next kept.wait.opens follows) ∙ ends)

pub group_joins : (table : Table) (before next s : ℕ)
    → IsReadInPlace table
    → Continues table before next
    → (segment table before).closing ≡ EndsGroup
    → KeptGroupEnd table s next ↔ Joins table s next
group_joins table before next s facts follows ends = (
  λ group. inr group,
  λ joins. elim joins [
    | inl kept ↦ absurd (group_no_wait table before next s facts follows ends kept)
    | inr group ↦ group
  ],
)
