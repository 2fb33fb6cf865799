-- The lists of what joins a segment after a wait or the end of a group.
use Rattle.std.proofs.Common.{ℕ, ◌+◌, ◌<◌, ◌≤◌, ◌≡◌, Some, List, [], ◌∷◌, ◌++◌, sym, ap}
use Rattle.std.proofs.Common.{◌∙◌, subst, arith, inl, inr}
use Rattle.std.proofs.lemmas.Bool.{cases_eq, cases_lt}
use Rattle.std.proofs.lemmas.Option.{none-some, same_Some}
use Rattle.task_segments.specs.Table.{Table, segment, task}
use Rattle.task_segments.specs.InPlace.{IsOf, IsReadInPlace}
use Rattle.task_segments.specs.declared.table.Closing.TheVariants.{Creates, Waits}
use Rattle.task_segments.specs.Precedence.{Continues, IsEarlierChild, IsSegment}
use Rattle.depend_table.specs.KeptEdges.{IsKeptEdge, KeptGroupEnd, KeptWait}
use Rattle.depend_table.specs.Lists.{Lists}
use Rattle.open_segments.specs.WaysToOpen.{Joins}
use Rattle.open_segments.proofs.ListLemmas.{Below, Lists-all, Lists-further, Lists-none}
use Rattle.open_segments.proofs.ListLemmas.{Lists-push}
use Rattle.open_segments.proofs.Edges.{after_join, creates_one, join_before}
use Rattle.open_segments.proofs.Since.{creator_precedes, wait_no_group}

-- before the place from which on they stand none joins
pub none_joins : (table : Table) (from next : ℕ) → ((p : ℕ) → KeptWait table p next → from ≤ p)
    → ((p : ℕ) → KeptGroupEnd table p next → from ≤ p)
    → Lists (Below (λ p. Joins table p next) from) []
none_joins table from next waits groups =
    Lists-none (Below (λ p. Joins table p next) from)
    (λ p joins.
    let below = joins.0 in
    elim joins.1 [
      | inl wait ↦ (let low = waits p wait in absurd (omega (arith, low, below)))
      | inr group ↦ (let low = groups p group in absurd (omega (arith, low, below)))
    ])

-- those that join, up to the segment before, and then that segment are all kept predecessors
pub joins_then_before : (table : Table) (before next upto : ℕ) (joins all : List ℕ)
    → IsReadInPlace table
    → Continues table before next
    → ((child : ℕ) → ¬ ((segment table before).closing ≡ Creates child))
    → before ≤ upto
    → Lists (Below (λ p. Joins table p next) upto) joins
    → all ≡ joins ++ before ∷ []
    → Lists (λ p. IsKeptEdge table p next) all
joins_then_before table before next upto joins all facts follows none passed lists are =
    let P : ℕ → Type 0 = λ p. Joins table p next in
    let earlier = Lists-all P upto joins
    (λ p one.
    let less = join_before table p before next facts follows one in omega (arith, less, passed))
    lists in
    subst (λ (l : List ℕ). Lists (λ p. IsKeptEdge table p next) l) (sym are)
    (after_join table before next joins facts follows none earlier)

-- p is the last segment of the child that s creates
pub record IsEndOf (table : Table) (s p : ℕ) : Type 0 where
  pub child : ℕ
  pub creates : (segment table s).closing ≡ Creates child
  pub last : (task table child).last ≡ p

-- what joins after a wait, between a segment of the task and its next one, ends the child that the
-- former creates
joins_between : (table : Table) (before next s later p : ℕ)
    → IsReadInPlace table
    → Continues table before next
    → (segment table before).closing ≡ Waits
    → IsOf table (segment table before).task s
    → Continues table s later
    → Joins table p next
    → s ≤ p
    → p < later
    → IsEndOf table s p
joins_between table before next s later p facts follows waits of_task on joins above below =
    elim joins [
      | inr group ↦ absurd (wait_no_group table before next p facts follows waits group)
      | inl kept ↦
          let created = kept.wait.created in
          let creator : ℕ = created.creator in
          let child : ℕ = kept.wait.child in
          let last = kept.wait.last in
          let made = creator_precedes table before next p facts follows kept in
          let precedes = made.earlier in
          elim (cases_lt creator s) [
            | inl under ↦
                let ended =
                facts.children child (segment table before).task creator s
                (created.parent ∙ ap (λ (n : ℕ). Some n) follows.same_task)
                created.is_creator of_task under in
                absurd (omega (arith, ended, last, above))
            | inr upto ↦ elim (cases_lt s creator) [
              | inl after ↦
                  let past =
                  facts.nearest s later creator on
                  (record {
                    is_segment = made.of_task.is_segment;
                    of_task = made.of_task.of_task ∙ sym of_task.of_task;
                  })
                  after in
                  absurd (omega (arith, past, precedes, below))
              | inr down ↦
                  let same : creator ≡ s = omega (arith, upto, down) in
                  record {
                    child = child;
                    creates = (facts.created s child created.is_child
                        (created.is_creator ∙ ap (λ (n : ℕ). Some n) same)).1;
                    last = last;
                  }
            ]
          ]
    ]

-- a child that a segment of the task creates is one of the task's
parent_of_created : (table : Table) (u s child : ℕ)
    → IsReadInPlace table
    → IsOf table u s
    → (segment table s).closing ≡ Creates child
    → (task table child).parent ≡ Some u
parent_of_created table u s child facts of_task creates =
    let known = facts.creates s child of_task.is_segment creates in
    elim (cases_eq child 0) [
      | inl root ↦ absurd (none-some s (sym facts.root_creator
          ∙ ap (λ (n : ℕ). (task table n).creator) (sym root) ∙ known.1))
      | inr apart ↦
          let made = facts.below_root child (omega (arith, apart)) known.0 in
          let same : made.creator ≡ s = same_Some made.creator s (sym made.is_creator ∙ known.1) in
          made.is_parent ∙ ap (λ (n : ℕ). Some n)
          (sym made.of_parent.of_task ∙ ap (λ (n : ℕ). (segment table n).task) same
          ∙ of_task.of_task)
    ]

-- the task goes on after a segment before another one of its own
pub goes_on : (table : Table) (before s : ℕ)
    → IsReadInPlace table
    → IsSegment table before
    → IsOf table (segment table before).task s
    → s < before
    → (later : ℕ) × Continues table s later
goes_on table before s facts known of_task less =
    let upto = facts.to_last (segment table s).task before
    (record { is_segment = known; of_task = sym of_task.of_task }) in
    facts.followed s of_task.is_segment (omega (arith, upto, less))

-- a walk along the task that has come to a segment: what joins before it is listed, and the
-- children that end from there on are waited for
pub record IsWalked (table : Table) (before next s : ℕ) (list : List ℕ) : Type 0 where
  pub of_task : IsOf table (segment table before).task s
  pub up_to : s ≤ before
  pub waited : (c : ℕ) → IsEarlierChild table c next → s ≤ (task table c).last
      → KeptWait table (task table c).last next
  pub lists : Lists (Below (λ p. Joins table p next) s) list

-- a step to the next segment of the task, where what joins before that one is listed
walk_on : (table : Table) (before next s later : ℕ) (list all : List ℕ)
    → IsReadInPlace table
    → Continues table before next
    → Continues table s later
    → s < before
    → IsWalked table before next s list
    → Lists (Below (λ p. Joins table p next) later) all
    → IsWalked table before next later all
walk_on table before next s later list all facts follows on less walked lists =
    let further = facts.follows_later s later on in
    record {
      of_task = record {
        is_segment = on.is_to;
        of_task = on.same_task ∙ walked.of_task.of_task;
      };
      up_to = facts.nearest s later before on
          (record { is_segment = follows.is_from; of_task = sym walked.of_task.of_task }) less;
      waited = λ c created above. walked.waited c created (omega (arith, above, further));
      lists = lists;
    }

-- a step past a segment that creates no task
pub walk_past : (table : Table) (before next s later : ℕ) (list : List ℕ)
    → IsReadInPlace table
    → Continues table before next
    → (segment table before).closing ≡ Waits
    → Continues table s later
    → s < before
    → ((child : ℕ) → ¬ ((segment table s).closing ≡ Creates child))
    → IsWalked table before next s list
    → IsWalked table before next later list
walk_past table before next s later list facts follows waits on less none walked =
    let further = facts.follows_later s later on in
    walk_on table before next s later list list facts follows on less walked
    (Lists-further (λ p. Joins table p next) s later list (omega (arith, further))
    (λ p joins above below.
    let end = joins_between table before next s later p facts follows waits walked.of_task on joins
    above below in
    none end.child end.creates)
    walked.lists)

-- a step past a segment that creates a task, whose last segment is listed
pub walk_child : (table : Table) (before next s later child : ℕ) (list all : List ℕ)
    → IsReadInPlace table
    → Continues table before next
    → (segment table before).closing ≡ Waits
    → Continues table s later
    → s < before
    → (segment table s).closing ≡ Creates child
    → IsWalked table before next s list
    → all ≡ list ++ (task table child).last ∷ []
    → IsWalked table before next later all
walk_child table before next s later child list all facts follows waits on less creates walked are =
    let its_task : ℕ = (segment table before).task in
    let last : ℕ = (task table child).last in
    let P : ℕ → Type 0 = λ p. Joins table p next in
    let known = facts.creates s child on.is_from creates in
    let parent = parent_of_created table its_task s child facts walked.of_task creates in
    let after = facts.created_before child s known.0 known.1 in
    let further = facts.follows_later s later on in
    let ended = facts.children child its_task s later parent known.1
    (record { is_segment = on.is_to; of_task = on.same_task ∙ walked.of_task.of_task }) further in
    let opens = facts.follows_later before next follows in
    let only : (p : ℕ) → P p → s ≤ p → p < later → p ≡ last =
    λ p joins above below.
    let end = joins_between table before next s later p facts follows waits walked.of_task on joins
    above below in
    sym end.last ∙ ap (λ (u : ℕ). (task table u).last)
    (creates_one (segment table s).closing end.child child end.creates creates) in
    let here : P last = inl (walked.waited child
    (record {
      is_child = known.0;
      parent = parent ∙ ap (λ (n : ℕ). Some n) (sym follows.same_task);
      creator = s;
      is_creator = known.1;
      earlier = omega (arith, less, opens);
    })
    (omega (arith, after))) in
    let with_it = Lists-push P last list here
    (Lists-further P s last list (omega (arith, after))
    (λ p joins above below.
    let same = only p joins above (omega (arith, below, ended)) in omega (arith, same, below))
    walked.lists) in
    walk_on table before next s later list all facts follows on less walked
    (subst (λ (l : List ℕ). Lists (Below P later) l) (sym are)
    (Lists-further P (last + 1) later (list ++ last ∷ []) (omega (arith, ended))
    (λ p joins above below.
    let same = only p joins (omega (arith, after, above)) below in omega (arith, same, above))
    with_it))
