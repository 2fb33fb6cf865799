-- Which kept edges lead to a segment that opens.
use Rattle.std.proofs.Common.{ℕ, ◌<◌, ◌≡◌, ◌⊎◌, zero, suc, Bool, true, false, List, [], ◌∷◌, ◌++◌}
use Rattle.std.proofs.Common.{Some, length, map, refl, sym, ap, ◌∙◌, subst, arith}
use Rattle.std.proofs.Common.{inl, inr}
use Rattle.std.specs.Prelude.{Contains, if◌then◌else◌}
use Rattle.std.proofs.lemmas.Bool.{both_ways}
use Rattle.std.proofs.lemmas.Option.{same_Some}
use Rattle.task_segments.specs.Table.{Table, segment, task}
use Rattle.task_segments.specs.InPlace.{IsReadInPlace}
use Rattle.task_segments.specs.declared.table.Closing.{Closing}
use Rattle.task_segments.specs.declared.table.Closing.TheVariants.{Creates, Waits, EndsGroup}
use Rattle.task_segments.specs.declared.table.Closing.TheVariants.{EndsTask}
use Rattle.task_segments.specs.Precedence.{IsTask, Continues, Creation, Resumption}
use Rattle.depend_table.specs.Siblings.{Sibling, IsAmong, IsKept}
use Rattle.depend_table.specs.Siblings.IsAmong.{Newest, Below}
use Rattle.depend_table.specs.KeptEdges.{children_below, is_some_of, KeptDependence, IsKeptEdge}
use Rattle.depend_table.specs.Lists.{Lists}
use Rattle.depend_table.proofs.Children.{some_of}
use Rattle.depend_table.proofs.Lists.{lists_push}
use Rattle.open_segments.specs.WaysToOpen.{Joins, AreKeptSiblings, last_segment}
use Rattle.open_segments.proofs.ListLemmas.{Lists-none, Lists-map}

-- to a segment that follows another of its task
pub next_cases : (table : Table) (p b t : ℕ)
    → IsReadInPlace table
    → Continues table b t
    → IsKeptEdge table p t
    → (p ≡ b) ⊎ (Resumption table p t ⊎ Joins table p t)
next_cases table p b t facts follows edge = elim edge [
  | inl continues ↦ inl (facts.follows_one p b t continues follows)
  | inr (inl creation) ↦ absurd (facts.first_follows creation.child b creation.is_child
      (subst (λ (n : ℕ). Continues table b n) (sym creation.first) follows))
  | inr (inr (inl resumption)) ↦ inr (inl resumption)
  | inr (inr (inr (inl depends))) ↦ absurd (facts.first_follows depends.later b depends.is_later
      (subst (λ (n : ℕ). Continues table b n) (sym depends.first) follows))
  | inr (inr (inr (inr (inl waits)))) ↦ inr (inr (inl waits))
  | inr (inr (inr (inr (inr group)))) ↦ inr (inr (inr group))
]

pub join_edge : (table : Table) (p t : ℕ) → Joins table p t → IsKeptEdge table p t
join_edge table p t (inl waits) = inr (inr (inr (inr (inl waits))))
join_edge table p t (inr group) = inr (inr (inr (inr (inr group))))

-- to the first segment of a task
pub first_cases : (table : Table) (p u : ℕ)
    → IsReadInPlace table
    → IsTask table u
    → IsKeptEdge table p (task table u).first
    → Creation table p (task table u).first ⊎ KeptDependence table p (task table u).first
first_cases table p u facts is edge = elim edge [
  | inl continues ↦ absurd (facts.first_follows u p is continues)
  | inr (inl creation) ↦ inl creation
  | inr (inr (inl resumption)) ↦
      absurd (facts.first_follows u resumption.creator is resumption.resumes)
  | inr (inr (inr (inl depends))) ↦ inr depends
  | inr (inr (inr (inr (inl waits)))) ↦
      absurd (facts.first_follows u waits.wait.before is waits.wait.opens)
  | inr (inr (inr (inr (inr group)))) ↦
      let ends =
      (facts.group group.inside (task table u).first group.is_inside group.innermost).0 in
      absurd (facts.first_follows u ends.before is ends.after)
]

-- what creates a child at its first segment is its creator
pub created_by : (table : Table) (child p s : ℕ) → IsReadInPlace table → IsTask table child
    → (task table child).creator ≡ Some s → Creation table p (task table child).first → p ≡ s
created_by table child p s facts is_task is_creator creation =
    let same = facts.first_of_one creation.child child creation.is_child is_task creation.first in
    let creators = ap (λ (u : ℕ). (task table u).creator) same in
    same_Some p s (sym creation.creator ∙ creators ∙ is_creator)

abbrev created_of : Closing → ℕ → ℕ
created_of (Creates child) other = child
created_of Waits other = other
created_of EndsGroup other = other
created_of EndsTask other = other

pub creates_one : (closing : Closing) (one other : ℕ) → closing ≡ Creates one
    → closing ≡ Creates other → one ≡ other
creates_one closing one other is_one is_other =
    ap (λ (c : Closing). created_of c 0) (sym is_one ∙ is_other)

abbrev is_creates : Closing → Type 0
is_creates (Creates child) = Unit {0}
is_creates Waits = ⊥
is_creates EndsGroup = ⊥
is_creates EndsTask = ⊥

pub waits_not_creates : (closing : Closing) (child : ℕ)
    → closing ≡ Waits
    → ¬ (closing ≡ Creates child)
waits_not_creates closing child waits creates = subst is_creates (sym creates ∙ waits) tt

pub ends_not_creates : (closing : Closing) (child : ℕ)
    → closing ≡ EndsGroup
    → ¬ (closing ≡ Creates child)
ends_not_creates closing child waits creates = subst is_creates (sym creates ∙ waits) tt

-- the segment before one that joins others creates no task
pub join_creates_none : (table : Table) (p b t child : ℕ)
    → IsReadInPlace table
    → Continues table b t
    → Joins table p t
    → ¬ ((segment table b).closing ≡ Creates child)
join_creates_none table p b t child facts follows (inl waits) creates =
    let same : waits.wait.before ≡ b =
    facts.follows_one waits.wait.before b t waits.wait.opens follows in
    waits_not_creates (segment table b).closing child
    (subst (λ (n : ℕ). (segment table n).closing ≡ Waits) same waits.wait.waits) creates
join_creates_none table p b t child facts follows (inr group) creates =
    let ends = (facts.group group.inside t group.is_inside group.innermost).0 in
    let same : ends.before ≡ b = facts.follows_one ends.before b t ends.after follows in
    ends_not_creates (segment table b).closing child
    (subst (λ (n : ℕ). (segment table n).closing ≡ EndsGroup) same ends.ends_group) creates

-- the segment before one that is resumed at creates the task
pub resumed_creates : (table : Table) (p b t : ℕ)
    → IsReadInPlace table
    → Continues table b t
    → (resumption : Resumption table p t)
    → (segment table b).closing ≡ Creates resumption.child
resumed_creates table p b t facts follows resumption =
    let same : resumption.creator ≡ b =
    facts.follows_one resumption.creator b t resumption.resumes follows in
    (facts.created b resumption.child resumption.is_child
    (resumption.is_creator ∙ ap (λ n. Some n) same)).1

resumes_child : (table : Table) (p b t child : ℕ)
    → IsReadInPlace table
    → Continues table b t
    → (resumption : Resumption table p t)
    → (segment table b).closing ≡ Creates child
    → resumption.child ≡ child
resumes_child table p b t child facts follows resumption creates =
    creates_one (segment table b).closing resumption.child child
    (resumed_creates table p b t facts follows resumption) creates

pub join_before : (table : Table) (p b t : ℕ) → IsReadInPlace table → Continues table b t
    → Joins table p t → p < b
join_before table p b t facts follows (inl waits) =
    let wait = waits.wait in
    let less = facts.waited wait.child wait.before t wait.created wait.opens wait.waits in
    omega (arith, less, wait.last, facts.follows_one wait.before b t wait.opens follows)
join_before table p b t facts follows (inr group) =
    let ends = facts.group group.inside t group.is_inside group.innermost in
    let less = ends.1 in
    omega (arith, less, group.last, facts.follows_one ends.0.before b t ends.0.after follows)

-- the one before it alone, where that one creates a task that is deferred
pub deferred_edges : (table : Table) (b t child : ℕ)
    → IsReadInPlace table
    → Continues table b t
    → (segment table b).closing ≡ Creates child
    → (task table child).undeferred ≡ false
    → Lists (λ p. IsKeptEdge table p t) (b ∷ [])
deferred_edges table b t child facts follows creates deferred =
    lists_push (λ p. ⊥) (λ p. IsKeptEdge table p t) [] b (Lists-none (λ p. ⊥) (λ p h. h))
    (λ p h. absurd h) (λ p h. absurd h) (inl follows)
    (λ p edge. elim (next_cases table p b t facts follows edge) [
      | inl same ↦ inr same
      | inr (inl resumption) ↦
          let child_is : resumption.child ≡ child =
          resumes_child table p b t child facts follows resumption creates in
          absurd (both_ways (task table child).undeferred deferred
          (subst (λ (u : ℕ). (task table u).undeferred ≡ true) child_is resumption.undeferred))
      | inr (inr joins) ↦ absurd (join_creates_none table p b t child facts follows joins creates)
    ])

-- and the task's last segment, where it is not deferred
pub resumed_edges : (table : Table) (b t child : ℕ)
    → IsReadInPlace table
    → Continues table b t
    → (segment table b).closing ≡ Creates child
    → (task table child).undeferred ≡ true
    → Lists (λ p. IsKeptEdge table p t) (b ∷ (task table child).last ∷ [])
resumed_edges table b t child facts follows creates undeferred =
    let known = facts.creates b child follows.is_from creates in
    let after : b < (task table child).last = facts.created_before child b known.0 known.1 in
    let one : Lists (λ p. p ≡ b) (b ∷ []) = lists_push (λ p. ⊥) (λ p. p ≡ b) [] b
    (Lists-none (λ p. ⊥) (λ p h. h)) (λ p h. absurd h) (λ p h. absurd h) refl (λ p h. inr h) in
    lists_push (λ p. p ≡ b) (λ p. IsKeptEdge table p t) (b ∷ []) (task table child).last one
    (λ p same. omega (arith, same, after))
    (λ p same. subst (λ (n : ℕ). IsKeptEdge table n t) (sym same) (inl follows))
    (inr (inr (inl (record {
      child = child;
      is_child = known.0;
      undeferred = undeferred;
      last = refl;
      creator = b;
      is_creator = known.1;
      resumes = follows;
    }))))
    (λ p edge. elim (next_cases table p b t facts follows edge) [
      | inl same ↦ inl same
      | inr (inl resumption) ↦
          let child_is : resumption.child ≡ child =
          resumes_child table p b t child facts follows resumption creates in
          inr (sym resumption.last ∙ ap (λ (u : ℕ). (task table u).last) child_is)
      | inr (inr joins) ↦ absurd (join_creates_none table p b t child facts follows joins creates)
    ])

-- those that it joins, and then the one before it, where that one creates no task
pub after_join : (table : Table) (before next : ℕ) (list : List ℕ)
    → IsReadInPlace table
    → Continues table before next
    → ((child : ℕ) → ¬ ((segment table before).closing ≡ Creates child))
    → Lists (λ p. Joins table p next) list
    → Lists (λ p. IsKeptEdge table p next) (list ++ before ∷ [])
after_join table before next list facts follows none joined =
    lists_push (λ p. Joins table p next) (λ p. IsKeptEdge table p next) list before joined
    (λ p h. join_before table p before next facts follows h)
    (λ p h. join_edge table p next h)
    (inl follows)
    (λ p edge. elim (next_cases table p before next facts follows edge) [
      | inl same ↦ inr same
      | inr (inl resumption) ↦ absurd
          (none resumption.child (resumed_creates table p before next facts follows resumption))
      | inr (inr joins) ↦ inl joins
    ])

-- a child of the task with a number below n
pub record IsAmongChildren (table : Table) (parent n : ℕ) (one : Sibling) : Type 0 where
  pub of_parent : (task table one.task).parent ≡ Some parent
  pub below : one.task < n

one_more : (table : Table) (parent u : ℕ) (one : Sibling)
    → IsAmongChildren table parent u one
    → IsAmongChildren table parent (suc u) one
one_more table parent u one
    was = record {
      of_parent = was.of_parent;
      below = let is_below = was.below in
          omega (arith, is_below);
    }

step_among : (table : Table) (parent u : ℕ) (b : Bool) (one : Sibling) (rest older : List Sibling)
    → is_some_of (task table u).parent parent ≡ b
    → ((x : Sibling) (below : List Sibling) → IsAmong older x below
    → IsAmongChildren table parent u x)
    → IsAmong (if b then record { task = u; items = (task table u).items } ∷ older else older) one
    rest
    → IsAmongChildren table parent (suc u) one
step_among table parent u false one rest older same so_far among =
    one_more table parent u one (so_far one rest among)
step_among table parent u true one rest older same so_far
    Newest = record { of_parent = some_of (task table u).parent parent same; below = omega arith }
step_among table parent u true one rest older same so_far (Below among) =
    one_more table parent u one (so_far one rest among)

some_length : (xs : List Sibling) (one : Sibling) (rest : List Sibling) → IsAmong xs one rest
    → 0 < length xs
some_length [] one rest among = elim among [ ]
some_length (x ∷ older) one rest Newest = omega arith
some_length (x ∷ older) one rest (Below among) = omega arith

none_among : (one : Sibling) (rest : List Sibling) → ¬ IsAmong [] one rest
none_among one rest among = let some = some_length [] one rest among in absurd (omega (arith, some))

pub child_among : (table : Table) (parent n : ℕ) (one : Sibling) (rest : List Sibling)
    → IsAmong (children_below table parent n) one rest
    → IsAmongChildren table parent n one
child_among table parent zero one rest among = absurd (none_among one rest among)
child_among table parent (suc u) one rest among =
    step_among table parent u (is_some_of (task table u).parent parent) one rest
    (children_below table parent u) refl (λ x below h. child_among table parent u x below h) among

-- a kept sibling is one of the task's earlier siblings
pub record IsEarlierSibling (table : Table) (parent child earlier : ℕ) : Type 0 where
  pub of_parent : (task table earlier).parent ≡ Some parent
  pub below : earlier < child

pub kept_sibling : (table : Table) (parent child earlier : ℕ)
    → IsKept (children_below table parent child) (task table child).items earlier
    → IsEarlierSibling table parent child earlier
kept_sibling table parent child earlier kept =
    let one = child_among table parent child kept.earlier kept.older kept.among in
    record {
      of_parent = subst (λ (n : ℕ). (task table n).parent ≡ Some parent) kept.number one.of_parent;
      below = let is_below = one.below in omega (arith, is_below, kept.number);
    }

-- a child's kept sibling is a task
pub kept_task : (table : Table) (child u : ℕ) (kept : List ℕ) → AreKeptSiblings table child kept
    → IsReadInPlace table → Contains kept u → IsTask table u
kept_task table child u kept given facts has =
    let sibling = kept_sibling table given.parent child u ((given.lists.each u).0 has) in
    facts.with_parent u given.parent sibling.of_parent

-- the sibling of a kept dependence is kept
kept_of : (table : Table) (child p : ℕ) (kept : List ℕ) (given : AreKeptSiblings table child kept)
    → IsReadInPlace table → (depends : KeptDependence table p (task table child).first)
    → IsKept (children_below table given.parent child) (task table child).items depends.earlier
kept_of table child p kept given facts depends =
    let later : ℕ = depends.later in
    let earlier : ℕ = depends.earlier in
    let same = facts.first_of_one later child depends.is_later given.is_task depends.first in
    let parents : depends.parent ≡ given.parent =
    same_Some depends.parent given.parent
    (sym depends.of_parent ∙ ap (λ (u : ℕ). (task table u).parent) same ∙ given.is_parent) in
    subst (λ (u : ℕ). IsKept (children_below table given.parent u) (task table u).items earlier)
    same
    (subst (λ (n : ℕ). IsKept (children_below table n later) (task table later).items earlier)
    parents
    depends.kept)

-- of two siblings the earlier one ends first
lasts_ascend : (table : Table) (parent child a b : ℕ) → IsReadInPlace table
    → IsEarlierSibling table parent child a → IsEarlierSibling table parent child b → a < b
    → last_segment table a < last_segment table b
lasts_ascend table parent child a b facts one other order =
    let is_task = facts.with_parent b parent other.of_parent in
    let creator = facts.has_creator b parent is_task other.of_parent in
    let ended =
    facts.siblings a b parent creator.0 order is_task one.of_parent other.of_parent creator.1 in
    let begun = facts.created_before b creator.0 is_task creator.1 in
    omega (arith, ended, begun)

-- the last segments of a child's kept siblings
pub sibling_edges : (table : Table) (child : ℕ) (kept : List ℕ) → AreKeptSiblings table child kept
    → IsReadInPlace table
    → Lists (λ p. KeptDependence table p (task table child).first) (map (last_segment table) kept)
sibling_edges table child kept given facts =
    let Kept : ℕ → Type 0 =
    IsKept (children_below table given.parent child) (task table child).items in
    Lists-map (last_segment table) Kept (λ p. KeptDependence table p (task table child).first) kept
    given.lists
    (λ a b in_a in_b order. lasts_ascend table given.parent child a b facts
    (kept_sibling table given.parent child a in_a) (kept_sibling table given.parent child b in_b)
    order)
    (λ a is_kept. record {
      earlier = a;
      later = child;
      is_later = given.is_task;
      parent = given.parent;
      of_parent = given.is_parent;
      kept = is_kept;
      last = refl;
      first = refl;
    })
    (λ p depends. (depends.earlier, kept_of table child p kept given facts depends, depends.last))

-- and then the creator
pub first_edges : (table : Table) (child s : ℕ) (kept : List ℕ) → AreKeptSiblings table child kept
    → IsReadInPlace table → (task table child).creator ≡ Some s
    → Lists (λ p. IsKeptEdge table p (task table child).first)
    (map (last_segment table) kept ++ s ∷ [])
first_edges table child s kept given facts is_creator =
    let first : ℕ = (task table child).first in
    lists_push (λ p. KeptDependence table p first) (λ p. IsKeptEdge table p first)
    (map (last_segment table) kept) s (sibling_edges table child kept given facts)
    (λ p depends.
    let earlier : ℕ = depends.earlier in
    let is_kept = kept_of table child p kept given facts depends in
    let sibling = kept_sibling table given.parent child earlier is_kept in
    let ended = facts.siblings earlier child given.parent s sibling.below given.is_task
    sibling.of_parent given.is_parent is_creator in
    omega (arith, ended, depends.last))
    (λ p depends. inr (inr (inr (inl depends))))
    (inr (inl (record {
      child = child;
      is_child = given.is_task;
      creator = is_creator;
      first = refl;
    })))
    (λ p edge. elim (first_cases table p child facts given.is_task edge) [
      | inl creation ↦ inr (created_by table child p s facts given.is_task is_creator creation)
      | inr depends ↦ inl depends
    ])
