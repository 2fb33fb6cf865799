-- Tables that answer alike are equal: what no call answers is settled by what the calls answer.
use Rattle.std.proofs.Common.{◌≡◌, ℕ, zero, suc, ◌<◌, ◌≤◌, List, Some, refl, sym, ap, subst, ◌∙◌}
use Rattle.std.proofs.Common.{inl, inr, arith}
use Rattle.std.proofs.lemmas.Bool.{cases_order}
use Rattle.std.proofs.lemmas.List.{ext_get_or}
use Rattle.task_segments.specs.declared.table.Closing.{Closing}
use Rattle.task_segments.specs.declared.table.Closing.TheVariants.{Creates, EndsGroup}
use Rattle.task_segments.specs.declared.table.Closing.TheVariants as closings
use Rattle.task_segments.specs.declared.table.Segment.{Segment}
use Rattle.task_segments.specs.Alike.{AnswerAlike}
use Rattle.task_segments.specs.Copies.{facts_of}
use Rattle.task_segments.specs.Nesting.{IsNestedTable}
use Rattle.task_segments.specs.Precedence.{IsSegment, IsTask, Continues, Encloses, IsEarlierChild}
use Rattle.task_segments.specs.Precedence.{Descends, GroupEnd, MustPrecede}
use Rattle.task_segments.specs.Precedence.Descends.{Itself}
use Rattle.task_segments.specs.MarksTable.{IsMarksTable}
use Rattle.task_segments.specs.Table.{Table, Task, segment, task, no_segment, no_task}
use Rattle.task_segments.proofs.Children.{IsNumbered, numbered_program}
use Rattle.task_segments.proofs.InPlace.{closing_creates, first_follows, follows_one, last_followed}
use Rattle.task_segments.proofs.InPlace.{last_of_one}
use Rattle.task_segments.proofs.Order.{OpensAfter, one_branch}
use Rattle.task_segments.proofs.LastMoment.{nested_program}
use Rattle.task_segments.proofs.Same.{same_segment, same_facts, same_row}

-- a table answers as it does itself
alike_itself : (table : Table) → AnswerAlike table table
alike_itself table = grind arith

-- where one table answers as another does, so does the other as the one
alike_back : (a b : Table) → AnswerAlike a b → AnswerAlike b a
alike_back a b x =
    let segment_of : (s : ℕ) → IsSegment b s → IsSegment a s = λ s l. omega (arith, x.len) in
    let task_of : (u : ℕ) → IsTask b u → IsTask a u = λ u l. omega (arith, x.tasks) in
    record {
      len = sym x.len;
      tasks = sym x.tasks;
      cost = λ s l. sym (x.cost s (segment_of s l));
      task_of = λ s l. sym (x.task_of s (segment_of s l));
      index = λ s l. sym (x.index s (segment_of s l));
      closing = λ s l. sym (x.closing s (segment_of s l));
      next = λ s t l. (let other = x.next s t (segment_of s l) in (other.1, other.0));
      first = λ u l. sym (x.first u (task_of u l));
      last = λ u l. sym (x.last u (task_of u l));
      parent = λ u l. sym (x.parent u (task_of u l));
      creator = λ u l. sym (x.creator u (task_of u l));
      undeferred = λ u l. sym (x.undeferred u (task_of u l));
      items = λ u l. sym (x.items u (task_of u l));
      innermost_group = λ u l. sym (x.innermost_group u (task_of u l));
      must_precede = λ s t l m.
          (let other = x.must_precede s t (segment_of s l) (segment_of t m) in (other.1, other.0));
    }

-- where the earlier tasks have the same numbers among their siblings, u has no smaller one in one
-- table than in the other
no_fewer_siblings : (a b : Table)
    → IsNumbered a
    → IsNumbered b
    → AnswerAlike a b
    → (u : ℕ)
    → IsTask a u
    → ((v : ℕ) → v < u → (task a v).siblings_before ≡ (task b v).siblings_before)
    → (task a u).siblings_before < (task b u).siblings_before
    → ⊥
no_fewer_siblings a b one other x u is_u below less =
    let found = other.siblings u (task a u).siblings_before (omega (arith, x.tasks)) less in
    let sibling = found.sibling in
    let earlier = found.earlier in
    let parent : (task a sibling).parent ≡ (task a u).parent =
    x.parent sibling (omega arith) ∙ found.of_parent ∙ sym (x.parent u is_u) in
    omega (arith, one.ascend sibling u earlier is_u parent, below sibling earlier, found.count)

abbrev SameSiblings : Table → Table → Type 0
SameSiblings a b = (u : ℕ) → IsTask a u → (task a u).siblings_before ≡ (task b u).siblings_before

-- the numbers of siblings follow from the parents
same_siblings : (fuel : ℕ) (a b : Table)
    → IsNumbered a
    → IsNumbered b
    → AnswerAlike a b
    → (u : ℕ)
    → u < fuel
    → IsTask a u
    → (task a u).siblings_before ≡ (task b u).siblings_before
same_siblings zero a b one other x u bound is_u = absurd (omega arith)
same_siblings (suc fuel) a b one other x u bound is_u =
    let below : (v : ℕ) → v < u → (task a v).siblings_before ≡ (task b v).siblings_before =
    λ v l. same_siblings fuel a b one other x v (omega arith) (omega arith) in
    elim (cases_order (task a u).siblings_before (task b u).siblings_before) [
      | inl same ↦ same
      | inr differ ↦ elim differ [
        | inl less ↦ absurd (no_fewer_siblings a b one other x u is_u below less)
        | inr more ↦ absurd (no_fewer_siblings b a other one (alike_back a b x) u
            (omega (arith, x.tasks)) (λ v l. sym (below v l)) more)
      ]
    ]

-- one segment goes before t, and it ends a group
closing_of_one : (table : Table)
    → IsNestedTable table
    → (t before : ℕ) (closing : Closing)
    → OpensAfter table EndsGroup t
    → Continues table before t
    → (segment table before).closing ≡ closing
    → closing ≡ EndsGroup
closing_of_one table h t before closing o next c =
    sym c
    ∙ ap (λ (s : ℕ). (segment table s).closing) (follows_one table h before o.0 t next o.2)
    ∙ o.1

-- of the children that a task created before the end of a group, those with a pair to it were
-- created inside
created_inside : (table : Table) → IsNestedTable table → (u t : ℕ) → OpensAfter table EndsGroup t
    → IsEarlierChild table u t → MustPrecede table (task table u).last t
    → (segment table t).children_before ≤ (task table u).siblings_before
created_inside table h u t o g (inl next) = absurd (last_followed table h u t g.is_child next)
created_inside table h u t o g (inr (inl r)) =
    absurd (first_follows table h r.child o.0 r.is_child
    (subst (λ (n : ℕ). Continues table o.0 n) (sym r.first) o.2))
created_inside table h u t o g (inr (inr (inl r))) =
    absurd (let is_group_end = closing_of_one table h t r.creator (Creates r.child) o r.resumes
    (closing_creates table h r.creator r.child r.is_child r.is_creator) in
    cc)
created_inside table h u t o g (inr (inr (inr (inl r)))) =
    absurd (first_follows table h r.later o.0 r.is_later
    (subst (λ (n : ℕ). Continues table o.0 n) (sym r.first) o.2))
created_inside table h u t o g (inr (inr (inr (inr (inl r))))) =
    absurd (let is_group_end = closing_of_one table h t r.before closings.Waits o r.opens r.waits in
    cc)
created_inside table h u t o g (inr (inr (inr (inr (inr r))))) =
    let encloses = r.encloses in
    let same : r.descendant ≡ u =
    last_of_one table h r.descendant u r.is_descendant g.is_child r.last in
    let descends = subst (λ (d : ℕ). Descends table d r.child) same r.descends in
    let is : u ≡ r.child = one_branch table h u (segment table t).task r.child g.parent
    encloses.created.is_child encloses.created.parent descends in
    omega (arith, encloses.inside, ap (λ (v : ℕ). (task table v).siblings_before) is)

-- a group that ended before t did not begin earlier in one table than in the other: else a child
-- has to be waited for in the one alone
no_earlier_group : (a b : Table)
    → IsNestedTable b
    → IsNumbered b
    → AnswerAlike a b
    → SameSiblings a b
    → (t : ℕ)
    → IsSegment a t
    → (segment a t).children_before < (segment b t).children_before
    → ⊥
no_earlier_group a b h other x same t is_t less =
    let found = other.children t (segment a t).children_before (omega (arith, x.len)) less in
    let child = found.child in
    let created = found.created in
    let before = found.opens_after.0 in
    let is_child : IsTask a child = omega (arith, x.tasks, created.is_child) in
    let is_before : IsSegment a before = omega (arith, x.len, found.opens_after.2.is_from) in
    let encloses : Encloses a t child = record {
      before = before;
      ends_group = x.closing before is_before ∙ found.opens_after.1;
      opens = (x.next before t is_before).1 found.opens_after.2;
      created = record {
        is_child = is_child;
        parent = x.parent child is_child ∙ created.parent ∙ ap Some (sym (x.task_of t is_t));
        creator = created.creator;
        is_creator = x.creator child is_child ∙ created.is_creator;
        earlier = created.earlier;
      };
      inside = omega (arith, found.count, same child is_child);
    } in
    let last = (task a child).last in
    let ends : GroupEnd a last t = record {
      child = child;
      encloses = encloses;
      descendant = child;
      is_descendant = is_child;
      descends = Itself child;
      last = refl;
    } in
    let pair : MustPrecede a last t = inr (inr (inr (inr (inr ends)))) in
    let is_last : IsSegment a last =
    omega (arith, x.len, x.last child is_child, (h.segments child created.is_child).is_last) in
    let other_pair =
    subst (λ (s : ℕ). MustPrecede b s t) (x.last child is_child)
    ((x.must_precede last t is_last is_t).0 pair) in
    omega (arith, created_inside b h child t found.opens_after created other_pair, found.count)

-- where groups began follows from the pairs that have to wait for their ends
same_children : (a b : Table)
    → IsNestedTable a
    → IsNestedTable b
    → IsNumbered a
    → IsNumbered b
    → AnswerAlike a b
    → SameSiblings a b
    → (t : ℕ)
    → IsSegment a t
    → (segment a t).children_before ≡ (segment b t).children_before
same_children a b h i one other x same t is_t =
    elim (cases_order (segment a t).children_before (segment b t).children_before) [
      | inl equal ↦ equal
      | inr differ ↦ elim differ [
        | inl less ↦ absurd (no_earlier_group a b i other x same t is_t less)
        | inr more ↦ absurd (no_earlier_group b a h one (alike_back a b x)
            (λ u l. sym (same u (omega (arith, x.tasks)))) t (omega (arith, x.len)) more)
      ]
    ]

-- all rows are the same, so the tables are
pub alike_is_equal : (a b : Table) → IsMarksTable a → IsMarksTable b → AnswerAlike a b → a ≡ b
alike_is_equal a b p q x =
    let one = numbered_program a p in
    let other = numbered_program b q in
    let siblings : SameSiblings a b = λ u l.
    same_siblings (suc u) a b one other x u (omega arith) l in
    let children =
    same_children a b (nested_program a p) (nested_program b q) one other x siblings in
    let row : (s : ℕ) → IsSegment a s → segment a s ≡ segment b s = λ s l. same_segment
    (segment a s) (segment b s)
    (x.task_of s l, (x.index s l, (x.cost s l, (x.closing s l, children s l)))) in
    let facts : (u : ℕ) → IsTask a u → facts_of (task a u) ≡ facts_of (task b u) = λ u l. same_facts
    (facts_of (task a u)) (facts_of (task b u)) (
      x.parent u l,
      (
        x.creator u l,
        (x.undeferred u l, (x.first u l, (x.last u l, (x.innermost_group u l, siblings u l)))),
      ),
    ) in
    let segments : a.segments ≡ b.segments =
    ext_get_or no_segment a.segments b.segments x.len row in
    let tasks : a.tasks ≡ b.tasks = ext_get_or no_task a.tasks b.tasks x.tasks
    (λ u l. same_row (task a u) (task b u) (facts u l) (x.items u l)) in
    ap (λ (rows : List Segment). record a { segments = rows }) segments
    ∙ ap (λ (rows : List Task). record b { tasks = rows }) tasks

-- equal tables answer alike
pub equal_is_alike : (a b : Table) → a ≡ b → AnswerAlike a b
equal_is_alike a b e = subst (λ (t : Table). AnswerAlike a t) e (alike_itself a)
