-- The children that a task has created, as its segments finish.
use Rattle.std.proofs.Common.{ℕ, zero, suc, ◌+◌, ◌<◌, ◌≤◌, ◌≡◌, Bool, true, false, List, [], ◌∷◌}
use Rattle.std.proofs.Common.{Option, Some, None, length, get_or, refl, sym, ap, ◌∙◌, subst, arith}
use Rattle.std.proofs.Common.{inl, inr, ◌⊎◌}
use Rattle.std.specs.Prelude.{slice_get, slice_set, replicate, if◌then◌else◌}
use Rattle.std.proofs.lemmas.Bool.{cases_eq, cases_lt, eq-eqb, eqb-true, both_ways}
use Rattle.std.proofs.lemmas.Option.{same_Some, none-some, slice_get-get_or, slice_get_within}
use Rattle.std.proofs.lemmas.List.{length-set, length-replicate}
use Rattle.task_segments.specs.Table.{Table, segment, task}
use Rattle.task_segments.specs.declared.table.Closing.TheVariants.{Creates}
use Rattle.task_segments.specs.Precedence.{IsSegment, IsTask}
use Rattle.task_segments.specs.InPlace.{IsReadInPlace, IsOf}
use Rattle.program_text.specs.declared.statement.Item.{Item}
use Rattle.depend_table.specs.Siblings.{Sibling, IsKept}
use Rattle.depend_table.specs.Lists.{Lists}
use Rattle.depend_table.specs.KeptEdges.{children_below, is_some_of}
use Rattle.open_segments.specs.Entry.{entry}
use Rattle.open_segments.specs.WaysToOpen.{AreKeptSiblings}
use Rattle.open_segments.specs.Counters.{HasValue, AreCreated, AreSiblingsOf, AreSiblings}
use Rattle.open_segments.proofs.PlaceLemmas.{entry-set_same, entry-set_other, get-set_same}
use Rattle.open_segments.proofs.PlaceLemmas.{get-set_other, get-replicate}
use Rattle.open_segments.proofs.Children.{children_more}
use Rattle.open_segments.proofs.Edges.{creates_one}

-- which segments have a value when one more has
pub has_more : (values : List (Option ℕ)) (s v p : ℕ)
    → s < length values
    → HasValue values p
    → HasValue (slice_set values s (Some v)) p
has_more values s v p within has = elim (cases_eq p s) [
  | inl same ↦ record {
    value = v;
    is = ap (λ (n : ℕ). entry (slice_set values s (Some v)) n) same ∙ entry-set_same values s v within;
  }
  | inr apart ↦ record { value = has.value; is = entry-set_other values s p (Some v) apart ∙ has.is }
]

pub has_new : (values : List (Option ℕ)) (s v : ℕ)
    → s < length values
    → HasValue (slice_set values s (Some v)) s
has_new values s v within = record { value = v; is = entry-set_same values s v within }

pub had_value : (values : List (Option ℕ)) (s v p : ℕ)
    → HasValue (slice_set values s (Some v)) p
    → HasValue values p ⊎ (p ≡ s)
had_value values s v p has = grind (arith, cases_eq, entry-set_other)

-- what the table of a child's parent keeps are its kept siblings
pub are_kept : (table : Table) (child parent : ℕ) (siblings : List Sibling) (items : List Item)
    (kept : List ℕ) → IsTask table child → (task table child).parent ≡ Some parent
    → siblings ≡ children_below table parent child → items ≡ (task table child).items
    → Lists (IsKept siblings items) kept → AreKeptSiblings table child kept
are_kept table child parent siblings items kept is_task is_parent same_siblings same_items lists = grind arith

-- a task with a creator is not the root
pub above_root : (table : Table) (child creator : ℕ)
    → IsReadInPlace table
    → (task table child).creator ≡ Some creator
    → 0 < child
above_root table child creator facts is_creator = elim (cases_eq child 0) [
  | inl same ↦ absurd (none-some creator
      (sym facts.root_creator ∙ ap (λ (n : ℕ). (task table n).creator) (sym same) ∙ is_creator))
  | inr apart ↦ omega (arith, apart)
]

-- a segment creates one task
pub created_one : (table : Table) (s c d : ℕ)
    → IsReadInPlace table
    → IsTask table c
    → (task table c).creator ≡ Some s
    → IsTask table d
    → (task table d).creator ≡ Some s
    → d ≡ c
created_one table s c d facts known_c by_c known_d by_d =
    creates_one (segment table s).closing d c (facts.created s d known_d by_d).1
    (facts.created s c known_c by_c).1

is_some_same : (p : ℕ) → is_some_of (Some p) p ≡ true
is_some_same p = eq-eqb p p refl

some_of_other : (b : Bool) (q p : ℕ) → is_some_of (Some q) p ≡ b → ¬ (q ≡ p) → b ≡ false
some_of_other true q p is apart = absurd (apart (eqb-true q p is))
some_of_other false q p is apart = refl

if_true : (b : Bool) (one : Sibling) (older : List Sibling)
    → b ≡ true
    → (if b then one ∷ older else older) ≡ one ∷ older
if_true true one older is = refl
if_true false one older is = absurd (both_ways false refl is)

if_false : (b : Bool) (one : Sibling) (older : List Sibling)
    → b ≡ false
    → (if b then one ∷ older else older) ≡ older
if_false true one older is = absurd (both_ways false refl (sym is))
if_false false one older is = refl

some_of_is : (parent : Option ℕ) (p : ℕ) → ¬ (parent ≡ Some p) → is_some_of parent p ≡ false
some_of_is None p apart = refl
some_of_is (Some q) p apart =
    some_of_other (is_some_of (Some q) p) q p refl (λ same. apart (ap (λ (n : ℕ). Some n) same))

-- a number that is no child of p adds none
not_more : (table : Table) (p u : ℕ)
    → ¬ ((task table u).parent ≡ Some p)
    → children_below table p (suc u) ≡ children_below table p u
not_more table p u apart =
    if_false (is_some_of (task table u).parent p)
    (record { task = u; items = (task table u).items }) (children_below table p u)
    (some_of_is (task table u).parent p apart)

one_more : (table : Table) (p u : ℕ)
    → (task table u).parent ≡ Some p
    → children_below table p (u + 1)
    ≡ record { task = u; items = (task table u).items } ∷ children_below table p u
one_more table p u of_p =
    children_more table p u
    ∙ if_true (is_some_of (task table u).parent p)
    (record { task = u; items = (task table u).items }) (children_below table p u)
    (ap (λ (o : Option ℕ). is_some_of o p) of_p ∙ is_some_same p)

-- where no child of p has a number from n on and below c, its children below c are those below n
children_same : (table : Table) (p n c : ℕ)
    → n ≤ c
    → ((u : ℕ) → n ≤ u → u < c → ¬ ((task table u).parent ≡ Some p))
    → children_below table p c ≡ children_below table p n
children_same table p n zero less none =
    ap (λ (k : ℕ). children_below table p k) (let same : zero ≡ n = omega (arith, less) in same)
children_same table p n (suc c) less none = elim (cases_lt c n) [
  | inl at_end ↦ ap (λ (k : ℕ). children_below table p k)
      (let same : suc c ≡ n = omega (arith, less, at_end) in same)
  | inr further ↦ not_more table p c (none c (omega (arith, further)) (omega arith))
      ∙ children_same table p n c (omega (arith, further))
      (λ u from below. none u from (omega (arith, below)))
]

pub siblings_first : (table : Table) (count : ℕ) (values : List (Option ℕ))
    → count ≡ length table.tasks
    → ((s : ℕ) → ¬ HasValue values s)
    → AreSiblings table values (replicate count [])
siblings_first table count values is none = record {
  each = length-replicate {A = List Sibling} count [] ∙ is;
  lists = λ p list there. record {
    below = 0;
    are = sym (get-replicate count [] list p there);
    created = record {
      begun = λ child s of_p by below. absurd (omega (arith, below));
      finished = λ child s of_p by has. absurd (none s has);
    };
  };
}

-- of the children of a task of which none is created by s
created_still : (table : Table) (values : List (Option ℕ)) (s v p n : ℕ)
    → s < length values
    → ((child : ℕ) → (task table child).parent ≡ Some p → ¬ ((task table child).creator ≡ Some s))
    → AreCreated table values p n
    → AreCreated table (slice_set values s (Some v)) p n
created_still table values s v p n within none so_far = record {
  begun = λ child t of_p by below.
      has_more values s v t within (so_far.begun child t of_p by below);
  finished = λ child t of_p by has. elim (had_value values s v t has) [
    | inl had ↦ so_far.finished child t of_p by had
    | inr same ↦ absurd (none child of_p (by ∙ ap (λ (k : ℕ). Some k) same))
  ];
}

siblings_of_still : (table : Table) (values : List (Option ℕ)) (s v p : ℕ) (list : List Sibling)
    → s < length values
    → ((child : ℕ) → (task table child).parent ≡ Some p → ¬ ((task table child).creator ≡ Some s))
    → AreSiblingsOf table values p list
    → AreSiblingsOf table (slice_set values s (Some v)) p list
siblings_of_still table values s v p list within none so_far =
    record {
      below = so_far.below;
      are = so_far.are;
      created = created_still table values s v p so_far.below within none so_far.created;
    }

-- where s creates no task
pub siblings_still : (table : Table) (values : List (Option ℕ)) (s v : ℕ)
    (siblings : List (List Sibling))
    → s < length values
    → ((child : ℕ) → ¬ ((task table child).creator ≡ Some s))
    → AreSiblings table values siblings
    → AreSiblings table (slice_set values s (Some v)) siblings
siblings_still table values s v siblings within none so_far = record {
  each = so_far.each;
  lists = λ p list there. siblings_of_still table values s v p list within
      (λ child of_p. none child) (so_far.lists p list there);
}

-- s creates the child c of p, and the earlier segments of p are finished
pub record IsNextChild (table : Table) (values : List (Option ℕ)) (s c p : ℕ) : Type 0 where
  pub facts : IsReadInPlace table
  pub known : IsTask table c
  pub of_p : (task table c).parent ≡ Some p
  pub by_s : (task table c).creator ≡ Some s
  pub within : s < length values
  pub valueless : entry values s ≡ None
  pub earlier : (t : ℕ) → IsOf table p t → t < s → HasValue values t

pub next_child : (table : Table) (values : List (Option ℕ)) (s c p : ℕ)
    → IsReadInPlace table
    → IsSegment table s
    → (segment table s).closing ≡ Creates c
    → (task table c).parent ≡ Some p
    → length values ≡ length table.segments
    → entry values s ≡ None
    → ((t : ℕ) → IsOf table (segment table s).task t → t < s → HasValue values t)
    → IsNextChild table values s c p
next_child table values s c p facts known closing of_p each none earlier =
    let made = facts.creates s c known closing in
    let same : (segment table s).task ≡ p = (facts.creator_of c p s made.0 of_p made.1).of_task in
    record {
      facts = facts;
      known = made.0;
      of_p = of_p;
      by_s = made.1;
      within = omega (arith, known, each);
      valueless = none;
      earlier = λ t is_of before.
          earlier t (subst (λ (u : ℕ). IsOf table u t) (sym same) is_of) before;
    }

valueless_now : (table : Table) (values : List (Option ℕ)) (s c p : ℕ)
    → IsNextChild table values s c p
    → ¬ HasValue values s
valueless_now table values s c p next has = none-some has.value (sym next.valueless ∙ has.is)

-- an earlier sibling has an earlier creator, which is finished
sibling_before : (table : Table) (values : List (Option ℕ)) (s c p d t : ℕ)
    → IsNextChild table values s c p
    → (task table d).parent ≡ Some p
    → (task table d).creator ≡ Some t
    → d < c
    → HasValue values t
sibling_before table values s c p d t next of_p by less =
    let is_task = next.facts.with_parent d p of_p in
    let begun = next.facts.created_before d t is_task by in
    let ended = next.facts.siblings d c p s less next.known of_p next.of_p next.by_s in
    next.earlier t (next.facts.creator_of d p t is_task of_p by) (omega (arith, begun, ended))

no_later : (table : Table) (values : List (Option ℕ)) (s c p n : ℕ)
    → IsNextChild table values s c p
    → AreCreated table values p n
    → n ≤ c
no_later table values s c p n next so_far = elim (cases_lt c n) [
  | inl below ↦
      absurd (valueless_now table values s c p next (so_far.begun c s next.of_p next.by_s below))
  | inr above ↦ above
]

same_so_far : (table : Table) (values : List (Option ℕ)) (s c p : ℕ) (list : List Sibling)
    → IsNextChild table values s c p
    → AreSiblingsOf table values p list
    → list ≡ children_below table p c
same_so_far table values s c p list next so_far =
    so_far.are
    ∙ sym (children_same table p so_far.below c
    (no_later table values s c p so_far.below next so_far.created) (λ d from below of_p.
    let by = next.facts.has_creator d p (next.facts.with_parent d p of_p) of_p in
    let less = so_far.created.finished d by.0 of_p by.1
    (sibling_before table values s c p d by.0 next of_p by.1 below) in
    omega (arith, from, less)))

-- the siblings that are created before it are all of its earlier ones
pub siblings_so_far : (table : Table) (values : List (Option ℕ)) (s c p : ℕ)
    (siblings : List (List Sibling))
    → IsNextChild table values s c p
    → AreSiblings table values siblings
    → slice_get siblings p ≡ Some (children_below table p c)
siblings_so_far table values s c p siblings next so_far =
    let parent = next.facts.below_root c (above_root table c s next.facts next.by_s) next.known in
    let same : parent.parent ≡ p = same_Some parent.parent p (sym parent.is_parent ∙ next.of_p) in
    let lower = parent.lower in
    let known = next.known in
    let each = so_far.each in
    let within : p < length siblings = omega (arith, same, lower, known, each) in
    let there = slice_get-get_or siblings p [] within in
    there
    ∙ ap (λ (l : List Sibling). Some l) (same_so_far table values s c p (get_or siblings p []) next
    (so_far.lists p (get_or siblings p []) there))

created_more : (table : Table) (values : List (Option ℕ)) (s v c p n : ℕ)
    → IsNextChild table values s c p
    → AreCreated table values p n
    → AreCreated table (slice_set values s (Some v)) p (c + 1)
created_more table values s v c p n next so_far = record {
  begun = λ d t of_p by below. elim (cases_eq d c) [
    | inl same ↦
        let creators : s ≡ t =
        same_Some s t (sym next.by_s ∙ ap (λ (k : ℕ). (task table k).creator) (sym same) ∙ by) in
        subst (λ (k : ℕ). HasValue (slice_set values s (Some v)) k) creators
        (has_new values s v next.within)
    | inr apart ↦ has_more values s v t next.within
        (sibling_before table values s c p d t next of_p by (omega (arith, below, apart)))
  ];
  finished = λ d t of_p by has. elim (had_value values s v t has) [
    | inl had ↦
        let less = so_far.finished d t of_p by had in
        let up = no_later table values s c p n next so_far in
        omega (arith, less, up)
    | inr same ↦
        let one = created_one table s c d next.facts next.known next.by_s
        (next.facts.with_parent d p of_p) (by ∙ ap (λ (k : ℕ). Some k) same) in
        omega (arith, one)
  ];
}

pub siblings_more : (table : Table) (values : List (Option ℕ)) (s v c p : ℕ)
    (siblings : List (List Sibling))
    → IsNextChild table values s c p
    → AreSiblings table values siblings
    → AreSiblings table (slice_set values s (Some v)) (slice_set siblings p
    (record { task = c; items = (task table c).items } ∷ children_below table p c))
siblings_more table values s v c p siblings next so_far = record {
  each = length-set siblings p one ∙ so_far.each;
  lists = λ q list is. elim (cases_eq q p) [
    | inl same ↦
        let there = siblings_so_far table values s c p siblings next so_far in
        let within : p < length siblings =
        slice_get_within siblings p (children_below table p c) there in
        let lists : one ≡ list = same_Some one list (sym (get-set_same siblings p one within)
        ∙ subst (λ (k : ℕ). slice_get (slice_set siblings p one) k ≡ Some list) same is) in
        let was = so_far.lists p (children_below table p c) there in
        subst (λ (k : ℕ). AreSiblingsOf table (slice_set values s (Some v)) k list) (sym same)
        (record {
          below = c + 1;
          are = sym lists ∙ sym (one_more table p c next.of_p);
          created = created_more table values s v c p was.below next was.created;
        })
    | inr apart ↦
        siblings_of_still table values s v q list next.within
        (λ d of_q by.
        let one_child = created_one table s c d next.facts next.known next.by_s
        (next.facts.with_parent d q of_q) by in
        apart
        (same_Some q p (sym of_q ∙ ap (λ (k : ℕ). (task table k).parent) one_child ∙ next.of_p)))
        (so_far.lists q list (sym (get-set_other siblings p q one apart) ∙ is))
  ];
}
  where
    one : List Sibling
    one = record { task = c; items = (task table c).items } ∷ children_below table p c
