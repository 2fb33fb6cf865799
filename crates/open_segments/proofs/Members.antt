-- The tasks that the ends of groups wait for, entered one after another.
use Rattle.std.proofs.Common.{ℕ, ◌+◌, ◌<◌, ◌≤◌, ◌≡◌, ◌↔◌, List, [], ◌∷◌, ◌++◌, Some}
use Rattle.std.proofs.Common.{length, get_or, refl, sym, ap, ◌∙◌, subst, arith, inl, inr}
use Rattle.std.specs.Prelude.{replicate, slice_set, Bool, IsTrue, Contains, MatchResult, Result, Ok, Err}
use Rattle.std.specs.Ordering.{nat_cmp}
use Rattle.std.specs.List.Sorted.{IsStrictlyIncreasing, IsBinarySearchResult}
use Rattle.std.proofs.lemmas.Bool.{cases_eq, cases_lt}
use Rattle.std.proofs.lemmas.List.Kept.{AllPairs-from_increasing}
use Rattle.std.proofs.lemmas.List.Sorted.{searched}
use Rattle.std.proofs.lemmas.List.{get_or-replicate, length-replicate}
use Rattle.std.proofs.lemmas.List.{get_or_default, get_or-set_same, get_or-set_other, length-set}
use Rattle.std.proofs.lemmas.Option.{same_Some}
use Rattle.task_segments.specs.InPlace.{EndsBefore, IsReadInPlace}
use Rattle.task_segments.specs.Precedence.{Continues, IsSegment}
use Rattle.task_segments.specs.Table.{Table, segment}
use Rattle.task_segments.specs.declared.table.Closing.TheVariants.{EndsGroup}
use Rattle.depend_table.specs.KeptEdges.{IsKeptEdge, KeptGroupEnd}
use Rattle.depend_table.specs.Lists.{Lists}
use Rattle.depend_table.proofs.Lists.{lists_same}
use Rattle.open_segments.specs.Members.{AreMembersBelow}
use Rattle.open_segments.specs.WaysToOpen.{Joins}
use Rattle.open_segments.proofs.Edges.{ends_not_creates}
use Rattle.open_segments.proofs.Joining.{joins_then_before}
use Rattle.open_segments.proofs.ListLemmas.{Below, Lists-all, Lists-none, Lists-push, Lists-skip}
use Rattle.open_segments.proofs.Since.{group_joins}

abbrev Waits : Table → ℕ → ℕ → Type 0
Waits table t s = KeptGroupEnd table s t

-- the segment after a group follows the one that ends it
pub after_before : (table : Table) (t : ℕ) → IsReadInPlace table → (ends : EndsBefore table t)
    → ends.before + 1 ≡ t
after_before table t facts ends =
    facts.one_follows ends.before (ends.before + 1) t
    (facts.after_group ends.before ends.is_before ends.ends_group) ends.after

-- an end of a group is entered exactly where a segment ends one
pub ends_one : (table : Table) (before : ℕ) (keep : Bool)
    → IsReadInPlace table
    → IsSegment table before
    → IsTrue keep ↔ ((segment table before).closing ≡ EndsGroup)
    → IsTrue keep ↔ EndsBefore table (before + 1)
ends_one table before keep facts known is = (
  λ on. record {
    before = before;
    is_before = known;
    ends_group = is.0 on;
    after = facts.after_group before known (is.0 on);
  },
  λ ends.
      let same : ends.before ≡ before =
      let next = after_before table (before + 1) facts ends in omega (arith, next) in
      is.1 (subst (λ (n : ℕ). (segment table n).closing ≡ EndsGroup) same ends.ends_group),
)

pub none_at_first : (table : Table) → IsReadInPlace table → Lists (Below (EndsBefore table) 1) []
none_at_first table facts =
    Lists-none (Below (EndsBefore table) 1) (λ t h.
    let next = after_before table t facts h.1 in
    let low = h.0 in
    absurd (omega (arith, next, low)))

pub all_after_groups : (table : Table) (n : ℕ) (groups : List ℕ)
    → IsReadInPlace table
    → n ≡ length table.segments
    → Lists (Below (EndsBefore table) (n + 1)) groups
    → Lists (EndsBefore table) groups
all_after_groups table n groups facts all lists =
    Lists-all (EndsBefore table) (n + 1) groups (λ t ends.
    let next = after_before table t facts ends in
    let known = ends.is_before in
    omega (arith, next, known, all)) lists

-- before the first segment there are none
pub no_members : (table : Table) (groups : List ℕ) (lists : List (List ℕ)) (count : ℕ)
    → count ≡ length groups
    → Lists (EndsBefore table) groups
    → lists ≡ replicate count []
    → AreMembersBelow table 0 groups lists
no_members table groups lists count all after none = record {
  after_groups = after;
  each = ap (λ (l : List (List ℕ)). length l) none ∙ length-replicate {A = List ℕ} count [] ∙ all;
  kept = λ k known.
      let empty : get_or lists k [] ≡ [] =
      ap (λ (l : List (List ℕ)). get_or l k []) none
      ∙ get_or-replicate count k [] [] (omega (arith, known, all)) in
      subst (λ (l : List ℕ). Lists (Below (Waits table (get_or groups k 0)) 0) l) (sym empty)
      (Lists-none (Below (Waits table (get_or groups k 0)) 0) (λ s h.
      let low = h.0 in absurd (omega (arith, low))));
}

-- the segment after the innermost group of a task is one of those
pub group_ends : (table : Table) (s t : ℕ) → IsReadInPlace table → KeptGroupEnd table s t
    → EndsBefore table t
group_ends table s t facts end = (facts.group end.inside t end.is_inside end.innermost).0

-- where the next segment ends no task in a group
pub none_entered : (table : Table) (n : ℕ) (groups : List ℕ) (lists : List (List ℕ))
    → ((t : ℕ) → ¬ KeptGroupEnd table n t)
    → AreMembersBelow table n groups lists
    → AreMembersBelow table (n + 1) groups lists
none_entered table n groups lists none so_far = record {
  after_groups = so_far.after_groups;
  each = so_far.each;
  kept = λ k known.
      Lists-skip (Waits table (get_or groups k 0)) n (get_or lists k []) (none (get_or groups k 0))
      (so_far.kept k known);
}

not_below : (xs : List ℕ) → IsStrictlyIncreasing xs → (i j : ℕ) → i ≤ j → j < length xs
    → get_or xs i 0 ≤ get_or xs j 0
not_below xs up i j order within = elim (cases_lt i j) [
  | inl less ↦
      let below = AllPairs-from_increasing xs up i j 0 less within in omega (arith, below)
  | inr other ↦
      let same : i ≡ j = omega (arith, order, other) in
      omega (arith, ap (λ (n : ℕ). get_or xs n 0) same)
]

-- two places of an ascending list hold different numbers
apart_at : (xs : List ℕ) (i j : ℕ)
    → IsStrictlyIncreasing xs
    → i < length xs
    → j < length xs
    → get_or xs i 0 ≡ get_or xs j 0
    → i ≡ j
apart_at xs i j up within also same =
    let pairs = AllPairs-from_increasing xs up in
    elim (cases_lt i j) [
      | inl less ↦ absurd (let below = pairs i j 0 less also in omega (arith, below, same))
      | inr above ↦ elim (cases_lt j i) [
        | inl less ↦ absurd (let below = pairs j i 0 less within in omega (arith, below, same))
        | inr low ↦ omega (arith, above, low)
      ]
    ]

-- what a search among ascending numbers finds, of which this is one
pub found_place : (xs : List ℕ) (x : ℕ) (found : Result ℕ ℕ)
    → IsStrictlyIncreasing xs
    → Contains xs x
    → IsBinarySearchResult (λ y. nat_cmp y x) xs found
    → MatchResult found (λ i. (i < length xs) × (get_or xs i 0 ≡ x)) (λ i. ⊥)
found_place xs x (Ok i) up has is = searched xs x (Ok i) is (not_below xs up)
found_place xs x (Err i) up has is =
    let cut = searched xs x (Err i) is (not_below xs up) in
    let there : get_or xs has.0 0 ≡ x = get_or_default xs has.0 0 x has.1 ∙ has.2 in
    elim (cases_lt has.0 i) [
      | inl less ↦ let below = cut.1 has.0 less in omega (arith, below, there)
      | inr more ↦ let above = cut.2 has.0 more has.1 in omega (arith, above, there)
    ]

-- where it ends one
pub one_entered : (table : Table) (n group place : ℕ) (groups : List ℕ) (old new : List (List ℕ))
    → ((t : ℕ) → (Some group ≡ Some t) ↔ KeptGroupEnd table n t)
    → place < length groups
    → get_or groups place 0 ≡ group
    → new ≡ slice_set old place (get_or old place [] ++ n ∷ [])
    → AreMembersBelow table n groups old
    → AreMembersBelow table (n + 1) groups new
one_entered table n group place groups old new is within there are so_far =
    let here : KeptGroupEnd table n (get_or groups place 0) =
    subst (λ (t : ℕ). KeptGroupEnd table n t) (sym there) ((is group).0 refl) in
    let each = so_far.each in
    let list : List ℕ = get_or old place [] ++ n ∷ [] in
    let inside : place < length old = omega (arith, within, each) in
    let up = so_far.after_groups.ascending in
    subst (λ (lists : List (List ℕ)). AreMembersBelow table (n + 1) groups lists) (sym are) (record {
      after_groups = so_far.after_groups;
      each = length-set old place list ∙ each;
      kept = λ k known. elim (cases_eq k place) [
        | inl same ↦
            let Q : ℕ → Type 0 = λ u.
            Lists (Below (Waits table (get_or groups u 0)) (n + 1))
            (get_or (slice_set old place list) u []) in
            let at_place : Q place =
            subst (λ (l : List ℕ). Lists (Below (Waits table (get_or groups place 0)) (n + 1)) l)
            (sym (get_or-set_same old place list [] inside))
            (Lists-push (Waits table (get_or groups place 0)) n (get_or old place []) here
            (so_far.kept place within)) in
            subst Q (sym same) at_place
        | inr apart ↦
            subst (λ (l : List ℕ). Lists (Below (Waits table (get_or groups k 0)) (n + 1)) l)
            (sym (get_or-set_other old place k list [] apart))
            (Lists-skip (Waits table (get_or groups k 0)) n (get_or old k [])
            (λ end. apart (apart_at groups k place up known within
            (sym (same_Some group (get_or groups k 0) ((is (get_or groups k 0)).1 end))
            ∙ sym there)))
            (so_far.kept k known))
      ];
    })

-- those that a segment after a group waits for, and then the segment that ends the group
pub members_then_before : (table : Table) (before next : ℕ) (list all : List ℕ)
    → IsReadInPlace table
    → Continues table before next
    → (segment table before).closing ≡ EndsGroup
    → Lists (Below (Waits table next) (length table.segments)) list
    → all ≡ list ++ before ∷ []
    → Lists (λ p. IsKeptEdge table p next) all
members_then_before table before next list all facts follows ends members are =
    let count : ℕ = length table.segments in
    let joins = λ (s : ℕ). group_joins table before next s facts follows ends in
    let known = follows.is_from in
    joins_then_before table before next count list all facts follows
    (λ child creates. ends_not_creates (segment table before).closing child ends creates)
    (omega (arith, known))
    (lists_same (Below (Waits table next) count) (Below (λ p. Joins table p next) count) list
    members
    (λ n h. (h.0, (joins n).0 h.1)) (λ n h. (h.0, (joins n).1 h.1)))
    are
