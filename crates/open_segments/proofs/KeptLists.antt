-- The kept predecessors of all segments, one after another, and the siblings entered so far.
use Rattle.std.proofs.Common.{ℕ, ◌+◌, ◌<◌, ◌≡◌, List, [], ◌∷◌, ◌++◌, Option, Some, None, length}
use Rattle.std.proofs.Common.{get_or, refl, sym, ap, ◌∙◌, subst, arith, inl, inr}
use Rattle.std.specs.Prelude.{slice_get, slice_set, replicate, OnOk, Result, Ok, Err}
use Rattle.std.proofs.lemmas.Bool.{cases_eq, cases_lt}
use Rattle.std.proofs.lemmas.List.{get_or_append_left, get_or_push, length_push, length-set}
use Rattle.std.proofs.lemmas.List.{length-replicate}
use Rattle.task_segments.specs.Table.{Table, segment, task}
use Rattle.task_segments.specs.declared.table.Closing.TheVariants.{Creates}
use Rattle.task_segments.specs.Precedence.{IsSegment}
use Rattle.task_segments.specs.InPlace.{IsReadInPlace}
use Rattle.depend_table.specs.Siblings.{Sibling}
use Rattle.depend_table.specs.Lists.{Lists}
use Rattle.depend_table.specs.KeptEdges.{IsKeptEdge, children_below}
use Rattle.open_segments.specs.Entry.{entry}
use Rattle.open_segments.specs.Facts.{IsSoundTable}
use Rattle.open_segments.specs.Counters.{HasValue}
use Rattle.open_segments.specs.KeptLists.{AreEntered, AreFirstLists}
use Rattle.open_segments.proofs.PlaceLemmas.{entry-replicate}
use Rattle.open_segments.proofs.ListLemmas.{Lists-none}
use Rattle.open_segments.proofs.SiblingSteps.{has_more, has_new, had_value}
use Rattle.open_segments.proofs.SiblingSteps.{IsNextChild, next_child, siblings_first}
use Rattle.open_segments.proofs.SiblingSteps.{siblings_more, siblings_so_far, siblings_still}

pub on_ok : {A B : Type 0} (r : Result A B) {P : Type 0} → P → OnOk r P
on_ok (Ok x) holds = holds
on_ok (Err e) holds = tt

-- a place that is not valued has no value
no_value : (values : List (Option ℕ)) (s : ℕ) (found : Option ℕ)
    → entry values s ≡ found
    → ¬ HasValue values s
    → entry values s ≡ None
no_value values s None is none = is
no_value values s (Some value) is none = absurd (none (record { value = value; is = is }))

-- before the first segment no child is entered
pub entered_first : (table : Table) → AreEntered table 0 (replicate (length table.tasks) [])
entered_first table =
    let values : List (Option ℕ) = replicate (length table.segments) None in
    let none : (s : ℕ) → ¬ HasValue values s = λ s has.
    entry-replicate (length table.segments) has.value s has.is in
    record {
      values = values;
      each = length-replicate {A = Option ℕ} (length table.segments) None;
      below = λ s has. absurd (none s has);
      valued = λ s less. absurd (omega (arith, less));
      entered = siblings_first table (length table.tasks) values refl none;
    }

-- the values where the next segment has one too
below_next : (values : List (Option ℕ)) (s t : ℕ)
    → ((r : ℕ) → HasValue values r → r < s)
    → HasValue (slice_set values s (Some 0)) t
    → t < s + 1
below_next values s t below has = elim (had_value values s 0 t has) [
  | inl had ↦ let less = below t had in omega (arith, less)
  | inr same ↦ omega (arith, same)
]

valued_next : (values : List (Option ℕ)) (s t : ℕ)
    → s < length values
    → ((r : ℕ) → r < s → HasValue values r)
    → t < s + 1
    → HasValue (slice_set values s (Some 0)) t
valued_next values s t within valued less = elim (cases_eq t s) [
  | inl same ↦ subst (λ (n : ℕ). HasValue (slice_set values s (Some 0)) n) (sym same)
      (has_new values s 0 within)
  | inr apart ↦ has_more values s 0 t within (valued t (omega (arith, less, apart)))
]

-- where the next segment creates no task
pub entered_still : (table : Table) (s : ℕ) (siblings : List (List Sibling))
    → IsSegment table s
    → ((child : ℕ) → ¬ ((task table child).creator ≡ Some s))
    → AreEntered table s siblings
    → AreEntered table (s + 1) siblings
entered_still table s siblings known none so_far =
    let each = so_far.each in
    let within : s < length so_far.values = omega (arith, known, each) in
    record {
      values = slice_set so_far.values s (Some 0);
      each = length-set so_far.values s (Some 0) ∙ each;
      below = λ t has. below_next so_far.values s t so_far.below has;
      valued = λ t less. valued_next so_far.values s t within so_far.valued less;
      entered = siblings_still table so_far.values s 0 siblings within none so_far.entered;
    }

-- the next segment creates the child c of p
is_next : (table : Table) (s c p : ℕ) (siblings : List (List Sibling))
    → IsReadInPlace table
    → IsSegment table s
    → (segment table s).closing ≡ Creates c
    → (task table c).parent ≡ Some p
    → (so_far : AreEntered table s siblings)
    → IsNextChild table so_far.values s c p
is_next table s c p siblings facts known closing of_p so_far =
    next_child table so_far.values s c p facts known closing of_p so_far.each
    (no_value so_far.values s (entry so_far.values s) refl (λ has.
    let less = so_far.below s has in omega (arith, less)))
    (λ t is_of before. so_far.valued t before)

pub entered_so_far : (table : Table) (s c p : ℕ) (siblings : List (List Sibling))
    → IsReadInPlace table
    → IsSegment table s
    → (segment table s).closing ≡ Creates c
    → (task table c).parent ≡ Some p
    → AreEntered table s siblings
    → slice_get siblings p ≡ Some (children_below table p c)
entered_so_far table s c p siblings facts known closing of_p so_far =
    siblings_so_far table so_far.values s c p siblings
    (is_next table s c p siblings facts known closing of_p so_far) so_far.entered

pub entered_child : (table : Table) (s c p : ℕ) (siblings : List (List Sibling))
    → IsReadInPlace table
    → IsSegment table s
    → (segment table s).closing ≡ Creates c
    → (task table c).parent ≡ Some p
    → AreEntered table s siblings
    → AreEntered table (s + 1) (slice_set siblings p
    (record { task = c; items = (task table c).items } ∷ children_below table p c))
entered_child table s c p siblings facts known closing of_p so_far =
    let each = so_far.each in
    let within : s < length so_far.values = omega (arith, known, each) in
    record {
      values = slice_set so_far.values s (Some 0);
      each = length-set so_far.values s (Some 0) ∙ each;
      below = λ t has. below_next so_far.values s t so_far.below has;
      valued = λ t less. valued_next so_far.values s t within so_far.valued less;
      entered = siblings_more table so_far.values s 0 c p siblings
          (is_next table s c p siblings facts known closing of_p so_far) so_far.entered;
    }

-- the first segment is kept after none
first_list : (table : Table) → IsSoundTable table → AreFirstLists table 1 ([] ∷ [])
first_list table sound = record {
  each = refl;
  kept = λ t less.
      let first : 0 ≡ t = omega (arith, less) in
      subst (λ (n : ℕ). Lists (λ s. IsKeptEdge table s n) (get_or ([] ∷ []) n [])) first
      (Lists-none (λ s. IsKeptEdge table s 0) (λ s edge.
      let before = sound.goes_up.ascending s 0 (sound.chains.within s 0 edge) in
      absurd (omega (arith, before))));
}

pub first_pushed : (table : Table) (lists after : List (List ℕ)) (list : List ℕ)
    → IsSoundTable table
    → lists ≡ []
    → list ≡ []
    → after ≡ lists ++ list ∷ []
    → AreFirstLists table 1 after
first_pushed table lists after list sound none empty is =
    subst (λ (l : List (List ℕ)). AreFirstLists table 1 l)
    (sym (is ∙ ap (λ (l : List (List ℕ)). l ++ list ∷ []) none
    ∙ ap (λ (l : List ℕ). l ∷ []) empty))
    (first_list table sound)

-- the kept predecessors of one more segment
pub one_list_more : (table : Table) (n : ℕ) (lists : List (List ℕ)) (list : List ℕ)
    → AreFirstLists table n lists
    → Lists (λ s. IsKeptEdge table s n) list
    → AreFirstLists table (n + 1) (lists ++ list ∷ [])
one_list_more table n lists list before next =
    let each = before.each in
    record {
      each = length_push lists list ∙ omega (arith, each);
      kept = λ t less. elim (cases_lt t n) [
        | inl below ↦
            let same : get_or (lists ++ list ∷ []) t [] ≡ get_or lists t [] =
            get_or_append_left lists (list ∷ []) [] t (omega (arith, below, each)) in
            subst (λ (l : List ℕ). Lists (λ s. IsKeptEdge table s t) l) (sym same)
            (before.kept t below)
        | inr last ↦
            let is : n ≡ t = omega (arith, less, last) in
            let same : get_or (lists ++ list ∷ []) n [] ≡ list = get_or_push lists list [] n each in
            subst
            (λ (u : ℕ). Lists (λ s. IsKeptEdge table s u) (get_or (lists ++ list ∷ []) u [])) is
            (subst (λ (l : List ℕ). Lists (λ s. IsKeptEdge table s n) l) (sym same) next)
      ];
    }
