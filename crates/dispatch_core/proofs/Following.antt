-- The lists of successors, as they are counted and filled.
use Rattle.std.proofs.Common.{ℕ, ◌+◌, ◌<◌, ◌≤◌, ◌≡◌, ◌⊎◌, List, [], ◌∷◌, ◌++◌, Bool, true, false}
use Rattle.std.proofs.Common.{length, take, get_or, set, refl, sym, ap, ◌∙◌, subst, arith, inl, inr}
use Rattle.std.proofs.Common.{zero, suc, sum_by, cond, nat_eq}
use Rattle.std.specs.Prelude.{Contains, AllPairs, replicate}
use Rattle.std.specs.List.Sorted.{IsStrictlyIncreasing}
use Rattle.std.proofs.lemmas.Bool.{cases_eq, cases_lt, eq-eqb, ne_eqb}
use Rattle.std.proofs.lemmas.List.{get_or-set_same, get_or-set_other, length-set, take_all}
use Rattle.std.proofs.lemmas.List.{get_or_default, get_or_past, get_or-replicate, length-replicate}
use Rattle.std.proofs.lemmas.List.{length_push}
use Rattle.std.proofs.lemmas.List.Kept.{AllPairs-from_increasing}
use Rattle.std.proofs.lemmas.List.Sums.{sum_by_more, sum_by-take-drop}
use Rattle.depend_table.specs.Lists.{Lists}
use Rattle.depend_table.proofs.Lists.{cases_contains}
use Rattle.open_segments.specs.FilledLists.{Filled}
use Rattle.open_segments.proofs.Ascending.{times_none, times_once}
use Rattle.open_segments.proofs.Falls.{differ_from_once, fresh_next, next_cases, next_has, still_has}
use Rattle.open_segments.proofs.ListLemmas.{Below, Lists-push, Lists-skip, Lists-all, Lists-none}
use Rattle.dispatch_core.specs.RecordedGraph.{RecordedGraph, IsGraph, Precedes, predecessors_of}
use Rattle.dispatch_core.specs.Successors.{AreSuccessors, AreCounted, times}

counted_as : (b c : Bool) → b ≡ c → cond {A = ℕ} b 1 0 ≡ cond {A = ℕ} c 1 0
counted_as b c same = ap (λ (x : Bool). cond {A = ℕ} x 1 0) same

-- the next one is none of those before it
pub fresh : (places : List ℕ) (i : ℕ) → IsStrictlyIncreasing places → i < length places
    → ¬ Contains (take i places) (get_or places i 0)
fresh places i up within =
    fresh_next places i (get_or places i 0) within
    (get_or_default places i 0 (get_or places i 0) within)
    (differ_from_once places (AllPairs-from_increasing places up))

-- one more of these places is counted
pub count_next : (places before now : List ℕ) (i : ℕ)
    → i < length places
    → length now ≡ length before
    → get_or places i 0 < length before
    → ((r : ℕ) → r < length before
    → get_or now r 0 ≡ get_or before r 0 + times r (take i places))
    → (r : ℕ)
    → r < length before
    → get_or (set now (get_or places i 0) (get_or now (get_or places i 0) 0 + 1)) r 0
    ≡ get_or before r 0 + times r (take (i + 1) places)
count_next places before now i within each inside so_far r known =
    let place : ℕ = get_or places i 0 in
    let more = sum_by_more (λ y. cond {A = ℕ} (nat_eq y r) 1 0) places i 0 within in
    let was = so_far r known in
    elim (cases_eq r place) [
      | inl same ↦
          let one : cond {A = ℕ} (nat_eq place r) 1 0 ≡ 1 =
          counted_as (nat_eq place r) true (eq-eqb place r (sym same)) in
          let new : get_or (set now place (get_or now place 0 + 1)) r 0 ≡ get_or now r 0 + 1 =
          ap (λ (n : ℕ). get_or (set now place (get_or now place 0 + 1)) n 0) same
          ∙ get_or-set_same now place (get_or now place 0 + 1) 0 (omega (arith, each, inside))
          ∙ ap (λ (n : ℕ). get_or now n 0 + 1) (sym same) in
          omega (arith, one, new, more, was)
      | inr apart ↦
          let none : cond {A = ℕ} (nat_eq place r) 1 0 ≡ 0 =
          counted_as (nat_eq place r) false (ne_eqb place r (λ same. apart (sym same))) in
          let new = get_or-set_other now place r (get_or now place 0 + 1) 0 apart in
          omega (arith, none, new, more, was)
    ]

-- a number is put in the lists at the first of these places
pub record IsEntered (places : List ℕ) (i number : ℕ) (before now : Filled) : Type 0 where
  pub rooms : now.rooms ≡ before.rooms
  pub each : length now.lists ≡ length before.lists
  pub entered : (r : ℕ)
      → Contains (take i places) r
      → get_or now.lists r [] ≡ get_or before.lists r [] ++ number ∷ []
  pub others : (r : ℕ)
      → ¬ Contains (take i places) r
      → get_or now.lists r [] ≡ get_or before.lists r []

pub enter_next : (places : List ℕ) (i number : ℕ) (before now after : Filled)
    → IsStrictlyIncreasing places
    → i < length places
    → get_or places i 0 < length before.lists
    → after ≡ record now {
      lists = set now.lists (get_or places i 0)
          (get_or now.lists (get_or places i 0) [] ++ number ∷ []);
    }
    → IsEntered places i number before now
    → IsEntered places (i + 1) number before after
enter_next places i number before now after up within inside is so_far =
    let place : ℕ = get_or places i 0 in
    let list : List ℕ = get_or now.lists place [] ++ number ∷ [] in
    let at : place ≡ get_or places i place = get_or_default places i 0 place within in
    let lists : after.lists ≡ set now.lists place list = ap (λ (f : Filled). f.lists) is in
    let other : (r : ℕ) → (r ≡ place → ⊥) → get_or after.lists r [] ≡ get_or now.lists r [] =
    λ r apart. ap (λ (l : List (List ℕ)). get_or l r []) lists
    ∙ get_or-set_other now.lists place r list [] apart in
    record {
      rooms = ap (λ (f : Filled). f.rooms) is ∙ so_far.rooms;
      each = ap (λ (l : List (List ℕ)). length l) lists ∙ length-set now.lists place list
          ∙ so_far.each;
      entered = λ r has. elim (next_cases places i place r within at has) [
        | inl earlier ↦
            other r (λ same. fresh places i up within
            (subst (λ (n : ℕ). Contains (take i places) n) same earlier))
            ∙ so_far.entered r earlier
        | inr same ↦
            ap (λ (n : ℕ). get_or after.lists n []) same
            ∙ ap (λ (l : List (List ℕ)). get_or l place []) lists
            ∙ get_or-set_same now.lists place list [] (let each = so_far.each in
            omega (arith, each, inside))
            ∙ ap (λ (l : List ℕ). l ++ number ∷ []) (so_far.others place (fresh places i up within))
            ∙ ap (λ (n : ℕ). get_or before.lists n [] ++ number ∷ []) (sym same)
      ];
      others = λ r none.
          other r (λ same. none (subst (λ (n : ℕ). Contains (take (i + 1) places) n) (sym same)
          (next_has places i place within at)))
          ∙ so_far.others r (λ h. none (still_has places i place r within h));
    }

-- how often each segment is a predecessor of the first n
abbrev pub fed : RecordedGraph → ℕ → ℕ → ℕ
fed graph n r = sum_by (λ list. times r list) (take n graph.predecessors)

pub fed_next : (graph : RecordedGraph) (n r : ℕ)
    → n < length graph.predecessors
    → fed graph (n + 1) r ≡ fed graph n r + times r (predecessors_of graph n)
fed_next graph n r within = sum_by_more (λ list. times r list) graph.predecessors n [] within

pub times_few : (r : ℕ) (xs : List ℕ) → IsStrictlyIncreasing xs → times r xs ≤ 1
times_few r xs up = elim (cases_contains xs r) [
  | inl has ↦ omega (arith, times_once r xs up has)
  | inr none ↦ omega (arith, times_none r xs none)
]

pub fed_few : (graph : RecordedGraph) (n r : ℕ) → IsGraph graph → n ≤ length graph.predecessors
    → fed graph n r ≤ n
fed_few graph zero r is within = omega arith
fed_few graph (suc n) r is within =
    let here : fed graph (n + 1) r ≡ fed graph n r + times r (predecessors_of graph n) =
    fed_next graph n r (omega (arith, within)) in
    let rest = fed_few graph n r is (omega (arith, within)) in
    let one = times_few r (predecessors_of graph n) (is.ascending n) in
    let same : suc n ≡ n + 1 = omega arith in
    omega (arith, here, rest, one, ap (λ (k : ℕ). fed graph k r) same)

-- the lists of successors among the first n segments, of these rooms
pub record IsFilledTo (graph : RecordedGraph) (n : ℕ) (rooms : List ℕ) (now : Filled) : Type 0 where
  pub same_rooms : now.rooms ≡ rooms
  pub each : length now.lists ≡ length graph.costs
  pub so_far : (r : ℕ)
      → r < length graph.costs
      → Lists (Below (Precedes graph r) n) (get_or now.lists r [])
  pub sizes : (r : ℕ) → r < length graph.costs → length (get_or now.lists r []) ≡ fed graph n r

pub nothing_yet : (graph : RecordedGraph) (rooms : List ℕ) (now : Filled)
    → length rooms ≡ length graph.costs
    → now.rooms ≡ rooms
    → now.lists ≡ replicate (length rooms) []
    → IsFilledTo graph 0 rooms now
nothing_yet graph rooms now each same lists =
    let empty : (r : ℕ) → r < length graph.costs → get_or now.lists r [] ≡ [] = λ r known.
    ap (λ (l : List (List ℕ)). get_or l r []) lists
    ∙ get_or-replicate (length rooms) r [] [] (omega (arith, known, each)) in
    record {
      same_rooms = same;
      each = ap (λ (l : List (List ℕ)). length l) lists
          ∙ length-replicate {A = List ℕ} (length rooms) [] ∙ each;
      so_far = λ r known.
          subst (λ (l : List ℕ). Lists (Below (Precedes graph r) 0) l) (sym (empty r known))
          (Lists-none (Below (Precedes graph r) 0) (λ t h.
          let low = h.0 in absurd (omega (arith, low))));
      sizes = λ r known. ap (λ (l : List ℕ). length l) (empty r known);
    }

pub fill_next : (graph : RecordedGraph) (n : ℕ) (rooms places : List ℕ) (now after : Filled)
    → IsGraph graph
    → n < length graph.costs
    → places ≡ predecessors_of graph n
    → after.rooms ≡ now.rooms
    → length after.lists ≡ length now.lists
    → ((r : ℕ) → Contains places r
    → get_or after.lists r [] ≡ get_or now.lists r [] ++ n ∷ [])
    → ((r : ℕ) → ¬ Contains places r → get_or after.lists r [] ≡ get_or now.lists r [])
    → IsFilledTo graph n rooms now
    → IsFilledTo graph (n + 1) rooms after
fill_next graph n rooms places now after is within are same each entered others filled =
    let all = is.each in
    let more = λ (r : ℕ). fed_next graph n r (omega (arith, within, all)) in
    let up : IsStrictlyIncreasing places =
    subst (λ (l : List ℕ). IsStrictlyIncreasing l) (sym are) (is.ascending n) in
    let counted = λ (r : ℕ). ap (λ (l : List ℕ). times r l) are in
    record {
      same_rooms = same ∙ filled.same_rooms;
      each = each ∙ filled.each;
      so_far = λ r known. elim (cases_contains places r) [
        | inl has ↦
            subst (λ (l : List ℕ). Lists (Below (Precedes graph r) (n + 1)) l)
            (sym (entered r has))
            (Lists-push (Precedes graph r) n (get_or now.lists r [])
            (subst (λ (l : List ℕ). Contains l r) are has) (filled.so_far r known))
        | inr none ↦
            subst (λ (l : List ℕ). Lists (Below (Precedes graph r) (n + 1)) l)
            (sym (others r none))
            (Lists-skip (Precedes graph r) n (get_or now.lists r [])
            (λ h. none (subst (λ (l : List ℕ). Contains l r) (sym are) h)) (filled.so_far r known))
      ];
      sizes = λ r known. elim (cases_contains places r) [
        | inl has ↦ omega (
          arith,
          ap (λ (l : List ℕ). length l) (entered r has),
          length_push (get_or now.lists r []) n,
          filled.sizes r known,
          more r,
          counted r,
          times_once r places up has,
        )
        | inr none ↦ omega (
          arith,
          ap (λ (l : List ℕ). length l) (others r none),
          filled.sizes r known,
          more r,
          counted r,
          times_none r places none,
        )
      ];
    }

-- no count is large
pub few_counted : (graph : RecordedGraph) (counts : List ℕ) (r : ℕ)
    → IsGraph graph
    → AreCounted graph (length graph.costs) counts
    → get_or counts r 0 ≤ length graph.costs
few_counted graph counts r is are =
    let all = is.each in
    let each = are.each in
    elim (cases_lt r (length graph.costs)) [
      | inl known ↦ omega (
        arith,
        are.counted r known,
        fed_few graph (length graph.costs) r is (omega (arith, all)),
      )
      | inr past ↦ omega (arith, get_or_past counts r 0 (omega (arith, each, past)))
    ]

-- the list of a predecessor has room
pub has_room : (graph : RecordedGraph) (n r : ℕ) (rooms places : List ℕ) (now : Filled)
    → IsGraph graph
    → n < length graph.costs
    → places ≡ predecessors_of graph n
    → AreCounted graph (length graph.costs) rooms
    → IsFilledTo graph n rooms now
    → Contains places r
    → length (get_or now.lists r []) < get_or now.rooms r 0
has_room graph n r rooms places now is within are counts filled has =
    let all = is.each in
    let precedes : Precedes graph r n = subst (λ (l : List ℕ). Contains l r) are has in
    let less = is.smaller r n precedes in
    let known : r < length graph.costs = omega (arith, less, within) in
    let here : get_or now.rooms r 0 ≡ fed graph (length graph.costs) r =
    ap (λ (l : List ℕ). get_or l r 0) filled.same_rooms ∙ counts.counted r known in
    let whole : fed graph (length graph.costs) r ≡ sum_by (λ list. times r list) graph.predecessors =
    ap (λ (l : List (List ℕ)). sum_by (λ list. times r list) l)
    (take_all (length graph.costs) graph.predecessors (omega (arith, all))) in
    omega (
      arith,
      here,
      whole,
      filled.sizes r known,
      fed_next graph n r (omega (arith, within, all)),
      times_once r (predecessors_of graph n) (is.ascending n) precedes,
      sum_by-take-drop (λ list. times r list) graph.predecessors (n + 1),
    )

-- all lists are full in the end
pub all_full : (graph : RecordedGraph) (rooms : List ℕ) (now : Filled)
    → AreCounted graph (length graph.costs) rooms
    → IsFilledTo graph (length graph.costs) rooms now
    → (r : ℕ)
    → length (get_or now.lists r []) ≡ get_or now.rooms r 0
all_full graph rooms now counts filled r = elim (cases_lt r (length graph.costs)) [
  | inl known ↦ filled.sizes r known ∙ sym (counts.counted r known)
      ∙ ap (λ (l : List ℕ). get_or l r 0) (sym filled.same_rooms)
  | inr past ↦
      let none = get_or_past now.lists r [] (let each = filled.each in omega (arith, each, past)) in
      let no_room = get_or_past rooms r 0 (let each = counts.each in omega (arith, each, past)) in
      omega (
        arith,
        ap (λ (l : List ℕ). length l) none,
        no_room,
        ap (λ (l : List ℕ). get_or l r 0) filled.same_rooms,
      )
]

pub precedes_known : (graph : RecordedGraph) (s t : ℕ) → IsGraph graph → Precedes graph s t
    → t < length graph.costs
precedes_known graph s t is precedes = elim (cases_lt t (length graph.costs)) [
  | inl known ↦ known
  | inr past ↦
      let all = is.each in
      let within : precedes.0 < length (predecessors_of graph t) = precedes.1 in
      absurd (omega (
        arith,
        within,
        ap (λ (l : List ℕ). length l)
            (get_or_past graph.predecessors t [] (omega (arith, past, all))),
      ))
]

pub are_successors : (graph : RecordedGraph) (rooms : List ℕ) (now : Filled)
    → IsGraph graph
    → IsFilledTo graph (length graph.costs) rooms now
    → AreSuccessors graph now.lists
are_successors graph rooms now is filled = record {
  each = filled.each;
  follow = λ s known.
      Lists-all (Precedes graph s) (length graph.costs) (get_or now.lists s [])
      (λ t precedes. precedes_known graph s t is precedes) (filled.so_far s known);
}
