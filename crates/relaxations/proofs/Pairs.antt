-- The pairs of lists, one after another, and of a program's kept predecessors.
use Rattle.std.proofs.Common.{◌≡◌, ◌+◌, ◌∙◌, ◌<◌, ◌≤◌, ℕ, List, arith, get_or, inl, inr, length, subst, ap}
use Rattle.std.proofs.Common.{sym}
use Rattle.std.proofs.lemmas.Bool.{cases_eq, cases_lt}
use Rattle.std.proofs.lemmas.List.{get_or_default, get_or_past}
use Rattle.std.proofs.lemmas.List.Elements.{Contains-get_or}
use Rattle.std.proofs.lemmas.List.Kept.{AllPairs-from_increasing}
use Rattle.std.specs.List.Sorted.{IsStrictlyIncreasing}
use Rattle.std.specs.Prelude.{[], Contains}
use Rattle.depend_table.specs.KeptEdges.{IsKeptEdge}
use Rattle.open_segments.specs.Facts.{IsSoundTable}
use Rattle.open_segments.specs.KeptLists.{AreFirstLists}
use Rattle.task_segments.specs.Precedence.{IsSegment, MustPrecede}
use Rattle.task_segments.specs.Table.{Table}
use Rattle.relaxations.specs.PairLists.{AllArePairs, EachIsPair, IsAdded, IsNoPair, IsRow, list_at}
use Rattle.relaxations.specs.Relaxation.{AreSameSegments}
use Rattle.relaxations.specs.Verdicts.{IsNewPair}

-- ---- one list

-- the first n of these segments must precede t
abbrev pub PairsUpTo : Table → List ℕ → ℕ → ℕ → Type 0
PairsUpTo table segments t n = (k : ℕ) → k < n → MustPrecede table (get_or segments k 0) t

pub one_pair_more : (table : Table) (segments : List ℕ) (t n : ℕ)
    → PairsUpTo table segments t n
    → MustPrecede table (get_or segments n 0) t
    → PairsUpTo table segments t (n + 1)
one_pair_more table segments t n before here k less = elim (cases_eq k n) [
  | inl same ↦ subst (λ (i : ℕ). MustPrecede table (get_or segments i 0) t) (sym same) here
  | inr other ↦ before k (omega (arith, less, other))
]

pub each_pair : (table : Table) (segments : List ℕ) (t n : ℕ)
    → length segments ≤ n
    → PairsUpTo table segments t n
    → EachIsPair table segments t
each_pair table segments t n all pairs s held =
    let same : get_or segments held.0 0 ≡ s = get_or_default segments held.0 0 s held.1 ∙ held.2 in
    subst (λ (r : ℕ). MustPrecede table r t) same (pairs held.0 (omega (arith, held.1, all)))

-- a smaller number stands before
stands_before : (segments : List ℕ) (k n : ℕ)
    → IsStrictlyIncreasing segments
    → k < length segments
    → n < length segments
    → get_or segments k 0 < get_or segments n 0
    → k < n
stands_before segments k n up inside within less = elim (cases_lt k n) [
  | inl before ↦ before
  | inr after ↦ elim (cases_eq k n) [
    | inl same ↦ absurd (omega (arith, less, ap (λ (i : ℕ). get_or segments i 0) same))
    | inr other ↦
        let up : get_or segments n 0 < get_or segments k 0 =
        AllPairs-from_increasing segments up n k 0 (omega (arith, after, other)) inside in
        absurd (omega (arith, less, up))
  ]
]

-- the next of these segments makes no pair with t
pub no_pair : (table : Table) (segments : List ℕ) (t n : ℕ)
    → IsRow segments t
    → n < length segments
    → PairsUpTo table segments t n
    → ¬ MustPrecede table (get_or segments n 0) t
    → IsNoPair table segments t (get_or segments n 0)
no_pair table segments t n row within pairs is_none = record {
  listed = Contains-get_or segments n 0 within;
  is_none = is_none;
  pairs_below = λ r held less.
      let same : get_or segments held.0 0 ≡ r =
      get_or_default segments held.0 0 r held.1 ∙ held.2 in
      subst (λ (s : ℕ). MustPrecede table s t) same
      (pairs held.0 (stands_before segments held.0 n row.ascending held.1 within
      (omega (arith, less, same))));
}

-- ---- one list after another

-- the pairs of the first n lists are pairs of the table
abbrev pub RowsBefore : Table → List (List ℕ) → ℕ → Type 0
RowsBefore table lists n = (u : ℕ) → u < n → EachIsPair table (list_at lists u) u

pub one_row_more : (table : Table) (lists : List (List ℕ)) (n : ℕ)
    → RowsBefore table lists n
    → EachIsPair table (list_at lists n) n
    → RowsBefore table lists (n + 1)
one_row_more table lists n before here u less = elim (cases_eq u n) [
  | inl same ↦ subst (λ (k : ℕ). EachIsPair table (list_at lists k) k) (sym same) here
  | inr other ↦ before u (omega (arith, less, other))
]

-- ---- a program's kept predecessors

-- a kept pair is listed
listed : (new : Table) (lists : List (List ℕ)) (s t : ℕ)
    → IsSoundTable new
    → AreFirstLists new (length new.segments) lists
    → IsKeptEdge new s t
    → IsSegment new t × Contains (list_at lists t) s
listed new lists s t sound are kept =
    let inside = sound.goes_up.within s t (sound.chains.within s t kept) in
    (inside, ((are.kept t inside).each s).1 kept)

no_row : (t : ℕ) → IsRow [] t
no_row t = record {
  ascending = λ k within. absurd (omega (arith, within));
  before = λ s held. absurd (omega (arith, held.1));
}

pub row_each : (new : Table) (lists : List (List ℕ))
    → IsSoundTable new
    → AreFirstLists new (length new.segments) lists
    → (t : ℕ) → IsRow (list_at lists t) t
row_each new lists sound are t = elim (cases_lt t (length new.segments)) [
  | inl inside ↦ record {
    ascending = (are.kept t inside).ascending;
    before = λ s held.
        let kept = ((are.kept t inside).each s).0 held in
        sound.goes_up.ascending s t (sound.chains.within s t kept);
  }
  | inr past ↦
      let none : list_at lists t ≡ [] = get_or_past lists t [] (omega (arith, past, are.each)) in
      subst (λ (l : List ℕ). IsRow l t) (sym none) (no_row t)
]

pub no_more : (old new : Table) (lists : List (List ℕ))
    → IsSoundTable new
    → AreFirstLists new (length new.segments) lists
    → AllArePairs old lists
    → (s t : ℕ) → IsKeptEdge new s t → MustPrecede old s t
no_more old new lists sound are pairs s t kept =
    let found = listed new lists s t sound are kept in
    pairs t (omega (arith, found.0, are.each)) s found.1

pub new_pair : (old new : Table) (lists : List (List ℕ)) (s t : ℕ)
    → IsSoundTable new
    → AreFirstLists new (length new.segments) lists
    → AreSameSegments old new
    → IsAdded old lists s t
    → IsNewPair old new s t
new_pair old new lists s t sound are same is = record {
  same = same;
  kept = ((are.kept t (omega (arith, is.within, are.each))).each s).0 is.added.listed;
  is_new = is.added.is_none;
  least_to = λ r u less kept. is.pairs_before u less r (listed new lists r u sound are kept).1;
  least_from = λ r less kept. is.added.pairs_below r (listed new lists r t sound are kept).1 less;
}
