-- The first broken pair of each column, and of all.
use Rattle.std.proofs.Common.{◌≡◌, ◌<◌, ◌≤◌, ◌+◌, ◌/◌, ◌%◌, ℕ, List, length, Option, Some, None}
use Rattle.std.proofs.Common.{MatchOption, arith, inl, inr, subst, sym, get_or, zero, suc, [], ◌∷◌}
use Rattle.std.proofs.Common.{refl, ap, ◌∙◌, map, Contains, Result, Ok, Err, IfOk, MatchResult, Vec}
use Rattle.std.proofs.Common.{Global}
use Rattle.std.proofs.Math.Nat.{mod-add-div', mod-lt}
use Rattle.std.proofs.lemmas.Bool.{cases_lt, cases_eq}
use Rattle.std.proofs.lemmas.Option.{slice_get-get_or}
use Rattle.std.specs.List.{AllZip, range_with_len}
use Rattle.std.specs.Prelude.{slice_get}
use Rattle.task_segments.specs.Table.{Table}
use Rattle.span_cert.specs.BrokenPairs.{AreColumns, InColumn, IsColumn, IsEarliestPair, IsRow}
use Rattle.span_cert.specs.Tests.{FirstBroken, IsBroken, NoneIsBroken}

-- ---- one column

-- no segment of the column before t is broken
abbrev pub NoneInColumn : Table → List ℕ → ℕ → ℕ → Type 0
NoneInColumn table starts column t =
    (r u : ℕ) → InColumn column u → u < t → ¬ IsBroken table starts r u

-- the next one in a column is the sixty-fourth from there
before_next : (column t u : ℕ) → InColumn column t → InColumn column u → u < t + 64 → ¬ (u ≡ t)
    → u < t
before_next column t u (a, at) (b, is) less other = omega (arith, at, is, less, other)

pub next_in_column : (column t : ℕ) → InColumn column t → InColumn column (t + 64)
next_in_column column t (turn, at) = (turn + 1, omega (arith, at))

pub one_row_more : (table : Table) (starts : List ℕ) (column t : ℕ)
    → InColumn column t
    → NoneInColumn table starts column t
    → IsRow table starts t None
    → NoneInColumn table starts column (t + 64)
one_row_more table starts column t here none row r u there less b = elim (cases_eq u t) [
  | inl same ↦ let P : ℕ → Type 0 = λ n. IsBroken table starts r n in row r (subst P same b)
  | inr other ↦ none r u there (before_next column t u here there less other) b
]

pub found_in_column : (table : Table) (starts : List ℕ) (column s t : ℕ)
    → NoneInColumn table starts column t
    → IsRow table starts t (Some s)
    → IsColumn table starts column (Some (s, t))
found_in_column table starts column s t none row = record {
  broken = row.0;
  least_to = λ r u there b.
      elim (cases_lt u t) [ inl less ↦ absurd (none r u there less b) | inr more ↦ more ];
  least_from = row.1;
}

pub none_in_column : (table : Table) (starts : List ℕ) (column t : ℕ)
    → length table.segments ≤ t
    → NoneInColumn table starts column t
    → IsColumn table starts column None
none_in_column table starts column t all none r u there b =
    let inside = b.is_segment in none r u there (omega (arith, inside, all)) b

-- ---- all columns

get_column : (columns : List (Option (ℕ × ℕ))) (c : ℕ)
    → c < length columns
    → slice_get columns c ≡ Some (get_or columns c None)
get_column columns c within = slice_get-get_or columns c None within

-- each segment stands in a column
pub column_of : (t : ℕ) → InColumn (t % 64) t
column_of t = (t / 64, let divided = mod-add-div' t 64 in omega (arith, divided))

-- the pair that a column answers where one of its segments is broken
earlier_in_column : (table : Table) (starts : List ℕ) (column s t : ℕ) (answer : Option (ℕ × ℕ))
    → IsColumn table starts column answer
    → InColumn column t
    → IsBroken table starts s t
    → (pair : ℕ × ℕ) × (answer ≡ Some pair) × (pair.1 ≤ t)
earlier_in_column table starts column s t None none here b = absurd (none s t here b)
earlier_in_column table starts column s t (Some pair) found here b =
    (pair, refl, found.least_to s t here b)

-- the pair that stands for a broken one among the columns' answers
pair_for : (table : Table) (starts : List ℕ) (columns : List (Option (ℕ × ℕ))) (s t : ℕ)
    → AreColumns table starts columns
    → IsBroken table starts s t
    → (k : ℕ)
    × (pair : ℕ × ℕ)
    × (k < length columns)
    × (slice_get columns k ≡ Some (Some pair))
    × (pair.1 ≤ t)
pair_for table starts columns s t all b =
    let within : t % 64 < 64 = mod-lt t (omega arith) in
    let inside : t % 64 < length columns = omega (arith, within, all.each) in
    let answer = get_or columns (t % 64) None in
    let is = get_column columns (t % 64) inside in
    let (pair, same, before) = earlier_in_column table starts (t % 64) s t answer
    (all.column (t % 64) answer is) (column_of t) b in
    (t % 64, pair, inside, is ∙ ap (λ a. Some a) same, before)

-- the earliest of the columns' pairs is the first broken pair; with none in any column, none is
-- broken
pub first_of_all : (table : Table) (starts : List ℕ) (columns : List (Option (ℕ × ℕ)))
    (first : Option (ℕ × ℕ))
    → AreColumns table starts columns
    → IsEarliestPair columns (length columns) first
    → MatchOption first (NoneIsBroken table starts) (λ pair. FirstBroken table starts pair.0 pair.1)
first_of_all table starts columns None all none = λ s t b.
    let (k, pair, inside, is, _) = pair_for table starts columns s t all b in none k pair inside is
first_of_all table starts columns (Some first) all earliest =
    let found = all.column earliest.0.0 (Some first) earliest.0.1 in
    record {
      broken = found.broken;
      least_from = found.least_from;
      least_to = λ r u b.
          let (k, pair, inside, is, before) = pair_for table starts columns r u all b in
          let least = earliest.1 k pair inside is in
          omega (arith, before, least);
    }

-- ---- the columns' answers, from the calls that gave them

answers_cons : (E : ℕ → Option (ℕ × ℕ) → Type 0) (a : ℕ) (x : Option (ℕ × ℕ))
    (xs : List (Option (ℕ × ℕ)))
    → E a x
    → ((k : ℕ) (r : Option (ℕ × ℕ)) → slice_get xs k ≡ Some r → E (k + (a + 1)) r)
    → (k : ℕ) (r : Option (ℕ × ℕ))
    → slice_get (x ∷ xs) k ≡ Some r
    → E (k + a) r
answers_cons E a x xs first rest zero r is =
    let same : x ≡ r = cc in
    let same_column : a ≡ 0 + a = omega arith in
    let P : ℕ → Type 0 = λ t. E t r in
    let R : Option (ℕ × ℕ) → Type 0 = λ o. E a o in
    subst P same_column (subst R same first)
answers_cons E a x xs first rest (suc k) r is =
    let same_column : k + (a + 1) ≡ suc k + a = omega arith in
    let P : ℕ → Type 0 = λ t. E t r in
    subst P same_column (rest k r is)

answers_from : (E : ℕ → Option (ℕ × ℕ) → Type 0) (Q : ℕ → Option (ℕ × ℕ) → Type 0)
    → ((t : ℕ) (r : Option (ℕ × ℕ)) → Q t r → E t r)
    → (n a : ℕ)
    (xs : List (Option (ℕ × ℕ)))
    → AllZip Q (range_with_len a n) xs
    → (length xs ≡ n) × ((k : ℕ) (r : Option (ℕ × ℕ)) → slice_get xs k ≡ Some r → E (k + a) r)
answers_from E Q each zero a [] h = (refl, λ k r is. absurd (cc))
answers_from E Q each zero a (x ∷ xs) h = absurd h
answers_from E Q each (suc n) a [] h = absurd h
answers_from E Q each (suc n) a (x ∷ xs) h =
    let rest = answers_from E Q each n (a + 1) xs h.1 in
    (omega (arith, rest.0), answers_cons E a x xs (each a x h.0) rest.1)

pub are_columns : (Q : ℕ → Option (ℕ × ℕ) → Type 0) (table : Table) (starts : List ℕ) (ps : List ℕ)
    (xs items : List (Option (ℕ × ℕ)))
    → ((c : ℕ) (answer : Option (ℕ × ℕ)) → Q c answer → IsColumn table starts c answer)
    → ps ≡ range_with_len 0 64
    → AllZip Q ps xs
    → items ≡ xs
    → AreColumns table starts items
are_columns Q table starts ps xs items each range zipped same =
    let P : List ℕ → Type 0 = λ ns. AllZip Q ns xs in
    let all = answers_from (IsColumn table starts) Q each 64 0 xs (subst P range zipped) in
    let V : List (Option (ℕ × ℕ)) → Type 0 = λ rs. AreColumns table starts rs in
    subst V (sym same) (record {
      each = all.0;
      column = λ c answer is.
          let same_column : c + 0 ≡ c = omega arith in
          let T : ℕ → Type 0 = λ u. IsColumn table starts u answer in
          subst T same_column (all.1 c answer is);
    })

-- where no column wants memory, what each answers
all_ok : (E : Type 0) (Q : ℕ → Result (Option (ℕ × ℕ)) E → Type 0) (ps : List ℕ)
    (ys : List (Option (ℕ × ℕ)))
    → AllZip Q ps (map (λ y. Ok y) ys)
    → AllZip (λ c answer. Q c (Ok answer)) ps ys
all_ok E Q [] [] h = tt
all_ok E Q [] (y ∷ ys) h = absurd h
all_ok E Q (p ∷ ps) [] h = absurd h
all_ok E Q (p ∷ ps) (y ∷ ys) h = (h.0, all_ok E Q ps ys h.1)

pub columns_from : (E : Type 0) (Q : ℕ → Result (Option (ℕ × ℕ)) E → Type 0) (table : Table)
    (starts ps : List ℕ)
    (xs : List (Result (Option (ℕ × ℕ)) E))
    (r : Result (Vec (Option (ℕ × ℕ)) Global) E)
    → ((c : ℕ) (answer : Option (ℕ × ℕ)) → Q c (Ok answer) → IsColumn table starts c answer)
    → ps ≡ range_with_len 0 64
    → AllZip Q ps xs
    → MatchResult r
    (λ c. (ys : List (Option (ℕ × ℕ))) × (xs ≡ map (λ y. Ok y) ys) × (c.items ≡ ys))
    (λ e. Contains xs (Err e))
    → IfOk r (λ columns. AreColumns table starts columns.items)
columns_from E Q table starts ps xs (Ok v) each range zipped found =
    let S : List (Result (Option (ℕ × ℕ)) E) → Type 0 = λ rs. AllZip Q ps rs in
    are_columns (λ c answer. Q c (Ok answer)) table starts ps found.0 v.items each range
    (all_ok E Q ps found.0 (subst S found.1 zipped)) found.2
columns_from E Q table starts ps xs (Err e) each range zipped found = tt
