-- What the sums of all places, and the costs of a path, come to.
use Rattle.std.proofs.Common.{◌≡◌, ◌+◌, ◌-◌, ◌<◌, ◌≤◌, ◌∙◌, ◌++◌, ℕ, zero, suc, List, [], ◌∷◌, Option, ap}
use Rattle.std.proofs.Common.{Contains, arith, drop, length, refl, sum, sum_by}
use Rattle.std.proofs.lemmas.List.{drop-drop, get_or_default}
use Rattle.std.proofs.lemmas.List.Sums.{sum_by-cons, sum_by-drop_more, sum_by-take-drop}
use Rattle.csv_table.specs.Row.{line_of, row_line}
use Rattle.csv_table.specs.Tables.{numbered_table, rows_from}
use Rattle.task_segments.specs.Schedule.{IsChain, at}
use Rattle.large_documents.specs.Places.{place_count, place_row, places_header, row_of, segments_of}
use Rattle.large_documents.specs.Places.{sums_at}
use Rattle.large_documents.specs.PlaceSteps.{ArePlaceSums}
use Rattle.large_documents.specs.declared.places.PlaceSums.{PlaceSums}

pub same_rows : (f g : ℕ → List (Option ℕ)) (a n : ℕ) → ((p : ℕ) → p < a + n → f p ≡ g p)
    → rows_from f a n ≡ rows_from g a n
same_rows f g a zero same = refl
same_rows f g a (suc n) same =
    ap (λ (row : List (Option ℕ)). row_line row ++ rows_from f (a + 1) n) (same a (omega arith))
    ∙ ap (λ (rest : List ℕ). row_line (g a) ++ rest)
    (same_rows f g (a + 1) n (λ p below. same p (omega (arith, below))))

pub table_of_sums : (places costs slacks path : List ℕ) (sums : List PlaceSums)
    → ArePlaceSums places costs slacks (segments_of places) path sums
    → numbered_table places_header (place_row sums) 0 (length sums)
    ≡ numbered_table places_header (λ p. row_of (sums_at places costs slacks path p) p) 0
    (place_count places)
table_of_sums places costs slacks path sums are =
    let row : ℕ → List (Option ℕ) = λ p. row_of (sums_at places costs slacks path p) p in
    ap (λ (rows : List ℕ). line_of (λ name. name) places_header ++ rows)
    (same_rows (place_row sums) row 0 (length sums)
    (λ p below. ap (λ (x : PlaceSums). row_of x p) (are.each p (omega (arith, below)))))
    ∙ ap (λ (n : ℕ). numbered_table places_header row 0 n) are.count

-- ---- the costs of a path

drop_less : (costs : List ℕ) (a b : ℕ) → a ≤ b → sum (drop b costs) ≤ sum (drop a costs)
drop_less costs a b less =
    let k = b - a in
    let place : a + k ≡ b = omega (arith, less) in
    let parts = sum_by-take-drop (λ x. x) (drop a costs) k in
    let same : sum (drop k (drop a costs)) ≡ sum (drop b costs) =
    ap sum (drop-drop k a costs) ∙ ap (λ (j : ℕ). sum (drop j costs)) place in
    omega (arith, parts, same)

module _ (costs : List ℕ) (R : ℕ → ℕ → Type 0) (up : (s t : ℕ) → R s t → s < t) where
  chain_work : (s : ℕ) (rest : List ℕ) → IsChain R (s ∷ rest)
      → ((k : ℕ) → k < length (s ∷ rest) → at (s ∷ rest) k < length costs)
      → sum_by (at costs) (s ∷ rest) ≤ sum (drop s costs)
  chain_work s [] linked inside =
      omega (
        arith,
        sum_by-drop_more (λ x. x) costs s 0 (inside 0 (omega arith)),
        sum_by-cons (at costs) s [],
      )
  chain_work s (t ∷ rest) linked inside =
      let here = sum_by-drop_more (λ x. x) costs s 0 (inside 0 (omega arith)) in
      let later = chain_work t rest linked.1 (λ k h. inside (suc k) (omega (arith, h))) in
      let before = drop_less costs (s + 1) t (omega (arith, up s t linked.0)) in
      omega (arith, here, later, before, sum_by-cons (at costs) s (t ∷ rest))

  -- the costs of a path, whose numbers ascend, are among all costs
  pub path_work : (path : List ℕ) → IsChain R path
      → ((s : ℕ) → Contains path s → s < length costs)
      → sum_by (at costs) path ≤ sum costs
  path_work [] linked inside = omega arith
  path_work (s ∷ rest) linked inside =
      let path = s ∷ rest in
      let among = chain_work s rest linked
      (λ k h. inside (at path k) (k, h, get_or_default path k (at path k) 0 h)) in
      omega (arith, among, drop_less costs 0 s (omega arith))
