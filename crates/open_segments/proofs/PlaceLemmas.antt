-- A write to one place of a list, and how many places pass a test.
use Rattle.std.proofs.Common.{ℕ, ◌+◌, ◌<◌, ◌≡◌, ◌≢◌, zero, suc, Bool, true, false, List, []}
use Rattle.std.proofs.Common.{◌∷◌, ◌++◌, Option, Some, None, length, cond, get_or}
use Rattle.std.proofs.Common.{refl, ap, ◌∙◌, arith, replicate}
use Rattle.std.specs.Prelude.{slice_get, slice_set, count_by}
use Rattle.std.specs.Option.{option_flatten}
use Rattle.open_segments.specs.Entry.{entry}
use Rattle.std.proofs.lemmas.Option.{get_or_from_slice_get, same_Some, slice_get_within, none-some}
use Rattle.std.proofs.lemmas.List.Sums.{count_by-le-length, sum_by-set, sum_by-cons}
use Rattle.task_segments.proofs.Cuts.{cond_few}

pub get-set_same : {A : Type 0} (xs : List A) (i : ℕ) (v : A)
    → i < length xs
    → slice_get (slice_set xs i v) i ≡ Some v
get-set_same [] i v h = absurd (omega arith)
get-set_same (x ∷ xs) zero v h = refl
get-set_same (x ∷ xs) (suc i) v h = get-set_same xs i v (omega arith)

pub get-set_other : {A : Type 0} (xs : List A) (i j : ℕ) (v : A)
    → j ≢ i
    → slice_get (slice_set xs i v) j ≡ slice_get xs j
get-set_other [] i j v h = refl
get-set_other (x ∷ xs) zero zero v h = absurd (h refl)
get-set_other (x ∷ xs) zero (suc j) v h = refl
get-set_other (x ∷ xs) (suc i) zero v h = refl
get-set_other (x ∷ xs) (suc i) (suc j) v h = get-set_other xs i j v (λ e. h (ap (λ k. suc k) e))

pub get-replicate : {A : Type 0} (n : ℕ) (x y : A) (i : ℕ)
    → slice_get (replicate n x) i ≡ Some y
    → x ≡ y
get-replicate zero x y i h = absurd (none-some y h)
get-replicate (suc n) x y zero h = same_Some x y h
get-replicate (suc n) x y (suc i) h = get-replicate n x y i h

pub get-append_left : {A : Type 0} (xs ys : List A) (k : ℕ)
    → k < length xs
    → slice_get (xs ++ ys) k ≡ slice_get xs k
get-append_left [] ys k h = absurd (omega arith)
get-append_left (x ∷ xs) ys zero h = refl
get-append_left (x ∷ xs) ys (suc k) h = get-append_left xs ys k (omega arith)

pub get-push_last : {A : Type 0} (xs : List A) (y : A)
    → slice_get (xs ++ y ∷ []) (length xs) ≡ Some y
get-push_last [] y = refl
get-push_last (x ∷ xs) y = get-push_last xs y

count_by-cons : {A : Type 0} (p : A → Bool) (x : A) (xs : List A)
    → count_by p (x ∷ xs) ≡ cond {A = ℕ} (p x) 1 0 + count_by p xs
count_by-cons p x xs = sum_by-cons (λ y. cond {A = ℕ} (p y) 1 0) x xs

pub count_by-set : {A : Type 0} (p : A → Bool) (xs : List A) (i : ℕ) (v w : A)
    → slice_get xs i ≡ Some w
    → p w ≡ false
    → p v ≡ true
    → count_by p (slice_set xs i v) ≡ count_by p xs + 1
count_by-set p xs i v w h fails passes =
    let within : i < length xs = slice_get_within xs i w h in
    let here : get_or xs i w ≡ w = get_or_from_slice_get xs i w w h in
    let none : cond {A = ℕ} (p (get_or xs i w)) 1 0 ≡ 0 =
    ap (λ x. cond {A = ℕ} (p x) 1 0) here ∙ ap (λ b. cond {A = ℕ} b 1 0) fails in
    let one : cond {A = ℕ} (p v) 1 0 ≡ 1 = ap (λ b. cond {A = ℕ} b 1 0) passes in
    let more : count_by p (slice_set xs i v) + cond {A = ℕ} (p (get_or xs i w)) 1 0
    ≡ count_by p xs + cond {A = ℕ} (p v) 1 0 =
    sum_by-set (λ x. cond {A = ℕ} (p x) 1 0) xs i v w within in
    omega arith

pub count_by_some_no : {A : Type 0} (p : A → Bool) (xs : List A) (i : ℕ) (w : A)
    → slice_get xs i ≡ Some w → p w ≡ false → count_by p xs < length xs
count_by_some_no p [] i w h fails = absurd (cc)
count_by_some_no p (x ∷ xs) zero w h fails =
    let none : cond {A = ℕ} (p x) 1 0 ≡ 0 =
    ap (λ y. cond {A = ℕ} (p y) 1 0) (same_Some x w h) ∙ ap (λ b. cond {A = ℕ} b 1 0) fails in
    omega (arith, count_by-le-length p xs, count_by-cons p x xs)
count_by_some_no p (x ∷ xs) (suc i) w h fails =
    let less : count_by p xs < length xs = count_by_some_no p xs i w h fails in
    omega (arith, count_by-cons p x xs, cond_few (p x))

pub entry-set_same : (list : List (Option ℕ)) (at v : ℕ)
    → at < length list
    → entry (slice_set list at (Some v)) at ≡ Some v
entry-set_same list at v h = ap option_flatten (get-set_same list at (Some v) h)

pub entry-set_none : (list : List (Option ℕ)) (at : ℕ)
    → at < length list
    → entry (slice_set list at None) at ≡ None
entry-set_none list at h = ap option_flatten (get-set_same list at None h)

pub entry-set_other : (list : List (Option ℕ)) (at other : ℕ) (v : Option ℕ)
    → other ≢ at
    → entry (slice_set list at v) other ≡ entry list other
entry-set_other list at other v h = ap option_flatten (get-set_other list at other v h)

pub entry-replicate : (n v i : ℕ) → ¬ (entry (replicate n None) i ≡ Some v)
entry-replicate zero v i h = none-some v h
entry-replicate (suc n) v zero h = none-some v h
entry-replicate (suc n) v (suc i) h = entry-replicate n v i h
