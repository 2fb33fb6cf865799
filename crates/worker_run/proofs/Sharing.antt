-- How thieves are shared out, lane by lane.
use Rattle.std.proofs.Common.{ℕ, ◌+◌, ◌≡◌, ◌≢◌, ◌<◌, ◌≤◌, ◌++◌, ◌∷◌, [], List, All, length, map, set, get_or}
use Rattle.std.proofs.Common.{sym, ap, ◌∙◌, subst, inl, inr, arith, append_assoc, length-append}
use Rattle.std.proofs.Common.{get_or-set_same, get_or-set_other}
use Rattle.std.proofs.lemmas.List.{length-set, get_or_append_left, map-append, map-set, length-map, get_or-map}
use Rattle.std.proofs.lemmas.Bool.{cases_lt}
use Rattle.std.proofs.lemmas.Bool.Decides.{eqb_tells}
use Rattle.std.proofs.Math.Seq.{get_or-append_seam}
use Rattle.depend_table.specs.Lists.{Lists}
use Rattle.depend_table.proofs.Lists.{lists_push, lists_same}
use Rattle.worker_run.specs.Sharing.{IsOtherLane, GaveOne}

-- of each place so much holds, and of the one behind them
pub each_pushed_at : {X : Type 0} (P : ℕ → X → Type 0) (xs : List X) (x : X) (n : ℕ) → length xs ≡ n
    → ((i : ℕ) → i < length xs → (d : X) → P i (get_or xs i d)) → P n x
    → (i : ℕ) → i < length (xs ++ x ∷ []) → (d : X) → P i (get_or (xs ++ x ∷ []) i d)
each_pushed_at P xs x n count before this i less d =
    elim (cases_lt i (length xs)) [
      | inl earlier ↦ subst (P i) (sym (get_or_append_left xs (x ∷ []) d i earlier)) (before i earlier d)
      | inr later ↦
          let last : length xs ≡ i = omega (arith, less, length-append xs (x ∷ [])) in
          let here : get_or (xs ++ x ∷ []) i d ≡ x =
          ap (λ (k : ℕ). get_or (xs ++ x ∷ []) k d) (sym last) ∙ get_or-append_seam xs x [] d in
          subst (P i) (sym here) (subst (λ (k : ℕ). P k x) (sym count ∙ last) this)
    ]

-- of each place so much holds, also where one is written anew
pub each_set_at : {X : Type 0} (P : ℕ → X → Type 0) (xs : List X) (n : ℕ) (y : X)
    → ((i : ℕ) → i < length xs → (d : X) → P i (get_or xs i d)) → P n y
    → (i : ℕ) → i < length (set xs n y) → (d : X) → P i (get_or (set xs n y) i d)
each_set_at P xs n y before this i less d =
    let within : i < length xs = omega (arith, less, length-set xs n y) in
    elim (eqb_tells n i) [
      | inl same ↦
          subst (λ (k : ℕ). P k (get_or (set xs n y) k d)) same.1
          (subst (P n) (sym (get_or-set_same xs n y d (let e = same.1 in omega arith))) this)
      | inr other ↦ subst (P i) (sym (get_or-set_other xs n i y d (λ e. other.1 (sym e)))) (before i within d)
    ]

-- what holds at each place holds of the next item at its place
pub next_so : {X : Type 0} (P : ℕ → X → Type 0) (all seen rest : List X) (x : X)
    → (seen ++ x ∷ []) ++ rest ≡ all
    → ((i : ℕ) → i < length all → (d : X) → P i (get_or all i d))
    → P (length seen) x
next_so P all seen rest x is each =
    let whole : seen ++ x ∷ rest ≡ all = sym (append_assoc seen (x ∷ []) rest) ∙ is in
    let less : length seen < length all =
    let long = ap length whole in omega (arith, long, length-append seen (x ∷ rest)) in
    subst (P (length seen)) (ap (λ l. get_or l (length seen) x) (sym whole) ∙ get_or-append_seam seen x rest x)
    (each (length seen) less x)

-- what holds of all holds of the last
pub last_so : {X : Type 0} (P : X → Type 0) (xs front : List X) (x : X) → xs ≡ front ++ x ∷ [] → All P xs → P x
last_so P xs front x is all =
    subst P (ap (λ (l : List _). get_or l (length front) x) is ∙ get_or-append_seam front x [] x)
    (all (length front) x (let long = ap length is in omega (arith, long, length-append front (x ∷ []))))

-- one lane further, which is the worker's own: no lane more gives a thief
pub own_gives_none : (place own lane had has : ℕ) → place ≡ own → GaveOne place own lane had has
    → GaveOne (place + 1) own lane had has
own_gives_none place own lane had has same so_far = record {
  gave = λ other.
      let less = other.0 in let apart = other.1 in
      so_far.gave (omega (arith, less, apart, same), apart);
  kept = λ none. so_far.kept (λ other. let less = other.0 in none (omega (arith, less), other.1));
}

pub own_not_listed : (place own : ℕ) (list : List ℕ) → place ≡ own → Lists (IsOtherLane place own) list
    → Lists (IsOtherLane (place + 1) own) list
own_not_listed place own list same lists =
    lists_same (IsOtherLane place own) (IsOtherLane (place + 1) own) list lists
    (λ n other. let less = other.0 in (omega (arith, less), other.1))
    (λ n other. let less = other.0 in let apart = other.1 in (omega (arith, less, apart, same), apart))

-- one lane further, which is another's and gives one of its thieves
pub next_gives_one : (own place n : ℕ) (had has : List ℕ) → place ≢ own → place < length has
    → get_or has place 0 ≡ n + 1
    → ((lane : ℕ) → GaveOne place own lane (get_or had lane 0) (get_or has lane 0))
    → (lane : ℕ)
    → GaveOne (place + 1) own lane (get_or had lane 0) (get_or (set has place n) lane 0)
next_gives_one own place n had has apart within was so_far lane =
    elim (eqb_tells place lane) [
      | inl same ↦
          let at : place ≡ lane = same.1 in
          let is : get_or (set has place n) place 0 ≡ n = get_or-set_same has place n 0 within in
          let kept = (so_far place).kept (λ other. let less = other.0 in absurd (omega (arith, less))) in
          subst (λ (k : ℕ). GaveOne (place + 1) own k (get_or had k 0) (get_or (set has place n) k 0)) at (record {
            gave = λ _. omega (arith, is, kept, was);
            kept = λ none. absurd (none (omega arith, apart));
          })
      | inr differs ↦
          let is : get_or (set has place n) lane 0 ≡ get_or has lane 0 =
          get_or-set_other has place lane n 0 (λ e. differs.1 (sym e)) in
          let before = so_far lane in record {
            gave = λ other.
                let less = other.0 in
                let given = before.gave (omega (arith, less, differs.1), other.1) in omega (arith, is, given);
            kept = λ none.
                let held = before.kept (λ other. let less = other.0 in none (omega (arith, less), other.1)) in
                is ∙ held;
          }
    ]

-- the same where the lane's thieves are a list that lost its last
pub one_given : {V : Type 0} (f : V → ℕ) (own place : ℕ) (had : List ℕ) (xs : List V) (d y : V) → place ≢ own
    → place < length xs
    → f (get_or xs place d) ≡ f y + 1
    → ((lane : ℕ) → GaveOne place own lane (get_or had lane 0) (get_or (map f xs) lane 0))
    → (lane : ℕ)
    → GaveOne (place + 1) own lane (get_or had lane 0) (get_or (map f (set xs place y)) lane 0)
one_given f own place had xs d y apart within was so_far lane =
    subst (λ (has : List ℕ). GaveOne (place + 1) own lane (get_or had lane 0) (get_or has lane 0))
    (sym (map-set f xs place y))
    (next_gives_one own place (f y) had (map f xs) apart (omega (arith, within, length-map xs f))
    (get_or-map f xs place d 0 within ∙ was) so_far lane)

pub next_listed : {X : Type 0} (f : X → ℕ) (own place : ℕ) (xs : List X) (x : X) → place ≢ own → f x ≡ place
    → Lists (IsOtherLane place own) (map f xs)
    → Lists (IsOtherLane (place + 1) own) (map f (xs ++ x ∷ []))
next_listed f own place xs x apart is lists =
    subst (Lists (IsOtherLane (place + 1) own)) (sym (map-append f xs (x ∷ [])))
    (subst (λ (n : ℕ). Lists (IsOtherLane (place + 1) own) (map f xs ++ n ∷ [])) (sym is)
    (lists_push (IsOtherLane place own) (IsOtherLane (place + 1) own) (map f xs) place lists (λ m other. other.0)
    (λ m other. let less = other.0 in (omega (arith, less), other.1)) (omega arith, apart)
    (λ m other. elim (eqb_tells place m) [
      | inl same ↦ inr (sym same.1)
      | inr differs ↦ let less = other.0 in inl (omega (arith, less, differs.1), other.1)
    ])))

-- A lane has a thief left for each worker that was given none of its thieves yet. The first so many were served.
pub record IsEnough (workers served lane left : ℕ) : Type 0 where
  pub own_served : lane < served → workers ≤ left + served
  pub own_later : served ≤ lane → workers ≤ left + served + 1

pub at_first_enough : (workers lane left : ℕ) → workers ≤ left + 1 → IsEnough workers 0 lane left
at_first_enough workers lane left enough = record {
  own_served = λ less. absurd (omega (arith, less));
  own_later = λ _. omega (arith, enough);
}

-- so there is one for the next worker
pub one_is_left : (workers served lanes own lane left : ℕ) → lanes ≡ workers → own ≡ served → served < workers
    → IsOtherLane lanes own lane
    → IsEnough workers served lane left
    → 0 < left
one_is_left workers served lanes own lane left all this next other enough =
    let less = other.0 in
    elim (eqb_tells served lane) [
      | inl same ↦ absurd (other.1 (sym (this ∙ same.1)))
      | inr differs ↦ elim (cases_lt lane served) [
        | inl before ↦ let is = enough.own_served before in omega (arith, is, next)
        | inr after ↦ let is = enough.own_later after in omega (arith, is, less, after, all, differs.1)
      ]
    ]

-- and where each other lane gave one, there are enough for those after it
pub still_enough : (workers served lanes own lane had has : ℕ) → lanes ≡ workers → own ≡ served → lane < workers
    → GaveOne lanes own lane had has
    → IsEnough workers served lane had
    → IsEnough workers (served + 1) lane has
still_enough workers served lanes own lane had has all this within gave enough =
    elim (eqb_tells served lane) [
      | inl same ↦
          let at : served ≡ lane = same.1 in
          let held = gave.kept (λ other. other.1 (sym (this ∙ at))) in
          let later = enough.own_later (omega (arith, at)) in record {
            own_served = λ _. omega (arith, held, later);
            own_later = λ past. absurd (omega (arith, past, at));
          }
      | inr differs ↦
          let given = gave.gave (omega (arith, within, all), λ e. differs.1 (sym (e ∙ this))) in record {
            own_served = λ less.
                let is = enough.own_served (omega (arith, less, differs.1)) in omega (arith, is, given);
            own_later = λ past. let is = enough.own_later (omega (arith, past)) in omega (arith, is, given);
          }
    ]

-- each of these lists is long enough, by their lengths
pub each_long : {V : Type 0} (f : V → ℕ) (least : ℕ) (xs : List V) → All (λ v. least ≤ f v + 1) xs
    → (i : ℕ)
    → i < length xs
    → least ≤ get_or (map f xs) i 0 + 1
each_long f least [] all i less = absurd (omega (arith, less))
each_long f least (x ∷ xs) all i less =
    let is = get_or-map f (x ∷ xs) i x 0 less in let this = all i x less in omega (arith, is, this)
