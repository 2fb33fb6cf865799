-- What is decided: it holds, or it does not. What holds of a number below a bound is found by
-- looking.
use Rattle.std.proofs.Common.{ℕ, zero, suc, ◌+◌, ◌<◌, ◌≤◌, ◌≡◌, ◌⊎◌, Bool, true, false, List, []}
use Rattle.std.proofs.Common.{◌∷◌, ◌++◌, Option, Some, None, refl, sym, ap, subst, arith, inl, inr}
use Rattle.std.specs.Prelude.{Contains, length}
use Rattle.std.proofs.lemmas.Bool.{cases_eq, cases_lt, both_ways}
use Rattle.std.proofs.lemmas.Option.{same_Some, none-some}
use Rattle.depend_table.specs.Lists.{Lists}
use Rattle.open_segments.proofs.ListLemmas.{Below, Lists-all, Lists-none, Lists-push, Lists-skip}

abbrev pub IsDecided : Type 0 → Type 0
IsDecided P = P ⊎ (¬ P)

pub decided_by_equivalent : (P Q : Type 0) → (P → Q) → (Q → P) → IsDecided P → IsDecided Q
decided_by_equivalent P Q there back (inl p) = inl (there p)
decided_by_equivalent P Q there back (inr fails) = inr (λ q. fails (back q))

-- of what is the same in its parts
pub by_parts : {P Q : Type 0} → IsDecided P → (P → Q) → (Q → P) → IsDecided Q
by_parts {P} {Q} d there back = decided_by_equivalent P Q there back d

-- what does not fail holds
pub holds_unless : {P : Type 0} → IsDecided P → (¬ P → ⊥) → P
holds_unless (inl p) fails_not = p
holds_unless (inr fails) fails_not = absurd (fails_not fails)

pub decide_both : (P Q : Type 0) → IsDecided P → IsDecided Q → IsDecided (P × Q)
decide_both P Q (inl p) (inl q) = inl (p, q)
decide_both P Q (inl p) (inr fails) = inr (λ h. fails h.1)
decide_both P Q (inr fails) d = inr (λ h. fails h.0)

pub decide_either : (P Q : Type 0) → IsDecided P → IsDecided Q → IsDecided (P ⊎ Q)
decide_either P Q (inl p) d = inl (inl p)
decide_either P Q (inr fails) (inl q) = inl (inr q)
decide_either P Q (inr fails) (inr nor) = inr (λ h. elim h [ inl p ↦ fails p | inr q ↦ nor q ])

pub decide_implies : (P Q : Type 0) → IsDecided P → IsDecided Q → IsDecided (P → Q)
decide_implies P Q d (inl q) = inl (λ p. q)
decide_implies P Q (inl p) (inr fails) = inr (λ h. fails (h p))
decide_implies P Q (inr not) (inr fails) = inl (λ p. absurd (not p))

pub decide_not : (P : Type 0) → IsDecided P → IsDecided (¬ P)
decide_not P (inl p) = inr (λ fails. fails p)
decide_not P (inr fails) = inl fails

pub decide_same : (a b : ℕ) → IsDecided (a ≡ b)
decide_same a b = elim (cases_eq a b) [ inl same ↦ inl same | inr apart ↦ inr apart ]

pub decide_less : (a b : ℕ) → IsDecided (a < b)
decide_less a b =
    elim (cases_lt a b) [
      | inl less ↦ inl less
      | inr more ↦ inr (λ less. absurd (omega (arith, less, more)))
    ]

pub decide_most : (a b : ℕ) → IsDecided (a ≤ b)
decide_most a b =
    elim (cases_lt b a) [
      | inl less ↦ inr (λ most. absurd (omega (arith, less, most)))
      | inr most ↦ inl most
    ]

pub decide_true : (b : Bool) → IsDecided (b ≡ true)
decide_true true = inl refl
decide_true false = inr (λ e. both_ways false refl e)

pub decide_some : (o : Option ℕ) (n : ℕ) → IsDecided (o ≡ Some n)
decide_some None n = inr (λ e. none-some n e)
decide_some (Some m) n =
    decided_by_equivalent (m ≡ n) (Some m ≡ Some n) (λ e. ap (λ k. Some k) e) (λ e. same_Some m n e)
    (decide_same m n)

pub decide_options : (a b : Option ℕ) → IsDecided (a ≡ b)
decide_options a (Some n) = decide_some a n
decide_options None None = inl refl
decide_options (Some m) None = inr (λ e. none-some m (sym e))

-- of the number that an option holds
pub decide_held : (o : Option ℕ) (P : ℕ → Type 0) → ((n : ℕ) → IsDecided (P n))
    → IsDecided ((n : ℕ) × (o ≡ Some n) × P n)
decide_held None P each = inr (λ h. none-some h.0 h.1)
decide_held (Some m) P each = elim (each m) [
  | inl here ↦ inl (m, refl, here)
  | inr fails ↦ inr (λ h. fails (subst P (sym (same_Some m h.0 h.1)) h.2))
]

-- of some number below a bound
pub decide_below : (P : ℕ → Type 0) (n : ℕ)
    → ((k : ℕ) → IsDecided (P k))
    → IsDecided ((k : ℕ) × (k < n) × P k)
decide_below P zero each = inr (λ h. absurd (omega (arith, h.1)))
decide_below P (suc n) each = elim (each n) [
  | inl here ↦ inl (n, omega arith, here)
  | inr fails ↦ elim (decide_below P n each) [
    | inl found ↦ inl (found.0, omega (arith, found.1), found.2)
    | inr none ↦ inr (λ h. elim (cases_lt h.0 n) [
      | inl less ↦ none (h.0, less, h.2)
      | inr last ↦ let same : h.0 ≡ n = omega (arith, h.1) in fails (subst P same h.2)
    ])
  ]
]

-- of each number below a bound
pub decide_each : (P : ℕ → Type 0) (n : ℕ)
    → ((k : ℕ) → IsDecided (P k))
    → IsDecided ((k : ℕ) → k < n → P k)
decide_each P zero each = inl (λ k less. absurd (omega (arith, less)))
decide_each P (suc n) each = elim (each n) [
  | inr fails ↦ inr (λ all. fails (all n (omega arith)))
  | inl here ↦ elim (decide_each P n each) [
    | inr fails ↦ inr (λ all. fails (λ k less. all k (omega (arith, less))))
    | inl below ↦ inl (λ k less. elim (cases_lt k n) [
      | inl lower ↦ below k lower
      | inr last ↦ let same : n ≡ k = omega (arith, less) in subst P same here
    ])
  ]
]

first_or_later : {X : Type 0} (x : X) (xs : List X) (y : X) → Contains (x ∷ xs) y
    → (x ≡ y) ⊎ Contains xs y
first_or_later x xs y (zero, within, is) = inl is
first_or_later x xs y (suc k, within, is) = inr (k, omega (arith, within), is)

-- of some member of a list
pub decide_member : {X : Type 0} (P : X → Type 0) → ((x : X) → IsDecided (P x)) → (xs : List X)
    → IsDecided ((x : X) × Contains xs x × P x)
decide_member P each [] = inr (λ h. absurd (omega (arith, h.1.1)))
decide_member P each (x ∷ xs) = elim (each x) [
  | inl here ↦ inl (x, (0, omega arith, refl), here)
  | inr fails ↦ elim (decide_member P each xs) [
    | inl found ↦ inl (
      found.0,
      (suc found.1.0, let within = found.1.1 in omega (arith, within), found.1.2),
      found.2,
    )
    | inr none ↦ inr (λ h. elim (first_or_later x xs h.0 h.1) [
      | inl same ↦ fails (subst P (sym same) h.2)
      | inr later ↦ none (h.0, later, h.2)
    ])
  ]
]

-- what is made of these is decided by a search
pub ruleset decisions = (
  decide_both,
  decide_either,
  decide_implies,
  decide_not,
  decide_same,
  decide_less,
  decide_most,
  decide_true,
  decide_some,
  decide_options,
  decide_held,
  decide_below,
  decide_each,
)

-- the smallest number below a bound of which it holds
pub record IsFirst (P : ℕ → Type 0) (n k : ℕ) : Type 0 where
  pub below : k < n
  pub holds : P k
  pub none_before : (j : ℕ) → j < k → ¬ P j

pub find_first : (P : ℕ → Type 0) (n : ℕ) → ((k : ℕ) → IsDecided (P k))
    → ((k : ℕ) → k < n → ¬ P k) ⊎ ((k : ℕ) × IsFirst P n k)
find_first P zero each = inl (λ k less. absurd (omega (arith, less)))
find_first P (suc n) each = elim (find_first P n each) [
  | inr found ↦ inr (
    found.0,
    record {
      below = let less = found.1.below in omega (arith, less);
      holds = found.1.holds;
      none_before = found.1.none_before;
    },
  )
  | inl none ↦ elim (each n) [
    | inl here ↦ inr (n, record { below = omega arith; holds = here; none_before = none })
    | inr fails ↦ inl (λ k less. elim (cases_lt k n) [
      | inl lower ↦ none k lower
      | inr last ↦ let same : k ≡ n = omega (arith, less) in λ h. fails (subst P same h)
    ])
  ]
]

-- the numbers below a bound of which it holds, in a list
list_below : (P : ℕ → Type 0) (n : ℕ)
    → ((k : ℕ) → IsDecided (P k))
    → (list : List ℕ) × Lists (Below P n) list
list_below P zero each = ([], Lists-none (Below P zero) (λ k h. absurd (omega (arith, h.0))))
list_below P (suc n) each =
    let before : (list : List ℕ) × Lists (Below P n) list = list_below P n each in
    let next : n + 1 ≡ suc n = omega arith in
    elim (each n) [
      | inl here ↦ (
        before.0 ++ n ∷ [],
        subst (λ m. Lists (Below P m) (before.0 ++ n ∷ [])) next
            (Lists-push P n before.0 here before.1),
      )
      | inr fails ↦ (
        before.0,
        subst (λ m. Lists (Below P m) before.0) next (Lists-skip P n before.0 fails before.1),
      )
    ]

pub some_list : (P : ℕ → Type 0) (n : ℕ) → ((k : ℕ) → IsDecided (P k)) → ((k : ℕ) → P k → k < n)
    → (list : List ℕ) × Lists P list
some_list P n each all =
    let below : (list : List ℕ) × Lists (Below P n) list = list_below P n each in
    (below.0, Lists-all P n below.0 all below.1)
