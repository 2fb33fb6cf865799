-- Times have one fault, and those of a legal run within the limits have none.
use Rattle.std.proofs.Common.{◌≡◌, ◌≢◌, ◌<◌, ◌∙◌, ℕ, zero, suc, ap, sym, refl, subst, arith}
use Rattle.std.proofs.Common.{inl, inr}
use Rattle.std.proofs.lemmas.Bool.{cases_eq, cases_lt}
use Rattle.task_segments.specs.Schedule.{at}
use Rattle.time_accounts.specs.Faults.{AreMoments, HasEach, IsCounted, IsFirstOverlap}
use Rattle.time_accounts.specs.Faults.{IsFirstTooSoon, IsInRange, IsOverlap, IsRanged, IsThreadCount}
use Rattle.time_accounts.specs.Faults.{IsTimesFault, IsUpTo}
use Rattle.time_accounts.specs.TimedRun.{AreInOrder, IsTimedRun, TimedRun}
use Rattle.time_accounts.specs.declared.fault.TimesFault.{TimesFault}
use Rattle.time_accounts.specs.declared.fault.TimesFault.TheVariants.{ThreadCount, Moments, Count}
use Rattle.time_accounts.specs.declared.fault.TimesFault.TheVariants.{NoThread, EndsEarly, OutOfTime}
use Rattle.time_accounts.specs.declared.fault.TimesFault.TheVariants.{TooSoon, NotApart, OutOfMemory}

-- with which test times fail
abbrev stage : TimesFault → ℕ
stage ThreadCount = 0
stage Moments = 1
stage Count = 2
stage (NoThread s) = 3
stage (EndsEarly s) = 3
stage (OutOfTime s) = 3
stage (TooSoon s r) = 4
stage (NotApart s) = 5
stage OutOfMemory = 6

module _ (n : ℕ) (R : ℕ → ℕ → Type 0) (p first last : ℕ) (run : TimedRun) where
  -- the tests in their order
  abbrev Pass : ℕ → Type 0
  Pass zero = IsThreadCount p
  Pass (suc zero) = AreMoments first last
  Pass (suc (suc zero)) = HasEach n run
  Pass (suc (suc (suc zero))) = (s : ℕ) → s < n → IsInRange p first last run s
  Pass (suc (suc (suc (suc zero)))) = AreInOrder n R run
  Pass (suc (suc (suc (suc (suc k))))) = (s : ℕ) → IsOverlap n run s → ⊥

  counted_pass : IsCounted n p first last run → (k : ℕ) → k < 3 → Pass k
  counted_pass h zero less = h.threads
  counted_pass h (suc zero) less = h.moments
  counted_pass h (suc (suc zero)) less = h.each
  counted_pass h (suc (suc (suc k))) less = absurd (omega (arith, less))

  ranged_pass : IsRanged n p first last run → (k : ℕ) → k < 4 → Pass k
  ranged_pass h zero less = h.counted.threads
  ranged_pass h (suc zero) less = h.counted.moments
  ranged_pass h (suc (suc zero)) less = h.counted.each
  ranged_pass h (suc (suc (suc zero))) less = h.ranges
  ranged_pass h (suc (suc (suc (suc k)))) less = absurd (omega (arith, less))

  ordered_pass : IsRanged n p first last run → AreInOrder n R run → (k : ℕ) → k < 5 → Pass k
  ordered_pass h order zero less = h.counted.threads
  ordered_pass h order (suc zero) less = h.counted.moments
  ordered_pass h order (suc (suc zero)) less = h.counted.each
  ordered_pass h order (suc (suc (suc zero))) less = h.ranges
  ordered_pass h order (suc (suc (suc (suc zero)))) less = order
  ordered_pass h order (suc (suc (suc (suc (suc k))))) less = absurd (omega (arith, less))

  -- the tests before the one that times fail are passed
  passes : (fault : TimesFault) → fault ≢ OutOfMemory → IsTimesFault n R p first last run fault
      → (k : ℕ) → k < stage fault → Pass k
  passes ThreadCount some h k less = absurd (omega (arith, less))
  passes Moments some h zero less = h.0
  passes Moments some h (suc k) less = absurd (omega (arith, less))
  passes Count some h zero less = h.0
  passes Count some h (suc zero) less = h.1
  passes Count some h (suc (suc k)) less = absurd (omega (arith, less))
  passes (NoThread s) some h k less = counted_pass h.0.counted k less
  passes (EndsEarly s) some h k less = counted_pass h.0.counted k less
  passes (OutOfTime s) some h k less = counted_pass h.0.counted k less
  passes (TooSoon s r) some h k less = ranged_pass h.0 k less
  passes (NotApart s) some h k less = ordered_pass h.0 h.1 k less
  passes OutOfMemory some h k less = absurd (some refl)

  no_thread : (s : ℕ) → IsTimesFault n R p first last run (NoThread s)
      → IsInRange p first last run s → ⊥
  no_thread s h range = absurd (omega (arith, h.1, range.on_thread))

  ends_early : (s : ℕ) → IsTimesFault n R p first last run (EndsEarly s)
      → IsInRange p first last run s → ⊥
  ends_early s h range = absurd (omega (arith, h.2, range.forward))

  out_of_time : (s : ℕ) → IsTimesFault n R p first last run (OutOfTime s)
      → IsInRange p first last run s → ⊥
  out_of_time s h range = elim h.3 [
    | inl before ↦ absurd (omega (arith, before, range.after_first))
    | inr after ↦ absurd (omega (arith, after, range.before_last))
  ]

  -- and this one is failed
  fails : (fault : TimesFault) → fault ≢ OutOfMemory → IsTimesFault n R p first last run fault
      → Pass (stage fault) → ⊥
  fails ThreadCount some h pass = h pass
  fails Moments some h pass = h.1 pass
  fails Count some h pass = h.2 pass
  fails (NoThread s) some h pass = no_thread s h (pass s h.0.inside)
  fails (EndsEarly s) some h pass = ends_early s h (pass s h.0.inside)
  fails (OutOfTime s) some h pass = out_of_time s h (pass s h.0.inside)
  fails (TooSoon s r) some h pass =
      absurd (omega (arith, pass r s h.1.inside h.1.before, h.1.ends_later))
  fails (NotApart s) some h pass = pass s h.2.overlap
  fails OutOfMemory some h pass = some refl

  same_stage : (f g : TimesFault) → f ≢ OutOfMemory → g ≢ OutOfMemory
      → IsTimesFault n R p first last run f → IsTimesFault n R p first last run g
      → stage f ≡ stage g
  same_stage f g a b h i = elim (cases_eq (stage f) (stage g)) [
    | inl same ↦ same
    | inr apart ↦ elim (cases_lt (stage f) (stage g)) [
      | inl less ↦ absurd (fails f a h (passes g b i (stage f) less))
      | inr not_less ↦
          absurd (fails g b i (passes f a h (stage g) (omega (arith, not_less, apart))))
    ]
  ]

  -- the least segment that is out of range
  same_least : (s t : ℕ) → IsUpTo n p first last run s → IsUpTo n p first last run t
      → (IsInRange p first last run s → ⊥) → (IsInRange p first last run t → ⊥) → s ≡ t
  same_least s t a b out_s out_t = elim (cases_eq s t) [
    | inl same ↦ same
    | inr apart ↦ elim (cases_lt s t) [
      | inl less ↦ absurd (out_s (b.below s less))
      | inr not_less ↦ absurd (out_t (a.below t (omega (arith, not_less, apart))))
    ]
  ]

  same_soon : (s t r q : ℕ) → IsFirstTooSoon n R run s r → IsFirstTooSoon n R run t q → s ≡ t
  same_soon s t r q a b = elim (cases_eq s t) [
    | inl same ↦ same
    | inr apart ↦ elim (cases_lt s t) [
      | inl less ↦ absurd (omega (arith, b.below r s less a.before, a.ends_later))
      | inr not_less ↦
          absurd (omega (
            arith,
            a.below q t (omega (arith, not_less, apart)) b.before,
            b.ends_later,
          ))
    ]
  ]

  same_before : (s r q : ℕ) → IsFirstTooSoon n R run s r → IsFirstTooSoon n R run s q → r ≡ q
  same_before s r q a b = elim (cases_eq r q) [
    | inl same ↦ same
    | inr apart ↦ elim (cases_lt r q) [
      | inl less ↦ absurd (omega (arith, b.least r a.before less, a.ends_later))
      | inr not_less ↦
          absurd (omega (
            arith,
            a.least q b.before (omega (arith, not_less, apart)),
            b.ends_later,
          ))
    ]
  ]

  too_soon : (s t r q : ℕ) → IsFirstTooSoon n R run s r → IsFirstTooSoon n R run t q
      → TooSoon s r ≡ TooSoon t q
  too_soon s t r q a b =
      let same = same_soon s t r q a b in
      let here = subst (λ (x : ℕ). IsFirstTooSoon n R run x r) same a in
      ap (λ (x : ℕ). TooSoon x r) same ∙ ap (TooSoon t) (same_before t r q here b)

  same_overlap : (s t : ℕ) → IsFirstOverlap n run s → IsFirstOverlap n run t → s ≡ t
  same_overlap s t a b = elim (cases_lt (at run.begins s) (at run.begins t)) [
    | inl less ↦ absurd (b.first s a.overlap (inl less))
    | inr not_less ↦ elim (cases_lt (at run.begins t) (at run.begins s)) [
      | inl less ↦ absurd (a.first t b.overlap (inl less))
      | inr nor_less ↦
          let together : at run.begins s ≡ at run.begins t = omega (arith, not_less, nor_less) in
          elim (cases_eq s t) [
            | inl same ↦ same
            | inr apart ↦ elim (cases_lt s t) [
              | inl less ↦ absurd (b.first s a.overlap (inr (together, less)))
              | inr later ↦
                  absurd (a.first t b.overlap
                  (inr (sym together, omega (arith, later, apart))))
            ]
          ]
    ]
  ]

  -- of two kinds of range the first decides
  not_early : (s t : ℕ) → IsTimesFault n R p first last run (NoThread s)
      → IsTimesFault n R p first last run (EndsEarly t) → ⊥
  not_early s t h i =
      let same = same_least s t h.0 i.0 (no_thread s h) (ends_early t i) in
      absurd (omega (arith, h.1, i.1, ap (at run.threads) same))

  not_out : (s t : ℕ) → IsTimesFault n R p first last run (NoThread s)
      → IsTimesFault n R p first last run (OutOfTime t) → ⊥
  not_out s t h i =
      let same = same_least s t h.0 i.0 (no_thread s h) (out_of_time t i) in
      absurd (omega (arith, h.1, i.1, ap (at run.threads) same))

  not_early_out : (s t : ℕ) → IsTimesFault n R p first last run (EndsEarly s)
      → IsTimesFault n R p first last run (OutOfTime t) → ⊥
  not_early_out s t h i =
      let same = same_least s t h.0 i.0 (ends_early s h) (out_of_time t i) in
      absurd (omega (arith, h.2, i.2, ap (at run.ends) same, ap (at run.begins) same))

  pub one_times_fault : (f g : TimesFault) → f ≢ OutOfMemory → g ≢ OutOfMemory
      → IsTimesFault n R p first last run f → IsTimesFault n R p first last run g
      → f ≡ g
  one_times_fault OutOfMemory g a b h i = absurd (a refl)
  one_times_fault ThreadCount ThreadCount a b h i = refl
  one_times_fault Moments Moments a b h i = refl
  one_times_fault Count Count a b h i = refl
  one_times_fault (NoThread s) (NoThread t) a b h i =
      ap NoThread (same_least s t h.0 i.0 (no_thread s h) (no_thread t i))
  one_times_fault (NoThread s) (EndsEarly t) a b h i = absurd (not_early s t h i)
  one_times_fault (NoThread s) (OutOfTime t) a b h i = absurd (not_out s t h i)
  one_times_fault (EndsEarly s) (NoThread t) a b h i = absurd (not_early t s i h)
  one_times_fault (EndsEarly s) (EndsEarly t) a b h i =
      ap EndsEarly (same_least s t h.0 i.0 (ends_early s h) (ends_early t i))
  one_times_fault (EndsEarly s) (OutOfTime t) a b h i = absurd (not_early_out s t h i)
  one_times_fault (OutOfTime s) (NoThread t) a b h i = absurd (not_out t s i h)
  one_times_fault (OutOfTime s) (EndsEarly t) a b h i = absurd (not_early_out t s i h)
  one_times_fault (OutOfTime s) (OutOfTime t) a b h i =
      ap OutOfTime (same_least s t h.0 i.0 (out_of_time s h) (out_of_time t i))
  one_times_fault (TooSoon s r) (TooSoon t q) a b h i = too_soon s t r q h.1 i.1
  one_times_fault (NotApart s) (NotApart t) a b h i = ap NotApart (same_overlap s t h.2 i.2)
  one_times_fault f OutOfMemory a b h i = absurd (b refl)
  one_times_fault f g a b h i = absurd (omega (arith, same_stage f g a b h i))

  -- a segment that begins while another one runs on its thread
  overlap_apart : IsTimedRun n R p first last run → (s : ℕ) → IsOverlap n run s → ⊥
  overlap_apart legal s h = elim (cases_eq h.other s) [
    | inl same ↦ elim h.before [
      | inl less ↦ absurd (omega (arith, less, ap (at run.begins) same))
      | inr more ↦ absurd (omega (arith, more.1, same))
    ]
    | inr apart ↦ elim (cases_lt h.other s) [
      | inl less ↦
          legal.apart h.other s (at run.begins s) less h.inside h.same h.other_runs h.runs
      | inr not_less ↦
          legal.apart s h.other (at run.begins s) (omega (arith, not_less, apart)) h.other_inside
          (sym h.same) h.runs h.other_runs
    ]
  ]

  all_pass : IsTimedRun n R p first last run → IsRanged n p first last run → (k : ℕ) → Pass k
  all_pass legal within zero = within.counted.threads
  all_pass legal within (suc zero) = within.counted.moments
  all_pass legal within (suc (suc zero)) = within.counted.each
  all_pass legal within (suc (suc (suc zero))) = within.ranges
  all_pass legal within (suc (suc (suc (suc zero)))) = legal.kept
  all_pass legal within (suc (suc (suc (suc (suc k))))) = overlap_apart legal

  pub no_times_fault : (f : TimesFault) → f ≢ OutOfMemory → IsTimedRun n R p first last run
      → IsRanged n p first last run → IsTimesFault n R p first last run f → ⊥
  no_times_fault f some legal within h = fails f some h (all_pass legal within (stage f))
