-- Which tasks are under way after one event more, and their marks.
use Rattle.std.proofs.Common.{◌≡◌, ℕ, ◌+◌, ◌<◌, ◌⊎◌, inl, inr, List, Bool, true, false, nat_eq, refl}
use Rattle.std.proofs.Common.{ap, sym, ◌∙◌, arith, Some, ◌||◌, ◌&&◌, not}
use Rattle.std.specs.Prelude.{slice_get}
use Rattle.std.proofs.lemmas.Bool.{cases_Bool, cases_lt, eqb-true, eq-eqb}
use Rattle.exclusive_tasks.specs.Exclusion.{Begins, Completes, IsUnderWay}
use Rattle.exclusive_tasks.specs.Marking.{mark_after}
use Rattle.exclusive_tasks.specs.declared.claim.Claim.{Claim}
use Rattle.exclusive_tasks.specs.declared.claim.Event.{Event}
use Rattle.exclusive_tasks.specs.declared.claim.Event.TheVariants.{Start, Finish}

before_or_last : (j n : ℕ) → j < n + 1 → (j < n) ⊎ (j ≡ n)
before_or_last j n h = elim (cases_lt j n) [
  | inl less ↦ inl less
  | inr no_less ↦ inr (omega (arith, h, no_less))
]

pub begins_now : (events : List Event) (claim : Claim) (i : ℕ) → Begins events claim i
    → IsUnderWay events claim (i + 1)
begins_now events claim i begins = record {
  begun = i;
  before = omega arith;
  begins = begins;
  since = λ k after before. absurd (omega (arith, after, before));
}

pub goes_on : (events : List Event) (claim : Claim) (i : ℕ) → IsUnderWay events claim i
    → (Completes events claim i → ⊥) → IsUnderWay events claim (i + 1)
goes_on events claim i under going = record {
  begun = under.begun;
  before = omega (arith, under.before);
  begins = under.begins;
  since = λ k after before completes. elim (before_or_last k i before) [
    | inl sooner ↦ under.since k after sooner completes
    | inr now ↦ going (rw (← now) completes)
  ];
}

went_on : (events : List Event) (claim : Claim) (i : ℕ) → IsUnderWay events claim (i + 1)
    → (Begins events claim i → ⊥) → IsUnderWay events claim i
went_on events claim i under none = elim (before_or_last under.begun i under.before) [
  | inl sooner ↦ record {
    begun = under.begun;
    before = sooner;
    begins = under.begins;
    since = λ k after before. under.since k after (omega (arith, before));
  }
  | inr now ↦ absurd (none (rw (← now) under.begins))
]

not_complete : (events : List Event) (claim : Claim) (i : ℕ) → IsUnderWay events claim (i + 1)
    → Completes events claim i → ⊥
not_complete events claim i under completes = elim (before_or_last under.begun i under.before) [
  | inl sooner ↦ under.since i sooner (omega arith) completes
  | inr now ↦
      let begins : Begins events claim i = rw (← now) under.begins in
      let both : Some (Start claim.first) ≡ Some (Finish claim.last) = sym begins ∙ completes in
      cc
]

-- ---- marks

or_true : (a b : Bool) → a || b ≡ true → (a ≡ true) ⊎ (b ≡ true)
or_true true b h = inl refl
or_true false b h = inr h

or_left : (a b : Bool) → a ≡ true → a || b ≡ true
or_left true b h = refl
or_left false b h = absurd cc

or_right : (a b : Bool) → b ≡ true → a || b ≡ true
or_right true b h = refl
or_right false b h = h

and_true : (a b : Bool) → not a && b ≡ true → (a ≡ false) × (b ≡ true)
and_true true b h = absurd cc
and_true false b h = (refl, h)

and_both : (a b : Bool) → a ≡ false → b ≡ true → not a && b ≡ true
and_both true b h k = absurd cc
and_both false b h k = k

pub marked_after : (events : List Event) (claim : Claim) (i : ℕ) (event : Event) (mark : Bool)
    → slice_get events i ≡ Some event
    → (mark ≡ true → IsUnderWay events claim i)
    → mark_after event claim mark ≡ true
    → IsUnderWay events claim (i + 1)
marked_after events claim i (Start segment) mark here before after =
    elim (or_true (nat_eq segment claim.first) mark after) [
      | inl same ↦ begins_now events claim i
          (here ∙ ap (λ s. Some (Start s)) (eqb-true segment claim.first same))
      | inr old ↦ goes_on events claim i (before old) (λ completes.
          let both : Some (Start segment) ≡ Some (Finish claim.last) = sym here ∙ completes in
          cc)
    ]
marked_after events claim i (Finish segment) mark here before after =
    let both = and_true (nat_eq segment claim.last) mark after in
    goes_on events claim i (before both.1) (λ completes.
    let same : Some (Finish segment) ≡ Some (Finish claim.last) = sym here ∙ completes in
    let equal : segment ≡ claim.last = cc in
    let yes : nat_eq segment claim.last ≡ true = eq-eqb segment claim.last equal in
    let no = both.0 in
    cc)

pub under_way_after : (events : List Event) (claim : Claim) (i : ℕ) (event : Event) (mark : Bool)
    → slice_get events i ≡ Some event
    → (IsUnderWay events claim i → mark ≡ true)
    → IsUnderWay events claim (i + 1)
    → mark_after event claim mark ≡ true
under_way_after events claim i (Start segment) mark here before after =
    elim (cases_Bool (nat_eq segment claim.first)) [
      | inl same ↦ or_left (nat_eq segment claim.first) mark same
      | inr other ↦ or_right (nat_eq segment claim.first) mark
          (before (went_on events claim i after (λ begins.
          let both : Some (Start segment) ≡ Some (Start claim.first) = sym here ∙ begins in
          let equal : segment ≡ claim.first = cc in
          let yes : nat_eq segment claim.first ≡ true = eq-eqb segment claim.first equal in
          cc)))
    ]
under_way_after events claim i (Finish segment) mark here before after =
    elim (cases_Bool (nat_eq segment claim.last)) [
      | inl same ↦ absurd (not_complete events claim i after
          (here ∙ ap (λ s. Some (Finish s)) (eqb-true segment claim.last same)))
      | inr other ↦ and_both (nat_eq segment claim.last) mark other
          (before (went_on events claim i after (λ begins.
          let both : Some (Finish segment) ≡ Some (Start claim.first) = sym here ∙ begins in
          cc)))
    ]
