-- Events taken one by one: no overlap so far, and each claim of a task under way has its mark.
use Rattle.std.proofs.Common.{◌≡◌, ℕ, ◌+◌, ◌<◌, ◌≤◌, inl, inr, List, Bool, length, ap, sym, ◌∙◌, subst}
use Rattle.std.proofs.Common.{arith, Some}
use Rattle.std.specs.Prelude.{slice_get}
use Rattle.std.proofs.lemmas.Bool.{cases_lt}
use Rattle.std.proofs.lemmas.Option.{slice_get_within}
use Rattle.exclusive_tasks.specs.Exclusion.{AreApart, Exclude, IsFirstOverlap, IsOverlap}
use Rattle.exclusive_tasks.specs.Exclusion.{IsUnderWay, claim_at}
use Rattle.exclusive_tasks.specs.Marking.{AreMarked, AreMarkedUpTo, IsFirstPair, IsPair}
use Rattle.exclusive_tasks.specs.Marking.{mark_at}
use Rattle.exclusive_tasks.specs.declared.claim.Claim.{Claim}
use Rattle.exclusive_tasks.specs.declared.claim.Event.{Event}
use Rattle.exclusive_tasks.specs.declared.claim.Event.TheVariants.{Start, Finish}
use Rattle.exclusive_tasks.proofs.UnderWay.{begins_now, goes_on}
use Rattle.exclusive_tasks.proofs.UnderWay.{marked_after, under_way_after}

-- an overlap at an event is a pair of claims by the marks before it
pub pair_from_overlap : (claims : List Claim) (events : List Event) (i segment b a : ℕ)
    (marks : List Bool)
    → AreMarkedUpTo claims events i marks
    → slice_get events i ≡ Some (Start segment)
    → IsOverlap claims events i b a
    → IsPair claims marks segment b a
pair_from_overlap claims events i segment b a marks so_far here overlap =
    let both : Some (Start segment) ≡ Some (Start (claim_at claims b).first) =
    sym here ∙ overlap.begins in
    record {
      inside = overlap.inside;
      begins = cc;
      excluding = record {
        inside = overlap.other_inside;
        marked = so_far.unmarked a overlap.other_inside overlap.under_way;
        exclude = overlap.exclude;
      };
    }

pub overlap_from_pair : (claims : List Claim) (events : List Event) (i segment b a : ℕ)
    (marks : List Bool)
    → AreMarkedUpTo claims events i marks
    → slice_get events i ≡ Some (Start segment)
    → IsPair claims marks segment b a
    → IsOverlap claims events i b a
overlap_from_pair claims events i segment b a marks so_far here pair = record {
  inside = pair.inside;
  other_inside = pair.excluding.inside;
  exclude = pair.excluding.exclude;
  begins = here ∙ ap (λ s. Some (Start s)) (sym pair.begins);
  under_way = so_far.marked a pair.excluding.inside pair.excluding.marked;
}

pub first_overlap_at : (claims : List Claim) (events : List Event) (i segment b a : ℕ)
    (marks : List Bool)
    → AreMarkedUpTo claims events i marks
    → slice_get events i ≡ Some (Start segment)
    → IsFirstPair claims marks segment b a
    → IsFirstOverlap claims events (record { event = i; begins = b; under_way = a })
first_overlap_at claims events i segment b a marks so_far here first =
    record {
      overlap = overlap_from_pair claims events i segment b a marks so_far here first.pair;
      first = λ j c d other. elim (cases_lt j i) [
        | inl sooner ↦ absurd (so_far.none j c d sooner other)
        | inr no_sooner ↦ omega (arith, no_sooner)
      ];
      least = λ c d other. first.first c d
          (pair_from_overlap claims events i segment c d marks so_far here other);
      least_other = λ d other. first.first_other d
          (pair_from_overlap claims events i segment b d marks so_far here other);
    }

-- one event more, which is no overlap
pub marked_one_more : (claims : List Claim) (events : List Event) (i : ℕ) (event : Event)
    (old new : List Bool)
    → AreMarkedUpTo claims events i old
    → slice_get events i ≡ Some event
    → AreMarked claims event old new
    → ((b a : ℕ) → IsOverlap claims events i b a → ⊥)
    → AreMarkedUpTo claims events (i + 1) new
marked_one_more claims events i event old new so_far here marked none = record {
  each = marked.each ∙ so_far.each;
  marked = λ a inside mark. marked_after events (claim_at claims a) i event (mark_at old a) here
      (so_far.marked a inside) (sym (marked.marked a inside) ∙ mark);
  unmarked = λ a inside under. marked.marked a inside
      ∙ under_way_after events (claim_at claims a) i event (mark_at old a) here
      (so_far.unmarked a inside) under;
  none = λ j b a before overlap. elim (cases_lt j i) [
    | inl sooner ↦ so_far.none j b a sooner overlap
    | inr no_sooner ↦
        let now : j ≡ i = omega (arith, before, no_sooner) in
        none b a (subst (λ k. IsOverlap claims events k b a) now overlap)
  ];
}

-- a finish begins no task
pub no_overlap_at_finish : (claims : List Claim) (events : List Event) (i segment : ℕ)
    → slice_get events i ≡ Some (Finish segment)
    → (b a : ℕ) → IsOverlap claims events i b a → ⊥
no_overlap_at_finish claims events i segment here b a overlap =
    let both : Some (Finish segment) ≡ Some (Start (claim_at claims b).first) =
    sym here ∙ overlap.begins in
    cc

-- of two tasks that are both under way the one that began later overlaps
later_overlaps : (claims : List Claim) (events : List Event) (i a b : ℕ)
    → ((j c d : ℕ) → IsOverlap claims events j c d → ⊥)
    → a < length claims
    → b < length claims
    → Exclude (claim_at claims a) (claim_at claims b)
    → (one : IsUnderWay events (claim_at claims a) i)
    → (other : IsUnderWay events (claim_at claims b) i)
    → one.begun < other.begun
    → ⊥
later_overlaps claims events i a b none inside other_inside exclude one other later =
    none other.begun b a (record {
      inside = other_inside;
      other_inside = inside;
      exclude = exclude;
      begins = other.begins;
      under_way = record {
        begun = one.begun;
        before = later;
        begins = one.begins;
        since = λ k after before. one.since k after (omega (arith, before, other.before));
      };
    })

swapped : (one other : Claim) → Exclude one other → Exclude other one
swapped one other exclude = record {
  siblings = sym exclude.siblings;
  same = sym exclude.same;
  two = λ h. exclude.two (sym h);
}

-- where no event is an overlap, excluding tasks are apart
pub apart_without_overlap : (claims : List Claim) (events : List Event)
    → ((j c d : ℕ) → IsOverlap claims events j c d → ⊥) → AreApart claims events
apart_without_overlap claims events none i a b inside other_inside exclude one other =
    elim (cases_lt one.begun other.begun) [
      | inl sooner ↦ later_overlaps claims events i a b none inside other_inside exclude one other
          sooner
      | inr no_sooner ↦ elim (cases_lt other.begun one.begun) [
        | inl later ↦ later_overlaps claims events i b a none other_inside inside
            (swapped (claim_at claims a) (claim_at claims b) exclude) other one later
        | inr no_later ↦
            let now : one.begun ≡ other.begun = omega (arith, no_sooner, no_later) in
            let both : Some (Start (claim_at claims a).first) ≡ Some (Start (claim_at claims b).first) =
            sym one.begins ∙ ap (slice_get events) now ∙ other.begins in
            exclude.two cc
      ]
    ]

-- an event past the last is no overlap
pub none_past : (claims : List Claim) (events : List Event) (n : ℕ) (marks : List Bool)
    → AreMarkedUpTo claims events n marks → length events ≤ n
    → (j b a : ℕ) → IsOverlap claims events j b a → ⊥
none_past claims events n marks so_far past j b a overlap =
    let inside : j < length events =
    slice_get_within events j (Start (claim_at claims b).first) overlap.begins in
    so_far.none j b a (omega (arith, inside, past)) overlap

-- an event that is an overlap leaves two such tasks under way
pub overlap_breaks : (claims : List Claim) (events : List Event) (i b a : ℕ)
    → AreApart claims events → IsOverlap claims events i b a → ⊥
overlap_breaks claims events i b a apart overlap =
    apart (i + 1) a b overlap.other_inside overlap.inside overlap.exclude
    (goes_on events (claim_at claims a) i overlap.under_way (λ completes.
    let both : Some (Start (claim_at claims b).first) ≡ Some (Finish (claim_at claims a).last) =
    sym overlap.begins ∙ completes in
    cc))
    (begins_now events (claim_at claims b) i overlap.begins)
