-- No log has two verdicts.
use Rattle.std.proofs.Common.{◌≡◌, ℕ, inl, inr, List, length, ap, refl, arith}
use Rattle.std.proofs.lemmas.Bool.{cases_eq, cases_lt}
use Rattle.exclusive_tasks.specs.Exclusion.{IsFirstOverlap}
use Rattle.exclusive_tasks.specs.Lines.{AreRightBefore, IsFirstWrong, claims_told, events_told}
use Rattle.exclusive_tasks.specs.Verdicts.{IsVerdict}
use Rattle.exclusive_tasks.specs.declared.claim.Claim.{Claim}
use Rattle.exclusive_tasks.specs.declared.claim.Event.{Event}
use Rattle.exclusive_tasks.specs.declared.claim.Overlap.{Overlap}
use Rattle.exclusive_tasks.specs.declared.verdict.Verdict.{Verdict}
use Rattle.exclusive_tasks.specs.declared.verdict.Verdict.TheVariants.{Apart, Overlapping, BadForm}
use Rattle.exclusive_tasks.proofs.Overlaps.{overlap_breaks}

same_wrong : (lines : List (List ℕ)) (i j : ℕ) → IsFirstWrong lines i → IsFirstWrong lines j → i ≡ j
same_wrong lines i j one other = elim (cases_eq i j) [
  | inl same ↦ same
  | inr apart ↦ elim (cases_lt i j) [
    | inl sooner ↦ absurd (other.right i sooner one.wrong)
    | inr no_sooner ↦ absurd (one.right j (omega (arith, no_sooner, apart)) other.wrong)
  ]
]

-- where all lines are right, none is wrong
none_wrong : (lines : List (List ℕ)) (i : ℕ) → AreRightBefore lines (length lines)
    → IsFirstWrong lines i → ⊥
none_wrong lines i right wrong = right i wrong.inside wrong.wrong

one_overlap : (claims : List Claim) (events : List Event) (found other : Overlap)
    → IsFirstOverlap claims events found → IsFirstOverlap claims events other → found ≡ other
one_overlap claims events found other one two = grind arith

pub one_verdict : (lines : List (List ℕ)) (verdict other : Verdict)
    → IsVerdict lines verdict → IsVerdict lines other → verdict ≡ other
one_verdict lines Apart Apart one two = refl
one_verdict lines Apart (Overlapping found) one two =
    absurd (overlap_breaks (claims_told lines) (events_told lines) found.event found.begins
    found.under_way one.1 two.1.overlap)
one_verdict lines Apart (BadForm i) one two = absurd (none_wrong lines i one.0 two)
one_verdict lines (Overlapping found) Apart one two =
    absurd (overlap_breaks (claims_told lines) (events_told lines) found.event found.begins
    found.under_way two.1 one.1.overlap)
one_verdict lines (Overlapping found) (Overlapping other) one two =
    ap Overlapping (one_overlap (claims_told lines) (events_told lines) found other one.1 two.1)
one_verdict lines (Overlapping found) (BadForm i) one two = absurd (none_wrong lines i one.0 two)
one_verdict lines (BadForm i) Apart one two = absurd (none_wrong lines i two.0 one)
one_verdict lines (BadForm i) (Overlapping found) one two = absurd (none_wrong lines i two.0 one)
one_verdict lines (BadForm i) (BadForm j) one two = ap BadForm (same_wrong lines i j one two)
