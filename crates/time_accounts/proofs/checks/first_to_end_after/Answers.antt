use Rattle.std.proofs.Common.{◌≡◌, ℕ, ap, ◌∙◌, arith, get_or, inl, inr}
use Rattle.std.proofs.lemmas.Bool.{cases_lt, cases_eq}
use Rattle.std.proofs.lemmas.List.{get_or_default}
use Rattle.std.proofs.lemmas.List.Elements.{Contains-get_or}
use Rattle.std.proofs.lemmas.List.Kept.{AllPairs-from_increasing}
use Rattle.task_segments.specs.Schedule.{at}
use Rattle.time_accounts.proofs.checks.first_to_end_after.Goals as goal

pub bounds-ends-segment : goal.bounds-ends-segment
bounds-ends-segment c =
    c.requires.inside _
    (Contains-get_or c.args.segments.now c.loop-segment.segment-index 0 c.loop-segment-test.true)

pub returns-then-ends-segment : goal.returns-then-ends-segment
returns-then-ends-segment c =
    let segments = c.args.segments.now in
    let n = c.loop-segment.segment-index in
    record {
      member = Contains-get_or segments n 0 c.loop-segment-test.true;
      later = c.if-ends-segment.true;
      least = λ r k less.
          let is : get_or segments k.0 0 ≡ r = get_or_default segments k.0 0 r k.1 ∙ k.2 in
          elim (cases_lt k.0 n) [
            | inl before ↦ omega (
              arith,
              ap (at c.args.ends.now) is,
              c.loop-segment.invariant k.0 before,
            )
            | inr not_before ↦ elim (cases_eq k.0 n) [
              | inl here ↦ absurd (omega (arith, is, less, ap (λ (i : ℕ). get_or segments i 0) here))
              | inr behind ↦ absurd (omega (
                arith,
                is,
                less,
                AllPairs-from_increasing segments c.requires.ascending n k.0 0
                    (omega (arith, not_before, behind)) k.1,
              ))
            ]
          ];
    }

pub returns : goal.returns
returns c s k =
    let segments = c.args.segments.now in
    let is : get_or segments k.0 0 ≡ s = get_or_default segments k.0 0 s k.1 ∙ k.2 in
    omega (
      arith,
      ap (at c.args.ends.now) is,
      c.loop-segment.invariant k.0 (omega (arith, k.1, c.loop-segment-test.false)),
    )
