use Rattle.std.proofs.Common.{◌≡◌, ℕ, ◌<◌, length, ap, ◌∙◌, arith, get_or, inl, inr}
use Rattle.std.proofs.lemmas.Bool.{cases_eq}
use Rattle.std.proofs.lemmas.List.{get_or_default}
use Rattle.std.proofs.lemmas.List.Elements.{Contains-get_or}
use Rattle.std.proofs.lemmas.List.Kept.{AllPairs-from_increasing}
use Rattle.task_segments.specs.Schedule.{at}
use Rattle.time_accounts.proofs.path.last_among.Goals.{then-ends-segment, else-ends-segment}
use Rattle.time_accounts.proofs.path.last_among.Goals as goal

pub bounds-ends-segment : goal.bounds-ends-segment
bounds-ends-segment c =
    c.requires.inside _
    (Contains-get_or c.args.segments.now c.loop-segment.segment-index 0 c.loop-segment-test.true)

pub bounds-ends-last : goal.bounds-ends-last
bounds-ends-last c = c.requires.inside _ c.loop-segment.invariant.member

pub returns : goal.returns
returns c =
    let segments = c.args.segments.now in
    let last = c.loop-segment.last in
    record {
      member = c.loop-segment.invariant.member;
      latest = λ s k.
          let is : get_or segments k.0 0 ≡ s = get_or_default segments k.0 0 s k.1 ∙ k.2 in
          omega (
            arith,
            ap (at c.args.ends.now) is,
            c.loop-segment.invariant.latest k.0 (omega (arith, k.1, c.loop-segment-test.false)),
          );
      smallest = λ s k same.
          let is : get_or segments k.0 0 ≡ s = get_or_default segments k.0 0 s k.1 ∙ k.2 in
          omega (
            arith,
            is,
            c.loop-segment.invariant.smallest k.0 (omega (arith, k.1, c.loop-segment-test.false))
                (ap (at c.args.ends.now) is ∙ same),
          );
    }

pub loop-segment-init : goal.loop-segment-init
loop-segment-init c =
    let segments = c.args.segments.now in
    let some : 0 < length segments = grind (arith, c.is_empty.ensures, c.if-is_empty.false) in
    record {
      member = Contains-get_or segments 0 0 some;
      latest = λ k h. absurd (omega (arith, h));
      smallest = λ k h. absurd (omega (arith, h));
      before = λ k h l. elim (cases_eq k 0) [
        | inl first ↦ omega (arith, ap (λ (i : ℕ). get_or segments i 0) first)
        | inr later ↦ omega (
          arith,
          AllPairs-from_increasing segments c.requires.ascending 0 k 0 (omega (arith, later)) l,
        )
      ];
    }

pub loop-segment-preserved : goal.loop-segment-preserved
loop-segment-preserved c =
    let segments = c.args.segments.now in
    let ends = c.args.ends.now in
    let n = c.loop-segment.segment-index in
    let before = c.loop-segment.invariant in
    elim c.if-ends-segment.branch [
      | then-ends-segment w ↦
          rw w.last-is (record {
            member = Contains-get_or segments n 0 c.loop-segment-test.true;
            latest = λ k h. elim (cases_eq k n) [
              | inl here ↦ omega (arith, ap (λ (i : ℕ). at ends (get_or segments i 0)) here)
              | inr other ↦ omega (
                arith,
                before.latest k (omega (arith, h, other)),
                w.if-ends-segment.true,
              )
            ];
            smallest = λ k h same. elim (cases_eq k n) [
              | inl here ↦ omega (arith, ap (λ (i : ℕ). get_or segments i 0) here)
              | inr other ↦ absurd (omega (
                arith,
                same,
                before.latest k (omega (arith, h, other)),
                w.if-ends-segment.true,
              ))
            ];
            before = λ k h l. omega (
              arith,
              AllPairs-from_increasing segments c.requires.ascending n k 0 (omega (arith, h)) l,
            );
          })
      | else-ends-segment w ↦
          rw w.last-is (record {
            member = before.member;
            latest = λ k h. elim (cases_eq k n) [
              | inl here ↦ omega (
                arith,
                ap (λ (i : ℕ). at ends (get_or segments i 0)) here,
                w.if-ends-segment.false,
              )
              | inr other ↦ before.latest k (omega (arith, h, other))
            ];
            smallest = λ k h same. elim (cases_eq k n) [
              | inl here ↦ omega (
                arith,
                ap (λ (i : ℕ). get_or segments i 0) here,
                before.before n (omega arith) c.loop-segment-test.true,
              )
              | inr other ↦ before.smallest k (omega (arith, h, other)) same
            ];
            before = λ k h l. before.before k (omega (arith, h)) l;
          })
    ]
