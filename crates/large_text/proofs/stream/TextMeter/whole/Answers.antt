use Rattle.std.proofs.Common.{◌∙◌, List, [], ap, arith, length, subst, ℕ}
use Rattle.std.proofs.lemmas.Result.{IfErr-weaker, IfOk-weaker}
use Rattle.large_text.specs.LargeTexts.{IsLargeFault}
use Rattle.large_text.specs.Measured.{TalliesText}
use Rattle.large_text.proofs.ReadingTexts.{fault_plain, tallies_plain}
use Rattle.large_text.proofs.Streaming.{kept_at, kept_few, long_fault, not_two, plain_at, plain_can}
use Rattle.large_text.proofs.stream.TextMeter.whole.Goals as goal

pub tally_kept-requires-clause-few : goal.tally_kept-requires-clause-few
tally_kept-requires-clause-few c =
    omega (
      arith,
      kept_few [] c.args.self c.in-Kept.is c.requires,
      ap (λ (bytes : List ℕ). length bytes) c.as_slice.ensures.value,
    )

pub tally_kept-requires-clause-taken : goal.tally_kept-requires-clause-taken
tally_kept-requires-clause-taken c =
    let self = c.args.self in
    (kept_at self.stage c.requires.bytes self.head.items self.plain c.in-Kept.is
    c.requires.taken.taken).plain_begun

pub tally_kept-requires-clause-begun : goal.tally_kept-requires-clause-begun
tally_kept-requires-clause-begun c =
    let self = c.args.self in
    (kept_at self.stage c.requires.bytes self.head.items self.plain c.in-Kept.is
    c.requires.taken.taken).begun

pub whole-requires : goal.whole-requires
whole-requires c = plain_can [] c.args.self c.in-Plain.is c.requires

pub returns-in-Kept-clause-measured : goal.returns-in-Kept-clause-measured
returns-in-Kept-clause-measured c =
    let self = c.args.self in
    IfOk-weaker c.tally_kept.result _ _
    (λ tally h text taken. subst (λ (bytes : List ℕ). TalliesText bytes tally)
    (c.as_slice.ensures.value
    ∙ (kept_at self.stage text self.head.items self.plain c.in-Kept.is taken.taken).all) h)
    c.tally_kept.ensures.measured

pub returns-in-Kept-clause-refused : goal.returns-in-Kept-clause-refused
returns-in-Kept-clause-refused c =
    let self = c.args.self in
    IfErr-weaker c.tally_kept.result _ _
    (λ fault refused some text taken. subst (λ (bytes : List ℕ). IsLargeFault bytes fault)
    (c.as_slice.ensures.value
    ∙ (kept_at self.stage text self.head.items self.plain c.in-Kept.is taken.taken).all)
    (refused some))
    c.tally_kept.ensures.refused

pub returns-in-Plain-clause-measured : goal.returns-in-Plain-clause-measured
returns-in-Plain-clause-measured c =
    let self = c.args.self in
    IfOk-weaker c.whole.result _ _
    (λ tally h text taken.
    let plain = plain_at self.stage text self.head.items self.plain c.in-Plain.is taken.taken in
    tallies_plain text tally (not_two text self.plain plain) (h text plain.taken))
    c.whole.ensures.measured

pub returns-in-Plain-clause-refused : goal.returns-in-Plain-clause-refused
returns-in-Plain-clause-refused c =
    let self = c.args.self in
    IfErr-weaker c.whole.result _ _
    (λ fault refused some text taken.
    let plain = plain_at self.stage text self.head.items self.plain c.in-Plain.is taken.taken in
    fault_plain text fault (not_two text self.plain plain) (refused some text plain.taken))
    c.whole.ensures.refused

pub returns-in-TooLong-clause-refused : goal.returns-in-TooLong-clause-refused
returns-in-TooLong-clause-refused c = λ some text taken.
    let self = c.args.self in
    long_fault text self.head.items self.stage self.plain c.in-TooLong.is taken.taken
