use Rattle.std.proofs.Common.{◌∙◌, ◌≡◌, [], append-nil, arith, false, subst, sym}
use Rattle.std.proofs.lemmas.Result.{IfErr-weaker, IfOk-weaker}
use Rattle.large_text.specs.LargeTexts.{FitsText, is_large_two}
use Rattle.large_text.proofs.PlainStreaming.{fits_short}
use Rattle.large_text.proofs.ReadingTexts.{fault_plain, tallies_plain}
use Rattle.large_text.proofs.stream.tally_kept.Goals as goal

pub take-requires-clause-room : goal.take-requires-clause-room
take-requires-clause-room c = record {
  bytes = [];
  taken = c.requires.taken;
  fits = fits_short c.args.text.now (omega (arith, c.requires.few));
}

pub whole-requires : goal.whole-requires
whole-requires c =
    let text = c.args.text.now in
    let fits = fits_short text (omega (arith, c.requires.few)) in
    record {
      bytes = text;
      taken = c.in_ok-take.ensures.takes [] fits c.requires.taken;
      fits = subst FitsText (sym (append-nil text)) fits;
    }

pub returns-clause-measured : goal.returns-clause-measured
returns-clause-measured c =
    let text = c.args.text.now in
    let fits = fits_short text (omega (arith, c.requires.few)) in
    let one : is_large_two text ≡ false = sym c.is_large_two.ensures ∙ c.if-is_large_two.false in
    IfOk-weaker c.whole.result _ _
    (λ tally tallies. tallies_plain text tally one
    (tallies text (c.in_ok-take.ensures.takes [] fits c.requires.taken))) c.whole.ensures.measured

pub returns-clause-refused : goal.returns-clause-refused
returns-clause-refused c =
    let text = c.args.text.now in
    let fits = fits_short text (omega (arith, c.requires.few)) in
    let one : is_large_two text ≡ false = sym c.is_large_two.ensures ∙ c.if-is_large_two.false in
    IfErr-weaker c.whole.result _ _
    (λ fault refused some. fault_plain text fault one
    (refused some text (c.in_ok-take.ensures.takes [] fits c.requires.taken)))
    c.whole.ensures.refused

pub returns-clause-rows : goal.returns-clause-rows
returns-clause-rows c =
    IfOk-weaker c.whole.result _ _ (λ tally is. is ∙ c.take.ensures.rows) c.whole.ensures.rows

pub returns-clause-text : goal.returns-clause-text
returns-clause-text c =
    IfOk-weaker c.whole.result _ _ (λ tally is. is ∙ c.take.ensures.text) c.whole.ensures.text
