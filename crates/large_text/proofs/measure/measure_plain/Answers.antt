use Rattle.std.proofs.Common.{◌≡◌, ◌≢◌, None, refl, rules, subst, sym}
use Rattle.large_text.specs.Measured.{MeasuresText}
use Rattle.program_text.specs.declared.fault.ReadKind.TheVariants.{OutOfMemory}
use Rattle.program_text.specs.Tokens.{tokens_of, line_at_end}
use Rattle.large_text.specs.LargeTexts.{IsLargeFault}
use Rattle.large_text.proofs.ReadingTexts.{fault_plain, tallies_plain}
use Rattle.large_text.proofs.PlainStreaming.{taken_none, fault_last, ends_early, ends_whole}
use Rattle.large_text.proofs.Memory.{line_of_first}
use Rattle.large_text.proofs.Tallying.{of_tally}
use Rattle.large_text.proofs.measure.measure_plain.Goals as goal

pub returns-in_err-line-clause-refused : goal.returns-in_err-line-clause-refused
returns-in_err-line-clause-refused c =
    let text = c.args.text.now in
    let reader = c.new-reader.result in
    let meter = c.new-meter.result in
    let fault = c.in_err-line.field-0.0 in
    let h = taken_none text reader meter c.new-reader.ensures.read c.new-reader.ensures.items
    c.new-meter.ensures in
    let stops : fault.kind ≢ OutOfMemory
    → IsLargeFault text fault =
    λ some. fault_plain text fault c.requires.not_two
    (fault_last None text text text 1 reader meter fault refl refl h
    (c.in_err-line.ensures.refused some) (line_at_end 1 text)) in
    search (stops, rules)

pub returns-in_err-finish-clause-refused : goal.returns-in_err-finish-clause-refused
returns-in_err-finish-clause-refused c =
    let text = c.args.text.now in
    let reader = c.new-reader.result in
    let meter = c.new-meter.result in
    let fault = c.in_err-finish.field-0.0 in
    let h = taken_none text reader meter c.new-reader.ensures.read c.new-reader.ensures.items
    c.new-meter.ensures in
    let stops : IsLargeFault text fault =
    fault_plain text fault c.requires.not_two
    (ends_early None text text text 1 c.in_ok-line.line reader c.take_tokens.new.reader meter
    c.take_tokens.new.meter fault refl refl h c.in_ok-line.ensures.line c.in_ok-line.ensures.reads
    c.in_err-finish.ensures.early) in
    search (stops, rules)

pub returns-clause-measured : goal.returns-clause-measured
returns-clause-measured c =
    let text = c.args.text.now in
    let reader = c.new-reader.result in
    let meter = c.new-meter.result in
    let h = taken_none text reader meter c.new-reader.ensures.read c.new-reader.ensures.items
    c.new-meter.ensures in
    subst (MeasuresText text) (sym c.into_meter.ensures)
    (of_tally text c.take_tokens.new.meter
    (tallies_plain text c.take_tokens.new.meter c.requires.not_two
    (ends_whole None text text text 1 reader c.take_tokens.new.reader meter
    c.take_tokens.new.meter refl refl h c.in_ok-line.ensures.reads c.in_ok-finish.ensures.whole)))

pub returns-in_err-finish-clause-memory : goal.returns-in_err-finish-clause-memory
returns-in_err-finish-clause-memory c =
    let text = c.args.text.now in
    let reader = c.new-reader.result in
    let meter = c.new-meter.result in
    let fault = c.in_err-finish.field-0.0 in
    let h = taken_none text reader meter c.new-reader.ensures.read c.new-reader.ensures.items
    c.new-meter.ensures in
    let line_is : fault.kind ≡ OutOfMemory → fault.line ≡ 0 =
    line_of_first (tokens_of text) (line_at_end 1 text) fault
    (ends_early None text text text 1 c.in_ok-line.line reader c.take_tokens.new.reader meter
    c.take_tokens.new.meter fault refl refl h c.in_ok-line.ensures.line c.in_ok-line.ensures.reads
    c.in_err-finish.ensures.early) in
    search (line_is, rules)
