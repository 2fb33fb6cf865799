use Rattle.std.proofs.Common.{◌∙◌, ◌+◌, ap, arith, rules}
use Rattle.std.specs.Prelude.{count_by}
use Rattle.program_text.specs.Tokens.{is_line_feed}
use Rattle.large_text.proofs.PlainStreaming.{lines_done, fault_done}
use Rattle.large_text.proofs.plain_stream.PlainMeter.take_lines.Goals as goal

pub returns-in-Ok-clause-takes : goal.returns-in-Ok-clause-takes
returns-in-Ok-clause-takes c = λ taken fits h.
    let self = c.args.self.now in
    record {
      fits = fits;
      last = ap (λ tail. count_by is_line_feed tail) c.clear.ensures.items;
      taken = lines_done self.fault taken self.tail.items c.args.lines.now c.as_slice.result.now
          c.clear.new.self.items (self.lines + 1) c.in-Ok.line _ self.reader
          c.take_tokens-taken.new.reader self.meter c.take_tokens-taken.new.meter
          c.requires.no_fault (c.as_slice.ensures.value ∙ c.in_ok-extend_from_slice.ensures.items)
          c.clear.ensures.items h.taken c.requires.ends c.in-Ok.ensures.line
          (omega (arith, c.in-Ok.ensures.line)) c.in-Ok.ensures.reads;
    }

pub returns-else-eq-clause-takes : goal.returns-else-eq-clause-takes
returns-else-eq-clause-takes c = λ taken fits h.
    let self = c.args.self.now in
    record {
      fits = fits;
      last = ap (λ tail. count_by is_line_feed tail) c.clear.ensures.items;
      taken = fault_done self.fault taken self.tail.items c.args.lines.now c.as_slice.result.now
          (self.lines + 1) self.reader self.meter c.in-Err.fault c.requires.no_fault
          (c.as_slice.ensures.value ∙ c.in_ok-extend_from_slice.ensures.items)
          h.taken c.requires.ends (c.in-Err.ensures.refused (search rules));
    }
