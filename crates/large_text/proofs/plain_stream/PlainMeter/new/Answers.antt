use Rattle.std.proofs.Common.{[], ap, subst, sym}
use Rattle.std.specs.Prelude.{count_by}
use Rattle.program_text.specs.Tokens.{is_line_feed}
use Rattle.large_text.specs.PlainStreamed.{HasTakenLines}
use Rattle.large_text.proofs.PlainStreaming.{taken_first, fits_none}
use Rattle.large_text.proofs.plain_stream.PlainMeter.new.Goals as goal

pub returns-clause-taken : goal.returns-clause-taken
returns-clause-taken c = record {
  fits = fits_none;
  last = ap (λ tail. count_by is_line_feed tail) c.new-2.ensures.items;
  taken = subst (λ tail. HasTakenLines [] tail 1 c.new.result c.args.meter)
      (sym c.new-2.ensures.items) (taken_first c.new.result c.args.meter c.new.ensures.read c.new.ensures.items c.requires);
}
