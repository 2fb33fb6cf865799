use Rattle.std.proofs.Common.{subst, sym}
use Rattle.large_text.specs.Tallied.{IsBegun}
use Rattle.large_text.proofs.PlainStreaming.{fits_none}
use Rattle.large_text.proofs.Streaming.{kept_none}
use Rattle.large_text.proofs.stream.TextMeter.of_tally.Goals as goal

pub returns-clause-taken : goal.returns-clause-taken
returns-clause-taken c = record {
  fits = fits_none;
  taken = kept_none c.new.result.items c.new-2.result c.new.ensures.items c.new-2.ensures.taken
      (subst IsBegun (sym c.new-2.ensures.meter) c.requires);
}
