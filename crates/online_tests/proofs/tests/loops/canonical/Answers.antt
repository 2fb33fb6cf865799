use Rattle.std.proofs.Common.{[], arith, rules}
use Rattle.large_text.specs.LargeTexts.{FitsText}
use Rattle.large_text.proofs.PlainStreaming.{fits_short}
use Rattle.online_tests.proofs.tests.loops.canonical.Goals as goal

pub take-requires-clause-room : goal.take-requires-clause-room
take-requires-clause-room c = record {
  bytes = [];
  taken = c.in_ok-meter.ensures.taken;
  fits = fits_short c.args.text.now (omega (arith, c.requires));
}

pub finish_text-requires : goal.finish_text-requires
finish_text-requires c =
    let fits : FitsText c.args.text.now = fits_short c.args.text.now (omega (arith, c.requires)) in record {
      bytes = c.args.text.now;
      taken = c.in_ok-take.ensures.takes [] fits c.in_ok-meter.ensures.taken;
      fits = search rules;
    }
