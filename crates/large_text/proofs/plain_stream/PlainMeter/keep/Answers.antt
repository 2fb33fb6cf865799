use Rattle.std.proofs.Common.{◌+◌, subst, sym}
use Rattle.large_text.specs.LargeTexts.{HasNoLineFeed}
use Rattle.large_text.proofs.PlainStreaming.{kept, where_ok, no_feed_more}
use Rattle.large_text.proofs.plain_stream.PlainMeter.keep.Goals as goal

pub returns-clause-takes : goal.returns-clause-takes
returns-clause-takes c =
    let self = c.args.self.now in
    where_ok c.extend_from_slice.result _ c.extend_from_slice.new.self.items self.tail.items
    c.args.bytes.now c.extend_from_slice.ensures.items (λ is taken fits h. record {
      fits = fits;
      last = subst HasNoLineFeed (sym is)
          (no_feed_more self.tail.items c.args.bytes.now h.last c.requires);
      taken = kept self.fault taken self.tail.items c.args.bytes.now
          c.extend_from_slice.new.self.items (self.lines + 1) self.reader self.meter is h.taken;
    })
