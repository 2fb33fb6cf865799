use Rattle.std.proofs.lemmas.Result.{on_ok_weaker}
use Rattle.large_text.proofs.Streaming.{long_more, plain_can, plain_more}
use Rattle.large_text.proofs.stream.TextMeter.take_next.Goals as goal

pub take-requires-clause-room : goal.take-requires-clause-room
take-requires-clause-room c =
    plain_can c.args.bytes.now c.args.self.now c.in-Plain.is c.requires.room

pub returns-in-Plain-clause-takes : goal.returns-in-Plain-clause-takes
returns-in-Plain-clause-takes c =
    let self = c.args.self.now in
    on_ok_weaker c.take.result
    (λ takes taken fits h. record {
      fits = fits;
      taken = plain_more self.stage taken c.args.bytes.now self.head.items self.plain
          c.take.new.self c.in-Plain.is takes fits h.taken;
    }) c.take.ensures.takes

pub returns-in-TooLong-clause-takes : goal.returns-in-TooLong-clause-takes
returns-in-TooLong-clause-takes c = λ taken fits h.
    let self = c.args.self.now in
    record {
      fits = fits;
      taken = long_more self.stage taken c.args.bytes.now self.head.items self.plain c.in-TooLong.is
          h.taken;
    }
