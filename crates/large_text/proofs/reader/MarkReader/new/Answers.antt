use Rattle.std.proofs.Common.{ap}
use Rattle.large_text.specs.LargeReading.IsReadSoFar.{AtFirst}
use Rattle.large_text.proofs.reader.MarkReader.new.Goals as goal

pub returns-clause-read : goal.returns-clause-read
returns-clause-read c =
    AtFirst c.fresh.result c.fresh.ensures.state c.fresh.ensures.work c.fresh.ensures.all_items

pub returns-clause-items : goal.returns-clause-items
returns-clause-items c = ap (λ s. s.head.items) c.fresh.ensures.state
