use Rattle.std.proofs.Common.{rules}
use Rattle.std.proofs.lemmas.Iterator.{YieldsList-from_take}
use Rattle.std.proofs.lemmas.Iterator.Consumers.{YieldsList-at, YieldsList-from_filter, map_from_collect}
use Rattle.std.proofs.lemmas.Iterator.Splits.{YieldsList-from_slice_split}
use Rattle.program_text.specs.PlainWords.{has_byte}
use Rattle.program_text.specs.Tokens.{is_blank}
use Rattle.time_text.proofs.line.first_words.Goals as goal

pub returns : goal.returns
returns c =
    map_from_collect _ c.collect.ensures.ran
    (YieldsList-from_take c.args.most
    (YieldsList-at c.take.ensures.source
    (YieldsList-from_filter _ has_byte
    (YieldsList-at c.filter.ensures.source
    (YieldsList-from_slice_split _ is_blank c.args.line.now (cc) (cc) (cc)
    (λ x b q k. search rules)))
    c.filter.ensures.closure
    (λ x b q k. search rules)))
    c.take.ensures.count)
