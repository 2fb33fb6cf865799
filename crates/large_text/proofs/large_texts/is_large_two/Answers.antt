use Rattle.std.proofs.Common.{◌∙◌}
use Rattle.large_text.proofs.ReadingTexts.{two_scanned}
use Rattle.large_text.proofs.large_texts.is_large_two.Goals as goal

pub returns : goal.returns
returns c =
    two_scanned c.args.text.now c.new.result c.min.result c.takes_header_two.result
    (c.new.ensures.rest ∙ c.split_at.ensures.front) c.new.ensures.line c.min.ensures
    c.takes_header_two.ensures.is_two
