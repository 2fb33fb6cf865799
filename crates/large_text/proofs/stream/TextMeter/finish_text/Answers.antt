use Rattle.std.proofs.Common.{Bool, subst, sym}
use Rattle.std.specs.Prelude.{IsTrue}
use Rattle.large_text.proofs.Tallying.{told_some, told_table, told_text, whole_tally}
use Rattle.large_text.proofs.stream.TextMeter.finish_text.Goals as goal

pub returns-clause-text : goal.returns-clause-text
returns-clause-text c = λ text taken.
    told_text text c.in_ok-whole.field-0 c.into_text.result.0 (λ written. written.items)
    (c.in_ok-whole.ensures.measured text taken) c.into_text.ensures.text

pub returns-clause-some_table : goal.returns-clause-some_table
returns-clause-some_table c = λ kept text taken fits.
    told_some text c.in_ok-whole.field-0 c.into_text.result.1
    (c.in_ok-whole.ensures.measured text taken) c.into_text.ensures.some_table
    (subst (λ (b : Bool). IsTrue b) (sym c.in_ok-whole.ensures.rows) kept) fits

pub into_text-requires : goal.into_text-requires
into_text-requires c =
    whole_tally c.requires.bytes c.in_ok-whole.field-0
    (c.in_ok-whole.ensures.measured c.requires.bytes c.requires.taken)

pub returns-clause-table : goal.returns-clause-table
returns-clause-table c = λ text taken.
    told_table text c.in_ok-whole.field-0 c.into_text.result.1
    (c.in_ok-whole.ensures.measured text taken) c.into_text.ensures.table
