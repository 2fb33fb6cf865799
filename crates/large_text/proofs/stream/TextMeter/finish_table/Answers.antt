use Rattle.std.proofs.Common.{sym, subst, Bool}
use Rattle.std.specs.Prelude.{IsTrue}
use Rattle.large_text.proofs.Tallying.{told_some, told_table, whole_tally}
use Rattle.large_text.proofs.stream.TextMeter.finish_table.Goals as goal

pub returns-clause-some : goal.returns-clause-some
returns-clause-some c = λ kept text taken fits.
    let tally = c.in_ok-whole.field-0 in
    told_some text tally c.into_table.result (c.in_ok-whole.ensures.measured text taken)
    c.into_table.ensures.some (subst (λ (b : Bool). IsTrue b) (sym c.in_ok-whole.ensures.rows) kept)
    fits

pub into_table-requires : goal.into_table-requires
into_table-requires c =
    whole_tally c.requires.bytes c.in_ok-whole.field-0
    (c.in_ok-whole.ensures.measured c.requires.bytes c.requires.taken)

pub returns-clause-table : goal.returns-clause-table
returns-clause-table c = λ text taken.
    told_table text c.in_ok-whole.field-0 c.into_table.result
    (c.in_ok-whole.ensures.measured text taken) c.into_table.ensures.table
