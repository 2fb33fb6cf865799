use Rattle.task_segments.proofs.MarkCutting.{is_whole}
use Rattle.large_text.proofs.tally.table_within.Goals as goal

pub finish-requires : goal.finish-requires
finish-requires c = record {
  marks = c.requires.marks;
  reading = is_whole c.args.rows c.requires.marks c.requires.nested c.requires.tables
      (c.is_within.ensures.0 c.if-is_within.true) (c.requires.work c.if-within.true);
  tables = c.requires.tables;
}

pub returns-then-is_within-clause-table : goal.returns-then-is_within-clause-table
returns-then-is_within-clause-table c = λ marks nested tables work.
    c.finish.ensures marks
    (is_whole c.args.rows marks nested tables (c.is_within.ensures.0 c.if-is_within.true)
    (work c.if-within.true)) tables
