use Rattle.large_text.proofs.Tallying.{rows_of, rows_within, told_rows, within_work, work_within}
use Rattle.large_text.proofs.tally.Tally.into_table.Goals as goal

pub table_within-requires : goal.table_within-requires
table_within-requires c =
    let marks = c.requires.marks in
    record {
      marks = marks;
      nested = c.requires.nested;
      tables = rows_of c.args.self c.in-Some.rows marks c.in-Some.is c.requires.tallies;
      work = within_work c.args.self marks c.total_work-within.result c.requires.tallies
          c.total_work-within.ensures.marks;
    }

pub returns-in-Some-clause-table : goal.returns-in-Some-clause-table
returns-in-Some-clause-table c =
    told_rows c.args.self c.in-Some.rows c.total_work-within.result c.table_within.result
    c.in-Some.is c.total_work-within.ensures.marks c.table_within.ensures.table

pub returns-in-Some-clause-some : goal.returns-in-Some-clause-some
returns-in-Some-clause-some c = λ kept marks reading tallies.
    c.table_within.ensures.some
    (work_within c.args.self marks c.total_work-within.result tallies
    c.total_work-within.ensures.marks reading.work)
    (rows_within c.in-Some.rows marks reading
    (rows_of c.args.self c.in-Some.rows marks c.in-Some.is tallies))
