use Rattle.std.proofs.Common.{refl}
use Rattle.task_segments.specs.declared.limits.TheConstants.{MOST_ROWS}
use Rattle.task_segments.proofs.Finish.{rows_are_table}
use Rattle.task_segments.proofs.mark_cutter.MarkCutter.finish.Goals as goal

pub invariant_of-result : goal.invariant_of-result
invariant_of-result c =
    let cutter = c.args.self.cutter in
    let reading = c.requires.reading in
    let cuts = c.requires.tables.cuts in
    (rows_are_table MOST_ROWS MOST_ROWS cutter.segments.items cutter.tasks.items
    cutter.groups.items c.requires.marks c.requires.marks reading reading.segments reading.tasks
    refl cuts.segments cuts.tasks cuts.groups cuts.proper).0

pub returns : goal.returns
returns c = λ marks reading tables.
    let cutter = c.args.self.cutter in
    let cuts = tables.cuts in
    (rows_are_table MOST_ROWS MOST_ROWS cutter.segments.items cutter.tasks.items
    cutter.groups.items marks marks reading reading.segments reading.tasks refl cuts.segments
    cuts.tasks cuts.groups cuts.proper).1
