use Rattle.std.proofs.Common.{subst}
use Rattle.std.specs.Prelude.{MatchOption}
use Rattle.depend_table.specs.KeptEdges.{IsKeptEdge}
use Rattle.depend_table.specs.Lists.{Lists}
use Rattle.dispatch_core.specs.Run.{IsOpen, Run}
use Rattle.calling.proofs.replaying.record_of.Goals as goal

pub returns-in-Ok-copy_of_record-clause-record : goal.returns-in-Ok-copy_of_record-clause-record
returns-in-Ok-copy_of_record-clause-record c =
    let IsRecorded : Run → Type 0 = λ run. MatchOption c.in-Ok-copy_of_record.found
    (¬ IsOpen run.table run.history c.args.segment)
    (λ preds. IsOpen run.table run.history c.args.segment
    × Lists (λ before. IsKeptEdge run.table before c.args.segment) preds.items) in
    subst IsRecorded c.in-Ok.ensures.ok c.in-Ok-copy_of_record.ensures
