use Rattle.std.proofs.Common.{◌+◌}
use Rattle.task_segments.specs.InPlace.{EndsBefore}
use Rattle.depend_table.specs.Lists.{Lists}
use Rattle.open_segments.proofs.ListLemmas.{Below}
use Rattle.open_segments.proofs.waiting_groups.segments_after_groups.Given as goal

abbrev pub invariant-loop-before : goal.invariant-loop-before
invariant-loop-before g l = Lists (Below (EndsBefore l.table) (l.before + 1)) l.groups.items
