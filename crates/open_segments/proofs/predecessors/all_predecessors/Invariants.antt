use Rattle.std.proofs.Common.{◌-◌}
use Rattle.open_segments.specs.Families.{AreInFamilies}
use Rattle.open_segments.specs.KeptLists.{AreFirstLists}
use Rattle.open_segments.proofs.predecessors.all_predecessors.Given as goal

abbrev pub invariant-loop-segment : goal.invariant-loop-segment
invariant-loop-segment g l = record {
  lists : AreFirstLists l.table l.segment l.lists;
  entered : AreInFamilies l.table (l.segment - 1) l.families;
}
