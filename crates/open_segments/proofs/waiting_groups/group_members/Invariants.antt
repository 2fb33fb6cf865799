use Rattle.open_segments.specs.Members.{AreMembersBelow}
use Rattle.open_segments.specs.NumberLists.{lists_of}
use Rattle.open_segments.proofs.waiting_groups.group_members.Given as goal

abbrev pub invariant-loop-segment : goal.invariant-loop-segment
invariant-loop-segment g l =
    AreMembersBelow l.table l.segment l.groups.items (lists_of l.lists.items)
