use Rattle.depend_table.specs.Lists.{Lists}
use Rattle.depend_table.specs.Entries.{tasks_of}
use Rattle.depend_table.specs.MarkedPlaces.{IsMarkedNumber}
use Rattle.depend_table.proofs.table.marked_tasks.Given as goal

abbrev pub invariant-loop-place : goal.invariant-loop-place
invariant-loop-place l =
    Lists (IsMarkedNumber l.first l.marks (tasks_of l.calls) l.place) l.kept.items
