-- Carried out: what two rows are compared by.
use Rattle.task_segments.specs.Table.{Task}
use Rattle.task_segments.specs.declared.copies.TaskFacts.{TaskFacts}

-- what the table says of a task, but for its depend items
abbrev pub facts_of : Task → TaskFacts
facts_of task = record {
  parent = task.parent;
  creator = task.creator;
  undeferred = task.undeferred;
  first = task.first;
  last = task.last;
  innermost_group = task.innermost_group;
  siblings_before = task.siblings_before;
}
