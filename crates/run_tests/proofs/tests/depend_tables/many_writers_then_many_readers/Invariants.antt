use Rattle.std.proofs.Common.{◌<◌, All}
use Rattle.run_tests.proofs.tests.depend_tables.many_writers_then_many_readers.Given as goal

abbrev pub invariant-loop-task : goal.invariant-loop-task
invariant-loop-task g l = All (λ s. s.task < l.task) l.table

abbrev pub invariant-loop-task-2 : goal.invariant-loop-task-2
invariant-loop-task-2 g l = All (λ s. s.task < l.task) l.table
