-- What the machines read of a text is a tree where nothing is wrong with it, and only there.
use Rattle.std.proofs.Common.{ℕ, List}
use Rattle.task_program.specs.RightTexts.{IsReadWhereRight, IsReadWhereRightInLoops}
use Rattle.task_program.proofs.FaultFound.{fault_is_first}
use Rattle.task_program.proofs.LoopFaultOnly.{loop_fault_is_first}
use Rattle.task_program.proofs.ReadWhole.{found_tree_of, only_tree}

pub read_where_right : (text : List ℕ) → IsReadWhereRight text
read_where_right text one =
    let told = fault_is_first text one in (
      λ r. told.read.0 (r.0, only_tree text r.0 r.1),
      λ w. let read = told.read.1 w in (read.0, found_tree_of text read.0 read.1),
    )

pub read_where_right_in_loops : (text : List ℕ) → IsReadWhereRightInLoops text
read_where_right_in_loops text two =
    let told = loop_fault_is_first text two in
    record {
      read = λ program. (
        λ tree. (told.read program).0 (only_tree text program tree),
        λ w. found_tree_of text program ((told.read program).1 w),
      );
      has_tree = told.has_tree;
    }
