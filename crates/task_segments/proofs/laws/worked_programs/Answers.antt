use Rattle.task_segments.proofs.Examples.{are_cut_so, precede_so}
use Rattle.task_segments.proofs.laws.worked_programs.Goals as goal

pub returns : goal.returns
returns c = record { tables = are_cut_so; pairs = precede_so }
