use Rattle.exclusive_tasks.proofs.Overlaps.{overlap_breaks}
use Rattle.exclusive_tasks.proofs.laws.no_overlap.Goals as goal

pub returns : goal.returns
returns c = overlap_breaks
