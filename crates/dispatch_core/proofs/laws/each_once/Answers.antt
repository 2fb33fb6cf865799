use Rattle.dispatch_core.proofs.Once.{started_once, finished_once}
use Rattle.dispatch_core.proofs.laws.each_once.Goals as goal

pub returns : goal.returns
returns c = record { starts = started_once; finishes = finished_once }
