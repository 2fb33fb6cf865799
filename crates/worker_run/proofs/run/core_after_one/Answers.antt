use Rattle.worker_run.proofs.AtRest.{at_rest_at_first}
use Rattle.worker_run.proofs.run.core_after_one.Goals as goal

pub work_alone-requires-after_bounds : goal.work_alone-requires-after_bounds
work_alone-requires-after_bounds g c = λ κs h. rw c.in_ok-core.ensures at_rest_at_first
