use Rattle.std.proofs.Common.{slice_index_or}
use Rattle.worker_run.specs.NewLanes.{lanes_of}
use Rattle.worker_run.proofs.alone.work_alone.Given as goal

abbrev pub ghosts-work_at : goal.ghosts-work_at
ghosts-work_at g
    a = record { lane_of = λ number. slice_index_or (lanes_of a.lanes.items) number (0, 0) }
