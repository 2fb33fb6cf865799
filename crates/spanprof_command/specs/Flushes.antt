-- How often the end of a command flushes its writer, and when what it wrote is surely flushed.
use Rattle.std.specs.Prelude.{◌+◌, ◌≡◌, ◌≤◌, true}
use Rattle.counted_io.specs.Counted.{faults_of, flushes_of, is_flushed}
use Rattle.counted_io.specs.declared.counted.Counted.{Counted}

-- What each function that ends a command promises of its writer's flushes. `NoFault` says that its
-- answer has no fault.
pub record FlushesOnce {W : Type 0} (NoFault : Type 0) (writer writer_after : Counted W) : Type 0
  where
    -- where it has no fault, all was flushed
    pub flushed : NoFault → is_flushed writer_after ≡ true
    -- whatever it answers, as after a read that failed, all was flushed where the writer had no fault
    pub flushed_without_fault : faults_of writer_after ≡ faults_of writer
        → is_flushed writer_after ≡ true
    -- in every case there was one flush at most
    pub flushes : flushes_of writer_after ≤ flushes_of writer + 1
