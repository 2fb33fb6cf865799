-- After which faults a read or a write is tried again.
use Rattle.std.specs.Prelude.{ℕ, ◌≡◌, ◌⊎◌, true}
use Rattle.counted_io.specs.DeviceFaults.{one_more_if}

-- Why a call came back with an error, given how many failures there were before and after it, and how
-- many retries are left: its last fault was its one failure, or it was interrupted with no retry left.
unfoldable pub GivesUp : ℕ → ℕ → ℕ → Type 0
GivesUp failures failures_after retries_after =
    (failures_after ≡ one_more_if true failures)
    ⊎ ((failures_after ≡ failures) × (retries_after ≡ 0))
