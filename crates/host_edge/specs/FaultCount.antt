-- How often an object of the host failed.
use Rattle.std.specs.Prelude.{◌≡◌, ℕ, Bool, true, if◌then◌else◌, Option}
use Rattle.std.specs.declared.io.Error.{Error}
use Rattle.exam_edge.specs.Faults.{one_more}
use Rattle.host_edge.specs.declared.fault_count.FaultCount.{FaultCount}

-- how many calls failed
abbrev pub count_of : FaultCount → ℕ
count_of faults = faults.count

-- why the last call that failed did
abbrev pub cause_of : FaultCount → Option Error
cause_of faults = faults.cause

-- one call more was made, and counted as a fault unless it was done
pub record IsCounted (done : Bool) (old new : FaultCount) : Type 0 where
  pub count : count_of new ≡ (if done then count_of old else one_more (count_of old))
  pub cause : done ≡ true → cause_of new ≡ cause_of old
