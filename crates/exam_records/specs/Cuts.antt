-- What reading gives for a payload that was cut off.
use Rattle.std.specs.Prelude.{◌≡◌, ℕ, ◌-◌, ◌<◌, ◌≤◌, ◌⊎◌, Result, Err}
use Rattle.proof_tree.specs.declared.fault.TreeFault.{TreeFault}
use Rattle.proof_tree.specs.declared.fault.TreeFault.TheVariants as tree_fault
use Rattle.exam_records.specs.declared.fault.RecordFault.{RecordFault}
use Rattle.exam_records.specs.declared.fault.RecordFault.TheVariants.{Short, Tree}

-- the bytes end at place k of a record whose entry ends at a place: before that place the fault is
-- Short, and from it on it is the tree's own Short, or Unfinished at the cut
abbrev pub IsCutOff : {A : Type 0} → ℕ → ℕ → Result A RecordFault → Type 0
IsCutOff end k read = (k < end → read ≡ Err Short) × (end ≤ k → (fault : TreeFault)
    × (read ≡ Err (Tree fault)) × ((fault ≡ tree_fault.Short)
    ⊎ (fault ≡ tree_fault.Unfinished (k - end))))
