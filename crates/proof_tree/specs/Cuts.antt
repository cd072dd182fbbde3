-- What reading answers for bytes that were cut off.
use Rattle.std.specs.Prelude.{◌≡◌, ℕ, ◌⊎◌, Result, Err}
use Rattle.proof_tree.specs.declared.fault.TreeFault.{TreeFault}
use Rattle.proof_tree.specs.declared.fault.TreeFault.TheVariants.{Short, Unfinished}

-- the bytes end at place k: within a field, or between two nodes
abbrev pub IsCutOff : {A : Type 0} → ℕ → Result A TreeFault → Type 0
IsCutOff k read = (read ≡ Err Short) ⊎ (read ≡ Err (Unfinished k))
