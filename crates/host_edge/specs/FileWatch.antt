-- Whether an open file is still the one at its path.
use Rattle.std.specs.Prelude.{◌≡◌, ℕ, Option}
use Rattle.host_edge.specs.declared.file_watch.FileWatch.{FileWatch}
use Rattle.host_edge.specs.declared.file_watch.Loss.{Loss}
use Rattle.host_edge.specs.declared.file_watch.Seen.{Seen}

-- the length that this program left in the file, as far as it is known
abbrev pub length_of : FileWatch → Option ℕ
length_of watch = watch.length

-- how the file was lost, if it was
abbrev pub loss_of : FileWatch → Option Loss
loss_of watch = watch.loss

-- two names of the system are those of one file
pub record IsSameFile (here there : Seen) : Type 0 where
  pub device : here.device ≡ there.device
  pub inode : here.inode ≡ there.inode
