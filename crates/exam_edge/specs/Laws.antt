-- What the model of a disk implies where no sync fails.
use Rattle.std.specs.Prelude.{◌≡◌, ◌⊎◌, ℕ, List, [], ◌∷◌, length, take}
use Rattle.exam_edge.specs.Images.{Account, settled, written, cut_to, overwritten}
use Rattle.exam_edge.specs.Images.{latest, Grows, IsClean}
use Rattle.exam_edge.specs.Replay.{DiskState, after, fresh}
use Rattle.exam_edge.specs.declared.memory_disk.Call.{Call}
use Rattle.exam_edge.specs.declared.memory_disk.Call.TheVariants.{Wrote, LostWrite, Renewed}
use Rattle.exam_edge.specs.declared.memory_disk.Call.TheVariants.{CutAt, LostCut, Synced, LostSync}

-- none of these calls is a sync that failed
abbrev pub NoSyncFailed : List Call → Type 0
NoSyncFailed [] = Unit {0}
NoSyncFailed (LostSync ∷ calls) = ⊥
NoSyncFailed (Wrote at bytes ∷ calls) = NoSyncFailed calls
NoSyncFailed (LostWrite at n ∷ calls) = NoSyncFailed calls
NoSyncFailed (Renewed at n ∷ calls) = NoSyncFailed calls
NoSyncFailed (CutAt n ∷ calls) = NoSyncFailed calls
NoSyncFailed (LostCut n ∷ calls) = NoSyncFailed calls
NoSyncFailed (Synced ∷ calls) = NoSyncFailed calls

-- one call more in the model that knows no suspect places: each sync settles the file
abbrev pub plain_step : DiskState → Call → DiskState
plain_step state (Wrote at bytes) = record {
  content = overwritten state.content at bytes.items;
  account = written at (length bytes.items) state.account;
}
plain_step state (LostWrite at n) = record state { account = written at n state.account }
plain_step state (Renewed at n) = state
plain_step state (CutAt n) = record {
  content = take n state.content;
  account = cut_to n state.account;
}
plain_step state (LostCut n) = record state { account = cut_to n state.account }
plain_step state Synced = record state { account = settled state.content }
plain_step state LostSync = state

-- the file after the calls, in that model
abbrev pub after_plainly : DiskState → List Call → DiskState
after_plainly state [] = state
after_plainly state (call ∷ calls) = after_plainly (plain_step state call) calls

-- a disk in memory of which no sync failed is one of that model
abbrev pub PlainWhereNoSyncFailed : Type 0
PlainWhereNoSyncFailed = (bytes : List ℕ) (calls : List Call) → NoSyncFailed calls
    → after (fresh bytes) calls ≡ after_plainly (fresh bytes) calls

-- what a call other than a sync that fails may leave of any disk
abbrev pub IsDone : List Account → List Account → Type 0
IsDone old new = Grows (latest old) old new
    ⊎ ((at : ℕ) × (n : ℕ) × (Grows (written at n (latest old)) old new
    ⊎ Grows (cut_to n (latest old)) old new))

-- where nothing was suspect, nothing is after such a call: the next sync that succeeds settles the
-- file
abbrev pub CleanWhereNoSyncFailed : Type 0
CleanWhereNoSyncFailed = (old new : List Account) → IsClean (latest old) → IsDone old new
    → IsClean (latest new)
