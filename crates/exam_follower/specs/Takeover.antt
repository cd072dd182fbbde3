-- What a takeover keeps of the leader's records.
use Rattle.std.specs.Prelude.{◌≡◌, ℕ, ◌<◌, List, map, slice_get}
use Rattle.std.specs.List.{AllByRecursion}
use Rattle.history_model.specs.declared.entry.Entry.{Entry}
use Rattle.history_model.specs.Judging.{Record, entries_of}
use Rattle.exam_records.specs.Shape.{IsRecord}
use Rattle.exam_records.specs.Spelling.{payload_of}
use Rattle.record_links.specs.World.{World, IsStart, HappensAlong}
use Rattle.exam_follower.specs.Followers.{FollowerState, records_of, may_follow, lasting_rule}

-- whatever happened by a rule to a leader and a follower that has these records, where the leader's
-- records spell those: the entry of each that is numbered below a have that the follower answered
-- is in the history, at that number
abbrev pub KeepsAnswered : (List (List ℕ) → List ℕ → Type 0) → List (List ℕ) → List Entry → Type 0
KeepsAnswered may held H =
    (start w : World (List ℕ)) → IsStart start → HappensAlong may start w → w.follower ≡ held
    → (records : List Record) → AllByRecursion IsRecord records → w.leader ≡ map payload_of records
    → (k : ℕ) → k < w.most → slice_get H k ≡ slice_get (entries_of records) k

-- since the follower was opened
abbrev pub IsKeptByTakeover : {D : Type 0} → FollowerState D → List Entry → Type 0
IsKeptByTakeover f H = KeepsAnswered (may_follow f) (records_of f) H

-- over all openings since its file was a beginning of the leader's
abbrev pub IsKeptOverOpenings : {D : Type 0} → FollowerState D → List Entry → Type 0
IsKeptOverOpenings f H = KeepsAnswered (lasting_rule f) (records_of f) H
