-- How the passes of stations are joined.
use Rattle.std.specs.Prelude.{◌≡◌, ℕ, ◌≤◌, Bool, List, ◌++◌, length, map}
use Rattle.std.specs.List.{All, AllPairs, Contains, list_any}
use mathlib.Core.List.{reverse}
use Rattle.turn_lock.specs.Histories.{StartsWith, AreDisjoint}
use Rattle.turn_lock.specs.Passes.{Known}
use Rattle.exam_workers.specs.declared.Station.{Station}
use Rattle.exam_office.specs.Noting.{NotedMark}
use Rattle.exam_serve.specs.Connections.{AttendantKnown}
use Rattle.exam_serve.specs.Doors.{IsOwnPlace, door_of, seen_of, own_of, has_failed, has_starved}

-- the passes of these stations were joined into one pass: it has seen what each of them saw, and
-- has their own marks, no two of which are the same, and no others. It counts each of them
pub record AreJoined {D K : Type 0} (pass : Known NotedMark)
    (stations : List (Station D AttendantKnown K)) : Type 0 where
  pub seen : All (λ station. StartsWith pass.seen (seen_of station)) stations
  pub own : All (λ station. (k : ℕ) → Contains (own_of station) k → Contains pass.mine k) stations
  pub apart : AllPairs AreDisjoint (map own_of stations)
  pub none_else : (k : ℕ) → Contains pass.mine k → IsOwnPlace stations k
  pub count : length stations ≤ pass.joined

-- what joins leave of a pass
pub record IsSamePass (old new : Known NotedMark) : Type 0 where
  pub number : new.number ≡ old.number
  pub splits : new.splits ≡ old.splits
  pub start : new.start ≡ old.start

-- of all stations these are left; the doors of the others are back, the last station's first, and
-- their passes joined
pub record AreCleared {D K : Type 0} (pass : Known NotedMark)
    (all left : List (Station D AttendantKnown K)) (doors : List D) (failed starved : Bool) : Type 0 where
  pub done : List (Station D AttendantKnown K)
  pub order : reverse all ≡ done ++ reverse left
  pub doors_are : doors ≡ map door_of done
  pub joined : AreJoined pass done
  pub failed_is : failed ≡ list_any has_failed done
  pub starved_is : starved ≡ list_any has_starved done
