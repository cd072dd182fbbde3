-- What becomes of doors whose links are served on passes of one hall.
use Rattle.std.specs.Prelude.{◌≡◌, ℕ, ◌<◌, ◌≤◌, Bool, true, false, List, [], length, map, slice_get, Option, Some, IsTrue, Contains}
use Rattle.std.specs.List.{All, AllZip, AllPairs, list_any}
use Rattle.exam_edge.specs.Faults.{Rose}
use Rattle.exam_edge.specs.Lent.{IsLent}
use Rattle.turn_lock.specs.Histories.{StartsWith, AreDisjoint}
use Rattle.turn_lock.specs.Passes.{new_pass}
use Rattle.exam_workers.specs.declared.Station.{Station}
use Rattle.exam_workers.specs.Stations.{Serves, Ends}
use Rattle.exam_office.specs.Noting.{NotedMark}
use Rattle.exam_hall.specs.Known.{HallKnown, HasOpening}
use Rattle.exam_serve.specs.declared.serve.End.{End}
use Rattle.exam_serve.specs.declared.serve.End.TheVariants.{Done, Starved, DoorFailed}
use Rattle.exam_serve.specs.Connections.{AttendantKnown, IsConnection, IsFedConnection}

-- each door is the same object, reports its links exactly if it did before, has counted no fewer
-- faults, and has no link out
abbrev pub AreLent : {D : Type 0} → (D → Bool) → (D → ℕ) → (D → ℕ) → (D → Bool) → List D → List D
    → Type 0
AreLent tells identity faults is_out doors back =
    AllZip (λ door after. IsLent tells identity faults door after
    × (is_out after ≡ false)) doors back

-- a door's count of faults rose
pub record HasFailedDoor {D : Type 0} (faults : D → ℕ) (doors back : List D) : Type 0 where
  pub place : ℕ
  pub before : D
  pub after : D
  pub was : slice_get doors place ≡ Some before
  pub is : slice_get back place ≡ Some after
  pub rose : Rose (faults before) (faults after)

-- how the work ended, by whether a door failed, and whether a connection ended for lack of memory
abbrev pub end_of : Bool → Bool → End
end_of true starved = DoorFailed
end_of false true = Starved
end_of false false = Done

-- if the door reports its links, none is left
abbrev pub HasNone : {D K : Type 0} → (D → Bool) → (D → List K) → D → Type 0
HasNone tells coming door = IsTrue (tells door) → coming door ≡ []

module _ {D K : Type 0} where
  abbrev pub door_of : Station D AttendantKnown K → D
  door_of station = station.door

  -- the marks that the station's pass has seen
  abbrev pub seen_of : Station D AttendantKnown K → List NotedMark
  seen_of station = station.token.caller.pass.seen

  -- the places of the marks that are the pass's own
  abbrev pub own_of : Station D AttendantKnown K → List ℕ
  own_of station = station.token.caller.pass.mine

  -- the place is that of a mark of one station's own
  abbrev pub IsOwnPlace : List (Station D AttendantKnown K) → ℕ → Type 0
  IsOwnPlace stations place = (station : Station D AttendantKnown K)
      × Contains stations station × Contains (own_of station) place

  abbrev pub has_failed : Station D AttendantKnown K → Bool
  has_failed station = station.failed

  abbrev pub has_starved : Station D AttendantKnown K → Bool
  has_starved station = station.token.starved

  -- the station has a new pass of the hall, and its door no link out
  pub record IsNewStation (is_out : D → Bool) (hall : HallKnown) (opened : List NotedMark)
      (station : Station D AttendantKnown K) : Type 0 where
    pub number : ℕ
    pub token : station.token ≡ record {
      caller = record { hall = hall; pass = new_pass hall.lock number (length opened) opened };
      starved = false;
    }
    pub home : is_out station.door ≡ false

module _ {D K : Type 0} (token : Option (List ℕ)) (tells : D → Bool) (coming returned : D → List K)
    (is_out : D → Bool) (faults identity : D → ℕ)
    (link_tells : K → Bool) (left written : K → List ℕ) (link_faults link_identity : K → ℕ) where
  -- a station before and after its work, of a server with this token or none. It began with a new
  -- pass of the hall. Each link that its door gave was served, in order, on this one pass, and then
  -- went back to the door. It ended where the door failed, or gave no more
  pub record IsWorked (hall : HallKnown) (opened : List NotedMark)
      (before after : Station D AttendantKnown K) : Type 0 where
    pub made : IsNewStation is_out hall opened before
    pub serves : Serves tells coming returned is_out faults identity
        (IsConnection token link_tells left written link_faults link_identity) before after
    pub ends : Ends tells coming faults before after
    pub same_hall : after.token.caller.hall ≡ hall

  -- the work of a hall, whose office had the marks `opened` at first and has the marks `closed` in
  -- the end; the hall has the bank, the plan and the base form of that office. There was one
  -- station for each door, in order. The marks that a pass saw are a beginning of those in the end,
  -- which begin with those at first; no mark is the own of two passes, and each mark that was added
  -- is the own of one. How it ended, by whether a door failed and whether a connection ended for
  -- lack of memory
  pub record AreServed (opened closed : List NotedMark) (doors back : List D)
      (end : End) : Type 0 where
    pub hall : HallKnown
    pub is_of : HasOpening opened hall
    pub before : List (Station D AttendantKnown K)
    pub after : List (Station D AttendantKnown K)
    pub doors_are : map door_of before ≡ doors
    pub back_are : map door_of after ≡ back
    pub worked : AllZip (IsWorked hall opened) before after
    pub seen : All (λ station. StartsWith closed (seen_of station)) after
    pub apart : AllPairs AreDisjoint (map own_of after)
    pub covers : (place : ℕ) → length opened ≤ place → place < length closed → IsOwnPlace after place
    pub end_is : end ≡ end_of (list_any has_failed after) (list_any has_starved after)
    pub grows : StartsWith closed opened

  -- the links of the doors were served by stations, one for each door, in order, and no connection
  -- ended for lack of memory
  pub record AreFed (doors back : List D) : Type 0 where
    pub before : List (Station D AttendantKnown K)
    pub after : List (Station D AttendantKnown K)
    pub doors_are : map door_of before ≡ doors
    pub back_are : map door_of after ≡ back
    pub fed : AllZip (Serves tells coming returned is_out faults identity
        (IsFedConnection token link_tells left written link_faults link_identity)) before after
