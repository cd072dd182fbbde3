-- What a stream makes of the links of a door.
use Rattle.std.specs.Prelude.{◌≡◌, ◌⊎◌, ℕ, Bool, IsTrue, List, [], ◌∷◌, ◌++◌}
use Rattle.exam_edge.specs.Faults.{Rose}
use Rattle.exam_edge.specs.Lent.{IsLent}
use Rattle.exam_workers.specs.Stations.{ServesLinks}
use Rattle.journal_stream.specs.declared.door.Next.{Next}
use Rattle.journal_stream.specs.declared.door.Next.TheVariants.{GoesOn, Over}
use Rattle.record_doors.specs.Doors.{Gives}
use Rattle.record_doors.specs.declared.door_end.DoorEnd.{DoorEnd}
use Rattle.record_doors.specs.declared.door_end.DoorEnd.TheVariants.{NoLink, DoorFailed, Ended}
use Rattle.record_links.specs.Streaming.{IsGrown, IsLinkEnd, IsStreamed}
use Rattle.record_links.specs.declared.fault.PeerFault.TheVariants.{Cut}
use Rattle.record_links.specs.declared.followed.Followed.{Followed}
use Rattle.record_links.specs.declared.followed.Followed.TheVariants.{Link, Peer}

-- after a link that ended so the next one is taken: it failed, or the follower ended it
abbrev pub IsTriedAgain : Followed → Type 0
IsTriedAgain followed = (followed ≡ Link) ⊎ (followed ≡ Peer Cut)

-- what comes after a link that ended so
abbrev pub IsNextOf : Followed → Next → Type 0
IsNextOf followed GoesOn = IsTriedAgain followed
IsNextOf followed (Over end) = (end ≡ Ended followed) × (IsTriedAgain followed → ⊥)

-- a log of these records, which became those, was streamed over a link, and it ended so. If the
-- records and the link are reported, what was written are the offers that answer the haves, each of
-- a record that was there when it was sent
module _ {K : Type 0} (tells : K → Bool) (left written : K → List ℕ)
    (faults identity : K → ℕ) where
  pub record IsStreamedLink (told : Bool) (followed : Followed) (start : List (List ℕ)) (link : K)
      (final : List (List ℕ)) (back : K) : Type 0 where
    pub streamed : IsTrue told → IsTrue (tells link) → (text : List ℕ)
        × (written back ≡ written link ++ text)
        × IsStreamed start final (left link) text followed
    pub grown : IsTrue told → IsGrown start final
    pub ends : IsLinkEnd followed
    pub failed : followed ≡ Link → Rose (faults link) (faults back)
    pub frame : IsLent tells identity faults link back

module _ {D K : Type 0} (tells : D → Bool) (coming returned : D → List K) (is_out : D → Bool)
    (faults identity : D → ℕ) (link_tells : K → Bool) (left written : K → List ℕ)
    (link_faults link_identity : K → ℕ) (told : Bool) where
  -- one link was streamed over, and the next one is taken after it
  abbrev pub IsPassed : List (List ℕ) → K → List (List ℕ) → K → Type 0
  IsPassed start link final back =
      (followed : Followed) × IsTriedAgain followed
      × IsStreamedLink link_tells left written link_faults link_identity told followed start link
      final back

  -- after such links: the door gave no other; or one more link ended in another way
  abbrev pub StopsAt : List (List ℕ) → D → List K → List K → D → List (List ℕ) → DoorEnd → Type 0
  StopsAt held old given back new final NoLink =
      (final ≡ held) × Gives tells coming returned is_out faults identity old new given back
      × (IsTrue (tells old) → coming new ≡ [])
  StopsAt held old given back new final DoorFailed = ⊥
  StopsAt held old given back new final (Ended followed) =
      (link after : K)
      × Gives tells coming returned is_out faults identity old new (given ++ link ∷ [])
      (back ++ after ∷ [])
      × IsStreamedLink link_tells left written link_faults link_identity told followed held link
      final after
      × (IsTriedAgain followed → ⊥)

  -- the door gave no link now, or one that is passed; or the work at the door ended so
  abbrev pub Continues : List (List ℕ) → D → D → List (List ℕ) → Next → Type 0
  Continues held old new final GoesOn =
      ((final ≡ held) × Gives tells coming returned is_out faults identity old new [] [])
      ⊎ ((link after : K)
      × Gives tells coming returned is_out faults identity old new (link ∷ []) (after ∷ [])
      × IsPassed held link final after)
  Continues held old new final (Over end) = StopsAt held old [] [] new final end

  -- a log of these records was streamed over the links of a door, one after another, until it ended
  -- so
  pub record IsStreamedDoor (start : List (List ℕ)) (old new : D) (final : List (List ℕ))
      (end : DoorEnd) : Type 0 where
    pub given : List K
    pub back : List K
    pub held : List (List ℕ)
    pub passed : ServesLinks IsPassed start given back held
    pub stops : StopsAt held old given back new final end
