-- What becomes of a door whose links are followed, or of which one is shipped to.
use Rattle.std.specs.Prelude.{◌≡◌, ◌≢◌, ℕ, Bool, false, IsTrue, List, [], ◌∷◌, ◌++◌}
use Rattle.exam_edge.specs.Faults.{Rose}
use Rattle.exam_edge.specs.Lent.{IsLent}
use Rattle.exam_workers.specs.Stations.{ServesLinks}
use Rattle.record_doors.specs.declared.door_end.DoorEnd.{DoorEnd}
use Rattle.record_doors.specs.declared.door_end.DoorEnd.TheVariants.{NoLink, DoorFailed, Ended}
use Rattle.record_doors.specs.declared.door_end.Next.{Next}
use Rattle.record_doors.specs.declared.door_end.Next.TheVariants.{GoesOn, Over}
use Rattle.record_doors.specs.Links.{IsFollowedLink, IsShippedLink}
use Rattle.record_links.specs.declared.followed.Followed.{Followed}
use Rattle.record_links.specs.declared.followed.Followed.TheVariants.{Done}
use Rattle.record_links.specs.Replicas.{Held}

-- the next link comes after one that ended well, and none after any other
abbrev pub IsNextOf : Followed → Next → Type 0
IsNextOf followed GoesOn = (count : ℕ) × (followed ≡ Done count)
IsNextOf followed (Over end) =
    (end ≡ Ended followed) × ((count : ℕ) → followed ≢ Done count)

module _ {D K : Type 0} (tells : D → Bool) (coming returned : D → List K) (is_out : D → Bool)
    (faults identity : D → ℕ) where
  -- these links came from the door, in order, and went back to it as they were then; it is the same
  -- door, with no link out
  pub record Gives (old new : D) (given back : List K) : Type 0 where
    pub came : IsTrue (tells old) → coming old ≡ given ++ coming new
    pub went : IsTrue (tells old) → returned new ≡ returned old ++ back
    pub lent : IsLent tells identity faults old new
    pub home : is_out new ≡ false

  -- this link, which was out, went back to the door as it is here
  pub record TakesBack (old new : D) (back : K) : Type 0 where
    pub went : IsTrue (tells old) → returned new ≡ returned old ++ back ∷ []
    pub came : IsTrue (tells old) → coming new ≡ coming old
    pub lent : IsLent tells identity faults old new
    pub home : is_out new ≡ false

  module _ (link_tells : K → Bool) (left written : K → List ℕ) (link_faults link_identity : K → ℕ)
    where
      -- one link was followed and ended well
      abbrev pub IsDone : (List (List ℕ) → List ℕ → Type 0) → (List (List ℕ) → ℕ) → ℕ → Held → K
          → Held → K → Type 0
      IsDone may size limit old link new back =
          (count : ℕ) × IsFollowedLink link_tells left written link_faults link_identity may size
          limit (Done count) old link new back

      -- after links that each ended well: the door gave no other, or failed; or one more link ended
      -- in another way
      abbrev pub StopsAt : (List (List ℕ) → List ℕ → Type 0) → (List (List ℕ) → ℕ) → ℕ → Held → D
          → List K → List K → D → Held → DoorEnd → Type 0
      StopsAt may size limit held old given back new final NoLink =
          (final ≡ held) × Gives old new given back × (IsTrue (tells old) → coming new ≡ [])
      StopsAt may size limit held old given back new final DoorFailed =
          (final ≡ held) × Gives old new given back × Rose (faults old) (faults new)
      StopsAt may size limit held old given back new final (Ended followed) =
          (link after : K) × Gives old new (given ++ link ∷ []) (back ++ after ∷ [])
          × IsFollowedLink link_tells left written link_faults link_identity may size limit followed
          held link final after
          × ((count : ℕ) → followed ≢ Done count)

      -- one more link was followed and ended well; or the work at the door ended so
      abbrev pub Continues : (List (List ℕ) → List ℕ → Type 0) → (List (List ℕ) → ℕ) → ℕ → Held → D
          → D → Held → Next → Type 0
      Continues may size limit held old new final GoesOn =
          (link after : K) × Gives old new (link ∷ []) (after ∷ [])
          × IsDone may size limit held link final after
      Continues may size limit held old new final (Over end) =
          StopsAt may size limit held old [] [] new final end

      -- the links of a door were followed by a replica of this rule, one after another, from these
      -- records to those, until it ended so
      pub record IsFollowedDoor (may : List (List ℕ) → List ℕ → Type 0) (size : List (List ℕ) → ℕ)
          (limit : ℕ) (start : Held) (old new : D) (final : Held) (end : DoorEnd) : Type 0 where
        pub given : List K
        pub back : List K
        pub held : Held
        pub served : ServesLinks (IsDone may size limit) start given back held
        pub stops : StopsAt may size limit held old given back new final end

      -- one link of a door was shipped to, and ended so; or the door gave none, or failed
      abbrev pub IsShippedDoor : Bool → List (List ℕ) → D → D → DoorEnd → Type 0
      IsShippedDoor told records old new NoLink =
          Gives old new [] [] × (IsTrue (tells old) → coming new ≡ [])
      IsShippedDoor told records old new DoorFailed =
          Gives old new [] [] × Rose (faults old) (faults new)
      IsShippedDoor told records old new (Ended followed) =
          (link after : K) × Gives old new (link ∷ []) (after ∷ [])
          × IsShippedLink link_tells left written link_faults link_identity told records followed
          link after

-- this became of the first of these doors, and nothing of the others; or there is none
abbrev pub IsFirstOnly : {D : Type 0} → (D → D → Type 0) → Type 0 → List D → List D → Type 0
IsFirstOnly P none [] back = (back ≡ []) × none
IsFirstOnly {D} P none (door ∷ doors) back = (after : D) × (back ≡ after ∷ doors) × P door after
