-- What a follower and a shipper make of one link of a door.
use Rattle.std.specs.Prelude.{◌≡◌, ◌≢◌, ℕ, Bool, IsTrue, List, ◌++◌, length}
use Rattle.exam_edge.specs.Faults.{Rose}
use Rattle.exam_edge.specs.Lent.{IsLent}
use Rattle.record_links.specs.declared.followed.Followed.{Followed}
use Rattle.record_links.specs.declared.followed.Followed.TheVariants.{Done, Link, Lost}
use Rattle.record_links.specs.Following.{IsMoved, IsFollowed}
use Rattle.record_links.specs.Replicas.{Held}
use Rattle.record_links.specs.Shipping.{IsShipped, IsShipperEnd}

module _ {K : Type 0} (tells : K → Bool) (left written : K → List ℕ)
    (faults identity : K → ℕ) where
  -- a link was followed by a replica of this rule, size and limit, and ended so: offers were taken
  -- in their order; if the link reports its bytes, they are those of the offers, and the haves
  -- after them were written. By the link it ended only where the link's count of faults rose
  pub record IsFollowedLink (may : List (List ℕ) → List ℕ → Type 0) (size : List (List ℕ) → ℕ)
      (limit : ℕ) (followed : Followed) (old : Held) (link : K) (new : Held)
      (back : K) : Type 0 where
    pub moved : IsMoved may size limit old new followed
    pub served : IsTrue (tells link) → (text : List ℕ) × (written back ≡ written link ++ text)
        × IsFollowed may size limit old (left link) text new followed
    pub failed : followed ≡ Link → Rose (faults link) (faults back)
    pub frame : IsLent tells identity faults link back

  -- records were shipped over a link, and it ended so. Done, it has all of them. If the records and
  -- the link are reported, the offers of the records that were asked for were written. It took no
  -- offer, so none ended it
  pub record IsShippedLink (told : Bool) (records : List (List ℕ)) (followed : Followed)
      (link back : K) : Type 0 where
    pub ends : IsShipperEnd followed
    pub done : (count : ℕ) → followed ≡ Done count → count ≡ length records
    pub shipped : IsTrue told → IsTrue (tells link) → (text : List ℕ)
        × (written back ≡ written link ++ text) × IsShipped records (left link) text followed
    pub lost : IsTrue told → (number : ℕ) → followed ≢ Lost number
    pub failed : followed ≡ Link → Rose (faults link) (faults back)
    pub frame : IsLent tells identity faults link back
