-- What is left of a door, however the work at it ended.
use Rattle.std.proofs.Common.{◌≡◌, ℕ, Bool, false, List}
use Rattle.exam_edge.specs.Faults.{Rose}
use Rattle.exam_edge.specs.Lent.{IsLent}
use Rattle.record_doors.specs.declared.door_end.DoorEnd.{DoorEnd}
use Rattle.record_doors.specs.declared.door_end.DoorEnd.TheVariants.{NoLink, DoorFailed, Ended}
use Rattle.record_doors.specs.Doors.{IsFollowedDoor, IsShippedDoor, StopsAt}
use Rattle.record_links.specs.Replicas.{Held}

module _ {D K : Type 0} (tells : D → Bool) (coming returned : D → List K) (is_out : D → Bool) (faults identity : D → ℕ)
    (link_tells : K → Bool) (left written : K → List ℕ) (link_faults link_identity : K → ℕ) where
  abbrev IsLeft : D → D → DoorEnd → Type 0
  IsLeft old new end = (IsLent tells identity faults old new × (is_out new ≡ false)) × (end ≡ DoorFailed → Rose (faults old) (faults new))

  stopped : (may : List (List ℕ) → List ℕ → Type 0) (size : List (List ℕ) → ℕ) (limit : ℕ) (held : Held) (old : D) (given back : List K) (new : D) (final : Held) (end : DoorEnd)
      → StopsAt tells coming returned is_out faults identity link_tells left written link_faults link_identity may size limit held old given back new final end
      → IsLeft old new end
  stopped may size limit held old given back new final NoLink w = ((w.1.lent, w.1.home), λ e. absurd (let f : NoLink ≡ DoorFailed = e in cc))
  stopped may size limit held old given back new final DoorFailed w = ((w.1.lent, w.1.home), λ e. w.2)
  stopped may size limit held old given back new final (Ended followed) w = ((w.2.lent, w.2.home), λ e. absurd (let f : Ended followed ≡ DoorFailed = e in cc))

  pub followed_left : (may : List (List ℕ) → List ℕ → Type 0) (size : List (List ℕ) → ℕ) (limit : ℕ) (start : Held) (old new : D) (final : Held) (end : DoorEnd)
      → IsFollowedDoor tells coming returned is_out faults identity link_tells left written link_faults link_identity may size limit start old new final end
      → IsLeft old new end
  followed_left may size limit start old new final end w = stopped may size limit w.held old w.given w.back new final end w.stops

  pub shipped_left : (told : Bool) (records : List (List ℕ)) (old new : D) (end : DoorEnd)
      → IsShippedDoor tells coming returned is_out faults identity link_tells left written link_faults link_identity told records old new end
      → IsLeft old new end
  shipped_left told records old new NoLink w = ((w.0.lent, w.0.home), λ e. absurd (let f : NoLink ≡ DoorFailed = e in cc))
  shipped_left told records old new DoorFailed w = ((w.0.lent, w.0.home), λ e. w.1)
  shipped_left told records old new (Ended followed) w = ((w.2.lent, w.2.home), λ e. absurd (let f : Ended followed ≡ DoorFailed = e in cc))
