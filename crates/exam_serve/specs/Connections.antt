-- What one connection does to the pass that it is served on, and to its link.
use Rattle.std.specs.Prelude.{◌≡◌, ℕ, Bool, true, false, ◌||◌, List, ◌++◌, Option, Result, IsTrue}
use Rattle.exam_edge.specs.Faults.{Rose}
use Rattle.exam_edge.specs.Lent.{IsLent}
use Rattle.history_model.specs.declared.refusal.Refusal.{Refusal}
use Rattle.history_model.specs.declared.request.Request.{Request}
use Rattle.history_model.specs.declared.request.Reply.{Reply}
use Rattle.exam_handler.specs.declared.health.Health.{Health}
use Rattle.exam_http.specs.declared.ended.Ended.{Ended}
use Rattle.exam_http.specs.declared.ended.Ended.TheVariants.{Done, BadInput, Link, Memory}
use Rattle.exam_http.specs.Serving.{IsServed, LeadsTo}
use Rattle.exam_hall.specs.Known.{CallerKnown, HasGrown, marked}
use Rattle.exam_hall.specs.Probes as hall
use Rattle.prepare_desk.specs.Posts.{Idles}
use Rattle.exam_hall.specs.Sees.{Sees}

-- what a request does to a caller: the reply is right for what its pass has seen then, its hall is
-- the same, and its pass has grown
abbrev pub Asks : CallerKnown → Request → Reply → CallerKnown → Type 0
Asks old request reply new =
    Sees old.hall (marked old.pass) (marked new.pass) request reply × (new.hall ≡ old.hall)
    × HasGrown old.pass new.pass

-- what a look at the health does to a caller: what is found is right for what its pass has seen
-- then, its hall is the same, and its pass has grown
abbrev pub Probes : CallerKnown → Result Health Refusal → CallerKnown → Type 0
Probes old found new =
    hall.Probes old.hall (marked old.pass) (marked new.pass) found × (new.hall ≡ old.hall)
    × HasGrown old.pass new.pass

-- what serves the connections of a door: a caller, and whether one of them ended for lack of memory
pub record AttendantKnown : Type 0 where
  pub caller : CallerKnown
  pub starved : Bool

-- whether a connection ended for lack of memory
abbrev pub is_starved : Ended → Bool
is_starved Done = false
is_starved (BadInput fault) = false
is_starved Link = false
is_starved Memory = true

module _ {K : Type 0} (token : Option (List ℕ)) (tells : K → Bool) (left written : K → List ℕ)
    (faults identity : K → ℕ) where
  -- a link that a caller served for a server with this token or none: requests and looks at the
  -- health led from the caller before to the caller after; if the link reports its bytes, they are
  -- those of the messages read, and what was written is the responses of their replies, in order. A
  -- connection ended by the link only where the link's count of faults rose; that it ended for lack
  -- of memory is kept
  pub record IsConnection (old : AttendantKnown) (link : K) (new : AttendantKnown)
      (back : K) : Type 0 where
    pub ended : Ended
    pub leads : LeadsTo Asks Probes Idles old.caller new.caller
    pub served : IsTrue (tells link) → (text : List ℕ) × (written back ≡ written link ++ text)
        × IsServed token Asks Probes Idles old.caller (left link) text new.caller ended
    pub starved : new.starved ≡ (old.starved || is_starved ended)
    pub failed : ended ≡ Link → Rose (faults link) (faults back)
    pub frame : IsLent tells identity faults link back

  -- such a link whose connection did not end for lack of memory
  pub record IsFedConnection (old : AttendantKnown) (link : K) (new : AttendantKnown)
      (back : K) : Type 0 where
    pub is_connection : IsConnection old link new back
    pub fed : is_connection.ended ≡ Memory → ⊥
