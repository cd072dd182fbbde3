-- What links must allow so that callers of a hall may serve them.
use Rattle.std.specs.Prelude.{◌≡◌, ℕ, Bool, List, length, Contains, Option, IsTrue}
use Rattle.turn_lock.specs.Histories.{StartsWith}
use Rattle.exam_http.specs.Serving.{AllowsServed}
use Rattle.exam_office.specs.declared.mark.Mark.{Mark}
use Rattle.exam_office.specs.Noting.{OpenedWith, noted}
use Rattle.exam_hall.specs.Known.{CallerKnown, IsOfficeOf}
use Rattle.prepare_desk.specs.Posts.{Idles}
use Rattle.exam_serve.specs.Connections.{Asks, Probes}

-- a caller of a hall of this office: the hall was made when the office had these marks, and what
-- the caller's pass has seen begins with them, each noted with what this office was opened with
pub record IsCallerOf (office : OpenedWith) (opened : List Mark)
    (caller : CallerKnown) : Type 0 where
  pub hall : IsOfficeOf office caller.hall
  pub start : caller.pass.start ≡ length opened
  pub begins : StartsWith caller.pass.seen (noted office opened)

module _ {K : Type 0} (token : Option (List ℕ)) (tells : K → Bool) (left written : K → List ℕ)
    (allows : K → List ℕ → Type 0) where
  -- if the link reports its bytes, it allows whatever the caller may have written when the link
  -- cuts it off, at any byte: the responses to the first messages that come, in order, each right
  -- for marks that the caller's pass has seen then, and a beginning of the next response
  abbrev pub IsFairLink : CallerKnown → K → Type 0
  IsFairLink caller link = IsTrue (tells link)
      → AllowsServed token Asks Probes Idles (allows link) caller (left link) (written link)

  -- each link that one of the doors may give is fair for each of these callers
  abbrev pub AreFairDoors : {D : Type 0} → (D → Bool) → (D → List K) → (CallerKnown → Type 0)
      → List D → Type 0
  AreFairDoors {D} door_tells coming callers doors =
      (door : D) (link : K) (caller : CallerKnown) → Contains doors door
      → (IsTrue (door_tells door) → Contains (coming door) link)
      → callers caller → IsFairLink caller link
