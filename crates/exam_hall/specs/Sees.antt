-- What one request on a shared hall does, by what its pass has seen before and after.
use Rattle.std.specs.Prelude.{◌≡◌, ◌⊎◌, ⊤, ℕ, ◌≤◌, Bool, List, [], ◌∷◌, ◌++◌, length, Contains, Some}
use Rattle.std.specs.List.{list_any}
use Rattle.bank_tables.specs.Tables.{Tables}
use Rattle.form_model.specs.Plan.{Plan}
use Rattle.turn_lock.specs.Passes.{Known}
use Rattle.history_model.specs.declared.entry.Entry.{Entry}
use Rattle.history_model.specs.declared.entry.Entry.TheVariants.{Closed}
use Rattle.history_model.specs.declared.place.Place.{Place}
use Rattle.history_model.specs.declared.place.Place.TheVariants.{Pending}
use Rattle.history_model.specs.declared.request.Exposure.{Exposure}
use Rattle.history_model.specs.declared.request.Request.{Request}
use Rattle.history_model.specs.declared.request.Request.TheVariants as request
use Rattle.history_model.specs.declared.request.Reply.{Reply}
use Rattle.history_model.specs.declared.request.Reply.TheVariants as reply
use Rattle.history_model.specs.Entries.{starts}
use Rattle.history_model.specs.Legality.{LegalRun}
use Rattle.history_model.specs.Places.{place}
use Rattle.history_model.specs.Requests.{IsExposureOf}
use Rattle.exam_office.specs.declared.mark.Mark.{Mark}
use Rattle.exam_office.specs.Marks.{history}
use Rattle.exam_hall.specs.Known.{HallKnown}
use Rattle.exam_hall.specs.Went.{Went, taken}
use Rattle.exam_hall.specs.Good.{AreGoodAt}
use Rattle.exam_hall.specs.Parts.{owns, NoFault, IsSessionOf, IsAnswered, IsPartOf, IsUnfinished, IsWanted, IsRefusedBy, IsNotBegunBy, Fails, MovedOn}

-- a closing added its entry
abbrev pub HasClosed : Request → List Entry → Type 0
HasClosed (request.Close session booking) E = Contains E (Closed session)
HasClosed q E = ⊤

-- the session of the request is at this place after the marks S, of which T are those that this
-- call added; `fresh` is true exactly where the call started the session
pub record IsAt (plan : Plan) (q : Request) (S T : List Mark) (session : ℕ) (at : Place)
    (fresh : Bool) : Type 0 where
  pub session_is : IsSessionOf (history S) q session
  pub stands : place plan (history S) session ≡ Some at
  pub answered : IsAnswered (history S) q
  pub fresh_is : fresh ≡ list_any starts (owns T)
  pub closed : HasClosed q (owns T)
  pub no_fault : NoFault T

-- the counts are those of the history; nothing was added
pub record IsExposed (b : Tables) (plan : Plan) (q : Request) (S T : List Mark)
    (exposure : Exposure) : Type 0 where
  pub asked : q ≡ request.Exposure
  pub is_exposure : IsExposureOf b plan (history S) exposure
  pub none : owns T ≡ []
  pub no_fault : NoFault T

-- what the reply tells: F is what the pass had seen after the call's first turn, S what it has seen
-- now, T the marks that the call added, `later` the places of those after the first turn. A session
-- still waits for an item only where others moved it on
abbrev pub Tells : Tables → Plan → Request → List Mark → List Mark → List Mark → List ℕ → Reply
    → Type 0
Tells b plan q F S T later (reply.At session at fresh) =
    IsAt plan q S T session at fresh × ((step : ℕ) → at ≡ Pending step → MovedOn session F S later)
Tells b plan q F S T later (reply.Exposure exposure) = IsExposed b plan q S T exposure
Tells b plan q F S T later (reply.Refused r) =
    IsRefusedBy b plan q S T r ⊎ (IsNotBegunBy b plan q S T r
    ⊎ (Fails b plan (IsWanted (history S) q) S T r × IsUnfinished b plan F S q (owns T)))

-- the call made one turn, after which its pass was `mid`, and at most two more; `early` and `later`
-- are the places of the marks that it added, whose servings are good. The whole history is a legal
-- run
pub record Sees (h : HallKnown) (old new : Known Mark) (q : Request) (answer : Reply) : Type 0 where
  pub mid : Known Mark
  pub early : List ℕ
  pub later : List ℕ
  pub fronts : List ℕ
  pub first : Went old mid (length mid.seen ∷ []) early
  pub more : Went mid new fronts later
  pub few : length fronts ≤ 2
  pub legal : LegalRun h.bank h.plan (history new.seen)
  pub part : IsPartOf (history new.seen) q (owns (taken new.seen (early ++ later)))
  pub good : AreGoodAt h.bank h.plan h.base new.seen (early ++ later)
  pub tells : Tells h.bank h.plan q mid.seen new.seen (taken new.seen (early ++ later)) later answer
