-- What a request does to a history, on one thread.
use Rattle.std.specs.Prelude.{◌≡◌, ◌⊎◌, ℕ, ◌<◌, Bool, true, false, List, [], ◌∷◌, ◌++◌, length, slice_get, Option, Some, None}
use Rattle.bank_tables.specs.Items.{has}
use Rattle.bank_tables.specs.Tables.{Tables, size}
use Rattle.form_model.specs.Plan.{Plan}
use Rattle.form_model.specs.Problem.{Problem}
use Rattle.form_model.specs.Forms.{Firm}
use Rattle.history_model.specs.declared.entry.Bands.{Bands}
use Rattle.history_model.specs.declared.entry.Cause.{Cause}
use Rattle.history_model.specs.declared.entry.Without.{Without}
use Rattle.history_model.specs.declared.entry.Entry.{Entry}
use Rattle.history_model.specs.declared.entry.Entry.TheVariants.{Started, SetAside, Served, Answered, Closed}
use Rattle.history_model.specs.declared.place.Place.{Place}
use Rattle.history_model.specs.declared.place.Place.TheVariants.{Pending}
use Rattle.history_model.specs.declared.refusal.Refusal.{Refusal}
use Rattle.history_model.specs.declared.request.Exposure.{Exposure}
use Rattle.history_model.specs.declared.request.Reply.{Reply}
use Rattle.history_model.specs.declared.request.Reply.TheVariants as reply
use Rattle.history_model.specs.declared.request.Request.{Request}
use Rattle.history_model.specs.declared.request.Request.TheVariants as request
use Rattle.history_model.specs.Counts.{counts, finished}
use Rattle.history_model.specs.Entries.{holder}
use Rattle.history_model.specs.Legality.{Legal}
use Rattle.history_model.specs.Lists.{LacksForm}
use Rattle.history_model.specs.Places.{place}
use Rattle.history_model.specs.Refusals.{recorded, refusal_of}
use Rattle.history_model.specs.SessionProblems.{IsProblemOf}

-- ---- the first entry of a request
-- the session of a booking: it is there, or it is started
pub data Begins (b : Tables) (plan : Plan) (H : List Entry) (booking : ℕ) : ℕ → Bool → List Entry
    → Type 0 where
  is_there : (session : ℕ) → holder H booking ≡ Some session
      → Begins b plan H booking session false H
  is_new : (session : ℕ) (eligible : Bands) → holder H booking ≡ None
      → Legal b plan H (Started session booking eligible None)
      → Begins b plan H booking session true (H ++ Started session booking eligible None ∷ [])

-- the session of a booking with a list: it is there, or it is started with that list
pub data BeginsWithout (b : Tables) (plan : Plan) (H : List Entry) (booking : ℕ)
    (items : List ℕ) : ℕ → Bool → List Entry → Type 0 where
  is_there : (session : ℕ) → holder H booking ≡ Some session
      → BeginsWithout b plan H booking items session false H
  is_new : (session : ℕ) (eligible : Bands) (list : Without) → holder H booking ≡ None
      → list.items ≡ items → Legal b plan H (Started session booking eligible (Some list))
      → BeginsWithout b plan H booking items session true
      (H ++ Started session booking eligible (Some list) ∷ [])

-- the answer to a step: it is recorded, or it is added
pub data RecordsAnswer (b : Tables) (plan : Plan) (H : List Entry)
    (session step response : ℕ) : List Entry → Type 0 where
  is_there : recorded H session step ≡ Some response
      → RecordsAnswer b plan H session step response H
  is_new : recorded H session step ≡ None → Legal b plan H (Answered session step response)
      → RecordsAnswer b plan H session step response (H ++ Answered session step response ∷ [])

-- a request for a session, with its first entry where it has one; the flag is true where that
-- starts the session
pub data Leads (b : Tables) (plan : Plan) (H : List Entry) : Request → ℕ → Bool → List Entry
    → Type 0 where
  by_begin : (booking session : ℕ) (fresh : Bool) (G : List Entry)
      → Begins b plan H booking session fresh G
      → Leads b plan H (request.Begin booking) session fresh G
  by_begin_without : (booking : ℕ) (items : List ℕ) (session : ℕ) (fresh : Bool) (G : List Entry)
      → BeginsWithout b plan H booking items session fresh G
      → Leads b plan H (request.BeginWithout booking items) session fresh G
  by_answer : (session step response : ℕ) (booking : Option ℕ) (G : List Entry)
      → RecordsAnswer b plan H session step response G
      → Leads b plan H (request.Answer session step response booking) session false G
  by_look : (session : ℕ) → Leads b plan H (request.Look session) session false H

-- ---- the item of a session that waits for one
-- an item is served from a form that no exchange of one item betters
pub record IsFirmServing (b : Tables) (plan : Plan) (H : List Entry) (session : ℕ)
    (entry : Entry) : Type 0 where
  pub step : ℕ
  pub item : ℕ
  pub form : List ℕ
  pub proved : Bool
  pub nodes : ℕ
  pub is : entry ≡ Served session step item form proved nodes
  pub legal : Legal b plan H entry
  pub problem : Problem
  pub is_problem : IsProblemOf b plan H session step problem
  pub firm : Firm problem (has form)

-- eligibility is set aside
pub record IsSettingAside (b : Tables) (plan : Plan) (H : List Entry) (session : ℕ)
    (entry : Entry) : Type 0 where
  pub step : ℕ
  pub band : ℕ
  pub cause : Cause
  pub nodes : ℕ
  pub is : entry ≡ SetAside session step band cause nodes
  pub legal : Legal b plan H entry

-- an item is served, perhaps after eligibility was set aside
pub data Serves (b : Tables) (plan : Plan) (H : List Entry) (session : ℕ) : List Entry
    → Type 0 where
  at_once : (entry : Entry) → IsFirmServing b plan H session entry
      → Serves b plan H session (H ++ entry ∷ [])
  after_setting_aside : (aside entry : Entry) → IsSettingAside b plan H session aside
      → IsFirmServing b plan (H ++ aside ∷ []) session entry
      → Serves b plan H session ((H ++ aside ∷ []) ++ entry ∷ [])

-- where the session waits for an item, one is served; else nothing is added
abbrev pub AdvancesFrom : Option Place → Tables → Plan → List Entry → ℕ → List Entry → Type 0
AdvancesFrom (Some (Pending step)) b plan H session H2 = Serves b plan H session H2
AdvancesFrom at b plan H session H2 = H2 ≡ H

abbrev pub Advances : Tables → Plan → List Entry → ℕ → List Entry → Type 0
Advances b plan H session H2 = AdvancesFrom (place plan H session) b plan H session H2

-- ---- a request that isn't refused
-- the session is served where it waits for an item, and the reply is its place after that
pub record IsServedBy (b : Tables) (plan : Plan) (H : List Entry) (request : Request)
    (H2 : List Entry) (answer : Reply) : Type 0 where
  pub session : ℕ
  pub fresh : Bool
  pub begun : List Entry
  pub leads : Leads b plan H request session fresh begun
  pub advances : Advances b plan begun session H2
  pub at : Place
  pub stands : place plan H2 session ≡ Some at
  pub reply : answer ≡ reply.At session at fresh

-- the session is closed, and the reply is its place after that
pub record IsClosedBy (b : Tables) (plan : Plan) (H : List Entry) (session : ℕ) (H2 : List Entry)
    (answer : Reply) : Type 0 where
  pub legal : Legal b plan H (Closed session)
  pub closed : H2 ≡ H ++ Closed session ∷ []
  pub at : Place
  pub stands : place plan H2 session ≡ Some at
  pub reply : answer ≡ reply.At session at false

-- no session is started for a booking that has none, since no form without the items is known
pub record IsNotBegun (b : Tables) (plan : Plan) (H : List Entry) (booking : ℕ) (items : List ℕ)
    (H2 : List Entry) (answer : Reply) : Type 0 where
  pub same : H2 ≡ H
  pub not_booked : holder H booking ≡ None
  pub why : Refusal
  pub lacks : LacksForm b plan (has items) why
  pub reply : answer ≡ reply.Refused why

-- the number of finished sessions, and the counts of each item of the bank
pub record IsExposureOf (b : Tables) (plan : Plan) (H : List Entry)
    (exposure : Exposure) : Type 0 where
  pub finished_is : exposure.finished ≡ finished plan H
  pub number : length exposure.rows ≡ size b
  pub each : (i : ℕ) → i < size b → slice_get exposure.rows i ≡ Some (counts b plan H i)

-- the reply is the exposure of the history, which stays as it is
pub record IsExposedBy (b : Tables) (plan : Plan) (H H2 : List Entry)
    (answer : Reply) : Type 0 where
  pub same : H2 ≡ H
  pub exposure : Exposure
  pub is_exposure : IsExposureOf b plan H exposure
  pub reply : answer ≡ reply.Exposure exposure

abbrev pub DoesUnrefused : Tables → Plan → List Entry → Request → List Entry → Reply → Type 0
DoesUnrefused b plan H (request.Close session booking) H2 answer = IsClosedBy b plan H session H2 answer
DoesUnrefused b plan H request.Exposure H2 answer = IsExposedBy b plan H H2 answer
DoesUnrefused b plan H (request.BeginWithout booking items) H2 answer =
    IsServedBy b plan H (request.BeginWithout booking items) H2 answer
    ⊎ IsNotBegun b plan H booking items H2 answer
DoesUnrefused b plan H asked H2 answer = IsServedBy b plan H asked H2 answer

-- a request that is refused does nothing
abbrev pub DoesUnless : Option Refusal → Tables → Plan → List Entry → Request → List Entry → Reply
    → Type 0
DoesUnless (Some refusal) b plan H asked H2 answer = (H2 ≡ H) × (answer ≡ reply.Refused refusal)
DoesUnless None b plan H asked H2 answer = DoesUnrefused b plan H asked H2 answer

-- the request leads from the history H to H2, with this reply
abbrev pub Does : Tables → Plan → List Entry → Request → List Entry → Reply → Type 0
Does b plan H asked H2 answer = DoesUnless (refusal_of b plan H asked) b plan H asked H2 answer
