-- Which entries may follow a history.
use Rattle.std.specs.Prelude.{◌≡◌, ℕ, ◌<◌, Bool, List, [], ◌∷◌, ◌++◌, IsTrue, IsFalse, Option, Some, None}
use Rattle.bank_tables.specs.Items.{Set, has}
use Rattle.bank_tables.specs.Tables.{Tables, categories}
use Rattle.history_model.specs.declared.entry.Bands.{Bands}
use Rattle.history_model.specs.declared.entry.Cause.{Cause}
use Rattle.history_model.specs.declared.entry.Cause.TheVariants.{NoForm, Spent}
use Rattle.history_model.specs.declared.entry.Entry.{Entry}
use Rattle.history_model.specs.declared.entry.Without.{Without}
use Rattle.history_model.specs.declared.entry.Entry.TheVariants.{Started, SetAside, Served, Answered, Closed}
use Rattle.history_model.specs.declared.place.Place.{Place}
use Rattle.history_model.specs.declared.place.Place.TheVariants.{Pending, Waiting}
use Rattle.form_model.specs.Plan.{Plan, band_of}
use Rattle.form_model.specs.Problem.{Problem}
use Rattle.form_model.specs.Forms.{Form, Best, HasNoForm}
use Rattle.serving_model.specs.Serving.{IsNext}
use Rattle.history_model.specs.Entries.{sessions, holder}
use Rattle.history_model.specs.Places.{place}
use Rattle.history_model.specs.Draws.{AreDrawn}
use Rattle.history_model.specs.SessionProblems.{IsProblemOf}
use Rattle.history_model.specs.Lists.{IsLegalWithout}

-- the number that the next session has, below the plan's limit
pub record IsNextNumber (plan : Plan) (H : List Entry) (session : ℕ) : Type 0 where
  pub next : session ≡ sessions H
  pub within : session < plan.sessions

-- a session starts with the next number, for a booking that has none, with its draw in each band,
-- and with a list of items that its examinee must not get, or without one
pub record IsLegalStart (b : Tables) (plan : Plan) (H : List Entry) (session booking : ℕ)
    (eligible : Bands) (without : Option Without) : Type 0 where
  pub number : IsNextNumber plan H session
  pub not_booked : holder H booking ≡ None
  pub drawn : AreDrawn b plan H session eligible
  pub listed : IsLegalWithout b plan without

-- why eligibility may be set aside: no set is a form, or the node budget was spent
abbrev pub IsLegalCause : Plan → Problem → Cause → ℕ → Type 0
IsLegalCause plan P NoForm nodes = HasNoForm P
IsLegalCause plan P Spent nodes = nodes ≡ plan.budget

-- eligibility is set aside once in a band, which is that of the estimate, before an item is served
pub record IsLegalAside (b : Tables) (plan : Plan) (H : List Entry) (session step band : ℕ)
    (cause : Cause) (nodes : ℕ) : Type 0 where
  pub problem : Problem
  pub is_problem : IsProblemOf b plan H session step problem
  pub band_is : band ≡ band_of plan problem.theta
  pub not_aside : IsFalse problem.aside
  pub cause_holds : IsLegalCause plan problem cause nodes

-- an item is served by the serving rule from a form, which is best if it is marked proved; else the
-- node budget was spent
pub record IsLegalServing (b : Tables) (plan : Plan) (H : List Entry) (session step item : ℕ)
    (form : Set) (proved : Bool) (nodes : ℕ) : Type 0 where
  pub problem : Problem
  pub is_problem : IsProblemOf b plan H session step problem
  pub is_form : Form problem form
  pub next : IsNext problem form item
  pub best : IsTrue proved → Best problem form
  pub spent : IsFalse proved → nodes ≡ plan.budget

-- the item of the step that waits is answered, by a response in the item's range
pub record IsLegalAnswer (b : Tables) (plan : Plan) (H : List Entry)
    (session step response : ℕ) : Type 0 where
  pub item : ℕ
  pub proved : Bool
  pub waiting : place plan H session ≡ Some (Waiting step item proved)
  pub in_range : response < categories b item

-- a place before the end of the session
abbrev pub GoesOn : Place → Type 0
GoesOn (Pending step) = Unit {0}
GoesOn (Waiting step item proved) = Unit {0}
GoesOn over = ⊥

-- a session is closed before its end
pub record IsLegalClosing (plan : Plan) (H : List Entry) (session : ℕ) : Type 0 where
  pub at : Place
  pub stands : place plan H session ≡ Some at
  pub goes_on : GoesOn at

abbrev pub Legal : Tables → Plan → List Entry → Entry → Type 0
Legal b plan H (Started session booking eligible without) =
    IsLegalStart b plan H session booking eligible without
Legal b plan H (SetAside session step band cause nodes) =
    IsLegalAside b plan H session step band cause nodes
Legal b plan H (Served session step item form proved nodes) =
    IsLegalServing b plan H session step item (has form) proved nodes
Legal b plan H (Answered session step response) = IsLegalAnswer b plan H session step response
Legal b plan H (Closed session) = IsLegalClosing plan H session

-- each entry is legal after the entries before it
pub data LegalRun (b : Tables) (plan : Plan) : List Entry → Type 0 where
  empty : LegalRun b plan []
  more : (H : List Entry) (entry : Entry) → LegalRun b plan H → Legal b plan H entry
      → LegalRun b plan (H ++ entry ∷ [])
