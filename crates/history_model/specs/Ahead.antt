-- The problem that a session has once its item is answered, before the answer comes.
use Rattle.std.specs.Prelude.{◌≡◌, ℕ, ◌+◌, ◌<◌, Bool, List, [], ◌∷◌, ◌++◌, Contains, Some}
use Rattle.bank_tables.specs.Tables.{Tables, categories}
use Rattle.form_model.specs.Plan.{Plan, band_of}
use Rattle.form_model.specs.Problem.{Problem}
use Rattle.serving_model.specs.Seats.{is_aside_in}
use Rattle.history_model.specs.declared.entry.Entry.{Entry}
use Rattle.history_model.specs.declared.entry.Entry.TheVariants.{Answered}
use Rattle.history_model.specs.declared.place.Place.TheVariants.{Pending, Waiting}
use Rattle.history_model.specs.Entries.{seat_of}
use Rattle.history_model.specs.Places.{place}
use Rattle.history_model.specs.Refusals.{recorded}
use Rattle.history_model.specs.Legality.{LegalRun}
use Rattle.history_model.specs.SessionProblems.{IsProblemOf}

-- the session waits for the answer at a step before the last; P is the problem that it has with
-- this response
pub record IsAhead (b : Tables) (plan : Plan) (H : List Entry) (session step response : ℕ)
    (P : Problem) : Type 0 where
  pub item : ℕ
  pub proved : Bool
  pub waiting : place plan H session ≡ Some (Waiting step item proved)
  pub in_range : response < categories b item
  pub not_last : step + 1 < plan.length
  pub is_problem :
      IsProblemOf b plan (H ++ Answered session step response ∷ []) session (step + 1) P

-- once the session has that response recorded and its next step is to be served, with eligibility
-- set aside in the problem's band or not as in P, P is its problem, whatever other sessions did
abbrev pub AheadStays : Type 0
AheadStays =
    (b : Tables) (plan : Plan) (H more : List Entry) (s step response : ℕ) (P : Problem)
    → IsAhead b plan H s step response P → LegalRun b plan (H ++ more)
    → recorded (H ++ more) s step ≡ Some response
    → place plan (H ++ more) s ≡ Some (Pending (step + 1))
    → is_aside_in (seat_of (H ++ more) s) (band_of plan P.theta) ≡ P.aside
    → IsProblemOf b plan (H ++ more) s (step + 1) P

-- the response of an answer in a legal run is the one recorded for its step
abbrev pub AnsweredThere : Type 0
AnsweredThere =
    (b : Tables) (plan : Plan) (H : List Entry) (s step response : ℕ) → LegalRun b plan H
    → Contains H (Answered s step response) → recorded H s step ≡ Some response
