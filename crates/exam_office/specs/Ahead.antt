-- The problem that a session will have, as an office makes it before the answer comes.
use Rattle.std.specs.Prelude.{◌≡◌, ℕ, ◌+◌, ◌<◌, Bool, List, ◌++◌, Some}
use Rattle.bank_tables.specs.Tables.{Tables, categories}
use Rattle.form_model.specs.Plan.{Plan}
use Rattle.form_model.specs.Validity.{IsWellMade}
use Rattle.constraint_model.specs.declared.problem.Problem.{Problem}
use Rattle.constraint_model.specs.Views.{problem_of}
use Rattle.history_model.specs.declared.entry.Entry.{Entry}
use Rattle.history_model.specs.declared.place.Place.TheVariants.{Waiting}
use Rattle.history_model.specs.Ahead.{IsAhead}
use Rattle.history_model.specs.Legality.{LegalRun}
use Rattle.history_model.specs.Places.{place}
use Rattle.history_model.specs.Refusals.{recorded}
use Rattle.history_model.specs.SessionProblems.{IsProblemOf}

-- the session waits for the answer to an item before the last one, and the item has this response
pub record HasNextStep (b : Tables) (plan : Plan) (H : List Entry) (session response : ℕ)
    : Type 0 where
  pub step : ℕ
  pub item : ℕ
  pub proved : Bool
  pub waiting : place plan H session ≡ Some (Waiting step item proved)
  pub in_range : response < categories b item
  pub not_last : step + 1 < plan.length

-- P is the problem that the session has with this response, at the step after that of its item, of
-- this bank and plan
pub record IsNextProblem (b : Tables) (plan : Plan) (H : List Entry) (session response : ℕ)
    (P : Problem) : Type 0 where
  pub step : ℕ
  pub after : P.step ≡ step + 1
  pub ahead : IsAhead b plan H session step response (problem_of P)
  pub well_made : IsWellMade (problem_of P)
  pub of_bank : P.bank.now ≡ b
  pub of_plan : P.spec.now ≡ plan

-- whatever is done meanwhile, once this response is recorded and the session waits for the item of
-- P's step, with eligibility set aside or not as in P, its problem is P
abbrev pub LeadsTo : Tables → Plan → List Entry → ℕ → ℕ → Problem → Type 0
LeadsTo b plan H session response P =
    (more : List Entry) (step : ℕ) (Q : Problem) → LegalRun b plan (H ++ more)
    → P.step ≡ step + 1 → recorded (H ++ more) session step ≡ Some response
    → IsProblemOf b plan (H ++ more) session P.step (problem_of Q) → Q.aside ≡ P.aside
    → problem_of Q ≡ problem_of P
