-- What was assembled for a session, and the entry that it is made.
use Rattle.std.specs.Prelude.{◌≡◌, ℕ, Bool, List, ◌++◌, length, IsFalse, Some}
use Rattle.bank_tables.specs.Items.{has}
use Rattle.bank_tables.specs.Tables.{Tables}
use Rattle.form_model.specs.Plan.{Plan, band_of}
use Rattle.form_model.specs.Problem.{Problem}
use Rattle.form_model.specs.Forms.{Form}
use Rattle.serving_model.specs.Serving.{IsNext}
use Rattle.constraint_model.specs.Views.{problem_of}
use Rattle.history_model.specs.declared.entry.Cause.TheVariants.{NoForm as CauseNoForm, Spent}
use Rattle.history_model.specs.declared.entry.Entry.{Entry}
use Rattle.history_model.specs.declared.entry.Entry.TheVariants.{SetAside, Served}
use Rattle.history_model.specs.declared.place.Place.{Place}
use Rattle.history_model.specs.declared.place.Place.TheVariants.{Pending}
use Rattle.history_model.specs.Places.{place}
use Rattle.history_model.specs.Legality.{Legal}
use Rattle.history_model.specs.SessionProblems.{is_aside_now, IsProblemOf}
use Rattle.branch_bound.specs.Assembled.{Assembly}
use Rattle.branch_bound.specs.declared.outcome.Outcome.{Outcome}
use Rattle.branch_bound.specs.declared.outcome.Outcome.TheVariants.{Found, NoForm, NoneFound}
use Rattle.history_model.specs.declared.refusal.Refusal.TheVariants.{Stale}
use Rattle.exam_office.specs.Calls.{Finding, refuse, nothing, add}

-- a session waits for the item of a step, with eligibility set aside or not in the band of its
-- estimate
pub record IsWaitingFor (b : Tables) (plan : Plan) (H : List Entry) (session step : ℕ)
    (flag : Bool) : Type 0 where
  pub pending : place plan H session ≡ Some (Pending step)
  pub aside : is_aside_now b plan H session ≡ flag

-- the session doesn't wait for that item: it is at this place, with this flag of the band of its
-- estimate
pub record IsStaleBy (b : Tables) (plan : Plan) (H : List Entry) (session step : ℕ) (flag : Bool)
    (at : Place) (aside : Bool) : Type 0 where
  pub stands : place plan H session ≡ Some at
  pub flag_is : is_aside_now b plan H session ≡ aside
  pub other : IsWaitingFor b plan H session step flag → ⊥

-- the session still waits for the item that was assembled, with eligibility set aside or not as
-- then
abbrev pub IsStillAsked : Tables → Plan → List Entry → Problem → Type 0
IsStillAsked b plan H P = IsWaitingFor b plan H P.session P.step P.aside

-- the entry that an outcome is made: the next item of the form is served, or eligibility is set
-- aside in the band of the estimate
abbrev pub IsEntryFor : Problem → ℕ → Outcome → Entry → Type 0
IsEntryFor P nodes (Found form proved) entry = (item : ℕ) × IsNext P (has form) item
    × (entry ≡ Served P.session P.step item form proved nodes)
IsEntryFor P nodes NoForm entry =
    entry ≡ SetAside P.session P.step (band_of P.plan P.theta) CauseNoForm nodes
IsEntryFor P nodes NoneFound entry =
    entry ≡ SetAside P.session P.step (band_of P.plan P.theta) Spent nodes

-- an outcome without a form is of a problem with eligibility not set aside; and none was found only
-- where the base is no form
abbrev pub IsOfStart : Problem → List ℕ → Outcome → Type 0
IsOfStart P base (Found form proved) = Unit {0}
IsOfStart P base NoForm = IsFalse P.aside
IsOfStart P base NoneFound = IsFalse P.aside × (Form P (has base) → ⊥)

-- it was made within the plan's budget for the problem of a session at a beginning of the history
pub record MayBeCommitted (b : Tables) (plan : Plan) (base : List ℕ) (H : List Entry)
    (a : Assembly) : Type 0 where
  pub before : List Entry
  pub since : List Entry
  pub is : H ≡ before ++ since
  pub asked : IsProblemOf b plan before (problem_of a.problem).session (problem_of a.problem).step
      (problem_of a.problem)
  pub budget : a.budget ≡ plan.budget
  pub of_start : IsOfStart (problem_of a.problem) base a.outcome

-- what a commit finds: that the session moved on, or the entry that is to be added
abbrev pub FindsCommit : Tables → Plan → Assembly → List Entry → Finding → Type 0
FindsCommit b plan a H (refuse (Stale at aside)) =
    IsStaleBy b plan H (problem_of a.problem).session (problem_of a.problem).step
    (problem_of a.problem).aside at aside
FindsCommit b plan a H (refuse refusal) = ⊥
FindsCommit b plan a H nothing = ⊥
FindsCommit b plan a H (add entry) =
    IsStillAsked b plan H (problem_of a.problem) × IsEntryFor (problem_of a.problem)
    (length a.tree.nodes) a.outcome entry
    × Legal b plan H entry
