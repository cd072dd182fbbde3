-- How the item of a session is served, in at most two tries.
use Rattle.std.specs.Prelude.{◌≡◌, ◌⊎◌, ℕ, List, [], ◌∷◌, ◌++◌, Option, Some, None}
use Rattle.bank_tables.specs.Items.{has}
use Rattle.bank_tables.specs.Tables.{Tables}
use Rattle.form_model.specs.Plan.{Plan}
use Rattle.constraint_model.specs.Views.{problem_of}
use Rattle.branch_bound.specs.Assembled.{Assembly}
use Rattle.branch_bound.specs.Assemblies.{IsFirmOutcome, IsNoWorseThan}
use Rattle.history_model.specs.declared.entry.Entry.{Entry}
use Rattle.history_model.specs.declared.place.Place.TheVariants.{Pending}
use Rattle.history_model.specs.declared.refusal.Refusal.{Refusal}
use Rattle.history_model.specs.Places.{place}
use Rattle.history_model.specs.Requests.{IsFirmServing, IsSettingAside, Advances}
use Rattle.history_model.specs.SessionProblems.{IsProblemOf}
use Rattle.exam_office.specs.Asking.{IsStoppedBy, IsGood, AreGood, IsDurable}
use Rattle.exam_office.specs.Commits.{IsOfStart}
use Rattle.exam_office.specs.Marks.{history}
use Rattle.exam_office.specs.Running.{Running}

-- the session waits for an item
abbrev pub IsPendingThere : Plan → List Entry → ℕ → Type 0
IsPendingThere plan H session = (step : ℕ) × (place plan H session ≡ Some (Pending step))

-- what is assembled for a session that waits for an item, with the base as the hint
pub record IsAssembledFor (b : Tables) (plan : Plan) (base : List ℕ) (H : List Entry) (session : ℕ)
    (a : Assembly) : Type 0 where
  pub asked : IsProblemOf b plan H session (problem_of a.problem).step (problem_of a.problem)
  pub budget : a.budget ≡ plan.budget
  pub of_start : IsOfStart (problem_of a.problem) base a.outcome
  pub firm : IsFirmOutcome (problem_of a.problem) a.outcome
  pub start : IsNoWorseThan (problem_of a.problem) (problem_of a.problem).start a.outcome
  pub hint : IsNoWorseThan (problem_of a.problem) (Some (has base)) a.outcome

-- ---- one try
-- the item is served, or eligibility is set aside
abbrev pub IsTry : Tables → Plan → List Entry → ℕ → Entry → Type 0
IsTry b plan H session entry =
    IsFirmServing b plan H session entry ⊎ IsSettingAside b plan H session entry

-- the history with the entry of a try, or without it
pub data IsTriedAlong (b : Tables) (plan : Plan) (base : List ℕ) (H : List Entry)
    (session : ℕ) : List Entry → Type 0 where
  untried : IsTriedAlong b plan base H session H
  with_try : (entry : Entry) → IsTry b plan H session entry → IsGood b plan base H entry
      → IsTriedAlong b plan base H session (H ++ entry ∷ [])

pub data IsTried {D : Type 0} (b : Tables) (plan : Plan) (base : List ℕ) (session : ℕ)
    (old new : Running D) : Option Refusal → Type 0 where
  tried : (entry : Entry) → history new.marks ≡ history old.marks ++ entry ∷ []
      → IsTry b plan (history old.marks) session entry
      → IsGood b plan base (history old.marks) entry → IsDurable b plan new
      → IsTried b plan base session old new None
  stopped : (refusal : Refusal) → history new.marks ≡ history old.marks
      → IsStoppedBy b plan (history old.marks) (IsTry b plan (history old.marks) session) old new
      refusal
      → IsTried b plan base session old new (Some refusal)

-- ---- at most two tries
-- the history before the item is served: the session waits for one, perhaps after eligibility was
-- set aside
pub data IsBeforeItem (b : Tables) (plan : Plan) (H : List Entry) (session : ℕ) : List Entry
    → Type 0 where
  waits : (step : ℕ) → place plan H session ≡ Some (Pending step) → IsBeforeItem b plan H session H
  set_aside : (aside : Entry) → IsSettingAside b plan H session aside
      → IsBeforeItem b plan H session (H ++ aside ∷ [])

-- the entry that comes next there: the item is served, or at first eligibility is set aside
pub data ServesNext (b : Tables) (plan : Plan) (H : List Entry) (session : ℕ) : List Entry → Entry
    → Type 0 where
  aside : (entry : Entry) → IsSettingAside b plan H session entry
      → ServesNext b plan H session H entry
  item : (G : List Entry) (entry : Entry) → IsBeforeItem b plan H session G
      → IsFirmServing b plan G session entry
      → ServesNext b plan H session G entry

-- the histories on the way
pub data IsServedAlong (b : Tables) (plan : Plan) (base : List ℕ) (H : List Entry)
    (session : ℕ) : List Entry → Type 0 where
  not_served : IsServedAlong b plan base H session H
  with_next : (G : List Entry) (entry : Entry) → ServesNext b plan H session G entry
      → AreGood b plan base H (G ++ entry ∷ [])
      → IsServedAlong b plan base H session (G ++ entry ∷ [])

-- the item is served where the session waits for one, or it stops before that
pub data IsServed {D : Type 0} (b : Tables) (plan : Plan) (base : List ℕ) (session : ℕ)
    (old new : Running D) : Option Refusal → Type 0 where
  served : Advances b plan (history old.marks) session (history new.marks)
      → AreGood b plan base (history old.marks) (history new.marks)
      → IsDurable b plan new → IsServed b plan base session old new None
  unserved : (refusal : Refusal) → IsBeforeItem b plan (history old.marks) session
      (history new.marks)
      → AreGood b plan base (history old.marks) (history new.marks)
      → IsStoppedBy b plan (history new.marks) (ServesNext b plan (history old.marks) session
      (history new.marks)) old new refusal
      → IsServed b plan base session old new (Some refusal)
