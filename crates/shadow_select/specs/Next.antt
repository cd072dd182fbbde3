-- The next item, and that there is one.
use Rattle.std.specs.Prelude.{ℕ, ◌≤◌, ◌<◌, IsTrue, IsFalse, Option, Some, None}
use Rattle.bank_tables.specs.Items.{Set}
use Rattle.bank_tables.specs.Tables.{Tables, info}
use Rattle.serving_model.specs.declared.seat.Seat.{Seat}
use Rattle.form_model.specs.Plan.{Plan}
use Rattle.form_model.specs.Problem.{Problem}
use Rattle.form_model.specs.Forms.{Form}
use Rattle.serving_model.specs.Seats.{IsPending, IsSeatProblem}
use Rattle.serving_model.specs.Serving.{is_candidate}

-- X has an item not yet given
pub record HasFreeItem (P : Problem) (X : Set) : Type 0 where
  pub item : ℕ
  pub held : IsTrue (X item)
  pub not_given : IsFalse (P.given item)

-- the first candidate of greatest information among those below n, or none
abbrev pub IsNextBelow : ℕ → Problem → Set → Option ℕ → Type 0
IsNextBelow n P X None = (i : ℕ) → i < n → IsFalse (is_candidate P X i)
IsNextBelow n P X (Some item) =
    (item < n) × IsTrue (is_candidate P X item)
    × ((i : ℕ) → i < n → IsTrue (is_candidate P X i) → info P.bank i P.theta ≤ info P.bank item P.theta)
    × ((i : ℕ) → i < item → IsTrue (is_candidate P X i) → info P.bank i P.theta < info P.bank item P.theta)

-- a seat that waits for an item has been given fewer items than a form has
abbrev pub FreeItemIsLeft : Type 0
FreeItemIsLeft =
    (b : Tables) (plan : Plan) (session : ℕ) (seat : Seat) (P : Problem) (X : Set) → IsPending plan seat → IsSeatProblem b plan session seat P → Form P X → HasFreeItem P X
