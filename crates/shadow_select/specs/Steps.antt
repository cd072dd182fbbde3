-- A seat stays a seat from step to step.
use Rattle.std.specs.Prelude.{◌≡◌, ℕ, ◌+◌, ◌<◌, Bool, List, [], length, Some, None}
use Rattle.bank_tables.specs.Items.{has}
use Rattle.bank_tables.specs.Tables.{Tables, categories}
use Rattle.serving_model.specs.declared.seat.Seat.{Seat}
use Rattle.form_model.specs.Plan.{Plan}
use Rattle.form_model.specs.Problem.{Problem}
use Rattle.form_model.specs.Forms.{Form}
use Rattle.serving_model.specs.Seats.{IsSeat, IsPending, IsSeatProblem, last_shown, with_item, with_response}
use Rattle.serving_model.specs.Serving.{IsNext}

-- a seat that was shown nothing, with no form and no list, is a seat
abbrev pub NewSeatIsSeat : Type 0
NewSeatIsSeat = (b : Tables) (plan : Plan) (seat : Seat) → seat.shown ≡ [] → seat.responses ≡ []
    → seat.form ≡ None → seat.without ≡ None → IsSeat b plan seat

-- a seat stays one where the next item of a form of its problem is shown
abbrev pub ServedSeatIsSeat : Type 0
ServedSeatIsSeat =
    (b : Tables) (plan : Plan) (session : ℕ) (seat : Seat) (P : Problem) (form : List ℕ) (proved : Bool) (item : ℕ)
    → IsSeat b plan seat → IsPending plan seat → IsSeatProblem b plan session seat P → Form P (has form) → IsNext P (has form) item → IsSeat b plan (with_item seat form proved item)

-- a seat stays one where the item shown last is answered in range
abbrev pub AnsweredSeatIsSeat : Type 0
AnsweredSeatIsSeat =
    (b : Tables) (plan : Plan) (seat : Seat) (item response : ℕ)
    → IsSeat b plan seat → length seat.responses + 1 ≡ length seat.shown → last_shown seat ≡ Some item → response < categories b item → IsSeat b plan (with_response seat response)
