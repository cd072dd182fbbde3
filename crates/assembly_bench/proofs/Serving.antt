-- A seat stays a seat from step to step.
use Rattle.std.proofs.Common.{◌≡◌, ℕ, ◌+◌, ◌<◌, List, [], ◌∷◌, ◌++◌, length, length-append, arith}
use Rattle.bank_tables.specs.Items.{has}
use Rattle.bank_tables.specs.Tables.{Tables, categories}
use Rattle.serving_model.specs.declared.seat.Seat.{Seat}
use Rattle.form_model.specs.Plan.{Plan}
use Rattle.form_model.specs.Problem.{Problem}
use Rattle.form_model.specs.Forms.{Form}
use Rattle.serving_model.specs.Seats.{IsSeat, IsPending, IsSeatProblem, with_item, with_response}
use Rattle.serving_model.specs.Serving.{IsNext}
use Rattle.serving_model.proofs.Staying.{last_shown-push}
use Rattle.shadow_select.proofs.StepLaws.{served_seat, answered_seat}

-- the next item of a form was shown and answered
pub after_step : (b : Tables) (plan : Plan) (seat : Seat) (P : Problem) (form : List ℕ) (item response : ℕ)
    → IsSeat b plan seat
    → IsPending plan seat
    → IsSeatProblem b plan 0 seat P
    → Form P (has form)
    → IsNext P (has form) item
    → response < categories b item
    → IsSeat b plan (with_response (with_item seat form seat.proved item) response)
after_step b plan seat P form item response is pending problem a_form next within =
    let shown = served_seat b plan 0 seat P form seat.proved item is pending problem a_form next in
    let number = length-append seat.shown (item ∷ []) in
    let waits : length seat.responses + 1 ≡ length (seat.shown ++ item ∷ []) = omega (arith, number, pending.answered) in
    answered_seat b plan (with_item seat form seat.proved item) item response shown waits (last_shown-push seat.shown item) within
