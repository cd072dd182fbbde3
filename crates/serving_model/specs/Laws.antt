-- What the definitions imply, as the public laws state it.
use Rattle.std.specs.Prelude.{◌≡◌, ℕ, List, IsTrue, IsFalse, Bool}
use Rattle.bank_tables.specs.Items.{Set, has}
use Rattle.bank_tables.specs.Tables.{Tables}
use Rattle.serving_model.specs.declared.seat.Seat.{Seat}
use Rattle.form_model.specs.Plan.{Plan, band_of}
use Rattle.form_model.specs.Problem.{Problem}
use Rattle.form_model.specs.Forms.{Form}
use Rattle.serving_model.specs.Serving.{IsNext}
use Rattle.serving_model.specs.Seats.{problem_barring, seat_problem, problem_aside, served_and_answered}

-- a form with an item not yet given has one next item
abbrev pub SomeNext : Type 0
SomeNext = (P : Problem) (X : Set) (item : ℕ) → Form P X → IsTrue (X item) → IsFalse (P.given item)
    → (next : ℕ) × IsNext P X next

abbrev pub OneNext : Type 0
OneNext = (P : Problem) (X : Set) (i j : ℕ) → IsNext P X i → IsNext P X j → i ≡ j

-- a form that was served from stays a form of the seat's problem once its item is answered, at
-- whatever estimate, if the same items are unavailable
abbrev pub FormStays : Type 0
FormStays = (b : Tables) (plan : Plan) (session theta item response later : ℕ)
    (seat : Seat) (words : List ℕ) (aside after : Bool) (unavailable : Set)
    → Form (problem_barring b plan session seat theta aside unavailable) (has words)
    → IsNext (problem_barring b plan session seat theta aside unavailable) (has words) item
    → Form (problem_barring b plan session
    (served_and_answered seat item words response) later after unavailable) (has words)

-- so it stays one of the problem that the seat has once eligibility is set aside, in whatever band
abbrev pub FormStaysAside : Type 0
FormStaysAside = (b : Tables) (plan : Plan) (session theta item response later : ℕ)
    (seat : Seat) (words : List ℕ)
    → Form (problem_aside b plan session seat theta) (has words)
    → IsNext (seat_problem b plan session seat theta) (has words) item
    → Form (problem_aside b plan session
    (served_and_answered seat item words response) later) (has words)

-- and of the seat's problem, where the estimate stays in its band
abbrev pub FormStaysInBand : Type 0
FormStaysInBand = (b : Tables) (plan : Plan) (session theta item response later : ℕ)
    (seat : Seat) (words : List ℕ)
    → Form (seat_problem b plan session seat theta) (has words)
    → IsNext (seat_problem b plan session seat theta) (has words) item
    → band_of plan later ≡ band_of plan theta
    → Form (seat_problem b plan session
    (served_and_answered seat item words response) later) (has words)
