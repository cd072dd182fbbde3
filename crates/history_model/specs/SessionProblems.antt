-- The problem of a session.
use Rattle.std.specs.Prelude.{◌≡◌, ℕ, Bool, List, length, Some, unwrap_or}
use Rattle.bank_tables.specs.Items.{Set}
use Rattle.bank_tables.specs.Tables.{Tables}
use Rattle.history_model.specs.declared.entry.Entry.{Entry}
use Rattle.history_model.specs.declared.place.Place.TheVariants.{Pending}
use Rattle.form_model.specs.Plan.{Plan}
use Rattle.form_model.specs.Problem.{Problem}
use Rattle.serving_model.specs.Seats.{answers, band_at, is_aside_in, problem_aside, IsSeatProblem}
use Rattle.history_model.specs.Entries.{seat_of}
use Rattle.history_model.specs.Places.{place}

-- P is the problem of a session whose step is to be served: that of its seat
pub record IsProblemOf (b : Tables) (plan : Plan) (H : List Entry) (session step : ℕ)
    (P : Problem) : Type 0 where
  pub pending : place plan H session ≡ Some (Pending step)
  pub of_seat : IsSeatProblem b plan session (seat_of H session) P

-- the problem that a session has once eligibility is set aside in the band of an estimate
abbrev pub problem_once_aside : Tables → Plan → List Entry → ℕ → ℕ → Problem
problem_once_aside b plan H session theta = problem_aside b plan session (seat_of H session) theta

-- the band of a session's estimate
abbrev pub band_now : Tables → Plan → List Entry → ℕ → ℕ
band_now b plan H session =
    band_at b plan (seat_of H session) (length (answers (seat_of H session)))

-- eligibility is set aside for the session in the band of its estimate
abbrev pub is_aside_now : Tables → Plan → List Entry → ℕ → Bool
is_aside_now b plan H session = is_aside_in (seat_of H session) (band_now b plan H session)

-- the items to fall back on: the form last served from, or the base before the first item
abbrev pub fallback : Problem → Set → Set
fallback P base = unwrap_or P.start base
