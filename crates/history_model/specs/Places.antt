-- The place of a session.
use Rattle.std.specs.Prelude.{ℕ, Bool, true, false, not, ◌==◌, List, length, nat_le, find, Option, Some, None, if◌then◌else◌}
use Rattle.history_model.specs.declared.entry.Entry.{Entry}
use Rattle.history_model.specs.declared.place.Place.{Place}
use Rattle.history_model.specs.declared.place.Place.TheVariants.{Pending, Waiting, Complete, Closed}
use Rattle.form_model.specs.Plan.{Plan}
use Rattle.history_model.specs.Entries.{Serving, is_started, is_closed, servings, step_answers}

-- the Served entry of a step
abbrev pub serving_at : List Entry → ℕ → ℕ → Option Serving
serving_at H s step = find (λ serving. serving.step == step) (servings H s)

-- at a step, by its Served entry
abbrev pub place_at : ℕ → Option Serving → Place
place_at step (Some serving) = Waiting step serving.item serving.proved
place_at step None = Pending step

-- none where the session isn't started; closed after its Closed entry; else complete after as many
-- answers as the test has items; else at the step that has the number of the answers so far
abbrev pub place : Plan → List Entry → ℕ → Option Place
place plan H s =
    if not (is_started H s) then None
    else (if is_closed H s then Some Closed
    else (if nat_le plan.length (length (step_answers H s)) then Some Complete
    else Some (place_at (length (step_answers H s)) (serving_at H s (length (step_answers H s))))))

-- a session is finished if it is complete or closed
abbrev pub is_over : Option Place → Bool
is_over (Some Complete) = true
is_over (Some Closed) = true
is_over place = false

abbrev pub is_finished : Plan → List Entry → ℕ → Bool
is_finished plan H s = is_over (place plan H s)
