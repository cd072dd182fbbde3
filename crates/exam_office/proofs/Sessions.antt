-- Sessions that are there, and the answers that are recorded.
use Rattle.std.proofs.Common.{◌≡◌, ℕ, ◌<◌, Bool, true, false, cond, not, List, [], ◌∷◌, ◌++◌, length, Option, Some, None, refl, ◌∙◌}
use Rattle.std.specs.Prelude.{nat_le}
use Rattle.bank_tables.specs.Tables.{Tables, categories}
use Rattle.form_model.specs.Plan.{Plan}
use Rattle.history_model.specs.declared.entry.Entry.{Entry}
use Rattle.history_model.specs.declared.entry.Entry.TheVariants.{Answered}
use Rattle.history_model.specs.declared.place.Place.{Place}
use Rattle.history_model.specs.declared.place.Place.TheVariants.{Waiting, Complete, Closed as IsClosed}
use Rattle.history_model.specs.Entries.{Serving, is_started, is_closed, step_answers}
use Rattle.history_model.specs.Places.{serving_at, place_at, place}
use Rattle.history_model.specs.Judging.{MayFollow}
use Rattle.history_model.proofs.Pushed.{started-push}
use Rattle.history_model.proofs.Standing.{there}

none_by : (is_there closed full : Bool) (n : ℕ) (o : Option Serving) → ◌≡◌ {A = Option Place} (cond (not is_there) None (cond closed (Some IsClosed) (cond full (Some Complete) (Some (place_at n o))))) None → is_there ≡ false
none_by false closed full n o e = refl
none_by true true full n o e = absurd (cc)
none_by true false true n o e = absurd (cc)
none_by true false false n o e = absurd (cc)

pub not_there : (plan : Plan) (H : List Entry) (s : ℕ) → place plan H s ≡ None → is_started H s ≡ false
not_there plan H s e = none_by (is_started H s) (is_closed H s) (nat_le plan.length (length (step_answers H s))) (length (step_answers H s)) (serving_at H s (length (step_answers H s))) e

-- a session stays there
pub stays_there : (plan : Plan) (H : List Entry) (e : Entry) (s : ℕ) (at : Place) → place plan H s ≡ Some at → place plan (H ++ e ∷ []) s ≡ None → ⊥
stays_there plan H e s at stands none =
    let before : is_started H s ≡ true = there plan H s at stands in
    let after : is_started (H ++ e ∷ []) s ≡ false = not_there plan (H ++ e ∷ []) s none in
    let push = started-push H e s in
    let is : is_started (H ++ e ∷ []) s ≡ true = push ∙ rw before refl in
    absurd (cc)

-- an answer that is waited for may follow
pub may_answer : (b : Tables) (plan : Plan) (H : List Entry) (s step response item : ℕ) (proved : Bool) → place plan H s ≡ Some (Waiting step item proved) → response < categories b item → MayFollow b plan H (Answered s step response) None
may_answer b plan H s step response item proved waiting in_range = (record { item = item; proved = proved; waiting = waiting; in_range = in_range }, refl)
