-- Why a session doesn't wait for an item, or not at a step.
use Rattle.std.specs.Prelude.{◌≡◌, ◌≢◌, ℕ, List, Some, None}
use Rattle.history_model.specs.declared.entry.Entry.{Entry}
use Rattle.history_model.specs.declared.place.Place.TheVariants.{Pending}
use Rattle.history_model.specs.declared.illegal.Illegal.{Illegal}
use Rattle.history_model.specs.declared.illegal.Illegal.TheVariants.{NoSession, NotPending}
use Rattle.form_model.specs.Plan.{Plan}
use Rattle.history_model.specs.Entries.{sessions}
use Rattle.history_model.specs.Places.{place}
use Rattle.history_model.specs.Reasons.{IsPendingPlace}

-- there is no such session; or it is at another place
abbrev pub IsNotPending : Plan → List Entry → ℕ → ℕ → Illegal → Type 0
IsNotPending plan H session step (NoSession count) =
    (place plan H session ≡ None) × (count ≡ sessions H)
IsNotPending plan H session step (NotPending at) =
    (place plan H session ≡ Some at) × (at ≢ Pending step)
IsNotPending plan H session step reason = ⊥

-- there is no such session; or it waits for no item
abbrev pub WaitsForNone : Plan → List Entry → ℕ → Illegal → Type 0
WaitsForNone plan H session (NoSession count) =
    (place plan H session ≡ None) × (count ≡ sessions H)
WaitsForNone plan H session (NotPending at) =
    (place plan H session ≡ Some at) × (IsPendingPlace at → ⊥)
WaitsForNone plan H session reason = ⊥
