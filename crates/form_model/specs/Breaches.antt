-- The first breach of a form.
use Rattle.std.specs.Prelude.{◌≡◌, ℕ, ◌≤◌, ◌<◌, length, IsTrue, IsFalse, Option, Some, None}
use Rattle.bank_tables.specs.Items.{Set}
use Rattle.bank_tables.specs.Sums.{size_of}
use Rattle.form_model.specs.declared.breach.Breach.{Breach}
use Rattle.form_model.specs.declared.breach.Breach.TheVariants.{Length, Row, Stimulus, Given, Barred}
use Rattle.form_model.specs.Plan.{row_at}
use Rattle.form_model.specs.Problem.{Problem}
use Rattle.form_model.specs.Forms.{activity, used, items_of, stimuli_of, HasLength, RowHolds, StimulusHolds, Meets, Form}

-- the rows before r hold
abbrev pub RowsHold : Problem → Set → ℕ → Type 0
RowsHold P X r = (q : ℕ) → q < r → RowHolds P.bank P.plan X q

-- the stimuli before s hold
abbrev pub StimuliHold : Problem → Set → ℕ → Type 0
StimuliHold P X s = (t : ℕ) → 0 < t → t < s → StimulusHolds P.bank P.plan X t

-- the first breach of X, in the order of length, rows, stimuli, given and barred items, with the
-- value found
abbrev pub IsFirstBreach : Problem → Set → Option Breach → Type 0
IsFirstBreach P X None = Form P X
IsFirstBreach P X (Some (Length found)) = (HasLength P.bank P.plan X → ⊥) × (found ≡ size_of X)
IsFirstBreach P X (Some (Row r found)) = HasLength P.bank P.plan X
    × RowsHold P X r × (r < length P.plan.rows) × (RowHolds P.bank P.plan X r → ⊥)
    × (found ≡ activity P.bank (row_at P.plan r) X (used P.bank X))
IsFirstBreach P X (Some (Stimulus s found)) = HasLength P.bank P.plan X
    × RowsHold P X (length P.plan.rows) × StimuliHold P X s × (0 < s) × (s ≤ stimuli_of P.bank)
    × (StimulusHolds P.bank P.plan X s → ⊥) × (found ≡ items_of P.bank s X)
IsFirstBreach P X (Some (Given i)) = Meets P.bank P.plan X
    × ((j : ℕ) → j < i → IsTrue (P.given j) → IsTrue (X j)) × IsTrue (P.given i) × IsFalse (X i)
IsFirstBreach P X (Some (Barred i)) =
    Meets P.bank P.plan X × ((j : ℕ) → IsTrue (P.given j) → IsTrue (X j))
    × ((j : ℕ) → j < i → IsTrue (P.barred j) → IsFalse (X j)) × IsTrue (P.barred i) × IsTrue (X i)
