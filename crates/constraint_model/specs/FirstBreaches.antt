-- The first breach, kind by kind.
use Rattle.std.specs.Prelude.{◌≡◌, ℕ, ◌+◌, ◌≤◌, ◌<◌, length, IsTrue, IsFalse, Option, Some, None}
use Rattle.bank_tables.specs.Items.{Set}
use Rattle.bank_tables.specs.Sums.{size_of}
use Rattle.bank_tables.specs.Tables.{Tables}
use Rattle.form_model.specs.declared.breach.Breach.{Breach}
use Rattle.form_model.specs.declared.breach.Breach.TheVariants.{Length, Row, Stimulus, Given, Barred}
use Rattle.form_model.specs.Plan.{Plan, row_at}
use Rattle.form_model.specs.Forms.{activity, used, items_of, stimuli_of, HasLength, RowHolds, StimulusHolds, Meets}

-- the number of items of X, where its length is not the plan's, or none
abbrev pub IsLengthBreach : Tables → Plan → Set → Option ℕ → Type 0
IsLengthBreach b plan X None = HasLength b plan X
IsLengthBreach b plan X (Some found) = (HasLength b plan X → ⊥) × (found ≡ size_of X)

-- the rows before r hold
abbrev pub RowsHoldBelow : Tables → Plan → Set → ℕ → Type 0
RowsHoldBelow b plan X r = (q : ℕ) → q < r → RowHolds b plan X q

-- the stimuli before s hold
abbrev pub StimuliHoldBelow : Tables → Plan → Set → ℕ → Type 0
StimuliHoldBelow b plan X s = (t : ℕ) → 0 < t → t < s → StimulusHolds b plan X t

-- the first row that does not hold, with the activity of X on it, or none
abbrev pub IsRowBreach : Tables → Plan → Set → Option (ℕ × ℕ) → Type 0
IsRowBreach b plan X None = RowsHoldBelow b plan X (length plan.rows)
IsRowBreach b plan X (Some breach) =
    RowsHoldBelow b plan X breach.0 × (breach.0 < length plan.rows)
    × (RowHolds b plan X breach.0 → ⊥)
    × (breach.1 ≡ activity b (row_at plan breach.0) X (used b X))

-- the first stimulus that does not hold, with its items in X, or none
abbrev pub IsStimulusBreach : Tables → Plan → Set → Option (ℕ × ℕ) → Type 0
IsStimulusBreach b plan X None = StimuliHoldBelow b plan X (stimuli_of b + 1)
IsStimulusBreach b plan X (Some breach) =
    StimuliHoldBelow b plan X breach.0 × (0 < breach.0) × (breach.0 ≤ stimuli_of b)
    × (StimulusHolds b plan X breach.0 → ⊥)
    × (breach.1 ≡ items_of b breach.0 X)

-- the first member of S that X lacks, or none
abbrev pub IsFirstMissing : Set → Set → Option ℕ → Type 0
IsFirstMissing S X None = (j : ℕ) → IsTrue (S j) → IsTrue (X j)
IsFirstMissing S X (Some i) =
    ((j : ℕ) → j < i → IsTrue (S j) → IsTrue (X j)) × IsTrue (S i) × IsFalse (X i)

-- the first member of S that X has, or none
abbrev pub IsFirstCommon : Set → Set → Option ℕ → Type 0
IsFirstCommon S X None = (j : ℕ) → IsTrue (S j) → IsFalse (X j)
IsFirstCommon S X (Some i) =
    ((j : ℕ) → j < i → IsTrue (S j) → IsFalse (X j)) × IsTrue (S i) × IsTrue (X i)

-- the first breach of the plan: of its length, its rows and its stimuli
abbrev pub IsPlanBreach : Tables → Plan → Set → Option Breach → Type 0
IsPlanBreach b plan X None = Meets b plan X
IsPlanBreach b plan X (Some (Length found)) = IsLengthBreach b plan X (Some found)
IsPlanBreach b plan X (Some (Row r found)) =
    HasLength b plan X × IsRowBreach b plan X (Some (r, found))
IsPlanBreach b plan X (Some (Stimulus s found)) =
    HasLength b plan X × RowsHoldBelow b plan X (length plan.rows)
    × IsStimulusBreach b plan X (Some (s, found))
IsPlanBreach b plan X (Some (Given i)) = ⊥
IsPlanBreach b plan X (Some (Barred i)) = ⊥
