-- What must be true of a plan before a set can be counted on it.
use Rattle.std.specs.Prelude.{◌≡◌, ℕ, ◌<◌, ◌≤◌, length, cond}
use Rattle.bank_tables.specs.Items.{Set}
use Rattle.bank_tables.specs.Tables.{Tables, quantity}
use Rattle.form_model.specs.Plan.{Plan, row_at}
use Rattle.form_model.specs.Forms.{stimuli_of}
use Rattle.form_model.specs.Validity.{IsRow}

-- there are at most 128 rows, each is a row for the bank, and each stimulus of the bank has bounds
pub record IsCountable (b : Tables) (plan : Plan) : Type 0 where
  pub few_rows : length plan.rows ≤ 128
  pub rows : (r : ℕ) → r < length plan.rows → IsRow b (row_at plan r)
  pub each_stimulus : length plan.bounds ≡ stimuli_of b

-- quantity `which` of an item of S, and 0 of another
abbrev pub quantity_of : Tables → Set → ℕ → ℕ → ℕ
quantity_of b S which i = cond (S i) (quantity b i which) 0
