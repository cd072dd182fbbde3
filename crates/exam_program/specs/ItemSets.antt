-- The sets of items of a plan: what is true of them by their type.
use Rattle.std.specs.Prelude.{ℕ, ◌<◌, List, length, IfSome, Option, Some, None}
use Rattle.bank_tables.specs.Items.{AreWords}
use Rattle.form_model.specs.declared.row.Row.{Row}
use Rattle.form_model.specs.declared.row.Row.TheVariants.{Count, Quantity, Enemies, Stimuli}
use Rattle.form_model.specs.Plan.{Plan, row_at}

-- the words of a row's set, if it has one
abbrev pub set_of : Row → Option (List ℕ)
set_of (Count set low high) = Some set
set_of (Quantity which set low high) = Some set
set_of (Enemies set) = Some set
set_of (Stimuli low high) = None

-- each set of the plan is 8 words of 64 bits
pub record HasItemSets (plan : Plan) : Type 0 where
  pub rows : (r : ℕ) → r < length plan.rows → IfSome (set_of (row_at plan r)) AreWords
  pub base : IfSome plan.base AreWords
