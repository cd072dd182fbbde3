use Rattle.std.proofs.Common.{ℕ, ◌<◌, get_or, IfSome}
use Rattle.bank_tables.specs.Items.{AreWords}
use Rattle.form_model.specs.Plan.{no_row}
use Rattle.exam_program.specs.ItemSets.{set_of}
use Rattle.exam_program.proofs.item_sets.has_item_sets.Given as goal

abbrev pub invariant-loop-row : goal.invariant-loop-row
invariant-loop-row l = (r : ℕ) → r < l.row-index → IfSome (set_of (get_or l.rows r no_row)) AreWords
