use Rattle.std.proofs.Common.{◌≡◌, ◌<◌, ◌+◌, ◌*◌, ℕ}
use Rattle.std.specs.Prelude.{slice_index}
use Rattle.bank_tables.specs.Tables.{size}
use Rattle.constraint_model.specs.Views.{problem_of}
use Rattle.certificate_model.specs.Ranges.{IsWithin, at}
use Rattle.certificate_check.specs.Columns.{IsColumn}
use Rattle.certificate_check.specs.Weights.{weight_up_to}
use Rattle.certificate_check.proofs.weights.item_weights.Given as goal

abbrev pub invariant-loop-r : goal.invariant-loop-r
invariant-loop-r l =
    record {
      column : IsColumn (problem_of l.problem).bank l.column;
      value : (i : ℕ) → i < size (problem_of l.problem).bank → at l.weights i ≡ weight_up_to (problem_of l.problem) (slice_index l.sides) l.ray l.r i;
      within : (i : ℕ) → i < size (problem_of l.problem).bank → IsWithin (l.r * 1099494850560 + 1099750850560) (at l.weights i);
    }
