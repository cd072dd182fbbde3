use Rattle.std.proofs.Common.{◌≡◌, ℕ, ◌+◌, ◌*◌, ◌<◌}
use Rattle.std.specs.Prelude.{◌+ℤ◌, slice_index}
use Rattle.bank_tables.specs.Sums.{total_z}
use Rattle.bank_tables.specs.Tables.{size}
use Rattle.certificate_model.specs.Ranges.{IsWithin, at}
use Rattle.certificate_model.specs.Weights.{item_share}
use Rattle.constraint_model.specs.Views.{problem_of}
use Rattle.lagrange_bound.specs.Ranges.{row_top}
use Rattle.lagrange_bound.specs.Shares.{own_weight}
use Rattle.lagrange_bound.proofs.weights.item_weights.Given as goal

abbrev pub invariant-loop-r : goal.invariant-loop-r
invariant-loop-r l =
    record {
      value : (i : ℕ) → i < size (problem_of l.problem).bank →
          at l.weights i ≡ own_weight (problem_of l.problem) (slice_index l.sides) l.ray i
          +ℤ total_z l.r (item_share (problem_of l.problem) (slice_index l.sides) i);
      within : (i : ℕ) → i < size (problem_of l.problem).bank → IsWithin (272777216 + l.r * row_top) (at l.weights i);
    }
