use Rattle.std.proofs.Common.{◌≡◌, ℕ, ◌*◌, ◌≤◌, ◌==◌, length}
use Rattle.bank_tables.specs.Sums.{sum_in_z}
use Rattle.bank_tables.specs.Tables.{stimulus}
use Rattle.certificate_model.specs.Ranges.{IsWithin, at}
use Rattle.lagrange_bound.specs.Ranges.{excess_top}
use Rattle.lagrange_bound.proofs.links.sums_by_stimulus.Given as goal

abbrev pub invariant-loop-i : goal.invariant-loop-i
invariant-loop-i l =
    record {
      whole : length l.sums ≡ 65;
      value : (s : ℕ) → s ≤ 64 → at l.sums s ≡ sum_in_z l.i (λ i. stimulus l.bank i == s) (at l.numbers);
      within : (s : ℕ) → s ≤ 64 → IsWithin (l.i * excess_top) (at l.sums s);
    }
