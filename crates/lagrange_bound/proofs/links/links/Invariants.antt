use Rattle.std.proofs.Common.{◌≡◌, ℕ, ◌<◌, length}
use Rattle.std.specs.Prelude.{Some}
use Rattle.certificate_model.specs.Ranges.{IsWithin, at}
use Rattle.lagrange_bound.specs.Links.{link_on}
use Rattle.lagrange_bound.specs.Ranges.{excess_top}
use Rattle.lagrange_bound.proofs.links.links.Given as goal

abbrev pub invariant-loop-i : goal.invariant-loop-i
invariant-loop-i l =
    record {
      whole : length l.links ≡ 512;
      value : (j : ℕ) → j < l.i → at l.links j ≡ link_on l.bank l.cut (Some l.cap) l.weights j;
      within : (j : ℕ) → j < l.i → IsWithin excess_top (at l.links j);
    }
