-- The cap, and the weights under it.
use Rattle.std.specs.Prelude.{◌≡◌, ℕ, suc, ◌+◌, ◌<◌, Bool, not, ◌||◌, ◌==◌, List, ℤ}
use Rattle.bank_tables.specs.Tables.{size}
use Rattle.form_model.specs.Problem.{Problem}
use Rattle.form_model.specs.Forms.{stimuli_of}
use Rattle.certificate_model.specs.Paths.{Path}
use Rattle.certificate_model.specs.Ranges.{at}
use Rattle.certificate_model.specs.Relaxed.{Multipliers, cap_side}
use Rattle.certificate_model.specs.ClosedForm.{capped_weight, excess_of_items}

-- there is a cap where one of its sides has a multiplier
abbrev pub has_cap : (ℕ → ℕ) → Bool
has_cap M = not (M cap_side == 0) || not (M (cap_side + 1) == 0)

-- the arrays hold the weight of each item under the cap, and what the items of each stimulus have
-- above it
pub record AreCapped (P : Problem) (p : Path) (v : Multipliers) (ray : Bool) (weights excesses : List ℤ) : Type 0 where
  pub weights_are : (i : ℕ) → i < size P.bank → at weights i ≡ capped_weight P p v ray i
  pub excesses_are : (k : ℕ) → k < stimuli_of P.bank → at excesses k ≡ excess_of_items P p v ray (suc k)
