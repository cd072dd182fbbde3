-- The one set of items left on a path.
use Rattle.std.proofs.Common.{◌≡◌, ℕ, zero, suc, ◌<◌, ◌≤◌, true, false, arith, ap, ◌∙◌}
use Rattle.bank_tables.specs.Items.{Set}
use Rattle.form_model.specs.Forms.{used, stimuli_of}
use Rattle.certificate_model.specs.Paths.{Path, is_chosen}
use Rattle.form_model.specs.Problem.{Problem}
use Rattle.certificate_model.specs.Verdicts.{LacksChosen}

pub none_lacks : (P : Problem) (p : Path) (C U Y : Set) (n : ℕ) → C ≡ is_chosen P p → ((s : ℕ) → U s ≡ used P.bank Y s) → stimuli_of P.bank ≤ n → ((k : ℕ) → k < n → C (suc k) ≡ true → U (suc k) ≡ false → ⊥) → LacksChosen P p Y → ⊥
none_lacks P p C U Y n chosen used_by all inv lacks = at lacks.missing lacks.first lacks.last lacks.chosen lacks.unused
  where
    at : (s : ℕ) → 0 < s → s ≤ stimuli_of P.bank → is_chosen P p s ≡ true → used P.bank Y s ≡ false → ⊥
    at zero first last c u = omega arith
    at (suc k) first last c u = inv k (omega arith) (ap (λ X. X (suc k)) chosen ∙ c) (used_by (suc k) ∙ u)
