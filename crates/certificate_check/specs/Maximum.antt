-- The relaxed maximum, if there is one.
use Rattle.std.specs.Prelude.{ℕ, Bool, cond, ℤ, pos, ◌+ℤ◌, Option, Some, None}
use Rattle.std.specs.Int.{int_max}
use Rattle.form_model.specs.Problem.{Problem}
use Rattle.certificate_model.specs.Paths.{Path, is_chosen, is_open}
use Rattle.certificate_model.specs.Relaxed.{Multipliers, IsRelaxedMaximum}
use Rattle.certificate_model.specs.Weights.{stimulus_weight}

-- the number is the relaxed maximum, or there is none
abbrev pub IsMaximum : Problem → Path → Multipliers → Bool → Option ℤ → Type 0
IsMaximum P p v ray (Some r) = IsRelaxedMaximum P p v ray r
IsMaximum P p v ray None = (r : ℤ) → IsRelaxedMaximum P p v ray r → ⊥

-- what stimulus s adds, where its items have so much above the cap
abbrev pub gain_of_stimulus : Problem → Path → (ℕ → ℕ) → ℤ → ℕ → ℤ
gain_of_stimulus P p M excess s = cond (is_chosen P p s) (stimulus_weight P M s) (cond (is_open P p s) (int_max (pos 0) (stimulus_weight P M s +ℤ excess)) (pos 0))
