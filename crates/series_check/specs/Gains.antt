-- What a stimulus adds to the relaxed maximum of a form.
use Rattle.std.specs.Prelude.{ℕ, cond, ℤ, pos}
use Rattle.std.specs.Int.{int_max}
use Rattle.form_model.specs.Problem.{Problem}
use Rattle.certificate_model.specs.Paths.{Path, is_chosen, is_open}
use Rattle.certificate_model.specs.Weights.{stimulus_weight}

-- no weight of a stimulus is further from 0
abbrev pub stimulus_top : ℕ
stimulus_top = 200000000000000000

-- its weight if it is chosen; if it is open, the greater of 0 and its weight
abbrev pub gain_of : Problem → Path → (ℕ → ℕ) → ℕ → ℤ
gain_of P p M s = cond (is_chosen P p s) (stimulus_weight P M s) (cond (is_open P p s) (int_max (pos 0) (stimulus_weight P M s)) (pos 0))
