-- The reduced weight of an item in two parts.
use Rattle.std.specs.Prelude.{ℕ, Bool, ℤ, pos, ◌+ℤ◌}
use Rattle.bank_tables.specs.Tables.{stimulus}
use Rattle.form_model.specs.Problem.{Problem}
use Rattle.certificate_model.specs.Weights.{weight, price_of_stimulus}

-- the reduced weight of an item without the rows
abbrev pub own_weight : Problem → (ℕ → ℕ) → Bool → ℕ → ℤ
own_weight P M ray i = pos (weight P ray i) +ℤ price_of_stimulus P M (stimulus P.bank i)
