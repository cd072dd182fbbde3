-- Information and multipliers at the points of a form, where M is the multiplier of each side.
use Rattle.std.specs.Prelude.{ℕ, ◌*◌}
use Rattle.bank_tables.specs.Sums.{sum_in}
use Rattle.bank_tables.specs.Tables.{info}
use Rattle.series_model.specs.Series.{SeriesProblem, weight_of}
use Rattle.series_model.specs.SeriesBounds.{point_side, counts}
use Rattle.series_model.specs.SeriesPools.{least_above}

abbrev pub point_term : SeriesProblem → (ℕ → ℕ) → ℕ → ℕ → ℕ → ℕ
point_term Q M f i g = M (point_side f g) * (weight_of Q g * info Q.bank i g)

abbrev pub points_at : SeriesProblem → (ℕ → ℕ) → ℕ → ℕ
points_at Q M f = sum_in Q.bank.grid (counts Q) (λ g. M (point_side f g))

-- the least weighted information above U at a point, times its multiplier
abbrev pub least_term : SeriesProblem → (ℕ → ℕ) → ℕ → ℕ → ℕ → ℕ
least_term Q M U f g = M (point_side f g) * least_above Q U g

abbrev pub least_at : SeriesProblem → (ℕ → ℕ) → ℕ → ℕ → ℕ
least_at Q M U f = sum_in Q.bank.grid (counts Q) (least_term Q M U f)
