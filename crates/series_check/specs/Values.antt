-- The value of sets, one point and one form after the other.
use Rattle.std.specs.Prelude.{◌≡◌, ℕ, ◌≤◌, ◌<◌, ◌⊎◌, IsTrue, Option, Some, None}
use Rattle.bank_tables.specs.Items.{Set}
use Rattle.series_model.specs.Series.{SeriesProblem, Forms, weight_of, weighted_information}

-- no item is in two of the first sets
abbrev pub AreApart : ℕ → Forms → Type 0
AreApart k S = (f g i : ℕ) → f < k → g < k → IsTrue (S f i) → IsTrue (S g i) → f ≡ g

-- the lesser of a number, or none, and another
abbrev pub IsLesser : Option ℕ → ℕ → ℕ → Type 0
IsLesser None second result = result ≡ second
IsLesser (Some first) second result = ((result ≡ first) × (first ≤ second)) ⊎ ((result ≡ second) × (second ≤ first))

-- the least weighted information of a set at the points below m that count, or there are none
abbrev pub IsLeastTo : SeriesProblem → Set → ℕ → Option ℕ → Type 0
IsLeastTo Q X m None = (g : ℕ) → g < m → weight_of Q g ≡ 0
IsLeastTo Q X m (Some V) = ((g : ℕ) → g < m → 0 < weight_of Q g → V ≤ weighted_information Q X g) × ((g : ℕ) × (g < m) × (0 < weight_of Q g) × (V ≡ weighted_information Q X g))

-- the least of those of the forms below k, or none
abbrev pub IsLeastOf : SeriesProblem → Forms → ℕ → Option ℕ → Type 0
IsLeastOf Q S k None = k ≡ 0
IsLeastOf Q S k (Some V) = ((f g : ℕ) → f < k → 0 < weight_of Q g → V ≤ weighted_information Q (S f) g) × ((f : ℕ) × (g : ℕ) × (f < k) × (0 < weight_of Q g) × (V ≡ weighted_information Q (S f) g))
