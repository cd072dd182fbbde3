-- Weights of items, and the heavier of two items.
use Rattle.std.specs.Prelude.{◌≡◌, ℕ, ◌⊎◌, List, ℤ, ◌≤ℤ◌, Option, Some, None}
use Rattle.certificate_model.specs.Ranges.{at}

-- no weight of an item is further from 0
abbrev pub weight_top : ℕ
weight_top = 299000000000000000000

-- nor, less the price of its form's length
abbrev pub item_top : ℕ
item_top = 300000000000000000000

-- the result is the only item, or one of two that weighs no less than the other
abbrev pub IsHeavier : List ℤ → Option ℕ → ℕ → Option ℕ → Type 0
IsHeavier weights first second None = ⊥
IsHeavier weights None second (Some result) = result ≡ second
IsHeavier weights (Some first) second (Some result) = ((result ≡ first) × (at weights second ≤ℤ at weights first)) ⊎ ((result ≡ second) × (at weights first ≤ℤ at weights second))
