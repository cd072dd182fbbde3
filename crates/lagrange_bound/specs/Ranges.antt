-- How far from 0 the numbers of a bound are.
use Rattle.std.specs.Prelude.{ℕ, ℤ, pos, neg_ℤ, ◌≤ℤ◌}

-- no reduced weight of an item is further from 0: 2 ^ 47
abbrev pub item_top : ℕ
item_top = 140737488355328

-- a weight in the array of them, or the number below each
pub record IsWeight (z : ℤ) : Type 0 where
  pub low : neg_ℤ (pos 140737488355329) ≤ℤ z
  pub high : z ≤ℤ pos item_top

-- what one row adds at most: a price times a quantity
abbrev pub row_top : ℕ
row_top = 1099494850560

-- a price times a bound
abbrev pub bounds_top : ℕ
bounds_top = 562941363486720

-- no reduced weight of a stimulus is further from 0
abbrev pub stimulus_top : ℕ
stimulus_top = 562943510970368

-- no reduced weight is further above a cap: 2 ^ 47 and 2 ^ 24
abbrev pub excess_top : ℕ
excess_top = 140737505132544

-- nor are 512 of them together
abbrev pub excesses_top : ℕ
excesses_top = 72057602627862528
