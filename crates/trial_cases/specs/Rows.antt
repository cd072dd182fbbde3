-- Items of two response categories, and those of bank L.
use Rattle.std.specs.Prelude.{ℕ, ◌+◌, ◌-◌, ◌*◌, ◌/◌, ◌%◌, ◌&&◌, if◌then◌else◌, nat_lt, List, [], ◌∷◌, ◌++◌, map, ℤ, pos, neg_ℤ}
use Rattle.std.specs.List.{range_with_len}
use Rattle.bank_tables.specs.Tables.{Tables, Item}

-- an item of two response categories
abbrev pub two_categories : ℕ → List ℕ → List ℕ → List ℤ → Item
two_categories stimulus quantities info loglik = record { stimulus = stimulus; categories = 2; quantities = quantities; info = info; loglik = loglik }

-- ---- bank L: twelve tens of items on seven points; the items before another of its ten have more
-- information, and so have the tens before its ten
abbrev pub points_l : List ℕ
points_l = 0 ∷ 1 ∷ 2 ∷ 3 ∷ 4 ∷ 5 ∷ 6 ∷ []

-- the first two items of each of the first six tens have a stimulus
abbrev pub stimulus_l : ℕ → ℕ
stimulus_l i = if nat_lt (i / 10) 6 && nat_lt (i % 10) 2 then i / 10 + 1 else 0

abbrev pub info_l : ℕ → ℕ → ℕ
info_l i point = 500 * (11 - i / 10) + 100 * (9 - i % 10) + 3 * ((i + point) % 7)

abbrev pub loglik_l : ℕ → ℕ → ℕ → ℤ
loglik_l i response point = neg_ℤ (pos (1 + (7 * i + 3 * response + 5 * point) % 11))

unfoldable pub item_l : ℕ → Item
item_l i = two_categories (stimulus_l i) (60 ∷ []) (map (info_l i) points_l) (map (loglik_l i 0) points_l ++ map (loglik_l i 1) points_l)

unfoldable pub bank_l : Tables
bank_l = record { grid = 7; quantities = 1; items = map item_l (range_with_len 0 120) }
