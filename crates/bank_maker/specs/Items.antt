-- The items of a drill.
use Rattle.std.specs.Prelude.{ℕ, ◌+◌, ◌-◌, ◌*◌, ◌/◌, ◌%◌, nat_lt, if◌then◌else◌, List, [], ◌∷◌, ◌++◌, map, ℤ, pos, neg_ℤ}
use Rattle.std.specs.List.{range_with_len}
use Rattle.std.specs.Int.{abs_diff}
use Rattle.bank_tables.specs.Tables.{Item}
use Rattle.bank_maker.specs.declared.item.DrawnItem.{DrawnItem}
use Rattle.bank_maker.specs.Draws.{draw}

-- how many items, grid points and draws for the items a drill has
abbrev pub item_count : ℕ
item_count = 120

abbrev pub grid : ℕ
grid = 11

abbrev pub draws_of_items : ℕ
draws_of_items = 360

-- item i takes three draws: the point of its greatest information, that information, its quantity
abbrev pub drawn : ℕ → ℕ → DrawnItem
drawn seed i =
    record {
      peak = draw seed (3 * i) % 11;
      height = 200 + draw seed (3 * i + 1) % 801;
      quantity = 30 + draw seed (3 * i + 2) % 91;
    }

unfoldable pub items : ℕ → List DrawnItem
items seed = map (drawn seed) (range_with_len 0 item_count)

-- five items to a stimulus among the first thirty, and none after them
abbrev pub stimulus_of : ℕ → ℕ
stimulus_of i = if nat_lt i 30 then (1 + i / 5) else 0

-- the information falls by 60 with each point away from the peak, and not below 0
abbrev pub information : DrawnItem → ℕ → ℕ
information x point = x.height - 60 * abs_diff point x.peak

-- a wrong response is the less likely the further the point is above the peak
abbrev pub wrong_loss : DrawnItem → ℕ → ℕ
wrong_loss x point = 50 + 40 * (point - x.peak)

-- a right response is the less likely the further the point is below the peak
abbrev pub right_loss : DrawnItem → ℕ → ℕ
right_loss x point = 50 + 40 * (x.peak - point)

-- the log-likelihoods
abbrev pub wrong : DrawnItem → ℕ → ℤ
wrong x point = neg_ℤ (pos (wrong_loss x point))

abbrev pub right : DrawnItem → ℕ → ℤ
right x point = neg_ℤ (pos (right_loss x point))

unfoldable pub points : List ℕ
points = range_with_len 0 grid

-- item i as a row of a bank: response 0 is wrong, response 1 is right
abbrev pub row_of : ℕ → DrawnItem → Item
row_of i x =
    record {
      stimulus = stimulus_of i;
      categories = 2;
      quantities = x.quantity ∷ [];
      info = map (information x) points;
      loglik = map (wrong x) points ++ map (right x) points;
    }
