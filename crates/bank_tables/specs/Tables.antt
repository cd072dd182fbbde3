-- The numbers of an item bank.
use Rattle.std.specs.Prelude.{ℕ, ◌+◌, ◌*◌, ℤ, pos, [], length, get_or}
use Rattle.bank_tables.specs.declared.rows.ItemRow.{ItemRow}
use Rattle.bank_tables.specs.declared.rows.Rows.{Rows}

-- a grid of ability points, a number of quantities, and for each item its stimulus, its number of
-- response categories, its quantities, its information at each grid point, and its log-likelihoods
-- by response and point
abbrev pub Tables : Type 0
Tables = Rows

abbrev pub Item : Type 0
Item = ItemRow

-- the item that is read past the last one
abbrev pub no_item : Item
no_item = record { stimulus = 0; categories = 0; quantities = []; info = []; loglik = [] }

abbrev pub size : Tables → ℕ
size b = length b.items

abbrev pub item : Tables → ℕ → Item
item b i = get_or b.items i no_item

-- 0 is no stimulus
abbrev pub stimulus : Tables → ℕ → ℕ
stimulus b i = (item b i).stimulus

abbrev pub categories : Tables → ℕ → ℕ
categories b i = (item b i).categories

abbrev pub quantity : Tables → ℕ → ℕ → ℕ
quantity b i which = get_or (item b i).quantities which 0

abbrev pub info : Tables → ℕ → ℕ → ℕ
info b i point = get_or (item b i).info point 0

-- read only at a point of the grid; the numbers are in order of response, then of point
abbrev pub loglik : Tables → ℕ → ℕ → ℕ → ℤ
loglik b i response point = get_or (item b i).loglik (response * b.grid + point) (pos 0)
