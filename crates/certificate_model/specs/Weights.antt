-- The reduced weights of Lagrangian relaxation: what each item and each stimulus adds to the
-- Lagrangian, where M is the multiplier of each side of the plan.
use Rattle.std.specs.Prelude.{ℕ, ◌+◌, ◌-◌, ◌*◌, Bool, cond, ◌==◌, length, ℤ, pos, ◌+ℤ◌, ◌-ℤ◌, ◌*ℤ◌}
use Rattle.bank_tables.specs.Items.{has}
use Rattle.bank_tables.specs.Tables.{Tables, info, stimulus, quantity}
use Rattle.bank_tables.specs.Sums.{total_z}
use Rattle.form_model.specs.declared.row.Row.{Row}
use Rattle.form_model.specs.declared.row.Row.TheVariants.{Count, Quantity, Enemies, Stimuli}
use Rattle.form_model.specs.Plan.{row_at, bound_at}
use Rattle.form_model.specs.Problem.{Problem}
use Rattle.form_model.specs.Forms.{lower_bound, upper_bound}

-- the price of a row or a stimulus: the multiplier of its low side less that of its high side,
-- which is the next
abbrev pub price : (ℕ → ℕ) → ℕ → ℤ
price M low_side = pos (M low_side) -ℤ pos (M (low_side + 1))

-- the upper bound times the multiplier of the high side, less the lower bound times that of the low
-- side
abbrev pub bounds_price : (ℕ → ℕ) → ℕ → ℕ → ℕ → ℤ
bounds_price M low_side low high =
    (pos (M (low_side + 1)) *ℤ pos high) -ℤ (pos (M low_side) *ℤ pos low)

-- the low side of stimulus s: the sides of the stimuli follow those of the rows
abbrev pub stimulus_side : Problem → ℕ → ℕ
stimulus_side P s = 2 * length P.plan.rows + 2 * (s - 1)

-- what an item adds to the activity of a row
abbrev pub item_activity : Tables → Row → ℕ → ℕ
item_activity b (Count set low high) i = cond (has set i) 1 0
item_activity b (Quantity which set low high) i = cond (has set i) (quantity b i which) 0
item_activity b (Enemies set) i = cond (has set i) 1 0
item_activity b (Stimuli low high) i = 0

-- what a stimulus adds to it
abbrev pub stimulus_activity : Row → ℕ
stimulus_activity (Count set low high) = 0
stimulus_activity (Quantity which set low high) = 0
stimulus_activity (Enemies set) = 0
stimulus_activity (Stimuli low high) = 1

-- 256 times the information of an item, or 0 for a ray
abbrev pub weight : Problem → Bool → ℕ → ℕ
weight P ray i = cond ray 0 (256 * info P.bank i P.theta)

-- what row r adds to the constant, to the reduced weight of item i, and to that of each stimulus
abbrev pub constant_share : Problem → (ℕ → ℕ) → ℕ → ℤ
constant_share P M r =
    bounds_price M (2 * r) (lower_bound (row_at P.plan r)) (upper_bound (row_at P.plan r))

abbrev pub item_share : Problem → (ℕ → ℕ) → ℕ → ℕ → ℤ
item_share P M i r = price M (2 * r) *ℤ pos (item_activity P.bank (row_at P.plan r) i)

abbrev pub stimulus_share : Problem → (ℕ → ℕ) → ℕ → ℤ
stimulus_share P M r = price M (2 * r) *ℤ pos (stimulus_activity (row_at P.plan r))

-- what stimulus s adds to the reduced weight of each of its items; 0 is none
abbrev pub price_of_stimulus : Problem → (ℕ → ℕ) → ℕ → ℤ
price_of_stimulus P M s = cond (s == 0) (pos 0) (price M (stimulus_side P s))

-- the reduced weight of an item: its weight, what it adds to each row times the row's price, and
-- its stimulus's price
unfoldable pub item_weight : Problem → (ℕ → ℕ) → Bool → ℕ → ℤ
item_weight P M ray i = pos (weight P ray i) +ℤ (total_z (length P.plan.rows) (item_share P M i)
    +ℤ price_of_stimulus P M (stimulus P.bank i))

-- the reduced weight of a stimulus: the price of its bounds, and of each row on stimuli
unfoldable pub stimulus_weight : Problem → (ℕ → ℕ) → ℕ → ℤ
stimulus_weight P M s =
    bounds_price M (stimulus_side P s) (bound_at P.plan s).low (bound_at P.plan s).high
    +ℤ total_z (length P.plan.rows) (stimulus_share P M)

-- the constant: the price of the bounds of each row
unfoldable pub rows_constant : Problem → (ℕ → ℕ) → ℤ
rows_constant P M = total_z (length P.plan.rows) (constant_share P M)
