-- Sums and counts over the members of a set below a bound.
use Rattle.std.specs.Prelude.{ℕ, zero, suc, ◌+◌, max, Bool, true, false, ◌||◌, cond, ℤ, pos, ◌+ℤ◌}
use Rattle.bank_tables.specs.Items.{Set}

-- the sum of f i over the members i of X below n
abbrev pub sum_in : ℕ → Set → (ℕ → ℕ) → ℕ
sum_in zero X f = 0
sum_in (suc n) X f = sum_in n X f + cond (X n) (f n) 0

-- the same of signed numbers
abbrev pub sum_in_z : ℕ → Set → (ℕ → ℤ) → ℤ
sum_in_z zero X f = pos 0
sum_in_z (suc n) X f = sum_in_z n X f +ℤ cond (X n) (f n) (pos 0)

-- the sum of f i over all i below n
abbrev pub total_z : ℕ → (ℕ → ℤ) → ℤ
total_z zero f = pos 0
total_z (suc n) f = total_z n f +ℤ f n

-- some number below n passes
abbrev pub any_below : ℕ → Set → Bool
any_below zero p = false
any_below (suc n) p = any_below n p || p n

-- how many members of X below n pass
abbrev pub count_in : ℕ → Set → Set → ℕ
count_in n X p = sum_in n X (λ i. cond (p i) 1 0)

-- how many members a set of items has: its items are below 512
unfoldable pub size_of : Set → ℕ
size_of X = count_in 512 X (λ _. true)

-- the greatest f i over the i below n, or 0
abbrev pub greatest_below : ℕ → (ℕ → ℕ) → ℕ
greatest_below zero f = 0
greatest_below (suc n) f = max (greatest_below n f) (f n)
