-- The steps of sums of weights.
use Rattle.std.proofs.Common.{◌≡◌, ℕ, zero, suc, Bool, true, false, cond, ◌+◌, ◌*◌, ◌<◌, ◌≤◌, List, length, get_or, w64, to_z, of_z, refl, ap, ◌∙◌, arith}
use Rattle.std.specs.Prelude.{ℤ, pos, ◌+ℤ◌, ◌-ℤ◌, ◌*ℤ◌, ◌≤ℤ◌}
use Rattle.std.proofs.lemmas.Int.{ints}
use Rattle.std.proofs.lemmas.List.{get_or_read_under}
use Rattle.bank_tables.specs.Items.{Set}
use Rattle.bank_tables.specs.Sums.{sum_in, greatest_below}
use Rattle.bank_tables.specs.Tables.{size, info}
use Rattle.bank_tables.specs.Validity.{IsBank}
use Rattle.form_model.specs.Forms.{objective}
use Rattle.form_model.specs.Problem.{Problem}
use Rattle.form_model.specs.declared.row.Row.{Row}
use Rattle.form_model.specs.Plan.{Plan, no_row, row_at}
use Rattle.certificate_model.specs.Ranges.{IsWithin}

-- the sum of two numbers in range is what the code computes
pub item_step : (r : ℕ) (a b a' : ℤ) → r < 128 → a' ≡ a → IsWithin (r * 1099494850560) a → IsWithin 1099494850560 b → to_z w64 (of_z w64 (a' +ℤ to_z w64 (of_z w64 b))) ≡ a +ℤ b
item_step r a b a' few e wa wb = omega (arith, ints)

pub item_within : (r : ℕ) (a b : ℤ) → IsWithin (r * 1099494850560) a → IsWithin 1099494850560 b → IsWithin ((r + 1) * 1099494850560) (a +ℤ b)
item_within r a b wa wb = record { low = omega (arith, ints); high = omega (arith, ints) }

pub constant_step : (r : ℕ) (a b a' : ℤ) → r < 128 → a' ≡ a → IsWithin (r * 562941363486720) a → IsWithin 562941363486720 b → to_z w64 (of_z w64 (a' +ℤ to_z w64 (of_z w64 b))) ≡ a +ℤ b
constant_step r a b a' few e wa wb = omega (arith, ints)

pub constant_within : (r : ℕ) (a b : ℤ) → IsWithin (r * 562941363486720) a → IsWithin 562941363486720 b → IsWithin ((r + 1) * 562941363486720) (a +ℤ b)
constant_within r a b wa wb = record { low = omega (arith, ints); high = omega (arith, ints) }

-- the row read is the plan's
pub row_read : (plan : Plan) (rows : List Row) (r : ℕ) (row : Row) → rows ≡ plan.rows → row ≡ get_or rows r row → r < length rows → row ≡ row_at plan r
row_read plan rows r row same is within = get_or_read_under rows r (length rows) row no_row is within refl ∙ ap (λ (xs : List Row). get_or xs r no_row) same

pub rows_few : (plan : Plan) (rows : List Row) (r : ℕ) → rows ≡ plan.rows → r < length rows → length plan.rows ≤ 128 → r < 128
rows_few plan rows r same within few = omega (arith, ap (λ (xs : List Row). length xs) same)

pub greatest_at_most : (n most : ℕ) (f : ℕ → ℕ) → ((i : ℕ) → f i ≤ most) → greatest_below n f ≤ most
greatest_at_most zero most f h = omega arith
greatest_at_most (suc n) most f h = omega (arith, greatest_at_most n most f h, h n)

pub three_summed : (a b d : ℤ) → pos 0 ≤ℤ a → a ≤ℤ pos 256000000 → IsWithin 140735340871680 b → IsWithin 1099494850560 d → to_z w64 (of_z w64 (to_z w64 (of_z w64 a) +ℤ to_z w64 (of_z w64 (to_z w64 (of_z w64 b) +ℤ to_z w64 (of_z w64 d))))) ≡ a +ℤ (b +ℤ d)
three_summed a b d low high wb wd = omega (arith, ints)

pub same_sums : (a b d a' b' d' : ℤ) → a ≡ a' → b ≡ b' → d ≡ d' → a +ℤ (b +ℤ d) ≡ a' +ℤ (b' +ℤ d')
same_sums a b d a' b' d' e f g = cc

pub sum_at_most : (n : ℕ) (X : Set) (f : ℕ → ℕ) → ((i : ℕ) → f i ≤ 1000000) → sum_in n X f ≤ n * 1000000
sum_at_most zero X f h = omega arith
sum_at_most (suc n) X f h = omega (arith, sum_at_most n X f h, one (X n))
  where
    one : (b : Bool) → cond b (f n) 0 ≤ 1000000
    one true = h n
    one false = omega arith

pub objective_high : (P : Problem) (X : Set) → IsBank P.bank → objective P X ≤ 512000000
objective_high P X bank = omega (arith, sum_at_most (size P.bank) X (λ i. info P.bank i P.theta) (λ i. bank.info_high i P.theta), bank.few)

-- equal multipliers of both sides add nothing
pub same_sides_add_nothing : (low high part : ℕ) → low ≡ high → pos 0 ≡ (pos low -ℤ pos high) *ℤ pos part
same_sides_add_nothing low high part same =
    let none : pos low -ℤ pos high ≡ pos 0 = omega (arith, ints) in
    rw none (omega (arith, ints))
