-- Sums that don't wrap, and ranges.
use Rattle.std.proofs.Common.{◌≡◌, ℕ, suc, ◌+◌, ◌*◌, ◌<◌, ◌≤◌, Bool, true, false, cond, inl, inr, List, length, get_or, w64, FitsSigned, to_z, of_z, add-one, refl, ap, ◌∙◌, arith}
use Rattle.std.specs.Prelude.{ℤ, pos, negsuc, ◌+ℤ◌, ◌-ℤ◌, ◌*ℤ◌}
use Rattle.std.proofs.lemmas.Int.{ints}
use Rattle.std.proofs.lemmas.List.{get_or_read_under}
use Rattle.form_model.specs.declared.row.Row.{Row}
use Rattle.bank_tables.specs.Items.{has}
use Rattle.bank_tables.specs.Sums.{total_z}
use Rattle.bank_tables.specs.Tables.{Tables}
use Rattle.bank_tables.specs.Validity.{IsBank}
use Rattle.form_model.specs.declared.row.Row.TheVariants.{Count, Quantity, Enemies, Stimuli}
use Rattle.certificate_model.specs.Weights.{item_activity}
use Rattle.form_model.specs.Plan.{Plan, no_row, row_at}
use Rattle.form_model.proofs.SumLaws.{either}
use Rattle.certificate_model.specs.Ranges.{IsWithin}

pub read_back : (m : ℕ) (z : ℤ) → m ≤ 9223372036854775807 → IsWithin m z → to_z w64 (of_z w64 z) ≡ z
read_back m z few w = omega (arith, ints)

pub negated : (m : ℕ) (z : ℤ) → m ≤ 9223372036854775807 → IsWithin m z → to_z w64 (of_z w64 (pos 0 -ℤ to_z w64 (of_z w64 z))) ≡ pos 0 -ℤ z
negated m z few w = omega (arith, ints)

pub summed : (m n : ℕ) (a b : ℤ) → m + n ≤ 9223372036854775807 → IsWithin m a → IsWithin n b → to_z w64 (of_z w64 (a +ℤ to_z w64 (of_z w64 b))) ≡ a +ℤ b
summed m n a b few wa wb = omega (arith, ints)

pub summed_within : (m n k : ℕ) (a b : ℤ) → m + n ≤ k → IsWithin m a → IsWithin n b → IsWithin k (a +ℤ b)
summed_within m n k a b few wa wb = record { low = omega (arith, ints); high = omega (arith, ints) }

pub wider : (m n : ℕ) (z : ℤ) → m ≤ n → IsWithin m z → IsWithin n z
wider m n z few w = record { low = omega (arith, ints); high = omega (arith, ints) }

small : (b : Bool) → ◌≤◌ (cond b 1 0) 65535
small true = omega arith
small false = omega arith

-- the row read is the plan's
pub row_read : (plan : Plan) (rows : List Row) (r : ℕ) (row : Row) → rows ≡ plan.rows → row ≡ get_or rows r row → r < length rows → row ≡ row_at plan r
row_read plan rows r row same is within = get_or_read_under rows r (length rows) row no_row is within refl ∙ ap (λ (xs : List Row). get_or xs r no_row) same

pub row_number : (plan : Plan) (rows : List Row) (r : ℕ) → rows ≡ plan.rows → r < length rows → length plan.rows ≤ 128 → r < 128
row_number plan rows r same within few = omega (arith, ap (λ (xs : List Row). length xs) same)

nat_product : (x a : ℕ) → x ≤ 16777216 → a ≤ 65535 → x * a ≤ 1099494850560
nat_product x a wx wa = grind arith

pub product_within : (p : ℤ) (a : ℕ) → IsWithin 16777216 p → a ≤ 65535 → IsWithin 1099494850560 (p *ℤ pos a)
product_within (pos x) a w few =
    let small : x ≤ 16777216 = omega (arith, ints, w.high) in
    let most = nat_product x a small few in
    record { low = omega (arith, ints, most); high = omega (arith, ints, most) }
product_within (negsuc x) a w few =
    let small : suc x ≤ 16777216 = omega (arith, ints, w.low) in
    let most = nat_product (suc x) a small few in
    record { low = omega (arith, ints, most); high = omega (arith, ints, most) }

pub total_more : (r : ℕ) (f : ℕ → ℤ) → total_z (r + 1) f ≡ total_z r f +ℤ f r
total_more r f = rw add-one refl

pub two_summed : (m n : ℕ) (a b : ℤ) → m + n ≤ 9223372036854775807 → IsWithin m a → IsWithin n b → to_z w64 (of_z w64 (to_z w64 (of_z w64 a) +ℤ to_z w64 (of_z w64 b))) ≡ a +ℤ b
two_summed m n a b few wa wb = omega (arith, ints)

pub four_summed : (a b d e : ℤ) → IsWithin 72056494526300160 a → IsWithin 72057594037927936 b → IsWithin 216172782113783808 d → IsWithin 4647714952885305344 e →
    to_z w64 (of_z w64 (to_z w64 (of_z w64 a) +ℤ to_z w64 (of_z w64 (to_z w64 (of_z w64 (to_z w64 (of_z w64 b) +ℤ to_z w64 (of_z w64 d))) +ℤ to_z w64 (of_z w64 e))))) ≡ a +ℤ ((b +ℤ d) +ℤ e)
four_summed a b d e wa wb wd we = omega (arith, ints)

pub activity_high : (b : Tables) → IsBank b → (row : Row) (i : ℕ) → item_activity b row i ≤ 65535
activity_high b bank (Count set low high) i = small (has set i)
activity_high b bank (Quantity which set low high) i = elim (either (has set i)) [ inl member ↦ rw member (bank.quantity_high i which) | inr other ↦ rw other (omega arith) ]
activity_high b bank (Enemies set) i = small (has set i)
activity_high b bank (Stimuli low high) i = omega arith

pub fits_sum : (m n : ℕ) (a b : ℤ) → m + n ≤ 9223372036854775807 → IsWithin m a → IsWithin n b → FitsSigned w64 (a +ℤ to_z w64 (of_z w64 b))
fits_sum m n a b few wa wb = omega (arith, ints)
