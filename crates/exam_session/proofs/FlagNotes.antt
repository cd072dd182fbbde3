-- The flag of a band is raised.
use Rattle.std.proofs.Common.{◌≡◌, ℕ, ◌*◌, ◌%◌, ◌^◌, ◌<◌, ◌||◌, ◌==◌, inl, inr, Bool, true, false, bit_or, w8, refl, sym}
use Rattle.std.specs.Int.{bit_at}
use Rattle.std.proofs.lemmas.Bool.Decides.{eqb_tells}
use Rattle.std.proofs.lemmas.Nat.Bits.{bit_at_set_same, bit_at_set_other}
use Rattle.history_model.specs.Laws.{raised}
use Rattle.exam_session.specs.Flags.{flags_of}

or_true : (t : Bool) → true ≡ (t || true)
or_true true = refl
or_true false = refl

or_false : (t : Bool) → t ≡ (t || false)
or_false true = refl
or_false false = refl

flag : (flags band k : ℕ) → band < 8 → (bit_at (bit_or flags (1 * 2 ^ band % 2 ^ 8)) k == 1) ≡ ((bit_at flags k == 1) || (band == k))
flag flags band k lt = elim (eqb_tells band k) [
  | inl (e, same) ↦ rw (e, sym same, bit_at_set_same w8 flags band lt) (or_true (bit_at flags band == 1))
  | inr (e, other) ↦ rw (e, bit_at_set_other w8 flags band lt k (λ same. other (sym same))) (or_false (bit_at flags k == 1))
]

pub raised_is : (flags band : ℕ) → band < 8 → flags_of (bit_or flags (1 * 2 ^ band % 2 ^ 8)) ≡ raised (flags_of flags) band
raised_is flags band lt = rw (flag flags band 0 lt, flag flags band 1 lt, flag flags band 2 lt, flag flags band 3 lt, flag flags band 4 lt, flag flags band 5 lt, flag flags band 6 lt, flag flags band 7 lt) refl
