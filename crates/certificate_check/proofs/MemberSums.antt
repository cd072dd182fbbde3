-- The sum over the members of a set, one member at a time.
use Rattle.std.proofs.Common.{◌≡◌, ◌≢◌, ℕ, zero, suc, ◌+◌, ◌*◌, ◌<◌, ◌≤◌, inl, inr, Bool, true, false, not, ◌&&◌, ◌==◌, refl, sym, ap, ◌∙◌, arith, w64, FitsSigned, to_z, of_z}
use Rattle.std.specs.Prelude.{ℤ, pos, ◌+ℤ◌}
use Rattle.std.proofs.lemmas.Int.{ints}
use Rattle.std.proofs.lemmas.Bool.{cases_lt, eq-eqb, ne_eqb}
use Rattle.bank_tables.specs.Items.{Set}
use Rattle.bank_tables.specs.Sums.{sum_in_z}
use Rattle.certificate_model.specs.Ranges.{IsWithin}
use Rattle.form_model.proofs.SumLaws.{either}
use Rattle.certificate_check.specs.Weights.{item_top}

pub none_below : (n : ℕ) (X : Set) (f : ℕ → ℤ) → ((i : ℕ) → i < n → X i ≡ false) → sum_in_z n X f ≡ pos 0
none_below zero X f none = refl
none_below (suc n) X f none =
    let rest = none_below n X f (λ i w. none i (omega arith)) in
    rw (none n (omega arith)) (omega (arith, ints))

-- of 512 numbers near 0 no sum is far from 0
most : (n : ℕ) (X : Set) (f : ℕ → ℤ) → ((i : ℕ) → i < n → IsWithin item_top (f i)) → IsWithin (n * 141835091722240) (sum_in_z n X f)
most zero X f within = record { low = omega (arith, ints); high = omega (arith, ints) }
most (suc n) X f within =
    let rest = most n X f (λ i w. within i (omega arith)) in
    let last = within n (omega arith) in
    elim (either (X n)) [
      | inl member ↦ rw member (record { low = omega (arith, ints, rest.low, last.low); high = omega (arith, ints, rest.high, last.high) })
      | inr other ↦ rw other (record { low = omega (arith, ints, rest.low); high = omega (arith, ints, rest.high) })
    ]

pub sum_within : (n : ℕ) (X : Set) (f : ℕ → ℤ) → n ≤ 512 → ((i : ℕ) → i < n → IsWithin item_top (f i)) → IsWithin 72619566961786880 (sum_in_z n X f)
sum_within n X f few within = let w = most n X f within in record { low = omega (arith, ints, w.low); high = omega (arith, ints, w.high) }

pub same_below : (n : ℕ) (X Y : Set) (f : ℕ → ℤ) → ((i : ℕ) → i < n → X i ≡ Y i) → sum_in_z n X f ≡ sum_in_z n Y f
same_below zero X Y f same = refl
same_below (suc n) X Y f same = rw (same_below n X Y f (λ i w. same i (omega arith)), same n (omega arith)) refl

-- a member and the rest of the set
member_and_rest : (n i : ℕ) (X Y : Set) (f : ℕ → ℤ) → i < n → X i ≡ true → ((h : ℕ) → Y h ≡ (not (h == i) && X h)) → sum_in_z n X f ≡ f i +ℤ sum_in_z n Y f
member_and_rest zero i X Y f w here without = absurd (omega arith)
member_and_rest (suc n) i X Y f w here without =
    elim (cases_lt i n) [
      | inl before ↦
          let ne : n ≢ i = omega arith in
          let same : Y n ≡ X n = without n ∙ ap (λ (b : Bool). not b && X n) (ne_eqb n i ne) in
          let rest = member_and_rest n i X Y f before here without in
          rw same (omega (arith, ints, rest))
      | inr last ↦
          let e : n ≡ i = omega arith in
          let in_X : X n ≡ true = ap X e ∙ here in
          let out : Y n ≡ false = without n ∙ ap (λ (b : Bool). not b && X n) (eq-eqb n i e) in
          let rest : sum_in_z n X f ≡ sum_in_z n Y f = same_below n X Y f (λ h v. sym (without h ∙ ap (λ (b : Bool). not b && X h) (ne_eqb h i (omega arith)))) in
          let this : f n ≡ f i = ap f e in
          rw (in_X, out) (omega (arith, ints, rest, this))
    ]

-- what is summed so far is near 0, and a member more
near : (x l m sum y : ℤ) → sum +ℤ l ≡ x → l ≡ y +ℤ m → IsWithin 72619566961786880 x → IsWithin 72619566961786880 m → IsWithin item_top y → IsWithin 145239133923573760 (sum +ℤ y)
near x l m sum y e f wx wm wy = record { low = omega (arith, ints, e, f, wx.low, wx.high, wm.low, wm.high); high = omega (arith, ints, e, f, wx.low, wx.high, wm.low, wm.high) }

no_wrap : (sum y : ℤ) → IsWithin item_top y → IsWithin 145239133923573760 (sum +ℤ y) → to_z w64 (of_z w64 (sum +ℤ to_z w64 (of_z w64 y))) ≡ sum +ℤ y
no_wrap sum y wy w = omega (arith, ints)

fits : (sum y : ℤ) → IsWithin item_top y → IsWithin 145239133923573760 (sum +ℤ y) → FitsSigned w64 (sum +ℤ to_z w64 (of_z w64 y))
fits sum y wy w = omega (arith, ints)

moved : (x l m sum y z : ℤ) → sum +ℤ l ≡ x → l ≡ y +ℤ m → z ≡ sum +ℤ y → z +ℤ m ≡ x
moved x l m sum y z e f g = omega (arith, ints)

-- of a member that is left: the rest of the set is left after it
module _ (n i : ℕ) (X left left' : Set) (f : ℕ → ℤ) (sum : ℤ) (few : n ≤ 512) (within : (h : ℕ) → h < n → IsWithin item_top (f h)) (w : i < n) (here : left i ≡ true) (without : (h : ℕ) → left' h ≡ (not (h == i) && left h)) (before : sum +ℤ sum_in_z n left f ≡ sum_in_z n X f) where
  parts : sum_in_z n left f ≡ f i +ℤ sum_in_z n left' f
  parts = member_and_rest n i left left' f w here without

  both_near : IsWithin 145239133923573760 (sum +ℤ f i)
  both_near = near (sum_in_z n X f) (sum_in_z n left f) (sum_in_z n left' f) sum (f i) before parts (sum_within n X f few within) (sum_within n left' f few within) (within i w)

  pub member_fits : FitsSigned w64 (sum +ℤ to_z w64 (of_z w64 (f i)))
  member_fits = fits sum (f i) (within i w) both_near

  pub one_summed : to_z w64 (of_z w64 (sum +ℤ to_z w64 (of_z w64 (f i)))) +ℤ sum_in_z n left' f ≡ sum_in_z n X f
  one_summed = moved (sum_in_z n X f) (sum_in_z n left f) (sum_in_z n left' f) sum (f i) (to_z w64 (of_z w64 (sum +ℤ to_z w64 (of_z w64 (f i))))) before parts (no_wrap sum (f i) (within i w) both_near)

-- nothing is left
pub all_summed : (n : ℕ) (X left : Set) (f : ℕ → ℤ) (sum : ℤ) → ((h : ℕ) → h < n → left h ≡ false) → sum +ℤ sum_in_z n left f ≡ sum_in_z n X f → sum ≡ sum_in_z n X f
all_summed n X left f sum none e = let zero_left = none_below n left f none in omega (arith, ints, e, zero_left)
