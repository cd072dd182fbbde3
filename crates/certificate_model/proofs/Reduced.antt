-- The relaxed maximum by reduced weights: a constant, a weight for each item, and a weight for each
-- stimulus.
use Rattle.std.proofs.Common.{◌≡◌, ℕ, zero, suc, ◌+◌, ◌-◌, ◌*◌, ◌≤◌, ◌<◌, ◌⊎◌, inl, inr, Bool, true, false, cond, not, ◌&&◌, ◌==◌, length, ℤ, pos, ◌+ℤ◌, ◌-ℤ◌, ◌*ℤ◌, neg_ℤ, refl, sym, ap, ◌∙◌, arith, nat_lt}
use Rattle.std.proofs.lemmas.Int.{ints}
use Rattle.std.proofs.lemmas.Bool.{eqb-true, eq-eqb, ne_eqb}
use Rattle.std.proofs.Math.IntN.{*ℤ_comm}
use borrow.Author.Differences.{up, down}
use Rattle.bank_tables.specs.Items.{Set}
use Rattle.bank_tables.specs.Tables.{size, stimulus}
use Rattle.form_model.specs.declared.row.Row.{Row}
use Rattle.form_model.specs.declared.row.Row.TheVariants.{Count, Quantity, Enemies, Stimuli}
use Rattle.bank_tables.specs.Sums.{sum_in, sum_in_z, total_z}
use Rattle.form_model.specs.Forms.{activity, lower_bound, upper_bound, items_of, stimuli_of}
use Rattle.form_model.specs.Plan.{row_at, bound_at}
use Rattle.form_model.specs.Problem.{Problem}
use Rattle.certificate_model.specs.Paths.{Path, is_free, is_chosen}
use Rattle.certificate_model.specs.Weights.{item_activity, stimulus_activity, weight}
use Rattle.certificate_model.specs.Relaxed.{Multipliers, multiplier, weighted_slacks, weighted_stimulus_slacks, lagrangian_without_links, link_multiplier, weighted_link_slack, lagrangian}
use Rattle.certificate_model.specs.ClosedForm.{excess_of_items}
use Rattle.form_model.proofs.SumLaws.{either, at_most_greatest}

mul_add : (m a b : ℤ) → m *ℤ (a +ℤ b) ≡ (m *ℤ a) +ℤ (m *ℤ b)
mul_add m a b =
    let e : up (a +ℤ b) + (down a + down b) ≡ down (a +ℤ b) + (up a + up b) = omega (arith, ints) in
    let e-up : up m * (up (a +ℤ b) + (down a + down b)) ≡ up m * (down (a +ℤ b) + (up a + up b)) = ap (λ (x : ℕ). up m * x) e in
    let e-down : down m * (up (a +ℤ b) + (down a + down b)) ≡ down m * (down (a +ℤ b) + (up a + up b)) = ap (λ (x : ℕ). down m * x) e in
    omega (arith, ints)

mul_zero : (m : ℤ) → m *ℤ pos 0 ≡ pos 0
mul_zero m = omega (arith, ints)

-- ---- sums of signed numbers
pub total_z-add : (n : ℕ) (f g : ℕ → ℤ) → total_z n (λ i. f i +ℤ g i) ≡ total_z n f +ℤ total_z n g
total_z-add zero f g = omega (arith, ints)
total_z-add (suc n) f g = omega (arith, ints, total_z-add n f g)

pub sum_in_z-add : (n : ℕ) (X : Set) (f g : ℕ → ℤ) → sum_in_z n X (λ i. f i +ℤ g i) ≡ sum_in_z n X f +ℤ sum_in_z n X g
sum_in_z-add zero X f g = omega (arith, ints)
sum_in_z-add (suc n) X f g =
    let rest = sum_in_z-add n X f g in
    elim (either (X n)) [ inl in_X ↦ rw in_X (omega (arith, ints)) | inr not_in_X ↦ rw not_in_X (omega (arith, ints)) ]

sum_in_z-mul : (n : ℕ) (X : Set) (m : ℤ) (f : ℕ → ℤ) → sum_in_z n X (λ i. m *ℤ f i) ≡ m *ℤ sum_in_z n X f
sum_in_z-mul zero X m f = omega (arith, ints)
sum_in_z-mul (suc n) X m f =
    let rest = sum_in_z-mul n X m f in
    elim (either (X n)) [
      | inl in_X ↦ rw in_X (omega (arith, ints, mul_add m (sum_in_z n X f) (f n)))
      | inr not_in_X ↦ rw not_in_X (omega (arith, ints, mul_add m (sum_in_z n X f) (pos 0), mul_zero m))
    ]

sum_in_z-zero : (n : ℕ) (X : Set) → sum_in_z n X (λ i. pos 0) ≡ pos 0
sum_in_z-zero zero X = refl
sum_in_z-zero (suc n) X = let rest = sum_in_z-zero n X in elim (either (X n)) [ inl in_X ↦ rw in_X (omega (arith, ints)) | inr not_in_X ↦ rw not_in_X (omega (arith, ints)) ]

-- a sum over items of a sum over rows is a sum over rows of a sum over items
sum_in_z-total_z : (n : ℕ) (X : Set) (m : ℕ) (f : ℕ → ℕ → ℤ) → sum_in_z n X (λ i. total_z m (λ r. f r i)) ≡ total_z m (λ r. sum_in_z n X (f r))
sum_in_z-total_z n X zero f = sum_in_z-zero n X
sum_in_z-total_z n X (suc m) f = sum_in_z-add n X (λ i. total_z m (λ r. f r i)) (f m) ∙ ap (λ z. z +ℤ sum_in_z n X (f m)) (sum_in_z-total_z n X m f)

pos-sum_in : (n : ℕ) (X : Set) (f : ℕ → ℕ) → pos (sum_in n X f) ≡ sum_in_z n X (λ i. pos (f i))
pos-sum_in zero X f = refl
pos-sum_in (suc n) X f =
    let rest = pos-sum_in n X f in
    elim (either (X n)) [ inl in_X ↦ rw in_X (omega (arith, ints)) | inr not_in_X ↦ rw not_in_X (omega (arith, ints)) ]

-- ---- linear forms in the items and the stimuli
pub record Linear : Type 0 where
  pub constant : ℤ
  pub item : ℕ → ℤ
  pub stimulus : ℕ → ℤ

-- n items, top stimuli from 1 on
abbrev pub at : ℕ → ℕ → Linear → Set → Set → ℤ
at n top L X Z = L.constant +ℤ (sum_in_z n X L.item +ℤ sum_in_z top (λ k. Z (suc k)) (λ k. L.stimulus (suc k)))

abbrev pub plus : Linear → Linear → Linear
plus K L = record { constant = K.constant +ℤ L.constant; item = λ i. K.item i +ℤ L.item i; stimulus = λ s. K.stimulus s +ℤ L.stimulus s }

abbrev pub times : ℤ → Linear → Linear
times m L = record { constant = m *ℤ L.constant; item = λ i. m *ℤ L.item i; stimulus = λ s. m *ℤ L.stimulus s }

abbrev pub sum_of : ℕ → (ℕ → Linear) → Linear
sum_of m L = record { constant = total_z m (λ r. (L r).constant); item = λ i. total_z m (λ r. (L r).item i); stimulus = λ s. total_z m (λ r. (L r).stimulus s) }

module _ (n top : ℕ) (X Z : Set) where
  at-plus : (K L : Linear) → at n top (plus K L) X Z ≡ at n top K X Z +ℤ at n top L X Z
  at-plus K L =
      let items = sum_in_z-add n X K.item L.item in
      let stimuli = sum_in_z-add top (λ k. Z (suc k)) (λ k. K.stimulus (suc k)) (λ k. L.stimulus (suc k)) in
      omega (arith, ints)

  at-times : (m : ℤ) (L : Linear) → at n top (times m L) X Z ≡ m *ℤ at n top L X Z
  at-times m L =
      rw (sum_in_z-mul n X m L.item, sum_in_z-mul top (λ k. Z (suc k)) m (λ k. L.stimulus (suc k)))
      (omega (arith, ints, mul_add m L.constant (sum_in_z n X L.item +ℤ sum_in_z top (λ k. Z (suc k)) (λ k. L.stimulus (suc k))), mul_add m (sum_in_z n X L.item) (sum_in_z top (λ k. Z (suc k)) (λ k. L.stimulus (suc k)))))

  at-sum_of : (m : ℕ) (L : ℕ → Linear) → at n top (sum_of m L) X Z ≡ total_z m (λ r. at n top (L r) X Z)
  at-sum_of m L =
      rw (
        sum_in_z-total_z n X m (λ r. (L r).item),
        sum_in_z-total_z top (λ k. Z (suc k)) m (λ r k. (L r).stimulus (suc k)),
        total_z-add m (λ r. (L r).constant) (λ r. sum_in_z n X (L r).item +ℤ sum_in_z top (λ k. Z (suc k)) (λ k. (L r).stimulus (suc k))),
        total_z-add m (λ r. sum_in_z n X (L r).item) (λ r. sum_in_z top (λ k. Z (suc k)) (λ k. (L r).stimulus (suc k))),
      ) refl

pub total_z-same : (n : ℕ) (f g : ℕ → ℤ) → ((i : ℕ) → i < n → f i ≡ g i) → total_z n f ≡ total_z n g
total_z-same zero f g h = refl
total_z-same (suc n) f g h = let rest = total_z-same n f g (λ i w. h i (omega arith)) in let last = h n (omega arith) in omega (arith, ints)

-- ---- the reduced weights
unfoldable pub amount_linear : Problem → Row → Linear
amount_linear P row = record { constant = pos 0; item = λ i. pos (item_activity P.bank row i); stimulus = λ s. pos (stimulus_activity row) }

pos-activity : (P : Problem) (row : Row) (X Z : Set) → pos (activity P.bank row X Z) ≡ at (size P.bank) (stimuli_of P.bank) (amount_linear P row) X Z
unfolding amount_linear
pos-activity P (Count set low high) X Z = let a = pos-sum_in (size P.bank) X (item_activity P.bank (Count set low high)) in let b = sum_in_z-zero (stimuli_of P.bank) (λ k. Z (suc k)) in omega (arith, ints)
pos-activity P (Quantity which set low high) X Z = let a = pos-sum_in (size P.bank) X (item_activity P.bank (Quantity which set low high)) in let b = sum_in_z-zero (stimuli_of P.bank) (λ k. Z (suc k)) in omega (arith, ints)
pos-activity P (Enemies set) X Z = let a = pos-sum_in (size P.bank) X (item_activity P.bank (Enemies set)) in let b = sum_in_z-zero (stimuli_of P.bank) (λ k. Z (suc k)) in omega (arith, ints)
pos-activity P (Stimuli low high) X Z = let a = sum_in_z-zero (size P.bank) X in let b = pos-sum_in (stimuli_of P.bank) (λ k. Z (suc k)) (λ _. 1) in omega (arith, ints)

mul_neg : (m b : ℤ) → m *ℤ neg_ℤ b ≡ neg_ℤ (m *ℤ b)
mul_neg m b =
    let e : up (neg_ℤ b) + up b ≡ down (neg_ℤ b) + down b = omega (arith, ints) in
    let e-up : up m * (up (neg_ℤ b) + up b) ≡ up m * (down (neg_ℤ b) + down b) = ap (λ (x : ℕ). up m * x) e in
    let e-down : down m * (up (neg_ℤ b) + up b) ≡ down m * (down (neg_ℤ b) + down b) = ap (λ (x : ℕ). down m * x) e in
    omega (arith, ints)

-- m times (a - b), and (m - k) times a
mul_sub : (m a b : ℤ) → m *ℤ (a -ℤ b) ≡ (m *ℤ a) -ℤ (m *ℤ b)
mul_sub m a b = omega (arith, ints, mul_add m a (neg_ℤ b), mul_neg m b)

sub_mul : (m k a : ℤ) → (m -ℤ k) *ℤ a ≡ (m *ℤ a) -ℤ (k *ℤ a)
sub_mul m k a = let e = mul_sub a m k in omega (arith, ints, *ℤ_comm (m -ℤ k) a, *ℤ_comm m a, *ℤ_comm k a)

two_sides : (m k a low high : ℤ) → (m *ℤ (a -ℤ low)) +ℤ (k *ℤ (high -ℤ a)) ≡ ((k *ℤ high) -ℤ (m *ℤ low)) +ℤ ((m -ℤ k) *ℤ a)
two_sides m k a low high = omega (arith, ints, mul_sub m a low, mul_sub k high a, sub_mul m k a)

unfoldable pub constant_form : ℤ → Linear
constant_form c = record { constant = c; item = λ _. pos 0; stimulus = λ _. pos 0 }

at-constant : (n top : ℕ) (X Z : Set) (c : ℤ) → at n top (constant_form c) X Z ≡ c
unfolding constant_form
at-constant n top X Z c = let a = sum_in_z-zero n X in let b = sum_in_z-zero top (λ k. Z (suc k)) in omega (arith, ints)

abbrev pub low_multiplier : Multipliers → ℕ → ℤ
low_multiplier v r = pos (multiplier v (2 * r))

abbrev pub high_multiplier : Multipliers → ℕ → ℤ
high_multiplier v r = pos (multiplier v (2 * r + 1))

unfoldable pub row_linear : Problem → Multipliers → ℕ → Linear
row_linear P v r =
    let row = row_at P.plan r in
    plus (constant_form ((high_multiplier v r *ℤ pos (upper_bound row)) -ℤ (low_multiplier v r *ℤ pos (lower_bound row)))) (times (low_multiplier v r -ℤ high_multiplier v r) (amount_linear P row))

at-row : (P : Problem) (v : Multipliers) (X Z : Set) (r : ℕ) → weighted_slacks P v X Z r ≡ at (size P.bank) (stimuli_of P.bank) (row_linear P v r) X Z
unfolding row_linear
at-row P v X Z r =
    let row = row_at P.plan r in
    let n = size P.bank in
    let top = stimuli_of P.bank in
    let c = (high_multiplier v r *ℤ pos (upper_bound row)) -ℤ (low_multiplier v r *ℤ pos (lower_bound row)) in
    two_sides (low_multiplier v r) (high_multiplier v r) (pos (activity P.bank row X Z)) (pos (lower_bound row)) (pos (upper_bound row))
    ∙ ap (λ z. c +ℤ ((low_multiplier v r -ℤ high_multiplier v r) *ℤ z)) (pos-activity P row X Z)
    ∙ ap (λ z. c +ℤ z) (sym (at-times n top X Z (low_multiplier v r -ℤ high_multiplier v r) (amount_linear P row)))
    ∙ ap (λ z. z +ℤ at n top (times (low_multiplier v r -ℤ high_multiplier v r) (amount_linear P row)) X Z) (sym (at-constant n top X Z c))
    ∙ sym (at-plus n top X Z (constant_form c) (times (low_multiplier v r -ℤ high_multiplier v r) (amount_linear P row)))

-- ---- the sides of the stimuli
unfoldable pub low_stimulus : Problem → Multipliers → ℕ → ℤ
low_stimulus P v s = pos (multiplier v (2 * length P.plan.rows + 2 * (s - 1)))

unfoldable pub high_stimulus : Problem → Multipliers → ℕ → ℤ
high_stimulus P v s = pos (multiplier v (2 * length P.plan.rows + 2 * (s - 1) + 1))

-- what a chosen stimulus adds by its own sides
unfoldable pub own_weight : Problem → Multipliers → ℕ → ℤ
own_weight P v s = (high_stimulus P v s *ℤ pos (bound_at P.plan s).high) -ℤ (low_stimulus P v s *ℤ pos (bound_at P.plan s).low)

unfoldable pub items_linear : Problem → Multipliers → ℕ → Linear
items_linear P v s = times (low_stimulus P v s -ℤ high_stimulus P v s) (record { constant = pos 0; item = λ i. pos (cond (stimulus P.bank i == s) 1 0); stimulus = λ _. pos 0 })

pos-items_of : (P : Problem) (s : ℕ) (X Z : Set) → pos (items_of P.bank s X) ≡ at (size P.bank) (stimuli_of P.bank) (record { constant = pos 0; item = λ i. pos (cond (stimulus P.bank i == s) 1 0); stimulus = λ _. pos 0 }) X Z
pos-items_of P s X Z = let a = pos-sum_in (size P.bank) X (λ i. cond (stimulus P.bank i == s) 1 0) in let b = sum_in_z-zero (stimuli_of P.bank) (λ k. Z (suc k)) in omega (arith, ints)

own_part : (m k : ℤ) (low high : ℕ) (z : Bool) → (k *ℤ pos (cond z high 0)) -ℤ (m *ℤ pos (cond z low 0)) ≡ cond z ((k *ℤ pos high) -ℤ (m *ℤ pos low)) (pos 0)
own_part m k low high true = refl
own_part m k low high false = omega (arith, ints, mul_zero m, mul_zero k)

at-stimulus : (P : Problem) (v : Multipliers) (X Z : Set) (s : ℕ) → weighted_stimulus_slacks P v X Z s ≡ cond (Z s) (own_weight P v s) (pos 0) +ℤ at (size P.bank) (stimuli_of P.bank) (items_linear P v s) X Z
unfolding own_weight items_linear low_stimulus high_stimulus
at-stimulus P v X Z s =
    let m = low_stimulus P v s in
    let k = high_stimulus P v s in
    let held : Linear = record { constant = pos 0; item = λ i. pos (cond (stimulus P.bank i == s) 1 0); stimulus = λ _. pos 0 } in
    two_sides m k (pos (items_of P.bank s X)) (pos (cond (Z s) (bound_at P.plan s).low 0)) (pos (cond (Z s) (bound_at P.plan s).high 0))
    ∙ ap (λ z. z +ℤ ((m -ℤ k) *ℤ pos (items_of P.bank s X))) (own_part m k (bound_at P.plan s).low (bound_at P.plan s).high (Z s))
    ∙ ap (λ z. cond (Z s) (own_weight P v s) (pos 0) +ℤ ((m -ℤ k) *ℤ z)) (pos-items_of P s X Z)
    ∙ ap (λ z. cond (Z s) (own_weight P v s) (pos 0) +ℤ z) (sym (at-times (size P.bank) (stimuli_of P.bank) X Z (m -ℤ k) held))

pub total_z-cond : (n : ℕ) (X : Set) (f : ℕ → ℤ) → total_z n (λ i. cond (X i) (f i) (pos 0)) ≡ sum_in_z n X f
total_z-cond zero X f = refl
total_z-cond (suc n) X f = ap (λ z. z +ℤ cond (X n) (f n) (pos 0)) (total_z-cond n X f)

-- ---- without the links
unfoldable pub unlinked : Problem → Multipliers → Bool → Linear
unlinked P v ray =
    plus (record { constant = pos 0; item = λ i. pos (weight P ray i); stimulus = own_weight P v })
    (plus (sum_of (length P.plan.rows) (row_linear P v)) (sum_of (stimuli_of P.bank) (λ k. items_linear P v (suc k))))

pub lagrangian-unlinked : (P : Problem) (v : Multipliers) (ray : Bool) (X Z : Set) → lagrangian_without_links P v ray X Z ≡ at (size P.bank) (stimuli_of P.bank) (unlinked P v ray) X Z
unfolding lagrangian_without_links unlinked
lagrangian-unlinked P v ray X Z =
    let n = size P.bank in
    let top = stimuli_of P.bank in
    let rows = sum_of (length P.plan.rows) (row_linear P v) in
    let items = sum_of (stimuli_of P.bank) (λ k. items_linear P v (suc k)) in
    let first : Linear = record { constant = pos 0; item = λ i. pos (weight P ray i); stimulus = own_weight P v } in
    let objective = pos-sum_in n X (weight P ray) in
    let own = total_z-cond top (λ k. Z (suc k)) (λ k. own_weight P v (suc k)) in
    let r = total_z-same (length P.plan.rows) (weighted_slacks P v X Z) (λ r. at n top (row_linear P v r) X Z) (λ r w. at-row P v X Z r) in
    let r' = at-sum_of n top X Z (length P.plan.rows) (row_linear P v) in
    let s = total_z-same top (λ k. weighted_stimulus_slacks P v X Z (suc k)) (λ k. cond (Z (suc k)) (own_weight P v (suc k)) (pos 0) +ℤ at n top (items_linear P v (suc k)) X Z) (λ k w. at-stimulus P v X Z (suc k)) in
    let s' = total_z-add top (λ k. cond (Z (suc k)) (own_weight P v (suc k)) (pos 0)) (λ k. at n top (items_linear P v (suc k)) X Z) in
    let s'' = at-sum_of n top X Z top (λ k. items_linear P v (suc k)) in
    let p = at-plus n top X Z first (plus rows items) in
    let q = at-plus n top X Z rows items in
    omega (arith, ints)

-- ---- the links
-- of the stimuli up to top one is x, or none where x is 0
other_stimulus : (x s : ℕ) (z : Bool) (m : ℤ) → (x ≡ s → ⊥) → cond z (cond (x == s) m (pos 0)) (pos 0) ≡ pos 0
other_stimulus x s true m h = rw (ne_eqb x s h) refl
other_stimulus x s false m h = refl

none_of : (top x : ℕ) (Z : Set) (m : ℤ) → top < x → sum_in_z top (λ k. Z (suc k)) (λ k. cond (x == suc k) m (pos 0)) ≡ pos 0
none_of zero x Z m w = refl
none_of (suc top) x Z m w = let rest = none_of top x Z m (omega arith) in let last = other_stimulus x (suc top) (Z (suc top)) m (λ e. omega arith) in omega (arith, ints)

no_multiplier : (z : Bool) (m : ℤ) → m ≡ pos 0 → cond z m (pos 0) ≡ pos 0
no_multiplier true m e = e
no_multiplier false m e = refl

one_of : (top x : ℕ) (Z : Set) (m : ℤ) → x ≤ top → (x ≡ 0 → m ≡ pos 0) → sum_in_z top (λ k. Z (suc k)) (λ k. cond (x == suc k) m (pos 0)) ≡ cond (Z x) m (pos 0)
one_of zero x Z m w none = sym (no_multiplier (Z x) m (none (omega arith)))
one_of (suc top) x Z m w none =
    elim (last_or x (suc top) (omega arith)) [
      | inl before ↦
          let rest = one_of top x Z m (omega arith) none in
          let last = other_stimulus x (suc top) (Z (suc top)) m (λ e. omega arith) in
          omega (arith, ints)
      | inr at ↦
          let rest = none_of top x Z m (omega arith) in
          let same : cond (Z (suc top)) (cond (x == suc top) m (pos 0)) (pos 0) ≡ cond (Z x) m (pos 0) =
          ap (λ (b : Bool). cond (Z (suc top)) (cond b m (pos 0)) (pos 0)) (eq-eqb x (suc top) at) ∙ ap (λ (s : ℕ). cond (Z s) m (pos 0)) (sym at) in
          omega (arith, ints)
    ]
  where
    last_or : (i n : ℕ) → i < suc n → (i < n) ⊎ (i ≡ n)
    last_or i n w = grind arith

-- a sum over the stimuli of Z and the items of each is a sum over the items whose stimulus is in Z
pub by_stimulus : (n top : ℕ) (stimulus : ℕ → ℕ) (Z : Set) (m : ℕ → ℤ) → ((i : ℕ) → i < n → stimulus i ≤ top) → ((i : ℕ) → stimulus i ≡ 0 → m i ≡ pos 0)
    → sum_in_z top (λ k. Z (suc k)) (λ k. sum_in_z n (λ i. stimulus i == suc k) m) ≡ total_z n (λ i. cond (Z (stimulus i)) (m i) (pos 0))
by_stimulus zero top stimulus Z m low none = sum_in_z-zero top (λ k. Z (suc k))
by_stimulus (suc n) top stimulus Z m low none =
    let rest = by_stimulus n top stimulus Z m (λ i w. low i (omega arith)) none in
    let split = sum_in_z-add top (λ k. Z (suc k)) (λ k. sum_in_z n (λ i. stimulus i == suc k) m) (λ k. cond (stimulus n == suc k) (m n) (pos 0)) in
    let last = one_of top (stimulus n) Z (m n) (low n (omega arith)) (none n) in
    omega (arith, ints)

-- the slack of a link, from its two ends
both_ends : (m : ℤ) (z x : Bool) → m *ℤ (pos (cond z 1 0) -ℤ pos (cond x 1 0)) ≡ cond z m (pos 0) +ℤ cond x (neg_ℤ m) (pos 0)
both_ends m true true = omega (arith, ints)
both_ends m true false = omega (arith, ints)
both_ends m false true = omega (arith, ints)
both_ends m false false = omega (arith, ints)

module _ (P : Problem) (p : Path) (v : Multipliers) (ray : Bool) where
  -- an item of no stimulus has no link
  no_link : (i : ℕ) → stimulus P.bank i ≡ 0 → link_multiplier P p v ray i ≡ pos 0
  unfolding link_multiplier
  no_link i e = rw (eq-eqb (stimulus P.bank i) 0 e) refl

  -- nor has one that is taken, or one of a stimulus that is chosen
  pub taken_no_link : (i : ℕ) → p.taken i ≡ true → link_multiplier P p v ray i ≡ pos 0
  unfolding link_multiplier
  taken_no_link i e = rw e (unlinked_if (stimulus P.bank i == 0) (nat_lt i (size P.bank)) _ _)
    where
      unlinked_if : (a b : Bool) (o : Bool) (m : ℤ) → cond (not a && ((b && (false && not (p.out i))) && o)) m (pos 0) ≡ pos 0
      unlinked_if true b o m = refl
      unlinked_if false true o m = refl
      unlinked_if false false o m = refl

  chosen_no_link : (s i : ℕ) → is_chosen P p s ≡ true → stimulus P.bank i ≡ s → link_multiplier P p v ray i ≡ pos 0
  unfolding link_multiplier
  chosen_no_link s i chosen at = rw (at, chosen) (unlinked_if (s == 0) (is_free P p i) _)
    where
      unlinked_if : (a b : Bool) (m : ℤ) → cond (not a && (b && false)) m (pos 0) ≡ pos 0
      unlinked_if true b m = refl
      unlinked_if false true m = refl
      unlinked_if false false m = refl

  no_excess : (n s : ℕ) → is_chosen P p s ≡ true → sum_in_z n (λ i. stimulus P.bank i == s) (link_multiplier P p v ray) ≡ pos 0
  no_excess zero s chosen = refl
  no_excess (suc n) s chosen =
      let rest = no_excess n s chosen in
      let last : cond (stimulus P.bank n == s) (link_multiplier P p v ray n) (pos 0) ≡ pos 0 =
      elim (either (stimulus P.bank n == s)) [ inl at ↦ rw at (chosen_no_link s n chosen (eqb-true _ _ at)) | inr other ↦ rw other refl ] in
      omega (arith, ints)

  -- a stimulus that is chosen has no excess
  pub chosen_no_excess : (s : ℕ) → is_chosen P p s ≡ true → excess_of_items P p v ray s ≡ pos 0
  unfolding excess_of_items
  chosen_no_excess s chosen = no_excess (size P.bank) s chosen

  unfoldable pub links : Linear
  links = record { constant = pos 0; item = λ i. neg_ℤ (link_multiplier P p v ray i); stimulus = excess_of_items P p v ray }

  at-links : (X Z : Set) → total_z (size P.bank) (weighted_link_slack P p v ray X Z) ≡ at (size P.bank) (stimuli_of P.bank) links X Z
  unfolding links excess_of_items
  at-links X Z =
      let n = size P.bank in
      let m = link_multiplier P p v ray in
      let ends = total_z-same n (weighted_link_slack P p v ray X Z) (λ i. cond (Z (stimulus P.bank i)) (m i) (pos 0) +ℤ cond (X i) (neg_ℤ (m i)) (pos 0)) (λ i w. both_ends (m i) (Z (stimulus P.bank i)) (X i)) in
      let split = total_z-add n (λ i. cond (Z (stimulus P.bank i)) (m i) (pos 0)) (λ i. cond (X i) (neg_ℤ (m i)) (pos 0)) in
      let items = total_z-cond n X (λ i. neg_ℤ (m i)) in
      let stimuli = by_stimulus n (stimuli_of P.bank) (stimulus P.bank) Z m (at_most_greatest n (stimulus P.bank)) no_link in
      omega (arith, ints)

  -- ---- the whole: a constant, a weight for each item, and a weight for each stimulus
  unfoldable pub reduced : Linear
  reduced = plus (unlinked P v ray) links

  pub lagrangian-reduced : (X Z : Set) → lagrangian P p v ray X Z ≡ at (size P.bank) (stimuli_of P.bank) reduced X Z
  unfolding lagrangian reduced
  lagrangian-reduced X Z =
      let e = lagrangian-unlinked P v ray X Z in
      let f = at-links X Z in
      let g = at-plus (size P.bank) (stimuli_of P.bank) X Z (unlinked P v ray) links in
      omega (arith, ints)
