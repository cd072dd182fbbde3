-- Sums over forms, items and points.
use Rattle.std.proofs.Common.{◌≡◌, ℕ, zero, suc, ◌+◌, ◌*◌, ◌≤◌, ◌<◌, ◌⊎◌, inl, inr, true, false, cond, ℤ, pos, ◌-ℤ◌, ◌≤ℤ◌, refl, ap, ◌∙◌, arith}
use Rattle.std.proofs.lemmas.Int.{ints}
use Rattle.bank_tables.specs.Items.{Set}
use Rattle.bank_tables.specs.Sums.{sum_in, sum_in_z, total_z}
use Rattle.form_model.proofs.SumLaws.{either, sum_in-scale}

-- all numbers
abbrev pub every : Set
every i = true

pub times-le : (m a b : ℕ) → a ≤ b → m * a ≤ m * b
times-le m a b le = grind arith

last_or : (i n : ℕ) → i < suc n → (i < n) ⊎ (i ≡ n)
last_or i n w = grind arith

pub sum_in-add : (n : ℕ) (X : Set) (f g : ℕ → ℕ) → sum_in n X (λ i. f i + g i) ≡ sum_in n X f + sum_in n X g
sum_in-add zero X f g = refl
sum_in-add (suc n) X f g =
    let rest = sum_in-add n X f g in
    elim (either (X n)) [ inl member ↦ rw member (omega arith) | inr other ↦ rw other (omega arith) ]

pub sum_in-same : (n : ℕ) (X : Set) (f g : ℕ → ℕ) → ((i : ℕ) → i < n → f i ≡ g i) → sum_in n X f ≡ sum_in n X g
sum_in-same zero X f g h = refl
sum_in-same (suc n) X f g h =
    let rest = sum_in-same n X f g (λ i w. h i (omega arith)) in
    let last : cond (X n) (f n) 0 ≡ cond (X n) (g n) 0 = ap (λ (m : ℕ). cond (X n) m 0) (h n (omega arith)) in
    omega arith

pub sum_in-below : (n : ℕ) (X : Set) (f g : ℕ → ℕ) → ((i : ℕ) → i < n → X i ≡ true → f i ≤ g i) → sum_in n X f ≤ sum_in n X g
sum_in-below zero X f g h = omega arith
sum_in-below (suc n) X f g h =
    let rest = sum_in-below n X f g (λ i w. h i (omega arith)) in
    elim (either (X n)) [ inl member ↦ (let last = h n (omega arith) member in rw member (omega arith)) | inr other ↦ rw other (omega arith) ]

pub sum_in-none : (n : ℕ) (X : Set) → sum_in n X (λ _. 0) ≡ 0
sum_in-none zero X = refl
sum_in-none (suc n) X = let rest = sum_in-none n X in elim (either (X n)) [ inl member ↦ rw member (omega arith) | inr other ↦ rw other (omega arith) ]

pub sum_in-times : (n : ℕ) (X : Set) (f : ℕ → ℕ) (c : ℕ) → sum_in n X (λ i. f i * c) ≡ sum_in n X f * c
sum_in-times zero X f c = omega arith
sum_in-times (suc n) X f c =
    let rest = sum_in-times n X f c in
    elim (either (X n)) [ inl member ↦ rw member (omega arith) | inr other ↦ rw other (omega arith) ]

-- what each item weighs at the points, summed over items, is what the items have at each point,
-- weighed
pub by_points : (n m : ℕ) (X C : Set) (a w : ℕ → ℕ) (h : ℕ → ℕ → ℕ)
    → sum_in n X (λ i. sum_in m C (λ g. a g * (w g * h i g))) ≡ sum_in m C (λ g. a g * (w g * sum_in n X (λ i. h i g)))
by_points n zero X C a w h = sum_in-none n X
by_points n (suc m) X C a w h =
    let rest = by_points n m X C a w h in
    let split = sum_in-add n X (λ i. sum_in m C (λ g. a g * (w g * h i g))) (λ i. cond (C m) (a m * (w m * h i m)) 0) in
    let last : sum_in n X (λ i. cond (C m) (a m * (w m * h i m)) 0) ≡ cond (C m) (a m * (w m * sum_in n X (λ i. h i m))) 0 =
    elim (either (C m)) [
      | inl member ↦ rw member (sum_in-scale n X (a m) (λ i. w m * h i m) ∙ ap (λ (s : ℕ). a m * s) (sum_in-scale n X (w m) (λ i. h i m)))
      | inr other ↦ rw other (sum_in-none n X)
    ] in
    omega arith

-- ---- each item is in one form at most
no_form : (k n : ℕ) (S : ℕ → Set) (c : ℕ) → ((f : ℕ) → f < k → S f n ≡ false) → sum_in k (λ f. S f n) (λ _. c) ≡ 0
no_form zero n S c h = refl
no_form (suc k) n S c h = let rest = no_form k n S c (λ f w. h f (omega arith)) in let last = h k (omega arith) in rw last (omega arith)

one_form : (k n : ℕ) (S : ℕ → Set) (c : ℕ) → ((f g : ℕ) → f < k → g < k → S f n ≡ true → S g n ≡ true → f ≡ g) → sum_in k (λ f. S f n) (λ _. c) ≤ c
one_form zero n S c h = omega arith
one_form (suc k) n S c h =
    elim (either (S k n)) [
      | inl member ↦
          let rest = no_form k n S c (λ f w. elim (either (S f n)) [ inl also ↦ absurd (let e = h f k (omega arith) (omega arith) also member in omega arith) | inr other ↦ other ]) in
          rw member (omega arith)
      | inr other ↦ let rest = one_form k n S c (λ f g w v. h f g (omega arith) (omega arith)) in rw other (omega arith)
    ]

pub by_items : (k n : ℕ) (S : ℕ → Set) (u : ℕ → ℕ) → sum_in k every (λ f. sum_in n (S f) u) ≡ sum_in n every (λ i. sum_in k (λ f. S f i) (λ _. u i))
by_items k zero S u = sum_in-none k every
by_items k (suc n) S u =
    let rest = by_items k n S u in
    let split = sum_in-add k every (λ f. sum_in n (S f) u) (λ f. cond (S f n) (u n) 0) in
    let last = of_form k in
    omega arith
  where
    of_form : (k : ℕ) → sum_in k every (λ f. cond (S f n) (u n) 0) ≡ sum_in k (λ f. S f n) (λ _. u n)
    of_form zero = refl
    of_form (suc k) = let rest = of_form k in omega arith

pub each_once : (k n : ℕ) (S : ℕ → Set) (u : ℕ → ℕ) → ((f g i : ℕ) → f < k → g < k → S f i ≡ true → S g i ≡ true → f ≡ g)
    → sum_in k every (λ f. sum_in n (S f) u) ≤ sum_in n every u
each_once k n S u apart =
    let e = by_items k n S u in
    let le = sum_in-below n every (λ i. sum_in k (λ f. S f i) (λ _. u i)) u (λ i w member. one_form k i S (u i) (λ f g. apart f g i)) in
    omega arith

-- ---- signed sums
pub sum_in_z-less : (n : ℕ) (X : Set) (a b : ℕ → ℕ) → sum_in_z n X (λ i. pos (a i) -ℤ pos (b i)) ≡ pos (sum_in n X a) -ℤ pos (sum_in n X b)
sum_in_z-less zero X a b = refl
sum_in_z-less (suc n) X a b =
    let rest = sum_in_z-less n X a b in
    elim (either (X n)) [ inl member ↦ rw member (omega (arith, ints)) | inr other ↦ rw other (omega (arith, ints)) ]

-- where each term is at least a difference, so is the sum
pub total_z-low : (n : ℕ) (L : ℕ → ℤ) (a b : ℕ → ℕ) → ((f : ℕ) → f < n → (pos (a f) -ℤ pos (b f)) ≤ℤ L f) → (pos (sum_in n every a) -ℤ pos (sum_in n every b)) ≤ℤ total_z n L
total_z-low zero L a b h = omega (arith, ints)
total_z-low (suc n) L a b h = let rest = total_z-low n L a b (λ f w. h f (omega arith)) in let last = h n (omega arith) in omega (arith, ints)
