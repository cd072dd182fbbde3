-- The base form of a drill meets its plan.
use Rattle.std.proofs.Common.{◌≡◌, ◌∙◌, ℕ, zero, suc, ◌+◌, ◌*◌, ◌<◌, ◌≤◌, max, Bool, true, false, cond, ◌&&◌, ◌==◌, nat_lt, nat_le, length, get_or, refl, sym, ap, ap₂, arith, inl, inr}
use Rattle.std.specs.List.{range_with_len, sum_by}
use Rattle.std.proofs.lemmas.Bool.{and_parts, le-leb, leb-true, lt-leb, le-ltb, ne_eqb}
use Rattle.std.proofs.lemmas.List.FromFn.{length-map-range_with_len, get_or-map-range_with_len}
use Rattle.std.proofs.lemmas.List.Sums.{sum_by-cons}
use Rattle.std.proofs.Math.Nat.{mul-suc}
use Rattle.bank_tables.specs.Items.{Set}
use Rattle.bank_tables.specs.Sums.{sum_in, any_below, count_in, greatest_below}
use Rattle.bank_tables.specs.Tables.{Tables, Item, size, item, stimulus, quantity, no_item as no_row}
use Rattle.form_model.specs.Forms.{stimuli_of, used, stimuli_in, items_of}
use Rattle.form_model.proofs.SumLaws.{either, count_none}
use Rattle.bank_maker.specs.declared.item.DrawnItem.{DrawnItem}
use Rattle.bank_maker.specs.Items.{drawn, items, stimulus_of, row_of}
use Rattle.bank_maker.specs.Banks.{no_item}
use Rattle.bank_maker.specs.Drills.{tables_of_drill}
use Rattle.bank_maker.specs.Plans.{between, in_category, base_quantity}
use Rattle.bank_maker.proofs.BankTexts.{many_drawn}

-- the items of the base form, all items, and a pair of enemies
abbrev pub base : Set
base = between 30 49

abbrev pub all : Set
all = between 0 119

abbrev pub enemies_of : ℕ → Set
enemies_of k = between (50 + 2 * k) (51 + 2 * k)

-- ---- sums and tests
-- items past the last member add nothing
sum_past : (n k : ℕ) (X : Set) (f : ℕ → ℕ) → ((i : ℕ) → n ≤ i → X i ≡ false) → sum_in (n + k) X f ≡ sum_in n X f
sum_past n zero X f none = ap (λ (m : ℕ). sum_in m X f) (omega arith)
sum_past n (suc k) X f none =
    let next : n + suc k ≡ suc (n + k) = omega arith in
    rw (next, none (n + k) (omega arith)) (let h : sum_in (n + k) X f ≡ sum_in n X f = sum_past n k X f none in omega (arith, h))

sum_cong : (n : ℕ) (X : Set) (f g : ℕ → ℕ) → ((i : ℕ) → i < n → X i ≡ true → f i ≡ g i) → sum_in n X f ≡ sum_in n X g
sum_cong zero X f g same = refl
sum_cong (suc n) X f g same = ap₂ ◌+◌ (sum_cong n X f g (λ i lt. same i (omega (arith, lt)))) (elim (either (X n)) [
  | inl member ↦ rw member (same n (omega arith) member)
  | inr out ↦ rw out refl
])

greatest_cong : (n : ℕ) (f g : ℕ → ℕ) → ((i : ℕ) → i < n → f i ≡ g i) → greatest_below n f ≡ greatest_below n g
greatest_cong zero f g same = refl
greatest_cong (suc n) f g same = ap₂ max (greatest_cong n f g (λ i lt. same i (omega (arith, lt)))) (same n (omega arith))

none_below : (n : ℕ) (p : Set) → ((i : ℕ) → i < n → p i ≡ false) → any_below n p ≡ false
none_below zero p none = refl
none_below (suc n) p none = rw (none_below n p (λ i lt. none i (omega (arith, lt))), none n (omega arith)) refl

-- the base form, item by item
twenty : (f : ℕ → ℕ) → sum_in 50 base f ≡ sum_by f (range_with_len 30 20)
twenty f = refl

pub base_from : (i : ℕ) → base i ≡ true → 30 ≤ i
base_from i e = leb-true 30 i (and_parts (nat_le 30 i) (nat_le i 49) e).0

pub base_to : (i : ℕ) → base i ≡ true → i ≤ 49
base_to i e = leb-true i 49 (and_parts (nat_le 30 i) (nat_le i 49) e).1

-- a sum of numbers from low to high
sum_low : (f : ℕ → ℕ) (low : ℕ) → ((i : ℕ) → low ≤ f i) → (a n : ℕ) → low * n ≤ sum_by f (range_with_len a n)
sum_low f low h a zero = omega arith
sum_low f low h a (suc n) =
    let rest : low * n ≤ sum_by f (range_with_len (a + 1) n) = sum_low f low h (a + 1) n in
    let whole : sum_by f (range_with_len a (suc n)) ≡ f a + sum_by f (range_with_len (a + 1) n) =
    sum_by-cons f a (range_with_len (a + 1) n) in
    let one : low * suc n ≡ low * n + low = mul-suc low n in
    omega (arith, rest, whole, one, h a)

sum_high : (f : ℕ → ℕ) (high : ℕ) → ((i : ℕ) → f i ≤ high) → (a n : ℕ) → sum_by f (range_with_len a n) ≤ high * n
sum_high f high h a zero = omega arith
sum_high f high h a (suc n) =
    let rest : sum_by f (range_with_len (a + 1) n) ≤ high * n = sum_high f high h (a + 1) n in
    let whole : sum_by f (range_with_len a (suc n)) ≡ f a + sum_by f (range_with_len (a + 1) n) =
    sum_by-cons f a (range_with_len (a + 1) n) in
    let one : high * suc n ≡ high * n + high = mul-suc high n in
    omega (arith, rest, whole, one, h a)

no_sum : (n : ℕ) (X : Set) (f : ℕ → ℕ) → ((i : ℕ) → X i ≡ false) → sum_in n X f ≡ 0
no_sum zero X f none = refl
no_sum (suc n) X f none = rw (no_sum n X f none, none n) refl

and_false : (x : Bool) → (x && false) ≡ false
and_false true = refl
and_false false = refl

-- ---- the bank of a drill
abbrev pub bank : ℕ → Tables
bank number = tables_of_drill number

pub size_is : (number : ℕ) → size (bank number) ≡ 120
size_is number =
    length-map-range_with_len (λ i. row_of i (get_or (items number) i no_item)) 0 (length (items number)) ∙ many_drawn number

drawn_at : (number i : ℕ) → i < 120 → get_or (items number) i no_item ≡ drawn number i
unfolding items
drawn_at number i lt = get_or-map-range_with_len (drawn number) 0 120 i i no_item lt (omega arith)

item_is : (number i : ℕ) → i < 120 → item (bank number) i ≡ row_of i (drawn number i)
item_is number i lt =
    get_or-map-range_with_len (λ i. row_of i (get_or (items number) i no_item)) 0 (length (items number)) i i no_row
    (omega (arith, lt, many_drawn number)) (omega arith)
    ∙ ap (λ (x : DrawnItem). row_of i x) (drawn_at number i lt)

stimulus_is : (number i : ℕ) → i < 120 → stimulus (bank number) i ≡ stimulus_of i
stimulus_is number i lt = ap (λ (r : Item). r.stimulus) (item_is number i lt)

quantity_is : (number i : ℕ) → i < 120 → quantity (bank number) i 0 ≡ (drawn number i).quantity
quantity_is number i lt = ap (λ (r : Item). get_or r.quantities 0 0) (item_is number i lt)

six : greatest_below 120 stimulus_of ≡ 6
six = refl

pub stimuli_are : (number : ℕ) → stimuli_of (bank number) ≡ 6
stimuli_are number =
    ap (λ (n : ℕ). greatest_below n (stimulus (bank number))) (size_is number)
    ∙ (greatest_cong 120 (stimulus (bank number)) stimulus_of (stimulus_is number) ∙ six)

-- ---- the base form
base_past : (i : ℕ) → 50 ≤ i → base i ≡ false
base_past i past = rw (lt-leb i 49 past) (and_false (nat_le 30 i))

later : (i : ℕ) → 30 ≤ i → stimulus_of i ≡ 0
later i past = rw (le-ltb i 30 past) refl

-- none has a stimulus
of_none : (number s i : ℕ) → 0 < s → (base i && (stimulus (bank number) i == s)) ≡ false
of_none number s i some = elim (either (base i)) [
  | inl member ↦
      let none : stimulus (bank number) i ≡ 0 = stimulus_is number i (omega (arith, base_to i member)) ∙ later i (base_from i member) in
      rw (member, none) (ne_eqb 0 s (λ e. omega (arith, e, some)))
  | inr out ↦ rw out refl
]

none_of : (number s n : ℕ) → 0 < s → any_below n (λ i. base i && (stimulus (bank number) i == s)) ≡ false
none_of number s n some = none_below n (λ i. base i && (stimulus (bank number) i == s)) (λ i lt. of_none number s i some)

unused : (number s : ℕ) → 0 < s → used (bank number) base s ≡ false
unused number s some = rw (none_of number s (size (bank number)) some) (and_false (nat_lt 0 s))

pub no_stimuli : (number top : ℕ) → stimuli_in top (used (bank number) base) ≡ 0
no_stimuli number top = no_sum top (λ k. used (bank number) base (suc k)) (λ _. 1) (λ k. unused number (suc k) (omega arith))

pub no_items_of : (number s : ℕ) → 0 < s → items_of (bank number) s base ≡ 0
no_items_of number s some =
    count_none (size (bank number)) base (λ i. stimulus (bank number) i == s) (none_of number s (size (bank number)) some)

-- ---- how many they are
twenty_items : count_in 120 base (λ _. true) ≡ 20
twenty_items = refl

four_0 : count_in 120 base (in_category 0) ≡ 4
four_0 = refl

four_1 : count_in 120 base (in_category 1) ≡ 4
four_1 = refl

four_2 : count_in 120 base (in_category 2) ≡ 4
four_2 = refl

four_3 : count_in 120 base (in_category 3) ≡ 4
four_3 = refl

four_4 : count_in 120 base (in_category 4) ≡ 4
four_4 = refl

four : (c : ℕ) → c < 5 → count_in 120 base (in_category c) ≡ 4
four zero lt = four_0
four (suc zero) lt = four_1
four (suc (suc zero)) lt = four_2
four (suc (suc (suc zero))) lt = four_3
four (suc (suc (suc (suc zero)))) lt = four_4
four (suc (suc (suc (suc (suc c))))) lt = absurd (omega arith)

-- the same of the bank
of_bank : (number : ℕ) (P : Set) (n : ℕ) → count_in 120 base P ≡ n → count_in (size (bank number)) base P ≡ n
of_bank number P n e = ap (λ (m : ℕ). count_in m base P) (size_is number) ∙ e

pub many : (number : ℕ) → count_in (size (bank number)) base (λ _. true) ≡ 20
many number = of_bank number (λ _. true) 20 twenty_items

pub in_each_category : (number c : ℕ) → c < 5 → count_in (size (bank number)) base (in_category c) ≡ 4
in_each_category number c lt = of_bank number (in_category c) 4 (four c lt)

-- none of them is an enemy
pub no_enemies : (n k : ℕ) → count_in n base (enemies_of k) ≡ 0
no_enemies n k =
    count_none n base (enemies_of k) (none_below n (λ i. base i && enemies_of k i) (λ i lt.
    elim (either (base i)) [
      | inl member ↦ (let below : i < 50 + 2 * k = omega (arith, base_to i member) in rw (member, lt-leb (50 + 2 * k) i below) refl)
      | inr out ↦ rw out refl
    ]))

-- ---- their quantity
abbrev pub quantity_of : ℕ → ℕ → ℕ
quantity_of number i = (drawn number i).quantity

in_order : (number : ℕ) → base_quantity (items number) ≡ sum_by (quantity_of number) (range_with_len 30 20)
unfolding items
in_order number = refl

pub quantity_low : (number : ℕ) → 600 ≤ base_quantity (items number)
quantity_low number = omega (arith, in_order number, sum_low (quantity_of number) 30 (λ i. omega arith) 30 20)

pub quantity_high : (number : ℕ) → base_quantity (items number) ≤ 2400
quantity_high number = omega (arith, in_order number, sum_high (quantity_of number) 120 (λ i. omega arith) 30 20)

one_quantity : (number i : ℕ) → base i ≡ true → cond (all i) (quantity (bank number) i 0) 0 ≡ quantity_of number i
one_quantity number i member =
    let within : i ≤ 119 = omega (arith, base_to i member) in
    rw (le-leb 0 i (omega arith), le-leb i 119 within) (quantity_is number i (omega (arith, within)))

pub quantity_sum : (number : ℕ)
    → sum_in (size (bank number)) base (λ i. cond (all i) (quantity (bank number) i 0) 0) ≡ base_quantity (items number)
quantity_sum number =
    let f : ℕ → ℕ = λ i. cond (all i) (quantity (bank number) i 0) 0 in
    ap (λ (n : ℕ). sum_in n base f) (size_is number)
    ∙ (sum_cong 120 base f (quantity_of number) (λ i lt member. one_quantity number i member)
    ∙ (sum_past 50 70 base (quantity_of number) base_past
    ∙ (twenty (quantity_of number) ∙ sym (in_order number))))
