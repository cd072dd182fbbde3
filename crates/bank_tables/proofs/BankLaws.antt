-- Rows without a fault are a bank, and the other way round.
use Rattle.std.proofs.Common.{◌≡◌, ℕ, zero, suc, ◌+◌, ◌*◌, ◌/◌, ◌%◌, ◌<◌, ◌≤◌, ◌||◌, ◌==◌, not, Bool, true, List, [], ◌∷◌, length, get_or, None, ℤ, pos, refl, sym, subst, arith, inl, inr}
use Rattle.std.specs.Prelude.{nat_le, nat_lt, int_lt, neg_ℤ}
use Rattle.std.specs.List.{list_all}
use Rattle.std.proofs.lemmas.Int.{ints}
use Rattle.std.proofs.lemmas.List.{get_or_past}
use Rattle.std.proofs.lemmas.Bool.{and_parts, and_from, or_parts, eqb-true, eqb-false, eq-eqb, ne_eqb, ltb-false, le-ltb, leb-true, le-leb, not-false, not-true, not_from_false, cases_lt}
use Rattle.exam_text.proofs.Firsts.{none_split, none_each, none_from, none_where}
use Rattle.bank_tables.specs.Sums.{greatest_below}
use Rattle.bank_tables.specs.Tables.{Tables, Item, no_item, size, item}
use Rattle.bank_tables.specs.Validity.{IsBank, IsLogLik}
use Rattle.bank_tables.specs.Faults.{are_numbers, is_loglik, item_fault, bank_fault}

-- each element passes
pub each_passes : {X : Type 0} (p : X → Bool) (xs : List X) (i : ℕ) (d : X) → list_all p xs ≡ true → i < length xs → p (get_or xs i d) ≡ true
each_passes p [] i d e lt = absurd (omega arith)
each_passes p (x ∷ xs) zero d e lt = (and_parts (p x) (list_all p xs) e).0
each_passes p (x ∷ xs) (suc i) d e lt = each_passes p xs i d (and_parts (p x) (list_all p xs) e).1 (omega (arith, lt))

pub all_pass : {X : Type 0} (p : X → Bool) (xs : List X) (d : X) → ((i : ℕ) → i < length xs → p (get_or xs i d) ≡ true) → list_all p xs ≡ true
all_pass p [] d h = refl
all_pass p (x ∷ xs) d h = and_from (p x) (list_all p xs) (h 0 (omega arith)) (all_pass p xs d (λ i lt. h (suc i) (omega (arith, lt))))

-- numbers that are so many and at most `most`
numbers_are : (count most : ℕ) (xs : List ℕ) → are_numbers count most xs ≡ true → (length xs ≡ count) × ((k : ℕ) → get_or xs k 0 ≤ most)
numbers_are count most xs e =
    let p = and_parts (length xs == count) (list_all (λ x. nat_le x most) xs) e in (
      eqb-true _ _ p.0,
      λ k. elim (cases_lt k (length xs)) [
        | inl lt ↦ leb-true _ _ (each_passes (λ x. nat_le x most) xs k 0 p.1 lt)
        | inr past ↦ rw (get_or_past xs k 0 past) (omega arith)
      ],
    )

numbers_from : (count most : ℕ) (xs : List ℕ) → length xs ≡ count → ((k : ℕ) → get_or xs k 0 ≤ most) → are_numbers count most xs ≡ true
numbers_from count most xs len high = and_from _ _ (eq-eqb _ _ len) (all_pass (λ x. nat_le x most) xs 0 (λ i lt. le-leb _ _ (high i)))

loglik_is : (z : ℤ) → is_loglik z ≡ true → IsLogLik z
loglik_is z e = let p = and_parts (not (int_lt z (neg_ℤ (pos 10000000)))) (not (int_lt (pos 0) z)) e in (grind (arith, ints, not-true _ p.0), grind (arith, ints, not-true _ p.1))

loglik_from : (z : ℤ) → IsLogLik z → is_loglik z ≡ true
loglik_from z h = and_from _ _ (not_from_false _ (grind (arith, ints, h.0))) (not_from_false _ (grind (arith, ints, h.1)))

-- what the tests of an item mean
record ItemStands (grid quantities : ℕ) (r : Item) : Type 0 where
  stimulus : r.stimulus ≤ 64
  low : 2 ≤ r.categories
  high : r.categories ≤ 5
  quantity_number : length r.quantities ≡ quantities
  quantity_high : (k : ℕ) → get_or r.quantities k 0 ≤ 65535
  info_number : length r.info ≡ grid
  info_high : (k : ℕ) → get_or r.info k 0 ≤ 1000000
  loglik_number : length r.loglik ≡ r.categories * grid
  loglik_range : (k : ℕ) → IsLogLik (get_or r.loglik k (pos 0))

zero_stands : IsLogLik (pos 0)
zero_stands = (omega (arith, ints), omega (arith, ints))

item_stands : (grid quantities i : ℕ) (r : Item) → item_fault grid quantities i r ≡ None → ItemStands grid quantities r
unfolding item_fault
item_stands grid quantities i r e =
    let a = none_split _ _ e in
    let b = none_split _ _ a.1 in
    let c = none_split _ _ b.1 in
    let d = none_split _ _ c.1 in
    let cats = or_parts (nat_lt r.categories 2) (nat_lt 5 r.categories) (none_where _ _ b.0) in
    let quantity = numbers_are quantities 65535 r.quantities (not-false _ (none_where _ _ c.0)) in
    let info = numbers_are grid 1000000 r.info (not-false _ (none_where _ _ d.0)) in
    let lik = and_parts (length r.loglik == r.categories * grid) (list_all is_loglik r.loglik) (not-false _ (none_where _ _ d.1)) in
    record {
      stimulus = ltb-false _ _ (none_where _ _ a.0);
      low = ltb-false _ _ cats.0;
      high = ltb-false _ _ cats.1;
      quantity_number = quantity.0;
      quantity_high = quantity.1;
      info_number = info.0;
      info_high = info.1;
      loglik_number = eqb-true _ _ lik.0;
      loglik_range = λ k. elim (cases_lt k (length r.loglik)) [
        | inl lt ↦ loglik_is (get_or r.loglik k (pos 0)) (each_passes is_loglik r.loglik k (pos 0) lik.1 lt)
        | inr past ↦ rw (get_or_past r.loglik k (pos 0) past) zero_stands
      ];
    }

item_from : (grid quantities i : ℕ) (r : Item) → ItemStands grid quantities r → item_fault grid quantities i r ≡ None
unfolding item_fault
item_from grid quantities i r h =
    rw (
      le-ltb 64 r.stimulus h.stimulus,
      le-ltb r.categories 2 h.low,
      le-ltb 5 r.categories h.high,
      numbers_from quantities 65535 r.quantities h.quantity_number h.quantity_high,
      numbers_from grid 1000000 r.info h.info_number h.info_high,
      eq-eqb (length r.loglik) (r.categories * grid) h.loglik_number,
      all_pass is_loglik r.loglik (pos 0) (λ k lt. loglik_from (get_or r.loglik k (pos 0)) (h.loglik_range k)),
    ) refl

-- the item past the last one is `no_item`, whose numbers are 0
past_all : (b : Tables) (i : ℕ) → size b ≤ i → (P : Item → Type 0) → P no_item → P (item b i)
past_all b i past P h = subst P (sym (get_or_past b.items i no_item past)) h

pub bank_is : (b : Tables) → bank_fault b ≡ None → IsBank b
unfolding bank_fault
bank_is b e =
    let a = none_split _ _ e in
    let f = none_split _ _ a.1 in
    let g = none_split _ _ f.1 in
    let grid = or_parts ((b.grid == 0) || nat_lt 61 b.grid) (nat_lt 8 b.quantities) (none_where _ _ g.0) in
    let points = or_parts (b.grid == 0) (nat_lt 61 b.grid) grid.0 in
    let each : (i : ℕ) → i < size b → ItemStands b.grid b.quantities (item b i) = λ i lt. item_stands b.grid b.quantities i (item b i) (none_each (size b) (λ i. item_fault b.grid b.quantities i (item b i)) g.1 i lt) in
    record {
      some = above (size b) (eqb-false _ _ (none_where _ _ a.0));
      few = ltb-false _ _ (none_where _ _ f.0);
      some_points = above b.grid (eqb-false _ _ points.0);
      few_points = ltb-false _ _ points.1;
      few_quantities = ltb-false _ _ grid.1;
      stimulus_high = λ i. elim (cases_lt i (size b)) [ inl lt ↦ (each i lt).stimulus | inr past ↦ past_all b i past (λ r. r.stimulus ≤ 64) (omega arith) ];
      categories_low = λ i lt. (each i lt).low;
      categories_high = λ i. elim (cases_lt i (size b)) [ inl lt ↦ (each i lt).high | inr past ↦ past_all b i past (λ r. r.categories ≤ 5) (omega arith) ];
      quantity_number = λ i lt. (each i lt).quantity_number;
      quantity_high = λ i which. elim (cases_lt i (size b)) [ inl lt ↦ (each i lt).quantity_high which | inr past ↦ past_all b i past (λ r. get_or r.quantities which 0 ≤ 65535) (omega arith) ];
      info_number = λ i lt. (each i lt).info_number;
      info_high = λ i point. elim (cases_lt i (size b)) [ inl lt ↦ (each i lt).info_high point | inr past ↦ past_all b i past (λ r. get_or r.info point 0 ≤ 1000000) (omega arith) ];
      loglik_number = λ i lt. (each i lt).loglik_number;
      loglik_range = λ i response point. elim (cases_lt i (size b)) [ inl lt ↦ (each i lt).loglik_range (response * b.grid + point) | inr past ↦ past_all b i past (λ r. IsLogLik (get_or r.loglik (response * b.grid + point) (pos 0))) zero_stands ];
    }
  where
    above : (n : ℕ) → (n ≡ 0 → ⊥) → 0 < n
    above n h = omega arith

-- a place in the list is a response and a point
place_is : (b : Tables) → IsBank b → (i k : ℕ) → IsLogLik (get_or (item b i).loglik k (pos 0))
place_is b h i k =
    let positive : 0 < b.grid = h.some_points in
    let e : k / b.grid * b.grid + k % b.grid ≡ k = omega arith in
    subst (λ (n : ℕ). IsLogLik (get_or (item b i).loglik n (pos 0))) e (h.loglik_range i (k / b.grid) (k % b.grid))

pub bank_from : (b : Tables) → IsBank b → bank_fault b ≡ None
unfolding bank_fault
bank_from b h =
    let each : (i : ℕ) → i < size b → item_fault b.grid b.quantities i (item b i) ≡ None = λ i lt. item_from b.grid b.quantities i (item b i) (record {
      stimulus = h.stimulus_high i;
      low = h.categories_low i lt;
      high = h.categories_high i;
      quantity_number = h.quantity_number i lt;
      quantity_high = h.quantity_high i;
      info_number = h.info_number i lt;
      info_high = h.info_high i;
      loglik_number = h.loglik_number i lt;
      loglik_range = place_is b h i;
    }) in
    rw (
      ne_eqb (size b) 0 (λ z. omega (arith, z, h.some)),
      le-ltb 512 (size b) h.few,
      ne_eqb b.grid 0 (λ z. omega (arith, z, h.some_points)),
      le-ltb 61 b.grid h.few_points,
      le-ltb 8 b.quantities h.few_quantities,
    ) (none_from (size b) (λ i. item_fault b.grid b.quantities i (item b i)) each)

-- a greatest number is no more than what bounds each
pub greatest_at_most : (n most : ℕ) (f : ℕ → ℕ) → ((i : ℕ) → f i ≤ most) → greatest_below n f ≤ most
greatest_at_most zero most f h = omega arith
greatest_at_most (suc n) most f h = omega (arith, greatest_at_most n most f h, h n)
