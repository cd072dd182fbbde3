-- Facts of forms and estimates by computing, for the worked rows.
use Rattle.std.proofs.Common.{◌≡◌, ℕ, zero, suc, ◌/◌, ◌%◌, ◌^◌, ◌≤◌, ◌<◌, ◌⊎◌, inl, inr, Bool, true, false, not, ◌&&◌, ◌||◌, ◌==◌, List, [], ◌∷◌, length, get_or, ℤ, pos, ◌≤ℤ◌, ◌<ℤ◌, refl, sym, ap, ◌∙◌, arith, nat_lt}
use Rattle.std.specs.Prelude.{nat_le, int_le, int_lt}
use Rattle.std.specs.List.{list_any, list_all}
use Rattle.std.specs.Int.{bit_at}
use Rattle.std.proofs.lemmas.Int.{ints}
use Rattle.std.proofs.lemmas.Nat.Bits.{bit_at_above, bit_at-zero}
use Rattle.std.proofs.lemmas.Bool.{and_parts, and_from, ltb-true, leb-true, le-leb, eqb-true, eq-eqb, not-true, cases_lt}
use Rattle.std.proofs.Math.Bool.{true≢false}
use Rattle.bank_tables.specs.Items.{Set, has}
use Rattle.bank_tables.specs.Faults.{is_loglik}
use Rattle.bank_tables.specs.Tables.{Tables, size}
use Rattle.bank_tables.specs.Validity.{HoldsItems, IsLogLik}
use Rattle.form_model.specs.Plan.{Plan, row_at, bound_at}
use Rattle.form_model.specs.Problem.{Problem}
use Rattle.form_model.specs.Forms.{activity, lower_bound, upper_bound, items_of, stimuli_of, size_in, used, RowHolds, StimulusHolds, Meets, Form}
use Rattle.form_model.specs.Ability.{AnswerList, log_posterior, IsPosteriorMode}
use Rattle.form_model.proofs.SumLaws.{either, or_true, or_left, or_right}

-- ---- numbers below a bound
last_or : (i n : ℕ) → i < suc n → (i < n) ⊎ (i ≡ n)
last_or i n w = grind arith

-- each number below n passes
abbrev pub all_below : ℕ → Set → Bool
all_below zero p = true
all_below (suc n) p = all_below n p && p n

pub each_of : (n : ℕ) (p : Set) → all_below n p ≡ true → (i : ℕ) → i < n → p i ≡ true
each_of zero p e i w = absurd (omega arith)
each_of (suc n) p e i w =
    let parts = and_parts (all_below n p) (p n) e in
    elim (last_or i n w) [ inl before ↦ each_of n p parts.0 i before | inr at ↦ ap p at ∙ parts.1 ]

pub all_of : (n : ℕ) (p : Set) → ((i : ℕ) → i < n → p i ≡ true) → all_below n p ≡ true
all_of zero p h = refl
all_of (suc n) p h = and_from _ _ (all_of n p (λ i w. h i (omega arith))) (h n (omega arith))

pub implied : (a b : Bool) → (not a || b) ≡ true → a ≡ true → b ≡ true
implied true b e h = e
implied false b e h = absurd (true≢false (sym h))

implies : (a b : Bool) → (a ≡ true → b ≡ true) → (not a || b) ≡ true
implies true b h = h refl
implies false b h = refl

not_implies : (a b : Bool) → (a ≡ true → b ≡ false) → (not a || not b) ≡ true
not_implies true b h = ap not (h refl)
not_implies false b h = refl

-- ---- sets of a few items
-- the set of these items
abbrev pub these : List ℕ → Set
these items i = list_any (λ item. item == i) items

pub these_below : (n : ℕ) (items : List ℕ) → list_all (λ item. nat_lt item n) items ≡ true → (i : ℕ) → these items i ≡ true → i < n
these_below n [] e i h = absurd (true≢false (sym h))
these_below n (x ∷ xs) e i h =
    let parts = and_parts (nat_lt x n) _ e in
    elim (or_true (x == i) _ h) [ inl at ↦ omega (arith, eqb-true x i at, ltb-true x n parts.0) | inr rest ↦ these_below n xs parts.1 i rest ]

pub these_in : (X : Set) (items : List ℕ) → list_all X items ≡ true → (i : ℕ) → these items i ≡ true → X i ≡ true
these_in X [] e i h = absurd (true≢false (sym h))
these_in X (x ∷ xs) e i h =
    let parts = and_parts (X x) _ e in
    elim (or_true (x == i) _ h) [ inl at ↦ ap X (sym (eqb-true x i at)) ∙ parts.0 | inr rest ↦ these_in X xs parts.1 i rest ]

-- the words of a set of items below 64
abbrev pub one_word : ℕ → List ℕ
one_word word = word ∷ 0 ∷ 0 ∷ 0 ∷ 0 ∷ 0 ∷ 0 ∷ 0 ∷ []

other_words : (word k : ℕ) → 0 < k → get_or (one_word word) k 0 ≡ 0
other_words word zero h = absurd (omega arith)
other_words word (suc zero) h = refl
other_words word (suc (suc zero)) h = refl
other_words word (suc (suc (suc zero))) h = refl
other_words word (suc (suc (suc (suc zero)))) h = refl
other_words word (suc (suc (suc (suc (suc zero))))) h = refl
other_words word (suc (suc (suc (suc (suc (suc zero)))))) h = refl
other_words word (suc (suc (suc (suc (suc (suc (suc zero))))))) h = refl
other_words word (suc (suc (suc (suc (suc (suc (suc (suc k)))))))) h = refl

none_past : (n word i : ℕ) → n ≤ 64 → word < 2 ^ n → n ≤ i → has (one_word word) i ≡ false
unfolding has
none_past n word i few small past =
    elim (cases_lt i 64) [
      | inl low ↦
          let first : i / 64 ≡ 0 = omega arith in
          let place : i % 64 ≡ i = omega arith in
          rw (first, place) (ap (λ (b : ℕ). b == 1) (bit_at_above word n i small past))
      | inr high ↦ ap (λ (v : ℕ). bit_at v (i % 64) == 1) (other_words word (i / 64) (omega arith)) ∙ ap (λ (b : ℕ). b == 1) (bit_at-zero (i % 64))
    ]

pub word_below : (n word : ℕ) → nat_le n 64 ≡ true → nat_lt word (2 ^ n) ≡ true → (i : ℕ) → has (one_word word) i ≡ true → i < n
word_below n word few small i e = elim (cases_lt i n) [ inl low ↦ low | inr high ↦ absurd (true≢false (sym e ∙ none_past n word i (leb-true n 64 few) (ltb-true _ _ small) high)) ]

-- ---- log-likelihoods
loglik_is : (z : ℤ) → is_loglik z ≡ true → IsLogLik z
loglik_is z e =
    let parts = and_parts (not _) (not _) e in
    let low = not-true _ parts.0 in
    let high = not-true _ parts.1 in
    (omega (arith, ints, low), omega (arith, ints, high))

pub logliks_are : (xs : List ℤ) → list_all is_loglik xs ≡ true → (k : ℕ) → IsLogLik (get_or xs k (pos 0))
logliks_are [] e k = loglik_is (pos 0) refl
logliks_are (x ∷ xs) e zero = loglik_is x (and_parts (is_loglik x) _ e).0
logliks_are (x ∷ xs) e (suc k) = logliks_are xs (and_parts (is_loglik x) _ e).1 k

-- ---- forms
abbrev pub row_test : Tables → Plan → Set → ℕ → Bool
row_test b plan X r =
    nat_le (lower_bound (row_at plan r)) (activity b (row_at plan r) X (used b X)) && nat_le (activity b (row_at plan r) X (used b X)) (upper_bound (row_at plan r))

abbrev pub stimulus_test : Tables → Plan → Set → ℕ → Bool
stimulus_test b plan X s = (items_of b s X == 0 || nat_le (bound_at plan s).low (items_of b s X)) && nat_le (items_of b s X) (bound_at plan s).high

abbrev pub meets_test : Tables → Plan → Set → Bool
meets_test b plan X =
    (size_in b X == plan.length) && (all_below (length plan.rows) (row_test b plan X) && all_below (stimuli_of b) (λ k. stimulus_test b plan X (suc k)))

abbrev pub form_test : Problem → Set → Bool
form_test P X = meets_test P.bank P.plan X && (all_below (size P.bank) (λ i. not (P.given i) || X i) && all_below (size P.bank) (λ i. not (P.barred i) || not (X i)))

module _ (b : Tables) (plan : Plan) (X : Set) where
  pub row_is : (r : ℕ) → row_test b plan X r ≡ true → RowHolds b plan X r
  row_is r e = let parts = and_parts (nat_le _ _) (nat_le _ _) e in record { low = leb-true _ _ parts.0; high = leb-true _ _ parts.1 }

  pub row_from : (r : ℕ) → RowHolds b plan X r → row_test b plan X r ≡ true
  row_from r h = and_from _ _ (le-leb _ _ h.low) (le-leb _ _ h.high)

  pub stimulus_is : (s : ℕ) → stimulus_test b plan X s ≡ true → StimulusHolds b plan X s
  stimulus_is s e =
      let parts = and_parts (items_of b s X == 0 || _) (nat_le _ _) e in
      record { low = elim (or_true _ _ parts.0) [ inl none ↦ inl (eqb-true _ _ none) | inr low ↦ inr (leb-true _ _ low) ]; high = leb-true _ _ parts.1 }

  pub stimulus_from : (s : ℕ) → StimulusHolds b plan X s → stimulus_test b plan X s ≡ true
  stimulus_from s h =
      and_from _ _ (elim h.low [ inl none ↦ or_left _ _ (eq-eqb _ _ none) | inr low ↦ or_right _ _ (le-leb _ _ low) ]) (le-leb _ _ h.high)

  each_stimulus : all_below (stimuli_of b) (λ k. stimulus_test b plan X (suc k)) ≡ true → (s : ℕ) → 0 < s → s ≤ stimuli_of b → StimulusHolds b plan X s
  each_stimulus e zero first last = absurd (omega arith)
  each_stimulus e (suc k) first last = stimulus_is (suc k) (each_of (stimuli_of b) (λ k. stimulus_test b plan X (suc k)) e k (omega arith))

  pub meets_is : HoldsItems b X → meets_test b plan X ≡ true → Meets b plan X
  meets_is items e =
      let parts = and_parts (size_in b X == plan.length) _ e in
      let rest = and_parts (all_below (length plan.rows) (row_test b plan X)) _ parts.1 in
      record {
        right_length = record { in_bank = items; n_items = eqb-true _ _ parts.0 };
        rows = λ r w. row_is r (each_of (length plan.rows) (row_test b plan X) rest.0 r w);
        stimuli = each_stimulus rest.1;
      }

  pub meets_from : Meets b plan X → meets_test b plan X ≡ true
  meets_from h =
      and_from _ _ (eq-eqb _ _ h.right_length.n_items)
      (and_from _ _ (all_of (length plan.rows) (row_test b plan X) (λ r w. row_from r (h.rows r w)))
      (all_of (stimuli_of b) (λ k. stimulus_test b plan X (suc k)) (λ k w. stimulus_from (suc k) (h.stimuli (suc k) (omega arith) (omega arith)))))

module _ (P : Problem) (X : Set) where
  -- X is a form by the test, which asks for the items given in the bank alone
  pub form_is : HoldsItems P.bank X → HoldsItems P.bank P.given → form_test P X ≡ true → Form P X
  form_is items given e =
      let parts = and_parts (meets_test P.bank P.plan X) _ e in
      let rest = and_parts (all_below (size P.bank) (λ i. not (P.given i) || X i)) _ parts.1 in
      record {
        meets = meets_is P.bank P.plan X items parts.0;
        holds_given = λ i h. implied (P.given i) (X i) (each_of (size P.bank) (λ i. not (P.given i) || X i) rest.0 i (given i h)) h;
        holds_no_barred = λ i h. elim (either (X i)) [
          | inl held ↦ not-true (X i) (implied (P.barred i) (not (X i)) (each_of (size P.bank) (λ i. not (P.barred i) || not (X i)) rest.1 i (items i held)) h)
          | inr not_held ↦ not_held
        ];
      }

  pub form_from : Form P X → form_test P X ≡ true
  form_from h =
      and_from _ _ (meets_from P.bank P.plan X h.meets)
      (and_from _ _ (all_of (size P.bank) (λ i. not (P.given i) || X i) (λ i w. implies (P.given i) (X i) (h.holds_given i)))
      (all_of (size P.bank) (λ i. not (P.barred i) || not (X i)) (λ i w. not_implies (P.barred i) (X i) (h.holds_no_barred i))))

  pub is_no_form : form_test P X ≡ false → Form P X → ⊥
  is_no_form e h = true≢false (sym (form_from h) ∙ e)

-- ---- the estimate and the next item
module _ (b : Tables) (prior : List ℤ) (answers : AnswerList) (point : ℕ) where
  abbrev pub mode_test : Bool
  mode_test =
      nat_lt point b.grid
      && (all_below b.grid (λ g. int_le (log_posterior b prior answers g) (log_posterior b prior answers point)) && all_below point (λ g. int_lt (log_posterior b prior answers g) (log_posterior b prior answers point)))

  less : (m n : ℤ) → int_lt m n ≡ true → m <ℤ n
  less m n e = omega (arith, ints)

  no_more : (m n : ℤ) → int_le m n ≡ true → m ≤ℤ n
  no_more m n e = omega (arith, ints)

  pub mode_is : mode_test ≡ true → IsPosteriorMode b prior answers point
  mode_is e =
      let parts = and_parts (nat_lt point b.grid) _ e in
      let rest = and_parts (all_below b.grid (λ g. int_le (log_posterior b prior answers g) (log_posterior b prior answers point))) _ parts.1 in
      record {
        within = ltb-true _ _ parts.0;
        greatest = λ g w. no_more _ _ (each_of b.grid (λ g. int_le (log_posterior b prior answers g) (log_posterior b prior answers point)) rest.0 g w);
        lowest = λ g w. less _ _ (each_of point (λ g. int_lt (log_posterior b prior answers g) (log_posterior b prior answers point)) rest.1 g w);
      }
