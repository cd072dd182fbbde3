-- The plan text of a drill is a text of a plan for its bank.
use Rattle.std.proofs.Common.{◌≡◌, ◌∙◌, ℕ, zero, suc, ◌+◌, ◌-◌, ◌*◌, ◌%◌, ◌<◌, ◌≤◌, Bool, true, false, cond, ◌==◌, nat_lt, nat_le, List, [], ◌∷◌, ◌++◌, length, get_or, map, Some, refl, sym, ap, ap₂, subst, arith, inl, inr, pos, neg_ℤ}
use Rattle.std.specs.Prelude.{IsTrue, slice_index}
use Rattle.std.specs.Int.{byte_at, bytes_high_first}
use Rattle.std.specs.List.{AllByRecursion, flat_map, range_with_len}
use Rattle.std.proofs.Math.Facts.{yes_leb}
use Rattle.std.proofs.Math.Path.{fun_ext}
use Rattle.std.proofs.lemmas.Bool.{cases_lt, le-leb, leb-true, ltb-true, and_parts}
use Rattle.std.proofs.lemmas.List.{get_or-replicate}
use Rattle.exam_text.specs.Keys.{IsKey}
use Rattle.bank_tables.specs.Items.{Set, has}
use Rattle.bank_tables.specs.Tables.{Tables, size, quantity}
use Rattle.bank_tables.specs.Sums.{sum_in, count_in}
use Rattle.bank_tables.specs.Validity.{IsBank, IsLogLik}
use Rattle.bank_tables.proofs.Bits.{has_past}
use Rattle.form_model.specs.declared.row.Row.{Row}
use Rattle.form_model.specs.declared.row.Row.TheVariants as row
use Rattle.form_model.specs.declared.row.StimulusBound.{StimulusBound}
use Rattle.form_model.specs.Plan.{Plan, no_row, no_bound, bound_at}
use Rattle.form_model.specs.Forms.{stimuli_of, used, stimuli_in, activity, lower_bound, upper_bound, Meets}
use Rattle.form_model.specs.Validity.{IsRowSet, IsRow, IsPlanFor}
use Rattle.exam_records.specs.Sets.{words_of}
use Rattle.exam_records.proofs.SetLaws.{numbers_len, has_words}
use Rattle.spec_reader.specs.Rules.{Said, Count, Quantity, Enemies, Stimuli}
use Rattle.spec_reader.specs.Plans.{SaidPlan, row_said, plan_said}
use Rattle.spec_reader.specs.Canonical.{line_text, canonical_rules, canonical}
use Rattle.spec_reader.specs.Reading.{IsPlanText, most_bytes}
use Rattle.spec_reader.proofs.BackLaws.{canonical_says}
use Rattle.spec_reader.proofs.SameLaws.{one_plan}
use Rattle.spec_reader.proofs.ShortLaws.{canonical_short}
use Rattle.bank_maker.specs.Items.{items}
use Rattle.bank_maker.specs.Plans.{between, in_category, category_row, pair, base_quantity, rows, eight_bytes, key_of, plan, plan_text}
use Rattle.bank_maker.specs.Drills.{plan_of_drill}
use Rattle.bank_maker.specs.Exams.{IsPlanOfDrill}
use Rattle.bank_maker.proofs.BankTexts.{each_value, drill_text}
use Rattle.bank_maker.proofs.BaseForms.{base, all, enemies_of, bank, base_to, size_is, stimuli_are, no_stimuli, no_items_of, many, in_each_category, no_enemies, quantity_low, quantity_high, quantity_sum}

-- ---- sets in words
-- a set of items below 120
abbrev pub IsLow : Set → Type 0
IsLow X = (i : ℕ) → IsTrue (X i) → i < 120

in_words : (X : Set) → IsLow X → has (words_of X) ≡ X
in_words X low = fun_ext (λ i. elim (cases_lt i 512) [
  | inl lt ↦ has_words X i lt
  | inr past ↦ has_past (words_of X) i (numbers_len 8 64 X) past ∙ sym (out (X i) (λ e. omega (arith, low i e, past)))
])
  where
    out : (x : Bool) → (IsTrue x → ⊥) → x ≡ false
    out true h = absurd (h refl)
    out false h = refl

between_low : (low high : ℕ) → high < 120 → IsLow (between low high)
between_low low high few i e = let h : i ≤ high = leb-true i high (and_parts (nat_le low i) (nat_le i high) e).1 in omega (arith, h, few)

category_low : (c : ℕ) → IsLow (in_category c)
category_low c i e = ltb-true i 120 (and_parts (nat_lt i 120) (i % 5 == c) e).0

enemies_low : (k : ℕ) → k < 10 → IsLow (enemies_of k)
enemies_low k lt = between_low (50 + 2 * k) (51 + 2 * k) (omega (arith, lt))

all_low : IsLow all
all_low = between_low 0 119 (omega arith)

base_low : IsLow base
base_low = between_low 30 49 (omega arith)

between_has : (low high i : ℕ) → low ≤ i → i ≤ high → IsTrue (between low high i)
between_has low high i from to = rw (le-leb low i from, le-leb i high to) refl

-- ---- the rows, with their sets in words
abbrev pub quantity_row : ℕ → Said
quantity_row high = Quantity 0 600 high all

-- the most of the quantity that the plan allows
abbrev pub high_of : ℕ → ℕ
high_of number = base_quantity (items number) + 50

abbrev pub numbered : Said → Row
numbered (Count low high X) = row.Count (words_of X) low high
numbered (Quantity q low high X) = row.Quantity q (words_of X) low high
numbered (Enemies X) = row.Enemies (words_of X)
numbered (Stimuli low high) = row.Stimuli low high
numbered other = no_row

each_of : (P : Said → Type 0) (f : ℕ → Said) (a n : ℕ) → ((k : ℕ) → a ≤ k → k < a + n → P (f k))
    → AllByRecursion P (map f (range_with_len a n))
each_of P f a zero h = tt
each_of P f a (suc n) h =
    (h a (omega arith) (omega arith), each_of P f (a + 1) n (λ k from to. h k (omega (arith, from)) (omega (arith, to))))

each_append : (P : Said → Type 0) (xs ys : List Said) → AllByRecursion P xs → AllByRecursion P ys → AllByRecursion P (xs ++ ys)
each_append P [] ys h g = g
each_append P (x ∷ xs) ys h g = (h.0, each_append P xs ys h.1 g)

each_row : (P : Said → Type 0) (high : ℕ) → ((c : ℕ) → c < 5 → P (category_row c)) → P (quantity_row high)
    → ((k : ℕ) → k < 10 → P (pair k)) → P (Stimuli 0 2) → AllByRecursion P (rows high)
each_row P high category quantity enemies stimuli =
    each_append P (map category_row (range_with_len 0 5)) (quantity_row high ∷ (map pair (range_with_len 0 10) ++ Stimuli 0 2 ∷ []))
    (each_of P category_row 0 5 (λ c from to. category c to))
    (quantity, each_append P (map pair (range_with_len 0 10)) (Stimuli 0 2 ∷ []) (each_of P pair 0 10 (λ k from to. enemies k to)) (stimuli, tt))

-- the sets again
said_again : (high : ℕ) → AllByRecursion (λ rule. row_said (numbered rule) ≡ rule) (rows high)
said_again high = each_row (λ rule. row_said (numbered rule) ≡ rule) high
    (λ c lt. ap (λ (X : Set). Count 3 5 X) (in_words (in_category c) (category_low c)))
    (ap (λ (X : Set). Quantity 0 600 high X) (in_words all all_low))
    (λ k lt. ap (λ (X : Set). Enemies X) (in_words (enemies_of k) (enemies_low k lt)))
    refl

all_again : (rules : List Said) → AllByRecursion (λ rule. row_said (numbered rule) ≡ rule) rules → map row_said (map numbered rules) ≡ rules
all_again [] h = refl
all_again (rule ∷ rules) h = ap₂ ◌∷◌ h.0 (all_again rules h.1)

at_row : (P : Row → Type 0) (rules : List Said) → AllByRecursion (λ rule. P (numbered rule)) rules
    → (r : ℕ) → r < length (map numbered rules) → P (get_or (map numbered rules) r no_row)
at_row P [] h r lt = absurd (omega arith)
at_row P (rule ∷ rules) h zero lt = h.0
at_row P (rule ∷ rules) h (suc r) lt = at_row P rules h.1 r (omega (arith, lt))

-- ---- the rows are rows for the bank
low_set : (number : ℕ) (X : Set) (member : ℕ) → IsTrue (X member) → IsLow X → IsRowSet (bank number) X
low_set number X member is low = record { member = member; is_member = is; items = λ i e. omega (arith, low i e, size_is number) }

category_is : (number c : ℕ) → c < 5 → IsRow (bank number) (numbered (category_row c))
category_is number c lt =
    subst (λ (X : Set). (3 ≤ 5) × (5 ≤ 512) × IsRowSet (bank number) X) (sym (in_words (in_category c) (category_low c)))
    (omega arith, omega arith, low_set number (in_category c) c (member c lt) (category_low c))
  where
    member : (c : ℕ) → c < 5 → IsTrue (in_category c c)
    member zero lt = refl
    member (suc zero) lt = refl
    member (suc (suc zero)) lt = refl
    member (suc (suc (suc zero))) lt = refl
    member (suc (suc (suc (suc zero)))) lt = refl
    member (suc (suc (suc (suc (suc c))))) lt = absurd (omega arith)

quantity_row_is : (number high : ℕ) → 600 ≤ high → high ≤ 2450 → IsRow (bank number) (numbered (quantity_row high))
quantity_row_is number high low few =
    subst (λ (X : Set). (600 ≤ high) × (high ≤ 33553920) × IsRowSet (bank number) X × (0 < 1)) (sym (in_words all all_low))
    (low, omega (arith, few), low_set number all 0 refl all_low, omega arith)

pair_is : (number k : ℕ) → k < 10 → IsRow (bank number) (numbered (pair k))
pair_is number k lt =
    let member : IsTrue (enemies_of k (50 + 2 * k)) = between_has (50 + 2 * k) (51 + 2 * k) (50 + 2 * k) (omega arith) (omega arith) in
    subst (λ (X : Set). IsRowSet (bank number) X) (sym (in_words (enemies_of k) (enemies_low k lt)))
    (low_set number (enemies_of k) (50 + 2 * k) member (enemies_low k lt))

all_are_rows : (number : ℕ) → AllByRecursion (λ rule. IsRow (bank number) (numbered rule)) (rows (high_of number))
all_are_rows number = each_row (λ rule. IsRow (bank number) (numbered rule)) (high_of number)
    (category_is number)
    (quantity_row_is number (high_of number) (omega (arith, quantity_low number)) (omega (arith, quantity_high number)))
    (pair_is number)
    (omega arith, omega arith)

-- ---- the base form meets them
record IsMet (b : Tables) (X : Set) (r : Row) : Type 0 where
  low : lower_bound r ≤ activity b r X (used b X)
  high : activity b r X (used b X) ≤ upper_bound r

category_met : (number c : ℕ) → c < 5 → IsMet (bank number) base (numbered (category_row c))
category_met number c lt =
    let e : count_in (size (bank number)) base (has (words_of (in_category c))) ≡ 4 =
    ap (λ (X : Set). count_in (size (bank number)) base X) (in_words (in_category c) (category_low c)) ∙ in_each_category number c lt in
    record { low = omega (arith, e); high = omega (arith, e) }

quantity_met : (number : ℕ) → IsMet (bank number) base (numbered (quantity_row (high_of number)))
quantity_met number =
    let e : sum_in (size (bank number)) base (λ i. cond (has (words_of all) i) (quantity (bank number) i 0) 0) ≡ base_quantity (items number) =
    ap (λ (X : Set). sum_in (size (bank number)) base (λ i. cond (X i) (quantity (bank number) i 0) 0)) (in_words all all_low)
    ∙ quantity_sum number in
    record { low = omega (arith, e, quantity_low number); high = omega (arith, e) }

pair_met : (number k : ℕ) → k < 10 → IsMet (bank number) base (numbered (pair k))
pair_met number k lt =
    let e : count_in (size (bank number)) base (has (words_of (enemies_of k))) ≡ 0 =
    ap (λ (X : Set). count_in (size (bank number)) base X) (in_words (enemies_of k) (enemies_low k lt))
    ∙ no_enemies (size (bank number)) k in
    record { low = omega arith; high = omega (arith, e) }

stimuli_met : (number : ℕ) → IsMet (bank number) base (numbered (Stimuli 0 2))
stimuli_met number =
    let e : stimuli_in (stimuli_of (bank number)) (used (bank number) base) ≡ 0 = no_stimuli number (stimuli_of (bank number)) in
    record { low = omega arith; high = omega (arith, e) }

all_met : (number : ℕ) → AllByRecursion (λ rule. IsMet (bank number) base (numbered rule)) (rows (high_of number))
all_met number = each_row (λ rule. IsMet (bank number) base (numbered rule)) (high_of number)
    (category_met number) (quantity_met number) (pair_met number) (stimuli_met number)

-- ---- the plan
abbrev pub numbers : ℕ → ℕ → Plan
numbers number sessions =
    record {
      length = 20;
      prior = (plan number sessions (items number)).prior;
      rows = map numbered (rows (high_of number));
      bounds = (plan number sessions (items number)).bounds;
      rate = record { num = 1; den = 4 };
      key = key_of number;
      bands = [];
      budget = 501;
      base_budget = 4095;
      sessions = sessions;
      journal = 536870912;
      base = Some (words_of base);
    }

pub means_it : (number sessions : ℕ) → plan_said (numbers number sessions) ≡ plan number sessions (items number)
means_it number sessions =
    ap₂ (λ (rs : List Said) (X : Set). record (plan number sessions (items number)) { rows = rs; base = Some X })
    (all_again (rows (high_of number)) (said_again (high_of number)))
    (in_words base base_low)

base_meets : (number sessions : ℕ) → Meets (bank number) (numbers number sessions) base
base_meets number sessions = record {
  right_length = record {
    in_bank = λ i e. omega (arith, base_to i e, size_is number);
    n_items = many number;
  };
  rows = λ r lt.
      let met = at_row (IsMet (bank number) base) (rows (high_of number)) (all_met number) r lt in
      record { low = met.low; high = met.high };
  stimuli = λ s some top.
      let e = no_items_of number s some in
      record { low = inl e; high = omega (arith, e) };
}

some_same : (a b : List ℕ) → Some a ≡ Some b → a ≡ b
some_same a b e = cc

-- ---- the prior
prior_value : (m : ℕ) → m ≤ 10000000 → IsLogLik (neg_ℤ (pos m))
prior_value zero few = (omega arith, omega arith)
prior_value (suc m) few = (record { le = yes_leb (omega (arith, few)) }, omega arith)

prior_values : (sessions number : ℕ) → AllByRecursion IsLogLik (numbers number sessions).prior
prior_values sessions number = (
  prior_value 500 (omega arith),
  (
    prior_value 320 (omega arith),
    (
      prior_value 180 (omega arith),
      (
        prior_value 80 (omega arith),
        (
          prior_value 20 (omega arith),
          (
            prior_value 0 (omega arith),
            (prior_value 20 (omega arith), (prior_value 80 (omega arith), (prior_value 180 (omega arith), (prior_value 320 (omega arith), (prior_value 500 (omega arith), tt))))),
          ),
        ),
      ),
    ),
  ),
)

-- ---- the bounds of the stimuli
two_to_four : (number sessions s : ℕ) → 0 < s → s ≤ stimuli_of (bank number)
    → bound_at (numbers number sessions) s ≡ record { low = 2; high = 4 }
two_to_four number sessions s some top =
    get_or-replicate 6 (s - 1) (record { low = 2; high = 4 }) no_bound (omega (arith, some, top, stimuli_are number))

bound_is : (P : StimulusBound → Type 0) → P (record { low = 2; high = 4 })
    → (number sessions s : ℕ) → 0 < s → s ≤ stimuli_of (bank number) → P (bound_at (numbers number sessions) s)
bound_is P p number sessions s some top = subst P (sym (two_to_four number sessions s some top)) p

pub is_plan : (number sessions : ℕ) → 1 ≤ sessions → sessions ≤ 200 → IsPlanFor (bank number) (numbers number sessions)
is_plan number sessions some few = record {
  some_items = omega arith;
  few_items = omega (arith, size_is number);
  prior_number = refl;
  prior_range = each_value IsLogLik (numbers number sessions).prior (pos 0) (prior_values sessions number) (prior_value 0 (omega arith));
  few_rows = omega arith;
  rows = at_row (IsRow (bank number)) (rows (high_of number)) (all_are_rows number);
  each_stimulus = sym (stimuli_are number);
  some_low = bound_is (λ bound. 0 < bound.low) (omega arith) number sessions;
  low_high = bound_is (λ bound. bound.low ≤ bound.high) (omega arith) number sessions;
  high = bound_is (λ bound. bound.high ≤ 512) (omega arith) number sessions;
  some_rate = omega arith;
  rate = omega arith;
  rate_high = omega arith;
  bands = record {
    few = omega arith;
    some = λ k lt. absurd (omega (arith, lt));
    within = λ k lt. absurd (omega (arith, lt));
    rising = λ j k less lt. absurd (omega (arith, lt));
  };
  budget = record { uneven = refl; high = omega arith };
  base_budget = record { uneven = refl; high = omega arith };
  some_sessions = some;
  few_sessions = omega (arith, few);
  journal_low = omega arith;
  journal_high = omega arith;
  base_meets = λ words e.
      subst (λ (ws : List ℕ). Meets (bank number) (numbers number sessions) (has ws)) (some_same (words_of base) words e)
      (subst (λ (X : Set). Meets (bank number) (numbers number sessions) X) (sym (in_words base base_low)) (base_meets number sessions));
}

-- ---- the key
abbrev IsBytes : List ℕ → Type 0
IsBytes xs = (i : ℕ) → slice_index xs i < 256

byte_small : (k n : ℕ) → byte_at k n < 256
byte_small zero n = omega arith
byte_small (suc k) n = omega arith

none_bytes : IsBytes []
none_bytes i = omega arith

one_byte : (x : ℕ) (xs : List ℕ) → x < 256 → IsBytes xs → IsBytes (x ∷ xs)
one_byte x xs low others zero = low
one_byte x xs low others (suc i) = others i

append_bytes : (xs ys : List ℕ) → IsBytes xs → IsBytes ys → IsBytes (xs ++ ys)
append_bytes [] ys first second = second
append_bytes (x ∷ xs) ys first second = one_byte x (xs ++ ys) (first 0) (append_bytes xs ys (λ i. first (suc i)) second)

high_first : (k n : ℕ) → IsBytes (bytes_high_first k n)
high_first zero n = none_bytes
high_first (suc k) n = one_byte (byte_at k n) (bytes_high_first k n) (byte_small k n) (high_first k n)

pub is_key : (number : ℕ) → IsKey (key_of number)
is_key number =
    let eight : IsBytes (eight_bytes number) = high_first 8 number in
    record {
      count = refl;
      bytes = append_bytes ((eight_bytes number ++ eight_bytes number) ++ eight_bytes number) (eight_bytes number)
          (append_bytes (eight_bytes number ++ eight_bytes number) (eight_bytes number)
          (append_bytes (eight_bytes number) (eight_bytes number) eight eight) eight) eight;
    }

-- ---- the text
module _ (number sessions : ℕ) (some : 1 ≤ sessions) (few : sessions ≤ 200) where
  is_bank : IsBank (bank number)
  is_bank = (drill_text number).bank

  same_text : canonical (numbers number sessions) ≡ plan_of_drill number sessions
  unfolding canonical plan_text
  same_text = ap (λ (said : SaidPlan). flat_map line_text (canonical_rules said)) (means_it number sessions)

  pub is_text : IsPlanText (bank number) (plan_of_drill number sessions) (numbers number sessions)
  is_text = subst (λ (text : List ℕ). IsPlanText (bank number) text (numbers number sessions)) same_text
      (canonical_says (bank number) (numbers number sessions) is_bank (is_plan number sessions some few) (is_key number))

  pub is_of_drill : IsPlanOfDrill number sessions (numbers number sessions)
  is_of_drill = record { means = means_it number sessions; valid = is_plan number sessions some few; key = is_key number; text = is_text }

  pub is_short : length (plan_of_drill number sessions) ≤ most_bytes
  is_short = subst (λ (text : List ℕ). length text ≤ most_bytes) same_text
      (canonical_short (bank number) (numbers number sessions) is_bank (is_plan number sessions some few) (is_key number))

  pub is_one : (p : Plan) → IsPlanText (bank number) (plan_of_drill number sessions) p → plan_said p ≡ plan number sessions (items number)
  is_one p text =
      one_plan (bank number) (plan_of_drill number sessions) p (numbers number sessions) text is_text ∙ means_it number sessions
