-- The canonical text of a plan reads back to the plan.
use Rattle.std.proofs.Common.{◌≡◌, ℕ, zero, suc, ◌+◌, ◌-◌, ◌<◌, ◌≤◌, true, false, ◌||◌, eqb, List, [], ◌∷◌, ◌++◌, length, get_or, map, Option, Some, None, refl, sym, subst, arith, append_assoc, inl, inr, ℤ, pos, negsuc}
use Rattle.std.specs.Prelude.{IsTrue}
use Rattle.std.specs.Option.{option_map}
use Rattle.std.proofs.lemmas.Bool.{ne_eqb, le-ltb, cases_Bool}
use Rattle.std.proofs.lemmas.Int.{ints}
use Rattle.std.proofs.lemmas.List.{append-nil}
use Rattle.std.proofs.lemmas.List.Folds.{list_any-append}
use Rattle.bank_tables.specs.Items.{Set, has}
use Rattle.bank_tables.specs.Tables.{Tables, size, stimulus}
use Rattle.bank_tables.specs.Sums.{count_in, greatest_below}
use Rattle.bank_tables.specs.Validity.{IsBank, IsLogLik}
use Rattle.form_model.specs.declared.row.Row.{Row}
use Rattle.form_model.specs.declared.row.Row.TheVariants as row
use Rattle.form_model.specs.declared.row.StimulusBound.{StimulusBound}
use Rattle.form_model.specs.Plan.{Plan, no_row, no_bound, bound_at}
use Rattle.form_model.specs.Forms.{stimuli_of, Meets}
use Rattle.form_model.specs.Validity.{IsRowSet, IsRow, IsPlanFor}
use Rattle.exam_text.specs.Numbers.{magnitude}
use Rattle.exam_text.proofs.Firsts.{none_from}
use Rattle.spec_reader.specs.Rules.{Said, Stimulus}
use Rattle.spec_reader.specs.Lines.{mark_of, is_mark, has_mark, missing}
use Rattle.spec_reader.specs.Plans.{SaidPlan, row_said, plan_said, drafted}
use Rattle.spec_reader.specs.Canonical.{bounds_below, band_rules, base_rules, limit_rules, setting_rules, canonical_rules, canonical}
use Rattle.spec_reader.specs.Grammar.{most, IsSet, IsPrinted, ArePrinted, AreFresh}
use Rattle.exam_text.specs.Keys.{IsKey}
use Rattle.spec_reader.specs.Reading.{rule_at, number_fault, numbers_fault, IsPlanText}
use Rattle.spec_reader.proofs.PlainLaws.{printed_again}
use Rattle.spec_reader.proofs.DraftLaws.{drafted_again}

-- ---- what a plan means can be printed

greatest_le : (n : ℕ) (f : ℕ → ℕ) (m : ℕ) → ((i : ℕ) → f i ≤ m) → greatest_below n f ≤ m
greatest_le zero f m h = omega arith
greatest_le (suc n) f m h = let before : greatest_below n f ≤ m = greatest_le n f m h in let here : f n ≤ m = h n in omega (arith, before, here)

pub few_stimuli : (b : Tables) → IsBank b → stimuli_of b ≤ 64
few_stimuli b bank = greatest_le (size b) (stimulus b) 64 bank.stimulus_high

set_is : (b : Tables) (X : Set) → IsBank b → IsRowSet b X → IsSet X
set_is b X bank is = record { member = is.member; is_member = is.is_member; few = λ x e. let lt : x < size b = is.items x e in omega (arith, lt, bank.few) }

row_printed : (b : Tables) (r : Row) → IsBank b → IsRow b r → IsPrinted (row_said r)
row_printed b (row.Count set low high) bank h = (omega (arith, h.0, h.1), omega (arith, h.1), set_is b (has set) bank h.2)
row_printed b (row.Quantity which set low high) bank h = (omega (arith, h.3, bank.few_quantities), omega (arith, h.0, h.1), omega (arith, h.1), set_is b (has set) bank h.2)
row_printed b (row.Enemies set) bank h = set_is b (has set) bank h
row_printed b (row.Stimuli low high) bank h = (omega (arith, h.0, h.1), omega (arith, h.1))

rows_printed : (b : Tables) (rows : List Row) → IsBank b → ((r : ℕ) → r < length rows → IsRow b (get_or rows r no_row)) → ArePrinted (map row_said rows)
rows_printed b [] bank h = tt
rows_printed b (r ∷ rows) bank h = (row_printed b r bank (h 0 (omega arith)), rows_printed b rows bank (λ i lt. h (suc i) (omega (arith, lt))))

printed_append : (xs ys : List Said) → ArePrinted xs → ArePrinted ys → ArePrinted (xs ++ ys)
printed_append [] ys h g = g
printed_append (x ∷ xs) ys h g = (h.0, printed_append xs ys h.1 g)

record IsShort (bound : StimulusBound) : Type 0 where
  low : bound.low ≤ most
  high : bound.high ≤ most

bounds_printed : (n : ℕ) (bounds : List StimulusBound) → n ≤ 64 → ((k : ℕ) → k < n → IsShort (get_or bounds k no_bound)) → ArePrinted (bounds_below n bounds)
bounds_printed zero bounds le h = tt
bounds_printed (suc n) bounds le h =
    let here : IsShort (get_or bounds n no_bound) = h n (omega arith) in
    printed_append (bounds_below n bounds) (Stimulus (n + 1) (get_or bounds n no_bound).low (get_or bounds n no_bound).high ∷ []) (bounds_printed n bounds (omega (arith, le)) (λ k lt. h k (omega (arith, lt)))) ((omega (arith, le), here.low, here.high), tt)

some_member : (n : ℕ) (X : Set) → 0 < count_in n X (λ _. true) → (i : ℕ) × IsTrue (X i)
some_member zero X h = absurd (omega arith)
some_member (suc n) X h = elim (cases_Bool (X n)) [
  | inl member ↦ (n, member)
  | inr out ↦ some_member n X (let less : 0 < count_in n X (λ _. true) + 0 = rw out at h in omega (arith, less))
]

form_is : (b : Tables) (plan : Plan) (words : List ℕ) → IsBank b → 0 < plan.length → Meets b plan (has words) → IsSet (has words)
form_is b plan words bank some meets =
    let found = some_member (size b) (has words) (omega (arith, some, meets.right_length.n_items)) in
    record { member = found.0; is_member = found.1; few = λ x e. let lt : x < size b = meets.right_length.in_bank x e in omega (arith, lt, bank.few) }

base_printed : (base : Option (List ℕ)) → ((words : List ℕ) → base ≡ Some words → IsSet (has words)) → ArePrinted (base_rules (option_map has base))
base_printed None h = tt
base_printed (Some words) h = (h words refl, tt)

short_value : (z : ℤ) → IsLogLik z → magnitude z ≤ most
short_value (pos n) h = omega (arith, ints, h.0, h.1)
short_value (negsuc n) h = omega (arith, ints, h.0, h.1)

bands_printed : (points : List ℕ) → ((i : ℕ) → i < length points → get_or points i 0 ≤ 255) → ArePrinted (band_rules points)
bands_printed [] h = tt
bands_printed (p ∷ points) h = ((omega arith, h), tt)

limits_printed : (b : Tables) (plan : Plan) → IsPlanFor b plan → ArePrinted (limit_rules (plan_said plan))
limits_printed b plan is = (
  omega (arith, is.budget.high),
  (
    omega (arith, is.base_budget.high),
    (
      omega (arith, is.few_sessions),
      (omega (arith, is.journal_high), tt),
    ),
  ),
)

settings_printed : (b : Tables) (plan : Plan) → IsBank b → IsPlanFor b plan → IsKey plan.key → ArePrinted (setting_rules (plan_said plan))
settings_printed b plan bank is key = (
  omega (arith, is.few_items, bank.few),
  (
    (omega (arith, is.prior_number, bank.some_points), λ i lt. short_value (get_or plan.prior i (pos 0)) (is.prior_range i)),
    (
      (omega (arith, is.rate, is.rate_high), omega (arith, is.rate_high)),
      (
        (key.count, key.bytes),
        printed_append (band_rules plan.bands) (limit_rules (plan_said plan))
            (bands_printed plan.bands (λ i lt. omega (arith, is.bands.within i lt, bank.few_points)))
            (limits_printed b plan is),
      ),
    ),
  ),
)

short_bound : (b : Tables) (plan : Plan) → IsPlanFor b plan → (k : ℕ) → k < length plan.bounds → IsShort (get_or plan.bounds k no_bound)
short_bound b plan is k lt =
    let place : k + 1 - 1 ≡ k = omega arith in
    let within : k + 1 ≤ stimuli_of b = omega (arith, lt, is.each_stimulus) in
    let low : (bound_at plan (k + 1)).low ≤ (bound_at plan (k + 1)).high = is.low_high (k + 1) (omega arith) within in
    let high : (bound_at plan (k + 1)).high ≤ 512 = is.high (k + 1) (omega arith) within in
    let short : IsShort (get_or plan.bounds (k + 1 - 1) no_bound) = record { low = omega (arith, low, high); high = omega (arith, high) } in
    subst (λ (i : ℕ). IsShort (get_or plan.bounds i no_bound)) place short

pub canonical_printed : (b : Tables) (plan : Plan) → IsBank b → IsPlanFor b plan → IsKey plan.key → ArePrinted (canonical_rules (plan_said plan))
unfolding canonical_rules
canonical_printed b plan bank is key =
    printed_append ((setting_rules (plan_said plan) ++ map row_said plan.rows) ++ bounds_below (length plan.bounds) plan.bounds) (base_rules (option_map has plan.base))
    (printed_append (setting_rules (plan_said plan) ++ map row_said plan.rows) (bounds_below (length plan.bounds) plan.bounds)
    (printed_append (setting_rules (plan_said plan)) (map row_said plan.rows) (settings_printed b plan bank is key) (rows_printed b plan.rows bank is.rows))
    (bounds_printed (length plan.bounds) plan.bounds (omega (arith, is.each_stimulus, few_stimuli b bank)) (short_bound b plan is)))
    (base_printed plan.base (λ words e. form_is b plan words bank is.some_items (is.base_meets words e)))

-- ---- no line occurs twice

has_mark-append : (m : ℕ) (xs ys : List Said) → has_mark m (xs ++ ys) ≡ (has_mark m xs || has_mark m ys)
has_mark-append m xs ys = list_any-append (λ r. is_mark m (mark_of r)) xs ys

rows_unmarked : (m : ℕ) (rows : List Row) → has_mark m (map row_said rows) ≡ false
rows_unmarked m [] = refl
rows_unmarked m (row.Count set low high ∷ rows) = rows_unmarked m rows
rows_unmarked m (row.Quantity which set low high ∷ rows) = rows_unmarked m rows
rows_unmarked m (row.Enemies set ∷ rows) = rows_unmarked m rows
rows_unmarked m (row.Stimuli low high ∷ rows) = rows_unmarked m rows

bounds_unmarked : (m n : ℕ) (bounds : List StimulusBound) → ((k : ℕ) → k < n → eqb (10 + (k + 1)) m ≡ false) → has_mark m (bounds_below n bounds) ≡ false
bounds_unmarked m zero bounds h = refl
bounds_unmarked m (suc n) bounds h =
    rw (has_mark-append m (bounds_below n bounds) (Stimulus (n + 1) (get_or bounds n no_bound).low (get_or bounds n no_bound).high ∷ []), bounds_unmarked m n bounds (λ k lt. h k (omega (arith, lt))), h n (omega arith)) refl

-- the settings of a plan with these bands
abbrev settings_at : SaidPlan → List ℕ → List Said
settings_at p points = setting_rules (record p { bands = points })

-- no line of a setting has a number above 8
settings_low : (p : SaidPlan) (points : List ℕ) (m : ℕ) → 8 < m → has_mark m (settings_at p points) ≡ false
settings_low p [] m lt =
    rw (
      ne_eqb 0 m (λ e. omega (arith, e, lt)),
      ne_eqb 1 m (λ e. omega (arith, e, lt)),
      ne_eqb 2 m (λ e. omega (arith, e, lt)),
      ne_eqb 3 m (λ e. omega (arith, e, lt)),
      ne_eqb 5 m (λ e. omega (arith, e, lt)),
      ne_eqb 6 m (λ e. omega (arith, e, lt)),
      ne_eqb 7 m (λ e. omega (arith, e, lt)),
      ne_eqb 8 m (λ e. omega (arith, e, lt)),
    ) refl
settings_low p (point ∷ points) m lt =
    rw (
      ne_eqb 0 m (λ e. omega (arith, e, lt)),
      ne_eqb 1 m (λ e. omega (arith, e, lt)),
      ne_eqb 2 m (λ e. omega (arith, e, lt)),
      ne_eqb 3 m (λ e. omega (arith, e, lt)),
      ne_eqb 4 m (λ e. omega (arith, e, lt)),
      ne_eqb 5 m (λ e. omega (arith, e, lt)),
      ne_eqb 6 m (λ e. omega (arith, e, lt)),
      ne_eqb 7 m (λ e. omega (arith, e, lt)),
      ne_eqb 8 m (λ e. omega (arith, e, lt)),
    ) refl

settings_unmarked : (p : SaidPlan) (m : ℕ) → 8 < m → has_mark m (setting_rules p) ≡ false
settings_unmarked p m lt = settings_low p p.bands m lt

fresh_append : (before xs ys : List Said) → AreFresh before xs → AreFresh (before ++ xs) ys → AreFresh before (xs ++ ys)
fresh_append before [] ys h g = subst (λ (all : List Said). AreFresh all ys) (append-nil before) g
fresh_append before (x ∷ xs) ys h g = (h.0, fresh_append (before ++ x ∷ []) xs ys h.1 (subst (λ (all : List Said). AreFresh all ys) (sym (append_assoc before (x ∷ []) xs)) g))

settings_once : (p : SaidPlan) (points : List ℕ) → AreFresh [] (settings_at p points)
settings_once p [] = (refl, (refl, (refl, (refl, (refl, (refl, (refl, (refl, tt))))))))
settings_once p (point ∷ points) = (refl, (refl, (refl, (refl, (refl, (refl, (refl, (refl, (refl, tt)))))))))

settings_fresh : (p : SaidPlan) → AreFresh [] (setting_rules p)
settings_fresh p = settings_once p p.bands

rows_fresh : (rows : List Row) (before : List Said) → AreFresh before (map row_said rows)
rows_fresh [] before = tt
rows_fresh (row.Count set low high ∷ rows) before = (refl, rows_fresh rows (before ++ row_said (row.Count set low high) ∷ []))
rows_fresh (row.Quantity which set low high ∷ rows) before = (refl, rows_fresh rows (before ++ row_said (row.Quantity which set low high) ∷ []))
rows_fresh (row.Enemies set ∷ rows) before = (refl, rows_fresh rows (before ++ row_said (row.Enemies set) ∷ []))
rows_fresh (row.Stimuli low high ∷ rows) before = (refl, rows_fresh rows (before ++ row_said (row.Stimuli low high) ∷ []))

bounds_fresh : (n : ℕ) (bounds : List StimulusBound) (before : List Said) → ((k : ℕ) → k < n → has_mark (10 + (k + 1)) before ≡ false) → AreFresh before (bounds_below n bounds)
bounds_fresh zero bounds before h = tt
bounds_fresh (suc n) bounds before h =
    let free : has_mark (10 + (n + 1)) (before ++ bounds_below n bounds) ≡ false =
    rw (has_mark-append (10 + (n + 1)) before (bounds_below n bounds), h n (omega arith)) (bounds_unmarked (10 + (n + 1)) n bounds (λ k lt. ne_eqb (10 + (k + 1)) (10 + (n + 1)) (λ e. omega (arith, e, lt)))) in
    fresh_append before (bounds_below n bounds) (Stimulus (n + 1) (get_or bounds n no_bound).low (get_or bounds n no_bound).high ∷ []) (bounds_fresh n bounds before (λ k lt. h k (omega (arith, lt)))) (free, tt)

base_fresh : (base : Option Set) (before : List Said) → has_mark 9 before ≡ false → AreFresh before (base_rules base)
base_fresh None before h = tt
base_fresh (Some X) before h = (h, tt)

canonical_fresh : (plan : Plan) → AreFresh [] (canonical_rules (plan_said plan))
unfolding canonical_rules
canonical_fresh plan =
    let S : List Said = setting_rules (plan_said plan) in
    let R : List Said = map row_said plan.rows in
    let B : List Said = bounds_below (length plan.bounds) plan.bounds in
    let marked : (k : ℕ) → k < length plan.bounds → has_mark (10 + (k + 1)) (S ++ R) ≡ false = λ k lt. rw (has_mark-append (10 + (k + 1)) S R, settings_unmarked (plan_said plan) (10 + (k + 1)) (omega arith)) (rows_unmarked (10 + (k + 1)) plan.rows) in
    let nine : has_mark 9 ((S ++ R) ++ B) ≡ false =
    rw (has_mark-append 9 (S ++ R) B, has_mark-append 9 S R, settings_unmarked (plan_said plan) 9 (omega arith), rows_unmarked 9 plan.rows) (bounds_unmarked 9 (length plan.bounds) plan.bounds (λ k lt. ne_eqb (10 + (k + 1)) 9 (λ e. omega (arith, e)))) in
    fresh_append [] ((S ++ R) ++ B) (base_rules (option_map has plan.base))
    (fresh_append [] (S ++ R) B (fresh_append [] S R (settings_fresh (plan_said plan)) (rows_fresh plan.rows S)) (bounds_fresh (length plan.bounds) plan.bounds (S ++ R) marked))
    (base_fresh (option_map has plan.base) ((S ++ R) ++ B) nine)

-- ---- none is missing, and each stimulus is the bank's

canonical_whole : (p : SaidPlan) → missing (canonical_rules p) ≡ None
unfolding canonical_rules missing
canonical_whole p = refl

abbrev AreKnown : ℕ → List Said → Type 0
AreKnown stimuli [] = Unit {0}
AreKnown stimuli (rule ∷ rules) = (number_fault stimuli rule ≡ None) × AreKnown stimuli rules

known_append : (n : ℕ) (xs ys : List Said) → AreKnown n xs → AreKnown n ys → AreKnown n (xs ++ ys)
known_append n [] ys h g = g
known_append n (x ∷ xs) ys h g = (h.0, known_append n xs ys h.1 g)

known_at : (n : ℕ) (rules : List Said) → AreKnown n rules → (i : ℕ) → i < length rules → number_fault n (rule_at rules i) ≡ None
known_at n [] h i lt = absurd (omega arith)
known_at n (rule ∷ rules) h zero lt = h.0
known_at n (rule ∷ rules) h (suc i) lt = known_at n rules h.1 i (omega (arith, lt))

rows_known : (n : ℕ) (rows : List Row) → AreKnown n (map row_said rows)
rows_known n [] = tt
rows_known n (row.Count set low high ∷ rows) = (refl, rows_known n rows)
rows_known n (row.Quantity which set low high ∷ rows) = (refl, rows_known n rows)
rows_known n (row.Enemies set ∷ rows) = (refl, rows_known n rows)
rows_known n (row.Stimuli low high ∷ rows) = (refl, rows_known n rows)

bounds_known : (n k : ℕ) (bounds : List StimulusBound) → k ≤ n → AreKnown n (bounds_below k bounds)
bounds_known n zero bounds le = tt
bounds_known n (suc k) bounds le =
    let here : number_fault n (Stimulus (k + 1) (get_or bounds k no_bound).low (get_or bounds k no_bound).high) ≡ None = rw (ne_eqb (k + 1) 0 (λ e. omega (arith, e)), le-ltb n (k + 1) (omega (arith, le))) refl in
    known_append n (bounds_below k bounds) (Stimulus (k + 1) (get_or bounds k no_bound).low (get_or bounds k no_bound).high ∷ []) (bounds_known n k bounds (omega (arith, le))) (here, tt)

base_known : (n : ℕ) (base : Option Set) → AreKnown n (base_rules base)
base_known n None = tt
base_known n (Some X) = (refl, tt)

settings_known : (n : ℕ) (p : SaidPlan) (points : List ℕ) → AreKnown n (settings_at p points)
settings_known n p [] = (refl, (refl, (refl, (refl, (refl, (refl, (refl, (refl, tt))))))))
settings_known n p (point ∷ points) = (refl, (refl, (refl, (refl, (refl, (refl, (refl, (refl, (refl, tt)))))))))

canonical_known : (n : ℕ) (plan : Plan) → length plan.bounds ≡ n → numbers_fault n (canonical_rules (plan_said plan)) ≡ None
unfolding numbers_fault canonical_rules
canonical_known n plan e =
    let S : List Said = setting_rules (plan_said plan) in
    let R : List Said = map row_said plan.rows in
    let B : List Said = bounds_below (length plan.bounds) plan.bounds in
    let C : List Said = base_rules (option_map has plan.base) in
    let settings : AreKnown n S = settings_known n (plan_said plan) (plan_said plan).bands in
    let all : AreKnown n (((S ++ R) ++ B) ++ C) = known_append n ((S ++ R) ++ B) C (known_append n (S ++ R) B (known_append n S R settings (rows_known n plan.rows)) (bounds_known n (length plan.bounds) plan.bounds (omega (arith, e)))) (base_known n (option_map has plan.base)) in
    none_from (length (((S ++ R) ++ B) ++ C)) (λ i. number_fault n (rule_at (((S ++ R) ++ B) ++ C) i)) (known_at n (((S ++ R) ++ B) ++ C) all)

-- the canonical text of a plan means the plan
pub canonical_says : (b : Tables) (plan : Plan) → IsBank b → IsPlanFor b plan → IsKey plan.key → IsPlanText b (canonical plan) plan
unfolding canonical
canonical_says b plan bank is key = record {
  rules = canonical_rules (plan_said plan);
  are = record {
    lines = printed_again (canonical_rules (plan_said plan)) (canonical_printed b plan bank is key) (canonical_fresh plan);
    whole = canonical_whole (plan_said plan);
  };
  stimuli = canonical_known (stimuli_of b) plan is.each_stimulus;
  draft = sym (subst (λ (n : ℕ). drafted n (canonical_rules (plan_said plan)) ≡ plan_said plan) is.each_stimulus (drafted_again (plan_said plan) plan.rows refl));
}
