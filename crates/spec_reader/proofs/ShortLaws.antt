-- The canonical text of a plan isn't too long to be read.
use Rattle.std.proofs.Common.{◌≡◌, ◌⊎◌, ℕ, zero, suc, ◌+◌, ◌*◌, ◌<◌, ◌≤◌, eqb, List, [], ◌∷◌, ◌++◌, length, get_or, map, Option, Some, None, refl, ap, arith, inl, inr, ℤ, pos, negsuc, length-append}
use Rattle.std.specs.Prelude.{codes}
use Rattle.std.specs.List.{flat_map}
use Rattle.std.specs.Option.{option_map}
use Rattle.std.specs.Fmt.{decimal, signed_decimal}
use Rattle.std.proofs.lemmas.Bool.{cases_Bool}
use Rattle.std.proofs.lemmas.Fmt.{length-decimal-le}
use Rattle.std.proofs.lemmas.List.{length-map}
use Rattle.hex.specs.Hex.{encode_lower, lower_digits}
use Rattle.hex.proofs.HexLemmas.{length-encode_with}
use Rattle.bank_tables.specs.Items.{Set, has}
use Rattle.bank_tables.specs.Tables.{Tables}
use Rattle.bank_tables.specs.Validity.{IsBank}
use Rattle.form_model.specs.Plan.{Plan, no_bound}
use Rattle.form_model.specs.declared.row.Row.{Row}
use Rattle.form_model.specs.declared.row.Row.TheVariants as row
use Rattle.form_model.specs.declared.row.StimulusBound.{StimulusBound}
use Rattle.form_model.specs.Validity.{IsPlanFor}
use Rattle.exam_text.specs.Numbers.{magnitude}
use Rattle.exam_text.specs.declared.run.Run.{Run}
use Rattle.exam_text.specs.Runs.{IsRun, run_word}
use Rattle.exam_text.specs.Words.{spaced}
use Rattle.spec_reader.specs.Sets.{start_of, is_last, runs_below, runs_of}
use Rattle.spec_reader.specs.Rules.{Said, Length, Prior, Rate, Key, Bands, Budget, BaseBudget, Sessions, Journal, Count, Quantity, Enemies, Stimuli, Stimulus, Base}
use Rattle.spec_reader.specs.Grammar.{most, run, IsSet, IsPrinted, ArePrinted}
use Rattle.exam_text.specs.Keys.{IsKey}
use Rattle.spec_reader.specs.Plans.{SaidPlan, row_said, plan_said}
use Rattle.spec_reader.specs.Canonical.{set_words, words_text, line_text, bounds_below, band_rules, base_rules, limit_rules, setting_rules, canonical_rules, canonical}
use Rattle.spec_reader.specs.declared.plan_fault.PlanFault.{PlanFault}
use Rattle.spec_reader.specs.declared.plan_fault.PlanFault.TheVariants.{Memory, Source}
use Rattle.spec_reader.specs.Reading.{most_bytes, IsPlanText, IsReadFault}
use Rattle.spec_reader.proofs.SameLaws.{one_plan, only_outside}
use Rattle.spec_reader.proofs.RunsLaws.{runs_items}
use Rattle.spec_reader.proofs.BackLaws.{few_stimuli, canonical_printed, canonical_says}

-- how long the line of these words is, with a byte after each
total : List (List ℕ) → ℕ
total [] = 0
total (w ∷ ws) = length w + 1 + total ws

length-words : (w : List ℕ) (ws : List (List ℕ)) → length (words_text (w ∷ ws)) ≡ total (w ∷ ws)
unfolding words_text total
length-words w [] = omega (arith, length-append w (10 ∷ []))
length-words w (v ∷ vs) = omega (arith, length-words v vs, length-append w (32 ∷ spaced (v ∷ vs)), length-append (w ++ 32 ∷ spaced (v ∷ vs)) (10 ∷ []), length-append (spaced (v ∷ vs)) (10 ∷ []))

number_short : (n : ℕ) → n ≤ most → length (decimal n) ≤ 9
number_short n h = length-decimal-le 9 n (omega arith) (omega (arith, h)) (omega (arith, h))

value_short : (z : ℤ) → magnitude z ≤ most → length (signed_decimal z) ≤ 10
value_short (pos n) h = omega (arith, number_short n h)
value_short (negsuc n) h = omega (arith, number_short (suc n) (omega (arith, h)))

run_short : (r : Run) → IsRun r → length (run_word r) ≤ 7
run_short r is =
    let low : length (decimal r.low) ≤ 3 = length-decimal-le 3 r.low (omega arith) (omega (arith, is.order, is.high)) (omega (arith, is.order, is.high)) in
    let high : length (decimal r.high) ≤ 3 = length-decimal-le 3 r.high (omega arith) (omega (arith, is.high)) (omega (arith, is.high)) in
    elim (cases_Bool (eqb r.low r.high)) [
      | inl one ↦ rw one (omega (arith, low))
      | inr more ↦ rw more (omega (arith, low, high, length-append (decimal r.low) (45 ∷ decimal r.high)))
    ]

runs_short : (rs : List Run) → ((i : ℕ) → i < length rs → IsRun (run rs i)) → total (map run_word rs) ≤ 8 * length rs
unfolding total
runs_short [] h = omega arith
runs_short (r ∷ rs) h = omega (arith, run_short r (h 0 (omega arith)), runs_short rs (λ i lt. h (suc i) (omega (arith, lt))))

few_runs : (X : Set) (n : ℕ) → length (runs_below n X) ≤ n
few_runs X zero = omega arith
few_runs X (suc n) = elim (cases_Bool (is_last X n)) [
  | inl last ↦ rw last (omega (arith, few_runs X n, length-append (runs_below n X) (record { low = start_of X n; high = n } ∷ [])))
  | inr other ↦ rw other (omega (arith, few_runs X n))
]

set_short : (X : Set) → IsSet X → total (set_words X) ≤ 4096
unfolding runs_of
set_short X is = omega (arith, runs_short (runs_of X) (runs_items X is).0.each, few_runs X 512)

values_short : (zs : List ℤ) → ((i : ℕ) → i < length zs → magnitude (get_or zs i (pos 0)) ≤ most) → total (map signed_decimal zs) ≤ 11 * length zs
unfolding total
values_short [] h = omega arith
values_short (z ∷ zs) h = omega (arith, value_short z (h 0 (omega arith)), values_short zs (λ i lt. h (suc i) (omega (arith, lt))))

points_short : (points : List ℕ) → ((i : ℕ) → i < length points → get_or points i 0 ≤ 255) → total (map decimal points) ≤ 10 * length points
unfolding total
points_short [] h = omega arith
points_short (p ∷ points) h = omega (arith, number_short p (omega (arith, h 0 (omega arith))), points_short points (λ i lt. h (suc i) (omega (arith, lt))))

-- a line of a plan has at most so many bytes, where a prior in it has one value for each of at most
-- 61 points, and bands begin at no more points than there are bands
abbrev most_line : ℕ
most_line = 4200

abbrev HasFewValues : Said → Type 0
HasFewValues (Prior vs) = length vs ≤ 61
HasFewValues (Bands points) = length points ≤ 7
HasFewValues _ = Unit {0}

line_short : (rule : Said) → IsPrinted rule → HasFewValues rule → length (line_text rule) ≤ most_line
unfolding total
line_short (Length n) h few = omega (arith, length-words (codes "length") (decimal n ∷ []), number_short n h)
line_short (Prior vs) h few = omega (arith, length-words (codes "prior") (map signed_decimal vs), values_short vs h.1, few)
line_short (Rate n d) h few = omega (arith, length-words (codes "rate") (decimal n ∷ decimal d ∷ []), number_short n h.0, number_short d h.1)
line_short (Key k) h few = omega (arith, length-words (codes "key") (encode_lower k ∷ []), length-encode_with lower_digits k, h.0)
line_short (Bands points) h few = omega (arith, length-words (codes "bands") (map decimal points), points_short points h.1, few)
line_short (Budget n) h few = omega (arith, length-words (codes "budget") (decimal n ∷ []), number_short n h)
line_short (BaseBudget n) h few = omega (arith, length-words (codes "base-budget") (decimal n ∷ []), number_short n h)
line_short (Sessions n) h few = omega (arith, length-words (codes "sessions") (decimal n ∷ []), number_short n h)
line_short (Journal n) h few = omega (arith, length-words (codes "journal") (decimal n ∷ []), number_short n h)
line_short (Count low high s) h few = omega (arith, length-words (codes "count") (decimal low ∷ decimal high ∷ set_words s), number_short low h.0, number_short high h.1, set_short s h.2)
line_short (Quantity q low high s) h few = omega (arith, length-words (codes "quantity") (decimal q ∷ decimal low ∷ decimal high ∷ set_words s), number_short q (omega (arith, h.0)), number_short low h.1, number_short high h.2, set_short s h.3)
line_short (Enemies s) h few = omega (arith, length-words (codes "enemies") (set_words s), set_short s h)
line_short (Stimuli low high) h few = omega (arith, length-words (codes "stimuli") (decimal low ∷ decimal high ∷ []), number_short low h.0, number_short high h.1)
line_short (Stimulus s low high) h few = omega (arith, length-words (codes "stimulus") (decimal s ∷ decimal low ∷ decimal high ∷ []), number_short s (omega (arith, h.0)), number_short low h.1, number_short high h.2)
line_short (Base s) h few = omega (arith, length-words (codes "base") (set_words s), set_short s h)

abbrev HaveFewValues : List Said → Type 0
HaveFewValues [] = Unit {0}
HaveFewValues (rule ∷ rules) = HasFewValues rule × HaveFewValues rules

few_append : (xs ys : List Said) → HaveFewValues xs → HaveFewValues ys → HaveFewValues (xs ++ ys)
few_append [] ys h g = g
few_append (x ∷ xs) ys h g = (h.0, few_append xs ys h.1 g)

lines_short : (rules : List Said) → ArePrinted rules → HaveFewValues rules → length (flat_map line_text rules) ≤ most_line * length rules
lines_short [] h few = omega arith
lines_short (rule ∷ rules) h few = omega (arith, length-append (line_text rule) (flat_map line_text rules), line_short rule h.0 few.0, lines_short rules h.1 few.1)

rows_few : (rows : List Row) → HaveFewValues (map row_said rows)
rows_few [] = tt
rows_few (row.Count set low high ∷ rows) = (tt, rows_few rows)
rows_few (row.Quantity which set low high ∷ rows) = (tt, rows_few rows)
rows_few (row.Enemies set ∷ rows) = (tt, rows_few rows)
rows_few (row.Stimuli low high ∷ rows) = (tt, rows_few rows)

bounds_few : (n : ℕ) (bounds : List StimulusBound) → HaveFewValues (bounds_below n bounds)
bounds_few zero bounds = tt
bounds_few (suc n) bounds = few_append (bounds_below n bounds) (Stimulus (n + 1) (get_or bounds n no_bound).low (get_or bounds n no_bound).high ∷ []) (bounds_few n bounds) (tt, tt)

bands_few : (points : List ℕ) → length points ≤ 7 → HaveFewValues (band_rules points)
bands_few [] few = tt
bands_few (p ∷ points) few = (few, tt)

base_few : (base : Option Set) → HaveFewValues (base_rules base)
base_few None = tt
base_few (Some X) = (tt, tt)

length-bounds : (n : ℕ) (bounds : List StimulusBound) → length (bounds_below n bounds) ≡ n
length-bounds zero bounds = refl
length-bounds (suc n) bounds = omega (arith, length-bounds n bounds, length-append (bounds_below n bounds) (Stimulus (n + 1) (get_or bounds n no_bound).low (get_or bounds n no_bound).high ∷ []))

length-bands : (points : List ℕ) → length (band_rules points) ≤ 1
length-bands [] = omega arith
length-bands (p ∷ points) = omega arith

length-base : (base : Option Set) → length (base_rules base) ≤ 1
length-base None = omega arith
length-base (Some X) = omega arith

-- a canonical text can be read again
pub canonical_short : (b : Tables) (plan : Plan) → IsBank b → IsPlanFor b plan → IsKey plan.key → length (canonical plan) ≤ most_bytes
unfolding canonical canonical_rules
canonical_short b plan bank is key =
    let S : List Said = setting_rules (plan_said plan) in
    let R : List Said = map row_said plan.rows in
    let B : List Said = bounds_below (length plan.bounds) plan.bounds in
    let C : List Said = base_rules (option_map has plan.base) in
    let all : List Said = ((S ++ R) ++ B) ++ C in
    let points : length plan.prior ≤ 61 = omega (arith, is.prior_number, bank.few_points) in
    let bands : List Said = band_rules plan.bands in
    let limits : List Said = limit_rules (plan_said plan) in
    let settings : HaveFewValues S = (tt, (points, (tt, (tt, few_append bands limits (bands_few plan.bands is.bands.few) (tt, (tt, (tt, (tt, tt)))))))) in
    let few : HaveFewValues all = few_append ((S ++ R) ++ B) C (few_append (S ++ R) B (few_append S R settings (rows_few plan.rows)) (bounds_few (length plan.bounds) plan.bounds)) (base_few (option_map has plan.base)) in
    let printed : ArePrinted all = canonical_printed b plan bank is key in
    let count : length all ≤ 202 =
    omega (arith, length-append bands limits, length-bands plan.bands, length-append ((S ++ R) ++ B) C, length-append (S ++ R) B, length-append S R, length-map plan.rows row_said, length-bounds (length plan.bounds) plan.bounds, length-base (option_map has plan.base), is.few_rows, is.each_stimulus, few_stimuli b bank) in
    omega (arith, lines_short all printed few, count)

-- what is read of a canonical text is the plan
pub back_same : (b : Tables) (plan read : Plan) → IsBank b → IsPlanFor b plan → IsKey plan.key → IsPlanText b (canonical plan) read → plan_said read ≡ plan_said plan
back_same b plan read bank is key h = one_plan b (canonical plan) read plan h (canonical_says b plan bank is key)

pub back_again : (b : Tables) (plan read : Plan) → IsBank b → IsPlanFor b plan → IsKey plan.key → IsPlanText b (canonical plan) read → canonical read ≡ canonical plan
unfolding canonical
back_again b plan read bank is key h = ap (λ (p : SaidPlan). flat_map line_text (canonical_rules p)) (back_same b plan read bank is key h)

pub back_only : (b : Tables) (plan : Plan) (fault : PlanFault) → IsBank b → IsPlanFor b plan → IsKey plan.key → IsReadFault b (canonical plan) fault → (fault ≡ Memory) ⊎ (fault ≡ Source)
back_only b plan fault bank is key h = only_outside b (canonical plan) plan fault (canonical_short b plan bank is key) (canonical_says b plan bank is key) is h
