-- Words of the grammar are read.
use Rattle.std.proofs.Common.{◌≡◌, ℕ, zero, suc, ◌+◌, ◌-◌, ◌<◌, ◌≤◌, Bool, true, eqb, List, [], ◌∷◌, length, get_or, map, drop, Some, Result, Ok, refl, sym, ap, subst, ◌∙◌, arith, add-one, inl, inr, ℤ, pos, negsuc, length-append}
use Rattle.std.specs.Prelude.{nat_lt, codes}
use Rattle.std.specs.Fmt.{decimal, signed_decimal}
use Rattle.std.proofs.Math.Path.{fun_ext}
use Rattle.std.proofs.lemmas.Bool.{lt-ltb, le-leb, and_from, cases_Bool}
use Rattle.std.proofs.lemmas.List.{get_or-map, length-map}
use Rattle.std.proofs.lemmas.Fmt.{decimal_nonempty}
use Rattle.hex.specs.Hex.{encode_lower, encode_with, IsBytes}
use Rattle.bank_tables.specs.Items.{Set}
use Rattle.bank_tables.specs.Sums.{any_below}
use Rattle.exam_text.specs.First.{all_below, or_fault}
use Rattle.exam_text.specs.Numbers.{number_of, signed_of, magnitude}
use Rattle.exam_text.proofs.Numerals.{number_again, signed_again}
use Rattle.exam_text.proofs.Firsts.{each_from}
use Rattle.exam_text.proofs.RunLaws.{run_again}
use Rattle.exam_text.specs.declared.run.Run.{Run}
use Rattle.exam_text.specs.Runs.{IsRun, run_word, run_of, fits, in_run, is_set}
use Rattle.exam_text.specs.Words.{word, none_empty}
use Rattle.spec_reader.specs.declared.keyword.Setting.TheVariants as setting
use Rattle.spec_reader.specs.declared.keyword.Constraint.TheVariants as constraint
use Rattle.spec_reader.specs.declared.keyword.Keyword.{Keyword}
use Rattle.spec_reader.specs.declared.keyword.Keyword.TheVariants as keyword
use Rattle.spec_reader.specs.declared.line_fault.Kind.TheVariants as kind
use Rattle.spec_reader.specs.declared.line_fault.LineFault.{LineFault}
use Rattle.spec_reader.specs.declared.line_fault.LineFault.TheVariants.{Line}
use Rattle.spec_reader.specs.Sets.{in_set}
use Rattle.spec_reader.specs.Keywords.{keyword_of, setting_of, constraint_of, fits_count}
use Rattle.spec_reader.specs.Rules.{Said, Length, Prior, Rate, Key, Bands, Budget, BaseBudget, Sessions, Journal, Count, Quantity, Enemies, Stimuli, Stimulus, Base, set_in, signeds_in, points_in, setting_said, constraint_said, rule_said, line_of}
use Rattle.spec_reader.specs.Grammar.{most, no_run, run, in_runs, AreRuns, Says}
use Rattle.spec_reader.proofs.Keys.{key_some}

-- ---- sets

word_read : (rs : List Run) → AreRuns rs → (i : ℕ) → i < length rs → run_of (word (map run_word rs) i) ≡ Some (run rs i)
word_read rs h i lt = ap run_of (get_or-map run_word rs i no_run [] lt) ∙ run_again (run rs i) (h.each i lt)

run_fits : (rs : List Run) → AreRuns rs → (i : ℕ) → i < length rs → fits (map run_word rs) i ≡ true
run_fits rs h zero lt = rw (word_read rs h zero lt) (le-leb _ _ (omega arith))
run_fits rs h (suc i) lt =
    let before : i < length rs = omega (arith, lt) in
    let next : i + 1 < length rs = omega (arith, lt) in
    let apart : (run rs i).high < (run rs (suc i)).low = subst (λ (k : ℕ). (run rs i).high < (run rs k).low) (add-one i) (h.apart i next) in
    rw (word_read rs h i before, word_read rs h (suc i) lt) (le-leb _ _ (omega (arith, apart)))

all_from : (n : ℕ) (p : ℕ → Bool) → ((i : ℕ) → i < n → p i ≡ true) → all_below n p ≡ true
all_from zero p h = refl
all_from (suc n) p h = and_from _ _ (all_from n p (λ i lt. h i (omega (arith, lt)))) (h n (omega arith))

pub any_same : (n : ℕ) (p q : ℕ → Bool) → ((i : ℕ) → i < n → p i ≡ q i) → any_below n p ≡ any_below n q
any_same zero p q h = refl
any_same (suc n) p q h = rw (any_same n p q (λ i lt. h i (omega (arith, lt))), h n (omega arith)) refl

pub runs_are_set : (rs : List Run) → AreRuns rs → is_set (map run_word rs) ≡ true
unfolding is_set
runs_are_set rs h = rw (length-map rs run_word) (and_from _ _ (lt-ltb _ _ h.some) (all_from (length rs) (fits (map run_word rs)) (run_fits rs h)))

pub runs_items : (rs : List Run) → AreRuns rs → (x : ℕ) → in_set (map run_word rs) x ≡ in_runs rs x
unfolding in_set
runs_items rs h x = rw (length-map rs run_word) (any_same (length rs) (λ i. in_run x (run_of (word (map run_word rs) i))) (λ i. in_run x (Some (run rs i))) (λ i lt. ap (in_run x) (word_read rs h i lt)))

ok_set : Set → Result Set LineFault
ok_set X = Ok X

set_read : (at from : ℕ) (words : List (List ℕ)) (X : Set) (rs : List Run) → drop from words ≡ map run_word rs → AreRuns rs → ((x : ℕ) → X x ≡ in_runs rs x) → set_in at from words ≡ Ok X
set_read at from words X rs e are items =
    let same : in_set (map run_word rs) ≡ X = fun_ext (λ x. runs_items rs are x ∙ sym (items x)) in
    rw (e, runs_are_set rs are, same) refl

-- ---- words

-- no word is empty
abbrev pub NonEmpty : List (List ℕ) → Type 0
NonEmpty [] = Unit {0}
NonEmpty (w ∷ ws) = (0 < length w) × NonEmpty ws

nonempty_at : (ws : List (List ℕ)) → NonEmpty ws → (i : ℕ) → i < length ws → 0 < length (word ws i)
nonempty_at [] h i lt = absurd (omega arith)
nonempty_at (w ∷ ws) h zero lt = h.0
nonempty_at (w ∷ ws) h (suc i) lt = nonempty_at ws h.1 i (omega (arith, lt))

none_empty_is : (ws : List (List ℕ)) → NonEmpty ws → none_empty ws ≡ true
none_empty_is ws h = all_from (length ws) (λ i. nat_lt 0 (length (word ws i))) (λ i lt. lt-ltb _ _ (nonempty_at ws h i lt))

run_nonempty : (r : Run) → IsRun r → 0 < length (run_word r)
run_nonempty r is = elim (cases_Bool (eqb r.low r.high)) [
  | inl one ↦ rw one (decimal_nonempty r.low (omega (arith, is.order, is.high)))
  | inr more ↦ rw more (omega (arith, length-append (decimal r.low) (45 ∷ decimal r.high)))
]

runs_nonempty : (rs : List Run) → ((i : ℕ) → i < length rs → IsRun (run rs i)) → NonEmpty (map run_word rs)
runs_nonempty [] h = tt
runs_nonempty (r ∷ rs) h = (run_nonempty r (h 0 (omega arith)), runs_nonempty rs (λ i lt. h (suc i) (omega (arith, lt))))

value_nonempty : (z : ℤ) → magnitude z ≤ most → 0 < length (signed_decimal z)
value_nonempty (pos n) h = decimal_nonempty n (omega (arith, h))
value_nonempty (negsuc n) h = omega arith

values_nonempty : (zs : List ℤ) → ((i : ℕ) → i < length zs → magnitude (get_or zs i (pos 0)) ≤ most) → NonEmpty (map signed_decimal zs)
values_nonempty [] h = tt
values_nonempty (z ∷ zs) h = (value_nonempty z (h 0 (omega arith)), values_nonempty zs (λ i lt. h (suc i) (omega (arith, lt))))

number_nonempty : (n : ℕ) → n ≤ most → 0 < length (decimal n)
number_nonempty n h = decimal_nonempty n (omega (arith, h))

number_read : (n : ℕ) → n ≤ most → number_of most (decimal n) ≡ Some n
number_read n h = number_again most n (omega arith) h

byte_read : (n : ℕ) → n ≤ 255 → number_of 255 (decimal n) ≡ Some n
byte_read n h = number_again 255 n (omega arith) h

points_nonempty : (points : List ℕ) → ((i : ℕ) → i < length points → get_or points i 0 ≤ 255) → NonEmpty (map decimal points)
points_nonempty [] h = tt
points_nonempty (p ∷ points) h = (number_nonempty p (omega (arith, h 0 (omega arith))), points_nonempty points (λ i lt. h (suc i) (omega (arith, lt))))

line_from : (at : ℕ) (words : List (List ℕ)) (first : Keyword) (rule : Said) → keyword_of (word words 0) ≡ Some first → fits_count first (length words) ≡ true → NonEmpty words → rule_said at first words ≡ Ok rule → line_of at words ≡ Ok rule
unfolding line_of
line_from at words first rule k f ne r = rw (k, f, none_empty_is words ne) r

-- ---- one kind of line after the other

says_length : (at n : ℕ) → n ≤ most → line_of at (codes "length" ∷ decimal n ∷ []) ≡ Ok (Length n)
unfolding keyword_of setting_of constraint_of setting_said
says_length at n h = line_from at (codes "length" ∷ decimal n ∷ []) (keyword.Setting setting.Length) (Length n) refl refl (omega arith, (number_nonempty n h, tt)) (rw (number_read n h) refl)

says_budget : (at n : ℕ) → n ≤ most → line_of at (codes "budget" ∷ decimal n ∷ []) ≡ Ok (Budget n)
unfolding keyword_of setting_of constraint_of setting_said
says_budget at n h = line_from at (codes "budget" ∷ decimal n ∷ []) (keyword.Setting setting.Budget) (Budget n) refl refl (omega arith, (number_nonempty n h, tt)) (rw (number_read n h) refl)

says_base_budget : (at n : ℕ) → n ≤ most → line_of at (codes "base-budget" ∷ decimal n ∷ []) ≡ Ok (BaseBudget n)
unfolding keyword_of setting_of constraint_of setting_said
says_base_budget at n h = line_from at (codes "base-budget" ∷ decimal n ∷ []) (keyword.Setting setting.BaseBudget) (BaseBudget n) refl refl (omega arith, (number_nonempty n h, tt)) (rw (number_read n h) refl)

says_sessions : (at n : ℕ) → n ≤ most → line_of at (codes "sessions" ∷ decimal n ∷ []) ≡ Ok (Sessions n)
unfolding keyword_of setting_of constraint_of setting_said
says_sessions at n h = line_from at (codes "sessions" ∷ decimal n ∷ []) (keyword.Setting setting.Sessions) (Sessions n) refl refl (omega arith, (number_nonempty n h, tt)) (rw (number_read n h) refl)

says_journal : (at n : ℕ) → n ≤ most → line_of at (codes "journal" ∷ decimal n ∷ []) ≡ Ok (Journal n)
unfolding keyword_of setting_of constraint_of setting_said
says_journal at n h = line_from at (codes "journal" ∷ decimal n ∷ []) (keyword.Setting setting.Journal) (Journal n) refl refl (omega arith, (number_nonempty n h, tt)) (rw (number_read n h) refl)

says_rate : (at n d : ℕ) → n ≤ most → d ≤ most → line_of at (codes "rate" ∷ decimal n ∷ decimal d ∷ []) ≡ Ok (Rate n d)
unfolding keyword_of setting_of constraint_of setting_said
says_rate at n d hn hd = line_from at (codes "rate" ∷ decimal n ∷ decimal d ∷ []) (keyword.Setting setting.Rate) (Rate n d) refl refl (omega arith, (number_nonempty n hn, (number_nonempty d hd, tt))) (rw (number_read n hn, number_read d hd) refl)

key_nonempty : (k : List ℕ) → length k ≡ 32 → 0 < length (encode_lower k)
unfolding encode_with
key_nonempty [] h = absurd (omega arith)
key_nonempty (b ∷ k) h = omega arith

says_key : (at : ℕ) (k : List ℕ) → length k ≡ 32 → IsBytes k → line_of at (codes "key" ∷ encode_lower k ∷ []) ≡ Ok (Key k)
unfolding keyword_of setting_of constraint_of setting_said
says_key at k len bytes = line_from at (codes "key" ∷ encode_lower k ∷ []) (keyword.Setting setting.Key) (Key k) refl refl (omega arith, (key_nonempty k len, tt)) (rw (key_some (encode_lower k) k len bytes refl) refl)

values_read : (at : ℕ) (vs : List ℤ) → ((i : ℕ) → i < length vs → magnitude (get_or vs i (pos 0)) ≤ most) → signeds_in at (codes "prior" ∷ map signed_decimal vs) ≡ Ok vs
values_read at vs h =
    let words : List (List ℕ) = codes "prior" ∷ map signed_decimal vs in
    let count : length vs ≡ length words - 1 = omega (arith, length-map vs signed_decimal) in
    each_from (length words - 1) (λ i. or_fault (signed_of 999999999 (word words (i + 1))) (Line at kind.Number)) vs (pos 0) count
    (λ i lt.
    let within : i < length vs = omega (arith, lt, count) in
    let text : word words (i + 1) ≡ signed_decimal (get_or vs i (pos 0)) = rw (add-one i) (get_or-map signed_decimal vs i (pos 0) [] within) in
    rw (text, signed_again most (get_or vs i (pos 0)) (omega arith) (h i within)) refl)

says_prior : (at : ℕ) (vs : List ℤ) → 0 < length vs → ((i : ℕ) → i < length vs → magnitude (get_or vs i (pos 0)) ≤ most) → line_of at (codes "prior" ∷ map signed_decimal vs) ≡ Ok (Prior vs)
unfolding keyword_of setting_of constraint_of setting_said
says_prior at vs some h =
    line_from at (codes "prior" ∷ map signed_decimal vs) (keyword.Setting setting.Prior) (Prior vs) refl (le-leb 2 _ (omega (arith, some, length-map vs signed_decimal))) (omega arith, values_nonempty vs h) (rw (values_read at vs h) refl)

points_read : (at : ℕ) (points : List ℕ) → ((i : ℕ) → i < length points → get_or points i 0 ≤ 255) → points_in at (codes "bands" ∷ map decimal points) ≡ Ok points
points_read at points h =
    let words : List (List ℕ) = codes "bands" ∷ map decimal points in
    let count : length points ≡ length words - 1 = omega (arith, length-map points decimal) in
    each_from (length words - 1) (λ i. or_fault (number_of 255 (word words (i + 1))) (Line at kind.Number)) points 0 count
    (λ i lt.
    let within : i < length points = omega (arith, lt, count) in
    let text : word words (i + 1) ≡ decimal (get_or points i 0) = rw (add-one i) (get_or-map decimal points i 0 [] within) in
    rw (text, byte_read (get_or points i 0) (h i within)) refl)

says_bands : (at : ℕ) (points : List ℕ) → 0 < length points → ((i : ℕ) → i < length points → get_or points i 0 ≤ 255) → line_of at (codes "bands" ∷ map decimal points) ≡ Ok (Bands points)
unfolding keyword_of setting_of constraint_of setting_said
says_bands at points some h =
    line_from at (codes "bands" ∷ map decimal points) (keyword.Setting setting.Bands) (Bands points) refl (le-leb 2 _ (omega (arith, some, length-map points decimal))) (omega arith, points_nonempty points h) (rw (points_read at points h) refl)

says_base : (at : ℕ) (X : Set) (rs : List Run) → AreRuns rs → ((x : ℕ) → X x ≡ in_runs rs x) → line_of at (codes "base" ∷ map run_word rs) ≡ Ok (Base X)
unfolding keyword_of setting_of constraint_of setting_said
says_base at X rs are items =
    line_from at (codes "base" ∷ map run_word rs) (keyword.Setting setting.Base) (Base X) refl (le-leb 2 _ (omega (arith, are.some, length-map rs run_word))) (omega arith, runs_nonempty rs are.each) (rw (set_read at 1 (codes "base" ∷ map run_word rs) X rs refl are items) refl)

says_enemies : (at : ℕ) (X : Set) (rs : List Run) → AreRuns rs → ((x : ℕ) → X x ≡ in_runs rs x) → line_of at (codes "enemies" ∷ map run_word rs) ≡ Ok (Enemies X)
unfolding keyword_of setting_of constraint_of constraint_said
says_enemies at X rs are items =
    line_from at (codes "enemies" ∷ map run_word rs) (keyword.Constraint constraint.Enemies) (Enemies X) refl (le-leb 2 _ (omega (arith, are.some, length-map rs run_word))) (omega arith, runs_nonempty rs are.each) (rw (set_read at 1 (codes "enemies" ∷ map run_word rs) X rs refl are items) refl)

says_count : (at low high : ℕ) (X : Set) (rs : List Run) → low ≤ most → high ≤ most → AreRuns rs → ((x : ℕ) → X x ≡ in_runs rs x) → line_of at (codes "count" ∷ decimal low ∷ decimal high ∷ map run_word rs) ≡ Ok (Count low high X)
unfolding keyword_of setting_of constraint_of constraint_said
says_count at low high X rs hl hh are items =
    let words : List (List ℕ) = codes "count" ∷ decimal low ∷ decimal high ∷ map run_word rs in
    line_from at words (keyword.Constraint constraint.Count) (Count low high X) refl (le-leb 4 _ (omega (arith, are.some, length-map rs run_word))) (omega arith, (number_nonempty low hl, (number_nonempty high hh, runs_nonempty rs are.each))) (rw (number_read low hl, number_read high hh, set_read at 3 words X rs refl are items) refl)

says_quantity : (at q low high : ℕ) (X : Set) (rs : List Run) → q ≤ 255 → low ≤ most → high ≤ most → AreRuns rs → ((x : ℕ) → X x ≡ in_runs rs x) → line_of at (codes "quantity" ∷ decimal q ∷ decimal low ∷ decimal high ∷ map run_word rs) ≡ Ok (Quantity q low high X)
unfolding keyword_of setting_of constraint_of constraint_said
says_quantity at q low high X rs hq hl hh are items =
    let words : List (List ℕ) = codes "quantity" ∷ decimal q ∷ decimal low ∷ decimal high ∷ map run_word rs in
    line_from at words (keyword.Constraint constraint.Quantity) (Quantity q low high X) refl (le-leb 5 _ (omega (arith, are.some, length-map rs run_word))) (omega arith, (number_nonempty q (omega (arith, hq)), (number_nonempty low hl, (number_nonempty high hh, runs_nonempty rs are.each)))) (rw (byte_read q hq, number_read low hl, number_read high hh, set_read at 4 words X rs refl are items) refl)

says_stimuli : (at low high : ℕ) → low ≤ most → high ≤ most → line_of at (codes "stimuli" ∷ decimal low ∷ decimal high ∷ []) ≡ Ok (Stimuli low high)
unfolding keyword_of setting_of constraint_of constraint_said
says_stimuli at low high hl hh = line_from at (codes "stimuli" ∷ decimal low ∷ decimal high ∷ []) (keyword.Constraint constraint.Stimuli) (Stimuli low high) refl refl (omega arith, (number_nonempty low hl, (number_nonempty high hh, tt))) (rw (number_read low hl, number_read high hh) refl)

says_stimulus : (at s low high : ℕ) → s ≤ 255 → low ≤ most → high ≤ most → line_of at (codes "stimulus" ∷ decimal s ∷ decimal low ∷ decimal high ∷ []) ≡ Ok (Stimulus s low high)
unfolding keyword_of setting_of constraint_of constraint_said
says_stimulus at s low high hs hl hh = line_from at (codes "stimulus" ∷ decimal s ∷ decimal low ∷ decimal high ∷ []) (keyword.Constraint constraint.Stimulus) (Stimulus s low high) refl refl (omega arith, (number_nonempty s (omega (arith, hs)), (number_nonempty low hl, (number_nonempty high hh, tt)))) (rw (byte_read s hs, number_read low hl, number_read high hh) refl)

-- ---- each line of the grammar is read as what it means

at_words : (at : ℕ) (words spelled : List (List ℕ)) (rule : Said) → words ≡ spelled → line_of at spelled ≡ Ok rule → line_of at words ≡ Ok rule
at_words at words spelled rule e r = ap (line_of at) e ∙ r

pub line_again : (at : ℕ) (words : List (List ℕ)) (rule : Said) → Says words rule → line_of at words ≡ Ok rule
line_again at words (Length n) h = at_words at words _ _ h.spelling (says_length at n h.small)
line_again at words (Prior vs) h = at_words at words _ _ h.spelling (says_prior at vs h.some h.each)
line_again at words (Rate n d) h = at_words at words _ _ h.spelling (says_rate at n d h.first h.second)
line_again at words (Key k) h = at_words at words _ _ h.spelling (says_key at k h.count h.bytes)
line_again at words (Bands points) h = at_words at words _ _ h.spelling (says_bands at points h.some h.each)
line_again at words (Budget n) h = at_words at words _ _ h.spelling (says_budget at n h.small)
line_again at words (BaseBudget n) h = at_words at words _ _ h.spelling (says_base_budget at n h.small)
line_again at words (Sessions n) h = at_words at words _ _ h.spelling (says_sessions at n h.small)
line_again at words (Journal n) h = at_words at words _ _ h.spelling (says_journal at n h.small)
line_again at words (Count low high X) h = at_words at words _ _ h.2.spelling (says_count at low high X h.2.runs h.0 h.1 h.2.are h.2.items)
line_again at words (Quantity q low high X) h = at_words at words _ _ h.3.spelling (says_quantity at q low high X h.3.runs h.0 h.1 h.2 h.3.are h.3.items)
line_again at words (Enemies X) h = at_words at words _ _ h.spelling (says_enemies at X h.runs h.are h.items)
line_again at words (Stimuli low high) h = at_words at words _ _ h.spelling (says_stimuli at low high h.first h.second)
line_again at words (Stimulus s low high) h = at_words at words _ _ h.1.spelling (says_stimulus at s low high h.0 h.1.first h.1.second)
line_again at words (Base X) h = at_words at words _ _ h.spelling (says_base at X h.runs h.are h.items)
