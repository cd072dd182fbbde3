-- Printed lines are lines of the grammar: no word has a space or a line feed in it.
use Rattle.std.proofs.Common.{◌≡◌, ℕ, zero, suc, ◌/◌, ◌%◌, ◌^◌, ◌<◌, ◌≤◌, true, false, eqb, List, [], ◌∷◌, ◌++◌, length, get_or, map, Ok, refl, sym, ap, subst, ◌∙◌, arith, inl, inr, ℤ, pos, negsuc, append_assoc}
use Rattle.std.specs.Prelude.{nat_lt, codes}
use Rattle.std.specs.List.{list_all, flat_map}
use Rattle.std.specs.Fmt.{decimal, signed_decimal}
use Rattle.std.specs.Int.{IsInRange}
use Rattle.std.proofs.lemmas.Bool.{and_parts, ltb-true, ne_eqb, cases_Bool}
use Rattle.std.proofs.lemmas.List.{append-nil}
use Rattle.std.proofs.lemmas.Str.Parse.{digit_at}
use Rattle.std.proofs.lemmas.Fmt.{digits_decimal}
use Rattle.hex.specs.Hex.{encode_lower, encode_with, lower_digits, IsBytes}
use Rattle.bank_tables.specs.Items.{Set}
use Rattle.exam_text.specs.Numbers.{magnitude}
use Rattle.exam_text.proofs.Numerals.{own}
use Rattle.exam_text.proofs.WordLaws.{words_again, lines_again}
use Rattle.exam_text.specs.declared.run.Run.{Run}
use Rattle.exam_text.specs.Runs.{IsRun, run_word}
use Rattle.exam_text.specs.Words.{words_of, lines_of, spaced, text_of_lines, Lacks, NoneHas}
use Rattle.spec_reader.specs.Sets.{runs_of}
use Rattle.spec_reader.specs.Rules.{Said, Length, Prior, Rate, Key, Bands, Budget, BaseBudget, Sessions, Journal, Count, Quantity, Enemies, Stimuli, Stimulus, Base}
use Rattle.spec_reader.specs.Lines.{is_skipped, rules_of}
use Rattle.spec_reader.specs.Grammar.{most, run, IsSet, WritesSet, Says, SayBehind, IsPrinted, ArePrinted, AreFresh}
use Rattle.spec_reader.specs.Canonical.{set_words, line_words, words_text, line_text}
use Rattle.spec_reader.proofs.RunsLaws.{runs_items}
use Rattle.spec_reader.proofs.LinesLaws.{lines_again as rules_again}

-- each byte is above c
abbrev pub Above : ℕ → List ℕ → Type 0
Above c [] = Unit {0}
Above c (b ∷ bs) = (c < b) × Above c bs

above_from : (c : ℕ) (w : List ℕ) → list_all (λ b. nat_lt c b) w ≡ true → Above c w
above_from c [] h = tt
above_from c (b ∷ bs) h = let p = and_parts (nat_lt c b) (list_all (λ b. nat_lt c b) bs) h in (ltb-true c b p.0, above_from c bs p.1)

above_at : (c : ℕ) (w : List ℕ) → ((k : ℕ) → k < length w → c < get_or w k 0) → Above c w
above_at c [] h = tt
above_at c (b ∷ bs) h = (h 0 (omega arith), above_at c bs (λ k lt. h (suc k) (omega (arith, lt))))

above_get : (c : ℕ) (w : List ℕ) → Above c w → (k : ℕ) → k < length w → c < get_or w k 0
above_get c [] h k lt = absurd (omega arith)
above_get c (b ∷ bs) h zero lt = h.0
above_get c (b ∷ bs) h (suc k) lt = above_get c bs h.1 k (omega (arith, lt))

above_append : (c : ℕ) (a b : List ℕ) → Above c a → Above c b → Above c (a ++ b)
above_append c [] b h g = g
above_append c (x ∷ xs) b h g = (h.0, above_append c xs b h.1 g)

above_less : (c d : ℕ) (w : List ℕ) → d ≤ c → Above c w → Above d w
above_less c d [] le h = tt
above_less c d (b ∷ bs) le h = (omega (arith, le, h.0), above_less c d bs le h.1)

above_lacks : (c d : ℕ) (w : List ℕ) → d ≤ c → Above c w → Lacks d w
above_lacks c d [] le h k e lt = absurd (omega arith)
above_lacks c d (b ∷ bs) le h zero e lt = ne_eqb b d (λ same. omega (arith, h.0, same, le))
above_lacks c d (b ∷ bs) le h (suc k) e lt = above_lacks c d bs le h.1 k e (omega (arith, lt))

decimal_above : (n : ℕ) → n ≤ most → Above 32 (decimal n)
decimal_above n h =
    let small : n < 2 ^ 64 = omega (arith, h) in
    above_at 32 (decimal n) (λ k lt. let d : IsInRange 48 57 (get_or (decimal n) k 0) = digit_at (decimal n) k (own.to (decimal n) (digits_decimal own n small)) lt in omega (arith, d.0))

signed_above : (z : ℤ) → magnitude z ≤ most → Above 32 (signed_decimal z)
signed_above (pos n) h = decimal_above n h
signed_above (negsuc n) h = (omega arith, decimal_above (suc n) (omega (arith, h)))

hex_above : (bytes : List ℕ) → IsBytes bytes → Above 32 (encode_lower bytes)
unfolding encode_with
hex_above [] is = tt
hex_above (b ∷ bytes) is =
    let digits : Above 32 lower_digits = above_from 32 lower_digits refl in
    let small : b < 256 = is 0 in
    let first : b / 16 < length lower_digits = omega (arith, small) in
    let second : b % 16 < length lower_digits = omega arith in
    (above_get 32 lower_digits digits (b / 16) first, (above_get 32 lower_digits digits (b % 16) second, hex_above bytes (λ i. is (suc i))))

run_above : (r : Run) → IsRun r → Above 32 (run_word r)
run_above r is = elim (cases_Bool (eqb r.low r.high)) [
  | inl one ↦ rw one (decimal_above r.low (omega (arith, is.order, is.high)))
  | inr more ↦ rw more (above_append 32 (decimal r.low) (45 ∷ decimal r.high) (decimal_above r.low (omega (arith, is.order, is.high))) (omega arith, decimal_above r.high (omega (arith, is.high))))
]

-- no word has a space or a line feed
abbrev pub ArePlain : List (List ℕ) → Type 0
ArePlain [] = Unit {0}
ArePlain (w ∷ ws) = Above 32 w × ArePlain ws

runs_plain : (rs : List Run) → ((i : ℕ) → i < length rs → IsRun (run rs i)) → ArePlain (map run_word rs)
runs_plain [] h = tt
runs_plain (r ∷ rs) h = (run_above r (h 0 (omega arith)), runs_plain rs (λ i lt. h (suc i) (omega (arith, lt))))

values_plain : (zs : List ℤ) → ((i : ℕ) → i < length zs → magnitude (get_or zs i (pos 0)) ≤ most) → ArePlain (map signed_decimal zs)
values_plain [] h = tt
values_plain (z ∷ zs) h = (signed_above z (h 0 (omega arith)), values_plain zs (λ i lt. h (suc i) (omega (arith, lt))))

points_plain : (points : List ℕ) → ((i : ℕ) → i < length points → get_or points i 0 ≤ 255) → ArePlain (map decimal points)
points_plain [] h = tt
points_plain (p ∷ points) h = (decimal_above p (omega (arith, h 0 (omega arith))), points_plain points (λ i lt. h (suc i) (omega (arith, lt))))

none_has : (ws : List (List ℕ)) → ArePlain ws → NoneHas 32 ws
none_has [] h = tt
none_has (w ∷ ws) h = (above_lacks 32 32 w (omega arith) h.0, none_has ws h.1)

line_above : (w : List ℕ) (ws : List (List ℕ)) → ArePlain (w ∷ ws) → Above 10 (spaced (w ∷ ws))
line_above w [] h = above_less 32 10 w (omega arith) h.0
line_above w (v ∷ vs) h = above_append 10 w (32 ∷ spaced (v ∷ vs)) (above_less 32 10 w (omega arith) h.0) (omega arith, line_above v vs h.1)

head_kept : (c : ℕ) (rest : List ℕ) → eqb c 35 ≡ false → is_skipped (c ∷ rest) ≡ false
head_kept c rest h = rw (ne_eqb (length (c ∷ rest)) 0 (λ e. omega (arith, e)), h) refl

line_kept : (c : ℕ) (w : List ℕ) (ws : List (List ℕ)) → eqb c 35 ≡ false → is_skipped (spaced ((c ∷ w) ∷ ws)) ≡ false
line_kept c w [] h = head_kept c w h
line_kept c w (v ∷ vs) h = head_kept c (w ++ 32 ∷ spaced (v ∷ vs)) h

-- the words of a printed line: they mean the rule, and have the form in which they are read again
record IsLine (rule : Said) (c : ℕ) (w : List ℕ) (ws : List (List ℕ)) : Type 0 where
  words : line_words rule ≡ (c ∷ w) ∷ ws
  says : Says (line_words rule) rule
  plain : ArePlain ((c ∷ w) ∷ ws)
  kept : eqb c 35 ≡ false

-- a line that begins with this keyword
line : (rule : Said) (c : ℕ) (w : List ℕ) (ws : List (List ℕ)) → line_words rule ≡ (c ∷ w) ∷ ws → Says (line_words rule) rule → list_all (λ b. nat_lt 32 b) (c ∷ w) ≡ true → eqb c 35 ≡ false → ArePlain ws → (d : ℕ) × (v : List ℕ) × (vs : List (List ℕ)) × IsLine rule d v vs
line rule c w ws e says first kept plain = (c, w, ws, record { words = e; says = says; plain = (above_from 32 (c ∷ w) first, plain); kept = kept })

set_plain : (X : Set) → IsSet X → ArePlain (set_words X)
set_plain X is = runs_plain (runs_of X) (runs_items X is).0.each

set_said : (front : List (List ℕ)) (X : Set) → IsSet X → WritesSet front (front ++ set_words X) X
set_said front X is = record { runs = runs_of X; are = (runs_items X is).0; items = (runs_items X is).1; spelling = refl }

printed : (rule : Said) → IsPrinted rule → (c : ℕ) × (w : List ℕ) × (ws : List (List ℕ)) × IsLine rule c w ws
printed (Length n) h = line (Length n) 108 (codes "ength") (decimal n ∷ []) refl (record { small = h; spelling = refl }) refl refl (decimal_above n h, tt)
printed (Prior vs) h = line (Prior vs) 112 (codes "rior") (map signed_decimal vs) refl (record { some = h.0; each = h.1; spelling = refl }) refl refl (values_plain vs h.1)
printed (Rate n d) h = line (Rate n d) 114 (codes "ate") (decimal n ∷ decimal d ∷ []) refl (record { first = h.0; second = h.1; spelling = refl }) refl refl (decimal_above n h.0, (decimal_above d h.1, tt))
printed (Key k) h = line (Key k) 107 (codes "ey") (encode_lower k ∷ []) refl (record { count = h.0; bytes = h.1; spelling = refl }) refl refl (hex_above k h.1, tt)
printed (Bands points) h = line (Bands points) 98 (codes "ands") (map decimal points) refl (record { some = h.0; each = h.1; spelling = refl }) refl refl (points_plain points h.1)
printed (Budget n) h = line (Budget n) 98 (codes "udget") (decimal n ∷ []) refl (record { small = h; spelling = refl }) refl refl (decimal_above n h, tt)
printed (BaseBudget n) h = line (BaseBudget n) 98 (codes "ase-budget") (decimal n ∷ []) refl (record { small = h; spelling = refl }) refl refl (decimal_above n h, tt)
printed (Sessions n) h = line (Sessions n) 115 (codes "essions") (decimal n ∷ []) refl (record { small = h; spelling = refl }) refl refl (decimal_above n h, tt)
printed (Journal n) h = line (Journal n) 106 (codes "ournal") (decimal n ∷ []) refl (record { small = h; spelling = refl }) refl refl (decimal_above n h, tt)
printed (Count low high s) h = line (Count low high s) 99 (codes "ount") (decimal low ∷ decimal high ∷ set_words s) refl (h.0, h.1, set_said (codes "count" ∷ decimal low ∷ decimal high ∷ []) s h.2) refl refl (decimal_above low h.0, (decimal_above high h.1, set_plain s h.2))
printed (Quantity q low high s) h = line (Quantity q low high s) 113 (codes "uantity") (decimal q ∷ decimal low ∷ decimal high ∷ set_words s) refl (h.0, h.1, h.2, set_said (codes "quantity" ∷ decimal q ∷ decimal low ∷ decimal high ∷ []) s h.3) refl refl (decimal_above q (omega (arith, h.0)), (decimal_above low h.1, (decimal_above high h.2, set_plain s h.3)))
printed (Enemies s) h = line (Enemies s) 101 (codes "nemies") (set_words s) refl (set_said (codes "enemies" ∷ []) s h) refl refl (set_plain s h)
printed (Stimuli low high) h = line (Stimuli low high) 115 (codes "timuli") (decimal low ∷ decimal high ∷ []) refl (record { first = h.0; second = h.1; spelling = refl }) refl refl (decimal_above low h.0, (decimal_above high h.1, tt))
printed (Stimulus s low high) h = line (Stimulus s low high) 115 (codes "timulus") (decimal s ∷ decimal low ∷ decimal high ∷ []) refl (h.0, record { first = h.1; second = h.2; spelling = refl }) refl refl (decimal_above s (omega (arith, h.0)), (decimal_above low h.1, (decimal_above high h.2, tt)))
printed (Base s) h = line (Base s) 98 (codes "ase") (set_words s) refl (set_said (codes "base" ∷ []) s h) refl refl (set_plain s h)

abbrev rule_line : Said → List ℕ
rule_line rule = spaced (line_words rule)

words_back : (rule : Said) → IsPrinted rule → words_of (rule_line rule) ≡ line_words rule
words_back rule h =
    let p = printed rule h in
    rw p.3.words (words_again (p.0 ∷ p.1) p.2 (none_has ((p.0 ∷ p.1) ∷ p.2) p.3.plain))

kept_line : (rule : Said) → IsPrinted rule → is_skipped (rule_line rule) ≡ false
kept_line rule h =
    let p = printed rule h in
    rw p.3.words (line_kept p.0 p.1 p.2 p.3.kept)

feedless : (rule : Said) → IsPrinted rule → Lacks 10 (rule_line rule)
feedless rule h =
    let p = printed rule h in
    let l : Lacks 10 (spaced ((p.0 ∷ p.1) ∷ p.2)) = above_lacks 10 10 (spaced ((p.0 ∷ p.1) ∷ p.2)) (omega arith) (line_above (p.0 ∷ p.1) p.2 p.3.plain) in
    subst (λ (ws : List (List ℕ)). Lacks 10 (spaced ws)) (sym p.3.words) l

lines_feedless : (rules : List Said) → ArePrinted rules → NoneHas 10 (map rule_line rules)
lines_feedless [] h = tt
lines_feedless (rule ∷ rules) h = (feedless rule h.0, lines_feedless rules h.1)

say_lines : (rules before : List Said) → ArePrinted rules → AreFresh before rules → SayBehind before (map rule_line rules) (before ++ rules)
say_lines [] before h fresh = sym (append-nil before)
say_lines (rule ∷ rules) before h fresh =
    let says : Says (words_of (rule_line rule)) rule = subst (λ (ws : List (List ℕ)). Says ws rule) (sym (words_back rule h.0)) (printed rule h.0).3.says in
    let others : SayBehind (before ++ rule ∷ []) (map rule_line rules) ((before ++ rule ∷ []) ++ rules) = say_lines rules (before ++ rule ∷ []) h.1 fresh.1 in
    let moved : SayBehind (before ++ rule ∷ []) (map rule_line rules) (before ++ rule ∷ rules) = subst (λ (all : List Said). SayBehind (before ++ rule ∷ []) (map rule_line rules) all) (append_assoc before (rule ∷ []) rules) others in
    inr (kept_line rule h.0, (rule, says, fresh.0, moved))

text_lines : (rules : List Said) → flat_map line_text rules ≡ text_of_lines (map rule_line rules)
unfolding words_text
text_lines [] = refl
text_lines (rule ∷ rules) = append_assoc (rule_line rule) (10 ∷ []) (flat_map line_text rules) ∙ ap (λ (rest : List ℕ). rule_line rule ++ 10 ∷ rest) (text_lines rules)

-- printed lines are read as the rules that they were printed from
pub printed_again : (rules : List Said) → ArePrinted rules → AreFresh [] rules → rules_of (lines_of (flat_map line_text rules)) ≡ Ok rules
printed_again rules h fresh =
    rw (text_lines rules, lines_again (map rule_line rules) (lines_feedless rules h)) (rules_again (map rule_line rules) rules (say_lines rules [] h fresh))
