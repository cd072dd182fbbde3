-- What is read is of the grammar.
use Rattle.std.proofs.Common.{◌≡◌, ◌⊎◌, ℕ, zero, suc, ◌+◌, ◌-◌, ◌^◌, ◌<◌, ◌≤◌, Bool, true, false, not, ◌&&◌, eqb, List, [], ◌∷◌, ◌++◌, length, get_or, map, drop, Option, Some, None, Result, Ok, Err, refl, sym, ap, ap₂, subst, ◌∙◌, arith, add-one, inl, inr, ℤ, pos}
use Rattle.std.specs.Prelude.{nat_lt, codes, if◌then◌else◌}
use Rattle.std.specs.Fmt.{decimal, signed_decimal}
use Rattle.std.specs.Str.{bytes_eq}
use Rattle.std.proofs.lemmas.Slice.Eq.{bytes_eq-Decides}
use Rattle.std.proofs.lemmas.Bool.{and_parts, ltb-true, leb-true, eqb-true, cases_Bool}
use Rattle.std.proofs.lemmas.List.{get_or-map, length-map, same_lists}
use Rattle.bank_tables.specs.Items.{Set}
use Rattle.bank_tables.specs.Sums.{any_below}
use Rattle.exam_text.specs.First.{all_below, or_fault, unless, fault_where, ◌>>=◌}
use Rattle.exam_text.specs.Numbers.{number_of, signed_of, magnitude}
use Rattle.exam_text.specs.Runs.{IsRun, run_word, run_of, behind, behind_run, is_run_from, fits, in_run, is_set}
use Rattle.exam_text.specs.Words.{words_of, word, none_empty}
use Rattle.exam_text.specs.declared.run.Run.{Run}
use Rattle.exam_text.proofs.Firsts.{bind_ok, unless_ok, or_fault_ok, ok_is, each_is, none_where}
use Rattle.exam_text.proofs.Numerals.{number_is, signed_is}
use Rattle.exam_text.proofs.RunLaws.{run_is}
use Rattle.spec_reader.specs.declared.keyword.Setting.{Setting}
use Rattle.spec_reader.specs.declared.keyword.Setting.TheVariants as setting
use Rattle.spec_reader.specs.declared.keyword.Constraint.{Constraint}
use Rattle.spec_reader.specs.declared.keyword.Constraint.TheVariants as constraint
use Rattle.spec_reader.specs.declared.keyword.Keyword.{Keyword}
use Rattle.spec_reader.specs.declared.keyword.Keyword.TheVariants as keyword
use Rattle.spec_reader.specs.declared.line_fault.Kind.TheVariants as kind
use Rattle.spec_reader.specs.declared.line_fault.LineFault.{LineFault}
use Rattle.spec_reader.specs.declared.line_fault.LineFault.TheVariants.{Line, Twice}
use Rattle.spec_reader.specs.Sets.{in_set}
use Rattle.spec_reader.specs.Keywords.{keyword_of, keyword_where, setting_of, constraint_of, fits_count, fits_setting, fits_constraint}
use Rattle.spec_reader.specs.Rules.{Said, Length, Prior, Rate, Key, Bands, Budget, BaseBudget, Sessions, Journal, Count, Quantity, Enemies, Stimuli, Stimulus, Base, number_in, signeds_in, points_in, key_in, set_in, key_of, setting_said, constraint_said, rule_said, line_of}
use Rattle.spec_reader.specs.Lines.{is_skipped, mark_of, stands, next_rule, rules_of}
use Rattle.spec_reader.specs.Grammar.{most, no_run, run, in_runs, WritesSet, WritesNumber, WritesNumbers, WritesPrior, WritesBands, WritesKey, Says, SayBehind}
use Rattle.spec_reader.proofs.Keys.{key_is}
use Rattle.spec_reader.proofs.SayLaws.{any_same}
use Rattle.spec_reader.proofs.LinesLaws.{read_from, rules_from_front}

some_is : {A : Type 0} (a b : A) → Some a ≡ Some b → a ≡ b
some_is a b e = cc

-- ---- first words

abbrev setting_name : Setting → List ℕ
setting_name setting.Length = codes "length"
setting_name setting.Prior = codes "prior"
setting_name setting.Rate = codes "rate"
setting_name setting.Key = codes "key"
setting_name setting.Bands = codes "bands"
setting_name setting.Budget = codes "budget"
setting_name setting.BaseBudget = codes "base-budget"
setting_name setting.Sessions = codes "sessions"
setting_name setting.Journal = codes "journal"
setting_name setting.Base = codes "base"

abbrev constraint_name : Constraint → List ℕ
constraint_name constraint.Count = codes "count"
constraint_name constraint.Quantity = codes "quantity"
constraint_name constraint.Enemies = codes "enemies"
constraint_name constraint.Stimuli = codes "stimuli"
constraint_name constraint.Stimulus = codes "stimulus"

abbrev IsNamed : List ℕ → Keyword → Type 0
IsNamed w (keyword.Setting s) = w ≡ setting_name s
IsNamed w (keyword.Constraint c) = w ≡ constraint_name c

-- a choice by a test gives its value only if the test passed, or else what follows gives it
if_some : {A : Type 0} (b : Bool) (x y : A) (rest : Option A) → (if b then Some x else rest) ≡ Some y → ((b ≡ true) × (x ≡ y)) ⊎ (rest ≡ Some y)
if_some true x y rest e = inl (refl, some_is x y e)
if_some false x y rest e = inr e

set_name : (w : List ℕ) (s t : Setting) → (bytes_eq w (setting_name s) ≡ true) × (s ≡ t) → w ≡ setting_name t
set_name w s t h = (bytes_eq-Decides w (setting_name s)).0 h.0 ∙ ap setting_name h.1

row_name : (w : List ℕ) (s t : Constraint) → (bytes_eq w (constraint_name s) ≡ true) × (s ≡ t) → w ≡ constraint_name t
row_name w s t h = (bytes_eq-Decides w (constraint_name s)).0 h.0 ∙ ap constraint_name h.1

-- the settings in the order in which a first word is compared with their names
setting_among : List ℕ → List Setting → Option Setting
setting_among w [] = None
setting_among w (s ∷ rest) = if bytes_eq w (setting_name s) then Some s else setting_among w rest

constraint_among : List ℕ → List Constraint → Option Constraint
constraint_among w [] = None
constraint_among w (s ∷ rest) = if bytes_eq w (constraint_name s) then Some s else constraint_among w rest

among_named : (w : List ℕ) (all : List Setting) (t : Setting) → setting_among w all ≡ Some t → w ≡ setting_name t
unfolding setting_among
among_named w [] t e = absurd cc
among_named w (s ∷ rest) t e = elim (if_some (bytes_eq w (setting_name s)) s t (setting_among w rest) e) [
  | inl h ↦ set_name w s t h
  | inr h ↦ among_named w rest t h
]

rows_named : (w : List ℕ) (all : List Constraint) (t : Constraint) → constraint_among w all ≡ Some t → w ≡ constraint_name t
unfolding constraint_among
rows_named w [] t e = absurd cc
rows_named w (s ∷ rest) t e = elim (if_some (bytes_eq w (constraint_name s)) s t (constraint_among w rest) e) [
  | inl h ↦ row_name w s t h
  | inr h ↦ rows_named w rest t h
]

setting_named : (w : List ℕ) (t : Setting) → setting_of w ≡ Some t → w ≡ setting_name t
unfolding setting_of setting_among
setting_named w t e = among_named w (setting.Length ∷ setting.Prior ∷ setting.Rate ∷ setting.Key ∷ setting.Bands ∷ setting.Budget ∷ setting.BaseBudget ∷ setting.Sessions ∷ setting.Journal ∷ setting.Base ∷ []) t e

constraint_named : (w : List ℕ) (t : Constraint) → constraint_of w ≡ Some t → w ≡ constraint_name t
unfolding constraint_of constraint_among
constraint_named w t e = rows_named w (constraint.Count ∷ constraint.Quantity ∷ constraint.Enemies ∷ constraint.Stimuli ∷ constraint.Stimulus ∷ []) t e

named_where : (w : List ℕ) (o : Option Setting) (c : Option Constraint) (k : Keyword) → setting_of w ≡ o → constraint_of w ≡ c → keyword_where o c ≡ Some k → IsNamed w k
named_where w (Some s) c k e f h = subst (IsNamed w) (some_is (keyword.Setting s) k h) (setting_named w s e)
named_where w None (Some c) k e f h = subst (IsNamed w) (some_is (keyword.Constraint c) k h) (constraint_named w c f)
named_where w None None k e f h = absurd cc

named : (w : List ℕ) (k : Keyword) → keyword_of w ≡ Some k → IsNamed w k
unfolding keyword_of
named w k h = named_where w (setting_of w) (constraint_of w) k refl refl h

-- ---- lists of words

one_and : (ws : List (List ℕ)) → 1 ≤ length ws → ws ≡ word ws 0 ∷ drop 1 ws
one_and [] h = absurd (omega arith)
one_and (a ∷ ws) h = refl

two : (ws : List (List ℕ)) → length ws ≡ 2 → ws ≡ word ws 0 ∷ word ws 1 ∷ []
two [] h = absurd (omega arith)
two (a ∷ []) h = absurd (omega arith)
two (a ∷ b ∷ []) h = refl
two (a ∷ b ∷ c ∷ ws) h = absurd (omega arith)

three : (ws : List (List ℕ)) → length ws ≡ 3 → ws ≡ word ws 0 ∷ word ws 1 ∷ word ws 2 ∷ []
three [] h = absurd (omega arith)
three (a ∷ []) h = absurd (omega arith)
three (a ∷ b ∷ []) h = absurd (omega arith)
three (a ∷ b ∷ c ∷ []) h = refl
three (a ∷ b ∷ c ∷ d ∷ ws) h = absurd (omega arith)

three_and : (ws : List (List ℕ)) → 3 ≤ length ws → ws ≡ word ws 0 ∷ word ws 1 ∷ word ws 2 ∷ drop 3 ws
three_and [] h = absurd (omega arith)
three_and (a ∷ []) h = absurd (omega arith)
three_and (a ∷ b ∷ []) h = absurd (omega arith)
three_and (a ∷ b ∷ c ∷ ws) h = refl

four : (ws : List (List ℕ)) → length ws ≡ 4 → ws ≡ word ws 0 ∷ word ws 1 ∷ word ws 2 ∷ word ws 3 ∷ []
four [] h = absurd (omega arith)
four (a ∷ []) h = absurd (omega arith)
four (a ∷ b ∷ []) h = absurd (omega arith)
four (a ∷ b ∷ c ∷ []) h = absurd (omega arith)
four (a ∷ b ∷ c ∷ d ∷ []) h = refl
four (a ∷ b ∷ c ∷ d ∷ e ∷ ws) h = absurd (omega arith)

four_and : (ws : List (List ℕ)) → 4 ≤ length ws → ws ≡ word ws 0 ∷ word ws 1 ∷ word ws 2 ∷ word ws 3 ∷ drop 4 ws
four_and [] h = absurd (omega arith)
four_and (a ∷ []) h = absurd (omega arith)
four_and (a ∷ b ∷ []) h = absurd (omega arith)
four_and (a ∷ b ∷ c ∷ []) h = absurd (omega arith)
four_and (a ∷ b ∷ c ∷ d ∷ ws) h = refl

-- which default is given makes no difference inside a list
plain : (xs : List (List ℕ)) (i : ℕ) (d : List ℕ) → i < length xs → get_or xs i d ≡ get_or xs i []
plain [] i d lt = absurd (omega arith)
plain (x ∷ xs) zero d lt = refl
plain (x ∷ xs) (suc i) d lt = plain xs i d (omega (arith, lt))

less : (a b n : ℕ) → a ≤ n → b ≤ a → b ≤ n
less a b n h k = omega (arith, h, k)

-- ---- numbers

abbrev number : ℕ → ℕ → List (List ℕ) → Result ℕ LineFault
number at i words = number_in at 999999999 i words

read_number : (at m i : ℕ) (words : List (List ℕ)) (n : ℕ) → m < 2 ^ 64 → number_in at m i words ≡ Ok n → (n ≤ m) × (word words i ≡ decimal n)
read_number at m i words n small e = number_is m (word words i) n small (or_fault_ok (number_of m (word words i)) (Line at kind.Number) n e)

only_number : (at : ℕ) (words : List (List ℕ)) (name : List ℕ) (n : ℕ) → word words 0 ≡ name → length words ≡ 2 → number at 1 words ≡ Ok n → WritesNumber (name ∷ []) words n
only_number at words name n w len e =
    let is = read_number at 999999999 1 words n (omega arith) e in
    record { small = is.0; spelling = two words len ∙ ap₂ (λ (a b : List ℕ). a ∷ b ∷ []) w is.1 }

only_numbers : (at : ℕ) (words : List (List ℕ)) (name : List ℕ) (n m : ℕ) → word words 0 ≡ name → length words ≡ 3 → number at 1 words ≡ Ok n → number at 2 words ≡ Ok m → WritesNumbers (name ∷ []) words n m
only_numbers at words name n m w len e f =
    let is = read_number at 999999999 1 words n (omega arith) e in
    let other = read_number at 999999999 2 words m (omega arith) f in
    record {
      first = is.0;
      second = other.0;
      spelling = three words len ∙ (ap (λ (a : List ℕ). a ∷ word words 1 ∷ word words 2 ∷ []) w ∙ ap₂ (λ (a b : List ℕ). name ∷ a ∷ b ∷ []) is.1 other.1);
    }

shifted : (a : List ℕ) (xs : List (List ℕ)) (i : ℕ) → get_or xs i [] ≡ word (a ∷ xs) (i + 1)
shifted a xs i = rw (add-one i) refl

abbrev value_at : ℕ → List (List ℕ) → ℕ → Result ℤ LineFault
value_at at words i = or_fault (signed_of 999999999 (word words (i + 1))) (Line at kind.Number)

only_prior : (at : ℕ) (words : List (List ℕ)) (vs : List ℤ) → word words 0 ≡ codes "prior" → 2 ≤ length words → signeds_in at words ≡ Ok vs → WritesPrior words vs
only_prior at [] vs w len e = absurd (omega arith)
only_prior at (a ∷ ws) vs w len e =
    let is = each_is (length (a ∷ ws) - 1) (value_at at (a ∷ ws)) vs e in
    let count : length vs ≡ length ws = omega (arith, is.0) in
    let value : (i : ℕ) (d : ℤ) → i < length vs → (magnitude (get_or vs i d) ≤ most) × (word (a ∷ ws) (i + 1) ≡ signed_decimal (get_or vs i d)) =
    λ i d lt. signed_is 999999999 (word (a ∷ ws) (i + 1)) (get_or vs i d) (omega arith)
    (or_fault_ok (signed_of 999999999 (word (a ∷ ws) (i + 1))) (Line at kind.Number) (get_or vs i d) (is.1 i d (omega (arith, lt, count)))) in
    let each : (i : ℕ) (d : List ℕ) → i < length ws → get_or ws i d ≡ get_or (map signed_decimal vs) i d =
    λ i d lt. let within : i < length vs = omega (arith, lt, count) in
    plain ws i d lt ∙ (shifted a ws i ∙ ((value i (pos 0) within).1 ∙ sym (get_or-map signed_decimal vs i (pos 0) d within))) in
    let rest : ws ≡ map signed_decimal vs = same_lists ws (map signed_decimal vs) (sym count ∙ sym (length-map vs signed_decimal)) (λ i d lt. each i d lt) in
    record {
      some = omega (arith, len, count);
      each = λ i lt. (value i (pos 0) lt).0;
      spelling = ap₂ (λ (x : List ℕ) (xs : List (List ℕ)). x ∷ xs) w rest;
    }

abbrev point_at : ℕ → List (List ℕ) → ℕ → Result ℕ LineFault
point_at at words i = or_fault (number_of 255 (word words (i + 1))) (Line at kind.Number)

only_bands : (at : ℕ) (words : List (List ℕ)) (points : List ℕ) → word words 0 ≡ codes "bands" → 2 ≤ length words → points_in at words ≡ Ok points → WritesBands words points
only_bands at [] points w len e = absurd (omega arith)
only_bands at (a ∷ ws) points w len e =
    let is = each_is (length (a ∷ ws) - 1) (point_at at (a ∷ ws)) points e in
    let count : length points ≡ length ws = omega (arith, is.0) in
    let value : (i d : ℕ) → i < length points → (get_or points i d ≤ 255) × (word (a ∷ ws) (i + 1) ≡ decimal (get_or points i d)) =
    λ i d lt. number_is 255 (word (a ∷ ws) (i + 1)) (get_or points i d) (omega arith)
    (or_fault_ok (number_of 255 (word (a ∷ ws) (i + 1))) (Line at kind.Number) (get_or points i d) (is.1 i d (omega (arith, lt, count)))) in
    let each : (i : ℕ) (d : List ℕ) → i < length ws → get_or ws i d ≡ get_or (map decimal points) i d =
    λ i d lt. let within : i < length points = omega (arith, lt, count) in
    plain ws i d lt ∙ (shifted a ws i ∙ ((value i 0 within).1 ∙ sym (get_or-map decimal points i 0 d within))) in
    let rest : ws ≡ map decimal points = same_lists ws (map decimal points) (sym count ∙ sym (length-map points decimal)) (λ i d lt. each i d lt) in
    record {
      some = omega (arith, len, count);
      each = λ i lt. (value i 0 lt).0;
      spelling = ap₂ (λ (x : List ℕ) (xs : List (List ℕ)). x ∷ xs) w rest;
    }

only_key : (at : ℕ) (words : List (List ℕ)) (k : List ℕ) → word words 0 ≡ codes "key" → length words ≡ 2 → key_in at words ≡ Ok k → WritesKey words k
only_key at words k w len e =
    let is = key_is (word words 1) k (or_fault_ok (key_of (word words 1)) (Line at kind.Number) k e) in
    record { count = is.0; bytes = is.1; spelling = two words len ∙ ap₂ (λ (a b : List ℕ). a ∷ b ∷ []) w is.2 }

-- ---- sets

-- the run of a word, if it is one
abbrev run_in : Option Run → Run
run_in None = no_run
run_in (Some r) = r

abbrev runs_in : List (List ℕ) → List Run
runs_in ws = map (λ w. run_in (run_of w)) ws

fits_each : (n : ℕ) (p : ℕ → Bool) → all_below n p ≡ true → (i : ℕ) → i < n → p i ≡ true
fits_each zero p h i lt = absurd (omega arith)
fits_each (suc n) p h i lt =
    let both = and_parts (all_below n p) (p n) h in
    elim (cases_Bool (eqb i n)) [
      | inl same ↦ rw (eqb-true i n same) both.1
      | inr other ↦ fits_each n p both.0 i (below i n lt other)
    ]
  where
    below : (i n : ℕ) → i < suc n → eqb i n ≡ false → i < n
    below i n lt e = grind arith

-- a word that fits is a run that begins late enough
fit_is : (from : ℕ) (o : Option Run) → is_run_from from o ≡ true → (r : Run) × (o ≡ Some r) × (from ≤ r.low)
fit_is from None e = absurd cc
fit_is from (Some r) e = (r, refl, leb-true from r.low e)

run_there : (ws : List (List ℕ)) (i : ℕ) → i < length ws → fits ws i ≡ true → run_of (word ws i) ≡ Some (run (runs_in ws) i)
run_there ws i lt f =
    let r = fit_is (behind ws i) (run_of (word ws i)) f in
    let is : run (runs_in ws) i ≡ r.0 = get_or-map (λ w. run_in (run_of w)) ws i [] no_run lt ∙ ap run_in r.1 in
    r.1 ∙ ap (λ (x : Run). Some x) (sym is)

abbrev set_items : Set → Result Set LineFault
set_items X = Ok X

only_set : (at from : ℕ) (words : List (List ℕ)) (X : Set) (front : List (List ℕ)) → words ≡ front ++ drop from words → set_in at from words ≡ Ok X → WritesSet front words X
unfolding is_set in_set
only_set at from words X front split e = elim (cases_Bool (is_set (drop from words))) [
  | inr none ↦ (let wrong : Err (Line at kind.Set) ≡ set_items X = rw none at e in absurd cc)
  | inl set ↦ made set (ok_is {F = LineFault} (in_set (drop from words)) X (rw set at e))
]
  where
    made : is_set (drop from words) ≡ true → in_set (drop from words) ≡ X → WritesSet front words X
    made set items =
        let ws = drop from words in
        let both = and_parts (nat_lt 0 (length ws)) (all_below (length ws) (fits ws)) set in
        let fit : (i : ℕ) → i < length ws → fits ws i ≡ true = fits_each (length ws) (fits ws) both.1 in
        let count : length (runs_in ws) ≡ length ws = length-map ws (λ w. run_in (run_of w)) in
        let there : (i : ℕ) → i < length ws → run_of (word ws i) ≡ Some (run (runs_in ws) i) = λ i lt. run_there ws i lt (fit i lt) in
        let is : (i : ℕ) → i < length ws → IsRun (run (runs_in ws) i) × (word ws i ≡ run_word (run (runs_in ws) i)) = λ i lt. run_is (word ws i) (run (runs_in ws) i) (there i lt) in
        record {
          runs = runs_in ws;
          are = record {
            some = omega (arith, count, ltb-true 0 (length ws) both.0);
            each = λ i lt. (is i (omega (arith, lt, count))).0;
            apart = λ i lt. apart ws fit there i (omega (arith, lt, count));
          };
          items = λ x. sym (ap (λ (s : Set). s x) items) ∙ same_items ws count there x;
          spelling = split ∙ ap (λ (rest : List (List ℕ)). front ++ rest) (spelled ws count (λ i lt. (is i lt).1));
        }
      where
        apart : (ws : List (List ℕ)) → ((i : ℕ) → i < length ws → fits ws i ≡ true) → ((i : ℕ) → i < length ws → run_of (word ws i) ≡ Some (run (runs_in ws) i)) → (i : ℕ) → i + 1 < length ws → (run (runs_in ws) i).high < (run (runs_in ws) (i + 1)).low
        apart ws fit there i lt =
            let next : suc i < length ws = omega (arith, lt) in
            let r = fit_is (behind ws (suc i)) (run_of (word ws (suc i))) (fit (suc i) next) in
            let same : r.0 ≡ run (runs_in ws) (suc i) = some_is r.0 (run (runs_in ws) (suc i)) (sym r.1 ∙ there (suc i) next) in
            let from : behind ws (suc i) ≡ (run (runs_in ws) i).high + 1 = ap behind_run (there i (omega (arith, lt))) in
            let low : behind ws (suc i) ≤ (run (runs_in ws) (suc i)).low = subst (λ (x : Run). behind ws (suc i) ≤ x.low) same r.2 in
            subst (λ (k : ℕ). (run (runs_in ws) i).high < (run (runs_in ws) k).low) (sym (add-one i)) (omega (arith, from, low))

        same_items : (ws : List (List ℕ)) → length (runs_in ws) ≡ length ws → ((i : ℕ) → i < length ws → run_of (word ws i) ≡ Some (run (runs_in ws) i)) → (x : ℕ) → any_below (length ws) (λ i. in_run x (run_of (word ws i))) ≡ in_runs (runs_in ws) x
        same_items ws count there x = rw count (any_same (length ws) (λ i. in_run x (run_of (word ws i))) (λ i. in_run x (Some (run (runs_in ws) i))) (λ i lt. ap (in_run x) (there i lt)))

        spelled : (ws : List (List ℕ)) → length (runs_in ws) ≡ length ws → ((i : ℕ) → i < length ws → word ws i ≡ run_word (run (runs_in ws) i)) → ws ≡ map run_word (runs_in ws)
        spelled ws count same = same_lists ws (map run_word (runs_in ws)) (sym count ∙ sym (length-map (runs_in ws) run_word))
            (λ i d lt. plain ws i d lt ∙ (same i lt ∙ sym (get_or-map run_word (runs_in ws) i no_run d (omega (arith, lt, count)))))

-- ---- one kind of line after the other

setting_says : (at : ℕ) (s : Setting) (words : List (List ℕ)) (rule : Said) → word words 0 ≡ setting_name s → fits_setting s (length words) ≡ true → setting_said at s words ≡ Ok rule → Says words rule
unfolding setting_said
setting_says at setting.Length words rule w f e =
    let r = bind_ok (number at 1 words) (λ n. Ok (Length n)) rule e in
    subst (Says words) (ok_is {F = LineFault} (Length r.0) rule r.2) (only_number at words (codes "length") r.0 w (eqb-true _ _ f) r.1)
setting_says at setting.Prior words rule w f e =
    let r = bind_ok (signeds_in at words) (λ vs. Ok (Prior vs)) rule e in
    subst (Says words) (ok_is {F = LineFault} (Prior r.0) rule r.2) (only_prior at words r.0 w (leb-true _ _ f) r.1)
setting_says at setting.Rate words rule w f e =
    let r = bind_ok (number at 1 words) (λ n. number at 2 words >>= λ d. Ok (Rate n d)) rule e in
    let q = bind_ok (number at 2 words) (λ d. Ok (Rate r.0 d)) rule r.2 in
    subst (Says words) (ok_is {F = LineFault} (Rate r.0 q.0) rule q.2) (only_numbers at words (codes "rate") r.0 q.0 w (eqb-true _ _ f) r.1 q.1)
setting_says at setting.Key words rule w f e =
    let r = bind_ok (key_in at words) (λ k. Ok (Key k)) rule e in
    subst (Says words) (ok_is {F = LineFault} (Key r.0) rule r.2) (only_key at words r.0 w (eqb-true _ _ f) r.1)
setting_says at setting.Bands words rule w f e =
    let r = bind_ok (points_in at words) (λ points. Ok (Bands points)) rule e in
    subst (Says words) (ok_is {F = LineFault} (Bands r.0) rule r.2) (only_bands at words r.0 w (leb-true _ _ f) r.1)
setting_says at setting.Budget words rule w f e =
    let r = bind_ok (number at 1 words) (λ n. Ok (Budget n)) rule e in
    subst (Says words) (ok_is {F = LineFault} (Budget r.0) rule r.2) (only_number at words (codes "budget") r.0 w (eqb-true _ _ f) r.1)
setting_says at setting.BaseBudget words rule w f e =
    let r = bind_ok (number at 1 words) (λ n. Ok (BaseBudget n)) rule e in
    subst (Says words) (ok_is {F = LineFault} (BaseBudget r.0) rule r.2) (only_number at words (codes "base-budget") r.0 w (eqb-true _ _ f) r.1)
setting_says at setting.Sessions words rule w f e =
    let r = bind_ok (number at 1 words) (λ n. Ok (Sessions n)) rule e in
    subst (Says words) (ok_is {F = LineFault} (Sessions r.0) rule r.2) (only_number at words (codes "sessions") r.0 w (eqb-true _ _ f) r.1)
setting_says at setting.Journal words rule w f e =
    let r = bind_ok (number at 1 words) (λ n. Ok (Journal n)) rule e in
    subst (Says words) (ok_is {F = LineFault} (Journal r.0) rule r.2) (only_number at words (codes "journal") r.0 w (eqb-true _ _ f) r.1)
setting_says at setting.Base words rule w f e =
    let r = bind_ok (set_in at 1 words) (λ s. Ok (Base s)) rule e in
    let split : words ≡ (codes "base" ∷ []) ++ drop 1 words = one_and words (less 2 1 (length words) (leb-true _ _ f) (omega arith)) ∙ ap (λ (a : List ℕ). a ∷ drop 1 words) w in
    subst (Says words) (ok_is {F = LineFault} (Base r.0) rule r.2) (only_set at 1 words r.0 (codes "base" ∷ []) split r.1)

constraint_says : (at : ℕ) (s : Constraint) (words : List (List ℕ)) (rule : Said) → word words 0 ≡ constraint_name s → fits_constraint s (length words) ≡ true → constraint_said at s words ≡ Ok rule → Says words rule
unfolding constraint_said
constraint_says at constraint.Count words rule w f e =
    let r = bind_ok (number at 1 words) (λ low. number at 2 words >>= λ high. set_in at 3 words >>= λ s. Ok (Count low high s)) rule e in
    let q = bind_ok (number at 2 words) (λ high. set_in at 3 words >>= λ s. Ok (Count r.0 high s)) rule r.2 in
    let p = bind_ok (set_in at 3 words) (λ s. Ok (Count r.0 q.0 s)) rule q.2 in
    let low = read_number at 999999999 1 words r.0 (omega arith) r.1 in
    let high = read_number at 999999999 2 words q.0 (omega arith) q.1 in
    let split : words ≡ (codes "count" ∷ decimal r.0 ∷ decimal q.0 ∷ []) ++ drop 3 words =
    three_and words (less 4 3 (length words) (leb-true _ _ f) (omega arith))
    ∙ (ap (λ (a : List ℕ). a ∷ word words 1 ∷ word words 2 ∷ drop 3 words) w ∙ ap₂ (λ (a b : List ℕ). codes "count" ∷ a ∷ b ∷ drop 3 words) low.1 high.1) in
    subst (Says words) (ok_is {F = LineFault} (Count r.0 q.0 p.0) rule p.2) (low.0, high.0, only_set at 3 words p.0 (codes "count" ∷ decimal r.0 ∷ decimal q.0 ∷ []) split p.1)
constraint_says at constraint.Quantity words rule w f e =
    let t = bind_ok (number_in at 255 1 words) (λ q. number at 2 words >>= λ low. number at 3 words >>= λ high. set_in at 4 words >>= λ s. Ok (Quantity q low high s)) rule e in
    let r = bind_ok (number at 2 words) (λ low. number at 3 words >>= λ high. set_in at 4 words >>= λ s. Ok (Quantity t.0 low high s)) rule t.2 in
    let q = bind_ok (number at 3 words) (λ high. set_in at 4 words >>= λ s. Ok (Quantity t.0 r.0 high s)) rule r.2 in
    let p = bind_ok (set_in at 4 words) (λ s. Ok (Quantity t.0 r.0 q.0 s)) rule q.2 in
    let which = read_number at 255 1 words t.0 (omega arith) t.1 in
    let low = read_number at 999999999 2 words r.0 (omega arith) r.1 in
    let high = read_number at 999999999 3 words q.0 (omega arith) q.1 in
    let split : words ≡ (codes "quantity" ∷ decimal t.0 ∷ decimal r.0 ∷ decimal q.0 ∷ []) ++ drop 4 words =
    four_and words (less 5 4 (length words) (leb-true _ _ f) (omega arith))
    ∙ (ap₂ (λ (a b : List ℕ). a ∷ b ∷ word words 2 ∷ word words 3 ∷ drop 4 words) w which.1
    ∙ ap₂ (λ (a b : List ℕ). codes "quantity" ∷ decimal t.0 ∷ a ∷ b ∷ drop 4 words) low.1 high.1) in
    subst (Says words) (ok_is {F = LineFault} (Quantity t.0 r.0 q.0 p.0) rule p.2) (which.0, low.0, high.0, only_set at 4 words p.0 (codes "quantity" ∷ decimal t.0 ∷ decimal r.0 ∷ decimal q.0 ∷ []) split p.1)
constraint_says at constraint.Enemies words rule w f e =
    let r = bind_ok (set_in at 1 words) (λ s. Ok (Enemies s)) rule e in
    let split : words ≡ (codes "enemies" ∷ []) ++ drop 1 words = one_and words (less 2 1 (length words) (leb-true _ _ f) (omega arith)) ∙ ap (λ (a : List ℕ). a ∷ drop 1 words) w in
    subst (Says words) (ok_is {F = LineFault} (Enemies r.0) rule r.2) (only_set at 1 words r.0 (codes "enemies" ∷ []) split r.1)
constraint_says at constraint.Stimuli words rule w f e =
    let r = bind_ok (number at 1 words) (λ low. number at 2 words >>= λ high. Ok (Stimuli low high)) rule e in
    let q = bind_ok (number at 2 words) (λ high. Ok (Stimuli r.0 high)) rule r.2 in
    subst (Says words) (ok_is {F = LineFault} (Stimuli r.0 q.0) rule q.2) (only_numbers at words (codes "stimuli") r.0 q.0 w (eqb-true _ _ f) r.1 q.1)
constraint_says at constraint.Stimulus words rule w f e =
    let t = bind_ok (number_in at 255 1 words) (λ s. number at 2 words >>= λ low. number at 3 words >>= λ high. Ok (Stimulus s low high)) rule e in
    let r = bind_ok (number at 2 words) (λ low. number at 3 words >>= λ high. Ok (Stimulus t.0 low high)) rule t.2 in
    let q = bind_ok (number at 3 words) (λ high. Ok (Stimulus t.0 r.0 high)) rule r.2 in
    let which = read_number at 255 1 words t.0 (omega arith) t.1 in
    let low = read_number at 999999999 2 words r.0 (omega arith) r.1 in
    let high = read_number at 999999999 3 words q.0 (omega arith) q.1 in
    let split : words ≡ (codes "stimulus" ∷ decimal t.0 ∷ []) ++ decimal r.0 ∷ decimal q.0 ∷ [] =
    four words (eqb-true _ _ f)
    ∙ (ap₂ (λ (a b : List ℕ). a ∷ b ∷ word words 2 ∷ word words 3 ∷ []) w which.1
    ∙ ap₂ (λ (a b : List ℕ). codes "stimulus" ∷ decimal t.0 ∷ a ∷ b ∷ []) low.1 high.1) in
    subst (Says words) (ok_is {F = LineFault} (Stimulus t.0 r.0 q.0) rule q.2) (which.0, record { first = low.0; second = high.0; spelling = split })

rule_says : (at : ℕ) (k : Keyword) (words : List (List ℕ)) (rule : Said) → IsNamed (word words 0) k → fits_count k (length words) ≡ true → rule_said at k words ≡ Ok rule → Says words rule
rule_says at (keyword.Setting s) words rule w f e = setting_says at s words rule w f e
rule_says at (keyword.Constraint c) words rule w f e = constraint_says at c words rule w f e

shape_is : (fits whole : Bool) (fault : LineFault) → fault_where (not (fits && whole)) fault ≡ None → fits ≡ true
shape_is true whole fault e = refl
shape_is false whole fault e = absurd cc

-- what is read of a line is what the grammar has of it
pub line_only : (at : ℕ) (words : List (List ℕ)) (rule : Said) → line_of at words ≡ Ok rule → Says words rule
unfolding line_of
line_only at words rule e =
    let r = bind_ok (or_fault (keyword_of (word words 0)) (Line at kind.Word)) (λ first. unless (fault_where (not (fits_count first (length words) && none_empty words)) (Line at kind.Shape)) (rule_said at first words)) rule e in
    let u = unless_ok (fault_where (not (fits_count r.0 (length words) && none_empty words)) (Line at kind.Shape)) (rule_said at r.0 words) rule r.2 in
    rule_says at r.0 words rule (named (word words 0) r.0 (or_fault_ok (keyword_of (word words 0)) (Line at kind.Word) r.0 r.1)) (shape_is (fits_count r.0 (length words)) (none_empty words) (Line at kind.Shape) u.0) u.1

-- ---- line after line

-- one rule of this line, and then those of the others
abbrev Rest : List ℕ → List (List ℕ) → List Said → List Said → Type 0
Rest line lines before rules = (rule : Said) × Says (words_of line) rule × (stands (mark_of rule) before ≡ false) × SayBehind (before ++ rule ∷ []) lines rules

-- the rule that the next line gives, and what is read of the others
said : (line : List ℕ) (lines : List (List ℕ)) (k : ℕ) (before rules : List Said)
    → ((b : List Said) → read_from (k + 1) lines b ≡ Ok rules → SayBehind b lines rules)
    → ((line_of (k + 1) (words_of line) >>= λ rule. unless (fault_where (stands (mark_of rule) before) (Twice (k + 1))) (Ok (before ++ rule ∷ []))) >>= read_from (k + 1) lines) ≡ Ok rules
    → Rest line lines before rules
said line lines k before rules others e =
    let r = bind_ok (line_of (k + 1) (words_of line) >>= λ rule. unless (fault_where (stands (mark_of rule) before) (Twice (k + 1))) (Ok (before ++ rule ∷ []))) (read_from (k + 1) lines) rules e in
    let l = bind_ok (line_of (k + 1) (words_of line)) (λ rule. unless (fault_where (stands (mark_of rule) before) (Twice (k + 1))) (Ok (before ++ rule ∷ []))) r.0 r.1 in
    let u = unless_ok (fault_where (stands (mark_of l.0) before) (Twice (k + 1))) (Ok (before ++ l.0 ∷ [])) r.0 l.2 in
    let is : before ++ l.0 ∷ [] ≡ r.0 = ok_is {F = LineFault} (before ++ l.0 ∷ []) r.0 u.1 in (
      l.0,
      line_only (k + 1) (words_of line) l.0 l.1,
      none_where (stands (mark_of l.0) before) (Twice (k + 1)) u.0,
      others (before ++ l.0 ∷ []) (ap (λ (b : List Said). read_from (k + 1) lines b) is ∙ r.2),
    )

from_only : (lines : List (List ℕ)) (k : ℕ) (before rules : List Said) → read_from k lines before ≡ Ok rules → SayBehind before lines rules
unfolding read_from next_rule
from_only [] k before rules e = ok_is {F = LineFault} before rules e
from_only (line ∷ lines) k before rules e = elim (cases_Bool (is_skipped line)) [
  | inl skipped ↦ inl (skipped, from_only lines (k + 1) before rules (rw skipped at e))
  | inr kept ↦ inr (kept, said line lines k before rules (λ b h. from_only lines (k + 1) b rules h) (rw kept at e))
]

-- the lines that are read are lines of the grammar
pub lines_only : (lines : List (List ℕ)) (rules : List Said) → rules_of lines ≡ Ok rules → SayBehind [] lines rules
lines_only lines rules e = from_only lines 0 [] rules (sym (rules_from_front lines) ∙ e)
