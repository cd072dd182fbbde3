-- The runs of the sets of a drill's plan, and how its text is put together.
use Rattle.std.proofs.Common.{◌≡◌, ℕ, zero, suc, ◌+◌, ◌*◌, ◌<◌, List, [], ◌∷◌, ◌++◌, map, refl, sym, ap, ◌∙◌, append_assoc, arith, Result, Ok, Err, OnOk}
use Rattle.std.proofs.lemmas.List.{append-nil}
use Rattle.std.proofs.lemmas.List.Folds.{flat_map-map}
use Rattle.std.proofs.lemmas.List.FromFn.{map-range_with_len_more}
use Rattle.std.proofs.lemmas.Grind.{flat_map-append}
use Rattle.std.specs.List.{flat_map, range_with_len}
use Rattle.exam_text.specs.declared.run.Run.{Run}
use Rattle.spec_reader.specs.Sets.{runs_of}
use Rattle.spec_reader.specs.Plans.{SaidPlan}
use Rattle.spec_reader.specs.Rules.{Said, Length, Prior, Rate, Key, Stimulus, Base}
use Rattle.spec_reader.specs.Canonical.{line_text, limit_rules, setting_rules, bounds_below, canonical_rules}
use Rattle.bank_maker.specs.declared.item.DrawnItem.{DrawnItem}
use Rattle.bank_maker.specs.Plans.{between, in_category, category_row, pair, base_quantity, key_of, rows, plan, plan_text}

-- a run of one item of a category
abbrev pub single : ℕ → ℕ → Run
single c k = record { low = 5 * k + c; high = 5 * k + c }

category_0 : map (single 0) (range_with_len 0 24) ≡ runs_of (in_category 0)
unfolding runs_of
category_0 = refl

category_1 : map (single 1) (range_with_len 0 24) ≡ runs_of (in_category 1)
unfolding runs_of
category_1 = refl

category_2 : map (single 2) (range_with_len 0 24) ≡ runs_of (in_category 2)
unfolding runs_of
category_2 = refl

category_3 : map (single 3) (range_with_len 0 24) ≡ runs_of (in_category 3)
unfolding runs_of
category_3 = refl

category_4 : map (single 4) (range_with_len 0 24) ≡ runs_of (in_category 4)
unfolding runs_of
category_4 = refl

pub category_runs : (c : ℕ) → c < 5 → map (single c) (range_with_len 0 24) ≡ runs_of (in_category c)
category_runs zero lt = category_0
category_runs (suc zero) lt = category_1
category_runs (suc (suc zero)) lt = category_2
category_runs (suc (suc (suc zero))) lt = category_3
category_runs (suc (suc (suc (suc zero)))) lt = category_4
category_runs (suc (suc (suc (suc (suc c))))) lt = absurd (omega arith)

-- the run of a pair of enemies
abbrev pub run_of_pair : ℕ → Run
run_of_pair k = record { low = 50 + 2 * k; high = 51 + 2 * k }

pair_0 : run_of_pair 0 ∷ [] ≡ runs_of (between (50 + 2 * 0) (51 + 2 * 0))
unfolding runs_of
pair_0 = refl

pair_1 : run_of_pair 1 ∷ [] ≡ runs_of (between (50 + 2 * 1) (51 + 2 * 1))
unfolding runs_of
pair_1 = refl

pair_2 : run_of_pair 2 ∷ [] ≡ runs_of (between (50 + 2 * 2) (51 + 2 * 2))
unfolding runs_of
pair_2 = refl

pair_3 : run_of_pair 3 ∷ [] ≡ runs_of (between (50 + 2 * 3) (51 + 2 * 3))
unfolding runs_of
pair_3 = refl

pair_4 : run_of_pair 4 ∷ [] ≡ runs_of (between (50 + 2 * 4) (51 + 2 * 4))
unfolding runs_of
pair_4 = refl

pair_5 : run_of_pair 5 ∷ [] ≡ runs_of (between (50 + 2 * 5) (51 + 2 * 5))
unfolding runs_of
pair_5 = refl

pair_6 : run_of_pair 6 ∷ [] ≡ runs_of (between (50 + 2 * 6) (51 + 2 * 6))
unfolding runs_of
pair_6 = refl

pair_7 : run_of_pair 7 ∷ [] ≡ runs_of (between (50 + 2 * 7) (51 + 2 * 7))
unfolding runs_of
pair_7 = refl

pair_8 : run_of_pair 8 ∷ [] ≡ runs_of (between (50 + 2 * 8) (51 + 2 * 8))
unfolding runs_of
pair_8 = refl

pair_9 : run_of_pair 9 ∷ [] ≡ runs_of (between (50 + 2 * 9) (51 + 2 * 9))
unfolding runs_of
pair_9 = refl

pub pair_runs : (k : ℕ) → k < 10 → run_of_pair k ∷ [] ≡ runs_of (between (50 + 2 * k) (51 + 2 * k))
pair_runs zero lt = pair_0
pair_runs (suc zero) lt = pair_1
pair_runs (suc (suc zero)) lt = pair_2
pair_runs (suc (suc (suc zero))) lt = pair_3
pair_runs (suc (suc (suc (suc zero)))) lt = pair_4
pair_runs (suc (suc (suc (suc (suc zero))))) lt = pair_5
pair_runs (suc (suc (suc (suc (suc (suc zero)))))) lt = pair_6
pair_runs (suc (suc (suc (suc (suc (suc (suc zero))))))) lt = pair_7
pair_runs (suc (suc (suc (suc (suc (suc (suc (suc zero)))))))) lt = pair_8
pair_runs (suc (suc (suc (suc (suc (suc (suc (suc (suc zero))))))))) lt = pair_9
pair_runs (suc (suc (suc (suc (suc (suc (suc (suc (suc (suc k)))))))))) lt = absurd (omega arith)

pub base_runs : record { low = 30; high = 49 } ∷ [] ≡ runs_of (between 30 49)
unfolding runs_of
base_runs = refl

pub all_runs : record { low = 0; high = 119 } ∷ [] ≡ runs_of (between 0 119)
unfolding runs_of
all_runs = refl

joined : (out a b c d : List ℕ) → (((out ++ a) ++ b) ++ c) ++ d ≡ out ++ (a ++ (b ++ (c ++ d)))
joined out a b c d = simp append_assoc

-- the lines of rows: some, one, others, one
pub rows_text : (out : List ℕ) (cs ps : List ℕ) (q s : Said)
    → (((out ++ flat_map (λ c. line_text (category_row c)) cs) ++ line_text q) ++ flat_map (λ k. line_text (pair k)) ps) ++ line_text s
    ≡ out ++ flat_map line_text (map category_row cs ++ (q ∷ (map pair ps ++ s ∷ [])))
rows_text out cs ps q s =
    let C : List ℕ = flat_map (λ c. line_text (category_row c)) cs in
    let P : List ℕ = flat_map (λ k. line_text (pair k)) ps in
    let tail : flat_map line_text (map pair ps ++ s ∷ []) ≡ P ++ line_text s =
    flat_map-append line_text (map pair ps) (s ∷ [])
    ∙ ap (λ (front : List ℕ). front ++ (line_text s ++ [])) (flat_map-map line_text pair ps)
    ∙ ap (λ (back : List ℕ). P ++ back) (append-nil (line_text s)) in
    let whole : flat_map line_text (map category_row cs ++ (q ∷ (map pair ps ++ s ∷ []))) ≡ C ++ (line_text q ++ (P ++ line_text s)) =
    flat_map-append line_text (map category_row cs) (q ∷ (map pair ps ++ s ∷ []))
    ∙ ap (λ (front : List ℕ). front ++ (line_text q ++ flat_map line_text (map pair ps ++ s ∷ []))) (flat_map-map line_text category_row cs)
    ∙ ap (λ (back : List ℕ). C ++ (line_text q ++ back)) tail in
    rw whole (joined out C (line_text q) P (line_text s))

-- the parts of a plan
pub pieces : (a b c : List Said) (d : Said) → ((flat_map line_text a ++ flat_map line_text b) ++ flat_map line_text c) ++ line_text d ≡ flat_map line_text (((a ++ b) ++ c) ++ d ∷ [])
pieces a b c d =
    sym (flat_map-append line_text ((a ++ b) ++ c) (d ∷ [])
    ∙ ap (λ (front : List ℕ). front ++ (line_text d ++ [])) (flat_map-append line_text (a ++ b) c ∙ ap (λ (front : List ℕ). front ++ flat_map line_text c) (flat_map-append line_text a b))
    ∙ ap (λ (back : List ℕ). ((flat_map line_text a ++ flat_map line_text b) ++ flat_map line_text c) ++ back) (append-nil (line_text d)))

pub more_runs : (c n : ℕ) (xs : List Run) → xs ≡ map (single c) (range_with_len 0 n) → xs ++ single c n ∷ [] ≡ map (single c) (range_with_len 0 (n + 1))
more_runs c n xs e = rw e (sym (map-range_with_len_more (single c) 0 n n (omega arith)))

settings_line : (out a b c d e : List ℕ) → ((((out ++ a) ++ b) ++ c) ++ d) ++ e ≡ out ++ (a ++ (b ++ (c ++ (d ++ e))))
settings_line out a b c d e = simp append_assoc

-- the text that the settings were written to, one after the other
pub settings_from : (number sessions : ℕ) (out o1 o2 o3 o4 o5 key : List ℕ) → key ≡ key_of number
    → o1 ≡ out ++ line_text (Length 20)
    → o2 ≡ o1 ++ line_text (Prior (plan number sessions []).prior)
    → o3 ≡ o2 ++ line_text (Rate 1 4)
    → o4 ≡ o3 ++ line_text (Key key)
    → o5 ≡ o4 ++ flat_map line_text (limit_rules (plan 0 sessions []))
    → o5 ≡ out ++ flat_map line_text (setting_rules (plan number sessions []))
settings_from number sessions out o1 o2 o3 o4 o5 key ek e1 e2 e3 e4 e5 =
    rw (e5, e4, e3, e2, e1, ek) (settings_line out (line_text (Length 20)) (line_text (Prior (plan number sessions []).prior)) (line_text (Rate 1 4)) (line_text (Key (key_of number))) (flat_map line_text (limit_rules (plan 0 sessions []))))

-- the text that the parts of the plan were written to
pub plan_from : (number sessions : ℕ) (xs : List DrawnItem) (high : ℕ) (o0 o1 o2 o3 o4 : List ℕ) → o0 ≡ [] → high ≡ base_quantity xs + 50
    → o1 ≡ o0 ++ flat_map line_text (setting_rules (plan number sessions []))
    → o2 ≡ o1 ++ flat_map line_text (rows high)
    → o3 ≡ o2 ++ flat_map (λ k. line_text (Stimulus (k + 1) 2 4)) (range_with_len 0 6)
    → o4 ≡ o3 ++ line_text (Base (between 30 49))
    → o4 ≡ plan_text number sessions xs
unfolding plan_text canonical_rules
plan_from number sessions xs high o0 o1 o2 o3 o4 e0 eh e1 e2 e3 e4 =
    let P : SaidPlan = plan number sessions xs in
    let whole = pieces (setting_rules P) P.rows (bounds_below 6 P.bounds) (Base (between 30 49)) in
    rw (e4, e3, e2, e1, e0, eh) whole

-- a clause of a result that is passed on
pub on_ok : {A E : Type 0} (P Q : Type 0) (r : Result A E) → (P → Q) → OnOk r P → OnOk r Q
on_ok P Q (Ok x) f p = f p
on_ok P Q (Err e) f p = p
