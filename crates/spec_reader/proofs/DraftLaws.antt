-- The lines of a canonical text mean the plan that they were printed from.
use Rattle.std.proofs.Common.{◌≡◌, ℕ, zero, suc, ◌+◌, ◌-◌, ◌<◌, ◌≤◌, List, [], ◌∷◌, ◌++◌, length, get_or, map, take, drop, set, Option, Some, None, refl, sym, ap, subst, ◌∙◌, arith, append_assoc, drop-cons, add-one}
use Rattle.std.specs.Prelude.{replicate}
use Rattle.std.specs.List.{fold}
use Rattle.std.proofs.lemmas.Bool.{ne_eqb}
use Rattle.std.proofs.lemmas.List.{append-nil, take_all, drop_all, length-take-le, length-replicate, take_more}
use Rattle.std.proofs.lemmas.List.Sums.{fold-append, fold_push}
use Rattle.std.proofs.Math.Seq.{set-append_seam}
use Rattle.bank_tables.specs.Items.{Set}
use Rattle.form_model.specs.declared.row.Row.{Row}
use Rattle.form_model.specs.declared.row.Row.TheVariants as row
use Rattle.form_model.specs.declared.row.StimulusBound.{StimulusBound}
use Rattle.form_model.specs.Plan.{no_bound}
use Rattle.spec_reader.specs.Bounds.{any_bound, with_bound}
use Rattle.spec_reader.specs.Rules.{Said, Stimulus}
use Rattle.spec_reader.specs.Plans.{SaidPlan, row_said, blank, with_row, with_rule, drafted}
use Rattle.spec_reader.specs.Canonical.{bounds_below, base_rules, setting_rules, canonical_rules}

with_row_said : (q : SaidPlan) (r : Row) → with_rule q (row_said r) ≡ with_row q (row_said r)
unfolding with_rule
with_row_said q (row.Count set low high) = refl
with_row_said q (row.Quantity which set low high) = refl
with_row_said q (row.Enemies set) = refl
with_row_said q (row.Stimuli low high) = refl

with_rows : SaidPlan → List Said → SaidPlan
with_rows q rows = record q { rows = rows }

rows_drafted : (rows : List Row) (q : SaidPlan) → fold with_rule q (map row_said rows) ≡ with_rows q (q.rows ++ map row_said rows)
unfolding with_rows
rows_drafted [] q = ap (with_rows q) (sym (append-nil q.rows))
rows_drafted (r ∷ rows) q =
    ap (λ (p : SaidPlan). fold with_rule p (map row_said rows)) (with_row_said q r)
    ∙ (rows_drafted rows (with_row q (row_said r)) ∙ ap (with_rows q) (append_assoc q.rows (row_said r ∷ []) (map row_said rows)))

with_bounds : SaidPlan → List StimulusBound → SaidPlan
with_bounds q bounds = record q { bounds = bounds }

-- one stimulus more
bound_set : (n : ℕ) (bounds old : List StimulusBound) → n < length bounds → length old ≡ length bounds → with_bound (take n bounds ++ drop n old) (n + 1) (get_or bounds n no_bound) ≡ take (n + 1) bounds ++ drop (n + 1) old
bound_set n bounds old lt len =
    let within : n < length old = omega (arith, lt, len) in
    let front : length (take n bounds) ≡ n = length-take-le n bounds (omega (arith, lt)) in
    let place : n + 1 - 1 ≡ length (take n bounds) = omega (arith, front) in
    rw (ne_eqb (n + 1) 0 (λ e. omega (arith, e)), place, drop-cons old n no_bound within)
    (set-append_seam (take n bounds) (get_or old n no_bound) (drop (suc n) old) (get_or bounds n no_bound)
    ∙ (rw (take_more bounds n no_bound lt, add-one n) (sym (append_assoc (take n bounds) (get_or bounds n no_bound ∷ []) (drop (suc n) old)))))

bound_said : (q : SaidPlan) (n : ℕ) (bounds : List StimulusBound) → with_rule q (Stimulus (n + 1) (get_or bounds n no_bound).low (get_or bounds n no_bound).high) ≡ with_bounds q (with_bound q.bounds (n + 1) (get_or bounds n no_bound))
unfolding with_rule with_bounds
bound_said q n bounds = refl

bounds_drafted : (n : ℕ) (bounds : List StimulusBound) (q : SaidPlan) → n ≤ length bounds → length q.bounds ≡ length bounds → fold with_rule q (bounds_below n bounds) ≡ with_bounds q (take n bounds ++ drop n q.bounds)
unfolding with_bounds
bounds_drafted zero bounds q le len = refl
bounds_drafted (suc n) bounds q le len =
    let more : Said = Stimulus (n + 1) (get_or bounds n no_bound).low (get_or bounds n no_bound).high in
    let lt : n < length bounds = omega (arith, le) in
    let before : fold with_rule q (bounds_below n bounds) ≡ with_bounds q (take n bounds ++ drop n q.bounds) = bounds_drafted n bounds q (omega (arith, le)) len in
    let next : take (n + 1) bounds ++ drop (n + 1) q.bounds ≡ take (suc n) bounds ++ drop (suc n) q.bounds = rw (add-one n) refl in
    fold_push with_rule q (bounds_below n bounds) more
    ∙ (ap (λ (p : SaidPlan). with_rule p more) before
    ∙ (bound_said (with_bounds q (take n bounds ++ drop n q.bounds)) n bounds
    ∙ ap (with_bounds q) (bound_set n bounds q.bounds lt len ∙ next)))

with_base : SaidPlan → Option Set → SaidPlan
with_base q base = record q { base = base }

base_drafted : (base : Option Set) (q : SaidPlan) → q.base ≡ None → fold with_rule q (base_rules base) ≡ with_base q base
unfolding with_base with_rule
base_drafted None q e = ap (λ (b : Option Set). with_base q b) e
base_drafted (Some X) q e = refl

-- the settings of a plan, with the defaults for its rows, bounds and base
set_up : SaidPlan → SaidPlan
set_up p = record p { rows = []; bounds = replicate (length p.bounds) any_bound; base = None }

settings_at : (p : SaidPlan) (points : List ℕ) → fold with_rule (blank (length p.bounds)) (setting_rules (record p { bands = points })) ≡ set_up (record p { bands = points })
unfolding with_rule set_up
settings_at p [] = refl
settings_at p (point ∷ points) = refl

settings_drafted : (p : SaidPlan) → fold with_rule (blank (length p.bounds)) (setting_rules p) ≡ set_up p
unfolding with_rule set_up
settings_drafted p = settings_at p p.bands

pub drafted_again : (p : SaidPlan) (rows : List Row) → p.rows ≡ map row_said rows → drafted (length p.bounds) (canonical_rules p) ≡ p
unfolding canonical_rules set_up with_rows with_bounds with_base
drafted_again p rows e =
    let S = setting_rules p in
    let B = bounds_below (length p.bounds) p.bounds in
    let C = base_rules p.base in
    let start = blank (length p.bounds) in
    let one : fold with_rule start (S ++ p.rows) ≡ with_rows (set_up p) p.rows =
    fold-append with_rule start S p.rows
    ∙ (ap (λ (q : SaidPlan). fold with_rule q p.rows) (settings_drafted p)
    ∙ subst (λ (rs : List Said). fold with_rule (set_up p) rs ≡ with_rows (set_up p) rs) (sym e) (rows_drafted rows (set_up p))) in
    let all : take (length p.bounds) p.bounds ++ drop (length p.bounds) (replicate (length p.bounds) any_bound) ≡ p.bounds =
    rw (take_all (length p.bounds) p.bounds (omega arith), drop_all (length p.bounds) (replicate (length p.bounds) any_bound) (omega (arith, length-replicate (length p.bounds) any_bound))) (append-nil p.bounds) in
    let two : fold with_rule start ((S ++ p.rows) ++ B) ≡ with_bounds (with_rows (set_up p) p.rows) p.bounds =
    fold-append with_rule start (S ++ p.rows) B
    ∙ (ap (λ (q : SaidPlan). fold with_rule q B) one
    ∙ (bounds_drafted (length p.bounds) p.bounds (with_rows (set_up p) p.rows) (omega arith) (length-replicate (length p.bounds) any_bound)
    ∙ ap (with_bounds (with_rows (set_up p) p.rows)) all)) in
    fold-append with_rule start ((S ++ p.rows) ++ B) C
    ∙ (ap (λ (q : SaidPlan). fold with_rule q C) two ∙ base_drafted p.base (with_bounds (with_rows (set_up p) p.rows) p.bounds) refl)
