-- How a line is put together.
use Rattle.std.specs.Prelude.{codes}
use Rattle.std.proofs.Common.{◌≡◌, ℕ, List, [], ◌∷◌, ◌++◌, map, length, refl, sym, ap, ◌∙◌, append_assoc, ℤ, Option, arith}
use Rattle.std.proofs.lemmas.List.{append-nil}
use Rattle.std.proofs.lemmas.List.Folds.{flat_map-map}
use Rattle.std.proofs.lemmas.Grind.{flat_map-append}
use Rattle.std.specs.List.{flat_map}
use Rattle.std.specs.Fmt.{decimal, signed_decimal}
use Rattle.exam_text.specs.declared.run.Run.{Run}
use Rattle.exam_text.specs.Words.{spaced}
use Rattle.exam_text.specs.Runs.{run_word}
use Rattle.std.specs.Option.{option_map}
use Rattle.bank_tables.specs.Items.{has}
use Rattle.form_model.specs.Plan.{Plan}
use Rattle.form_model.specs.declared.row.Row.{Row}
use Rattle.form_model.specs.declared.row.StimulusBound.{StimulusBound}
use Rattle.spec_reader.specs.Rules.{Said}
use Rattle.spec_reader.specs.Plans.{SaidPlan, row_said, plan_said}
use Rattle.spec_reader.specs.Canonical.{words_text, line_text, band_rules, setting_rules, bounds_below, base_rules, canonical_rules, canonical}

-- words with a space between each two are the first one, and each other one after a space
pub spaced_flat : (w : List ℕ) (ws : List (List ℕ)) → spaced (w ∷ ws) ≡ w ++ flat_map (λ v. 32 ∷ v) ws
spaced_flat w [] = sym (append-nil w)
spaced_flat w (v ∷ vs) = ap (λ (rest : List ℕ). w ++ 32 ∷ rest) (spaced_flat v vs)

numbers_spaced : (w : List ℕ) (ns : List ℕ) → spaced (w ∷ map decimal ns) ≡ w ++ flat_map (λ n. 32 ∷ decimal n) ns
numbers_spaced w ns = spaced_flat w (map decimal ns) ∙ ap (λ (rest : List ℕ). w ++ rest) (flat_map-map (λ v. 32 ∷ v) decimal ns)

pub numbers_line : (out w : List ℕ) (ns : List ℕ) → ((out ++ w) ++ flat_map (λ n. 32 ∷ decimal n) ns) ++ 10 ∷ [] ≡ out ++ words_text (w ∷ map decimal ns)
unfolding words_text
numbers_line out w ns = rw (numbers_spaced w ns) (simp append_assoc)

-- the line of the points at which bands begin
pub bands_line : (out points : List ℕ) → (length points ≡ 0 → ⊥) → ((out ++ codes "bands") ++ flat_map (λ n. 32 ∷ decimal n) points) ++ 10 ∷ [] ≡ out ++ flat_map line_text (band_rules points)
bands_line out [] some = absurd (some refl)
bands_line out (point ∷ points) some = numbers_line out (codes "bands") (point ∷ points) ∙ ap (λ (rest : List ℕ). out ++ rest) (sym (append-nil (words_text (codes "bands" ∷ map decimal (point ∷ points)))))

-- no points have no line
pub no_bands_line : (out points : List ℕ) → length points ≡ 0 → out ≡ out ++ flat_map line_text (band_rules points)
no_bands_line out [] none = sym (append-nil out)
no_bands_line out (point ∷ points) none = absurd (omega (arith, none))

pub values_line : (out w : List ℕ) (zs : List ℤ) → ((out ++ w) ++ flat_map (λ z. 32 ∷ signed_decimal z) zs) ++ 10 ∷ [] ≡ out ++ words_text (w ∷ map signed_decimal zs)
unfolding words_text
values_line out w zs =
    let e : spaced (w ∷ map signed_decimal zs) ≡ w ++ flat_map (λ z. 32 ∷ signed_decimal z) zs = spaced_flat w (map signed_decimal zs) ∙ ap (λ (rest : List ℕ). w ++ rest) (flat_map-map (λ v. 32 ∷ v) signed_decimal zs) in
    rw e (simp append_assoc)

pub set_line : (out w : List ℕ) (ns : List ℕ) (rs : List Run) → (((out ++ w) ++ flat_map (λ n. 32 ∷ decimal n) ns) ++ flat_map (λ r. 32 ∷ run_word r) rs) ++ 10 ∷ [] ≡ out ++ words_text (w ∷ (map decimal ns ++ map run_word rs))
unfolding words_text
set_line out w ns rs =
    let e : spaced (w ∷ (map decimal ns ++ map run_word rs)) ≡ w ++ (flat_map (λ n. 32 ∷ decimal n) ns ++ flat_map (λ r. 32 ∷ run_word r) rs) =
    spaced_flat w (map decimal ns ++ map run_word rs) ∙ ap (λ (rest : List ℕ). w ++ rest) (flat_map-append (λ v. 32 ∷ v) (map decimal ns) (map run_word rs) ∙ (rw (flat_map-map (λ v. 32 ∷ v) decimal ns, flat_map-map (λ v. 32 ∷ v) run_word rs) refl)) in
    rw e (simp append_assoc)

-- the canonical text is that of its parts
pub canonical_pieces : (plan : Plan) → ((flat_map line_text (setting_rules (plan_said plan)) ++ flat_map (λ row. line_text (row_said row)) plan.rows) ++ flat_map line_text (bounds_below (length plan.bounds) plan.bounds)) ++ flat_map line_text (base_rules (option_map has plan.base)) ≡ canonical plan
unfolding canonical canonical_rules
canonical_pieces plan =
    let p : SaidPlan = plan_said plan in
    let settings : List Said = setting_rules p in
    let bounds : List Said = bounds_below (length plan.bounds) plan.bounds in
    let base : List Said = base_rules (option_map has plan.base) in
    let rows : flat_map line_text (map row_said plan.rows) ≡ flat_map (λ row. line_text (row_said row)) plan.rows = flat_map-map line_text row_said plan.rows in
    let first : flat_map line_text (settings ++ map row_said plan.rows) ≡ flat_map line_text settings ++ flat_map (λ row. line_text (row_said row)) plan.rows = flat_map-append line_text settings (map row_said plan.rows) ∙ ap (λ (rest : List ℕ). flat_map line_text settings ++ rest) rows in
    let second = flat_map-append line_text (settings ++ map row_said plan.rows) bounds ∙ ap (λ (front : List ℕ). front ++ flat_map line_text bounds) first in
    sym (flat_map-append line_text ((settings ++ map row_said plan.rows) ++ bounds) base ∙ ap (λ (front : List ℕ). front ++ flat_map line_text base) second)

-- the text that the parts were written to, one after the other
pub canonical_from : (plan : Plan) (start front middle behind whole : List ℕ) (rows : List Row) (bounds : List StimulusBound) (base : Option (List ℕ))
    → start ≡ [] → rows ≡ plan.rows → bounds ≡ plan.bounds → base ≡ plan.base
    → front ≡ start ++ flat_map line_text (setting_rules (plan_said plan))
    → middle ≡ front ++ flat_map (λ row. line_text (row_said row)) rows
    → behind ≡ middle ++ flat_map line_text (bounds_below (length bounds) bounds)
    → whole ≡ behind ++ flat_map line_text (base_rules (option_map has base))
    → whole ≡ canonical plan
canonical_from plan start front middle behind whole rows bounds base none er eb ea e1 e2 e3 e4 = rw (e4, e3, e2, e1, none, er, eb, ea) (canonical_pieces plan)
