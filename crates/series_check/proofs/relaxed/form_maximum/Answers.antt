use Rattle.std.proofs.Common.{◌≡◌, ℕ, ◌<◌, arith, inl, inr, ap, ◌∙◌, sym, subst}
use Rattle.std.specs.Prelude.{ℤ, List, slice_index}
use Rattle.std.proofs.Math.Path.{fun_ext}
use Rattle.bank_tables.specs.Items.{Set}
use Rattle.bank_tables.specs.Tables.{size}
use Rattle.form_model.specs.Forms.{size_in}
use Rattle.certificate_model.specs.Paths.{Path, is_free}
use Rattle.form_model.specs.Problem.{Problem}
use Rattle.certificate_model.specs.Ranges.{at}
use Rattle.certificate_model.specs.Relaxed.{multiplier, IsRelaxedPair}
use Rattle.series_model.specs.Series.{SeriesProblem}
use Rattle.series_model.specs.SeriesBounds.{multipliers_of}
use Rattle.series_model.specs.SeriesPaths.{SeriesPath, form_path}
use Rattle.series_check.specs.Cuts.{problem_of, one_form, path_of, form_path_of}
use Rattle.series_check.specs.Maximum.{weight_at, maximum_top, IsValueOf, IsFormMaximum}
use Rattle.series_check.proofs.MaximumLaws.{form_maximum_is, no_pair}
use Rattle.series_check.proofs.Wide.{wide_top, nearer, read_back}
use Rattle.series_check.specs.Tops.{item_top, weight_top}
use Rattle.series_check.proofs.relaxed.form_maximum.Goals as goal
use Rattle.series_check.proofs.relaxed.form_maximum.Goals.{then-length-taken-via-then-length-taken, then-length-taken-via-else-length-taken+then-taken-free}

pub returns-then-length-taken-clause-maximum : goal.returns-then-length-taken-clause-maximum
returns-then-length-taken-clause-maximum c v are X Z fits =
    let P : Problem = one_form c.args.setting.now in
    let q : Path = form_path_of c.standing_on-standing.result in
    let same : q ≡ form_path (problem_of c.args.setting.now) (path_of c.args.cut.now) c.args.form = c.standing_on-standing.ensures.path in
    let free : c.size_in-free.result ≡ size_in P.bank (is_free P q) = c.size_in-free.ensures.size ∙ ap (λ (Y : Set). size_in P.bank Y) c.standing_on-standing.ensures.standing.free in
    let taken : c.size_in-taken.result ≡ size_in P.bank q.taken = c.size_in-taken.ensures.size in
    let pair : IsRelaxedPair P q X Z = subst (λ (p : Path). IsRelaxedPair P p X Z) (sym same) fits in
    elim c.then-length-taken.branch [
      | then-length-taken-via-then-length-taken w ↦ no_pair P q (inl (omega (arith, w.if-length-taken.true, taken, c.length-length.ensures))) X Z pair
      | then-length-taken-via-else-length-taken+then-taken-free w ↦ no_pair P q (inr (omega (arith, w.if-taken-free.true, taken, free, c.length-length.ensures))) X Z pair
    ]

pub returns-clause-maximum : goal.returns-clause-maximum
returns-clause-maximum c v are =
    let Q : SeriesProblem = problem_of c.args.setting.now in
    let p : SeriesPath = path_of c.args.cut.now in
    let f = c.args.form in
    let P : Problem = one_form c.args.setting.now in
    let q : Path = form_path_of c.standing_on-standing.result in
    let r : ℤ = c.form_value.result in
    let weights : List ℤ = c.weights-weights.result in
    let all : slice_index c.args.sides.now ≡ multiplier v = fun_ext are in
    let own : slice_index c.form_sides-own.result ≡ multiplier (multipliers_of f v) = fun_ext (c.form_sides-own.ensures v are) in
    let weighed : (i : ℕ) → i < size Q.bank → at weights i ≡ weight_at Q (multiplier v) (multiplier (multipliers_of f v)) c.args.ray f i =
    λ i w. c.weights-weights.ensures.value i w ∙ ap (λ (M : ℕ → ℕ). weight_at Q M (slice_index c.form_sides-own.result) c.args.ray f i) all ∙ ap (λ (N : ℕ → ℕ). weight_at Q (multiplier v) N c.args.ray f i) own in
    let value : IsValueOf P (form_path Q p f) (multiplier (multipliers_of f v)) (at weights) r =
    subst (λ (path : Path). IsValueOf P path (multiplier (multipliers_of f v)) (at weights) r) c.standing_on-standing.ensures.path
    (subst (λ (N : ℕ → ℕ). IsValueOf P q N (at weights) r) own c.form_value.ensures.maximum) in
    subst (IsFormMaximum Q p v c.args.ray f) (sym (read_back r (nearer maximum_top wide_top r (omega arith) c.form_value.ensures.within))) (form_maximum_is Q p v c.args.ray f weights r weighed value)

pub form_value-requires-clause-within : goal.form_value-requires-clause-within
form_value-requires-clause-within c i w = nearer weight_top item_top (at c.weights-weights.result i) (omega arith) (c.weights-weights.ensures.within i w)
