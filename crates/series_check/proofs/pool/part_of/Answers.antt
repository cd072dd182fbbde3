use Rattle.std.proofs.Common.{◌≡◌, ℕ, ◌*◌, ◌<◌, arith, ap, ◌∙◌, sym, subst, to_z, of_z}
use Rattle.std.specs.Prelude.{ℤ, List, slice_index, ◌*ℤ◌, pos}
use Rattle.std.specs.Int.{w128}
use Rattle.std.proofs.Math.Path.{fun_ext}
use Rattle.bank_tables.specs.Items.{Set}
use Rattle.bank_tables.specs.Tables.{size}
use Rattle.form_model.specs.Problem.{Problem}
use Rattle.certificate_model.specs.Counting.{taken_or_free}
use Rattle.certificate_model.specs.Paths.{Path}
use Rattle.certificate_model.specs.Ranges.{IsWithin, at}
use Rattle.certificate_model.specs.Relaxed.{multiplier}
use Rattle.certificate_model.specs.Weights.{price}
use Rattle.series_model.specs.Series.{SeriesProblem}
use Rattle.series_model.specs.SeriesPaths.{SeriesPath}
use Rattle.series_model.specs.SeriesPools.{length_side}
use Rattle.series_check.specs.Cuts.{problem_of, one_form, path_of, form_path_of}
use Rattle.series_check.specs.Maximum.{weight_at}
use Rattle.series_check.specs.Pools.{share_top, own_multiplier}
use Rattle.series_check.proofs.PoolStepLaws.{less_both, share_is, share_near}
use Rattle.series_check.proofs.Wide.{wide_top, nearer, read_back, three_summed}
use Rattle.series_check.proofs.pool.part_of.Goals as goal

pub returns-clause-part : goal.returns-clause-part
returns-clause-part c v are =
    let Q : SeriesProblem = problem_of c.args.setting.now in
    let p : SeriesPath = path_of c.args.cut.now in
    let f = c.args.form in
    let P : Problem = one_form c.args.setting.now in
    let weights : List ℤ = c.weights-weights.result in
    let all : slice_index c.args.sides.now ≡ multiplier v = fun_ext are in
    let own : slice_index c.form_sides-own.result ≡ own_multiplier v f = fun_ext (c.form_sides-own.ensures v are) in
    let weighed : (i : ℕ) → i < size Q.bank → at weights i ≡ weight_at Q (multiplier v) (own_multiplier v f) c.args.ray f i =
    λ i w. c.weights-weights.ensures.value i w ∙ ap (λ (M : ℕ → ℕ). weight_at Q M (slice_index c.form_sides-own.result) c.args.ray f i) all ∙ ap (λ (N : ℕ → ℕ). weight_at Q (multiplier v) N c.args.ray f i) own in
    let priced : to_z w128 (of_z w128 c.length_price-price.result) ≡ price (multiplier v) (length_side f) = read_back c.length_price-price.result (nearer 4294967295 wide_top c.length_price-price.result (omega arith) c.length_price-price.ensures.within) ∙ c.length_price-price.ensures.value ∙ ap (λ (M : ℕ → ℕ). price M (length_side f)) all in
    let lengths : c.length_share-lengths.result ≡ price (multiplier v) (length_side f) *ℤ pos Q.plan.length =
    c.length_share-lengths.ensures.value ∙ ap (λ (n : ℕ). price (slice_index c.args.sides.now) (length_side f) *ℤ pos n) c.length.ensures ∙ ap (λ (M : ℕ → ℕ). price M (length_side f) *ℤ pos Q.plan.length) all in
    record {
      holders = λ i. ap (λ (X : Set). X i) c.standing_on-standing.ensures.standing.may_hold ∙ ap (λ (path : Path). taken_or_free P path i) c.standing_on-standing.ensures.path;
      counts = λ i w. c.counts_of-counts.ensures.value i (omega (arith, w, c.items-items.ensures.items)) ∙ less_both _ _ _ _ (weighed i w) priced;
      rest =
          three_summed c.length_share-lengths.result c.rows_constant-rows.result c.gains-stimuli.result
          (nearer (4294967295 * 65535) wide_top c.length_share-lengths.result (omega arith) c.length_share-lengths.ensures.within)
          (nearer 18446462594437939200 wide_top c.rows_constant-rows.result (omega arith) c.rows_constant-rows.ensures.within)
          (nearer 12800000000000000000 wide_top c.gains-stimuli.result (omega arith) c.gains-stimuli.ensures.within)
          ∙ share_is Q p v f (form_path_of c.standing_on-standing.result) (slice_index c.form_sides-own.result) c.length_share-lengths.result c.rows_constant-rows.result c.gains-stimuli.result c.standing_on-standing.ensures.path own lengths
          c.rows_constant-rows.ensures.value c.gains-stimuli.ensures.value;
    }

pub returns-clause-near : goal.returns-clause-near
returns-clause-near c =
    record {
      counts = λ i w. c.counts_of-counts.ensures.within i (omega (arith, w, c.items-items.ensures.items));
      rest =
          subst (IsWithin share_top)
          (sym (three_summed c.length_share-lengths.result c.rows_constant-rows.result c.gains-stimuli.result
          (nearer (4294967295 * 65535) wide_top c.length_share-lengths.result (omega arith) c.length_share-lengths.ensures.within)
          (nearer 18446462594437939200 wide_top c.rows_constant-rows.result (omega arith) c.rows_constant-rows.ensures.within)
          (nearer 12800000000000000000 wide_top c.gains-stimuli.result (omega arith) c.gains-stimuli.ensures.within)))
          (share_near _ _ _ c.length_share-lengths.ensures.within c.rows_constant-rows.ensures.within c.gains-stimuli.ensures.within);
    }
