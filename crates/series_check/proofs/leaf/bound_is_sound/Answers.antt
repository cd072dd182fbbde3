use Rattle.std.proofs.Common.{◌≡◌, ℕ, ◌<◌, List, length, ◌∙◌, Option, Some, sym, ap, subst, arith}
use Rattle.std.proofs.Math.Bool.{true≢false}
use Rattle.certificate_model.specs.Relaxed.{Multipliers}
use Rattle.series_model.specs.Series.{SeriesProblem}
use Rattle.series_model.specs.SeriesPaths.{SeriesPath}
use Rattle.series_model.specs.SeriesTrees.{vector_at}
use Rattle.series_model.specs.SeriesVerdicts.{NamesOnlySides, ClosesByBound}
use Rattle.series_check.specs.Cuts.{problem_of, path_of}
use Rattle.series_check.proofs.SideLaws.{vector_read}
use Rattle.series_check.proofs.leaf.bound_is_sound.Goals as goal

pub returns-then-not-names_only_sides : goal.returns-then-not-names_only_sides
returns-then-not-names_only_sides c =
    let Q : SeriesProblem = problem_of c.args.setting.now in
    let within : c.args.which < length c.vectors-vectors.result.now = omega (arith, c.if-which-vectors.false) in
    let same : c.pairs-vector.result.now ≡ vector_at c.args.tree.now c.args.which = c.pairs-vector.ensures.pairs ∙ vector_read c.args.tree.now c.vectors-vectors.result.now c.args.which c.index-vectors-which.result c.vectors-vectors.ensures.vectors c.index-vectors-which.is within in (
      λ h. absurd (true≢false (sym h)),
      λ sound. absurd (true≢false (sym (c.names_only_sides.ensures.1 (subst (NamesOnlySides Q) (sym same) sound.1)) ∙ c.if-not-names_only_sides.true)),
    )

pub returns-in-Some : goal.returns-in-Some
returns-in-Some c =
    let Q : SeriesProblem = problem_of c.args.setting.now in
    let p : SeriesPath = path_of c.args.cut.now in
    let v : Multipliers = vector_at c.args.tree.now c.args.which in
    let within : c.args.which < length c.vectors-vectors.result.now = omega (arith, c.if-which-vectors.false) in
    let same : c.pairs-vector.result.now ≡ v = c.pairs-vector.ensures.pairs ∙ vector_read c.args.tree.now c.vectors-vectors.result.now c.args.which c.index-vectors-which.result c.vectors-vectors.ensures.vectors c.index-vectors-which.is within in
    let low : c.args.which < length c.args.tree.now.vectors = omega (arith, within, ap (λ (vs : List Multipliers). length vs) c.vectors-vectors.ensures.vectors) in
    let names : NamesOnlySides Q v = subst (NamesOnlySides Q) same (c.names_only_sides.ensures.0 c.if-not-names_only_sides.false) in
    let closes = c.closes.ensures c.pairs-vector.result.now c.sides_of.ensures c.names_pool-pool.ensures in (
      λ h. (low, names, subst (λ (u : Option ℕ). ClosesByBound Q u p v) (sym c.in-Some.is) (subst (ClosesByBound Q (Some c.in-Some.bar) p) same (closes.0 h))),
      λ sound. closes.1 (subst (ClosesByBound Q (Some c.in-Some.bar) p) (sym same) (subst (λ (u : Option ℕ). ClosesByBound Q u p v) c.in-Some.is sound.2)),
    )
