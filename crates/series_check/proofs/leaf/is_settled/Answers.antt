use Rattle.std.proofs.Common.{◌≡◌, ℕ, ◌≤◌, Option, sym, subst, arith}
use Rattle.std.proofs.lemmas.Bool.{leb-true, le-leb}
use Rattle.series_model.specs.Series.{SeriesProblem, Forms, forms_of, IsSeries}
use Rattle.series_model.specs.SeriesVerdicts.{IsSettled}
use Rattle.series_model.proofs.SeriesTreeLaws.{one_value}
use Rattle.series_check.specs.Cuts.{problem_of}
use Rattle.series_check.proofs.leaf.is_settled.Goals as goal

pub returns-in-Some : goal.returns-in-Some
returns-in-Some c =
    let Q : SeriesProblem = problem_of c.args.setting.now in
    let S : Forms = forms_of c.args.cut.now.taken in
    let series : IsSeries Q S = c.is_series.ensures.0 c.if-not-is_series.false in (
      λ h. subst (λ (u : Option ℕ). IsSettled Q u S) (sym c.in-Some.is) (λ V own value. (let same : V ≡ c.value.result = one_value Q S V c.value.result value c.value.ensures in let low : c.value.result ≤ c.in-Some.bar = leb-true _ _ h in omega arith)),
      λ settled. le-leb _ _ (subst (λ (u : Option ℕ). IsSettled Q u S) c.in-Some.is settled c.value.result series c.value.ensures),
    )
