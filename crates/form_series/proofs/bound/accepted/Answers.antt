use Rattle.std.proofs.Common.{refl, subst, Some}
use Rattle.series_check.specs.Cuts.{problem_of}
use Rattle.series_model.specs.declared.verdict.SeriesVerdict.{SeriesVerdict}
use Rattle.series_model.specs.SeriesVerdicts.{IsSeriesVerdict}
use Rattle.form_series.proofs.bound.accepted.Goals as goal

pub returns-in-Optimal : goal.returns-in-Optimal
returns-in-Optimal c =
    let Q = problem_of c.args.setting.now in
    record {
      at_most = c.check_series-verdict.ensures.at_most c.args.bound.value c.in-Optimal.is refl;
      shown = subst (λ (v : SeriesVerdict). IsSeriesVerdict Q (Some c.args.forms.now) (Some c.args.bound.value) c.args.bound.tree v) c.in-Optimal.is c.check_series-verdict.ensures.verdict;
    }
