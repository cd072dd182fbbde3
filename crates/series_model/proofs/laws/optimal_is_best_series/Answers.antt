use Rattle.series_model.proofs.SeriesTreeLaws.{optimal_is_best_series}
use Rattle.series_model.proofs.laws.optimal_is_best_series.Goals as goal

pub returns : goal.returns
returns c = optimal_is_best_series
