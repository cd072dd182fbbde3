use Rattle.series_model.proofs.SeriesTreeLaws.{optimal_is_at_most}
use Rattle.series_model.proofs.laws.optimal_is_at_most.Goals as goal

pub returns : goal.returns
returns c = optimal_is_at_most
