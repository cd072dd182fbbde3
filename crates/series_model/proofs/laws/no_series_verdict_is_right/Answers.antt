use Rattle.series_model.proofs.SeriesTreeLaws.{no_series_is_none}
use Rattle.series_model.proofs.laws.no_series_verdict_is_right.Goals as goal

pub returns : goal.returns
returns c = no_series_is_none
