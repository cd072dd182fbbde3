use Rattle.series_model.proofs.UseLaws.{series_uses}
use Rattle.series_model.proofs.laws.series_uses.Goals as goal

pub returns : goal.returns
returns c = series_uses
