use Rattle.history_model.proofs.RunParts.{beginning_is_legal}
use Rattle.history_model.proofs.laws.beginning_is_legal.Goals as goal

pub returns : goal.returns
returns c = beginning_is_legal
