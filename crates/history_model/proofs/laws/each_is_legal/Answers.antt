use Rattle.history_model.proofs.RunParts.{each_is_legal}
use Rattle.history_model.proofs.laws.each_is_legal.Goals as goal

pub returns : goal.returns
returns c = each_is_legal
