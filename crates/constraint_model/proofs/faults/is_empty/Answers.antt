use Rattle.constraint_model.proofs.SetLaws.{empty_by_first}
use Rattle.constraint_model.proofs.faults.is_empty.Goals as goal

pub returns : goal.returns
returns c = empty_by_first c.args.set.now c.first.result c.is_none.result c.first.ensures.lowest c.is_none.ensures
