use Rattle.std.proofs.Common.{◌∙◌}
use Rattle.exam_records.proofs.ListFields.{some_of_lowest}
use Rattle.exam_records.proofs.sets.has_items.Goals as goal

pub returns : goal.returns
returns c = c.is_some.ensures ∙ some_of_lowest c.args.set.now c.first.result c.first.ensures.lowest c.first.ensures.item
