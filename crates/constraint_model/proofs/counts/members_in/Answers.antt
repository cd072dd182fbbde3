use Rattle.std.proofs.Common.{◌∙◌}
use Rattle.bank_tables.specs.Items.{has}
use Rattle.bank_tables.specs.Tables.{size}
use Rattle.constraint_model.proofs.SetLaws.{count_of_meet}
use Rattle.constraint_model.proofs.counts.members_in.Goals as goal

pub returns : goal.returns
returns c = c.count.ensures.count ∙ count_of_meet (size c.args.bank.now) (has c.args.set.now) (has c.args.items.now) (has c.meet.result) c.items.ensures.bank.few c.requires c.meet.ensures
