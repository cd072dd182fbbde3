use Rattle.bank_tables.specs.Items.{has}
use Rattle.constraint_model.specs.Views.{problem_of}
use Rattle.shadow_select.proofs.NextLaws.{none_is_wrong, last_in_bank}
use Rattle.shadow_select.proofs.serving.next_item.Goals as goal

pub last_stimulus-last-requires : goal.last_stimulus-last-requires
last_stimulus-last-requires c = last_in_bank (problem_of c.args.problem.now) c.requires.well_made

pub unreachable-requires : goal.unreachable-requires
unreachable-requires c = none_is_wrong (problem_of c.args.problem.now) (has c.args.form.now) c.requires.form c.requires.free c.in-None.ensures
