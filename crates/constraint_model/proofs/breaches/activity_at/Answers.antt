use Rattle.std.proofs.Common.{ap, ◌∙◌}
use Rattle.std.proofs.Math.Path.{fun_ext}
use Rattle.bank_tables.specs.Items.{Set, has}
use Rattle.form_model.specs.Forms.{activity}
use Rattle.constraint_model.proofs.breaches.activity_at.Goals as goal

pub returns : goal.returns
returns c = c.activity.ensures ∙ ap (λ (Z : Set). activity c.args.bank.now c.args.row.now (has c.args.form.now) Z) (fun_ext c.requires.stimuli)
