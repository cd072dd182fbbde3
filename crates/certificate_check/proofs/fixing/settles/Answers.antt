use Rattle.std.proofs.Common.{sym, ap, ◌∙◌, Bool, ◌||◌, suc}
use Rattle.bank_tables.specs.Items.{has}
use Rattle.bank_tables.specs.Sums.{any_below}
use Rattle.bank_tables.specs.Tables.{size}
use Rattle.form_model.specs.Forms.{stimuli_of}
use Rattle.certificate_check.proofs.FixSteps.{any_item}
use Rattle.certificate_check.proofs.fixing.settles.Goals as goal

pub returns-then-has_members : goal.returns-then-has_members
returns-then-has_members c =
    let same = any_item (size c.args.bank.now) (has c.union-items.result) (has c.args.fixed.now.out) (has c.args.fixed.now.taken) c.union-items.ensures in
    sym (ap (λ (b : Bool). b || any_below (stimuli_of c.args.bank.now) (λ k. has c.args.fixed.now.branched_on (suc k))) (sym same ∙ sym c.has_members.ensures ∙ c.if-has_members.true))

pub returns : goal.returns
returns c =
    let same = any_item (size c.args.bank.now) (has c.union-items.result) (has c.args.fixed.now.out) (has c.args.fixed.now.taken) c.union-items.ensures in
    c.has_stimuli.ensures ∙ sym (ap (λ (b : Bool). b || any_below (stimuli_of c.args.bank.now) (λ k. has c.args.fixed.now.branched_on (suc k))) (sym same ∙ sym c.has_members.ensures ∙ c.if-has_members.false))
