use Rattle.std.proofs.Common.{◌&&◌, ◌==◌, sym}
use Rattle.std.proofs.lemmas.Bool.{and_from, eq-eqb}
use Rattle.bank_tables.specs.Items.{has}
use Rattle.bank_tables.specs.Tables.{size, stimulus}
use Rattle.form_model.proofs.SumLaws.{any_intro}
use Rattle.std.proofs.Common.{◌<◌, arith, ◌∙◌}
use Rattle.lagrange_bound.proofs.members.has_one_of.Goals as goal

pub returns-then-stimulus-which : goal.returns-then-stimulus-which
returns-then-stimulus-which c =
    let within : c.loop-i.i < size c.args.bank.now = omega (arith, c.items-i-end.ensures.items) in
    sym (any_intro (size c.args.bank.now) (λ i. has c.args.items.now i && stimulus c.args.bank.now i == c.args.which) c.loop-i.i within (and_from _ _ (sym c.has.ensures ∙ c.if-has.true) (eq-eqb _ _ (sym c.stimulus.ensures ∙ c.if-stimulus-which.true))))
