use Rattle.std.proofs.Common.{◌∙◌, sym, arith}
use Rattle.bank_tables.specs.Items.{has}
use Rattle.bank_tables.specs.Tables.{size}
use Rattle.form_model.proofs.SumLaws.{any_intro}
use Rattle.series_check.proofs.used.has_some.Goals as goal

pub returns-then-has : goal.returns-then-has
returns-then-has c = sym (any_intro (size c.args.bank.now) (has c.args.items.now) c.loop-i.i (omega (arith, c.loop-i-test.true, c.items-i-end.ensures.items)) (sym c.has.ensures ∙ c.if-has.true))
