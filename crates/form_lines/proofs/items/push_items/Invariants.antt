use Rattle.std.proofs.Common.{◌≡◌, ◌++◌}
use Rattle.bank_tables.specs.Items.{has}
use Rattle.form_lines.specs.Texts.{items_text}
use Rattle.form_lines.proofs.items.push_items.Given as goal

abbrev pub invariant-loop-item : goal.invariant-loop-item
invariant-loop-item l = l.out.items ≡ l.fn.out.items ++ items_text l.item (has l.form)
