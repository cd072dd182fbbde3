use Rattle.std.proofs.Common.{ℕ, List, sym, subst}
use Rattle.bank_tables.specs.Items.{has}
use Rattle.bank_tables.specs.Validity.{HoldsItems}
use Rattle.exam_session.proofs.counting.available_items.Goals as goal

pub returns-else-seat-band-clause-items : goal.returns-else-seat-band-clause-items
returns-else-seat-band-clause-items c = λ items. subst (λ (words : List ℕ). HoldsItems c.args.bank.now (has words)) (sym c.eligible_set.ensures) items
