use Rattle.std.proofs.Common.{ℕ, subst, ◌<◌}
use Rattle.std.specs.Prelude.{IsTrue, ◌↔◌}
use Rattle.bank_tables.specs.Items.{has}
use Rattle.constraint_model.proofs.SetLaws.{unknown_by_below}
use Rattle.constraint_model.proofs.faults.has_unknown.Goals as goal

pub returns : goal.returns
returns c =
    unknown_by_below c.args.bank.now c.args.set.now c.all_below.result
    (subst (λ (n : ℕ). IsTrue c.all_below.result ↔ ((i : ℕ) → IsTrue (has c.args.set.now i) → i < n)) c.items.ensures.items c.all_below.ensures)
