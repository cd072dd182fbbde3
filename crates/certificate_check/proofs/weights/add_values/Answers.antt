use Rattle.std.proofs.Common.{◌≡◌, ◌<◌, ℕ, length, get_or, arith, cond, ap, ◌∙◌, rules}
use Rattle.std.specs.Prelude.{ℤ, pos, ◌-ℤ◌, ◌*ℤ◌}
use Rattle.bank_tables.specs.Items.{has}
use Rattle.certificate_check.proofs.RowShares.{none_added, one_more}
use Rattle.certificate_check.proofs.weights.add_values.Goals as goal

pub loop-i-init : goal.loop-i-init
loop-i-init c = none_added (λ h. (pos c.args.low -ℤ pos c.args.high) *ℤ pos (cond (has c.args.set.now h) (get_or c.args.values.now h 0) 0)) c.args.weights.now

pub loop-i-preserved : goal.loop-i-preserved
loop-i-preserved c =
    let i = c.loop-i.i in
    let net : ℤ = pos c.args.low -ℤ pos c.args.high in
    let within : i < length c.loop-i.weights = omega (arith, c.requires.room) in
    let term : c.scaled.result ≡ net *ℤ pos (cond (has c.args.set.now i) (get_or c.args.values.now i 0) 0) = c.scaled.ensures.value ∙ ap (λ (m : ℕ). net *ℤ pos m) c.value_in.ensures.part in
    one_more (λ h. net *ℤ pos (cond (has c.args.set.now h) (get_or c.args.values.now h 0) 0)) c.args.weights.now c.loop-i.weights i c.scaled.result within (c.requires.within i (omega arith)) c.scaled.ensures.within term c.loop-i.invariant

pub overflow_add-weights : goal.overflow_add-weights
overflow_add-weights c = search rules

pub returns-clause-added : goal.returns-clause-added
returns-clause-added c = search rules

pub returns-clause-rest : goal.returns-clause-rest
returns-clause-rest c i past = c.loop-i.invariant.rest i (omega arith)
