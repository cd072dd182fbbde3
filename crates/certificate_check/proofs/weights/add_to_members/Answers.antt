use Rattle.std.proofs.Common.{◌≡◌, ◌+◌, ◌<◌, true, false, length, arith, rules}
use Rattle.std.specs.Prelude.{pos, ◌-ℤ◌}
use Rattle.std.proofs.lemmas.Bool.{false_from_ne_true}
use Rattle.bank_tables.specs.Items.{Set, has}
use Rattle.bank_tables.specs.Tables.{size}
use Rattle.certificate_model.specs.Ranges.{at}
use Rattle.bank_tables.proofs.Walks.{rest_from, all_rest, none_rest, in_rest, next_rest}
use Rattle.certificate_check.proofs.RowShares.{none_has, one_member, kept_outside}
use Rattle.certificate_check.proofs.weights.add_to_members.Goals as goal

pub loop-item-init : goal.loop-item-init
loop-item-init c = none_has (pos c.args.low -ℤ pos c.args.high) (has c.args.set.now) (rest_from 0 (has c.args.set.now)) c.args.weights.now (all_rest (has c.args.set.now))

pub loop-item-smaller : goal.loop-item-smaller
loop-item-smaller c = omega (arith, c.in-Some.ensures.item, c.in-Some.ensures.lowest.high)

pub loop-item-preserved : goal.loop-item-preserved
loop-item-preserved c =
    let i = c.in-Some.item in
    let X : Set = has c.args.set.now in
    let below : i < size c.args.bank.now = c.requires.set i c.in-Some.ensures.lowest.member in
    let within : i < length c.loop-item.weights = omega (arith, c.requires.room, c.loop-item.auto.weights) in
    one_member (pos c.args.low -ℤ pos c.args.high) c.net_of.result X (rest_from c.loop-item.at X) (rest_from (i + 1) X) c.args.weights.now c.loop-item.weights i c.net_of.ensures.value c.net_of.ensures.within within (c.requires.within i below) (in_rest c.loop-item.at i X c.in-Some.ensures.lowest) (next_rest c.loop-item.at i X c.in-Some.ensures.lowest) c.loop-item.invariant

pub returns-clause-added : goal.returns-clause-added
returns-clause-added c i w = c.loop-item.invariant.done i (none_rest c.loop-item.at (has c.args.set.now) c.in_default.ensures.lowest i)

pub returns-clause-rest : goal.returns-clause-rest
returns-clause-rest c i past =
    let X : Set = has c.args.set.now in
    let outside : X i ≡ false = false_from_ne_true (X i) (λ (member : X i ≡ true). let below : i < size c.args.bank.now = c.requires.set i member in absurd (omega arith)) in
    kept_outside (pos c.args.low -ℤ pos c.args.high) (X i) (at c.args.weights.now i) (at c.loop-item.weights i) outside (c.loop-item.invariant.done i (none_rest c.loop-item.at X c.in_default.ensures.lowest i))

pub overflow_add-weights : goal.overflow_add-weights
overflow_add-weights c = search rules
