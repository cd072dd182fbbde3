use Rattle.std.proofs.Common.{◌≡◌, ◌+◌, ◌<◌, sym, subst, arith, w64, to_z}
use Rattle.std.specs.Prelude.{ℤ, pos, ◌+ℤ◌}
use Rattle.std.proofs.lemmas.Int.{ints}
use Rattle.bank_tables.specs.Items.{Set, has}
use Rattle.bank_tables.specs.Sums.{sum_in_z}
use Rattle.bank_tables.proofs.Walks.{rest_from, all_rest, none_rest, none_rest_below, in_rest, next_rest}
use Rattle.certificate_model.specs.Ranges.{IsWithin, at}
use Rattle.certificate_check.proofs.MemberSums.{member_fits, one_summed, all_summed, same_below, sum_within}
use Rattle.certificate_check.proofs.top.sum_of.Goals as goal

none_is_none : (z w : ℤ) → z ≡ w → pos 0 +ℤ z ≡ w
none_is_none z w e = omega (arith, ints)

pub loop-item-init : goal.loop-item-init
loop-item-init c =
    let X : Set = has c.args.items.now in
    none_is_none (sum_in_z c.args.n (rest_from 0 X) (at c.args.weights.now)) (sum_in_z c.args.n X (at c.args.weights.now)) (same_below c.args.n (rest_from 0 X) X (at c.args.weights.now) (λ h w. all_rest X h))

pub loop-item-smaller : goal.loop-item-smaller
loop-item-smaller c = omega (arith, c.in-Some.ensures.item, c.in-Some.ensures.lowest.high)

pub overflow_add-sum : goal.overflow_add-sum
overflow_add-sum c =
    let i = c.in-Some.item in
    let X : Set = has c.args.items.now in
    let below : i < c.args.n = omega (arith, c.if-item-n.false) in
    member_fits c.args.n i X (rest_from c.loop-item.at X) (rest_from (i + 1) X) (at c.args.weights.now) (to_z w64 c.loop-item.sum-bits) c.requires.few c.requires.within below (in_rest c.loop-item.at i X c.in-Some.ensures.lowest) (next_rest c.loop-item.at i X c.in-Some.ensures.lowest) c.loop-item.invariant

pub loop-item-preserved : goal.loop-item-preserved
loop-item-preserved c =
    let i = c.in-Some.item in
    let X : Set = has c.args.items.now in
    let below : i < c.args.n = omega (arith, c.if-item-n.false) in
    one_summed c.args.n i X (rest_from c.loop-item.at X) (rest_from (i + 1) X) (at c.args.weights.now) (to_z w64 c.loop-item.sum-bits) c.requires.few c.requires.within below (in_rest c.loop-item.at i X c.in-Some.ensures.lowest) (next_rest c.loop-item.at i X c.in-Some.ensures.lowest) c.loop-item.invariant

pub returns-then-item-n-clause-value : goal.returns-then-item-n-clause-value
returns-then-item-n-clause-value c =
    let X : Set = has c.args.items.now in
    all_summed c.args.n X (rest_from c.loop-item.at X) (at c.args.weights.now) (to_z w64 c.loop-item.sum-bits) (none_rest_below c.loop-item.at c.in-Some.item c.args.n X (omega (arith, c.if-item-n.true)) c.in-Some.ensures.lowest) c.loop-item.invariant

pub returns-then-item-n-clause-within : goal.returns-then-item-n-clause-within
returns-then-item-n-clause-within c =
    let X : Set = has c.args.items.now in
    let all : to_z w64 c.loop-item.sum-bits ≡ sum_in_z c.args.n X (at c.args.weights.now) =
    all_summed c.args.n X (rest_from c.loop-item.at X) (at c.args.weights.now) (to_z w64 c.loop-item.sum-bits) (none_rest_below c.loop-item.at c.in-Some.item c.args.n X (omega (arith, c.if-item-n.true)) c.in-Some.ensures.lowest) c.loop-item.invariant in
    subst (IsWithin 72619566961786880) (sym all) (sum_within c.args.n X (at c.args.weights.now) c.requires.few c.requires.within)

pub returns-clause-value : goal.returns-clause-value
returns-clause-value c =
    let X : Set = has c.args.items.now in
    all_summed c.args.n X (rest_from c.loop-item.at X) (at c.args.weights.now) (to_z w64 c.loop-item.sum-bits) (λ h w. none_rest c.loop-item.at X c.in_default.ensures.lowest h) c.loop-item.invariant

pub returns-clause-within : goal.returns-clause-within
returns-clause-within c =
    let X : Set = has c.args.items.now in
    let all : to_z w64 c.loop-item.sum-bits ≡ sum_in_z c.args.n X (at c.args.weights.now) =
    all_summed c.args.n X (rest_from c.loop-item.at X) (at c.args.weights.now) (to_z w64 c.loop-item.sum-bits) (λ h w. none_rest c.loop-item.at X c.in_default.ensures.lowest h) c.loop-item.invariant in
    subst (IsWithin 72619566961786880) (sym all) (sum_within c.args.n X (at c.args.weights.now) c.requires.few c.requires.within)
