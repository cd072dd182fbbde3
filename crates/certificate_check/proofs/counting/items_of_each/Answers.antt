use Rattle.std.proofs.Common.{◌≡◌, ◌+◌, ◌<◌, ◌≤◌, ◌==◌, ℕ, Bool, true, false, cond, length, get_or, arith, refl, ap, ◌∙◌, sym, subst, add-one}
use Rattle.std.proofs.lemmas.List.{length-set}
use Rattle.bank_tables.specs.Items.{has, Set}
use Rattle.bank_tables.specs.Tables.{stimulus}
use Rattle.certificate_check.proofs.Tallies.{none_yet, count_few, tallied}
use Rattle.certificate_check.proofs.counting.items_of_each.Goals as goal

one : (b : Bool) → mir.Val.bool_byte b ≤ 1
one true = omega arith
one false = omega arith

byte : (b : Bool) → mir.Val.bool_byte b ≡ cond b 1 0
byte true = refl
byte false = refl

pub loop-i-init : goal.loop-i-init
loop-i-init c = record { number = refl; counted = λ s w. none_yet 65 s }

pub overflow_add-counts : goal.overflow_add-counts
overflow_add-counts c =
    let b = c.args.bank.now in
    let number = c.stimulus.result in
    let i = c.loop-i.i in
    let w : number < 65 = omega (arith, c.stimulus.ensures, c.items-i-end.ensures.bank.stimulus_high c.loop-i.i, c.loop-i.invariant.number) in
    let few : get_or c.loop-i.counts number 0 ≤ i = subst (λ (n : ℕ). n ≤ i) (sym (c.loop-i.invariant.counted number w)) (count_few i (has c.args.items.now) (λ j. stimulus b j == number)) in
    omega (arith, one c.has.result, c.items-i-end.ensures.bank.few)

pub loop-i-preserved : goal.loop-i-preserved
loop-i-preserved c =
    let b = c.args.bank.now in
    let X : Set = has c.args.items.now in
    let at = c.stimulus.result in
    let i = c.loop-i.i in
    let new : ℕ = get_or c.loop-i.counts at 0 + mir.Val.bool_byte c.has.result in
    let number : at ≡ stimulus b i = c.stimulus.ensures in
    let within : at < length c.loop-i.counts = omega (arith, c.stimulus.ensures, c.items-i-end.ensures.bank.stimulus_high c.loop-i.i, c.loop-i.invariant.number) in
    record {
      number = length-set c.loop-i.counts at new ∙ c.loop-i.invariant.number;
      counted = λ s w. rw add-one (tallied c.loop-i.counts (stimulus b) X i at new number within (ap (λ (n : ℕ). get_or c.loop-i.counts at 0 + n) (byte c.has.result ∙ ap (λ (x : Bool). cond x 1 0) c.has.ensures)) c.loop-i.invariant.counted s w);
    }
