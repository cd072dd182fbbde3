use Rattle.std.proofs.Common.{◌≡◌, Bool, true, false, not, ◌&&◌, ◌||◌, ◌∙◌, refl, sym, ap, arith}
use mathlib.Core.Bool.{beq}
use Rattle.std.proofs.Math.Bool.{true≢false}
use Rattle.bank_tables.specs.Items.{has, Set}
use Rattle.bank_tables.specs.Tables.{size}
use Rattle.form_model.proofs.SumLaws.{any_intro}
use Rattle.series_check.proofs.twins.same_items.Goals as goal

differ : (a b : Bool) → (a ≡ b → ⊥) → ((a && not b) || (not a && b)) ≡ true
differ true true ne = absurd (ne refl)
differ true false ne = refl
differ false true ne = refl
differ false false ne = absurd (ne refl)

same_beq : (a b : Bool) → not (beq a b) ≡ true → a ≡ b → ⊥
same_beq true true h e = true≢false (sym h)
same_beq true false h e = true≢false e
same_beq false true h e = true≢false (sym e)
same_beq false false h e = true≢false (sym h)

pub returns-then-has : goal.returns-then-has
returns-then-has c =
    let n = size c.args.bank.now in
    let X : Set = has c.args.first.now in
    let Y : Set = has c.args.second.now in
    let i = c.loop-i.i in
    let ne : X i ≡ Y i → ⊥ = λ e. same_beq c.has.result c.has-in-loop-i.result c.if-has.true (c.has.ensures ∙ e ∙ sym c.has-in-loop-i.ensures) in
    sym (ap not (any_intro n (λ j. (X j && not (Y j)) || (not (X j) && Y j)) i (omega (arith, c.loop-i-test.true, c.items-i-end.ensures.items)) (differ (X i) (Y i) ne)))
