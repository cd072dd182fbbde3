use Rattle.std.proofs.Common.{◌≡◌, ◌+◌, ◌++◌, ◌∷◌, ◌∙◌, ℕ, List, ap, sym, arith, refl}
use Rattle.std.specs.Fmt.{decimal, signed_decimal}
use Rattle.bank_maker.specs.Items.{right, right_loss, points}
use Rattle.bank_maker.proofs.TextLaws.{step, below_zero}
use Rattle.bank_maker.proofs.bank.push_right.Goals as goal

pub loop-point-preserved : goal.loop-point-preserved
loop-point-preserved c = step (λ g. 44 ∷ signed_decimal (right c.args.item.now g)) 0 c.loop-point.point c.loop-point.point (c.loop-point.point + 1) c.args.out.now.items c.loop-point.out.items c.push_loss.new.out.items (omega arith) refl c.loop-point.invariant
    (c.in_ok-push_loss.ensures ∙ (ap (λ (n : ℕ). c.loop-point.out.items ++ 44 ∷ 45 ∷ decimal n) c.right_loss.ensures
    ∙ ap (λ (text : List ℕ). c.loop-point.out.items ++ 44 ∷ text) (sym (below_zero (right_loss c.args.item.now c.loop-point.point) (omega arith)))))

pub returns : goal.returns
unfolding points
returns c = let e : c.loop-point.point ≡ 11 = omega arith in rw e at c.loop-point.invariant
