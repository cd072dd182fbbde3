use Rattle.std.proofs.Common.{◌≡◌, ℕ, ◌+◌, ◌++◌, ◌∙◌, ap, arith, refl}
use Rattle.std.specs.Fmt.{decimal}
use Rattle.bank_maker.specs.Items.{points}
use Rattle.bank_maker.proofs.TextLaws.{step}
use Rattle.bank_maker.proofs.bank.push_names.Goals as goal

pub loop-point-preserved : goal.loop-point-preserved
loop-point-preserved c = step (λ g. c.args.letters.now ++ decimal g) 0 c.loop-point.point c.loop-point.point (c.loop-point.point + 1) c.args.out.now.items c.loop-point.out.items c.push_name.new.out.items (omega arith) refl c.loop-point.invariant
    (c.in_ok-push_name.ensures ∙ ap (λ (n : ℕ). c.loop-point.out.items ++ (c.args.letters.now ++ decimal n)) c.from.ensures)

pub returns : goal.returns
unfolding points
returns c = let e : c.loop-point.point ≡ 11 = omega arith in rw e at c.loop-point.invariant
