use Rattle.std.proofs.Common.{◌≡◌, length, arith, refl, subst}
use Rattle.exam_http.proofs.TokenLaws.{AreAlike, alike_more, alike_all}
use Rattle.exam_http.proofs.token.is_same.Goals as goal

pub loop-k-preserved : goal.loop-k-preserved
loop-k-preserved c =
    alike_more c.loop-k.k c.loop-k.difference _ c.args.text.now c.args.other.now (omega arith) (omega arith) refl c.loop-k.invariant

pub returns : goal.returns
returns c =
    let text = c.args.text.now in
    let other = c.args.other.now in
    let whole : c.loop-k.k ≡ length text = omega arith in
    alike_all text other c.loop-k.difference (omega arith)
    (subst (λ n. AreAlike n c.loop-k.difference text other) whole c.loop-k.invariant)
