use Rattle.std.proofs.Common.{◌≡◌, ◌+◌, ◌*◌, ◌<◌, ◌≤◌, ℕ, arith, subst}
use Rattle.certificate_check.specs.Tops.{IsBest}
use Rattle.certificate_check.proofs.TopLaws.{next_from}
use Rattle.certificate_check.proofs.top.first_leader.Goals as goal

pub loop-block-preserved : goal.loop-block-preserved
loop-block-preserved c =
    let block = c.loop-block.block in
    let few : block < 32 = omega (arith, c.loop-block-test.true, c.div_ceil-block-end.ensures, c.requires.few) in
    let next : 16 * block + 16 ≡ 16 * (block + 1) = omega arith in
    record {
      item = c.heavier-best.ensures.item;
      best = λ F T leaders. subst (λ (m : ℕ). IsBest 0 m c.args.n c.args.weights.now F T c.heavier-best.result) next (c.heavier-best.ensures.best 0 (16 * block) (16 * block + 16) c.args.n F T (omega arith) (omega arith) (c.loop-block.invariant.best F T leaders) (leaders.best block few));
    }

pub returns-clause-best : goal.returns-clause-best
returns-clause-best c =
    let block = c.loop-block.block in
    let all : c.args.n ≤ 16 * block = omega (arith, c.loop-block.auto.block-end, c.loop-block-test.false, c.div_ceil-block-end.ensures) in
    λ F T leaders. next_from c.args.n (16 * block) c.args.weights.now F T c.loop-block.best all (c.loop-block.invariant.best F T leaders)
