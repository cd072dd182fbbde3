use Rattle.std.proofs.Common.{◌+◌, ◌*◌, ◌<◌, ℕ, length, arith, ◌∙◌}
use Rattle.std.specs.Prelude.{Option}
use Rattle.std.proofs.lemmas.List.{length-set}
use Rattle.bank_tables.specs.Items.{has}
use Rattle.certificate_check.specs.Tops.{IsBest}
use Rattle.certificate_check.proofs.TopLaws.{leader_written}
use Rattle.certificate_check.proofs.top.leaders_of.Goals as goal

pub loop-block-preserved : goal.loop-block-preserved
loop-block-preserved c =
    let within : c.loop-block.block < length c.loop-block.leaders = omega (arith, c.loop-block.invariant.0) in (
      length-set c.loop-block.leaders c.loop-block.block c.leader.result ∙ c.loop-block.invariant.0,
      leader_written (λ b (o : Option ℕ). IsBest (16 * b) (16 * b + 16) c.args.n c.args.weights.now (has c.args.free.now) (has c.args.taken.now) o) c.loop-block.leaders c.loop-block.block c.leader.result within c.loop-block.invariant.1 c.leader.ensures,
    )
