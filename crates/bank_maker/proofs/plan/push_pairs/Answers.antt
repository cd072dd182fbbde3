use Rattle.std.proofs.Common.{◌+◌, arith, refl}
use Rattle.spec_reader.specs.Canonical.{line_text}
use Rattle.bank_maker.specs.Plans.{pair}
use Rattle.bank_maker.proofs.TextLaws.{step}
use Rattle.bank_maker.proofs.plan.push_pairs.Goals as goal

pub loop-k-preserved : goal.loop-k-preserved
loop-k-preserved c = step (λ k. line_text (pair k)) 0 c.loop-k.k c.loop-k.k (c.loop-k.k + 1) c.args.out.now.items c.loop-k.out.items c.push_pair.new.out.items (omega arith) refl c.loop-k.invariant c.in_ok-push_pair.ensures
