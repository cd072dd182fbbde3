use Rattle.std.proofs.Common.{rules}
use Rattle.constraint_model.proofs.counts.stimuli_used.Goals as goal

pub loop-i-preserved : goal.loop-i-preserved
loop-i-preserved c = search rules
