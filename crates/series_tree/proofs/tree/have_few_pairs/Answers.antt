use Rattle.std.proofs.Common.{arith}
use Rattle.std.proofs.lemmas.Grind.{common_steps}
use Rattle.series_tree.proofs.tree.have_few_pairs.Goals as goal

pub returns-then-room-pairs : goal.returns-then-room-pairs
returns-then-room-pairs c = grind (arith, common_steps)

pub loop-vector-preserved : goal.loop-vector-preserved
loop-vector-preserved c = grind (arith, common_steps)

pub returns : goal.returns
returns c = grind (arith, common_steps)
