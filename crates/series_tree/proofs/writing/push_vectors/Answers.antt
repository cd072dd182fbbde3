use Rattle.std.proofs.Common.{arith}
use Rattle.std.proofs.lemmas.Grind.{common_steps}
use Rattle.series_tree.proofs.writing.push_vectors.Goals as goal

pub loop-vector-preserved : goal.loop-vector-preserved
loop-vector-preserved c = grind (arith, common_steps)

pub returns : goal.returns
returns c = grind (arith, common_steps)
