use Rattle.std.proofs.Common.{arith}
use Rattle.std.proofs.lemmas.Grind.{common_steps}
use Rattle.exam_serve.proofs.stations.make_stations.Goals as goal

pub loop-preserved : goal.loop-preserved
loop-preserved g c = grind (arith, common_steps)

pub returns-clause-doors : goal.returns-clause-doors
returns-clause-doors g c = grind (arith, common_steps)

pub returns-clause-none : goal.returns-clause-none
returns-clause-none g c = grind (arith, common_steps)
