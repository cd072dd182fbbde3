use Rattle.std.proofs.Common.{rules}
use Rattle.exam_serve.proofs.stations.clear_station.Goals as goal

pub returns-clause-joined : goal.returns-clause-joined
returns-clause-joined g c = search rules
