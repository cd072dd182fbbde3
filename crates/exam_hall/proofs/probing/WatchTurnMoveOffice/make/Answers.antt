use Rattle.exam_hall.proofs.Leading.{still}
use Rattle.exam_hall.proofs.Turning.{grows_by}
use Rattle.exam_hall.proofs.Looks.{watching_made}
use Rattle.exam_hall.proofs.probing.WatchTurnMoveOffice.make.Goals as goal

pub returns-clause-grows : goal.returns-clause-grows
returns-clause-grows g c = grows_by c.args.value.now c.args.value.now (still c.args.value.now)

pub returns-clause-makes : goal.returns-clause-makes
returns-clause-makes g c = watching_made c.args.value.now c.health.result c.health.ensures c.keeps.ensures.run
