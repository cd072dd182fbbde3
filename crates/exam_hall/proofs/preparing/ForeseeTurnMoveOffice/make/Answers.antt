use Rattle.exam_hall.proofs.Leading.{still}
use Rattle.exam_hall.proofs.Turning.{grows_by}
use Rattle.exam_hall.proofs.Foreseen.{foreseeing_made}
use Rattle.exam_hall.proofs.preparing.ForeseeTurnMoveOffice.make.Goals as goal

pub returns-clause-grows : goal.returns-clause-grows
returns-clause-grows g c = grows_by c.args.value.now c.args.value.now (still c.args.value.now)

pub returns-clause-makes : goal.returns-clause-makes
returns-clause-makes g c = foreseeing_made c.args.value.now c.args.self.now.session c.args.self.now.response c.look_ahead.result c.look_ahead.ensures c.keeps.ensures.run
