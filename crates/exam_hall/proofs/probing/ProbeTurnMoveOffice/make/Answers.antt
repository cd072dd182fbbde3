use Rattle.exam_hall.proofs.Turning.{grows_by}
use Rattle.exam_hall.proofs.Looks.{probing_made}
use Rattle.exam_hall.proofs.probing.ProbeTurnMoveOffice.make.Goals as goal

pub returns-clause-grows : goal.returns-clause-grows
returns-clause-grows g c = grows_by c.args.value.now c.look_at-found.new.office c.look_at-found.ensures.adds

pub returns-clause-makes : goal.returns-clause-makes
returns-clause-makes g c = probing_made c.args.value.now c.look_at-found.new.office c.look_at-found.result c.look_at-found.ensures c.keeps.ensures.run
