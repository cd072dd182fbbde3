use Rattle.exam_hall.proofs.Looks.{probed_so}
use Rattle.exam_hall.proofs.probing.look_at.Goals as goal

pub returns : goal.returns
returns g c = probed_so c.args.office.now c.probe.new.self c.probe.result c.keeps.ensures.doubt c.probe.ensures.probed
