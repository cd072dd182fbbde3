use Rattle.exam_hall.proofs.Passes.{grown_once}
use Rattle.exam_hall.proofs.Seen.{begun_turn}
use Rattle.exam_hall.proofs.hall.Hall.begin.Goals as goal

pub returns-clause-begun : goal.returns-clause-begun
returns-clause-begun g c =
    let t = c.turn.ensures.turn in
    begun_turn c.args.self.now c.args.pass.now c.turn.new.pass t.0 t.1 c.requires.of c.args.request.now c.turn.result t.2

pub returns-clause-grown : goal.returns-clause-grown
returns-clause-grown g c =
    let t = c.turn.ensures.turn in
    grown_once c.args.pass.now c.turn.new.pass t.0 t.1
