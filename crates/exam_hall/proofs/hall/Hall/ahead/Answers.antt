use Rattle.exam_hall.proofs.Passes.{of_turned, grown_once}
use Rattle.exam_hall.proofs.Foreseen.{foresees_turn}
use Rattle.exam_hall.proofs.hall.Hall.ahead.Goals as goal

pub returns-clause-foresees : goal.returns-clause-foresees
returns-clause-foresees g c =
    let t = c.turn.ensures.turn in
    foresees_turn c.args.self.now c.args.session c.args.response c.args.pass.now c.turn.new.pass t.0 t.1 c.requires.of c.turn.result t.2

pub returns-clause-of : goal.returns-clause-of
returns-clause-of g c =
    let t = c.turn.ensures.turn in
    of_turned c.args.pass.now c.turn.new.pass t.0 c.args.self.now t.1 c.requires.of

pub returns-clause-grown : goal.returns-clause-grown
returns-clause-grown g c =
    let t = c.turn.ensures.turn in
    grown_once c.args.pass.now c.turn.new.pass t.0 t.1
