use Rattle.exam_hall.proofs.Passes.{of_turned, grown_once}
use Rattle.exam_hall.proofs.Looks.{watches_turn}
use Rattle.exam_hall.proofs.hall.Hall.health.Goals as goal

pub returns-clause-watches : goal.returns-clause-watches
returns-clause-watches g c =
    let t = c.turn.ensures.turn in
    watches_turn c.args.self.now c.args.pass.now c.turn.new.pass t.0 t.1 c.requires.of c.turn.result t.2

pub returns-clause-of : goal.returns-clause-of
returns-clause-of g c =
    let t = c.turn.ensures.turn in
    of_turned c.args.pass.now c.turn.new.pass t.0 c.args.self.now t.1 c.requires.of

pub returns-clause-grown : goal.returns-clause-grown
returns-clause-grown g c =
    let t = c.turn.ensures.turn in
    grown_once c.args.pass.now c.turn.new.pass t.0 t.1
