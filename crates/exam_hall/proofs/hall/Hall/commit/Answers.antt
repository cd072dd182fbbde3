use Rattle.exam_hall.proofs.Passes.{of_turned, grown_once}
use Rattle.exam_hall.proofs.Served.{rounds_turn, only_turn}
use Rattle.exam_hall.proofs.hall.Hall.commit.Goals as goal

pub returns-clause-of : goal.returns-clause-of
returns-clause-of g c =
    let t = c.turn.ensures.turn in
    of_turned c.args.pass.now c.turn.new.pass t.0 c.args.self.now t.1 c.requires.of

pub returns-clause-rounds : goal.returns-clause-rounds
returns-clause-rounds g c =
    let t = c.turn.ensures.turn in
    rounds_turn c.args.self.now c.args.pass.now c.turn.new.pass t.0 t.1 c.requires.of c.args.assembled c.turn.result t.2

pub returns-clause-only : goal.returns-clause-only
returns-clause-only g c =
    let t = c.turn.ensures.turn in
    only_turn c.args.self.now c.args.pass.now c.turn.new.pass t.0 t.1 c.requires.of c.args.assembled c.turn.result t.2

pub returns-clause-grown : goal.returns-clause-grown
returns-clause-grown g c =
    let t = c.turn.ensures.turn in
    grown_once c.args.pass.now c.turn.new.pass t.0 t.1
