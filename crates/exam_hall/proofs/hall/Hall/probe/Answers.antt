use Rattle.exam_hall.specs.Known.{marked}
use Rattle.exam_hall.proofs.Passes.{of_turned, grown_once}
use Rattle.exam_hall.proofs.Looks.{probes_turn, refused_so}
use Rattle.exam_hall.proofs.hall.Hall.probe.Goals as goal

pub returns-clause-probes : goal.returns-clause-probes
returns-clause-probes g c =
    let t = c.turn.ensures.turn in
    probes_turn c.args.self.now c.args.pass.now c.turn.new.pass t.0 t.1 c.requires.of c.turn.result t.2

pub returns-clause-of : goal.returns-clause-of
returns-clause-of g c =
    let t = c.turn.ensures.turn in
    of_turned c.args.pass.now c.turn.new.pass t.0 c.args.self.now t.1 c.requires.of

pub returns-clause-refusal : goal.returns-clause-refusal
returns-clause-refusal g c =
    let t = c.turn.ensures.turn in
    refused_so c.args.self.now (marked c.args.pass.now) (marked c.turn.new.pass) c.turn.result
    (probes_turn c.args.self.now c.args.pass.now c.turn.new.pass t.0 t.1 c.requires.of c.turn.result t.2)

pub returns-clause-grown : goal.returns-clause-grown
returns-clause-grown g c =
    let t = c.turn.ensures.turn in
    grown_once c.args.pass.now c.turn.new.pass t.0 t.1
