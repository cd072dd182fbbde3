use Rattle.exam_hall.specs.declared.committing.Round.TheVariants.{Placed, Failed}
use Rattle.exam_hall.specs.Known.{marked}
use Rattle.exam_hall.proofs.Passes.{grown_through}
use Rattle.exam_hall.proofs.Served.{once_done, once_failed, twice_done, twice_failed, never_thrice}
use Rattle.exam_hall.proofs.Used.{once_used, twice_used, once_step, twice_step}
use Rattle.exam_hall.proofs.hall.Hall.assemble_twice.Goals as goal

pub unreachable-requires : goal.unreachable-requires
unreachable-requires g c =
    never_thrice c.args.self.now c.args.problem.now (marked c.args.pass.now) c.requires.asked c.requires.legal c.in-Again.next (marked c.serve_first.new.pass) (marked c.serve_once.new.pass)
    c.in-Again.ensures.rounds c.in-Again-serve_once.field-0 c.in-Again-serve_once.ensures.rounds

pub returns-in-Placed-clause-assembles : goal.returns-in-Placed-clause-assembles
returns-in-Placed-clause-assembles g c =
    once_done c.args.self.now c.args.problem.now (marked c.args.pass.now) c.requires.asked c.requires.legal (marked c.serve_first.new.pass) c.in-Placed.place c.in-Placed.ensures.rounds

pub returns-in-Failed-clause-assembles : goal.returns-in-Failed-clause-assembles
returns-in-Failed-clause-assembles g c =
    once_failed c.args.self.now c.args.problem.now (marked c.args.pass.now) c.requires.asked c.requires.legal (marked c.serve_first.new.pass) c.in-Failed.refusal c.in-Failed.ensures.rounds

pub returns-in-Placed-serve_once-clause-assembles : goal.returns-in-Placed-serve_once-clause-assembles
returns-in-Placed-serve_once-clause-assembles g c =
    twice_done c.args.self.now c.args.problem.now (marked c.args.pass.now) c.requires.asked c.requires.legal c.in-Again.next (marked c.serve_first.new.pass) (marked c.serve_once.new.pass)
    c.in-Again.ensures.rounds c.in-Placed-serve_once.place c.in-Placed-serve_once.ensures.rounds

pub returns-in-Failed-serve_once-clause-assembles : goal.returns-in-Failed-serve_once-clause-assembles
returns-in-Failed-serve_once-clause-assembles g c =
    twice_failed c.args.self.now c.args.problem.now (marked c.args.pass.now) c.requires.asked c.requires.legal c.in-Again.next (marked c.serve_first.new.pass) (marked c.serve_once.new.pass)
    c.in-Again.ensures.rounds c.in-Failed-serve_once.refusal c.in-Failed-serve_once.ensures.rounds

pub returns-in-Placed-serve_once-clause-grown : goal.returns-in-Placed-serve_once-clause-grown
returns-in-Placed-serve_once-clause-grown g c =
    grown_through c.args.pass.now c.serve_first.new.pass c.serve_once.new.pass c.in-Again.ensures.grown c.in-Placed-serve_once.ensures.grown

pub returns-in-Failed-serve_once-clause-grown : goal.returns-in-Failed-serve_once-clause-grown
returns-in-Failed-serve_once-clause-grown g c =
    grown_through c.args.pass.now c.serve_first.new.pass c.serve_once.new.pass c.in-Again.ensures.grown c.in-Failed-serve_once.ensures.grown

pub returns-in-Placed-clause-of_step : goal.returns-in-Placed-clause-of_step
returns-in-Placed-clause-of_step g c = once_step c.args.self.now c.args.problem.now (marked c.args.pass.now) (marked c.serve_first.new.pass) (Placed c.in-Placed.place) c.in-Placed.ensures.rounds

pub returns-in-Placed-clause-used : goal.returns-in-Placed-clause-used
returns-in-Placed-clause-used g c = once_used c.args.problem.now.session (marked c.args.pass.now) (marked c.serve_first.new.pass) c.args.prepared c.in-Placed.ensures.used

pub returns-in-Failed-clause-of_step : goal.returns-in-Failed-clause-of_step
returns-in-Failed-clause-of_step g c = once_step c.args.self.now c.args.problem.now (marked c.args.pass.now) (marked c.serve_first.new.pass) (Failed c.in-Failed.refusal) c.in-Failed.ensures.rounds

pub returns-in-Failed-clause-used : goal.returns-in-Failed-clause-used
returns-in-Failed-clause-used g c = once_used c.args.problem.now.session (marked c.args.pass.now) (marked c.serve_first.new.pass) c.args.prepared c.in-Failed.ensures.used

pub returns-in-Placed-serve_once-clause-of_step : goal.returns-in-Placed-serve_once-clause-of_step
returns-in-Placed-serve_once-clause-of_step g c =
    twice_step c.args.self.now c.args.problem.now c.in-Again.next (marked c.args.pass.now) (marked c.serve_first.new.pass) (marked c.serve_once.new.pass) (Placed c.in-Placed-serve_once.place) c.in-Again.ensures.rounds c.in-Placed-serve_once.ensures.rounds

pub returns-in-Placed-serve_once-clause-used : goal.returns-in-Placed-serve_once-clause-used
returns-in-Placed-serve_once-clause-used g c =
    let q = c.in-Placed-serve_once.ensures.rounds in
    twice_used c.args.self.now c.args.problem.now c.in-Again.next (marked c.args.pass.now) (marked c.serve_first.new.pass) (marked c.serve_once.new.pass) c.requires.asked c.in-Again.ensures.rounds q.fronts q.places q.went c.args.prepared c.in-Again.ensures.used

pub returns-in-Failed-serve_once-clause-of_step : goal.returns-in-Failed-serve_once-clause-of_step
returns-in-Failed-serve_once-clause-of_step g c =
    twice_step c.args.self.now c.args.problem.now c.in-Again.next (marked c.args.pass.now) (marked c.serve_first.new.pass) (marked c.serve_once.new.pass) (Failed c.in-Failed-serve_once.refusal) c.in-Again.ensures.rounds c.in-Failed-serve_once.ensures.rounds

pub returns-in-Failed-serve_once-clause-used : goal.returns-in-Failed-serve_once-clause-used
returns-in-Failed-serve_once-clause-used g c =
    let q = c.in-Failed-serve_once.ensures.rounds in
    twice_used c.args.self.now c.args.problem.now c.in-Again.next (marked c.args.pass.now) (marked c.serve_first.new.pass) (marked c.serve_once.new.pass) c.requires.asked c.in-Again.ensures.rounds q.fronts q.places q.went c.args.prepared c.in-Again.ensures.used
