use Rattle.std.specs.Option.{option_copied}
use Rattle.exam_office.specs.Marks.{history}
use Rattle.history_model.specs.Entries.{seat_of}
use Rattle.exam_office.specs.Noting.{marks_of}
use Rattle.constraint_model.specs.Views.{problem_of}
use Rattle.exam_office.proofs.Warmed.{fits_seat}
use Rattle.exam_hall.specs.Known.{marked}
use Rattle.exam_hall.proofs.Passes.{grown_nowhere}
use Rattle.exam_hall.proofs.Served.{rounds_nowhere}
use Rattle.exam_hall.proofs.hall.Hall.serve_once.Goals as goal

pub returns-in_default-clause-rounds : goal.returns-in_default-clause-rounds
returns-in_default-clause-rounds g c = rounds_nowhere c.args.self.now c.args.problem.now (marked c.args.pass.now) c.requires.asked c.requires.legal

-- the vector fits the problem, which is of the hall's bank and plan
pub assembled-requires-clause-sides : goal.assembled-requires-clause-sides
assembled-requires-clause-sides g c =
    let h = c.args.self.now in
    let P = c.args.problem.now in
    let H = history (marks_of c.args.pass.now.seen) in
    fits_seat h.bank h.plan P.session (seat_of H P.session) (problem_of P) c.requires.asked.is_problem.of_seat (option_copied c.args.warm) c.requires.fits

pub returns-in_default-clause-grown : goal.returns-in_default-clause-grown
returns-in_default-clause-grown g c = grown_nowhere c.args.pass.now
