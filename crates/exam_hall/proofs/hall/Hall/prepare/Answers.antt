use Rattle.std.specs.Option.{option_copied}
use Rattle.constraint_model.specs.Views.{problem_of}
use Rattle.exam_hall.proofs.Fitting.{prepared_so, fits_given}
use Rattle.exam_hall.proofs.hall.Hall.prepare.Goals as goal

pub assembled-made-requires-clause-sides : goal.assembled-made-requires-clause-sides
assembled-made-requires-clause-sides g c =
    fits_given c.args.self.now (problem_of c.args.problem.now) c.requires.bank c.requires.plan (option_copied c.args.warm) c.requires.fits

pub returns-clause-prepared : goal.returns-clause-prepared
returns-clause-prepared g c = prepared_so c.args.self.now c.args.problem.now c.requires.bank c.requires.plan c.assembled-made.result c.assembled-made.ensures.prepared
