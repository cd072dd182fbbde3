use Rattle.std.specs.Option.{option_map}
use Rattle.bank_tables.specs.Items.{has}
use Rattle.constraint_model.specs.Views.{problem_of}
use Rattle.branch_bound.proofs.LeafLaws.{count_ends, goes_on, length_possible}
use Rattle.branch_bound.proofs.fallback.leaf.Goals as goal

pub returns-in-Some : goal.returns-in-Some
returns-in-Some c = λ p is. count_ends (problem_of c.args.problem.now) p (option_map has c.args.best.now) c.in-Some.row c.requires.well_made c.requires.form (c.in-Some.ensures p is)

pub closes-requires-clause-possible : goal.closes-requires-clause-possible
closes-requires-clause-possible c = λ p is. length_possible (problem_of c.args.problem.now) p (c.in_default.ensures p is)

pub returns : goal.returns
returns c = λ p is. goes_on (problem_of c.args.problem.now) p (option_map has c.args.best.now) c.requires.start (c.closes.ensures.not_closed p is c.if-closes.false) (c.in_default.ensures p is) (c.in_default-only_candidate.ensures p is)
