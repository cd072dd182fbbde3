use Rattle.std.proofs.Common.{arith}
use Rattle.std.proofs.lemmas.Int.{ints}
use Rattle.bank_tables.specs.Items.{has}
use Rattle.constraint_model.specs.Views.{problem_of}
use Rattle.certificate_check.proofs.Steps.{objective_high}
use Rattle.certificate_check.proofs.leaf.closing_value.Goals as goal

pub overflow_mul-result : goal.overflow_mul-result
overflow_mul-result c = let high = objective_high (problem_of c.args.problem.now) (has c.args.items.now) c.requires.bank in omega (arith, c.objective.ensures)

pub overflow_add-result : goal.overflow_add-result
overflow_add-result c = let high = objective_high (problem_of c.args.problem.now) (has c.args.items.now) c.requires.bank in omega (arith, c.objective.ensures)

pub overflow_cast-result : goal.overflow_cast-result
overflow_cast-result c = let high = objective_high (problem_of c.args.problem.now) (has c.args.items.now) c.requires.bank in omega (arith, ints, c.objective.ensures)

pub returns : goal.returns
returns c = let high = objective_high (problem_of c.args.problem.now) (has c.args.items.now) c.requires.bank in omega (arith, ints, c.objective.ensures)
