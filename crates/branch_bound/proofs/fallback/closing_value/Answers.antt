use Rattle.std.proofs.Common.{arith}
use Rattle.std.proofs.lemmas.Int.{ints}
use Rattle.bank_tables.specs.Items.{has}
use Rattle.constraint_model.specs.Views.{problem_of}
use Rattle.branch_bound.proofs.ExchangeLaws.{objective_small}
use Rattle.branch_bound.proofs.fallback.closing_value.Goals as goal

pub overflow_cast-result : goal.overflow_cast-result
overflow_cast-result c = let small = objective_small (problem_of c.args.problem.now) (has c.args.form.now) c.requires.bank in omega (arith, ints)

pub overflow_mul-result : goal.overflow_mul-result
overflow_mul-result c = let small = objective_small (problem_of c.args.problem.now) (has c.args.form.now) c.requires.bank in omega (arith, ints)

pub returns : goal.returns
returns c = let small = objective_small (problem_of c.args.problem.now) (has c.args.form.now) c.requires.bank in omega (arith, ints)
