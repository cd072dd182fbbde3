use Rattle.std.proofs.Common.{◌<◌, arith}
use Rattle.bank_tables.specs.Items.{has}
use Rattle.form_model.specs.Forms.{objective}
use Rattle.constraint_model.specs.Views.{problem_of}
use Rattle.branch_bound.proofs.ExchangeLaws.{objective_small}
use Rattle.branch_bound.proofs.exchanges.firm.Goals as goal

pub loop-better-smaller : goal.loop-better-smaller
loop-better-smaller c =
    let P = problem_of c.args.problem.now in
    let greater : objective P (has c.loop-better.best) < objective P (has c.in-Some.better) = c.in-Some.ensures.greater in
    let small = objective_small P (has c.in-Some.better) c.requires.well_made.bank in
    omega arith
