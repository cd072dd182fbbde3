use Rattle.std.proofs.Common.{arith}
use Rattle.bank_tables.specs.Items.{has}
use Rattle.constraint_model.specs.Views.{problem_of}
use Rattle.branch_bound.proofs.ExchangeLaws.{firm_where}
use Rattle.branch_bound.proofs.exchanges.better_exchange.Goals as goal

pub returns : goal.returns
returns c =
    let P = problem_of c.args.problem.now in
    let e = c.items-out-end.ensures.items in
    let past = c.loop-out-test.false in
    firm_where P (has c.args.form.now) c.requires.form (λ out within. c.loop-out.invariant out (omega arith))
