use Rattle.std.proofs.Common.{ℕ, ◌-◌, Some, sym, subst, arith}
use Rattle.constraint_model.specs.Views.{problem_of}
use Rattle.lagrange_bound.proofs.CountingSteps.{too_many, too_few, wanted}
use Rattle.lagrange_bound.specs.Counted.{IsWanted}
use Rattle.lagrange_bound.proofs.counting.items_wanted.Goals as goal

pub returns-then-length-taken : goal.returns-then-length-taken
returns-then-length-taken c p is = too_many (problem_of c.args.problem.now) p c.args.cut.now is c.size_in-taken.result c.size_in-taken.ensures.size (omega (arith, c.length-length.ensures))

pub returns-then-taken-free : goal.returns-then-taken-free
returns-then-taken-free c p is = too_few (problem_of c.args.problem.now) p c.args.cut.now is c.size_in-taken.result c.size_in-free.result c.size_in-taken.ensures.size c.size_in-free.ensures.size (omega (arith, c.length-length.ensures))

pub returns : goal.returns
returns c p is =
    let P = problem_of c.args.problem.now in
    let wanted_now = wanted P p c.args.cut.now is c.size_in-taken.result c.size_in-free.result c.size_in-taken.ensures.size c.size_in-free.ensures.size (omega (arith, c.length-length.ensures)) (omega (arith, c.length-length.ensures)) in
    subst (λ (n : ℕ). IsWanted P p (Some (n - c.size_in-taken.result))) (sym c.length-length.ensures) wanted_now
