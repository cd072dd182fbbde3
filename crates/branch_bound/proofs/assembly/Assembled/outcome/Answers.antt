use Rattle.std.proofs.Common.{subst}
use Rattle.constraint_model.specs.Views.{problem_of}
use Rattle.branch_bound.specs.Assembled.{Assembly}
use Rattle.branch_bound.specs.Assemblies.{IsTrueOutcome}
use Rattle.branch_bound.proofs.OutcomeLaws.{shown_is_true}
use Rattle.branch_bound.proofs.assembly.Assembled.outcome.Goals as goal

pub returns-clause-is_true : goal.returns-clause-is_true
returns-clause-is_true c =
    let a = c.self.inside in
    subst (λ (v : Assembly). IsTrueOutcome (problem_of v.problem) a.outcome) c.self.view_is (shown_is_true (problem_of a.problem) a.tree a.budget a.outcome c.self.invariant.shown c.self.invariant.firm)
