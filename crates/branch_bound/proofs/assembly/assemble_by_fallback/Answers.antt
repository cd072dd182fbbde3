use Rattle.std.proofs.Common.{arith}
use Rattle.std.proofs.lemmas.Grind.{common_steps}
use Rattle.constraint_model.specs.Views.{problem_of}
use Rattle.branch_bound.proofs.OutcomeLaws.{shown_is_true, shown_is_decided}
use Rattle.branch_bound.proofs.assembly.assemble_by_fallback.Goals as goal

pub returns-clause-is_true : goal.returns-clause-is_true
returns-clause-is_true c =
    let made = c.in_ok-made.made in
    let is = c.in_ok-made.ensures in
    shown_is_true (problem_of c.args.problem) made.tree c.args.budget made.outcome is.shown is.firm

pub returns-clause-decided : goal.returns-clause-decided
returns-clause-decided c =
    let made = c.in_ok-made.made in
    shown_is_decided (problem_of c.args.problem) made.tree c.args.budget made.outcome c.in_ok-made.ensures.shown

pub returns-clause-assembly : goal.returns-clause-assembly
returns-clause-assembly c = grind (arith, common_steps) steps 1500000

pub invariant_of-result : goal.invariant_of-result
invariant_of-result c = grind (arith, common_steps) steps 1500000
