use Rattle.std.proofs.Common.{◌≡◌, sym, subst}
use Rattle.constraint_model.specs.Views.{problem_of}
use Rattle.certificate_model.specs.ProofTrees.{ProofTree}
use Rattle.proof_tree.specs.Shape.{IsTree}
use Rattle.branch_bound.specs.declared.outcome.Outcome.TheVariants.{NoneFound}
use Rattle.exam_program.specs.Bases.{ShowsNoBase}
use Rattle.exam_program.proofs.BaseLaws.{shows_no_base}
use Rattle.exam_program.proofs.base.found_form.Goals as goal

pub returns-in-NoneFound-clause-halts : goal.returns-in-NoneFound-clause-halts
returns-in-NoneFound-clause-halts c =
    let b = c.args.bank.now in
    let p = c.args.spec.now in
    let a = c.in_ok-assembled.assembled in
    let none : a.outcome ≡ NoneFound = sym c.in-NoneFound.ensures.outcome in
    let tree : IsTree a.tree = subst (λ (T : ProofTree). IsTree T) c.tree.ensures c.nodes-nodes.ensures.tree in
    let shows : ShowsNoBase b p a.tree = shows_no_base b p (problem_of a.problem) a.tree a.outcome c.requires.plan c.in_ok-assembled.ensures none tree in
    (c.base_budget.ensures, subst (λ (T : ProofTree). ShowsNoBase b p T) (sym c.into_tree-in-NoneFound.ensures) shows)
