use Rattle.std.proofs.Common.{◌≡◌, suc, ◌+◌, ◌<◌, true, false, ◌∷◌, length, drop, get_or, refl, sym, ◌∙◌, arith}
use Rattle.std.proofs.Math.Bool.{true≢false}
use Rattle.certificate_model.specs.declared.node.Node.{Node}
use Rattle.certificate_model.specs.declared.node.Node.TheVariants.{BranchItem}
use Rattle.certificate_model.specs.ProofTrees.{AreTrees}
use Rattle.constraint_model.specs.Views.{problem_of}
use Rattle.certificate_check.proofs.WalkSteps.{read_here, begins_within}
use Rattle.branch_bound.specs.Searches.{side_of}
use Rattle.branch_bound.proofs.LeafLaws.{two_sides}
use Rattle.branch_bound.proofs.PruneLaws.{count_where, branch_makes, leaf_prunes, branch_pruning}
use Rattle.branch_bound.proofs.pruning.+pruned_to.Goals as goal

pub side-left-requires-clause-branch : goal.side-left-requires-clause-branch
side-left-requires-clause-branch t c = λ p is. (c.is_branch_on.ensures p is).0 c.if-not-is_branch_on.false

pub side-right-requires-clause-branch : goal.side-right-requires-clause-branch
side-right-requires-clause-branch t c = λ p is. (c.is_branch_on.ensures p is).0 c.if-not-is_branch_on.false

pub pruned_to-requires : goal.pruned_to-requires
pruned_to-requires t c =
    let T = c.args.tree.now in
    let at = c.args.at in
    let node : Node = get_or c.nodes.result.now at (BranchItem 0) in
    let wait = c.requires.tree.0 in
    let within : at < length T.nodes = begins_within T.nodes at wait c.requires.tree.1 in
    let here : drop at T.nodes ≡ node ∷ drop (at + 1) T.nodes = read_here c.nodes.result.now T.nodes at (BranchItem 0) node c.nodes.ensures.nodes refl within in
    (omega arith, (c.requires.well_made, (c.side-left.ensures.cut, (suc wait, branch_makes (problem_of c.args.problem.now) c.requires.cut.path node (drop (at + 1) T.nodes) wait ((c.is_branch_on.ensures c.requires.cut.path c.requires.cut.is).0 c.if-not-is_branch_on.false) (rw here at c.requires.tree.1)))))

pub pruned_to-requires-2 : goal.pruned_to-requires-2
pruned_to-requires-2 t c =
    let P = problem_of c.args.problem.now in
    let T = c.args.tree.now in
    let at = c.args.at in
    let node : Node = get_or c.nodes.result.now at (BranchItem 0) in
    let wait = c.requires.tree.0 in
    let within : at < length T.nodes = begins_within T.nodes at wait c.requires.tree.1 in
    let here : drop at T.nodes ≡ node ∷ drop (at + 1) T.nodes = read_here c.nodes.result.now T.nodes at (BranchItem 0) node c.nodes.ensures.nodes refl within in
    let cut = c.requires.cut in
    let makes : AreTrees (suc (suc wait)) (drop (at + 1) T.nodes) = branch_makes (problem_of c.args.problem.now) c.requires.cut.path node (drop (at + 1) T.nodes) wait ((c.is_branch_on.ensures c.requires.cut.path c.requires.cut.is).0 c.if-not-is_branch_on.false) (rw here at c.requires.tree.1) in
    let first = c.in_ok-next.ensures (side_of P cut.path node true) (c.side-left.ensures.paths cut.path cut.is) in
    let on = first.on in
    (omega arith, (c.requires.well_made, (c.side-right.ensures.cut, (wait, first.makes (suc wait) makes))))

pub returns : goal.returns
returns t c = λ p is.
    let P = problem_of c.args.problem.now in
    let T = c.args.tree.now in
    let at = c.args.at in
    let node : Node = get_or c.nodes.result.now at (BranchItem 0) in
    let wait = c.requires.tree.0 in
    let within : at < length T.nodes = begins_within T.nodes at wait c.requires.tree.1 in
    let here : drop at T.nodes ≡ node ∷ drop (at + 1) T.nodes = read_here c.nodes.result.now T.nodes at (BranchItem 0) node c.nodes.ensures.nodes refl within in
    let counted = count_where P p c.impossible.result node (c.impossible.ensures p is) (c.is_count_of.ensures.0 c.if-not-is_count_of.false) in
    let branch = (c.is_branch_on.ensures p is).0 c.if-not-is_branch_on.false in
    let first = c.in_ok-next.ensures (side_of P p node true) (c.side-left.ensures.paths p is) in
    let second = c.pruned_to-2.ensures (side_of P p node false) (c.side-right.ensures.paths p is) in
    branch_pruning P T at p node here counted (side_of P p node true) (side_of P p node false) c.in_ok-next.next c.pruned_to-2.result (two_sides P p T node branch) branch first second

pub returns-then-not-is_branch : goal.returns-then-not-is_branch
returns-then-not-is_branch t c = λ p is.
    let P = problem_of c.args.problem.now in
    let T = c.args.tree.now in
    let at = c.args.at in
    let node : Node = get_or c.nodes.result.now at (BranchItem 0) in
    let wait = c.requires.tree.0 in
    let within : at < length T.nodes = begins_within T.nodes at wait c.requires.tree.1 in
    let here : drop at T.nodes ≡ node ∷ drop (at + 1) T.nodes = read_here c.nodes.result.now T.nodes at (BranchItem 0) node c.nodes.ensures.nodes refl within in
    let counted = count_where P p c.impossible.result node (c.impossible.ensures p is) (c.is_count_of.ensures.0 c.if-not-is_count_of.false) in
    leaf_prunes P T at p node here counted within (λ branch. true≢false (sym (c.is_branch.ensures.1 branch) ∙ c.if-not-is_branch.true))
