use Rattle.std.proofs.Common.{◌≡◌, sym, ◌∙◌, ap, subst}
use Rattle.bank_tables.specs.Items.{Set, has}
use Rattle.certificate_model.specs.declared.node.Node.TheVariants.{BranchStimulus}
use Rattle.certificate_model.specs.Paths.{is_open}
use Rattle.constraint_model.specs.Views.{problem_of}
use Rattle.branch_bound.specs.Searches.{IsBranchOn}
use Rattle.branch_bound.proofs.LeafLaws.{open_is_branch}
use Rattle.branch_bound.proofs.branching.is_branch_on.Goals as goal

pub returns-in-BranchStimulus : goal.returns-in-BranchStimulus
returns-in-BranchStimulus c = λ p is.
    let P = problem_of c.args.problem.now in
    let s = c.in-BranchStimulus.stimulus in
    let from : c.from.result ≡ s = c.from.ensures in
    let same : c.has-in-BranchStimulus.result ≡ is_open P p s = c.has-in-BranchStimulus.ensures ∙ ap (has c.args.cut.now.opened) from ∙ ap (λ (X : Set). X s) is.opened in (
      λ h. subst (IsBranchOn P p) (sym c.in-BranchStimulus.is) (open_is_branch P p s (sym same ∙ h)),
      λ h. let branch : IsBranchOn P p (BranchStimulus s) = subst (IsBranchOn P p) c.in-BranchStimulus.is h in same ∙ branch.is_open,
    )
