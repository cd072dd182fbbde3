use Rattle.std.proofs.Common.{rules, ◌∙◌, ap, subst}
use Rattle.bank_tables.specs.Items.{Set}
use Rattle.certificate_model.specs.declared.node.Node.TheVariants.{BranchItem, BranchStimulus}
use Rattle.certificate_model.specs.Paths.{with_item, with_stimulus}
use Rattle.constraint_model.specs.Views.{problem_of}
use Rattle.branch_bound.specs.Searches.{IsBranchOn}
use Rattle.branch_bound.proofs.branching.side.Goals as goal

pub with_item-requires-clause-free : goal.with_item-requires-clause-free
with_item-requires-clause-free c =
    let P = problem_of c.args.problem.now in
    let cut = c.requires.cut in
    let branch : IsBranchOn P cut.path (BranchItem c.in-BranchItem.item) = subst (IsBranchOn P cut.path) c.in-BranchItem.is (c.requires.branch cut.path cut.is) in
    ap (λ (X : Set). X c.in-BranchItem.item) cut.is.free ∙ branch

pub with_stimulus-requires-clause-opened : goal.with_stimulus-requires-clause-opened
with_stimulus-requires-clause-opened c =
    let P = problem_of c.args.problem.now in
    let cut = c.requires.cut in
    let branch : IsBranchOn P cut.path (BranchStimulus c.in-BranchStimulus.stimulus) = subst (IsBranchOn P cut.path) c.in-BranchStimulus.is (c.requires.branch cut.path cut.is) in
    ap (λ (X : Set). X c.in-BranchStimulus.stimulus) cut.is.opened ∙ branch.is_open

pub returns-in-BranchItem-clause-cut : goal.returns-in-BranchItem-clause-cut
returns-in-BranchItem-clause-cut c =
    let cut = c.requires.cut in
    record { path = with_item cut.path c.in-BranchItem.item c.args.with; is = c.with_item.ensures cut.path cut.is }

pub returns-in-BranchStimulus-clause-cut : goal.returns-in-BranchStimulus-clause-cut
returns-in-BranchStimulus-clause-cut c =
    let cut = c.requires.cut in
    record { path = with_stimulus (problem_of c.args.problem.now) cut.path c.in-BranchStimulus.stimulus c.args.with; is = c.with_stimulus.ensures cut.path cut.is }

pub returns-in-BranchStimulus-clause-paths : goal.returns-in-BranchStimulus-clause-paths
returns-in-BranchStimulus-clause-paths c = search rules steps 1000000
