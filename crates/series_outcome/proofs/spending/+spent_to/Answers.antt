use Rattle.std.proofs.Common.{◌≡◌, suc, ◌+◌, ◌<◌, ◌∷◌, length, drop, get_or, Some, refl, sym, ◌∙◌, arith}
use Rattle.std.proofs.lemmas.Grind.{common_steps}
use Rattle.std.proofs.Math.Bool.{true≢false}
use Rattle.series_model.specs.declared.node.SeriesNode.{SeriesNode}
use Rattle.series_model.specs.declared.node.SeriesNode.TheVariants.{Branch}
use Rattle.series_model.specs.Series.{SeriesProblem}
use Rattle.series_model.specs.SeriesPaths.{SeriesPath}
use Rattle.series_model.specs.SeriesTrees.{Certificate, AreTrees}
use Rattle.series_check.specs.declared.cut.SeriesCut.{SeriesCut}
use Rattle.series_check.specs.Cuts.{problem_of, path_of}
use Rattle.series_check.specs.Walks.{AreBelow}
use Rattle.series_check.proofs.WalkLaws.{read_here, begins_within}
use Rattle.series_outcome.specs.Spending.{IsSpentNode}
use Rattle.series_outcome.specs.Walks.{SpendsTo}
use Rattle.series_outcome.proofs.SpendSteps.{leaf_spends, makes_two, second_begins, both_spend}
use Rattle.series_outcome.proofs.spending.+spent_to.Goals as goal

pub returns-then-not-is_branch : goal.returns-then-not-is_branch
returns-then-not-is_branch t c =
    let Q : SeriesProblem = problem_of c.args.setting.now in
    let T : Certificate = c.args.tree.now in
    let p : SeriesPath = path_of c.args.cut.now in
    let node : SeriesNode = get_or c.nodes.result.now c.args.at (Branch 0 0) in
    let within : c.args.at < length T.nodes = begins_within T.nodes c.args.at c.requires.tree.0 c.requires.tree.1 in
    let here : drop c.args.at T.nodes ≡ node ∷ drop (c.args.at + 1) T.nodes = read_here c.nodes.result.now T.nodes c.args.at (Branch 0 0) node c.nodes.ensures.nodes refl within in
    let spent : IsSpentNode Q p node = c.is_spent_node.ensures c.if-not-is_spent_node.false in
    leaf_spends Q T c.args.at p node here spent within (λ b. true≢false (sym (c.is_branch.ensures.1 b) ∙ c.if-not-is_branch.true))

pub spent_to-requires : goal.spent_to-requires
spent_to-requires t c =
    let Q : SeriesProblem = problem_of c.args.setting.now in
    let T : Certificate = c.args.tree.now in
    let p : SeriesPath = path_of c.args.cut.now in
    let node : SeriesNode = get_or c.nodes.result.now c.args.at (Branch 0 0) in
    let within : c.args.at < length T.nodes = begins_within T.nodes c.args.at c.requires.tree.0 c.requires.tree.1 in
    let here : drop c.args.at T.nodes ≡ node ∷ drop (c.args.at + 1) T.nodes = read_here c.nodes.result.now T.nodes c.args.at (Branch 0 0) node c.nodes.ensures.nodes refl within in
    let spent : IsSpentNode Q p node = c.is_spent_node.ensures c.if-not-is_spent_node.false in
    let cuts : SeriesCut × SeriesCut = (c.in-Some.left, c.in-Some.right) in
    let two : AreBelow Q p node (Some cuts) = c.in-Some.ensures in
    (grind (arith, common_steps), (c.requires.problem, (suc c.requires.tree.0, makes_two Q T c.args.at p node here spent cuts two c.requires.tree.0 c.requires.tree.1)))

pub spent_to-requires-in-Some : goal.spent_to-requires-in-Some
spent_to-requires-in-Some t c =
    let Q : SeriesProblem = problem_of c.args.setting.now in
    let T : Certificate = c.args.tree.now in
    let p : SeriesPath = path_of c.args.cut.now in
    let node : SeriesNode = get_or c.nodes.result.now c.args.at (Branch 0 0) in
    let within : c.args.at < length T.nodes = begins_within T.nodes c.args.at c.requires.tree.0 c.requires.tree.1 in
    let here : drop c.args.at T.nodes ≡ node ∷ drop (c.args.at + 1) T.nodes = read_here c.nodes.result.now T.nodes c.args.at (Branch 0 0) node c.nodes.ensures.nodes refl within in
    let spent : IsSpentNode Q p node = c.is_spent_node.ensures c.if-not-is_spent_node.false in
    let cuts : SeriesCut × SeriesCut = (c.in-Some.left, c.in-Some.right) in
    let two : AreBelow Q p node (Some cuts) = c.in-Some.ensures in
    let next = c.in_ok-next-in-Some.next in
    let first : SpendsTo Q T (c.args.at + 1) (path_of c.in-Some.left) next = c.in_ok-next-in-Some.ensures in
    let begins : AreTrees (suc c.requires.tree.0) (drop next T.nodes) = second_begins Q T c.args.at p node here spent cuts two next first c.requires.tree.0 c.requires.tree.1 in
    let after : next < length T.nodes = begins_within T.nodes next c.requires.tree.0 begins in
    let on : c.args.at < next = omega (arith, first.on) in
    (grind (arith, common_steps), (c.requires.problem, (c.requires.tree.0, begins)))

pub returns-in_ok-next-in-Some : goal.returns-in_ok-next-in-Some
returns-in_ok-next-in-Some t c =
    let Q : SeriesProblem = problem_of c.args.setting.now in
    let T : Certificate = c.args.tree.now in
    let p : SeriesPath = path_of c.args.cut.now in
    let node : SeriesNode = get_or c.nodes.result.now c.args.at (Branch 0 0) in
    let within : c.args.at < length T.nodes = begins_within T.nodes c.args.at c.requires.tree.0 c.requires.tree.1 in
    let here : drop c.args.at T.nodes ≡ node ∷ drop (c.args.at + 1) T.nodes = read_here c.nodes.result.now T.nodes c.args.at (Branch 0 0) node c.nodes.ensures.nodes refl within in
    let spent : IsSpentNode Q p node = c.is_spent_node.ensures c.if-not-is_spent_node.false in
    let cuts : SeriesCut × SeriesCut = (c.in-Some.left, c.in-Some.right) in
    let two : AreBelow Q p node (Some cuts) = c.in-Some.ensures in
    both_spend Q T c.args.at p node here spent cuts two c.in_ok-next-in-Some.next c.in_ok-next-in-Some.ensures c.spent_to-in-Some.result c.spent_to-in-Some.ensures
