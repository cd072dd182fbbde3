use Rattle.std.proofs.Common.{◌≡◌, ℕ, suc, ◌+◌, ◌<◌, ◌≤◌, ◌∷◌, length, drop, get_or, Some, None, Err, refl, ap, arith}
use Rattle.std.proofs.lemmas.Grind.{common_steps}
use Rattle.std.proofs.lemmas.Result.{err_from_is_err_and}
use Rattle.series_model.specs.declared.node.SeriesNode.{SeriesNode}
use Rattle.series_model.specs.declared.node.SeriesNode.TheVariants.{Branch}
use Rattle.series_model.specs.Series.{SeriesProblem}
use Rattle.series_model.specs.SeriesPaths.{SeriesPath}
use Rattle.series_model.specs.SeriesTrees.{Certificate, AreTrees}
use Rattle.series_model.specs.SeriesVerdicts.{IsSound}
use Rattle.series_check.specs.declared.cut.SeriesCut.{SeriesCut}
use Rattle.series_check.specs.Cuts.{problem_of, path_of}
use Rattle.series_check.specs.Walks.{AreBelow, IsWalk, Passes}
use Rattle.series_check.proofs.WalkLaws.{read_here, begins_within, leaf_passes, left_fails, second_begins, both_walks}
use Rattle.series_check.proofs.walk.+walk.Goals as goal

pub returns-in_err-walked-in-Some : goal.returns-in_err-walked-in-Some
returns-in_err-walked-in-Some t c =
    let Q : SeriesProblem = problem_of c.args.setting.now in
    let U = c.args.bar.now in
    let T : Certificate = c.args.tree.now in
    let p : SeriesPath = path_of c.args.cut.now in
    let node : SeriesNode = get_or c.nodes.result.now c.args.at (Branch 0 0) in
    let within : c.args.at < length T.nodes = begins_within T.nodes c.args.at c.requires.tree.0 c.requires.tree.1 in
    let here : drop c.args.at T.nodes ≡ node ∷ drop (c.args.at + 1) T.nodes = read_here c.nodes.result.now T.nodes c.args.at (Branch 0 0) node c.nodes.ensures.nodes refl within in
    let sound : IsSound Q U T p node = c.is_sound.ensures.0 c.if-not-is_sound.false in
    let cuts : SeriesCut × SeriesCut = (c.in-Some.left, c.in-Some.right) in
    let two : AreBelow Q p node (Some cuts) = c.in-Some.ensures in
    let fails : IsWalk Q U T c.args.at c.args.open_leaves p (Err c.in_err-walked-in-Some.field-0.0) = left_fails Q U T c.args.at c.args.open_leaves p node here sound cuts two c.in_err-walked-in-Some.field-0.0 c.in_err-walked-in-Some.ensures in
    let e = err_from_is_err_and c.from_residual.result c.from_residual.ensures.1 in
    rw (e.1, e.2) fails

pub walk-requires-in-Some : goal.walk-requires-in-Some
walk-requires-in-Some t c =
    let Q : SeriesProblem = problem_of c.args.setting.now in
    let U = c.args.bar.now in
    let T : Certificate = c.args.tree.now in
    let p : SeriesPath = path_of c.args.cut.now in
    let node : SeriesNode = get_or c.nodes.result.now c.args.at (Branch 0 0) in
    let within : c.args.at < length T.nodes = begins_within T.nodes c.args.at c.requires.tree.0 c.requires.tree.1 in
    let here : drop c.args.at T.nodes ≡ node ∷ drop (c.args.at + 1) T.nodes = read_here c.nodes.result.now T.nodes c.args.at (Branch 0 0) node c.nodes.ensures.nodes refl within in
    let sound : IsSound Q U T p node = c.is_sound.ensures.0 c.if-not-is_sound.false in
    let cuts : SeriesCut × SeriesCut = (c.in-Some.left, c.in-Some.right) in
    let two : AreBelow Q p node (Some cuts) = c.in-Some.ensures in
    let next = c.in_ok-walked-in-Some.walked.next in
    let more = c.in_ok-walked-in-Some.walked.open_leaves in
    let first : Passes Q U T (c.args.at + 1) c.args.open_leaves (path_of c.in-Some.left) next more = c.in_ok-walked-in-Some.ensures in
    let begins : AreTrees (suc c.requires.tree.0) (drop next T.nodes) = second_begins Q U T c.args.at c.args.open_leaves p node here sound cuts two next more first c.requires.tree.0 c.requires.tree.1 in
    let after : next < length T.nodes = begins_within T.nodes next c.requires.tree.0 begins in
    let few : more ≤ next = omega (arith, first.few, first.on, c.requires.few) in
    let on : c.args.at < next = omega (arith, first.on) in
    (grind (arith, common_steps), (c.requires.problem, ((c.requires.tree.0, begins), few)))

pub returns-in_ok-walked-in-Some : goal.returns-in_ok-walked-in-Some
returns-in_ok-walked-in-Some t c =
    let Q : SeriesProblem = problem_of c.args.setting.now in
    let U = c.args.bar.now in
    let T : Certificate = c.args.tree.now in
    let p : SeriesPath = path_of c.args.cut.now in
    let node : SeriesNode = get_or c.nodes.result.now c.args.at (Branch 0 0) in
    let within : c.args.at < length T.nodes = begins_within T.nodes c.args.at c.requires.tree.0 c.requires.tree.1 in
    let here : drop c.args.at T.nodes ≡ node ∷ drop (c.args.at + 1) T.nodes = read_here c.nodes.result.now T.nodes c.args.at (Branch 0 0) node c.nodes.ensures.nodes refl within in
    let sound : IsSound Q U T p node = c.is_sound.ensures.0 c.if-not-is_sound.false in
    let cuts : SeriesCut × SeriesCut = (c.in-Some.left, c.in-Some.right) in
    let two : AreBelow Q p node (Some cuts) = c.in-Some.ensures in
    let next = c.in_ok-walked-in-Some.walked.next in
    let more = c.in_ok-walked-in-Some.walked.open_leaves in
    both_walks Q U T c.args.at c.args.open_leaves p node here sound cuts two next more c.in_ok-walked-in-Some.ensures c.walk-in-Some.result c.walk-in-Some.ensures

pub returns-in-None : goal.returns-in-None
returns-in-None t c =
    let Q : SeriesProblem = problem_of c.args.setting.now in
    let U = c.args.bar.now in
    let T : Certificate = c.args.tree.now in
    let p : SeriesPath = path_of c.args.cut.now in
    let node : SeriesNode = get_or c.nodes.result.now c.args.at (Branch 0 0) in
    let within : c.args.at < length T.nodes = begins_within T.nodes c.args.at c.requires.tree.0 c.requires.tree.1 in
    let here : drop c.args.at T.nodes ≡ node ∷ drop (c.args.at + 1) T.nodes = read_here c.nodes.result.now T.nodes c.args.at (Branch 0 0) node c.nodes.ensures.nodes refl within in
    let sound : IsSound Q U T p node = c.is_sound.ensures.0 c.if-not-is_sound.false in
    let none : AreBelow Q p node None = c.in-None.ensures in
    leaf_passes Q U T c.args.at c.args.open_leaves p node here within sound none (c.args.open_leaves + c.open_leaf.result) (ap (λ (k : ℕ). c.args.open_leaves + k) c.open_leaf.ensures)
