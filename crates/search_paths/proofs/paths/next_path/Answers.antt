use Rattle.std.proofs.lemmas.List.Elements.{All-pop}
use Rattle.constraint_model.specs.Views.{problem_of}
use Rattle.lagrange_bound.specs.Cuts.{IsCut}
use Rattle.search_paths.specs.declared.paths.Waiting.{Waiting}
use Rattle.search_paths.proofs.paths.next_path.Goals as goal

pub returns-clause-path : goal.returns-clause-path
returns-clause-path c =
    let P : Waiting → Type 0 = λ w. IsCut (problem_of c.args.problem.now) w.cut in
    (All-pop P _ _ _ c.pop.ensures.items c.requires).1

pub returns-clause-waiting : goal.returns-clause-waiting
returns-clause-waiting c =
    let P : Waiting → Type 0 = λ w. IsCut (problem_of c.args.problem.now) w.cut in
    (All-pop P _ _ _ c.pop.ensures.items c.requires).0
