use Rattle.std.proofs.lemmas.List.Elements.{All-push, All-same}
use Rattle.constraint_model.specs.Views.{problem_of}
use Rattle.lagrange_bound.specs.Cuts.{IsCut}
use Rattle.search_paths.specs.declared.paths.Waiting.{Waiting}
use Rattle.search_paths.proofs.paths.wait.Goals as goal

pub returns : goal.returns
returns c =
    let P : Waiting → Type 0 = λ w. IsCut (problem_of c.args.problem.now) w.cut in
    All-same P _ _ c.in_ok-push.ensures.items (All-push P _ _ c.requires.waiting c.requires.cut)
