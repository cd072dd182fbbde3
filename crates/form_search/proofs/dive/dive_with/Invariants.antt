use Rattle.constraint_model.specs.Views.{problem_of}
use Rattle.lagrange_bound.specs.Cuts.{IsCut}
use Rattle.form_search.proofs.dive.dive_with.Given as goal

abbrev pub invariant-loop : goal.invariant-loop
invariant-loop l = IsCut (problem_of l.problem) l.cut
