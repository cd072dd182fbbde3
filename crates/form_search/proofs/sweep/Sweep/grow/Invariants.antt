use Rattle.constraint_model.specs.Views.{problem_of}
use Rattle.search_paths.specs.States.{AreStates}
use Rattle.form_search.proofs.sweep.Sweep.grow.Given as goal

abbrev pub invariant-loop : goal.invariant-loop
invariant-loop l = AreStates (problem_of l.problem) l.waiting.items
