use Rattle.std.proofs.Common.{◌≡◌, ℕ, suc, ◌<◌, false}
use Rattle.certificate_model.specs.Counting.{stimulus_impossible}
use Rattle.constraint_model.specs.Views.{problem_of}
use Rattle.certificate_check.specs.Cuts.{path_of}
use Rattle.certificate_check.proofs.counting.are_stimuli_possible.Given as goal

abbrev pub invariant-loop-k : goal.invariant-loop-k
invariant-loop-k l = (k : ℕ) → k < l.k → stimulus_impossible (problem_of l.problem) (path_of l.standing.cut) (suc k) ≡ false
