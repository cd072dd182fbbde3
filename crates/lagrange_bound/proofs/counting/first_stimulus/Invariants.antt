use Rattle.std.proofs.Common.{◌≡◌, ℕ, suc, ◌<◌, false}
use Rattle.certificate_model.specs.Paths.{Path}
use Rattle.certificate_model.specs.Counting.{stimulus_impossible}
use Rattle.constraint_model.specs.Views.{problem_of}
use Rattle.lagrange_bound.specs.Cuts.{IsCutOf}
use Rattle.lagrange_bound.proofs.counting.first_stimulus.Given as goal

abbrev pub invariant-loop-k : goal.invariant-loop-k
invariant-loop-k l = (p : Path) → IsCutOf (problem_of l.problem) p l.cut → (k : ℕ) → k < l.k → stimulus_impossible (problem_of l.problem) p (suc k) ≡ false
