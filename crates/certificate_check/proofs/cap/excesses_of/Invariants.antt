use Rattle.std.proofs.Common.{◌≡◌, ℕ, suc, ◌*◌, ◌<◌, ◌==◌}
use Rattle.std.specs.Prelude.{slice_index}
use Rattle.bank_tables.specs.Sums.{sum_in_z}
use Rattle.bank_tables.specs.Tables.{stimulus}
use Rattle.constraint_model.specs.Views.{problem_of}
use Rattle.certificate_model.specs.Ranges.{IsWithin, at}
use Rattle.certificate_check.specs.Cuts.{path_of}
use Rattle.certificate_check.specs.Weights.{excess_at}
use Rattle.certificate_check.proofs.cap.excesses_of.Given as goal

abbrev pub invariant-loop-i : goal.invariant-loop-i
invariant-loop-i l =
    (k : ℕ) → k < 64
    → (at l.excesses k ≡ sum_in_z l.i (λ i. stimulus l.problem.bank.now i == suc k) (excess_at (problem_of l.problem) (path_of l.standing.cut) (slice_index l.sides) l.weights)) × IsWithin (l.i * 141835108499456) (at l.excesses k)
