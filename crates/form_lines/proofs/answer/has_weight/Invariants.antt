use Rattle.std.proofs.Common.{◌≡◌, ℕ, ◌<◌, get_or}
use Rattle.form_lines.proofs.answer.has_weight.Given as goal

abbrev pub invariant-loop-weight : goal.invariant-loop-weight
invariant-loop-weight l = (g : ℕ) → g < l.weight-index → get_or l.weights g 0 ≡ 0
