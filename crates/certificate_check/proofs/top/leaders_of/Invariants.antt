use Rattle.std.proofs.Common.{◌≡◌, ℕ, ◌+◌, ◌*◌, ◌<◌, length, get_or, None}
use Rattle.bank_tables.specs.Items.{has}
use Rattle.certificate_check.specs.Tops.{IsBest}
use Rattle.certificate_check.proofs.top.leaders_of.Given as goal

abbrev pub invariant-loop-block : goal.invariant-loop-block
invariant-loop-block l = (length l.leaders ≡ 32) × ((b : ℕ) → b < l.block → IsBest (16 * b) (16 * b + 16) l.n l.weights (has l.free) (has l.taken) (get_or l.leaders b None))
