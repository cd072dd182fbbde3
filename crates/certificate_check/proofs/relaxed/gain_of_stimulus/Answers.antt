use Rattle.std.proofs.Common.{rules}
use Rattle.certificate_check.proofs.relaxed.gain_of_stimulus.Goals as goal

pub returns-then-has-2-clause-value : goal.returns-then-has-2-clause-value
returns-then-has-2-clause-value c = search rules steps 1000000
