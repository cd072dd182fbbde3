use Rattle.std.proofs.Common.{rules}
use Rattle.shadow_select.proofs.serving.is_candidate.Goals as goal

pub returns-then-not-goes_on : goal.returns-then-not-goes_on
returns-then-not-goes_on c = search rules
