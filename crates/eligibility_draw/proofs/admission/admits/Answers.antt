use Rattle.std.proofs.Common.{rules}
use Rattle.eligibility_draw.proofs.admission.admits.Goals as goal

pub returns-else-counts-eq0 : goal.returns-else-counts-eq0
returns-else-counts-eq0 c = search rules
