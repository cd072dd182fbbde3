use Rattle.std.proofs.Common.{rules}
use Rattle.form_enumeration.proofs.mask.masked.Goals as goal

pub loop-i-init : goal.loop-i-init
loop-i-init c = search rules
