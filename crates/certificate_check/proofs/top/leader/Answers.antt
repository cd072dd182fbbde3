use Rattle.std.proofs.Common.{rules}
use Rattle.certificate_check.proofs.top.leader.Goals as goal

pub returns-then-first-n : goal.returns-then-first-n
returns-then-first-n c = search rules

pub loop-i-init : goal.loop-i-init
loop-i-init c = search rules

pub loop-i-preserved : goal.loop-i-preserved
loop-i-preserved c = search rules

pub returns : goal.returns
returns c = search rules
