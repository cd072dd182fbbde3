use Rattle.std.proofs.Common.{arith, rules}
use Rattle.std.proofs.lemmas.Grind.{common_steps}
use Rattle.record_links.proofs.kept.Kept.take.Goals as goal

pub returns-clause-taken : goal.returns-clause-taken
returns-clause-taken c = search rules

pub returns-clause-left : goal.returns-clause-left
returns-clause-left c = grind (arith, common_steps)
