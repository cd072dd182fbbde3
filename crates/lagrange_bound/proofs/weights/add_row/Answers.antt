use Rattle.std.proofs.Common.{rules}
use Rattle.lagrange_bound.proofs.weights.add_row.Goals as goal

pub raise-requires-clause-weight : goal.raise-requires-clause-weight
raise-requires-clause-weight c = search rules

pub raise-requires-clause-by : goal.raise-requires-clause-by
raise-requires-clause-by c = search rules

pub loop-i-preserved : goal.loop-i-preserved
loop-i-preserved c = search rules

pub returns : goal.returns
returns c = search rules
