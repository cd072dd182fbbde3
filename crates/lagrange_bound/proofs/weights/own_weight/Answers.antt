use Rattle.std.proofs.Common.{rules}
use Rattle.lagrange_bound.proofs.weights.own_weight.Goals as goal

pub overflow_add-result : goal.overflow_add-result
overflow_add-result c = search rules

pub returns-clause-value : goal.returns-clause-value
returns-clause-value c = search rules

pub returns-clause-within : goal.returns-clause-within
returns-clause-within c = search rules
