use Rattle.std.proofs.Common.{rules}
use Rattle.certificate_check.proofs.weights.plain_weight.Goals as goal

pub price_of_stimulus-requires-clause-which : goal.price_of_stimulus-requires-clause-which
price_of_stimulus-requires-clause-which c = search rules

pub overflow_add-result : goal.overflow_add-result
overflow_add-result c = search rules

pub returns-clause-value : goal.returns-clause-value
returns-clause-value c = search rules

pub returns-clause-within : goal.returns-clause-within
returns-clause-within c = search rules
