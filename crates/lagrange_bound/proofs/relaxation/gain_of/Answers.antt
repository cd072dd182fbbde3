use Rattle.std.proofs.Common.{rules}
use Rattle.lagrange_bound.proofs.relaxation.gain_of.Goals as goal

pub returns-then-has-clause-value : goal.returns-then-has-clause-value
returns-then-has-clause-value c = search rules

pub returns-then-has-clause-within : goal.returns-then-has-clause-within
returns-then-has-clause-within c = search rules

pub returns-clause-value : goal.returns-clause-value
returns-clause-value c = search rules

pub returns-clause-within : goal.returns-clause-within
returns-clause-within c = search rules
