use Rattle.std.proofs.Common.{rules}
use Rattle.lagrange_bound.proofs.weights.share.Goals as goal

pub priced-requires-clause-quantity : goal.priced-requires-clause-quantity
priced-requires-clause-quantity c = search rules

pub returns-in-Count-clause-value : goal.returns-in-Count-clause-value
returns-in-Count-clause-value c = search rules

pub returns-in-Count-clause-within : goal.returns-in-Count-clause-within
returns-in-Count-clause-within c = search rules

pub returns-then-has-clause-value : goal.returns-then-has-clause-value
returns-then-has-clause-value c = search rules

pub returns-then-has-clause-within : goal.returns-then-has-clause-within
returns-then-has-clause-within c = search rules

pub returns-else-has-clause-value : goal.returns-else-has-clause-value
returns-else-has-clause-value c = search rules

pub returns-else-has-clause-within : goal.returns-else-has-clause-within
returns-else-has-clause-within c = search rules

pub returns-in-Enemies-clause-value : goal.returns-in-Enemies-clause-value
returns-in-Enemies-clause-value c = search rules

pub returns-in-Enemies-clause-within : goal.returns-in-Enemies-clause-within
returns-in-Enemies-clause-within c = search rules

pub returns-in-Stimuli-clause-value : goal.returns-in-Stimuli-clause-value
returns-in-Stimuli-clause-value c = search rules

pub returns-in-Stimuli-clause-within : goal.returns-in-Stimuli-clause-within
returns-in-Stimuli-clause-within c = search rules
