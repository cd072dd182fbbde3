use Rattle.std.proofs.Common.{arith}
use Rattle.std.proofs.lemmas.Int.{ints}
use Rattle.certificate_check.proofs.costs.margin_at.Goals as goal

pub returns-clause-value : goal.returns-clause-value
returns-clause-value c = omega (arith, ints, c.requires.place_price.low, c.requires.place_price.high, c.requires.weight.low, c.requires.weight.high)

pub returns-clause-within : goal.returns-clause-within
returns-clause-within c = record { low = omega (arith, ints, c.requires.place_price.low, c.requires.place_price.high, c.requires.weight.low, c.requires.weight.high); high = omega (arith, ints, c.requires.place_price.low, c.requires.place_price.high, c.requires.weight.low, c.requires.weight.high) }
