use Rattle.std.proofs.Common.{rules, arith}
use Rattle.std.proofs.lemmas.Grind.{common_steps}
use Rattle.wire_http.specs.Fields.{body_length}
use Rattle.wire_http.proofs.fields.body_length.Goals as goal

pub returns-then-has_named : goal.returns-then-has_named
unfolding body_length
returns-then-has_named c = search rules

pub size_of-requires : goal.size_of-requires
unfolding body_length
size_of-requires c = grind (arith, common_steps)

pub returns : goal.returns
unfolding body_length
returns c = search rules
