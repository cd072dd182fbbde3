use Rattle.spec_reader.proofs.OnlySays.{line_only}
use Rattle.spec_reader.proofs.laws.a_line_that_is_read_is_of_the_grammar.Goals as goal

pub returns : goal.returns
returns c = line_only
