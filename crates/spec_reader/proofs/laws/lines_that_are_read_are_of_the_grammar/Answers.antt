use Rattle.spec_reader.proofs.OnlySays.{lines_only}
use Rattle.spec_reader.proofs.laws.lines_that_are_read_are_of_the_grammar.Goals as goal

pub returns : goal.returns
returns c = lines_only
