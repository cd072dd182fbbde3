use Rattle.spec_reader.proofs.LinesLaws.{lines_again}
use Rattle.spec_reader.proofs.laws.lines_of_the_grammar_are_read.Goals as goal

pub returns : goal.returns
returns c = lines_again
