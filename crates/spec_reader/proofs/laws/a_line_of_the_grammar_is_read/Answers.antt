use Rattle.spec_reader.proofs.SayLaws.{line_again}
use Rattle.spec_reader.proofs.laws.a_line_of_the_grammar_is_read.Goals as goal

pub returns : goal.returns
returns c = line_again
