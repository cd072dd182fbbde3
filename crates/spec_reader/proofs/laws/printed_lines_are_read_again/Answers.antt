use Rattle.spec_reader.proofs.PlainLaws.{printed_again}
use Rattle.spec_reader.proofs.laws.printed_lines_are_read_again.Goals as goal

pub returns : goal.returns
returns c = printed_again
