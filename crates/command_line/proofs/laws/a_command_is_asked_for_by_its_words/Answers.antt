use Rattle.command_line.proofs.Spelling.{asked, answered}
use Rattle.command_line.proofs.laws.a_command_is_asked_for_by_its_words.Goals as goal

pub returns-clause-asked : goal.returns-clause-asked
returns-clause-asked c = asked

pub returns-clause-answered : goal.returns-clause-answered
returns-clause-answered c = answered
