use Rattle.replay_cli.proofs.ReadLaws.{some_reading, one_list, one_line, no_fault}
use Rattle.replay_cli.proofs.laws.a_text_has_one_reading.Goals as goal

pub returns-clause-some : goal.returns-clause-some
returns-clause-some c = some_reading

pub returns-clause-list : goal.returns-clause-list
returns-clause-list c = one_list

pub returns-clause-line : goal.returns-clause-line
returns-clause-line c = one_line

pub returns-clause-not_both : goal.returns-clause-not_both
returns-clause-not_both c = no_fault
