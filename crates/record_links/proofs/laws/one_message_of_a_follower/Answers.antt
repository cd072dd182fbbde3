use Rattle.record_links.proofs.ReadingLaws.{one_have, have_no_fault, one_have_fault}
use Rattle.record_links.proofs.laws.one_message_of_a_follower.Goals as goal

pub returns-clause-have : goal.returns-clause-have
returns-clause-have c = one_have

pub returns-clause-no_fault : goal.returns-clause-no_fault
returns-clause-no_fault c = have_no_fault

pub returns-clause-fault : goal.returns-clause-fault
returns-clause-fault c = one_have_fault
