use Rattle.record_links.proofs.ReadingLaws.{one_offer, offer_no_end, offer_no_fault, end_no_fault, one_offer_fault}
use Rattle.record_links.proofs.laws.one_message_of_a_shipper.Goals as goal

pub returns-clause-offer : goal.returns-clause-offer
returns-clause-offer c = one_offer

pub returns-clause-no_end : goal.returns-clause-no_end
returns-clause-no_end c = offer_no_end

pub returns-clause-no_fault : goal.returns-clause-no_fault
returns-clause-no_fault c = offer_no_fault

pub returns-clause-end_no_fault : goal.returns-clause-end_no_fault
returns-clause-end_no_fault c = end_no_fault

pub returns-clause-fault : goal.returns-clause-fault
returns-clause-fault c = one_offer_fault
