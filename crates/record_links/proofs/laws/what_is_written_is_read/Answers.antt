use Rattle.record_links.proofs.ReadingLaws.{offer_is_read, have_is_read}
use Rattle.record_links.proofs.laws.what_is_written_is_read.Goals as goal

pub returns-clause-offer : goal.returns-clause-offer
returns-clause-offer c = offer_is_read

pub returns-clause-have : goal.returns-clause-have
returns-clause-have c = have_is_read
