use Rattle.record_links.proofs.CallLaws.{offers_are_events}
use Rattle.record_links.proofs.laws.offers_are_events.Goals as goal

pub returns : goal.returns
returns g c = offers_are_events _
