use Rattle.record_links.proofs.EventLaws.{links_are_events}
use Rattle.record_links.proofs.laws.links_are_events.Goals as goal

pub returns : goal.returns
returns g c = links_are_events _ _ _
