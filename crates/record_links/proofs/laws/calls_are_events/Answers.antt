use Rattle.record_links.proofs.CallLaws.{takes_are_events, faults_are_events, stops_are_events, links_go_on, events_join}
use Rattle.record_links.proofs.laws.calls_are_events.Goals as goal

pub returns-clause-taken : goal.returns-clause-taken
returns-clause-taken g c = takes_are_events _

pub returns-clause-fault : goal.returns-clause-fault
returns-clause-fault g c = faults_are_events _ (g.F.Replica.size c.args._replica.now) (g.F.Replica.limit c.args._replica.now)

pub returns-clause-stops : goal.returns-clause-stops
returns-clause-stops g c = stops_are_events _

pub returns-clause-links : goal.returns-clause-links
returns-clause-links g c = links_go_on _ _ _

pub returns-clause-joined : goal.returns-clause-joined
returns-clause-joined g c = events_join _
