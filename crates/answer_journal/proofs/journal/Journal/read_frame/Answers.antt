use Rattle.std.proofs.Common.{[], get_or}
use Rattle.answer_journal.specs.Versions.{counted_in}
use Rattle.answer_journal.proofs.Placing.{record_at}
use Rattle.answer_journal.proofs.Walking.{weaker_ok}
use Rattle.answer_journal.proofs.journal.Journal.read_frame.Goals as goal

pub returns-clause-payload : goal.returns-clause-payload
returns-clause-payload g c =
    let j = c.self.inside in
    let ready = rw (← c.self.view_is) at c.requires.ready in
    rw (← c.self.view_is)
    (weaker_ok _ _ c.read_before.result c.read_before.ensures.payload
    (λ found reads told k lt place.
    let content = g.D.Disk.content j.disk in
    let there = record_at j.version j.start content (g.D.Disk.accounts j.disk) j.size (ready.rest told) (counted_in content).payloads (ready.counts told) k c.args.at lt place in
    reads told (get_or (counted_in content).payloads k []) there.0 there.1))
