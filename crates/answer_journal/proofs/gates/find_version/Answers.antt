use Rattle.std.proofs.Common.{◌≡◌, ℕ, take, ◌∙◌, subst}
use Rattle.answer_journal.proofs.Naming.{same_named}
use Rattle.answer_journal.proofs.gates.find_version.Goals as goal

pub returns-then-count-eq10-clause-version : goal.returns-then-count-eq10-clause-version
returns-then-count-eq10-clause-version g c = λ told.
    let c0 = g.D.Disk.content c.args.disk.now in
    let head = c.read_from.new.buffer in
    c.version_in.ensures ∙ same_named head c0 (subst (λ (k : ℕ). take k head ≡ take k c0) c.if-count-eq10.true (c.in_ok-count.ensures.bytes told))
