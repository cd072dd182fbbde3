use Rattle.std.proofs.Common.{◌++◌, ◌∙◌, List, ℕ, ap}
use Rattle.std.proofs.lemmas.Result.{on_ok_weaker}
use Rattle.answer_journal.proofs.Tails.{tail_so}
use Rattle.answer_journal.proofs.walk.Walk.put_tail_aside.Goals as goal

pub returns-clause-aside : goal.returns-clause-aside
returns-clause-aside g c =
    let w = c.self.inside in
    rw (← c.self.view_is)
    (on_ok_weaker c.put_tail_aside.result
    (λ aside told. aside told ∙ ap (λ (l : List ℕ). g.D.Disk.aside w.disk ++ l) (tail_so (g.D.Disk.tells w.disk) (g.D.Disk.content w.disk) (g.D.Disk.accounts w.disk) w.extent c.self.invariant.opening.extent_is told))
    c.put_tail_aside.ensures.aside)
