use Rattle.std.proofs.Common.{subst}
use Rattle.exam_office.specs.Payloads.{IsCursorOf}
use Rattle.exam_office.specs.Running.{Running}
use Rattle.exam_office.proofs.ReadingLaws.{cursor_first}
use Rattle.exam_office.proofs.office.Office.cursor.Goals as goal

pub returns-clause-cursor : goal.returns-clause-cursor
returns-clause-cursor g c =
    let o = c.self.inside in
    subst (λ (r : Running g.row.D.Denot). IsCursorOf r.journal (record { number = 0; at = c.start.result })) c.self.view_is
    (cursor_first o.journal c.start.result c.start.ensures.start c.start.ensures.within.1)
