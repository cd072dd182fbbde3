use Rattle.std.proofs.Common.{◌≡◌, take}
use Rattle.answer_journal.specs.Journal.{tells_of}
use Rattle.exam_office.specs.Asking.{IsDurable}
use Rattle.exam_office.specs.Marks.{history}
use Rattle.exam_office.specs.Writing.{IsSameOffice}
use Rattle.exam_drill.specs.Leading.{LeadsTo}
use Rattle.exam_drill.proofs.asking.ask_all.Given as goal

abbrev pub invariant-loop-request : goal.invariant-loop-request
invariant-loop-request l = record {
  leads : LeadsTo l.fn.alone.office.bank l.fn.alone.office.plan (history l.fn.alone.office.marks) (take l.request-index l.requests) (history l.alone.office.marks);
  same : IsSameOffice l.fn.alone.office l.alone.office;
  durable : IsDurable l.fn.alone.office.bank l.fn.alone.office.plan l.alone.office;
  tells : tells_of l.alone.office.journal ≡ tells_of l.fn.alone.office.journal;
}
