use Rattle.std.proofs.Common.{◌≡◌, ◌≤◌}
use Rattle.exam_edge.specs.Lent.{IsLent}
use Rattle.answer_journal.specs.Journal.{tells_of, faults_of, identity_of}
use Rattle.exam_office.specs.Writing.{IsSameOffice}
use Rattle.exam_program.proofs.ScriptLaws.{IsSoFar}
use Rattle.exam_program.proofs.replay.do_requests.Given as goal

abbrev pub invariant-loop-request : goal.invariant-loop-request
invariant-loop-request g l =
    record {
      so_far : IsSoFar l.fn.alone.office.bank l.fn.alone.office.plan l.fn.alone.office.base l.requests l.request-index l.fn.alone.office l.alone.office (g.O.Sink.tells l.fn.out) (g.O.Sink.written l.fn.out) (g.O.Sink.written l.out);
      same : IsSameOffice l.fn.alone.office l.alone.office;
      disk : IsLent tells_of identity_of faults_of l.fn.alone.office.journal l.alone.office.journal;
      grows : g.O.Sink.faults l.fn.out ≤ g.O.Sink.faults l.out;
      tells : g.O.Sink.tells l.out ≡ g.O.Sink.tells l.fn.out;
    }
