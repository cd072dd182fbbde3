use Rattle.std.proofs.Common.{◌≡◌, ◌-◌, List, [], map, IsTrue}
use Rattle.exam_edge.specs.Images.{AtEachMoment, latest}
use Rattle.exam_edge.specs.Lent.{IsLent}
use Rattle.history_model.specs.Judging.{Record}
use Rattle.answer_journal.specs.Moving.{IsImageOrUnmoved}
use Rattle.exam_office.specs.Files.{payload_in}
use Rattle.exam_office.specs.Migrating.{IsMovedUpTo}
use Rattle.exam_office.proofs.migrating.move_records.Given as goal

abbrev pub invariant-records : goal.invariant-records
invariant-records g l =
    let old = l.fn.moving in
    let b = l.fn.book.bank in
    let plan = l.fn.book.plan in
    record {
      bank : l.book.bank ≡ b;
      plan_is : l.book.plan ≡ plan;
      gate_is : l.moving.gate ≡ old.gate;
      limit : l.moving.limit ≡ old.limit;
      moved : IsTrue (g.D.Disk.tells old.disk) → (R : List Record)
          → IsMovedUpTo b plan R [] (g.D.Disk.content old.disk) old.waiting (g.D.Disk.accounts old.disk) old.gate old.end l.fn.book.entries 8
          → (done : List Record) × IsMovedUpTo b plan R done (g.D.Disk.content l.moving.disk) l.moving.waiting (g.D.Disk.accounts l.moving.disk) l.moving.gate l.moving.end l.book.entries l.at;
      moments : IsTrue (g.D.Disk.tells old.disk) → (R : List Record)
          → IsMovedUpTo b plan R [] (g.D.Disk.content old.disk) old.waiting (g.D.Disk.accounts old.disk) old.gate old.end l.fn.book.entries 8
          → AtEachMoment (g.D.Disk.accounts old.disk) (g.D.Disk.accounts l.moving.disk) (IsImageOrUnmoved (latest (g.D.Disk.accounts old.disk)) (map (payload_in b plan 1) R));
      aside : IsTrue (g.D.Disk.tells old.disk) → g.D.Disk.aside l.moving.disk ≡ g.D.Disk.aside old.disk;
      frame : IsLent g.D.Disk.tells g.D.Disk.identity g.D.Disk.faults old.disk l.moving.disk;
    }

abbrev pub decreases-records : goal.decreases-records
decreases-records g l = l.gate - l.at
