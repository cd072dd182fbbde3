use Rattle.std.proofs.Common.{◌≡◌, ◌+◌, ◌-◌, ◌*◌, ◌≤◌, length, IsTrue}
use Rattle.exam_edge.specs.Lent.{IsLent}
use Rattle.exam_office.specs.Migrating.{AreMeasured}
use Rattle.exam_office.proofs.migrating.measure_records.Given as goal

abbrev pub invariant-records : goal.invariant-records
invariant-records g l = record {
  bank : l.book.bank ≡ l.fn.book.bank;
  plan : l.book.plan ≡ l.fn.book.plan;
  measured : AreMeasured l.fn.book.bank l.fn.book.plan l.fn.walk.at (g.D.Disk.tells l.fn.walk.disk) (g.D.Disk.content l.fn.walk.disk) l.walk.given l.walk.at l.book.entries l.total;
  few : l.total ≤ l.walk.at + 449 * length l.book.entries;
  places : 6 * length l.book.entries ≤ l.walk.at;
  limit : l.walk.limit ≡ l.fn.walk.limit;
  size : l.walk.size ≡ l.fn.walk.size;
  version : l.walk.record_version ≡ l.fn.walk.record_version;
  content : IsTrue (g.D.Disk.tells l.fn.walk.disk) → g.D.Disk.content l.walk.disk ≡ g.D.Disk.content l.fn.walk.disk;
  accounts : IsTrue (g.D.Disk.tells l.fn.walk.disk) → g.D.Disk.accounts l.walk.disk ≡ g.D.Disk.accounts l.fn.walk.disk;
  aside : IsTrue (g.D.Disk.tells l.fn.walk.disk) → g.D.Disk.aside l.walk.disk ≡ g.D.Disk.aside l.fn.walk.disk;
  frame : IsLent g.D.Disk.tells g.D.Disk.identity g.D.Disk.faults l.fn.walk.disk l.walk.disk;
}

abbrev pub decreases-records : goal.decreases-records
decreases-records g l = l.walk.size - l.walk.at
