use Rattle.std.proofs.Common.{◌≡◌, ◌+◌, ◌-◌, ◌*◌, ◌≤◌, IsTrue, ℕ, List, length}
use Rattle.exam_edge.specs.Lent.{IsLent}
use Rattle.answer_journal.specs.Reading.{AreInFile, Walked}
use Rattle.answer_journal.specs.Versions.{header, uncounted, first_place}
use Rattle.answer_journal.proofs.gates.find_gates.Given as goal

abbrev pub invariant-walk : goal.invariant-walk
invariant-walk g l = record {
  inside : AreInFile l.gates.end l.gates.start l.gates.skipped l.size;
  count : 8 + 6 * l.passed ≤ l.gates.end;
  walked : IsTrue (g.D.Disk.tells l.fn.disk) → (ps : List (List ℕ)) × Walked (header l.version) (g.D.Disk.content l.fn.disk) ps l.gates.end
      × (l.passed ≡ length ps) × (l.gates.skipped ≡ uncounted l.version ps) × (l.gates.start ≡ first_place l.version ps);
  content : IsTrue (g.D.Disk.tells l.fn.disk) → g.D.Disk.content l.disk ≡ g.D.Disk.content l.fn.disk;
  accounts : IsTrue (g.D.Disk.tells l.fn.disk) → g.D.Disk.accounts l.disk ≡ g.D.Disk.accounts l.fn.disk;
  aside : IsTrue (g.D.Disk.tells l.fn.disk) → g.D.Disk.aside l.disk ≡ g.D.Disk.aside l.fn.disk;
  frame : IsLent g.D.Disk.tells g.D.Disk.identity g.D.Disk.faults l.fn.disk l.disk;
}

abbrev pub decreases-walk : goal.decreases-walk
decreases-walk g l = l.size - l.gates.end
