-- The journal's file, which its server writes meanwhile.
use Rattle.std.proofs.Common.{ℕ, [], None, inr, refl, arith}
use Rattle.journal_stream.specs.Served.{IsServed}
use Rattle.host_stream.specs.declared.journal.HostJournal.{HostJournal}

-- how many of its calls failed
abbrev pub faults_of : HostJournal → ℕ
faults_of journal = journal.faults

-- no bytes are the file of no records, as an object has it that reports nothing
pub none_served : IsServed None [] []
none_served = inr (inr (omega arith, refl))
