use Rattle.std.proofs.Common.{ℕ, List, sym, subst, rules}
use Rattle.bank_tables.specs.Tables.{Tables}
use Rattle.form_model.specs.Plan.{Plan}
use Rattle.answer_journal.specs.OpenFault.{IsWalkAnswer}
use Rattle.answer_journal.specs.declared.open_fault.OpenFault.{OpenFault as JournalFault}
use Rattle.answer_journal.specs.declared.open_fault.OpenFault.TheVariants.{Disk as OfDisk, TooLong, Header, Length, Cut, Version as OfVersion, Memory as OfMemory}
use Rattle.exam_office.specs.Opening.{journal_fault, IsReadAnswer}
use Rattle.exam_office.specs.declared.fault.OpenFault.{OpenFault}
use Rattle.exam_office.proofs.Refused.{journal_answer}
use Rattle.journal_audit.proofs.auditing.audit_into.Goals as goal

-- what is wrong with the file as a journal is what reading its history answers
read_answer : (b : Tables) (plan : Plan) (file : List ℕ) (fault : JournalFault) → IsWalkAnswer plan.journal file fault → IsReadAnswer b plan file (journal_fault fault)
read_answer b plan file OfDisk is = tt
read_answer b plan file OfMemory is = tt
read_answer b plan file (TooLong size) is = is
read_answer b plan file Header is = is
read_answer b plan file (Length at) is = is
read_answer b plan file (Cut at) is = is
read_answer b plan file OfVersion is = let sound = (journal_answer b plan file OfVersion is).sound in absurd (cc)

-- the walk is refused
pub returns-in-Err-clause-why : goal.returns-in-Err-clause-why
returns-in-Err-clause-why g c = λ told.
    let b = c.args.bank.now in
    let plan = c.args.spec.now in
    let file = g.D.Disk.content c.args.disk in
    subst (λ (fault : OpenFault). IsReadAnswer b plan file fault) (sym c.journal_fault.ensures)
    (read_answer b plan file c.in-Err.fault
    (subst (λ (limit : ℕ). IsWalkAnswer limit file c.in-Err.fault) c.journal.ensures (c.in-Err.ensures.why told)))

pub returns-in-Err-clause-untouched : goal.returns-in-Err-clause-untouched
returns-in-Err-clause-untouched g c = search rules

pub returns-in-Err-clause-moments : goal.returns-in-Err-clause-moments
returns-in-Err-clause-moments g c = search rules

pub returns-in-Err-clause-settled : goal.returns-in-Err-clause-settled
returns-in-Err-clause-settled g c = search rules

-- the walk is over
pub returns-clause-untouched : goal.returns-clause-untouched
returns-clause-untouched g c = search rules

pub returns-clause-moments : goal.returns-clause-moments
returns-clause-moments g c = search rules

pub returns-clause-settled : goal.returns-clause-settled
returns-clause-settled g c = search rules

pub returns-in-Err-clause-aside_err : goal.returns-in-Err-clause-aside_err
returns-in-Err-clause-aside_err g c = search rules

pub returns-clause-aside : goal.returns-clause-aside
returns-clause-aside g c = search rules

pub returns-clause-aside_err : goal.returns-clause-aside_err
returns-clause-aside_err g c = search rules

pub returns-clause-frame : goal.returns-clause-frame
returns-clause-frame g c = search rules
