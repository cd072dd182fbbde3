-- What an office keeps between its calls.
use Rattle.std.specs.Prelude.{◌≡◌, ℕ, ◌<◌, ◌≤◌, List, [], ◌∷◌, ◌++◌, map, Option, Some, None, IsTrue}
use Rattle.bank_tables.specs.Items.{has}
use Rattle.bank_tables.specs.Tables.{Tables}
use Rattle.form_model.specs.Plan.{Plan}
use Rattle.form_model.specs.Forms.{Meets}
use Rattle.history_model.specs.declared.entry.Entry.{Entry}
use Rattle.history_model.specs.Judging.{Record, MayFollow}
use Rattle.exam_session.specs.Ledgers.{Ledger}
use Rattle.answer_journal.specs.Journal.{JournalState, length_of, limit_of, start_of, tells_of, payloads_of, IsReady, IsDoubtful, accounts_of, faults_of}
use Rattle.answer_journal.specs.Walk.{first_gate}
use Rattle.exam_records.specs.Shape.{IsRecord}
use Rattle.exam_records.specs.Spelling.{payload_of}
use Rattle.exam_office.specs.declared.mark.Mark.{Mark}
use Rattle.exam_office.specs.declared.mark.Mark.TheVariants.{Fault}
use Rattle.exam_office.specs.Files.{AreRecordsOf}
use Rattle.exam_office.specs.Marks.{history, reach, AreMarks, AreCounted}
use Rattle.exam_office.specs.Moments.{AreMoments}
use Rattle.exam_office.specs.Running.{HandedDisk}

-- nothing is in doubt: the journal holds records of the history
pub record IsSure {D : Type 0} (b : Tables) (plan : Plan) (H : List Entry)
    (journal : JournalState D) : Type 0 where
  pub records : List Record
  pub are : AreRecordsOf b plan 2 H records
  pub ready : IsReady journal
  pub holds : IsTrue (tells_of journal) → payloads_of journal ≡ map payload_of records

-- a record of the entry is in doubt after them, and its fault is the last mark
pub record IsUnsure {D : Type 0} (b : Tables) (plan : Plan) (marks : List Mark) (entry : Entry)
    (room : ℕ)
    (journal : JournalState D) : Type 0 where
  pub records : List Record
  pub are : AreRecordsOf b plan 2 (history marks) records
  pub last : Record
  pub is_entry : last.entry ≡ entry
  pub spells : IsRecord last
  pub may : MayFollow b plan (history marks) last.entry last.tree
  pub doubtful : IsDoubtful (map payload_of records) (payload_of last) journal
  pub has_room : 0 < room
  pub before : List Mark
  pub fault : marks ≡ before ++ Fault entry ∷ []

abbrev pub IsBacked : {D : Type 0} → Tables → Plan → List Mark → ℕ → JournalState D → Option Entry
    → Type 0
IsBacked b plan marks room journal None = IsSure b plan (history marks) journal
IsBacked b plan marks room journal (Some entry) = IsUnsure b plan marks entry room journal

-- what its type keeps, with the disk as it was handed in
pub record IsKept {D : Type 0} (b : Tables) (plan : Plan) (base : List ℕ) (book : Ledger)
    (journal : JournalState D) (marks : List Mark)
    (doubt : Option Entry) (opened : HandedDisk) : Type 0 where
  pub bank : book.bank ≡ b
  pub plan_is : book.plan ≡ plan
  pub entries : book.entries ≡ history marks
  pub size : length_of journal ≡ reach marks
  pub limit : limit_of journal ≡ plan.journal
  pub start : IsTrue (tells_of journal) → start_of journal ≡ first_gate opened.content
  pub marks_are : AreMarks marks
  pub counted : AreCounted marks opened.faults (faults_of journal)
  pub grows : opened.faults ≤ faults_of journal
  pub backed : IsBacked b plan marks book.room journal doubt
  pub base_is : Meets b plan (has base)
  pub moments : IsTrue (tells_of journal)
      → AreMoments b plan opened.accounts marks (accounts_of journal)
