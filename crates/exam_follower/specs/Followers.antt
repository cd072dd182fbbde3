-- A follower over an office: the records that it has, and the rule by which one may follow them.
use Rattle.std.specs.Prelude.{◌≡◌, ℕ, if◌then◌else◌, List, [], ◌++◌, fold, length, drop, map, IsTrue, Option, Some, None}
use Rattle.std.specs.List.{AllByRecursion, filter_map}
use Rattle.std.specs.Option.{option_map}
use Rattle.bank_tables.specs.Tables.{Tables}
use Rattle.form_model.specs.Plan.{Plan}
use Rattle.exam_edge.specs.Lent.{IsLent}
use Rattle.history_model.specs.declared.entry.Entry.{Entry}
use Rattle.history_model.specs.Judging.{Record, MayFollow, entries_of}
use Rattle.exam_records.specs.Shape.{IsRecord}
use Rattle.exam_records.specs.Spelling.{payload_of}
use Rattle.answer_journal.specs.Journal.{tells_of, identity_of, faults_of, payloads_of, IsDoubtful}
use Rattle.answer_journal.specs.Payload.{end_of}
use Rattle.answer_journal.specs.Versions.{counted_in}
use Rattle.exam_office.specs.declared.mark.Mark.{Mark}
use Rattle.exam_office.specs.declared.mark.Mark.TheVariants.{Old, Opened}
use Rattle.exam_office.specs.Marks.{history, reach}
use Rattle.exam_office.specs.Running.{Running}
use Rattle.exam_office.specs.Writing.{IsSameOffice}
use Rattle.record_links.specs.Replicas.{Held}

-- a follower as contracts see it: its office, the records that it took since it was opened, and
-- the record in doubt
pub record FollowerState (D : Type 0) : Type 0 where
  pub office : Running D
  pub taken : List Record
  pub doubt : Option Record

-- ---- what the office found when it was opened
abbrev pub old_entry : Mark → Option Entry
old_entry (Old entry) = Some entry
old_entry mark = None

abbrev pub found : List Mark → List Entry
found marks = filter_map old_entry marks

abbrev pub size_opened : ℕ → Mark → ℕ
size_opened size (Opened now) = now
size_opened size mark = size

-- the length of the journal then
abbrev pub opened_size : List Mark → ℕ
opened_size marks = fold size_opened 0 marks

-- an entry spelled without its proof tree
abbrev pub bare : Entry → List ℕ
bare entry = payload_of (record { entry = entry; tree = None })

-- the payloads in the file then. Of a disk that does not report its content only the entries are
-- known
abbrev pub found_payloads : {D : Type 0} → Running D → List (List ℕ)
found_payloads office =
    if tells_of office.journal
    then (counted_in office.opened.content).payloads
    else map bare (found office.marks)

-- ---- its records
abbrev pub records_of : {D : Type 0} → FollowerState D → List (List ℕ)
records_of f = found_payloads f.office ++ map payload_of f.taken

abbrev pub held_of : {D : Type 0} → FollowerState D → Held
held_of f = record { records = records_of f; doubt = option_map payload_of f.doubt }

-- payloads of records of these entries
pub record AreSpelled (ps : List (List ℕ)) (H : List Entry) : Type 0 where
  pub records : List Record
  pub spell : AllByRecursion IsRecord records
  pub payloads : ps ≡ map payload_of records
  pub entries : entries_of records ≡ H

-- after records of which the first were found, with these entries, the payload spells a record that
-- may follow
pub record IsFollowing (b : Tables) (plan : Plan) (first : List (List ℕ)) (H : List Entry)
    (records : List (List ℕ)) (payload : List ℕ) : Type 0 where
  pub taken : List Record
  pub spell : AllByRecursion IsRecord taken
  pub are : records ≡ first ++ map payload_of taken
  pub last : Record
  pub spells : IsRecord last
  pub is : payload_of last ≡ payload
  pub may : MayFollow b plan (H ++ entries_of taken) last.entry last.tree

-- the rule of a follower
abbrev pub may_follow : {D : Type 0} → FollowerState D → List (List ℕ) → List ℕ → Type 0
may_follow f =
    IsFollowing f.office.bank f.office.plan (found_payloads f.office) (found f.office.marks)

-- the rule of all openings, which is of the bank and the plan alone: the records spell entries, and
-- the payload a record that may follow these
abbrev pub lasting_rule : {D : Type 0} → FollowerState D → List (List ℕ) → List ℕ → Type 0
lasting_rule f = IsFollowing f.office.bank f.office.plan [] []

-- the length of the journal with these records, of which the first were found
abbrev pub size_with : {D : Type 0} → FollowerState D → List (List ℕ) → ℕ
size_with f records =
    end_of (opened_size f.office.marks) (drop (length (found f.office.marks)) records)

abbrev pub limit_of : {D : Type 0} → FollowerState D → ℕ
limit_of f = f.office.plan.journal

-- what no call changes of a follower
pub record IsSameFollower {D : Type 0} (old new : FollowerState D) : Type 0 where
  pub same : IsSameOffice old.office new.office
  pub found_same : found new.office.marks ≡ found old.office.marks
  pub opened_same : opened_size new.office.marks ≡ opened_size old.office.marks
  pub frame : IsLent tells_of identity_of faults_of old.office.journal new.office.journal

-- ---- what its type keeps
-- the record in doubt is that of the office; with none in doubt the journal has the records
abbrev pub IsSureOrNot : {D : Type 0} → Running D → List (List ℕ) → Option Record → Type 0
IsSureOrNot office ps None =
    (office.doubt ≡ None) × (IsTrue (tells_of office.journal) → payloads_of office.journal ≡ ps)
IsSureOrNot office ps (Some last) =
    (office.doubt ≡ Some last.entry) × IsRecord last
    × IsDoubtful ps (payload_of last) office.journal

pub record IsFollower {D : Type 0} (f : FollowerState D) : Type 0 where
  pub spell : AllByRecursion IsRecord f.taken
  pub entries : history f.office.marks ≡ found f.office.marks ++ entries_of f.taken
  pub size : reach f.office.marks ≡ end_of (opened_size f.office.marks) (map payload_of f.taken)
  pub first : IsTrue (tells_of f.office.journal)
      → AreSpelled (found_payloads f.office) (found f.office.marks)
  pub sure : IsSureOrNot f.office (records_of f) f.doubt
