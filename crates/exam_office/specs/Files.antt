-- The history that the bytes of a file represent.
use Rattle.std.specs.Prelude.{◌≡◌, ◌⊎◌, ℕ, ◌==◌, if◌then◌else◌, List, map, Some}
use Rattle.std.specs.List.{AllByRecursion}
use Rattle.bank_tables.specs.Tables.{Tables}
use Rattle.exam_edge.specs.Images.{Account, IsImage}
use Rattle.form_model.specs.Plan.{Plan}
use Rattle.serving_model.specs.Seats.{first_band}
use Rattle.history_model.specs.declared.entry.Entry.{Entry}
use Rattle.history_model.specs.Judging.{Record, entries_of, Backed}
use Rattle.exam_records.specs.Shape.{HasNoList, IsRecord}
use Rattle.exam_records.specs.Spelling.{payload_of, old_payload_of}
use Rattle.answer_journal.specs.Versions.{Counted, contents}

-- a record that has a spelling in a version: in the first no start has a list
pub record IsRecordIn (version : ℕ) (r : Record) : Type 0 where
  pub is_record : IsRecord r
  pub unlisted : version ≡ 1 → HasNoList r.entry

-- the records of a history in a version: each has a spelling and may follow the entries before it
pub record AreRecordsOf (b : Tables) (plan : Plan) (version : ℕ) (H : List Entry)
    (R : List Record) : Type 0 where
  pub spell : AllByRecursion (IsRecordIn version) R
  pub backed : Backed b plan R
  pub entries : entries_of R ≡ H

-- the payload of a record by its version. The first keeps of a start the eligible set of the band
-- where each session begins, and of a setting aside neither the step nor the band; these follow
-- from the entries before. The second keeps all
abbrev pub payload_in : Tables → Plan → (version : ℕ) → Record → List ℕ
payload_in b plan version r =
    if version == 1 then old_payload_of (first_band b plan) r else payload_of r

-- payloads of these records, by their version
abbrev pub counted_of : Tables → Plan → (version : ℕ) → List Record → Counted
counted_of b plan version R =
    record { version = version; payloads = map (payload_in b plan version) R }

-- a file represents a history: its payloads that count are those of records of that history, by the
-- version of its records
pub record Stands (b : Tables) (plan : Plan) (H : List Entry) (file : List ℕ) : Type 0 where
  pub records : List Record
  pub version : ℕ
  pub are : AreRecordsOf b plan version H records
  pub holds : contents file ≡ Some (counted_of b plan version records)

-- a file represents a history by records of the second version, the only ones that an office
-- writes
pub record StandsSecond (b : Tables) (plan : Plan) (H : List Entry) (file : List ℕ) : Type 0 where
  pub stands : Stands b plan H file
  pub second : stands.version ≡ 2

-- a file that a crash might have left before, or one that represents the history
abbrev pub IsImageOrStands : Tables → Plan → List Entry → Account → List ℕ → Type 0
IsImageOrStands b plan H before file = IsImage before file ⊎ Stands b plan H file

-- the same, by records of the second version
abbrev pub IsImageOrStandsSecond : Tables → Plan → List Entry → Account → List ℕ → Type 0
IsImageOrStandsSecond b plan H before file = IsImage before file ⊎ StandsSecond b plan H file
