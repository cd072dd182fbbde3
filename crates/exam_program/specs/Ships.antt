-- What a shipper does, from the opening of its journal to its close.
use Rattle.std.specs.Prelude.{◌≡◌, ℕ, Bool, IsTrue, List, length, Some}
use Rattle.answer_journal.specs.Versions.{contents, second}
use Rattle.bank_tables.specs.Tables.{Tables}
use Rattle.command_line.specs.Commands.{Ship, command_of}
use Rattle.exam_follower.specs.Followers.{AreSpelled}
use Rattle.exam_office.specs.Noting.{NotedMark}
use Rattle.exam_program.specs.Bases.{IsBaseForm}
use Rattle.exam_program.specs.Halts.{Reads}
use Rattle.exam_program.specs.Links.{IsLastOfShip}
use Rattle.exam_program.specs.Outside.{Outside}
use Rattle.exam_program.specs.Runs.{EndsWith}
use Rattle.exam_program.specs.Serves.{IsExamined}
use Rattle.form_model.specs.Plan.{Plan}
use Rattle.history_model.specs.declared.entry.Entry.{Entry}
use Rattle.record_doors.specs.declared.door_end.DoorEnd.{DoorEnd}
use Rattle.record_doors.specs.declared.door_end.DoorEnd.TheVariants.{NoLink}
use Rattle.record_doors.specs.Doors.{IsFirstOnly, IsShippedDoor}

-- the words ask to ship; the files are read, and this is the base form
pub record IsShipOf (words : List (List ℕ)) (o : Outside) (b : Tables) (p : Plan)
    (base : List ℕ) : Type 0 where
  pub bank : List ℕ
  pub plan : List ℕ
  pub asked : command_of words ≡ Some (Ship bank plan)
  pub reads : Reads o.named o.content bank plan b p
  pub is_base : IsBaseForm b p base

-- the work of a shipper: whether its disk reports its content, the records that it ships, and how
-- the work at its door ended
pub record ShipSeen : Type 0 where
  pub told : Bool
  pub records : List (List ℕ)
  pub end : DoorEnd

module _ {D K : Type 0} (tells : D → Bool) (coming returned : D → List K) (is_out : D → Bool)
    (faults identity : D → ℕ)
    (link_tells : K → Bool) (left written : K → List ℕ) (link_faults link_identity : K → ℕ) where
  -- the records were shipped over one link of the first door, and nothing became of the other
  -- doors. No door counts as one without links
  abbrev pub AreShipped : List D → List D → ShipSeen → Type 0
  AreShipped doors back work = IsFirstOnly
      (λ door after. IsShippedDoor tells coming returned is_out faults identity
      link_tells left written link_faults link_identity work.told work.records door after work.end)
      (work.end ≡ NoLink) doors back

-- a shipper's journal was opened, records were shipped, and this is printed at the end. The records
-- are those of the file, and spell its history H, as many as it has entries. The file stands for
-- the same history afterwards: the marks of the office are those of its opening
pub record IsShippedBy (words : List (List ℕ)) (o : Outside) (work : ShipSeen) (status : ℕ)
    (text : List ℕ) : Type 0 where
  pub b : Tables
  pub plan : Plan
  pub base : List ℕ
  pub H : List Entry
  pub opened : List NotedMark
  pub is : IsShipOf words o b plan base
  pub examined : IsExamined b plan base o.disk opened opened H
  pub told_is : work.told ≡ o.disk.told
  pub found : IsTrue o.disk.told → contents o.disk.found ≡ Some (second work.records)
  pub spelled : IsTrue o.disk.told → AreSpelled work.records H
  pub count : length work.records ≡ length H
  pub last : IsLastOfShip plan.journal work.end status text

-- how a shipper ends whose journal was opened
pub record ShipEnds (Ships : ShipSeen → Type 0) (words : List (List ℕ)) (o : Outside)
    (told : Bool) (old new : List ℕ) (result : ℕ) : Type 0 where
  pub work : ShipSeen
  pub ships : Ships work
  pub ends : EndsWith (IsShippedBy words o work) told old new result
