-- What a migration does to the journal's file.
use Rattle.std.specs.Prelude.{◌≡◌, ◌⊎◌, ℕ, ◌≤◌, IsTrue, List, length}
use Rattle.bank_tables.specs.Tables.{Tables}
use Rattle.answer_journal.specs.Moving.{IsUnmoved}
use Rattle.answer_journal.specs.Standing.{IsBeingSwitched}
use Rattle.answer_journal.specs.Versions.{counted_in}
use Rattle.exam_edge.specs.Images.{AllImages, AtEachMoment, IsClean, IsImage, IsSettled}
use Rattle.form_model.specs.Plan.{Plan}
use Rattle.history_model.specs.declared.entry.Entry.{Entry}
use Rattle.exam_office.specs.declared.migrating.Moved.{Moved}
use Rattle.exam_office.specs.declared.migrating.MigrateFault.{MigrateFault}
use Rattle.exam_office.specs.declared.migrating.MigrateFault.TheVariants as fault
use Rattle.exam_office.specs.Files.{Stands, StandsSecond}
use Rattle.exam_office.specs.Migrating.{IsMigrated, IsOldFile, IsTooLongMoved}
use Rattle.exam_program.specs.declared.halt.Halt.{Halt}
use Rattle.exam_program.specs.declared.halt.Halt.TheVariants as halt
use Rattle.exam_program.specs.Outside.{DiskSeen, IsUntouched, KeepsHistory}

-- a migration was done: the file represented a history, and represents it by records of the second
-- version now, within the journal's limit. A crash leaves nothing but this file, if nothing was
-- suspect before, or if the gate that moves the journal was being opened
pub record IsMigrationDone (b : Tables) (plan : Plan) (disk : DiskSeen)
    (done : Moved) : Type 0 where
  pub migrated : IsTrue disk.told → IsMigrated b plan disk.found disk.left disk.moments done
  pub stands : IsTrue disk.told → (H : List Entry) → Stands b plan H disk.found
      → StandsSecond b plan H disk.left
  pub short : IsTrue disk.told → length disk.left ≤ plan.journal
  pub images : IsTrue disk.told → IsClean disk.images_before
      → AllImages (λ file. file ≡ disk.left) disk.images
  pub switched : IsTrue disk.told → IsBeingSwitched disk.moments_before
      → IsSettled disk.left disk.moments
  pub keeps : KeepsHistory b plan disk

-- a migration ended early: the file keeps its history; it is as it was found, unless it represented
-- a history by records of the first version
pub record IsMigrationCutOff (b : Tables) (plan : Plan) (disk : DiskSeen) : Type 0 where
  pub keeps : KeepsHistory b plan disk
  pub unwritten : IsTrue disk.told → IsOldFile b plan disk.found
      ⊎ ((disk.left ≡ disk.found)
      × AtEachMoment disk.moments_before disk.moments (IsImage disk.images_before))

-- records of the first version that counted still do
abbrev pub IsStillUnmoved : DiskSeen → Type 0
IsStillUnmoved disk = IsTrue disk.told → (counted_in disk.found).version ≡ 1
    → IsUnmoved (counted_in disk.found).payloads disk.left

-- the file is of the first version, and of this length once it is moved, above the journal's limit;
-- it is as it was found
pub record IsMigrationFull (b : Tables) (plan : Plan) (disk : DiskSeen) (size : ℕ) : Type 0 where
  pub long : IsTrue disk.told → IsTooLongMoved b plan disk.found size
  pub untouched : IsUntouched disk

-- why a migration that is not done ends the command
abbrev pub migration_halt : Plan → MigrateFault → Halt
migration_halt plan (fault.Open why) = halt.Journal why
migration_halt plan (fault.Full size) = halt.JournalFull size plan.journal
migration_halt plan fault.Disk = halt.Disk
migration_halt plan fault.Memory = halt.Memory
