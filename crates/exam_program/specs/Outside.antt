-- What a run finds outside, and what it leaves there.
use Rattle.std.specs.Prelude.{◌≡◌, ℕ, Bool, IsTrue, List}
use Rattle.bank_tables.specs.Tables.{Tables}
use Rattle.exam_edge.specs.Images.{Account, IsImage, IsWithin, AllImages, AtEachMoment, settled, latest}
use Rattle.exam_office.specs.Files.{IsImageOrStands, Stands}
use Rattle.form_model.specs.Plan.{Plan}
use Rattle.history_model.specs.declared.entry.Entry.{Entry}

-- the disk of the journal: whether it reports its content, its count of faults before and after,
-- the file that was found and the one that is left, the accounts of what a crash might leave
-- before, and of what it may leave after, and the accounts at each moment so far, before and after
pub record DiskSeen : Type 0 where
  pub told : Bool
  pub before : ℕ
  pub after : ℕ
  pub found : List ℕ
  pub left : List ℕ
  pub images_before : Account
  pub images : Account
  pub moments_before : List Account
  pub moments : List Account

-- the names that have files, what these hold, and the files' count of faults before and after; and
-- the disk
pub record Outside : Type 0 where
  pub named : List ℕ → Bool
  pub content : List ℕ → List ℕ
  pub files_before : ℕ
  pub files_after : ℕ
  pub disk : DiskSeen

abbrev pub outside : (List ℕ → Bool) → (List ℕ → List ℕ) → ℕ → ℕ → DiskSeen → Outside
outside named content before after disk =
    record {
      named = named;
      content = content;
      files_before = before;
      files_after = after;
      disk = disk;
    }

-- a disk, from what it reports, as it was before and as it is after
abbrev pub disk_seen : {D : Type 0} → (D → Bool) → (D → List ℕ) → (D → List Account) → (D → ℕ) → D
    → D → DiskSeen
disk_seen tells content accounts faults old new = record {
  told = tells old;
  before = faults old;
  after = faults new;
  found = content old;
  left = content new;
  images_before = latest (accounts old);
  images = latest (accounts new);
  moments_before = accounts old;
  moments = accounts new;
}

-- if the disk reports its content, the file is left as it was found, and each file that a crash may
-- leave, now or at a moment since, is one that it might have left before
pub record IsUntouched (disk : DiskSeen) : Type 0 where
  pub left : IsTrue disk.told → disk.left ≡ disk.found
  pub images : IsTrue disk.told → AllImages (IsImage disk.images_before) disk.images
  pub moments : IsTrue disk.told
      → AtEachMoment disk.moments_before disk.moments (IsImage disk.images_before)

-- the disk was settled: a crash would have left the file that was found, and nothing else
abbrev pub WasSettled : DiskSeen → Type 0
WasSettled disk = IsWithin disk.images_before (settled disk.found)

-- if the disk reports its content, a file that represented a history keeps it: the file that is
-- left represents that history, or a crash might have left it before, and so it is of each file
-- that a crash may leave, now or at a moment since
pub record KeepsHistory (b : Tables) (plan : Plan) (disk : DiskSeen) : Type 0 where
  pub left : IsTrue disk.told → (H : List Entry) → Stands b plan H disk.found
      → IsImageOrStands b plan H disk.images_before disk.left
  pub images : IsTrue disk.told → (H : List Entry) → Stands b plan H disk.found
      → AllImages (IsImageOrStands b plan H disk.images_before) disk.images
  pub moments : IsTrue disk.told → (H : List Entry) → Stands b plan H disk.found
      → AtEachMoment disk.moments_before disk.moments
      (IsImageOrStands b plan H disk.images_before)

-- the file that is left represents this history, and so does each file that a crash may leave, now
-- or at a moment since
pub record IsHistoryKept (b : Tables) (plan : Plan) (disk : DiskSeen) (H : List Entry) : Type 0 where
  pub left : Stands b plan H disk.left
  pub images : AllImages (Stands b plan H) disk.images
  pub moments : AtEachMoment disk.moments_before disk.moments (Stands b plan H)
