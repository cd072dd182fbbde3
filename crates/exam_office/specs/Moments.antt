-- The marks of an office and the moments of its disk, side by side.
use Rattle.std.specs.Prelude.{◌≡◌, ℕ, List, [], ◌∷◌, ◌++◌, map, Option}
use Rattle.bank_tables.specs.Tables.{Tables}
use Rattle.exam_edge.specs.Images.{Account, AllImages, AtEachMoment, latest}
use Rattle.form_model.specs.Plan.{Plan}
use Rattle.history_model.specs.declared.entry.Entry.{Entry}
use Rattle.exam_office.specs.declared.mark.Mark.{Mark}
use Rattle.exam_office.specs.declared.mark.Mark.TheVariants.{Old, Opened, Own, Adopted, Fault}
use Rattle.exam_office.specs.Files.{IsImageOrStandsSecond, StandsSecond}
use Rattle.exam_office.specs.Marks.{history, AreMarks}
use Rattle.exam_office.specs.Noting.{IsDoubtOf}
use Rattle.exam_office.specs.Writing.{IsMending, IsWriting}

-- the moments while a file was opened that represents this history, from the last of those before
-- it was handed in, when a crash might have left what this account has. Each file that a crash may
-- leave is one that it might have left before, or represents the history. From the last of these
-- moments on it represents the history
pub record AreOpeningMoments (b : Tables) (plan : Plan) (H : List Entry) (was : Account)
    (before now : List Account) : Type 0 where
  pub each : AtEachMoment before now (IsImageOrStandsSecond b plan H was)
  pub opened : AllImages (StandsSecond b plan H) (latest now)

-- an entry is in hand, with these marks before and after: it is written, or the disk fails; or it
-- was in doubt, and is then kept, or dropped, or the disk fails again
pub data IsInHand (entry : Entry) : List Mark → List Mark → Type 0 where
  written : (M : List Mark) (size : ℕ) → IsInHand entry M (M ++ Own entry size ∷ [])
  failed : (M : List Mark) → IsInHand entry M (M ++ Fault entry ∷ [])
  kept : (M : List Mark) (size : ℕ) → IsInHand entry (M ++ Fault entry ∷ [])
      ((M ++ Fault entry ∷ []) ++ Adopted entry size ∷ [])
  dropped : (M : List Mark) → IsInHand entry (M ++ Fault entry ∷ []) (M ++ Fault entry ∷ [])

-- the moments of a disk, from the last of those before it was handed in, while an office noted
-- these marks. First the office was opened with the history that was found: each file that a crash
-- may leave represents it, or is one that a crash might have left before. Then one entry after
-- another was in hand, and meanwhile each such file represents the history of the marks so far, or
-- that with the entry
pub data AreMoments (b : Tables) (plan : Plan) (before : List Account) : List Mark → List Account
    → Type 0 where
  opening : (H : List Entry) (size : ℕ) (now : List Account)
      → AreOpeningMoments b plan H (latest before) before now
      → AreMoments b plan before (map Old H ++ Opened size ∷ []) now
  one_more : (entry : Entry) (M N : List Mark) (now later : List Account)
      → AreMoments b plan before M now → IsInHand entry M N
      → AtEachMoment now later (IsWriting b plan (history M) entry)
      → AreMoments b plan before N later

-- a crash may leave the file at some moment of an office with these marks: it represents the
-- history of the office's marks at that moment, or that with the one entry in doubt then
pub record IsLeftOnTheWay (b : Tables) (plan : Plan) (marks : List Mark)
    (file : List ℕ) : Type 0 where
  pub before : List Mark
  pub since : List Mark
  pub is : marks ≡ before ++ since
  pub are_marks : AreMarks before
  pub doubt : Option Entry
  pub doubt_is : IsDoubtOf before doubt
  pub stands : IsMending b plan (history before) doubt file

-- the moments of a disk since it was handed in, with these marks of an office in the end. Up to the
-- one when the office was opened they are those of its opening with the history that was found;
-- from then on each file that a crash may leave is one of an office on the way
pub record AreOnTheWay (b : Tables) (plan : Plan) (before : List Account) (marks : List Mark)
    (now : List Account) : Type 0 where
  pub found : List Entry
  pub size : ℕ
  pub more : List Mark
  pub begins : marks ≡ (map Old found ++ Opened size ∷ []) ++ more
  pub opened : List Account
  pub opening : AreOpeningMoments b plan found (latest before) before opened
  pub since : AtEachMoment opened now (IsLeftOnTheWay b plan marks)
