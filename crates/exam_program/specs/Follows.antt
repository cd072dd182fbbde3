-- What a follower does, from the opening of its journal to its close.
use Rattle.std.specs.Prelude.{◌≡◌, ℕ, ◌++◌, ◌∷◌, [], Bool, IsTrue, List, drop, length, map, Some}
use Rattle.answer_journal.specs.Payload.{end_of}
use Rattle.answer_journal.specs.Versions.{contents, second}
use Rattle.bank_tables.specs.Tables.{Tables}
use Rattle.command_line.specs.Commands.{Follow, command_of}
use Rattle.exam_follower.specs.Followers.{AreSpelled, IsFollowing}
use Rattle.exam_office.specs.declared.mark.Mark.TheVariants.{Old, Opened}
use Rattle.exam_office.specs.Noting.{NotedMark, marks_of}
use Rattle.exam_program.specs.Bases.{IsBaseForm}
use Rattle.exam_program.specs.Halts.{Reads}
use Rattle.exam_program.specs.Links.{IsLastOfFollow}
use Rattle.exam_program.specs.Outside.{Outside}
use Rattle.exam_program.specs.Runs.{EndsWith}
use Rattle.exam_program.specs.Serves.{IsExamined}
use Rattle.form_model.specs.Plan.{Plan}
use Rattle.history_model.specs.declared.entry.Entry.{Entry}
use Rattle.history_model.specs.Summaries.{summary}
use Rattle.record_doors.specs.declared.door_end.DoorEnd.{DoorEnd}
use Rattle.record_doors.specs.declared.door_end.DoorEnd.TheVariants.{NoLink}
use Rattle.record_doors.specs.Doors.{IsFirstOnly, IsFollowedDoor}
use Rattle.record_links.specs.Replicas.{Held, sure}

-- the words ask to follow; the files are read, and this is the base form
pub record IsFollowOf (words : List (List ℕ)) (o : Outside) (b : Tables) (p : Plan)
    (base : List ℕ) : Type 0 where
  pub bank : List ℕ
  pub plan : List ℕ
  pub asked : command_of words ≡ Some (Follow bank plan)
  pub reads : Reads o.named o.content bank plan b p
  pub is_base : IsBaseForm b p base

-- what a follower found: the records of its file, their entries, and the length of its journal once
-- it was opened
pub record FoundRecords : Type 0 where
  pub records : List (List ℕ)
  pub entries : List Entry
  pub size : ℕ

-- the work of a follower by a bank and a plan: what it found, its records in the end, and how the
-- work at its door ended
pub record FollowSeen : Type 0 where
  pub b : Tables
  pub plan : Plan
  pub found : FoundRecords
  pub final : Held
  pub end : DoorEnd

-- the records found, and records taken since that may follow them one after another by the rules of
-- examinations
abbrev pub may_follow : FollowSeen → List (List ℕ) → List ℕ → Type 0
may_follow work = IsFollowing work.b work.plan work.found.records work.found.entries

-- the length of the journal with these records
abbrev pub size_with : FollowSeen → List (List ℕ) → ℕ
size_with work records = end_of work.found.size (drop (length work.found.entries) records)

module _ {D K : Type 0} (tells : D → Bool) (coming returned : D → List K) (is_out : D → Bool)
    (faults identity : D → ℕ)
    (link_tells : K → Bool) (left written : K → List ℕ) (link_faults link_identity : K → ℕ) where
  -- the links of the first door were followed from the records found to those in the end, and
  -- nothing became of the other doors. No door counts as one without links
  abbrev pub AreFollowed : List D → List D → FollowSeen → Type 0
  AreFollowed doors back work = IsFirstOnly
      (λ door after. IsFollowedDoor tells coming returned is_out faults identity
      link_tells left written link_faults link_identity (may_follow work) (size_with work)
      work.plan.journal (sure work.found.records) door after work.final work.end)
      ((work.end ≡ NoLink) × (work.final ≡ sure work.found.records)) doors back

-- a follower's journal was opened, links were followed, and this is printed at the end. The records
-- found are those of the file. The records in the end are those of the history H, for which the
-- file stands, or, with one record in doubt, for H with that one. If each link ended well, the
-- count and the numbers printed are those of H
pub record IsFollowedBy (words : List (List ℕ)) (o : Outside) (work : FollowSeen) (status : ℕ)
    (text : List ℕ) : Type 0 where
  pub base : List ℕ
  pub H : List Entry
  pub opened : List NotedMark
  pub closed : List NotedMark
  pub is : IsFollowOf words o work.b work.plan base
  pub examined : IsExamined work.b work.plan base o.disk opened closed H
  pub begins : marks_of opened ≡ map Old work.found.entries ++ Opened work.found.size ∷ []
  pub found : IsTrue o.disk.told → contents o.disk.found ≡ Some (second work.found.records)
  pub spelled : IsTrue o.disk.told → AreSpelled work.final.records H
  pub last : IsLastOfFollow work.plan.journal (length H) (summary work.plan H) work.end status text

-- how a follower ends whose journal was opened
pub record FollowEnds (Follows : FollowSeen → Type 0) (words : List (List ℕ)) (o : Outside)
    (told : Bool) (old new : List ℕ) (result : ℕ) : Type 0 where
  pub work : FollowSeen
  pub follows : Follows work
  pub ends : EndsWith (IsFollowedBy words o work) told old new result
