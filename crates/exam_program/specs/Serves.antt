-- What a server does, from the opening of its journal to the close of its office.
use Rattle.std.specs.Prelude.{◌≡◌, ℕ, ◌≤◌, IsTrue, List, [], ◌∷◌, ◌++◌, length, map, Option, Some, None}
use Rattle.bank_tables.specs.Tables.{Tables}
use Rattle.exam_edge.specs.Images.{AllImages}
use Rattle.form_model.specs.Plan.{Plan}
use Rattle.history_model.specs.declared.entry.Entry.{Entry}
use Rattle.history_model.specs.Legality.{LegalRun}
use Rattle.exam_office.specs.Files.{StandsSecond}
use Rattle.exam_office.specs.declared.mark.Mark.TheVariants.{Old, Opened}
use Rattle.exam_office.specs.Marks.{history, reach, AreMarks, AreCounted}
use Rattle.exam_office.specs.Moments.{AreMoments}
use Rattle.exam_office.specs.Noting.{OpenedWith, NotedMark, noted, marks_of, IsDoubtOf}
use Rattle.exam_office.specs.Writing.{IsMending}
use Rattle.exam_serve.specs.declared.serve.End.{End}
use Rattle.exam_serve.specs.declared.serve.End.TheVariants.{Done, Starved, DoorFailed}
use Rattle.exam_program.specs.Bases.{IsBaseForm}
use Rattle.command_line.specs.Commands.{Serve, command_of}
use Rattle.exam_program.specs.Halts.{Reads}
use Rattle.exam_program.specs.Outside.{Outside, DiskSeen}
use Rattle.exam_program.specs.Texts.{disk_failed, door_failed}
use Rattle.exam_lines.specs.Texts.{summary_text}
use Rattle.exam_text.specs.Texts.{no_memory}
use Rattle.history_model.specs.Summaries.{summary}

-- the words ask for a server; its files are read, and this is the base form
pub record IsServeOf (words : List (List ℕ)) (o : Outside) (b : Tables) (p : Plan)
    (base : List ℕ) : Type 0 where
  pub bank : List ℕ
  pub plan : List ℕ
  pub ahead : Option ℕ
  pub asked : command_of words ≡ Some (Serve bank plan ahead)
  pub reads : Reads o.named o.content bank plan b p
  pub is_base : IsBaseForm b p base

-- an office was opened on the disk, with this bank, plan and base form
pub record IsOpenedOn (office : OpenedWith) (b : Tables) (plan : Plan) (base : List ℕ)
    (disk : DiskSeen) : Type 0 where
  pub bank : office.bank ≡ b
  pub plan_is : office.plan ≡ plan
  pub base_is : office.base ≡ base
  pub told : office.tells ≡ disk.told
  pub handed : office.disk ≡ record {
    content = disk.found;
    accounts = disk.moments_before;
    faults = disk.before;
  }

-- the marks of an office that was opened with a history, each with what the office was opened with
pub record AreOpening (office : OpenedWith) (found : List Entry) (opened : List NotedMark)
    : Type 0 where
  pub size : ℕ
  pub is : opened ≡ noted office (map Old found ++ Opened size ∷ [])

-- the file that was found is within the journal's limit and represents a history by records of the
-- second version, with which an office was opened. The office's marks at the close have the history
-- H, a legal run that begins with the one that was found; they keep the rules of marks, and have no
-- more faults than the disk counted. The file that is left, and each that a crash may leave,
-- represents H, or H with the one entry in doubt; with none in doubt its length is that of the last
-- mark that has one. While the journal was opened, each file that a crash may leave represents the
-- history found, or is one that a crash might have left before; at each moment since, it represents
-- the history of the marks so far, or that with the one entry in hand
pub record IsExamined (b : Tables) (plan : Plan) (base : List ℕ) (disk : DiskSeen)
    (opened closed : List NotedMark) (H : List Entry) : Type 0 where
  pub office : OpenedWith
  pub is_of : IsOpenedOn office b plan base disk
  pub found : List Entry
  pub stands : IsTrue disk.told → StandsSecond b plan found disk.found
  pub short : IsTrue disk.told → length disk.found ≤ plan.journal
  pub opening : AreOpening office found opened
  pub same_office : closed ≡ noted office (marks_of closed)
  pub history_is : H ≡ history (marks_of closed)
  pub legal : LegalRun b plan H
  pub added : List Entry
  pub extends : H ≡ found ++ added
  pub doubt : Option Entry
  pub doubt_is : IsDoubtOf (marks_of closed) doubt
  pub marks_are : AreMarks (marks_of closed)
  pub counted : AreCounted (marks_of closed) disk.before disk.after
  pub length_is : IsTrue disk.told → doubt ≡ None → length disk.left ≡ reach (marks_of closed)
  pub left : IsTrue disk.told → IsMending b plan H doubt disk.left
  pub images : IsTrue disk.told → AllImages (IsMending b plan H doubt) disk.images
  pub moments : IsTrue disk.told
      → AreMoments b plan disk.moments_before (marks_of closed) disk.moments

-- the work at the doors: the marks of the office when the journal was opened, and at the close,
-- each with what the office was opened with; and how the work ended
pub record WorkSeen : Type 0 where
  pub opened : List NotedMark
  pub closed : List NotedMark
  pub end : End

-- what is printed after the work, with the status: the numbers of the history, or that memory for
-- them ran out, or that the disk failed; or that a door failed. The status of the numbers is 10 if
-- a connection ended for lack of memory
pub data IsLast (plan : Plan) (H : List Entry) : End → ℕ → List ℕ → Type 0 where
  numbers : IsLast plan H Done 0 (summary_text (summary plan H))
  no_numbers : IsLast plan H Done 10 no_memory
  a_disk : IsLast plan H Done 9 disk_failed
  starved_numbers : IsLast plan H Starved 10 (summary_text (summary plan H))
  starved_no_numbers : IsLast plan H Starved 10 no_memory
  starved_disk : IsLast plan H Starved 9 disk_failed
  a_door : IsLast plan H DoorFailed 14 door_failed

-- a server's journal was opened, connections were served, and this is printed at the end
pub record IsServedBy (words : List (List ℕ)) (o : Outside) (work : WorkSeen) (status : ℕ)
    (text : List ℕ) : Type 0 where
  pub b : Tables
  pub plan : Plan
  pub base : List ℕ
  pub H : List Entry
  pub is : IsServeOf words o b plan base
  pub examined : IsExamined b plan base o.disk work.opened work.closed H
  pub last : IsLast plan H work.end status text
