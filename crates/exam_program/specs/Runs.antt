-- A run of the program, which may serve connections.
use Rattle.std.specs.Prelude.{◌≡◌, ◌⊎◌, ℕ, Bool, List}
use Rattle.exam_text.specs.Texts.{no_memory}
use Rattle.bank_tables.specs.Tables.{Tables}
use Rattle.form_model.specs.Plan.{Plan}
use Rattle.history_model.specs.declared.entry.Entry.{Entry}
use Rattle.history_model.specs.declared.summary.Summary.{Summary}
use Rattle.exam_office.specs.Noting.{NotedMark}
use Rattle.exam_serve.specs.declared.serve.End.{End}
use Rattle.exam_serve.specs.declared.serve.End.TheVariants.{Done, Starved, DoorFailed, Memory}
use Rattle.exam_lines.specs.Texts.{summary_text}
use Rattle.exam_program.specs.Outcomes.{Ends, LeavesJournal}
use Rattle.exam_program.specs.Outside.{Outside}
use Rattle.exam_program.specs.Serves.{WorkSeen, IsServeOf, IsExamined, IsServedBy}
use Rattle.exam_program.specs.Texts.{disk_failed, door_failed}
use Rattle.exam_program.specs.Writing.{IsWritten, WritesPart}

-- a text was written with its status; or, where the sink failed, a part of it, and the status is 8
abbrev pub IsLastWritten : Bool → List ℕ → List ℕ → ℕ → List ℕ → ℕ → Type 0
IsLastWritten told old new status text result =
    ((result ≡ status) × IsWritten told old new text) ⊎ ((result ≡ 8)
    × WritesPart told old new text)

-- so for a text and a status that these rules allow
pub record EndsWith (Allowed : ℕ → List ℕ → Type 0) (told : Bool) (old new : List ℕ)
    (result : ℕ) : Type 0 where
  pub status : ℕ
  pub text : List ℕ
  pub is_allowed : Allowed status text
  pub written : IsLastWritten told old new status text result

-- how a run ends. No connection was served: an outcome of the command, and the doors are as they
-- were. Or connections were served, by an office with these marks at first and at the close: what
-- is printed, and what is left of the journal, is of the same marks
pub data RunEnds (Serves : List NotedMark → List NotedMark → End → Type 0) (Unused : Type 0)
    (words : List (List ℕ)) (o : Outside) (told : Bool) (old new : List ℕ)
    (result : ℕ) : Type 0 where
  idle : Unused → Ends words o told old new result → RunEnds Serves Unused words o told old new
      result
  busy : (work : WorkSeen) → Serves work.opened work.closed work.end
      → EndsWith (IsServedBy words o work) told old new result
      → RunEnds Serves Unused words o told old new result

-- what is left of the journal, and what became of the doors
pub data RunLeaves (Serves : List NotedMark → List NotedMark → End → Type 0) (Unused : Type 0)
    (words : List (List ℕ)) (o : Outside) : Type 0 where
  left_idle : Unused → LeavesJournal words o → RunLeaves Serves Unused words o
  left_busy : (work : WorkSeen) → Serves work.opened work.closed work.end
      → (b : Tables) (plan : Plan) (base : List ℕ) (H : List Entry) → IsServeOf words o b plan base
      → IsExamined b plan base o.disk work.opened work.closed H → RunLeaves Serves Unused words o

-- what is printed in the end, by how the work at the doors ended: the numbers of the history, or
-- that memory for them ran out; that a door failed; or that memory ran out before any link was
-- accepted. The status is not 0 if a connection ended for lack of memory
abbrev pub IsLastOf : End → Summary → ℕ → List ℕ → Type 0
IsLastOf Done s status text =
    ((status ≡ 0) × (text ≡ summary_text s)) ⊎ ((status ≡ 10) × (text ≡ no_memory))
IsLastOf Starved s status text =
    (status ≡ 10) × ((text ≡ summary_text s) ⊎ (text ≡ no_memory))
IsLastOf DoorFailed s status text = (status ≡ 14) × (text ≡ door_failed)
IsLastOf Memory s status text = (status ≡ 10) × (text ≡ no_memory)

-- each door gave no more links
abbrev pub IsOver : End → Type 0
IsOver Done = Unit {0}
IsOver Starved = Unit {0}
IsOver DoorFailed = ⊥
IsOver Memory = ⊥

-- so where the disk is asked a last time: it may have failed once the work was done
abbrev pub IsEnding : End → Summary → ℕ → List ℕ → Type 0
IsEnding Done s status text = IsLastOf Done s status text ⊎ ((status ≡ 9) × (text ≡ disk_failed))
IsEnding Starved s status text =
    IsLastOf Starved s status text ⊎ ((status ≡ 9) × (text ≡ disk_failed))
IsEnding DoorFailed s status text = IsLastOf DoorFailed s status text
IsEnding Memory s status text = IsLastOf Memory s status text

abbrev pub IsStatusOfServing : End → ℕ → Type 0
IsStatusOfServing Done status = (status ≡ 0) ⊎ (status ≡ 10)
IsStatusOfServing Starved status = status ≡ 10
IsStatusOfServing DoorFailed status = status ≡ 14
IsStatusOfServing Memory status = status ≡ 10

abbrev pub IsStatusOfEnding : End → ℕ → Type 0
IsStatusOfEnding Done status = IsStatusOfServing Done status ⊎ (status ≡ 9)
IsStatusOfEnding Starved status = IsStatusOfServing Starved status ⊎ (status ≡ 9)
IsStatusOfEnding DoorFailed status = IsStatusOfServing DoorFailed status
IsStatusOfEnding Memory status = IsStatusOfServing Memory status
