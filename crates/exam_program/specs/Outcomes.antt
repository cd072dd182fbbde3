-- What the program answers: its status, and what it prints.
use Rattle.std.specs.Prelude.{◌≡◌, ℕ, ◌<◌, ◌⊎◌, ◌==◌, List, [], ◌∷◌, ◌++◌, Bool, IsTrue, Ok, Err, Some, None, Contains, length, Option}
use Rattle.std.specs.List.{list_any}
use Rattle.bank_tables.specs.Tables.{Tables}
use Rattle.bank_reader.specs.declared.fault.ReadFault.{ReadFault}
use Rattle.bank_reader.specs.Reading.{bank_of}
use Rattle.bank_reader.specs.Texts.{bank_text}
use Rattle.spec_reader.specs.declared.plan_fault.PlanFault.{PlanFault}
use Rattle.spec_reader.specs.Reading.{IsReadFault}
use Rattle.spec_reader.specs.Canonical.{canonical}
use Rattle.spec_reader.specs.Texts.{plan_text}
use Rattle.exam_edge.specs.Faults.{Rose}
use Rattle.form_model.specs.Plan.{Plan}
use Rattle.form_model.specs.Problem.{Problem}
use Rattle.certificate_model.specs.ProofTrees.{ProofTree}
use Rattle.exam_text.specs.Texts.{files_failed, no_memory}
use Rattle.history_model.specs.declared.entry.Entry.{Entry}
use Rattle.history_model.specs.declared.refusal.Refusal.TheVariants.{SessionsFull}
use Rattle.history_model.specs.declared.request.Reply.{Reply}
use Rattle.history_model.specs.declared.request.Request.{Request}
use Rattle.history_model.specs.Refusals.{refusal_of}
use Rattle.history_model.specs.declared.request.Exposure.{Exposure}
use Rattle.history_model.specs.declared.summary.Summary.{Summary}
use Rattle.exam_drill.specs.Drills.{IsSummaryOfDrill}
use Rattle.exam_drill.specs.Texts.{drill_text}
use Rattle.exam_lines.specs.Texts.{summary_text, migrated_text}
use Rattle.form_lines.specs.Texts.{weights_refused, no_series, no_series_within}
use Rattle.journal_audit.specs.Audit.{IsAudit}
use Rattle.exam_office.specs.Noting.{NotedMark}
use Rattle.exam_office.specs.declared.fault.OpenFault.{OpenFault}
use Rattle.exam_office.specs.declared.migrating.Moved.{Moved}
use Rattle.replay_cli.specs.declared.script_fault.ScriptFault.{ScriptFault}
use Rattle.replay_cli.specs.Reading.{IsScriptFault, IsOfText as IsOfScript}
use Rattle.replay_cli.specs.Replies.{lines_of}
use Rattle.replay_cli.specs.Texts.{script_text}
use Rattle.exam_program.specs.declared.halt.Halt.{Halt}
use Rattle.exam_program.specs.declared.halt.Halt.TheVariants as halt
use Rattle.exam_program.specs.Bases.{FindsForm, ShowsNoForm, ShowsNoBase, IsBaseForm}
use Rattle.command_line.specs.Commands.{Command, Check, Assemble, Replay, Serve, Audit, Drill, Migrate, Series, Follow, Ship, IsOfLinked, command_of, files_of}
use Rattle.exam_program.specs.Causes.{IsRefused, Shows}
use Rattle.exam_program.specs.Halts.{Reads, IsOfText, IsScriptIn}
use Rattle.exam_program.specs.Outside.{Outside, IsUntouched}
use Rattle.exam_program.specs.Migrations.{IsMigrationDone, IsMigrationCutOff, IsStillUnmoved, IsMigrationFull}
use Rattle.exam_program.specs.Replays.{IsUnderWay, IsJournalRefused, IsReadingRefused, IsOpeningFailed, IsFullAt, IsLeftAt}
use Rattle.exam_program.specs.Series.{IsSeriesOf, AnswersSeries}
use Rattle.exam_program.specs.Serves.{IsServeOf, IsExamined}
use Rattle.exam_program.specs.LinkWords.{IsLinkOf}
use Rattle.exam_program.specs.Writing.{IsWritten}
use Rattle.exam_program.specs.Texts.{usage, disk_failed, journal_text, sessions_limit, journal_limit, no_form, no_base_form, bank_line, form_text, audit_text}

-- there are the files of a replay, they describe this bank, plan and script, and this is the base
-- form
pub record ReadsAll (named : List ℕ → Bool) (content : List ℕ → List ℕ) (bank plan name : List ℕ)
    (b : Tables) (p : Plan) (script : List Request) (base : List ℕ) : Type 0 where
  pub reads : Reads named content bank plan b p
  pub has_script : IsTrue (named name)
  pub says_script : IsScriptIn (content name) script
  pub is_base : IsBaseForm b p base

-- the words ask for a command over a bank and a plan of these names
pub record IsOver (words : List (List ℕ)) (bank plan : List ℕ) : Type 0 where
  pub command : Command
  pub asked : command_of words ≡ Some command
  pub names : files_of command ≡ Some (bank, plan)

-- a command that assembles the whole problem has read what comes before: its bank and plan and, for
-- a replay, its script
abbrev pub IsReady : (List ℕ → Bool) → (List ℕ → List ℕ) → Command → Tables → Plan → Type 0
IsReady named content (Check bank plan) b p = ⊥
IsReady named content (Assemble bank plan) b p = Reads named content bank plan b p
IsReady named content (Replay bank plan name) b p = Reads named content bank plan b p
    × IsTrue (named name) × ((script : List Request) × IsScriptIn (content name) script)
IsReady named content (Serve bank plan ahead) b p = Reads named content bank plan b p
IsReady named content (Audit bank plan) b p = ⊥
IsReady named content (Drill number sessions) b p = ⊥
IsReady named content (Migrate bank plan) b p = ⊥
IsReady named content (Series bank plan forms weights) b p = ⊥
IsReady named content (Follow bank plan) b p = Reads named content bank plan b p
IsReady named content (Ship bank plan) b p = Reads named content bank plan b p

-- the words ask for a replay; its files are read, and this is the base form
pub record IsReplayOf (words : List (List ℕ)) (o : Outside) (b : Tables) (p : Plan)
    (script : List Request) (base : List ℕ) : Type 0 where
  pub bank : List ℕ
  pub plan : List ℕ
  pub name : List ℕ
  pub asked : command_of words ≡ Some (Replay bank plan name)
  pub reads : ReadsAll o.named o.content bank plan name b p script base

-- the words ask for an audit, and its files are read
pub record IsAuditOf (words : List (List ℕ)) (o : Outside) (b : Tables) (p : Plan) : Type 0 where
  pub bank : List ℕ
  pub plan : List ℕ
  pub asked : command_of words ≡ Some (Audit bank plan)
  pub reads : Reads o.named o.content bank plan b p

-- the words ask for a migration, and its files are read
pub record IsMigrationOf (words : List (List ℕ)) (o : Outside) (b : Tables)
    (p : Plan) : Type 0 where
  pub bank : List ℕ
  pub plan : List ℕ
  pub asked : command_of words ≡ Some (Migrate bank plan)
  pub reads : Reads o.named o.content bank plan b p

-- the status and what is printed, for words and what is outside; each rule has its conditions. If
-- the disk reports its content, the rules of two statuses other than 7, 9, 10 and 12 never both
-- apply, except where forms that are both best lead to other histories; where 12 applies, 11 may
-- too
pub data Outcome (words : List (List ℕ)) (o : Outside) : ℕ → List ℕ → Type 0 where
  -- the words are not in the table
  faulty_words : command_of words ≡ None → IsUntouched o.disk → Outcome words o 2 usage
  -- the bank text is there and refused
  bank_refused : (bank plan : List ℕ) (fault : ReadFault) → IsOver words bank plan
      → IsTrue (o.named bank) → bank_of (o.content bank) ≡ Err fault
      → IsUntouched o.disk → Outcome words o 3 (bank_text fault)
  -- the plan text is there and refused
  plan_refused : (bank plan : List ℕ) (b : Tables) (fault : PlanFault) → IsOver words bank plan
      → IsTrue (o.named bank) → IsTrue (o.named plan) → bank_of (o.content bank) ≡ Ok b
      → IsOfText fault → IsReadFault b (o.content plan) fault
      → IsUntouched o.disk → Outcome words o 4 (plan_text fault)
  -- the script text is there and refused
  script_refused : (bank plan name : List ℕ) (b : Tables) (p : Plan) (fault : ScriptFault)
      → command_of words ≡ Some (Replay bank plan name) → Reads o.named o.content bank plan b p
      → IsTrue (o.named name) → IsOfScript fault → IsScriptFault (o.content name) fault
      → IsUntouched o.disk → Outcome words o 5 (script_text fault)
  -- bank and plan are read: what was understood
  checked : (bank plan : List ℕ) (b : Tables) (p : Plan) → command_of words ≡ Some (Check bank plan)
      → Reads o.named o.content bank plan b p → IsUntouched o.disk
      → Outcome words o 0 (bank_line b ++ canonical p)
  -- a form of the whole problem was found, with its tree
  form_found : (bank plan : List ℕ) (b : Tables) (p : Plan) (P : Problem) (form : List ℕ)
      (proved : Bool) (T : ProofTree) → command_of words ≡ Some (Assemble bank plan)
      → Reads o.named o.content bank plan b p → FindsForm b p P form proved T → IsUntouched o.disk
      → Outcome words o 0 (form_text P form proved T)
  -- no set of items is a form of the whole problem
  without_form : (command : Command) (b : Tables) (p : Plan) (T : ProofTree)
      → command_of words ≡ Some command → IsReady o.named o.content command b p → ShowsNoForm b p T
      → IsUntouched o.disk → Outcome words o 11 (no_form T)
  -- the plan has no base, and the base budget was spent with no form found
  without_base_form : (command : Command) (b : Tables) (p : Plan) (T : ProofTree)
      → command_of words ≡ Some command → IsReady o.named o.content command b p → ShowsNoBase b p T
      → IsUntouched o.disk → Outcome words o 12 (no_base_form p.base_budget T)
  -- the journal is refused
  journal_refused : (b : Tables) (p : Plan) (script : List Request) (base : List ℕ)
      (fault : OpenFault) → IsReplayOf words o b p script base → IsJournalRefused b p o.disk fault
      → Outcome words o 6 (journal_text fault)
  -- the script was done to its end
  replayed : (b : Tables) (p : Plan) (script : List Request) (base : List ℕ) (H G : List Entry)
      (replies : List Reply) → IsReplayOf words o b p script base
      → IsUnderWay b p base o.disk script H G [] replies → Outcome words o 0 (lines_of replies)
  -- the next request is refused for the number of sessions
  sessions_full : (b : Tables) (p : Plan) (script : List Request) (base : List ℕ) (H G : List Entry)
      (request : Request) (rest : List Request) (replies : List Reply) (count : ℕ)
      → IsReplayOf words o b p script base
      → IsUnderWay b p base o.disk script H G (request ∷ rest) replies
      → refusal_of b p G request ≡ Some (SessionsFull count)
      → Outcome words o 13 (lines_of replies ++ sessions_limit count p.sessions)
  -- an entry of the next request has no room in the journal
  journal_full : (b : Tables) (p : Plan) (script : List Request) (base : List ℕ) (H G : List Entry)
      (request : Request) (rest : List Request) (replies : List Reply) (K : List Entry)
      (now size : ℕ) → IsReplayOf words o b p script base
      → IsUnderWay b p base o.disk script H G (request ∷ rest) replies
      → IsFullAt b p G request K now size → IsLeftAt b p o.disk K now
      → Outcome words o 13 (lines_of replies ++ journal_limit size p.journal)
  -- the files failed before anything was printed
  without_files : (bank plan : List ℕ) → IsOver words bank plan
      → Rose o.files_before o.files_after → IsUntouched o.disk → Outcome words o 7 files_failed
  -- the disk failed while the journal was opened; the file keeps its history
  without_journal : (b : Tables) (p : Plan) (script : List Request) (base : List ℕ)
      → IsReplayOf words o b p script base → IsOpeningFailed b p o.disk
      → Outcome words o 9 disk_failed
  -- or at the next request
  without_disk : (b : Tables) (p : Plan) (script : List Request) (base : List ℕ) (H G : List Entry)
      (rest : List Request) (replies : List Reply) → IsReplayOf words o b p script base
      → IsUnderWay b p base o.disk script H G rest replies → Rose o.disk.before o.disk.after
      → Outcome words o 9 (lines_of replies ++ disk_failed)
  -- memory ran out before anything was printed, and before the journal was opened
  without_memory : IsUntouched o.disk → Outcome words o 10 no_memory
  -- or at the next request, or its line
  without_more_memory : (b : Tables) (p : Plan) (script : List Request) (base : List ℕ)
      (H G : List Entry) (rest : List Request) (replies : List Reply)
      → IsReplayOf words o b p script base → IsUnderWay b p base o.disk script H G rest replies
      → Outcome words o 10 (lines_of replies ++ no_memory)
  -- a server's journal is refused
  server_refused : (b : Tables) (p : Plan) (base : List ℕ) (fault : OpenFault)
      → IsServeOf words o b p base → IsJournalRefused b p o.disk fault
      → Outcome words o 6 (journal_text fault)
  -- the disk failed while a server's journal was opened; the file keeps its history
  server_without_journal : (b : Tables) (p : Plan) (base : List ℕ) → IsServeOf words o b p base
      → IsOpeningFailed b p o.disk → Outcome words o 9 disk_failed
  -- memory ran out after a server's journal was opened, before any connection was accepted
  server_without_memory : (b : Tables) (p : Plan) (base : List ℕ) (opened : List NotedMark)
      (H : List Entry) → IsServeOf words o b p base → IsExamined b p base o.disk opened opened H
      → Outcome words o 10 no_memory
  -- the file represents a history: its numbers, and its exposure counts, in all and in each band
  audited : (b : Tables) (p : Plan) (s : Summary) (exposure : Exposure) (bands : List Exposure)
      → IsAuditOf words o b p
      → (IsTrue o.disk.told → IsAudit b p o.disk.found s exposure bands) → IsUntouched o.disk
      → Outcome words o 0 (audit_text p s exposure bands)
  -- the journal of an audit is refused
  audit_refused : (b : Tables) (p : Plan) (fault : OpenFault) → IsAuditOf words o b p
      → IsReadingRefused b p o.disk fault → Outcome words o 6 (journal_text fault)
  -- the disk failed in an audit
  without_audit : (b : Tables) (p : Plan) → IsAuditOf words o b p
      → Rose o.disk.before o.disk.after → IsUntouched o.disk → Outcome words o 9 disk_failed
  -- the requests of a drill were done, over a disk in memory: its line, and the numbers of the
  -- history that they lead to
  drilled : (number sessions : ℕ) (s : Summary) → command_of words ≡ Some (Drill number sessions)
      → IsSummaryOfDrill number sessions s → IsUntouched o.disk
      → Outcome words o 0 (drill_text number sessions ++ summary_text s)
  -- the journal's records are of the second version now: how many were written, and its length
  migrated : (b : Tables) (p : Plan) (done : Moved) → IsMigrationOf words o b p
      → IsMigrationDone b p o.disk done
      → Outcome words o 0 (migrated_text done.records done.length)
  -- the journal of a migration is refused
  migration_refused : (b : Tables) (p : Plan) (fault : OpenFault) → IsMigrationOf words o b p
      → IsReadingRefused b p o.disk fault → Outcome words o 6 (journal_text fault)
  -- a journal of the first version has no room for its records of the second
  migration_full : (b : Tables) (p : Plan) (size : ℕ) → IsMigrationOf words o b p
      → IsMigrationFull b p o.disk size → Outcome words o 13 (journal_limit size p.journal)
  -- the disk failed in a migration
  without_migration : (b : Tables) (p : Plan) → IsMigrationOf words o b p
      → Rose o.disk.before o.disk.after → IsMigrationCutOff b p o.disk
      → Outcome words o 9 disk_failed
  -- memory ran out in a migration; what was written doesn't count
  migration_without_memory : (b : Tables) (p : Plan) → IsMigrationOf words o b p
      → IsMigrationCutOff b p o.disk → IsStillUnmoved o.disk → Outcome words o 10 no_memory
  -- or for the line of one that was done
  migrated_without_line : (b : Tables) (p : Plan) (done : Moved) → IsMigrationOf words o b p
      → IsMigrationDone b p o.disk done → Outcome words o 10 no_memory
  -- a series was asked for, and its files are read: its lines, or why there are none
  series_answered : (b : Tables) (p : Plan) (forms : ℕ) (weights : List ℕ) (status : ℕ)
      (text : List ℕ) → IsSeriesOf words o b p forms weights
      → AnswersSeries b p forms weights status text → IsUntouched o.disk
      → Outcome words o status text
  -- the journal of a follower or a shipper is refused
  link_refused : (b : Tables) (p : Plan) (base : List ℕ) (fault : OpenFault)
      → IsLinkOf words o b p base → IsJournalRefused b p o.disk fault
      → Outcome words o 6 (journal_text fault)
  -- the disk failed while that journal was opened; the file keeps its history
  link_without_journal : (b : Tables) (p : Plan) (base : List ℕ) → IsLinkOf words o b p base
      → IsOpeningFailed b p o.disk → Outcome words o 9 disk_failed

-- this was printed
pub record Prints (words : List (List ℕ)) (o : Outside) (told : Bool) (old new : List ℕ)
    (status : ℕ) : Type 0 where
  pub text : List ℕ
  pub written : IsWritten told old new text
  pub outcome : Outcome words o status text

-- or, where the sink failed, a beginning of what the program would have printed, and not the whole
pub record PrintsPart (words : List (List ℕ)) (o : Outside) (told : Bool)
    (old new : List ℕ) : Type 0 where
  pub text : List ℕ
  pub rest : List ℕ
  pub status : ℕ
  pub written : IsWritten told old new text
  pub outcome : Outcome words o status (text ++ rest)
  pub unfinished : 0 < length rest

-- status 8 is that of a sink that failed
abbrev pub Ends : List (List ℕ) → Outside → Bool → List ℕ → List ℕ → ℕ → Type 0
Ends words o told old new status =
    (Prints words o told old new status) ⊎ ((status ≡ 8) × PrintsPart words o told old new)

-- ---- what is left of the journal, whatever the status
-- the file is left as it was found; or the disk failed while the journal was opened, and the file
-- kept its history; or the first requests of the script were done, and the file that is left,
-- and each that a crash may leave, represents the history that they lead to, or that with the first
-- entries of the next; or a server's journal was opened, and memory ran out before any connection
-- was accepted; or a migration was done; or one ended early, and the file keeps its history; or the
-- disk failed while the journal of a follower or a shipper was opened
pub data LeavesJournal (words : List (List ℕ)) (o : Outside) : Type 0 where
  as_found : IsUntouched o.disk → LeavesJournal words o
  at_opening : (b : Tables) (p : Plan) (script : List Request) (base : List ℕ)
      → IsReplayOf words o b p script base → IsOpeningFailed b p o.disk → LeavesJournal words o
  after_requests : (b : Tables) (p : Plan) (script : List Request) (base : List ℕ)
      (H G : List Entry) (rest : List Request) (replies : List Reply)
      → IsReplayOf words o b p script base → IsUnderWay b p base o.disk script H G rest replies
      → LeavesJournal words o
  server_at_opening : (b : Tables) (p : Plan) (base : List ℕ) → IsServeOf words o b p base
      → IsOpeningFailed b p o.disk → LeavesJournal words o
  after_opening : (b : Tables) (p : Plan) (base : List ℕ) (opened : List NotedMark)
      (H : List Entry) → IsServeOf words o b p base → IsExamined b p base o.disk opened opened H
      → LeavesJournal words o
  after_migration : (b : Tables) (p : Plan) (done : Moved) → IsMigrationOf words o b p
      → IsMigrationDone b p o.disk done → LeavesJournal words o
  at_migration : (b : Tables) (p : Plan) → IsMigrationOf words o b p
      → IsMigrationCutOff b p o.disk → LeavesJournal words o
  link_at_opening : (b : Tables) (p : Plan) (base : List ℕ) → IsLinkOf words o b p base
      → IsOpeningFailed b p o.disk → LeavesJournal words o

-- ---- what a command has printed when it halts, before the text of its halt
pub record PrintsBefore (words : List (List ℕ)) (o : Outside) (told : Bool) (old new : List ℕ)
    (status : ℕ) (last : List ℕ) : Type 0 where
  pub text : List ℕ
  pub written : IsWritten told old new text
  pub outcome : Outcome words o status (text ++ last)

-- so for a text that may find no memory
abbrev pub PrintsBeforeText : List (List ℕ) → Outside → Bool → List ℕ → List ℕ → ℕ → List ℕ → Type 0
PrintsBeforeText words o told old new status last =
    PrintsBefore words o told old new status last × PrintsBefore words o told old new 10 no_memory

abbrev pub Halts : List (List ℕ) → Outside → Bool → List ℕ → List ℕ → Halt → Type 0
Halts words o told old new (halt.Bank fault) =
    PrintsBeforeText words o told old new 3 (bank_text fault)
Halts words o told old new (halt.Plan fault) =
    PrintsBeforeText words o told old new 4 (plan_text fault)
Halts words o told old new (halt.Script fault) =
    PrintsBeforeText words o told old new 5 (script_text fault)
Halts words o told old new (halt.NoForm T) =
    Shows words o (halt.NoForm T) × PrintsBeforeText words o told old new 11 (no_form T)
Halts words o told old new (halt.NoBaseForm budget T) = Shows words o (halt.NoBaseForm budget T)
    × PrintsBeforeText words o told old new 12 (no_base_form budget T)
Halts words o told old new (halt.Journal fault) =
    IsRefused words o fault × PrintsBeforeText words o told old new 6 (journal_text fault)
Halts words o told old new (halt.Sessions count most) =
    PrintsBeforeText words o told old new 13 (sessions_limit count most)
Halts words o told old new (halt.JournalFull size most) =
    PrintsBeforeText words o told old new 13 (journal_limit size most)
Halts words o told old new halt.Weights = PrintsBefore words o told old new 16 weights_refused
Halts words o told old new (halt.NoSeries T) =
    Shows words o (halt.NoSeries T) × PrintsBeforeText words o told old new 17 (no_series T)
Halts words o told old new (halt.NoSeriesFound budget T) =
    Shows words o (halt.NoSeriesFound budget T)
    × PrintsBeforeText words o told old new 18 (no_series_within budget T)
Halts words o told old new halt.Files = PrintsBefore words o told old new 7 files_failed
Halts words o told old new halt.Disk = PrintsBefore words o told old new 9 disk_failed
Halts words o told old new halt.Memory = PrintsBefore words o told old new 10 no_memory
Halts words o told old new halt.Sink = PrintsPart words o told old new

-- the status of a halt; memory may run out while its text is made
abbrev pub EndsBy : Halt → ℕ → Type 0
EndsBy (halt.Bank fault) status = (status ≡ 3) ⊎ (status ≡ 10)
EndsBy (halt.Plan fault) status = (status ≡ 4) ⊎ (status ≡ 10)
EndsBy (halt.Script fault) status = (status ≡ 5) ⊎ (status ≡ 10)
EndsBy (halt.NoForm T) status = (status ≡ 11) ⊎ (status ≡ 10)
EndsBy (halt.NoBaseForm budget T) status = (status ≡ 12) ⊎ (status ≡ 10)
EndsBy (halt.Journal fault) status = (status ≡ 6) ⊎ (status ≡ 10)
EndsBy (halt.Sessions count most) status = (status ≡ 13) ⊎ (status ≡ 10)
EndsBy (halt.JournalFull size most) status = (status ≡ 13) ⊎ (status ≡ 10)
EndsBy halt.Weights status = status ≡ 16
EndsBy (halt.NoSeries T) status = (status ≡ 17) ⊎ (status ≡ 10)
EndsBy (halt.NoSeriesFound budget T) status = (status ≡ 18) ⊎ (status ≡ 10)
EndsBy halt.Files status = status ≡ 7
EndsBy halt.Disk status = status ≡ 9
EndsBy halt.Memory status = status ≡ 10
EndsBy halt.Sink status = status ≡ 8

-- the statuses that there are
abbrev pub IsStatus : ℕ → Type 0
IsStatus status = Contains
    (0 ∷ 2 ∷ 3 ∷ 4 ∷ 5 ∷ 6 ∷ 7 ∷ 8 ∷ 9 ∷ 10 ∷ 11 ∷ 12 ∷ 13 ∷ 16 ∷ 17 ∷ 18 ∷ []) status

-- those of a run that may serve connections
abbrev pub IsStatusOfRun : ℕ → Type 0
IsStatusOfRun status = IsStatus status ⊎ (status ≡ 14)

-- those of a run that ends before the journal is opened
abbrev pub IsStatusBefore : ℕ → Type 0
IsStatusBefore status = IsTrue (list_any (λ s. s == status)
    (2 ∷ 3 ∷ 4 ∷ 5 ∷ 7 ∷ 11 ∷ 12 ∷ 16 ∷ 17 ∷ 18 ∷ []))

-- a run with this status ended by this halt, and what it shows is so; or by none. Then it refused
-- no text but its words, and has status 6 only if it follows or ships
abbrev pub EndsAs : List (List ℕ) → Outside → Option Halt → ℕ → Type 0
EndsAs words o (Some h) status = Shows words o h × (EndsBy h status ⊎ (status ≡ 8))
EndsAs words o None status = (IsStatusBefore status → status ≡ 2)
    × (status ≡ 6 → IsOfLinked (command_of words))
