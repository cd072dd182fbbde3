-- Accepted texts, and files and a disk that never failed, leave few statuses.
use Rattle.std.proofs.Common.{◌≡◌, ℕ, ◌≤◌, ◌⊎◌, inl, inr, Bool, List, length, Option, Some, None, Result, Ok, Err, IsTrue, refl, sym, ap, ◌∙◌, subst, arith}
use Rattle.bank_tables.specs.Items.{has}
use Rattle.bank_tables.specs.Tables.{Tables}
use Rattle.bank_reader.specs.declared.fault.ReadFault.{ReadFault}
use Rattle.bank_reader.specs.Reading.{bank_of}
use Rattle.spec_reader.specs.declared.plan_fault.PlanFault.{PlanFault}
use Rattle.spec_reader.specs.Reading.{IsReadFault}
use Rattle.spec_reader.proofs.SameLaws.{only_outside}
use Rattle.exam_edge.specs.Faults.{Rose}
use Rattle.form_model.specs.Plan.{Plan}
use Rattle.certificate_model.specs.ProofTrees.{ProofTree}
use Rattle.history_model.specs.declared.entry.Entry.{Entry}
use Rattle.history_model.specs.declared.request.Request.{Request}
use Rattle.exam_office.specs.declared.fault.OpenFault.{OpenFault}
use Rattle.exam_office.specs.Files.{Stands, StandsSecond}
use Rattle.exam_office.specs.Migrating.{IsTooLongMoved}
use Rattle.exam_office.proofs.FileLaws.{standing_is_opened, standing_is_read}
use Rattle.replay_cli.specs.declared.script_fault.ScriptFault.{ScriptFault}
use Rattle.replay_cli.specs.declared.script_fault.ScriptFault.TheVariants as script_fault
use Rattle.replay_cli.specs.Reading.{IsScriptFault, IsOfText as IsOfScript}
use Rattle.replay_cli.proofs.ReadLaws.{no_fault}
use Rattle.exam_program.specs.Bases.{ShowsNoForm, ShowsNoBase}
use Rattle.command_line.specs.Commands.{Command, Check, Assemble, Replay, Serve, Audit, Drill, Migrate, Series, Follow, Ship, HasJournal, IsLinked, UsesDoors, command_of, files_of}
use Rattle.command_line.specs.Weights.{weights_of}
use Rattle.form_lines.specs.Answers.{AreWeightsFor}
use Rattle.exam_program.specs.Series.{AnswersSeries, series_told, weights_not_taken, without_series, series_not_found}
use Rattle.exam_program.specs.Halts.{IsPlanIn, IsOfText, Reads, IsScriptIn}
use Rattle.exam_program.specs.Laws.{CheckIsComplete, AssembleIsComplete, ReplayIsComplete, ServeIsComplete, FollowIsComplete, ShipIsComplete, AuditIsComplete, MigrateIsComplete, SeriesIsComplete, DrillIsComplete, MeetsLimit, of_sessions, of_journal}
use Rattle.exam_program.specs.Outside.{Outside}
use Rattle.exam_program.specs.Replays.{IsOfFile, IsJournalRefused, IsReadingRefused}
use Rattle.exam_program.proofs.BaseLaws.{whole_form}
use Rattle.exam_program.proofs.OnePlan.{one_plan_in}
use Rattle.exam_program.specs.Outcomes.{IsOver, IsReady, IsReplayOf, Outcome, faulty_words, bank_refused, plan_refused, script_refused, checked, form_found, without_form, without_base_form, journal_refused, replayed, sessions_full, journal_full, without_files, without_journal, without_disk, without_memory, without_more_memory, server_refused, server_without_journal, server_without_memory, IsAuditOf, audited, audit_refused, without_audit, drilled, IsMigrationOf, migrated, migration_refused, migration_full, without_migration, migration_without_memory, migrated_without_line, series_answered, link_refused, link_without_journal}
use Rattle.exam_program.specs.LinkWords.{IsLinkOf}
use Rattle.exam_program.specs.Serves.{IsServeOf}

-- ---- a reading is one
none_some : {A : Type 0} (o : Option A) (x : A) → o ≡ Some x → o ≡ None → ⊥
none_some o x e f = cc

ok_err : {A E : Type 0} (r : Result A E) (x : A) (e : E) → r ≡ Ok x → r ≡ Err e → ⊥
ok_err r x e a b = cc

command_same : (o : Option Command) (c d : Command) → o ≡ Some c → o ≡ Some d → c ≡ d
command_same o c d e f = cc

pub pair_same : (x y z w : List ℕ) → ◌≡◌ {A = Option (List ℕ × List ℕ)} (Some (x, y)) (Some (z, w)) → (x ≡ z) × (y ≡ w)
pair_same x y z w e = (ap (first_or x) e, ap (second_or y) e)
  where
    first_or : List ℕ → Option (List ℕ × List ℕ) → List ℕ
    first_or d (Some pair) = pair.0
    first_or d None = d

    second_or : List ℕ → Option (List ℕ × List ℕ) → List ℕ
    second_or d (Some pair) = pair.1
    second_or d None = d

bank_same : (r : Result Tables ReadFault) (b c : Tables) → r ≡ Ok b → r ≡ Ok c → b ≡ c
bank_same r b c e f = cc

-- two readings of the same files give one plan
plan_same : (named : List ℕ → Bool) (content : List ℕ → List ℕ) (bank plan : List ℕ) (b c : Tables) (p q : Plan)
    → Reads named content bank plan b p
    → Reads named content bank plan c q
    → (c ≡ b) × (q ≡ p)
plan_same named content bank plan b c p q first second =
    let same = bank_same (bank_of (content bank)) c b second.says_bank first.says_bank in
    let there = subst (λ (t : Tables). IsPlanIn t (content plan) q) same second.says_plan in
    (same, one_plan_in b (content plan) q p there first.says_plan)

-- a base is a form of the whole problem
form_there : (named : List ℕ → Bool) (content : List ℕ → List ℕ) (bank plan base : List ℕ) (b c : Tables) (p q : Plan) (T : ProofTree)
    → Reads named content bank plan b p
    → p.base ≡ Some base
    → Reads named content bank plan c q
    → ShowsNoForm c q T
    → ⊥
form_there named content bank plan base b c p q T first e second shows =
    let is : q.base ≡ Some base = ap (λ (x : Plan). x.base) (plan_same named content bank plan b c p q first second).1 ∙ e in
    shows.none.none (has base) (whole_form c q shows.problem (has base) shows.whole (second.says_plan.valid.base_meets base is))

no_base_there : (named : List ℕ → Bool) (content : List ℕ → List ℕ) (bank plan base : List ℕ) (b c : Tables) (p q : Plan) (T : ProofTree)
    → Reads named content bank plan b p
    → p.base ≡ Some base
    → Reads named content bank plan c q
    → ShowsNoBase c q T
    → ⊥
no_base_there named content bank plan base b c p q T first e second shows =
    none_some q.base base (ap (λ (x : Plan). x.base) (plan_same named content bank plan b c p q first second).1 ∙ e) shows.no_base

-- an accepted plan text has no fault of its own
no_plan_fault : (b c : Tables) (text : List ℕ) (p : Plan) (f : PlanFault) → c ≡ b → IsPlanIn b text p → IsOfText f → IsReadFault c text f → ⊥
no_plan_fault b c text p f same is of_text refused =
    elim (only_outside b text p f is.short is.says is.valid (subst (λ (t : Tables). IsReadFault t text f) same refused)) [
      | inl memory ↦ subst (λ (g : PlanFault). IsOfText g) memory of_text
      | inr source ↦ subst (λ (g : PlanFault). IsOfText g) source of_text
    ]

-- an accepted script has no fault of its own
no_script_fault : (text : List ℕ) (script : List Request) (f : ScriptFault) → IsScriptIn text script → IsOfScript f → IsScriptFault text f → ⊥
no_script_fault text script script_fault.Source is of_script halts = of_script
no_script_fault text script script_fault.Memory is of_script halts = of_script
no_script_fault text script script_fault.TooLong is of_script halts = omega (arith, is.short, halts)
no_script_fault text script (script_fault.Line n) is of_script halts = no_fault text script n is.says halts.1

-- a file that represents a history by records of the second version is not refused
no_journal_fault : (b : Tables) (p : Plan) (o : Outside) (f : OpenFault) (H : List Entry) → StandsSecond b p H o.disk.found → length o.disk.found ≤ p.journal → IsTrue o.disk.told → IsJournalRefused b p o.disk f → ⊥
no_journal_fault b p o f H moved short told is = elim (standing_is_opened b p H o.disk.found f moved.stands moved.second short (is.answer told)) [
  | inl e ↦ subst (λ (g : OpenFault). IsOfFile g) e is.of_file
  | inr e ↦ subst (λ (g : OpenFault). IsOfFile g) e is.of_file
]

-- of either version it is not, where it is read
no_reading_fault : (b : Tables) (p : Plan) (o : Outside) (f : OpenFault) (H : List Entry) → Stands b p H o.disk.found → length o.disk.found ≤ p.journal → IsTrue o.disk.told → IsReadingRefused b p o.disk f → ⊥
no_reading_fault b p o f H stands short told is = elim (standing_is_read b p H o.disk.found f stands short (is.answer told)) [
  | inl e ↦ subst (λ (g : OpenFault). IsOfFile g) e is.of_file
  | inr e ↦ subst (λ (g : OpenFault). IsOfFile g) e is.of_file
]

-- ---- what is left

-- the script of a replay is refused
abbrev NoScript : Outside → Command → Type 0
NoScript o (Check bank plan) = ⊥
NoScript o (Assemble bank plan) = ⊥
NoScript o (Serve bank plan ahead) = ⊥
NoScript o (Audit bank plan) = ⊥
NoScript o (Drill number sessions) = ⊥
NoScript o (Migrate bank plan) = ⊥
NoScript o (Series bank plan forms word) = ⊥
NoScript o (Follow bank plan) = ⊥
NoScript o (Ship bank plan) = ⊥
NoScript o (Replay bank plan name) = (f : ScriptFault) × IsOfScript f × IsScriptFault (o.content name) f

-- its journal is refused
abbrev NoJournal : Outside → Command → Type 0
NoJournal o (Check bank plan) = ⊥
NoJournal o (Assemble bank plan) = ⊥
NoJournal o (Replay bank plan name) = (b : Tables) × (p : Plan) × (f : OpenFault) × Reads o.named o.content bank plan b p × IsJournalRefused b p o.disk f
NoJournal o (Serve bank plan ahead) = (b : Tables) × (p : Plan) × (f : OpenFault) × Reads o.named o.content bank plan b p × IsJournalRefused b p o.disk f
NoJournal o (Audit bank plan) = (b : Tables) × (p : Plan) × (f : OpenFault) × Reads o.named o.content bank plan b p × IsReadingRefused b p o.disk f
NoJournal o (Drill number sessions) = ⊥
NoJournal o (Series bank plan forms word) = ⊥
NoJournal o (Follow bank plan) = (b : Tables) × (p : Plan) × (f : OpenFault) × Reads o.named o.content bank plan b p × IsJournalRefused b p o.disk f
NoJournal o (Ship bank plan) = (b : Tables) × (p : Plan) × (f : OpenFault) × Reads o.named o.content bank plan b p × IsJournalRefused b p o.disk f
NoJournal o (Migrate bank plan) = (b : Tables) × (p : Plan) × (f : OpenFault) × Reads o.named o.content bank plan b p × IsReadingRefused b p o.disk f

-- the plan's limit has no room: for a request of a replay, or for the records of a migration
abbrev NoRoom : List (List ℕ) → Outside → Command → Type 0
NoRoom words o (Check bank plan) = ⊥
NoRoom words o (Assemble bank plan) = ⊥
NoRoom words o (Replay bank plan name) = MeetsLimit words o
NoRoom words o (Serve bank plan ahead) = ⊥
NoRoom words o (Audit bank plan) = ⊥
NoRoom words o (Drill number sessions) = ⊥
NoRoom words o (Series bank plan forms word) = ⊥
NoRoom words o (Follow bank plan) = ⊥
NoRoom words o (Ship bank plan) = ⊥
NoRoom words o (Migrate bank plan) = (b : Tables) × (p : Plan) × (size : ℕ) × Reads o.named o.content bank plan b p × (IsTrue o.disk.told → IsTooLongMoved b p o.disk.found size)

-- its series is answered
abbrev AnswersOne : Outside → ℕ → Command → Type 0
AnswersOne o status (Series bank plan forms word) = (b : Tables) × (p : Plan) × (text : List ℕ) × Reads o.named o.content bank plan b p × AnswersSeries b p forms (weights_of word) status text
AnswersOne o status command = ⊥

data Left (words : List (List ℕ)) (o : Outside) (command : Command) : ℕ → Type 0 where
  done : Left words o command 0
  memory : Left words o command 10
  no_form : (b : Tables) (p : Plan) (T : ProofTree) → IsReady o.named o.content command b p → ShowsNoForm b p T → Left words o command 11
  no_base : (b : Tables) (p : Plan) (T : ProofTree) → IsReady o.named o.content command b p → ShowsNoBase b p T → Left words o command 12
  no_script : NoScript o command → Left words o command 5
  no_journal : NoJournal o command → Left words o command 6
  limit : NoRoom words o command → Left words o command 13
  disk : HasJournal command → Rose o.disk.before o.disk.after → Left words o command 9
  series : (status : ℕ) → AnswersOne o status command → Left words o command status

-- to follow and to ship open the journal
linked_has_journal : (c : Command) → IsLinked c → HasJournal c
linked_has_journal (Follow bank plan) linked = tt
linked_has_journal (Ship bank plan) linked = tt
linked_has_journal (Check bank plan) linked = absurd linked
linked_has_journal (Assemble bank plan) linked = absurd linked
linked_has_journal (Replay bank plan script) linked = absurd linked
linked_has_journal (Serve bank plan ahead) linked = absurd linked
linked_has_journal (Audit bank plan) linked = absurd linked
linked_has_journal (Drill number sessions) linked = absurd linked
linked_has_journal (Migrate bank plan) linked = absurd linked
linked_has_journal (Series bank plan forms weights) linked = absurd linked

-- the journal of one of them is refused
no_link_journal : (o : Outside) (c : Command) → IsLinked c → (bank plan : List ℕ) → files_of c ≡ Some (bank, plan) → (b : Tables) (p : Plan) (f : OpenFault)
    → Reads o.named o.content bank plan b p → IsJournalRefused b p o.disk f → NoJournal o c
no_link_journal o (Follow x y) linked bank plan names b p f reads refusal =
    let same = pair_same x y bank plan names in
    (b, p, f, subst (λ (n : List ℕ). Reads o.named o.content n y b p) (sym same.0) (subst (λ (n : List ℕ). Reads o.named o.content bank n b p) (sym same.1) reads), refusal)
no_link_journal o (Ship x y) linked bank plan names b p f reads refusal =
    let same = pair_same x y bank plan names in
    (b, p, f, subst (λ (n : List ℕ). Reads o.named o.content n y b p) (sym same.0) (subst (λ (n : List ℕ). Reads o.named o.content bank n b p) (sym same.1) reads), refusal)
no_link_journal o (Check x y) linked bank plan names b p f reads refusal = absurd linked
no_link_journal o (Assemble x y) linked bank plan names b p f reads refusal = absurd linked
no_link_journal o (Replay x y z) linked bank plan names b p f reads refusal = absurd linked
no_link_journal o (Serve x y a) linked bank plan names b p f reads refusal = absurd linked
no_link_journal o (Audit x y) linked bank plan names b p f reads refusal = absurd linked
no_link_journal o (Drill x y) linked bank plan names b p f reads refusal = absurd linked
no_link_journal o (Migrate x y) linked bank plan names b p f reads refusal = absurd linked
no_link_journal o (Series x y forms weights) linked bank plan names b p f reads refusal = absurd linked

module _ (words : List (List ℕ)) (o : Outside) (command : Command) (e : command_of words ≡ Some command) where
  same_command : (other : Command) → command_of words ≡ Some other → other ≡ command
  same_command other f = command_same (command_of words) other command f e

  meets : (b : Tables) (p : Plan) (script : List Request) (base : List ℕ) → IsReplayOf words o b p script base → MeetsLimit words o → NoRoom words o command
  meets b p script base is met = subst (NoRoom words o) (same_command (Replay is.bank is.plan is.name) is.asked) met

  has_journal : (b : Tables) (p : Plan) (script : List Request) (base : List ℕ) → IsReplayOf words o b p script base → HasJournal command
  has_journal b p script base is = subst HasJournal (same_command (Replay is.bank is.plan is.name) is.asked) tt

  serves_journal : (b : Tables) (p : Plan) (base : List ℕ) → IsServeOf words o b p base → HasJournal command
  serves_journal b p base is = subst HasJournal (same_command (Serve is.bank is.plan is.ahead) is.asked) tt

  audits_journal : (b : Tables) (p : Plan) → IsAuditOf words o b p → HasJournal command
  audits_journal b p is = subst HasJournal (same_command (Audit is.bank is.plan) is.asked) tt

  moves_journal : (b : Tables) (p : Plan) → IsMigrationOf words o b p → HasJournal command
  moves_journal b p is = subst HasJournal (same_command (Migrate is.bank is.plan) is.asked) tt

  links_journal : (b : Tables) (p : Plan) (base : List ℕ) → IsLinkOf words o b p base → HasJournal command
  links_journal b p base is = subst HasJournal (same_command is.command is.asked) (linked_has_journal is.command is.is_linked)

  -- the bank of the files that are read
  module _ (bank plan : List ℕ) (names : files_of command ≡ Some (bank, plan)) where
    same_names : (other_bank other_plan : List ℕ) → IsOver words other_bank other_plan → (other_bank ≡ bank) × (other_plan ≡ plan)
    same_names other_bank other_plan over =
        pair_same other_bank other_plan bank plan (sym over.names ∙ (ap files_of (same_command over.command over.asked) ∙ names))

    no_bank : (b : Tables) (p : Plan) (other_bank other_plan : List ℕ) (why : ReadFault) → Reads o.named o.content bank plan b p
        → IsOver words other_bank other_plan → bank_of (o.content other_bank) ≡ Err why → ⊥
    no_bank b p other_bank other_plan why reads over is =
        ok_err (bank_of (o.content bank)) b why reads.says_bank
        (subst (λ (name : List ℕ). bank_of (o.content name) ≡ Err why) (same_names other_bank other_plan over).0 is)

    no_plan : (b c : Tables) (p : Plan) (other_bank other_plan : List ℕ) (why : PlanFault) → Reads o.named o.content bank plan b p
        → IsOver words other_bank other_plan → bank_of (o.content other_bank) ≡ Ok c → IsOfText why → IsReadFault c (o.content other_plan) why → ⊥
    no_plan b c p other_bank other_plan why reads over is of_text refusal =
        let same = same_names other_bank other_plan over in
        let there = subst (λ (name : List ℕ). bank_of (o.content name) ≡ Ok c) same.0 is in
        no_plan_fault b c (o.content plan) p why (bank_same (bank_of (o.content bank)) c b there reads.says_bank) reads.says_plan of_text
        (subst (λ (name : List ℕ). IsReadFault c (o.content name) why) same.1 refusal)

  -- a drill reads no files
  no_drill : (bank plan : List ℕ) → files_of command ≡ Some (bank, plan) → (number sessions : ℕ) → command_of words ≡ Some (Drill number sessions) → ⊥
  no_drill bank plan names number sessions f = none_some (files_of command) (bank, plan) names (sym (ap files_of (same_command (Drill number sessions) f)))

  left : (bank plan : List ℕ) → files_of command ≡ Some (bank, plan) → (b : Tables) (p : Plan) (status : ℕ) (text : List ℕ)
      → Reads o.named o.content bank plan b p
      → (Rose o.files_before o.files_after → ⊥) → Outcome words o status text → Left words o command status
  left bank plan names b p _ _ reads quiet (faulty_words f untouched) = absurd (none_some (command_of words) command e f)
  left bank plan names b p _ _ reads quiet (bank_refused other_bank other_plan why over found is untouched) =
      absurd (no_bank bank plan names b p other_bank other_plan why reads over is)
  left bank plan names b p _ _ reads quiet (plan_refused other_bank other_plan c why over found plan_found is of_text refusal untouched) =
      absurd (no_plan bank plan names b c p other_bank other_plan why reads over is of_text refusal)
  left bank plan names b p _ _ reads quiet (script_refused script_bank script_plan name c q why f there found of_script refusal untouched) =
      no_script (subst (NoScript o) (same_command (Replay script_bank script_plan name) f) (why, of_script, refusal))
  left bank plan names b p _ _ reads quiet (checked other_bank other_plan c q f there untouched) = done
  left bank plan names b p _ _ reads quiet (form_found other_bank other_plan c q P form proved T f there finds untouched) = done
  left bank plan names b p _ _ reads quiet (without_form other c q T f ready shows untouched) = no_form c q T (subst (λ (d : Command). IsReady o.named o.content d c q) (same_command other f) ready) shows
  left bank plan names b p _ _ reads quiet (without_base_form other c q T f ready shows untouched) = no_base c q T (subst (λ (d : Command). IsReady o.named o.content d c q) (same_command other f) ready) shows
  left bank plan names b p _ _ reads quiet (journal_refused c q script base why is refusal) =
      no_journal (subst (NoJournal o) (same_command (Replay is.bank is.plan is.name) is.asked) (c, q, why, is.reads.reads, refusal))
  left bank plan names b p _ _ reads quiet (replayed c q script base H G replies is way) = done
  left bank plan names b p _ _ reads quiet (sessions_full c q script base H G request rest replies count is way why) =
      limit (meets c q script base is (of_sessions c q script base H G request rest replies count is way why))
  left bank plan names b p _ _ reads quiet (journal_full c q script base H G request rest replies K now size is way full at) =
      limit (meets c q script base is (of_journal c q script base H G request rest replies K now size is way full at))
  left bank plan names b p _ _ reads quiet (without_files other_bank other_plan over rose untouched) = absurd (quiet rose)
  left bank plan names b p _ _ reads quiet (without_journal c q script base is so) = disk (has_journal c q script base is) so.rose
  left bank plan names b p _ _ reads quiet (without_disk c q script base H G rest replies is way rose) = disk (has_journal c q script base is) rose
  left bank plan names b p _ _ reads quiet (without_memory untouched) = memory
  left bank plan names b p _ _ reads quiet (without_more_memory c q script base H G rest replies is way) = memory
  left bank plan names b p _ _ reads quiet (server_refused c q base why is refusal) =
      no_journal (subst (NoJournal o) (same_command (Serve is.bank is.plan is.ahead) is.asked) (c, q, why, is.reads, refusal))
  left bank plan names b p _ _ reads quiet (server_without_journal c q base is so) = disk (serves_journal c q base is) so.rose
  left bank plan names b p _ _ reads quiet (server_without_memory c q base opened H is examined) = memory
  left bank plan names b p _ _ reads quiet (audited c q s exposure bands is found untouched) = done
  left bank plan names b p _ _ reads quiet (audit_refused c q why is refusal) =
      no_journal (subst (NoJournal o) (same_command (Audit is.bank is.plan) is.asked) (c, q, why, is.reads, refusal))
  left bank plan names b p _ _ reads quiet (without_audit c q is rose untouched) = disk (audits_journal c q is) rose
  left bank plan names b p _ _ reads quiet (drilled number sessions s f is untouched) = absurd (no_drill bank plan names number sessions f)
  left bank plan names b p _ _ reads quiet (migrated c q moved is so) = done
  left bank plan names b p _ _ reads quiet (migration_refused c q why is refusal) =
      no_journal (subst (NoJournal o) (same_command (Migrate is.bank is.plan) is.asked) (c, q, why, is.reads, refusal))
  left bank plan names b p _ _ reads quiet (migration_full c q size is full) =
      limit (subst (NoRoom words o) (same_command (Migrate is.bank is.plan) is.asked) (c, q, size, is.reads, full.long))
  left bank plan names b p _ _ reads quiet (without_migration c q is rose cut) = disk (moves_journal c q is) rose
  left bank plan names b p _ _ reads quiet (migration_without_memory c q is cut still) = memory
  left bank plan names b p _ _ reads quiet (migrated_without_line c q moved is so) = memory
  left bank plan names b p _ _ reads quiet (series_answered c q forms weights status text is answers untouched) =
      series status (subst (AnswersOne o status) (same_command (Series is.bank is.plan forms is.word) is.asked)
      (c, q, text, is.reads, subst (λ (ws : List ℕ). AnswersSeries c q forms ws status text) is.weights_are answers))
  left bank plan names b p _ _ reads quiet (link_refused c q base why is refusal) =
      no_journal (subst (NoJournal o) (same_command is.command is.asked) (no_link_journal o is.command is.is_linked is.bank is.plan is.names c q why is.reads refusal))
  left bank plan names b p _ _ reads quiet (link_without_journal c q base is so) = disk (links_journal c q base is) so.rose

-- a server, a follower or a shipper that took no link was not done
module _ (words : List (List ℕ)) (o : Outside) (command : Command) (e : command_of words ≡ Some command) (uses : UsesDoors command) where
  no_server : (other : Command) → command_of words ≡ Some other → (UsesDoors other → ⊥) → ⊥
  no_server other f none = none (subst UsesDoors (command_same (command_of words) command other e f) uses)

  not_done : (status : ℕ) (text : List ℕ) → Outcome words o status text → status ≡ 0 → ⊥
  not_done _ _ (checked bank plan c q f there untouched) zero = no_server (Check bank plan) f (λ x. x)
  not_done _ _ (form_found bank plan c q P form proved T f there finds untouched) zero = no_server (Assemble bank plan) f (λ x. x)
  not_done _ _ (replayed c q script base H G replies is way) zero = no_server (Replay is.bank is.plan is.name) is.asked (λ x. x)
  not_done _ _ (audited c q s exposure bands is found untouched) zero = no_server (Audit is.bank is.plan) is.asked (λ x. x)
  not_done _ _ (faulty_words f untouched) zero = omega (arith, zero)
  not_done _ _ (bank_refused bank plan why over found is untouched) zero = omega (arith, zero)
  not_done _ _ (plan_refused bank plan c why over found plan_found is of_text refusal untouched) zero = omega (arith, zero)
  not_done _ _ (script_refused bank plan name c q why f there found of_script refusal untouched) zero = omega (arith, zero)
  not_done _ _ (without_form other c q T f ready shows untouched) zero = omega (arith, zero)
  not_done _ _ (without_base_form other c q T f ready shows untouched) zero = omega (arith, zero)
  not_done _ _ (journal_refused c q script base why is refusal) zero = omega (arith, zero)
  not_done _ _ (sessions_full c q script base H G request rest replies count is way why) zero = omega (arith, zero)
  not_done _ _ (journal_full c q script base H G request rest replies K now size is way full at) zero = omega (arith, zero)
  not_done _ _ (without_files bank plan over rose untouched) zero = omega (arith, zero)
  not_done _ _ (without_journal c q script base is so) zero = omega (arith, zero)
  not_done _ _ (without_disk c q script base H G rest replies is way rose) zero = omega (arith, zero)
  not_done _ _ (without_memory untouched) zero = omega (arith, zero)
  not_done _ _ (without_more_memory c q script base H G rest replies is way) zero = omega (arith, zero)
  not_done _ _ (server_refused c q base why is refusal) zero = omega (arith, zero)
  not_done _ _ (server_without_journal c q base is so) zero = omega (arith, zero)
  not_done _ _ (server_without_memory c q base opened H is examined) zero = omega (arith, zero)
  not_done _ _ (audit_refused c q why is refusal) zero = omega (arith, zero)
  not_done _ _ (without_audit c q is rose untouched) zero = omega (arith, zero)
  not_done _ _ (migrated c q moved is so) zero = no_server (Migrate is.bank is.plan) is.asked (λ x. x)
  not_done _ _ (migration_refused c q why is refusal) zero = omega (arith, zero)
  not_done _ _ (migration_full c q size is full) zero = omega (arith, zero)
  not_done _ _ (without_migration c q is rose cut) zero = omega (arith, zero)
  not_done _ _ (migration_without_memory c q is cut still) zero = omega (arith, zero)
  not_done _ _ (migrated_without_line c q moved is so) zero = omega (arith, zero)
  not_done _ _ (series_answered c q forms weights status text is answers untouched) zero = no_server (Series is.bank is.plan forms is.word) is.asked (λ x. x)
  not_done _ _ (drilled number sessions s f is untouched) zero = no_server (Drill number sessions) f (λ x. x)
  not_done _ _ (link_refused c q base why is refusal) zero = omega (arith, zero)
  not_done _ _ (link_without_journal c q base is so) zero = omega (arith, zero)

-- a drill reads no files
module _ (words : List (List ℕ)) (o : Outside) (number sessions : ℕ) (e : command_of words ≡ Some (Drill number sessions)) where
  no_other : (other : Command) → command_of words ≡ Some other → (bank plan : List ℕ) → files_of other ≡ Some (bank, plan) → ⊥
  no_other other f bank plan names =
      none_some (files_of other) (bank, plan) names (ap files_of (command_same (command_of words) other (Drill number sessions) f e))

  not_over : (bank plan : List ℕ) → IsOver words bank plan → ⊥
  not_over bank plan over = no_other over.command over.asked bank plan over.names

  not_ready : (other : Command) → command_of words ≡ Some other → (b : Tables) (p : Plan) → IsReady o.named o.content other b p → ⊥
  not_ready other f b p ready = subst (λ (c : Command). IsReady o.named o.content c b p) (command_same (command_of words) other (Drill number sessions) f e) ready

  not_replay : (b : Tables) (p : Plan) (script : List Request) (base : List ℕ) → IsReplayOf words o b p script base → ⊥
  not_replay b p script base is = no_other (Replay is.bank is.plan is.name) is.asked is.bank is.plan refl

  not_serve : (b : Tables) (p : Plan) (base : List ℕ) → IsServeOf words o b p base → ⊥
  not_serve b p base is = no_other (Serve is.bank is.plan is.ahead) is.asked is.bank is.plan refl

  not_audit : (b : Tables) (p : Plan) → IsAuditOf words o b p → ⊥
  not_audit b p is = no_other (Audit is.bank is.plan) is.asked is.bank is.plan refl

  not_moved : (b : Tables) (p : Plan) → IsMigrationOf words o b p → ⊥
  not_moved b p is = no_other (Migrate is.bank is.plan) is.asked is.bank is.plan refl

  not_linked : (b : Tables) (p : Plan) (base : List ℕ) → IsLinkOf words o b p base → ⊥
  not_linked b p base is = no_other is.command is.asked is.bank is.plan is.names

  drill_done : (status : ℕ) (text : List ℕ) → Outcome words o status text → (status ≡ 0) ⊎ (status ≡ 10)
  drill_done _ _ (drilled m n s f is untouched) = inl refl
  drill_done _ _ (without_memory untouched) = inr refl
  drill_done _ _ (faulty_words f untouched) = absurd (none_some (command_of words) (Drill number sessions) e f)
  drill_done _ _ (bank_refused bank plan why over found is untouched) = absurd (not_over bank plan over)
  drill_done _ _ (plan_refused bank plan c why over found plan_found is of_text refusal untouched) = absurd (not_over bank plan over)
  drill_done _ _ (script_refused bank plan name c q why f there found of_script refusal untouched) = absurd (no_other (Replay bank plan name) f bank plan refl)
  drill_done _ _ (checked bank plan c q f there untouched) = absurd (no_other (Check bank plan) f bank plan refl)
  drill_done _ _ (form_found bank plan c q P form proved T f there finds untouched) = absurd (no_other (Assemble bank plan) f bank plan refl)
  drill_done _ _ (without_form other c q T f ready shows untouched) = absurd (not_ready other f c q ready)
  drill_done _ _ (without_base_form other c q T f ready shows untouched) = absurd (not_ready other f c q ready)
  drill_done _ _ (journal_refused c q script base why is refusal) = absurd (not_replay c q script base is)
  drill_done _ _ (replayed c q script base H G replies is way) = absurd (not_replay c q script base is)
  drill_done _ _ (sessions_full c q script base H G request rest replies count is way why) = absurd (not_replay c q script base is)
  drill_done _ _ (journal_full c q script base H G request rest replies K now size is way full at) = absurd (not_replay c q script base is)
  drill_done _ _ (without_files bank plan over rose untouched) = absurd (not_over bank plan over)
  drill_done _ _ (without_journal c q script base is so) = absurd (not_replay c q script base is)
  drill_done _ _ (without_disk c q script base H G rest replies is way rose) = absurd (not_replay c q script base is)
  drill_done _ _ (without_more_memory c q script base H G rest replies is way) = absurd (not_replay c q script base is)
  drill_done _ _ (server_refused c q base why is refusal) = absurd (not_serve c q base is)
  drill_done _ _ (server_without_journal c q base is so) = absurd (not_serve c q base is)
  drill_done _ _ (server_without_memory c q base opened H is examined) = absurd (not_serve c q base is)
  drill_done _ _ (audited c q s exposure bands is found untouched) = absurd (not_audit c q is)
  drill_done _ _ (audit_refused c q why is refusal) = absurd (not_audit c q is)
  drill_done _ _ (without_audit c q is rose untouched) = absurd (not_audit c q is)
  drill_done _ _ (migrated c q moved is so) = absurd (not_moved c q is)
  drill_done _ _ (migration_refused c q why is refusal) = absurd (not_moved c q is)
  drill_done _ _ (migration_full c q size is full) = absurd (not_moved c q is)
  drill_done _ _ (without_migration c q is rose cut) = absurd (not_moved c q is)
  drill_done _ _ (migration_without_memory c q is cut still) = absurd (not_moved c q is)
  drill_done _ _ (migrated_without_line c q moved is so) = absurd (not_moved c q is)
  drill_done _ _ (series_answered c q forms weights status text is answers untouched) = absurd (no_other (Series is.bank is.plan forms is.word) is.asked is.bank is.plan refl)
  drill_done _ _ (link_refused c q base why is refusal) = absurd (not_linked c q base is)
  drill_done _ _ (link_without_journal c q base is so) = absurd (not_linked c q base is)

-- ---- the laws
pub drill_is_complete : DrillIsComplete
drill_is_complete words o number sessions status text e outcome = drill_done words o number sessions e status text outcome

pub check_is_complete : CheckIsComplete
check_is_complete words o bank plan b p status text e reads quiet outcome = of status (left words o (Check bank plan) e bank plan refl b p status text reads quiet outcome)
  where
    of : (s : ℕ) → Left words o (Check bank plan) s → (s ≡ 0) ⊎ (s ≡ 10)
    of _ done = inl refl
    of _ memory = inr refl
    of _ (no_form c q T ready shows) = absurd ready
    of _ (no_base c q T ready shows) = absurd ready
    of _ (no_script none) = absurd none
    of _ (no_journal none) = absurd none
    of _ (limit none) = absurd none
    of _ (disk none rose) = absurd none
    of _ (series s none) = absurd none

pub assemble_is_complete : AssembleIsComplete
assemble_is_complete words o bank plan base b p status text e reads with_base quiet outcome = of status (left words o (Assemble bank plan) e bank plan refl b p status text reads quiet outcome)
  where
    of : (s : ℕ) → Left words o (Assemble bank plan) s → (s ≡ 0) ⊎ (s ≡ 10)
    of _ done = inl refl
    of _ memory = inr refl
    of _ (no_form c q T ready shows) = absurd (form_there o.named o.content bank plan base b c p q T reads with_base ready shows)
    of _ (no_base c q T ready shows) = absurd (no_base_there o.named o.content bank plan base b c p q T reads with_base ready shows)
    of _ (no_script none) = absurd none
    of _ (no_journal none) = absurd none
    of _ (limit none) = absurd none
    of _ (disk none rose) = absurd none
    of _ (series s none) = absurd none

-- a journal of the files that are read is not refused
module _ (o : Outside) (bank plan : List ℕ) (b : Tables) (p : Plan) (H : List Entry) (reads : Reads o.named o.content bank plan b p)
    (told : IsTrue o.disk.told) (short : length o.disk.found ≤ p.journal) where
  not_refused : StandsSecond b p H o.disk.found → (c : Tables) (q : Plan) (f : OpenFault) → Reads o.named o.content bank plan c q → IsJournalRefused c q o.disk f → ⊥
  not_refused stands c q f there refusal =
      let same = plan_same o.named o.content bank plan b c p q reads there in
      let refused : IsJournalRefused b p o.disk f =
      subst (λ (x : Plan). IsJournalRefused b x o.disk f) same.1
      (subst (λ (t : Tables). IsJournalRefused t q o.disk f) same.0 refusal) in
      no_journal_fault b p o f H stands short told refused

  read_so : Stands b p H o.disk.found → (c : Tables) (q : Plan) (f : OpenFault) → Reads o.named o.content bank plan c q → IsReadingRefused c q o.disk f → ⊥
  read_so stands c q f there refusal =
      let same = plan_same o.named o.content bank plan b c p q reads there in
      let refused : IsReadingRefused b p o.disk f =
      subst (λ (x : Plan). IsReadingRefused b x o.disk f) same.1
      (subst (λ (t : Tables). IsReadingRefused t q o.disk f) same.0 refusal) in
      no_reading_fault b p o f H stands short told refused

  room_so : ((size : ℕ) → IsTooLongMoved b p o.disk.found size → ⊥) → (c : Tables) (q : Plan) (size : ℕ) → Reads o.named o.content bank plan c q → IsTooLongMoved c q o.disk.found size → ⊥
  room_so room c q size there long =
      let same = plan_same o.named o.content bank plan b c p q reads there in
      room size (subst (λ (x : Plan). IsTooLongMoved b x o.disk.found size) same.1
      (subst (λ (t : Tables). IsTooLongMoved t q o.disk.found size) same.0 long))

pub replay_is_complete : ReplayIsComplete
replay_is_complete words o bank plan name base b p script H status text e reads with_base says told stands short within quiet disk_quiet outcome =
    of status (left words o (Replay bank plan name) e bank plan refl b p status text reads quiet outcome)
  where
    of : (s : ℕ) → Left words o (Replay bank plan name) s → (s ≡ 0) ⊎ (s ≡ 10)
    of _ done = inl refl
    of _ memory = inr refl
    of _ (no_form c q T ready shows) = absurd (form_there o.named o.content bank plan base b c p q T reads with_base ready.0 shows)
    of _ (no_base c q T ready shows) = absurd (no_base_there o.named o.content bank plan base b c p q T reads with_base ready.0 shows)
    of _ (no_script none) = absurd (no_script_fault (o.content name) script none.0 says none.1 none.2)
    of _ (no_journal none) = absurd (not_refused o bank plan b p H reads told short stands none.0 none.1 none.2 none.3 none.4)
    of _ (limit met) = absurd (within met)
    of _ (disk has rose) = absurd (disk_quiet rose)
    of _ (series s none) = absurd none

pub serve_is_complete : ServeIsComplete
serve_is_complete words o bank plan base ahead b p H status text e reads with_base told stands short quiet disk_quiet outcome =
    of status (left words o (Serve bank plan ahead) e bank plan refl b p status text reads quiet outcome) (not_done words o (Serve bank plan ahead) e tt status text outcome)
  where
    of : (s : ℕ) → Left words o (Serve bank plan ahead) s → (s ≡ 0 → ⊥) → s ≡ 10
    of _ done not = absurd (not refl)
    of _ memory not = refl
    of _ (no_form c q T ready shows) not = absurd (form_there o.named o.content bank plan base b c p q T reads with_base ready shows)
    of _ (no_base c q T ready shows) not = absurd (no_base_there o.named o.content bank plan base b c p q T reads with_base ready shows)
    of _ (no_script none) not = absurd none
    of _ (no_journal none) not = absurd (not_refused o bank plan b p H reads told short stands none.0 none.1 none.2 none.3 none.4)
    of _ (limit none) not = absurd none
    of _ (disk has rose) not = absurd (disk_quiet rose)
    of _ (series s none) not = absurd none

pub follow_is_complete : FollowIsComplete
follow_is_complete words o bank plan base b p H status text e reads with_base told stands short quiet disk_quiet outcome =
    of status (left words o (Follow bank plan) e bank plan refl b p status text reads quiet outcome) (not_done words o (Follow bank plan) e tt status text outcome)
  where
    of : (s : ℕ) → Left words o (Follow bank plan) s → (s ≡ 0 → ⊥) → s ≡ 10
    of _ done not = absurd (not refl)
    of _ memory not = refl
    of _ (no_form c q T ready shows) not = absurd (form_there o.named o.content bank plan base b c p q T reads with_base ready shows)
    of _ (no_base c q T ready shows) not = absurd (no_base_there o.named o.content bank plan base b c p q T reads with_base ready shows)
    of _ (no_script none) not = absurd none
    of _ (no_journal none) not = absurd (not_refused o bank plan b p H reads told short stands none.0 none.1 none.2 none.3 none.4)
    of _ (limit none) not = absurd none
    of _ (disk has rose) not = absurd (disk_quiet rose)
    of _ (series s none) not = absurd none

pub ship_is_complete : ShipIsComplete
ship_is_complete words o bank plan base b p H status text e reads with_base told stands short quiet disk_quiet outcome =
    of status (left words o (Ship bank plan) e bank plan refl b p status text reads quiet outcome) (not_done words o (Ship bank plan) e tt status text outcome)
  where
    of : (s : ℕ) → Left words o (Ship bank plan) s → (s ≡ 0 → ⊥) → s ≡ 10
    of _ done not = absurd (not refl)
    of _ memory not = refl
    of _ (no_form c q T ready shows) not = absurd (form_there o.named o.content bank plan base b c p q T reads with_base ready shows)
    of _ (no_base c q T ready shows) not = absurd (no_base_there o.named o.content bank plan base b c p q T reads with_base ready shows)
    of _ (no_script none) not = absurd none
    of _ (no_journal none) not = absurd (not_refused o bank plan b p H reads told short stands none.0 none.1 none.2 none.3 none.4)
    of _ (limit none) not = absurd none
    of _ (disk has rose) not = absurd (disk_quiet rose)
    of _ (series s none) not = absurd none

pub audit_is_complete : AuditIsComplete
audit_is_complete words o bank plan b p H status text e reads told stands short quiet disk_quiet outcome =
    of status (left words o (Audit bank plan) e bank plan refl b p status text reads quiet outcome)
  where
    of : (s : ℕ) → Left words o (Audit bank plan) s → (s ≡ 0) ⊎ (s ≡ 10)
    of _ done = inl refl
    of _ memory = inr refl
    of _ (no_form c q T ready shows) = absurd ready
    of _ (no_base c q T ready shows) = absurd ready
    of _ (no_script none) = absurd none
    of _ (no_journal none) = absurd (read_so o bank plan b p H reads told short stands none.0 none.1 none.2 none.3 none.4)
    of _ (limit none) = absurd none
    of _ (disk has rose) = absurd (disk_quiet rose)
    of _ (series s none) = absurd none

pub migrate_is_complete : MigrateIsComplete
migrate_is_complete words o bank plan b p H status text e reads told stands short room quiet disk_quiet outcome =
    of status (left words o (Migrate bank plan) e bank plan refl b p status text reads quiet outcome)
  where
    of : (s : ℕ) → Left words o (Migrate bank plan) s → (s ≡ 0) ⊎ (s ≡ 10)
    of _ done = inl refl
    of _ memory = inr refl
    of _ (no_form c q T ready shows) = absurd ready
    of _ (no_base c q T ready shows) = absurd ready
    of _ (no_script none) = absurd none
    of _ (no_journal none) = absurd (read_so o bank plan b p H reads told short stands none.0 none.1 none.2 none.3 none.4)
    of _ (limit full) = absurd (room_so o bank plan b p H reads told short room full.0 full.1 full.2 full.3 (full.4 told))
    of _ (disk has rose) = absurd (disk_quiet rose)
    of _ (series s none) = absurd none

-- the weights that are the grid's are taken
series_status : (b c : Tables) (p q : Plan) (forms : ℕ) (weights : List ℕ) (status : ℕ) (text : List ℕ) → c ≡ b → AreWeightsFor b weights → AnswersSeries c q forms weights status text
    → (status ≡ 0) ⊎ ((status ≡ 17) ⊎ ((status ≡ 18) ⊎ (status ≡ 10)))
series_status b c p q forms weights _ _ same are (series_told text tells) = inl refl
series_status b c p q forms weights _ _ same are (weights_not_taken refused) = absurd (refused (subst (λ (t : Tables). AreWeightsFor t weights) (sym same) are))
series_status b c p q forms weights _ _ same are (without_series T fit shows) = inr (inl refl)
series_status b c p q forms weights _ _ same are (series_not_found T fit shows) = inr (inr (inl refl))

pub series_is_complete : SeriesIsComplete
series_is_complete words o bank plan forms word b p status text e reads are quiet outcome =
    of status (left words o (Series bank plan forms word) e bank plan refl b p status text reads quiet outcome)
  where
    of : (s : ℕ) → Left words o (Series bank plan forms word) s → (s ≡ 0) ⊎ ((s ≡ 17) ⊎ ((s ≡ 18) ⊎ (s ≡ 10)))
    of _ done = inl refl
    of _ memory = inr (inr (inr refl))
    of _ (no_form c q T ready shows) = absurd ready
    of _ (no_base c q T ready shows) = absurd ready
    of _ (no_script none) = absurd none
    of _ (no_journal none) = absurd none
    of _ (limit none) = absurd none
    of _ (disk none rose) = absurd none
    of _ (series s is) =
        series_status b is.0 p is.1 forms (weights_of word) s is.2
        (bank_same (bank_of (o.content bank)) is.0 b is.3.says_bank reads.says_bank) are is.4
