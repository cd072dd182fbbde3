-- The outcome of a command, from the outcomes of its parts.
use Rattle.std.proofs.Common.{◌≡◌, ℕ, ◌≤◌, Bool, List, [], ◌∷◌, ◌++◌, IsTrue, inl, inr, Some, None, arith, refl, sym, ◌∙◌, ap, subst, append_assoc, length-append}
use Rattle.std.proofs.lemmas.List.{append-nil}
use Rattle.bank_tables.specs.Tables.{Tables}
use Rattle.spec_reader.specs.Canonical.{canonical}
use Rattle.exam_edge.specs.Faults.{Rose}
use Rattle.exam_edge.specs.Images.{Account}
use Rattle.form_model.specs.Plan.{Plan}
use Rattle.exam_lines.specs.Texts.{migrated_text}
use Rattle.form_lines.specs.Texts.{no_series_within}
use Rattle.exam_text.specs.Texts.{no_memory}
use Rattle.history_model.specs.declared.request.Request.{Request}
use Rattle.replay_cli.specs.Replies.{lines_of}
use Rattle.exam_program.specs.declared.halt.Halt.{Halt}
use Rattle.exam_program.specs.declared.halt.Halt.TheVariants as halt
use Rattle.exam_program.specs.Bases.{TellsForm}
use Rattle.command_line.specs.Commands.{Command, Check, Assemble, Replay, command_of}
use Rattle.exam_program.specs.Series.{IsSeriesOf, TellsSeriesOf, series_told, weights_not_taken, without_series, series_not_found, HaltsAtSeries}
use Rattle.exam_program.specs.Drilling.{HaltsAtDrill}
use Rattle.exam_program.specs.Halts.{HaltsAtExam, HaltsAtScript, HaltsAtBase, Reads, IsBeforeJournal}
use Rattle.exam_program.specs.Outside.{Outside, DiskSeen, disk_seen, IsUntouched}
use Rattle.exam_office.specs.declared.fault.OpenFault.{OpenFault}
use Rattle.exam_office.specs.declared.fault.OpenFault.TheVariants as open_fault
use Rattle.exam_office.specs.declared.migrating.Moved.{Moved}
use Rattle.exam_office.specs.declared.migrating.MigrateFault.{MigrateFault}
use Rattle.exam_office.specs.declared.migrating.MigrateFault.TheVariants as migrate_fault
use Rattle.exam_office.specs.Migrating.{IsMigrateAnswer, IsOfContent, migrate_fault as migrate_fault_of}
use Rattle.exam_office.specs.Opening.{IsReadAnswer}
use Rattle.exam_program.specs.Migrations.{IsMigrationCutOff, IsMigrationDone, IsStillUnmoved, migration_halt}
use Rattle.exam_program.specs.Replays.{IsLeftAt, IsReadingRefused}
use Rattle.exam_program.specs.Stopping.{opening_halt, IsUnprinted, IsUnopened, refused, failed, out_of_memory, Stops, by_sessions, by_journal, by_disk, by_memory, by_sink, Finishes, IsReplayed, Halted}
use Rattle.exam_program.specs.Texts.{bank_line, no_base_form, usage}
use Rattle.exam_program.specs.Writing.{IsWritten, WritesPart}
use Rattle.exam_program.proofs.CauseLaws.{audit_refuses, migration_refuses, ready_is_read, replay_refuses}
use Rattle.exam_program.specs.Outcomes.{series_answered, IsOver, IsReady, IsReplayOf, Outcome, faulty_words, bank_refused, plan_refused, script_refused, checked, form_found, without_form, without_base_form, journal_refused, replayed, sessions_full, journal_full, without_files, without_journal, without_disk, without_memory, without_more_memory, server_refused, server_without_journal, server_without_memory, IsAuditOf, audited, audit_refused, without_audit, drilled, IsMigrationOf, migrated, migration_refused, migration_full, without_migration, migration_without_memory, migrated_without_line, link_refused, link_without_journal, Prints, PrintsPart, PrintsBefore, Ends, LeavesJournal, as_found, at_opening, after_requests, server_at_opening, after_opening, after_migration, at_migration, link_at_opening, Halts, EndsBy, IsStatus}

-- a count that rose later, rose
pub rose_later : (before now after : ℕ) → before ≤ now → Rose now after → Rose before after
rose_later before now after le rose = omega (arith, le, rose)

-- ---- a disk that is handed back as it was handed in
pub as_it_is : {D : Type 0} (tells : D → Bool) (content : D → List ℕ) (accounts : D → List Account) (faults : D → ℕ) (d : D)
    → IsUntouched (disk_seen tells content accounts faults d d)
as_it_is tells content accounts faults d = record {
  left = λ t. refl;
  images = λ t file image. image;
  moments = λ t. record { more = []; grown = sym (append-nil (accounts d)); start = λ file image. image; each = tt };
}

-- ---- what a command has printed when it halts
module _ (words : List (List ℕ)) (o : Outside) (told : Bool) (old : List ℕ) where
  -- nothing was printed before
  nothing_before : (status : ℕ) (last : List ℕ) → Outcome words o status last → PrintsBefore words o told old old status last
  nothing_before status last outcome = record { text = []; written = λ t. sym (append-nil old); outcome = outcome }

  pub halts_without_memory : IsUntouched o.disk → Halts words o told old old halt.Memory
  halts_without_memory untouched = nothing_before 10 _ (without_memory untouched)

  pub halts_at_exam : (bank plan : List ℕ) (h : Halt) → IsOver words bank plan → (h ≡ halt.Files → Rose o.files_before o.files_after)
      → IsUntouched o.disk → HaltsAtExam o.named o.content bank plan h → Halts words o told old old h
  halts_at_exam bank plan (halt.Bank fault) over rose untouched is =
      (nothing_before 3 _ (bank_refused bank plan fault over is.0 is.1 untouched), nothing_before 10 _ (without_memory untouched))
  halts_at_exam bank plan (halt.Plan fault) over rose untouched is =
      (nothing_before 4 _ (plan_refused bank plan is.0 fault over is.1 is.2 is.3 is.4 is.5 untouched), nothing_before 10 _ (without_memory untouched))
  halts_at_exam bank plan halt.Files over rose untouched is = nothing_before 7 _ (without_files bank plan over (rose refl) untouched)
  halts_at_exam bank plan halt.Memory over rose untouched is = nothing_before 10 _ (without_memory untouched)
  halts_at_exam bank plan h over rose untouched is = absurd is

  pub halts_at_script : (bank plan script : List ℕ) (b : Tables) (p : Plan) (h : Halt) → command_of words ≡ Some (Replay bank plan script)
      → Reads o.named o.content bank plan b p → (h ≡ halt.Files → Rose o.files_before o.files_after) → IsUntouched o.disk
      → HaltsAtScript (o.named script) (o.content script) h → Halts words o told old old h
  halts_at_script bank plan script b p (halt.Script fault) e reads rose untouched is =
      (nothing_before 5 _ (script_refused bank plan script b p fault e reads is.0 is.1 is.2 untouched), nothing_before 10 _ (without_memory untouched))
  halts_at_script bank plan script b p halt.Files e reads rose untouched is = nothing_before 7 _ (without_files bank plan (record { command = Replay bank plan script; asked = e; names = refl }) (rose refl) untouched)
  halts_at_script bank plan script b p halt.Memory e reads rose untouched is = nothing_before 10 _ (without_memory untouched)
  halts_at_script bank plan script b p h e reads rose untouched is = absurd is

  pub halts_at_base : (command : Command) (b : Tables) (p : Plan) (h : Halt) → command_of words ≡ Some command
      → IsReady o.named o.content command b p → IsUntouched o.disk → HaltsAtBase b p h → Halts words o told old old h
  halts_at_base command b p (halt.NoForm tree) e ready untouched is = (
    (b, p, ready_is_read words o command b p e ready, is),
    (nothing_before 11 _ (without_form command b p tree e ready is untouched), nothing_before 10 _ (without_memory untouched)),
  )
  halts_at_base command b p (halt.NoBaseForm budget tree) e ready untouched is =
      let ends : Outcome words o 12 (no_base_form budget tree) = subst (λ (n : ℕ). Outcome words o 12 (no_base_form n tree)) (sym is.0) (without_base_form command b p tree e ready is.1 untouched) in (
        (b, p, ready_is_read words o command b p e ready, is.0, is.1),
        (nothing_before 12 _ ends, nothing_before 10 _ (without_memory untouched)),
      )
  halts_at_base command b p halt.Memory e ready untouched is = nothing_before 10 _ (without_memory untouched)
  halts_at_base command b p h e ready untouched is = absurd is

  -- the usage is printed where the words are faulty
  pub before_usage : command_of words ≡ None → IsUntouched o.disk → PrintsBefore words o told old old 2 usage
  before_usage e untouched = nothing_before 2 usage (faulty_words e untouched)

  -- ---- one text that is printed whole, or in part
  pub prints : (new text : List ℕ) → Outcome words o 0 text → IsWritten told old new text → Prints words o told old new 0
  prints new text outcome written = record { text = text; written = written; outcome = outcome }

  pub prints_part : (new text : List ℕ) → Outcome words o 0 text → WritesPart told old new text → PrintsPart words o told old new
  prints_part new text outcome part = record {
    text = part.part;
    rest = part.rest;
    status = 0;
    written = part.written;
    outcome = subst (λ (t : List ℕ). Outcome words o 0 t) part.whole outcome;
    unfinished = part.unfinished;
  }

  -- or cut off
  pub halts_unprinted : (new text : List ℕ) (h : Halt) → Outcome words o 0 text → IsUntouched o.disk → IsUnprinted told old new text h → Halts words o told old new h
  halts_unprinted new text halt.Memory outcome untouched written = record { text = []; written = written; outcome = without_memory untouched }
  halts_unprinted new text halt.Sink outcome untouched part = prints_part new text outcome part
  halts_unprinted new text h outcome untouched is = absurd is

  -- ---- an audit
  refused_audit : (b : Tables) (p : Plan) (f : OpenFault) → IsAuditOf words o b p → IsReadingRefused b p o.disk f
      → Halts words o told old old (halt.Journal f)
  refused_audit b p f is so =
      (audit_refuses words o b p f is so, (nothing_before 6 _ (audit_refused b p f is so), nothing_before 10 _ (without_memory so.untouched)))

  -- a journal that was not read, or is refused
  pub halts_audited : (b : Tables) (p : Plan) (f : OpenFault) → IsAuditOf words o b p → IsUntouched o.disk
      → (IsTrue o.disk.told → IsReadAnswer b p o.disk.found f) → (f ≡ open_fault.Disk → Rose o.disk.before o.disk.after)
      → Halts words o told old old (opening_halt f)
  halts_audited b p open_fault.Disk is untouched answer rose = nothing_before 9 _ (without_audit b p is (rose refl) untouched)
  halts_audited b p open_fault.Memory is untouched answer rose = nothing_before 10 _ (without_memory untouched)
  halts_audited b p (open_fault.Journal f) is untouched answer rose = refused_audit b p (open_fault.Journal f) is (record { of_file = tt; answer = answer; untouched = untouched })
  halts_audited b p open_fault.Version is untouched answer rose = refused_audit b p open_fault.Version is (record { of_file = tt; answer = answer; untouched = untouched })
  halts_audited b p (open_fault.BadRecord at f) is untouched answer rose = refused_audit b p (open_fault.BadRecord at f) is (record { of_file = tt; answer = answer; untouched = untouched })
  halts_audited b p (open_fault.BadTree at) is untouched answer rose = refused_audit b p (open_fault.BadTree at) is (record { of_file = tt; answer = answer; untouched = untouched })
  halts_audited b p (open_fault.Illegal at f) is untouched answer rose = refused_audit b p (open_fault.Illegal at f) is (record { of_file = tt; answer = answer; untouched = untouched })

  -- ---- a migration
  refused_migration : (b : Tables) (p : Plan) (f : OpenFault) → IsMigrationOf words o b p → IsReadingRefused b p o.disk f
      → Halts words o told old old (halt.Journal f)
  refused_migration b p f is so =
      (migration_refuses words o b p f is so, (nothing_before 6 _ (migration_refused b p f is so), nothing_before 10 _ (without_memory so.untouched)))

  -- the journal was not opened
  halts_unopened : (b : Tables) (p : Plan) (f : OpenFault) → IsMigrationOf words o b p → migrate_fault_of f ≡ migrate_fault.Open f → IsUntouched o.disk
      → (IsTrue o.disk.told → IsMigrateAnswer b p o.disk.found (migrate_fault.Open f)) → Halts words o told old old (halt.Journal f)
  halts_unopened b p open_fault.Disk is so untouched answer = absurd cc
  halts_unopened b p open_fault.Memory is so untouched answer = absurd cc
  halts_unopened b p open_fault.Version is so untouched answer = refused_migration b p open_fault.Version is (record { of_file = tt; answer = answer; untouched = untouched })
  halts_unopened b p (open_fault.Journal f) is so untouched answer = refused_migration b p (open_fault.Journal f) is (record { of_file = tt; answer = answer; untouched = untouched })
  halts_unopened b p (open_fault.BadRecord at f) is so untouched answer = refused_migration b p (open_fault.BadRecord at f) is (record { of_file = tt; answer = answer; untouched = untouched })
  halts_unopened b p (open_fault.BadTree at) is so untouched answer = refused_migration b p (open_fault.BadTree at) is (record { of_file = tt; answer = answer; untouched = untouched })
  halts_unopened b p (open_fault.Illegal at f) is so untouched answer = refused_migration b p (open_fault.Illegal at f) is (record { of_file = tt; answer = answer; untouched = untouched })

  -- or it was not moved
  pub halts_unmoved : (b : Tables) (p : Plan) (f : MigrateFault) → IsMigrationOf words o b p
      → ((why : OpenFault) → f ≡ migrate_fault.Open why → migrate_fault_of why ≡ migrate_fault.Open why)
      → (IsTrue o.disk.told → IsMigrateAnswer b p o.disk.found f) → (IsOfContent f → IsUntouched o.disk)
      → (f ≡ migrate_fault.Disk → Rose o.disk.before o.disk.after) → IsMigrationCutOff b p o.disk
      → ((f ≡ migrate_fault.Disk → ⊥) → IsStillUnmoved o.disk)
      → Halts words o told old old (migration_halt p f)
  halts_unmoved b p (migrate_fault.Open why) is of_file answer untouched rose cut still = halts_unopened b p why is (of_file why refl) (untouched tt) answer
  halts_unmoved b p (migrate_fault.Full size) is of_file answer untouched rose cut still =
      let so = untouched tt in
      (nothing_before 13 _ (migration_full b p size is (record { long = answer; untouched = so })), nothing_before 10 _ (without_memory so))
  halts_unmoved b p migrate_fault.Disk is of_file answer untouched rose cut still = nothing_before 9 _ (without_migration b p is (rose refl) cut)
  halts_unmoved b p migrate_fault.Memory is of_file answer untouched rose cut still = nothing_before 10 _ (migration_without_memory b p is cut (still (λ e. cc)))

  -- its line was not printed
  pub halts_moved : (new : List ℕ) (b : Tables) (p : Plan) (moved : Moved) (h : Halt) → IsMigrationOf words o b p → IsMigrationDone b p o.disk moved
      → IsUnprinted told old new (migrated_text moved.records moved.length) h → Halts words o told old new h
  halts_moved new b p moved halt.Memory is so written = record { text = []; written = written; outcome = migrated_without_line b p moved is so }
  halts_moved new b p moved halt.Sink is so part = prints_part new (migrated_text moved.records moved.length) (migrated b p moved is so) part
  halts_moved new b p moved h is so unprinted = absurd unprinted

  -- ---- a series
  module _ (b : Tables) (p : Plan) (forms : ℕ) (weights : List ℕ) (is : IsSeriesOf words o b p forms weights) (untouched : IsUntouched o.disk) where
    pub halts_at_series : (h : Halt) → HaltsAtSeries b p forms weights h → Halts words o told old old h
    halts_at_series halt.Weights none = nothing_before 16 _ (series_answered b p forms weights 16 _ is (weights_not_taken none) untouched)
    halts_at_series (halt.NoSeries tree) shows = (
      (b, p, forms, weights, is, shows.1),
      (nothing_before 17 _ (series_answered b p forms weights 17 _ is (without_series tree shows.0 shows.1) untouched), nothing_before 10 _ (without_memory untouched)),
    )
    halts_at_series (halt.NoSeriesFound budget tree) shows =
        let ends : Outcome words o 18 (no_series_within budget tree) = subst (λ (n : ℕ). Outcome words o 18 (no_series_within n tree)) (sym shows.1) (series_answered b p forms weights 18 _ is (series_not_found tree shows.0 shows.2) untouched) in (
          (b, p, forms, weights, is, shows.1, shows.2),
          (nothing_before 18 _ ends, nothing_before 10 _ (without_memory untouched)),
        )
    halts_at_series halt.Memory shows = nothing_before 10 _ (without_memory untouched)
    halts_at_series h shows = absurd shows

  -- ---- a drill
  module _ (untouched : IsUntouched o.disk) where
    pub halts_at_drill : (h : Halt) → HaltsAtDrill h → Halts words o told old old h
    halts_at_drill halt.Memory is = nothing_before 10 _ (without_memory untouched)
    halts_at_drill h is = absurd is

  -- ---- a replay
  module _ (b : Tables) (p : Plan) (base : List ℕ) (script : List Request) (is : IsReplayOf words o b p script base) (new : List ℕ) where
    pub prints_replayed : Finishes (IsReplayed b p base o.disk script) told old new → Prints words o told old new 0
    prints_replayed f = record { text = lines_of f.replies; written = f.written; outcome = replayed b p script base f.way.H f.G f.replies is f.way.under_way }

    unopened_so : (h : Halt) → IsWritten told old new [] → IsUnopened b p o.disk h → Halts words o told old new h
    unopened_so _ written (refused fault so) = (
      replay_refuses words o b p script base fault is so,
      (
        record { text = []; written = written; outcome = journal_refused b p script base fault is so },
        record { text = []; written = written; outcome = without_memory so.untouched },
      ),
    )
    unopened_so _ written (failed so) = record { text = []; written = written; outcome = without_journal b p script base is so }
    unopened_so _ written (out_of_memory untouched) =
        record { text = []; written = written; outcome = without_memory untouched }

    stopped_so : (h : Halt) → Stops b p (IsReplayed b p base o.disk script) (IsLeftAt b p o.disk) (Rose o.disk.before o.disk.after) told old new h
        → Halts words o told old new h
    stopped_so _ (by_sessions G request rest replies count way why written) = (
      record { text = lines_of replies; written = written; outcome = sessions_full b p script base way.H G request rest replies count is way.under_way why },
      record { text = lines_of replies; written = written; outcome = without_more_memory b p script base way.H G (request ∷ rest) replies is way.under_way },
    )
    stopped_so _ (by_journal G request rest replies K reached size way full left written) = (
      record {
        text = lines_of replies;
        written = written;
        outcome = journal_full b p script base way.H G request rest replies K reached size is way.under_way full left;
      },
      record { text = lines_of replies; written = written; outcome = without_more_memory b p script base way.H G (request ∷ rest) replies is way.under_way },
    )
    stopped_so _ (by_disk G rest replies way rose written) =
        record { text = lines_of replies; written = written; outcome = without_disk b p script base way.H G rest replies is way.under_way rose }
    stopped_so _ (by_memory G rest replies way written) =
        record { text = lines_of replies; written = written; outcome = without_more_memory b p script base way.H G rest replies is way.under_way }
    stopped_so _ (by_sink G rest replies way part) = record {
      text = part.part;
      rest = part.rest ++ no_memory;
      status = 10;
      written = part.written;
      outcome = subst (λ (t : List ℕ). Outcome words o 10 t) (ap (λ (t : List ℕ). t ++ no_memory) part.whole ∙ append_assoc part.part part.rest no_memory)
          (without_more_memory b p script base way.H G rest replies is way.under_way);
      unfinished = omega (arith, length-append part.rest no_memory, part.unfinished);
    }

    pub halts_replayed : (h : Halt) → Halted b p base o.disk script told old new h → Halts words o told old new h
    halts_replayed h (inl (unopened, written)) = unopened_so h written unopened
    halts_replayed h (inr stops) = stopped_so h stops

pub outcome_checked : (words : List (List ℕ)) (o : Outside) (text bank plan : List ℕ) (b : Tables) (p : Plan) → command_of words ≡ Some (Check bank plan)
    → Reads o.named o.content bank plan b p → IsUntouched o.disk → text ≡ bank_line b ++ canonical p → Outcome words o 0 text
outcome_checked words o text bank plan b p e reads untouched is = subst (λ (t : List ℕ). Outcome words o 0 t) (sym is) (checked bank plan b p e reads untouched)

pub outcome_assembled : (words : List (List ℕ)) (o : Outside) (text bank plan : List ℕ) (b : Tables) (p : Plan)
    → command_of words ≡ Some (Assemble bank plan) → Reads o.named o.content bank plan b p → IsUntouched o.disk → TellsForm b p text → Outcome words o 0 text
outcome_assembled words o text bank plan b p e reads untouched tells =
    subst (λ (t : List ℕ). Outcome words o 0 t) (sym tells.is) (form_found bank plan b p tells.problem tells.form tells.proved tells.tree e reads tells.finds untouched)

pub outcome_series : (words : List (List ℕ)) (o : Outside) (text : List ℕ) (b : Tables) (p : Plan) (forms : ℕ) (weights : List ℕ)
    → IsSeriesOf words o b p forms weights → IsUntouched o.disk → TellsSeriesOf b p forms weights text → Outcome words o 0 text
outcome_series words o text b p forms weights is untouched tells = series_answered b p forms weights 0 text is (series_told text tells) untouched

-- ---- what is left of the journal
module _ (words : List (List ℕ)) (o : Outside) where
  leaves : (status : ℕ) (text : List ℕ) → Outcome words o status text → LeavesJournal words o
  leaves _ _ (faulty_words e untouched) = as_found untouched
  leaves _ _ (bank_refused bank plan fault over found is untouched) = as_found untouched
  leaves _ _ (plan_refused bank plan b fault over found plan_found is of_text refusal untouched) = as_found untouched
  leaves _ _ (script_refused bank plan name b p fault e reads found of_script refusal untouched) = as_found untouched
  leaves _ _ (checked bank plan b p e reads untouched) = as_found untouched
  leaves _ _ (form_found bank plan b p P form proved T e reads finds untouched) = as_found untouched
  leaves _ _ (without_form command b p T e ready shows untouched) = as_found untouched
  leaves _ _ (without_base_form command b p T e ready shows untouched) = as_found untouched
  leaves _ _ (journal_refused b p script base fault is so) = as_found so.untouched
  leaves _ _ (replayed b p script base H G replies is way) = after_requests b p script base H G [] replies is way
  leaves _ _ (sessions_full b p script base H G request rest replies count is way why) = after_requests b p script base H G (request ∷ rest) replies is way
  leaves _ _ (journal_full b p script base H G request rest replies K now size is way full at) = after_requests b p script base H G (request ∷ rest) replies is way
  leaves _ _ (without_files bank plan over rose untouched) = as_found untouched
  leaves _ _ (without_journal b p script base is so) = at_opening b p script base is so
  leaves _ _ (without_disk b p script base H G rest replies is way rose) = after_requests b p script base H G rest replies is way
  leaves _ _ (without_memory untouched) = as_found untouched
  leaves _ _ (without_more_memory b p script base H G rest replies is way) = after_requests b p script base H G rest replies is way
  leaves _ _ (server_refused b p base fault is so) = as_found so.untouched
  leaves _ _ (server_without_journal b p base is so) = server_at_opening b p base is so
  leaves _ _ (server_without_memory b p base opened H is examined) = after_opening b p base opened H is examined
  leaves _ _ (audited b p s exposure bands is found untouched) = as_found untouched
  leaves _ _ (audit_refused b p fault is so) = as_found so.untouched
  leaves _ _ (without_audit b p is rose untouched) = as_found untouched
  leaves _ _ (drilled number sessions s e is untouched) = as_found untouched
  leaves _ _ (migrated b p done is so) = after_migration b p done is so
  leaves _ _ (migration_refused b p fault is so) = as_found so.untouched
  leaves _ _ (migration_full b p size is so) = as_found so.untouched
  leaves _ _ (without_migration b p is rose cut) = at_migration b p is cut
  leaves _ _ (migration_without_memory b p is cut still) = at_migration b p is cut
  leaves _ _ (migrated_without_line b p done is so) = after_migration b p done is so
  leaves _ _ (series_answered b p forms weights status text is answers untouched) = as_found untouched
  leaves _ _ (link_refused b p base fault is so) = as_found so.untouched
  leaves _ _ (link_without_journal b p base is so) = link_at_opening b p base is so

  pub leaves_journal : (told : Bool) (old new : List ℕ) (status : ℕ) → Ends words o told old new status → LeavesJournal words o
  leaves_journal told old new status (inl prints) = leaves status prints.text prints.outcome
  leaves_journal told old new status (inr (_, part)) = leaves part.status (part.text ++ part.rest) part.outcome

-- ---- the statuses
pub is_2 : IsStatus 2
is_2 = (1, omega arith, refl)

pub is_8 : IsStatus 8
is_8 = (7, omega arith, refl)

pub is_10 : IsStatus 10
is_10 = (9, omega arith, refl)

is_13 : IsStatus 13
is_13 = (12, omega arith, refl)

-- a status that is one of them
pub also : (n status : ℕ) → status ≡ n → IsStatus n → IsStatus status
also n status e is = subst (λ (s : ℕ). IsStatus s) (sym e) is

pub ends_by : (h : Halt) (status : ℕ) → EndsBy h status → IsStatus status
ends_by (halt.Bank fault) status (inl e) = also 3 status e (2, omega arith, refl)
ends_by (halt.Bank fault) status (inr e) = also 10 status e is_10
ends_by (halt.Plan fault) status (inl e) = also 4 status e (3, omega arith, refl)
ends_by (halt.Plan fault) status (inr e) = also 10 status e is_10
ends_by (halt.Script fault) status (inl e) = also 5 status e (4, omega arith, refl)
ends_by (halt.Script fault) status (inr e) = also 10 status e is_10
ends_by (halt.NoForm tree) status (inl e) = also 11 status e (10, omega arith, refl)
ends_by (halt.NoForm tree) status (inr e) = also 10 status e is_10
ends_by (halt.NoBaseForm budget tree) status (inl e) = also 12 status e (11, omega arith, refl)
ends_by (halt.NoBaseForm budget tree) status (inr e) = also 10 status e is_10
ends_by (halt.Journal fault) status (inl e) = also 6 status e (5, omega arith, refl)
ends_by (halt.Journal fault) status (inr e) = also 10 status e is_10
ends_by (halt.Sessions count most) status (inl e) = also 13 status e is_13
ends_by (halt.Sessions count most) status (inr e) = also 10 status e is_10
ends_by (halt.JournalFull size most) status (inl e) = also 13 status e is_13
ends_by (halt.JournalFull size most) status (inr e) = also 10 status e is_10
ends_by halt.Weights status e = also 16 status e (13, omega arith, refl)
ends_by (halt.NoSeries tree) status (inl e) = also 17 status e (14, omega arith, refl)
ends_by (halt.NoSeries tree) status (inr e) = also 10 status e is_10
ends_by (halt.NoSeriesFound budget tree) status (inl e) = also 18 status e (15, omega arith, refl)
ends_by (halt.NoSeriesFound budget tree) status (inr e) = also 10 status e is_10
ends_by halt.Files status e = also 7 status e (6, omega arith, refl)
ends_by halt.Disk status e = also 9 status e (8, omega arith, refl)
ends_by halt.Sink status e = also 8 status e is_8
ends_by halt.Memory status e = also 10 status e is_10

-- ---- a journal was asked for
-- the disk failed in a replay
pub rose_so : (b : Tables) (p : Plan) (base : List ℕ) (disk : DiskSeen) (script : List Request) (told : Bool) (old new : List ℕ) (h : Halt)
    → Halted b p base disk script told old new h → h ≡ halt.Disk → Rose disk.before disk.after
rose_so b p base disk script told old new h (inl (unopened, written)) is = unopened_rose h unopened is
  where
    unopened_rose : (h : Halt) → IsUnopened b p disk h → h ≡ halt.Disk → Rose disk.before disk.after
    unopened_rose _ (refused fault so) is = cc
    unopened_rose _ (failed so) is = so.rose
    unopened_rose _ (out_of_memory untouched) is = cc
rose_so b p base disk script told old new h (inr stops) is = stopped_rose h stops is
  where
    stopped_rose : (h : Halt) → Stops b p (IsReplayed b p base disk script) (IsLeftAt b p disk) (Rose disk.before disk.after) told old new h → h ≡ halt.Disk
        → Rose disk.before disk.after
    stopped_rose _ (by_sessions G request rest replies count way why written) is = cc
    stopped_rose _ (by_journal G request rest replies K reached size way full left written) is = cc
    stopped_rose _ (by_disk G rest replies way rose written) is = rose
    stopped_rose _ (by_memory G rest replies way written) is = cc
    stopped_rose _ (by_sink G rest replies way part) is = cc

-- a replay doesn't halt before its journal is asked for
pub opened_so : (b : Tables) (p : Plan) (base : List ℕ) (disk : DiskSeen) (script : List Request) (told : Bool) (old new : List ℕ) (h : Halt)
    → Halted b p base disk script told old new h → IsBeforeJournal h → ⊥
opened_so b p base disk script told old new h (inl (unopened, written)) before = unopened_not h unopened before
  where
    unopened_not : (h : Halt) → IsUnopened b p disk h → IsBeforeJournal h → ⊥
    unopened_not _ (refused fault so) before = before
    unopened_not _ (failed so) before = before
    unopened_not _ (out_of_memory untouched) before = before
opened_so b p base disk script told old new h (inr stops) before = stopped_not h stops before
  where
    stopped_not : (h : Halt) → Stops b p (IsReplayed b p base disk script) (IsLeftAt b p disk) (Rose disk.before disk.after) told old new h → IsBeforeJournal h → ⊥
    stopped_not _ (by_sessions G request rest replies count way why written) before = before
    stopped_not _ (by_journal G request rest replies K reached size way full left written) before = before
    stopped_not _ (by_disk G rest replies way rose written) before = before
    stopped_not _ (by_memory G rest replies way written) before = before
    stopped_not _ (by_sink G rest replies way part) before = before
