-- What the halt of a run shows.
use Rattle.std.proofs.Common.{◌≡◌, ℕ, ◌⊎◌, inl, inr, Bool, List, Some, refl, sym, subst, arith}
use Rattle.std.proofs.lemmas.Bool.{false≢true}
use Rattle.bank_tables.specs.Tables.{Tables}
use Rattle.form_model.specs.Plan.{Plan}
use Rattle.command_line.specs.Commands.{Command, Check, Assemble, Replay, Serve, Audit, Drill, Migrate, Series, Follow, Ship, IsLinked, IsOfLinked, command_of}
use Rattle.exam_office.specs.declared.fault.OpenFault.{OpenFault}
use Rattle.exam_program.specs.declared.halt.Halt.{Halt}
use Rattle.exam_program.specs.declared.halt.Halt.TheVariants as halt
use Rattle.exam_program.specs.Causes.{IsRead, IsRefused, IsRefusedIn, Shows}
use Rattle.exam_program.specs.LinkWords.{IsLinkOf}
use Rattle.exam_program.specs.Outcomes.{EndsAs, EndsBy, Halts, IsAuditOf, IsMigrationOf, IsReady, IsReplayOf, IsStatusBefore}
use Rattle.exam_program.specs.Outside.{DiskSeen, Outside}
use Rattle.exam_program.specs.Replays.{IsJournalRefused, IsReadingRefused}
use Rattle.exam_program.specs.Serves.{IsServeOf}
use Rattle.history_model.specs.declared.request.Request.{Request}

-- ---- a journal that is refused, by each command
module _ (words : List (List ℕ)) (o : Outside) (b : Tables) (p : Plan) where
  pub replay_refuses : (script : List Request) (base : List ℕ) (fault : OpenFault) → IsReplayOf words o b p script base → IsJournalRefused b p o.disk fault → IsRefused words o fault
  replay_refuses script base fault is so = record {
    command = Replay is.bank is.plan is.name;
    bank = is.bank;
    plan = is.plan;
    b = b;
    p = p;
    asked = is.asked;
    names = refl;
    reads = is.reads.reads;
    refused = so;
  }

  pub server_refuses : (base : List ℕ) (fault : OpenFault) → IsServeOf words o b p base → IsJournalRefused b p o.disk fault → IsRefused words o fault
  server_refuses base fault is so = record {
    command = Serve is.bank is.plan is.ahead;
    bank = is.bank;
    plan = is.plan;
    b = b;
    p = p;
    asked = is.asked;
    names = refl;
    reads = is.reads;
    refused = so;
  }

  pub audit_refuses : (fault : OpenFault) → IsAuditOf words o b p → IsReadingRefused b p o.disk fault → IsRefused words o fault
  audit_refuses fault is so = record {
    command = Audit is.bank is.plan;
    bank = is.bank;
    plan = is.plan;
    b = b;
    p = p;
    asked = is.asked;
    names = refl;
    reads = is.reads;
    refused = so;
  }

  pub migration_refuses : (fault : OpenFault) → IsMigrationOf words o b p → IsReadingRefused b p o.disk fault → IsRefused words o fault
  migration_refuses fault is so = record {
    command = Migrate is.bank is.plan;
    bank = is.bank;
    plan = is.plan;
    b = b;
    p = p;
    asked = is.asked;
    names = refl;
    reads = is.reads;
    refused = so;
  }

  linked_in : (command : Command) → IsLinked command → (disk : DiskSeen) (fault : OpenFault) → IsJournalRefused b p disk fault → IsRefusedIn command b p disk fault
  linked_in (Check bank plan) linked disk fault so = absurd linked
  linked_in (Assemble bank plan) linked disk fault so = absurd linked
  linked_in (Replay bank plan script) linked disk fault so = absurd linked
  linked_in (Serve bank plan ahead) linked disk fault so = absurd linked
  linked_in (Audit bank plan) linked disk fault so = absurd linked
  linked_in (Drill number sessions) linked disk fault so = absurd linked
  linked_in (Migrate bank plan) linked disk fault so = absurd linked
  linked_in (Series bank plan forms weights) linked disk fault so = absurd linked
  linked_in (Follow bank plan) linked disk fault so = so
  linked_in (Ship bank plan) linked disk fault so = so

  pub link_refuses : (base : List ℕ) (fault : OpenFault) → IsLinkOf words o b p base → IsJournalRefused b p o.disk fault → IsRefused words o fault
  link_refuses base fault is so = record {
    command = is.command;
    bank = is.bank;
    plan = is.plan;
    b = b;
    p = p;
    asked = is.asked;
    names = is.names;
    reads = is.reads;
    refused = linked_in is.command is.is_linked o.disk fault so;
  }

-- ---- a command that assembles the whole problem
pub ready_is_read : (words : List (List ℕ)) (o : Outside) (command : Command) (b : Tables) (p : Plan) → command_of words ≡ Some command
    → IsReady o.named o.content command b p → IsRead words o b p
ready_is_read words o (Check bank plan) b p e ready = absurd ready
ready_is_read words o (Assemble bank plan) b p e ready =
    record { command = Assemble bank plan; bank = bank; plan = plan; asked = e; names = refl; reads = ready }
ready_is_read words o (Replay bank plan name) b p e ready =
    record { command = Replay bank plan name; bank = bank; plan = plan; asked = e; names = refl; reads = ready.0 }
ready_is_read words o (Serve bank plan ahead) b p e ready =
    record { command = Serve bank plan ahead; bank = bank; plan = plan; asked = e; names = refl; reads = ready }
ready_is_read words o (Audit bank plan) b p e ready = absurd ready
ready_is_read words o (Drill number sessions) b p e ready = absurd ready
ready_is_read words o (Migrate bank plan) b p e ready = absurd ready
ready_is_read words o (Series bank plan forms weights) b p e ready = absurd ready
ready_is_read words o (Follow bank plan) b p e ready =
    record { command = Follow bank plan; bank = bank; plan = plan; asked = e; names = refl; reads = ready }
ready_is_read words o (Ship bank plan) b p e ready =
    record { command = Ship bank plan; bank = bank; plan = plan; asked = e; names = refl; reads = ready }

-- ---- a run that ended by a halt
shows_so : (words : List (List ℕ)) (o : Outside) (told : Bool) (old new : List ℕ) (h : Halt) → Halts words o told old new h → Shows words o h
shows_so words o told old new (halt.Journal fault) halts = halts.0
shows_so words o told old new (halt.NoForm tree) halts = halts.0
shows_so words o told old new (halt.NoBaseForm budget tree) halts = halts.0
shows_so words o told old new (halt.NoSeries tree) halts = halts.0
shows_so words o told old new (halt.NoSeriesFound budget tree) halts = halts.0
shows_so words o told old new h halts = tt

pub ends_as : {R : Type 0} (words : List (List ℕ)) (o : Outside) (told : Bool) (old new : List ℕ) (h : Halt) (status : ℕ) → Halts words o told old new h
    → (EndsBy h status) ⊎ ((status ≡ 8) × R) → EndsAs words o (Some h) status
ends_as words o told old new h status halts (inl e) = (shows_so words o told old new h halts, inl e)
ends_as words o told old new h status halts (inr e) = (shows_so words o told old new h halts, inr e.0)

-- ---- a run that ended by none
abbrev pub IsOpen : List (List ℕ) → ℕ → Type 0
IsOpen words status = (IsStatusBefore status → status ≡ 2) × (status ≡ 6 → IsOfLinked (command_of words))

pub ends_open : (words : List (List ℕ)) (status : ℕ) → (IsStatusBefore status → ⊥) → (status ≡ 6 → ⊥) → IsOpen words status
ends_open words status late other = (λ before. absurd (late before), λ is. absurd (other is))

pub ends_linked : (words : List (List ℕ)) (status : ℕ) (command : Command) → command_of words ≡ Some command → IsLinked command
    → (IsStatusBefore status → ⊥) → IsOpen words status
ends_linked words status command asked linked late = (λ before. absurd (late before), λ is. subst IsOfLinked (sym asked) linked)

-- with a status that is known
pub ends_at_0 : (words : List (List ℕ)) → IsOpen words 0
ends_at_0 words = ends_open words 0 (λ before. false≢true before) (λ is. omega (arith, is))

at_8 : (words : List (List ℕ)) (status : ℕ) → status ≡ 8 → IsOpen words status
at_8 words status e = ends_open words status (λ before. false≢true (subst (λ (s : ℕ). IsStatusBefore s) e before)) (λ is. omega (arith, e, is))

pub ends_at_2 : {R : Type 0} (words : List (List ℕ)) (status : ℕ) → (status ≡ 2) ⊎ ((status ≡ 8) × R) → IsOpen words status
ends_at_2 words status (inl e) = (λ before. e, λ is. absurd (omega (arith, e, is)))
ends_at_2 words status (inr e) = at_8 words status e.0

pub ends_at_10 : {R : Type 0} (words : List (List ℕ)) (status : ℕ) → (status ≡ 10) ⊎ ((status ≡ 8) × R) → IsOpen words status
ends_at_10 words status (inl e) =
    ends_open words status (λ before. false≢true (subst (λ (s : ℕ). IsStatusBefore s) e before)) (λ is. omega (arith, e, is))
ends_at_10 words status (inr e) = at_8 words status e.0
