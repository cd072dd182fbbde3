use Rattle.std.proofs.Common.{◌≡◌, ◌∙◌, ℕ, List, length, true, refl, sym, ap, subst, arith}
use Rattle.std.specs.Option.{option_copied}
use Rattle.std.proofs.lemmas.List.Elements.{filter_map-append}
use Rattle.exam_edge.specs.Images.{Account, AllImages, latest}
use Rattle.bank_tables.specs.Tables.{Tables}
use Rattle.form_model.specs.Plan.{Plan}
use Rattle.history_model.specs.Legality.{LegalRun}
use Rattle.exam_office.specs.Files.{StandsSecond}
use Rattle.history_model.specs.Summaries.{summary}
use Rattle.exam_office.specs.declared.fault.OpenFault.TheVariants.{Disk as FailedDisk}
use Rattle.exam_office.specs.Marks.{entry_of, history, reach, AreCounted}
use Rattle.answer_journal.specs.Journal.{accounts_of, faults_of}
use Rattle.exam_office.specs.Moments.{AreMoments}
use Rattle.exam_office.specs.Noting.{OpenedWith, opened_with}
use Rattle.exam_office.specs.Writing.{IsMending}
use Rattle.exam_office.specs.Running.{HandedDisk, handed}
use Rattle.exam_serve.specs.Results.{notes_of}
use Rattle.exam_serve.proofs.Left.{still_lent}
use Rattle.exam_program.specs.declared.halt.Halt.{Halt}
use Rattle.exam_program.specs.Outcomes.{Halts}
use Rattle.exam_program.specs.Outside.{DiskSeen, disk_seen}
use Rattle.exam_program.specs.Runs.{idle}
use Rattle.exam_program.specs.Serves.{IsExamined}
use Rattle.exam_program.specs.Stopping.{IsUnopened, opening_halt}
use Rattle.exam_program.specs.Halts.{IsBeforeJournal}
use Rattle.exam_program.proofs.OutcomeLaws.{rose_later}
use Rattle.exam_program.proofs.CauseLaws.{ends_as, ends_open}
use Rattle.exam_program.proofs.ReplayLaws.{failing_so, unwritten_so, unopened_so, moved_so, no_sink}
use Rattle.exam_program.proofs.RequestLaws.{nothing_written}
use Rattle.exam_program.proofs.ServeLaws.{server_unopened, IsClosed, same_plan, examined_so, ends_serving, halt_status, ending_status, failed_door_so}
use Rattle.exam_program.proofs.StatusLaws.{at_sink, at_disk, at_before, not_door, disk_fault, late_fault, ending_unprinted, ending_late, ending_not_6}
use Rattle.exam_program.proofs.serving.serve_over.Goals as goal

-- ---- the journal was not opened
pub returns-in-Err-clause-answers : goal.returns-in-Err-clause-answers
returns-in-Err-clause-answers g c = λ words o is same.
    let b = c.args.bank.now in
    let plan = c.args.spec.now in
    let base = c.args.base.now in
    let told = g.O.Sink.tells c.args.out.now in
    let was = g.O.Sink.written c.args.out.now in
    let disk = disk_seen g.D.Disk.tells g.D.Disk.content g.D.Disk.accounts g.D.Disk.faults c.args.disk c.in-Err.disk in
    let opened = c.in-Err.ensures in
    let why = opening_halt c.in-Err.fault in
    -- the laws of the disk, which may go to another thread, where this call runs
    let met = g.met.D.Disk g.world.𝓛 g.world.𝓜 g.world.𝓡 ((λ s x. x), (λ x. x), (λ x. x), (λ x. x)) in
    let image = λ (t : disk.told ≡ true). met.is_image c.in-Err.disk (opened.frame_err.tells ∙ t) in
    let failed = λ (e : c.in-Err.fault ≡ FailedDisk). failing_so g.D.Disk.tells g.D.Disk.content g.D.Disk.accounts g.D.Disk.faults c.args.disk c.in-Err.disk b plan (opened.cause e) image opened.moments_err in
    let untouched = λ (e : c.in-Err.fault ≡ FailedDisk → ⊥). unwritten_so g.D.Disk.tells g.D.Disk.content g.D.Disk.accounts g.D.Disk.faults c.args.disk c.in-Err.disk (opened.untouched e) (opened.unwritten e) in
    let unopened = subst (λ (d : DiskSeen). IsUnopened b plan d why) (sym same) (unopened_so b plan disk c.in-Err.fault opened.why failed untouched) in
    let halts = subst (λ (h : Halt). Halts words o told was was h) (sym c.halt_of_opening-halt.ensures)
    (server_unopened words o told was was b plan base is why (nothing_written told was) unopened) in
    idle refl (c.report-status.ensures.answers words o was halts)

pub returns-in-Err-clause-cause : goal.returns-in-Err-clause-cause
returns-in-Err-clause-cause g c = λ words o is same.
    let b = c.args.bank.now in
    let plan = c.args.spec.now in
    let base = c.args.base.now in
    let told = g.O.Sink.tells c.args.out.now in
    let was = g.O.Sink.written c.args.out.now in
    let disk = disk_seen g.D.Disk.tells g.D.Disk.content g.D.Disk.accounts g.D.Disk.faults c.args.disk c.in-Err.disk in
    let opened = c.in-Err.ensures in
    let why = opening_halt c.in-Err.fault in
    -- the laws of the disk, which may go to another thread, where this call runs
    let met = g.met.D.Disk g.world.𝓛 g.world.𝓜 g.world.𝓡 ((λ s x. x), (λ x. x), (λ x. x), (λ x. x)) in
    let image = λ (t : disk.told ≡ true). met.is_image c.in-Err.disk (opened.frame_err.tells ∙ t) in
    let failed = λ (e : c.in-Err.fault ≡ FailedDisk). failing_so g.D.Disk.tells g.D.Disk.content g.D.Disk.accounts g.D.Disk.faults c.args.disk c.in-Err.disk b plan (opened.cause e) image opened.moments_err in
    let untouched = λ (e : c.in-Err.fault ≡ FailedDisk → ⊥). unwritten_so g.D.Disk.tells g.D.Disk.content g.D.Disk.accounts g.D.Disk.faults c.args.disk c.in-Err.disk (opened.untouched e) (opened.unwritten e) in
    let unopened = subst (λ (d : DiskSeen). IsUnopened b plan d why) (sym same) (unopened_so b plan disk c.in-Err.fault opened.why failed untouched) in
    let halts = subst (λ (h : Halt). Halts words o told was was h) (sym c.halt_of_opening-halt.ensures)
    (server_unopened words o told was was b plan base is why (nothing_written told was) unopened) in
    ends_as words o told was was c.halt_of_opening-halt.result c.report-status.result halts c.report-status.ensures.status

pub returns-in-Err-clause-status : goal.returns-in-Err-clause-status
returns-in-Err-clause-status g c = halt_status c.halt_of_opening-halt.result c.report-status.result c.report-status.ensures.status

pub returns-in-Err-clause-doors : goal.returns-in-Err-clause-doors
returns-in-Err-clause-doors g c = still_lent g.L.Door.tells g.L.Door.is_out g.L.Door.faults g.L.Door.identity c.args.doors.items c.requires.home

-- ---- it was opened
pub returns-clause-answers : goal.returns-clause-answers
returns-clause-answers g c = λ words o is same.
    let b = c.args.bank.now in
    let plan = c.args.spec.now in
    let base = c.args.base.now in
    let told = g.O.Sink.tells c.args.out.now in
    let was = g.O.Sink.written c.args.out.now in
    let faults = g.D.Disk.faults in
    let old = c.in-Ok.office in
    let new = c.serve_doors-office.result.office in
    let end = c.serve_doors-office.result.end in
    let back = c.serve_doors-office.result.doors in
    let disk = disk_seen g.D.Disk.tells g.D.Disk.content g.D.Disk.accounts faults c.args.disk c.end_over-status.new.disk in
    let opened = c.in-Ok.ensures in
    let done = c.serve_doors-office.ensures in
    let gone = c.into_disk-disk.ensures in
    let asked = c.end_over-status.ensures in
    let still = λ (t : disk.told ≡ true). gone.tells ∙ (ap (λ (w : OpenedWith). w.tells) done.same ∙ (opened.tells ∙ t)) in
    let handed_so : new.opened ≡ handed g.D.Disk.content g.D.Disk.accounts faults c.args.disk = ap (λ (w : OpenedWith). w.disk) done.same ∙ opened.opened in
    let closed : IsClosed b plan base disk old new = record {
      bank = opened.bank;
      plan_is = opened.plan;
      base_is = opened.base;
      told = opened.tells;
      handed = opened.opened;
      found = λ t. moved_so b plan (history old.marks) disk.found (opened.stands t) (opened.version t);
      short = opened.short;
      marks = opened.marks;
      same = done.same;
      added = history done.begins.0;
      extends = ap history done.begins.1 ∙ filter_map-append entry_of old.marks done.begins.0;
      legal = c.keeps.ensures.run;
      doubt = c.keeps.ensures.doubt;
      marks_are = c.keeps.ensures.marks;
      counted =
          let held : AreCounted new.marks (faults c.args.disk) (faults_of new.journal) =
          subst (λ (d : HandedDisk). AreCounted new.marks d.faults (faults_of new.journal)) handed_so c.keeps.ensures.counted in
          omega (arith, held, gone.faults, asked.frame.grows);
      length_is = λ t sure. ap (λ (file : List ℕ). length file) (asked.content (still t)) ∙ gone.length (still t) sure;
      left = λ t. subst (λ (file : List ℕ). IsMending new.bank new.plan (history new.marks) new.doubt file) (sym (asked.content (still t))) (gone.content (still t));
      images = λ t. subst (λ (accounts : List Account). AllImages (IsMending new.bank new.plan (history new.marks) new.doubt) (latest accounts)) (sym (asked.accounts (still t))) (gone.images (still t));
      moments = λ t.
          subst (λ (accounts : List Account). AreMoments new.bank new.plan disk.moments_before new.marks accounts) (sym (asked.accounts (still t) ∙ gone.accounts))
          (subst (λ (d : HandedDisk). AreMoments new.bank new.plan d.accounts new.marks (accounts_of new.journal)) handed_so
          (c.keeps.ensures.moments (sym gone.tells ∙ still t)));
    } in
    let examined = subst (λ (d : DiskSeen). IsExamined b plan base d (notes_of old) (notes_of new) (history new.marks)) (sym same)
    (examined_so b plan base disk old new closed) in
    let are = c.summary-summary.ensures ∙ ap (λ (p : Plan). summary p (history new.marks)) (same_plan b plan base disk old new closed) in
    ends_serving (option_copied c.args.token) g.L.Door.tells g.L.Door.coming g.L.Door.returned g.L.Door.is_out g.L.Door.faults g.L.Door.identity
    g.L.Link.Link.tells g.L.Link.Link.left g.L.Link.Link.written g.L.Link.Link.faults g.L.Link.Link.identity
    words o told was (g.O.Sink.written c.end_over-status.new.out) c.end_over-status.result b plan base is old new examined c.summary-summary.result are
    c.args.doors.items back.items (back ≡ c.args.doors) end done.result (λ e. (done.unused e).0) (λ e. (done.unused e).1) c.end_over-status.ensures.printed

pub returns-clause-status : goal.returns-clause-status
returns-clause-status g c = ending_status c.serve_doors-office.result.end c.end_over-status.result c.end_over-status.ensures.status

pub returns-clause-door : goal.returns-clause-door
returns-clause-door g c =
    failed_door_so c.serve_doors-office.result.end c.end_over-status.result c.serve_doors-office.ensures.failed c.end_over-status.ensures.status

pub returns-clause-disk : goal.returns-clause-disk
returns-clause-disk g c =
    let opened = c.in-Ok.ensures in
    let done = c.serve_doors-office.ensures in
    let gone = c.into_disk-disk.ensures in
    let asked = c.end_over-status.ensures.frame in
    let before : c.serve_doors-office.result.office.opened.faults ≡ g.D.Disk.faults c.args.disk =
    ap (λ (w : OpenedWith). w.disk.faults) done.same ∙ ap (λ (d : HandedDisk). d.faults) opened.opened in
    record {
      grows = omega (arith, c.keeps.ensures.grows, before, gone.faults, asked.grows);
      tells = asked.tells ∙ (gone.tells ∙ (ap (λ (w : OpenedWith). w.tells) done.same ∙ opened.tells));
      identity = asked.identity ∙ (gone.identity ∙ (ap (λ (w : OpenedWith). w.identity) done.same ∙ opened.identity));
    }

-- ---- what each status shows
pub returns-in-Err-clause-door : goal.returns-in-Err-clause-door
returns-in-Err-clause-door g c = λ is. absurd (not_door c.halt_of_opening-halt.result c.report-status.result c.report-status.ensures.status is)

pub returns-in-Err-clause-sink : goal.returns-in-Err-clause-sink
returns-in-Err-clause-sink g c = at_sink c.halt_of_opening-halt.result c.report-status.result c.report-status.ensures.status (λ is. absurd (no_sink c.in-Err.fault (sym c.halt_of_opening-halt.ensures ∙ is)))

pub returns-in-Err-clause-failed : goal.returns-in-Err-clause-failed
returns-in-Err-clause-failed g c = at_disk c.halt_of_opening-halt.result c.report-status.result c.report-status.ensures.status (λ is. c.in-Err.ensures.cause (disk_fault c.in-Err.fault (sym c.halt_of_opening-halt.ensures ∙ is)))

pub returns-in-Err-clause-opened : goal.returns-in-Err-clause-opened
returns-in-Err-clause-opened g c = λ before.
    late_fault c.in-Err.fault (subst (λ (h : Halt). IsBeforeJournal h) c.halt_of_opening-halt.ensures (at_before c.halt_of_opening-halt.result c.report-status.result c.report-status.ensures.status before))

pub returns-clause-sink : goal.returns-clause-sink
returns-clause-sink g c = ending_unprinted c.serve_doors-office.result.end c.end_over-status.result c.end_over-status.ensures.status

pub returns-clause-failed : goal.returns-clause-failed
returns-clause-failed g c = λ is.
    let opened = c.in-Ok.ensures in
    let done = c.serve_doors-office.ensures in
    let gone = c.into_disk-disk.ensures in
    let before : c.serve_doors-office.result.office.opened.faults ≡ g.D.Disk.faults c.args.disk =
    ap (λ (w : OpenedWith). w.disk.faults) done.same ∙ ap (λ (d : HandedDisk). d.faults) opened.opened in
    rose_later (g.D.Disk.faults c.args.disk) (g.D.Disk.faults c.into_disk-disk.result) (g.D.Disk.faults c.end_over-status.new.disk)
    (omega (arith, c.keeps.ensures.grows, before, gone.faults)) (c.end_over-status.ensures.failed is)

pub returns-clause-cause : goal.returns-clause-cause
returns-clause-cause g c = λ words o is same.
    ends_open words c.end_over-status.result (ending_late c.serve_doors-office.result.end c.end_over-status.result c.end_over-status.ensures.status)
    (ending_not_6 c.serve_doors-office.result.end c.end_over-status.result c.end_over-status.ensures.status)

pub returns-clause-opened : goal.returns-clause-opened
returns-clause-opened g c = ending_late c.serve_doors-office.result.end c.end_over-status.result c.end_over-status.ensures.status

-- ---- what is asked of the links
pub serve_doors-office-requires-clause-fair : goal.serve_doors-office-requires-clause-fair
serve_doors-office-requires-clause-fair g c κs within =
    let b = c.args.bank.now in
    let plan = c.args.spec.now in
    let office = c.in-Ok.office in
    let opened = c.in-Ok.ensures in
    c.requires.fair (opened_with office) office.marks opened.bank opened.plan opened.base (record {
      tells = opened.tells;
      identity = opened.identity;
      found = history office.marks;
      size = reach office.marks;
      is = opened.marks;
      legal = subst (λ (t : Tables). LegalRun t office.plan (history office.marks)) (sym opened.bank)
          (subst (λ (p : Plan). LegalRun b p (history office.marks)) (sym opened.plan) opened.legal);
      stands = λ t.
          let file = g.D.Disk.content c.args.disk in
          subst (λ (x : Tables). StandsSecond x office.plan (history office.marks) file) (sym opened.bank)
          (subst (λ (p : Plan). StandsSecond b p (history office.marks) file) (sym opened.plan)
          (moved_so b plan (history office.marks) file (opened.stands t) (opened.version t)));
    })
