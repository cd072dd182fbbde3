use Rattle.std.proofs.Common.{◌≡◌, ◌∙◌, ℕ, [], List, drop, length, All, false, true, inl, inr, refl, sym, ap, subst, arith}
use Rattle.std.proofs.lemmas.Bool.{false≢true}
use Rattle.std.proofs.lemmas.List.{append-nil}
use Rattle.answer_journal.specs.Journal.{accounts_of, faults_of, identity_of, tells_of}
use Rattle.command_line.specs.Commands.{Ship}
use Rattle.exam_edge.specs.Images.{Account}
use Rattle.exam_follower.specs.Shipping.{shipped_of}
use Rattle.exam_office.specs.declared.fault.OpenFault.TheVariants.{Disk as FailedDisk}
use Rattle.exam_office.specs.Marks.{history, AreCounted}
use Rattle.exam_office.specs.declared.mark.Mark.{Mark}
use Rattle.exam_office.specs.Moments.{AreMoments}
use Rattle.exam_office.specs.Noting.{NotedMark, OpenedWith, noted, opened_with}
use Rattle.exam_office.specs.Running.{HandedDisk, Running, handed}
use Rattle.exam_program.specs.declared.halt.Halt.{Halt}
use Rattle.exam_program.specs.Halts.{IsBeforeJournal}
use Rattle.exam_program.specs.Links.{IsLastOfShip}
use Rattle.exam_program.specs.Outcomes.{Halts}
use Rattle.exam_program.specs.Outside.{DiskSeen, disk_seen}
use Rattle.exam_program.specs.Serves.{IsExamined}
use Rattle.exam_program.specs.Ships.{AreShipped, IsShippedBy, ShipSeen}
use Rattle.exam_program.specs.Stopping.{IsUnopened, opening_halt}
use Rattle.exam_program.proofs.Lending.{written_back}
use Rattle.exam_program.proofs.LinkLaws.{any_22, at_disk, at_door, at_link, ends_by, is_any, link_unopened, not_before, opened_same, ship_ends_own, ship_failed, ship_is_link, ship_lent, ship_link_failed, shipped_count, shipped_found, shipped_spelled}
use Rattle.exam_program.proofs.CauseLaws.{ends_as, ends_linked}
use Rattle.exam_program.proofs.ReplayLaws.{failing_so, moved_so, no_sink, unopened_so, unwritten_so}
use Rattle.exam_program.proofs.RequestLaws.{nothing_written}
use Rattle.exam_program.proofs.ServeLaws.{IsClosed, examined_so, halt_status}
use Rattle.exam_program.proofs.StatusLaws.{at_before, at_disk as halt_at_disk, at_sink, disk_fault, late_fault, not_door, not_link}
use Rattle.exam_program.specs.Linked.{HasFailedFirst}
use Rattle.exam_serve.specs.Doors.{AreLent, HasFailedDoor}
use Rattle.exam_serve.specs.Results.{notes_of}
use Rattle.exam_serve.proofs.Left.{still_lent}
use Rattle.exam_program.proofs.shipping.ship_over.Goals as goal

-- ---- the journal was not opened
pub returns-in-Err-clause-answers : goal.returns-in-Err-clause-answers
returns-in-Err-clause-answers g c = λ words o is same.
    let b = c.args.bank.now in
    let plan = c.args.spec.now in
    let base = c.args.base.now in
    let told = g.O.Sink.tells c.args.out.now in
    let was = g.O.Sink.written c.args.out.now in
    let disk = disk_seen g.D.Disk.tells g.D.Disk.content g.D.Disk.accounts g.D.Disk.faults c.args.disk c.in-Err.disk in
    let opened = c.in-Err.ensures in
    let why = opening_halt c.in-Err.fault in
    let image = λ (t : disk.told ≡ true). g.met.D.Disk.is_image c.in-Err.disk (opened.frame_err.tells ∙ t) in
    let failed = λ (e : c.in-Err.fault ≡ FailedDisk). failing_so g.D.Disk.tells g.D.Disk.content g.D.Disk.accounts g.D.Disk.faults c.args.disk c.in-Err.disk b plan (opened.cause e) image opened.moments_err in
    let untouched = λ (e : c.in-Err.fault ≡ FailedDisk → ⊥). unwritten_so g.D.Disk.tells g.D.Disk.content g.D.Disk.accounts g.D.Disk.faults c.args.disk c.in-Err.disk (opened.untouched e) (opened.unwritten e) in
    let unopened = subst (λ (d : DiskSeen). IsUnopened b plan d why) (sym same) (unopened_so b plan disk c.in-Err.fault opened.why failed untouched) in
    let halts = subst (λ (h : Halt). Halts words o told was was h) (sym c.halt_of_opening-halt.ensures)
    (link_unopened words o told was was b plan base (ship_is_link words o b plan base is) why (nothing_written told was) unopened) in
    inl (refl, c.report-status.ensures.answers words o was halts)

pub returns-in-Err-clause-cause : goal.returns-in-Err-clause-cause
returns-in-Err-clause-cause g c = λ words o is same.
    let b = c.args.bank.now in
    let plan = c.args.spec.now in
    let base = c.args.base.now in
    let told = g.O.Sink.tells c.args.out.now in
    let was = g.O.Sink.written c.args.out.now in
    let disk = disk_seen g.D.Disk.tells g.D.Disk.content g.D.Disk.accounts g.D.Disk.faults c.args.disk c.in-Err.disk in
    let opened = c.in-Err.ensures in
    let why = opening_halt c.in-Err.fault in
    let image = λ (t : disk.told ≡ true). g.met.D.Disk.is_image c.in-Err.disk (opened.frame_err.tells ∙ t) in
    let failed = λ (e : c.in-Err.fault ≡ FailedDisk). failing_so g.D.Disk.tells g.D.Disk.content g.D.Disk.accounts g.D.Disk.faults c.args.disk c.in-Err.disk b plan (opened.cause e) image opened.moments_err in
    let untouched = λ (e : c.in-Err.fault ≡ FailedDisk → ⊥). unwritten_so g.D.Disk.tells g.D.Disk.content g.D.Disk.accounts g.D.Disk.faults c.args.disk c.in-Err.disk (opened.untouched e) (opened.unwritten e) in
    let unopened = subst (λ (d : DiskSeen). IsUnopened b plan d why) (sym same) (unopened_so b plan disk c.in-Err.fault opened.why failed untouched) in
    let halts = subst (λ (h : Halt). Halts words o told was was h) (sym c.halt_of_opening-halt.ensures)
    (link_unopened words o told was was b plan base (ship_is_link words o b plan base is) why (nothing_written told was) unopened) in
    ends_as words o told was was c.halt_of_opening-halt.result c.report-status.result halts c.report-status.ensures.status

pub returns-in-Err-clause-status : goal.returns-in-Err-clause-status
returns-in-Err-clause-status g c = inl (halt_status c.halt_of_opening-halt.result c.report-status.result c.report-status.ensures.status)

pub returns-in-Err-clause-doors : goal.returns-in-Err-clause-doors
returns-in-Err-clause-doors g c = still_lent g.L.Door.tells g.L.Door.is_out g.L.Door.faults g.L.Door.identity c.args.doors.items c.requires.home

pub returns-in-Err-clause-door : goal.returns-in-Err-clause-door
returns-in-Err-clause-door g c = λ is. absurd (not_door c.halt_of_opening-halt.result c.report-status.result c.report-status.ensures.status is)

pub returns-in-Err-clause-link : goal.returns-in-Err-clause-link
returns-in-Err-clause-link g c = λ is. absurd (not_link c.halt_of_opening-halt.result c.report-status.result c.report-status.ensures.status is)

pub returns-in-Err-clause-sink : goal.returns-in-Err-clause-sink
returns-in-Err-clause-sink g c = at_sink c.halt_of_opening-halt.result c.report-status.result c.report-status.ensures.status (λ is. absurd (no_sink c.in-Err.fault (sym c.halt_of_opening-halt.ensures ∙ is)))

pub returns-in-Err-clause-failed : goal.returns-in-Err-clause-failed
returns-in-Err-clause-failed g c = halt_at_disk c.halt_of_opening-halt.result c.report-status.result c.report-status.ensures.status (λ is. c.in-Err.ensures.cause (disk_fault c.in-Err.fault (sym c.halt_of_opening-halt.ensures ∙ is)))

pub returns-in-Err-clause-opened : goal.returns-in-Err-clause-opened
returns-in-Err-clause-opened g c = λ before.
    late_fault c.in-Err.fault (subst (λ (h : Halt). IsBeforeJournal h) c.halt_of_opening-halt.ensures (at_before c.halt_of_opening-halt.result c.report-status.result c.report-status.ensures.status before))

-- ---- it was opened
-- what the office was opened with is as it was, and so are its marks
pub returns-clause-answers : goal.returns-clause-answers
returns-clause-answers g c = λ words o is same.
    let b = c.args.bank.now in
    let plan = c.args.spec.now in
    let base = c.args.base.now in
    let told = g.O.Sink.tells c.args.out.now in
    let was = g.O.Sink.written c.args.out.now in
    let now = g.O.Sink.written c.end_shipping-status.new.out in
    let faults = g.D.Disk.faults in
    let old = c.in-Ok.office in
    let given = c.new-log.result.office in
    let last = c.ship_first-end.new.log.office in
    let new = c.into_office-office.result in
    let end = c.ship_first-end.result in
    let disk = disk_seen g.D.Disk.tells g.D.Disk.content g.D.Disk.accounts faults c.args.disk c.into_disk-disk.result in
    let opened = c.in-Ok.ensures in
    let done = c.ship_first-end.ensures in
    let given_is : given ≡ old = c.new-log.ensures in
    let office_is : new ≡ last = c.into_office-office.ensures in
    let gone = c.into_disk-disk.ensures in
    let kept = c.keeps.ensures in
    let same_opened : opened_with new ≡ opened_with old =
    ap (λ (w : Running g.row.D.Denot). opened_with w) office_is ∙ (opened_same given last done.later.read.same done.later.frame ∙ ap (λ (w : Running g.row.D.Denot). opened_with w) given_is) in
    let same_marks : new.marks ≡ old.marks =
    ap (λ (w : Running g.row.D.Denot). w.marks) office_is ∙ (done.later.read.marks ∙ ap (λ (w : Running g.row.D.Denot). w.marks) given_is) in
    let still = λ (t : disk.told ≡ true). gone.tells ∙ (ap (λ (w : OpenedWith). w.tells) same_opened ∙ (opened.tells ∙ t)) in
    let handed_so : new.opened ≡ handed g.D.Disk.content g.D.Disk.accounts faults c.args.disk = ap (λ (w : OpenedWith). w.disk) same_opened ∙ opened.opened in
    let closed : IsClosed b plan base disk old new = record {
      bank = opened.bank;
      plan_is = opened.plan;
      base_is = opened.base;
      told = opened.tells;
      handed = opened.opened;
      found = λ t. moved_so b plan (history old.marks) disk.found (opened.stands t) (opened.version t);
      short = opened.short;
      marks = opened.marks;
      same = same_opened;
      added = [];
      extends = ap (λ (m : List Mark). history m) same_marks ∙ sym (append-nil (history old.marks));
      legal = kept.run;
      doubt = kept.doubt;
      marks_are = kept.marks;
      counted =
          let held : AreCounted new.marks (faults c.args.disk) (faults_of new.journal) =
          subst (λ (d : HandedDisk). AreCounted new.marks d.faults (faults_of new.journal)) handed_so kept.counted in
          omega (arith, held, gone.faults);
      length_is = λ t sure. gone.length (still t) sure;
      left = λ t. gone.content (still t);
      images = λ t. gone.images (still t);
      moments = λ t.
          subst (λ (accounts : List Account). AreMoments new.bank new.plan disk.moments_before new.marks accounts) (sym gone.accounts)
          (subst (λ (d : HandedDisk). AreMoments new.bank new.plan d.accounts new.marks (accounts_of new.journal)) handed_so
          (kept.moments (sym gone.tells ∙ still t)));
    } in
    let notes_same : notes_of new ≡ notes_of old =
    ap (λ (w : OpenedWith). noted w new.marks) same_opened ∙ ap (λ (m : List Mark). noted (opened_with old) m) same_marks in
    let examined = subst (λ (d : DiskSeen). IsExamined b plan base d (notes_of old) (notes_of old) (history old.marks)) (sym same)
    (subst (λ (n : List NotedMark). IsExamined b plan base disk (notes_of old) n (history old.marks)) notes_same
    (subst (λ (m : List Mark). IsExamined b plan base disk (notes_of old) (notes_of new) (history m)) same_marks
    (examined_so b plan base disk old new closed))) in
    let holds = c.holds.ensures.records opened.sure in
    let work : ShipSeen = record { told = tells_of old.journal; records = shipped_of old; end = end } in
    inr (record {
      work = work;
      ships = subst (λ (bs : List g.row.L.Denot). AreShipped g.L.Door.tells g.L.Door.coming g.L.Door.returned g.L.Door.is_out g.L.Door.faults g.L.Door.identity g.L.Link.Link.tells g.L.Link.Link.left g.L.Link.Link.written g.L.Link.Link.faults g.L.Link.Link.identity c.args.doors.items bs work) (sym (written_back c.ship_first-end.new.doors (drop (length c.ship_first-end.new.doors) c.args.doors.items) c.args.doors.len (c.ship_first-end.ensures.length ∙ c.deref_mut.ensures.len)))
          (subst (λ (ds : List g.row.L.Denot). AreShipped g.L.Door.tells g.L.Door.coming g.L.Door.returned g.L.Door.is_out g.L.Door.faults g.L.Door.identity g.L.Link.Link.tells g.L.Link.Link.left g.L.Link.Link.written g.L.Link.Link.faults g.L.Link.Link.identity ds c.ship_first-end.new.doors work) c.deref_mut.ensures.value
          (subst (λ (w : Running g.row.D.Denot). AreShipped g.L.Door.tells g.L.Door.coming g.L.Door.returned g.L.Door.is_out g.L.Door.faults g.L.Door.identity
          g.L.Link.Link.tells g.L.Link.Link.left g.L.Link.Link.written g.L.Link.Link.faults g.L.Link.Link.identity
          c.deref_mut.result.now c.ship_first-end.new.doors (record { told = tells_of w.journal; records = shipped_of w; end = end })) given_is done.shipped));
      ends = ends_by (IsLastOfShip c.journal.result end) (IsShippedBy words o work)
          (λ status text lasting. record {
            b = b;
            plan = plan;
            base = base;
            H = history old.marks;
            opened = notes_of old;
            is = is;
            examined = examined;
            told_is = opened.tells ∙ sym (ap (λ (d : DiskSeen). d.told) same);
            found = λ t. (let here = sym (ap (λ (d : DiskSeen). d.told) same) ∙ t in rw same (shipped_found old disk.found (opened.tells ∙ here) (opened.payloads here)));
            spelled = λ t. shipped_spelled old holds (opened.tells ∙ (sym (ap (λ (d : DiskSeen). d.told) same) ∙ t));
            count = shipped_count old holds;
            last = subst (λ (m : ℕ). IsLastOfShip m end status text) c.journal.ensures lasting;
          })
          told was now c.end_shipping-status.result c.end_shipping-status.ensures.printed;
    })

pub returns-clause-door : goal.returns-clause-door
returns-clause-door g c = λ is.
    subst (λ (bs : List g.row.L.Denot). HasFailedDoor g.L.Door.faults c.args.doors.items bs) (sym (written_back c.ship_first-end.new.doors (drop (length c.ship_first-end.new.doors) c.args.doors.items) c.args.doors.len (c.ship_first-end.ensures.length ∙ c.deref_mut.ensures.len)))
    (subst (λ (ds : List g.row.L.Denot). HasFailedDoor g.L.Door.faults ds c.ship_first-end.new.doors) c.deref_mut.ensures.value (ship_failed g.L.Door.tells g.L.Door.coming g.L.Door.returned g.L.Door.is_out g.L.Door.faults g.L.Door.identity
    g.L.Link.Link.tells g.L.Link.Link.left g.L.Link.Link.written g.L.Link.Link.faults g.L.Link.Link.identity
    _ _ c.ship_first-end.result c.deref_mut.result.now c.ship_first-end.new.doors c.ship_first-end.ensures.shipped
    (at_door 22 c.ship_first-end.result c.end_shipping-status.result (λ e. omega (arith, e)) (ship_ends_own _ c.ship_first-end.result _ _ _ c.end_shipping-status.result c.end_shipping-status.ensures.printed) is)))

pub returns-clause-link : goal.returns-clause-link
returns-clause-link g c = λ is.
    subst (λ (bs : List g.row.L.Denot). HasFailedFirst g.L.Door.tells g.L.Door.coming g.L.Door.returned g.L.Door.is_out g.L.Door.faults g.L.Door.identity g.L.Link.Link.faults c.args.doors.items bs) (sym (written_back c.ship_first-end.new.doors (drop (length c.ship_first-end.new.doors) c.args.doors.items) c.args.doors.len (c.ship_first-end.ensures.length ∙ c.deref_mut.ensures.len)))
    (subst (λ (ds : List g.row.L.Denot). HasFailedFirst g.L.Door.tells g.L.Door.coming g.L.Door.returned g.L.Door.is_out g.L.Door.faults g.L.Door.identity g.L.Link.Link.faults ds c.ship_first-end.new.doors) c.deref_mut.ensures.value (ship_link_failed g.L.Door.tells g.L.Door.coming g.L.Door.returned g.L.Door.is_out g.L.Door.faults g.L.Door.identity
    g.L.Link.Link.tells g.L.Link.Link.left g.L.Link.Link.written g.L.Link.Link.faults g.L.Link.Link.identity
    _ _ c.ship_first-end.result c.deref_mut.result.now c.ship_first-end.new.doors c.ship_first-end.ensures.shipped
    (at_link 22 c.ship_first-end.result c.end_shipping-status.result (λ e. omega (arith, e)) (ship_ends_own _ c.ship_first-end.result _ _ _ c.end_shipping-status.result c.end_shipping-status.ensures.printed) is)))

pub returns-clause-doors : goal.returns-clause-doors
returns-clause-doors g c =
    subst (λ (bs : List g.row.L.Denot). AreLent g.L.Door.tells g.L.Door.identity g.L.Door.faults g.L.Door.is_out c.args.doors.items bs) (sym (written_back c.ship_first-end.new.doors (drop (length c.ship_first-end.new.doors) c.args.doors.items) c.args.doors.len (c.ship_first-end.ensures.length ∙ c.deref_mut.ensures.len)))
    (subst (λ (ds : List g.row.L.Denot). AreLent g.L.Door.tells g.L.Door.identity g.L.Door.faults g.L.Door.is_out ds c.ship_first-end.new.doors) c.deref_mut.ensures.value (ship_lent g.L.Door.tells g.L.Door.coming g.L.Door.returned g.L.Door.is_out g.L.Door.faults g.L.Door.identity
    g.L.Link.Link.tells g.L.Link.Link.left g.L.Link.Link.written g.L.Link.Link.faults g.L.Link.Link.identity
    _ _ c.ship_first-end.result c.deref_mut.result.now c.ship_first-end.new.doors c.ship_first-end.ensures.shipped
    (subst (λ (ds : List g.row.L.Denot). All (λ (d : g.row.L.Denot). g.L.Door.is_out d ≡ false) ds) (sym c.deref_mut.ensures.value) c.requires.home)))

pub returns-clause-failed : goal.returns-clause-failed
returns-clause-failed g c = λ is.
    let at = at_disk 22 c.ship_first-end.result c.end_shipping-status.result (λ e. omega (arith, e)) (ship_ends_own _ c.ship_first-end.result _ _ _ c.end_shipping-status.result c.end_shipping-status.ensures.printed) is in
    let rose = c.ship_first-end.ensures.disk at in
    let same : faults_of c.into_office-office.result.journal ≡ faults_of c.ship_first-end.new.log.office.journal = ap (λ (w : Running g.row.D.Denot). faults_of w.journal) c.into_office-office.ensures in
    let first : faults_of c.new-log.result.office.journal ≡ faults_of c.in-Ok.office.journal = ap (λ (w : Running g.row.D.Denot). faults_of w.journal) c.new-log.ensures in
    omega (arith, rose, same, first, c.in-Ok.ensures.grows, c.into_disk-disk.ensures.faults)

pub returns-clause-cause : goal.returns-clause-cause
returns-clause-cause g c = λ words o is same.
    ends_linked words c.end_shipping-status.result (Ship is.bank is.plan) is.asked tt
    (not_before 22 c.ship_first-end.result c.end_shipping-status.result (λ e. false≢true e) (ship_ends_own _ c.ship_first-end.result _ _ _ c.end_shipping-status.result c.end_shipping-status.ensures.printed))

pub returns-clause-opened : goal.returns-clause-opened
returns-clause-opened g c =
    not_before 22 c.ship_first-end.result c.end_shipping-status.result (λ e. false≢true e) (ship_ends_own _ c.ship_first-end.result _ _ _ c.end_shipping-status.result c.end_shipping-status.ensures.printed)

pub returns-clause-status : goal.returns-clause-status
returns-clause-status g c =
    is_any 22 c.ship_first-end.result c.end_shipping-status.result any_22 (ship_ends_own _ c.ship_first-end.result _ _ _ c.end_shipping-status.result c.end_shipping-status.ensures.printed)

pub returns-clause-disk : goal.returns-clause-disk
returns-clause-disk g c =
    let opened = c.in-Ok.ensures in
    let done = c.ship_first-end.ensures in
    let office_is = c.into_office-office.ensures in
    let given_is = c.new-log.ensures in
    let gone = c.into_disk-disk.ensures in
    let same : faults_of c.into_office-office.result.journal ≡ faults_of c.ship_first-end.new.log.office.journal = ap (λ (w : Running g.row.D.Denot). faults_of w.journal) office_is in
    let first : faults_of c.new-log.result.office.journal ≡ faults_of c.in-Ok.office.journal = ap (λ (w : Running g.row.D.Denot). faults_of w.journal) given_is in
    record {
      grows = omega (arith, opened.grows, done.later.frame.grows, same, first, gone.faults);
      tells = gone.tells ∙ (ap (λ (w : Running g.row.D.Denot). tells_of w.journal) office_is ∙ (done.later.frame.tells ∙ (ap (λ (w : Running g.row.D.Denot). tells_of w.journal) given_is ∙ opened.tells)));
      identity = gone.identity ∙ (ap (λ (w : Running g.row.D.Denot). identity_of w.journal) office_is ∙ (done.later.frame.identity ∙ (ap (λ (w : Running g.row.D.Denot). identity_of w.journal) given_is ∙ opened.identity)));
    }
