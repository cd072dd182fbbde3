use Rattle.std.proofs.Common.{◌≡◌, ◌∙◌, ℕ, ◌++◌, [], List, drop, length, map, All, Option, false, true, inl, inr, refl, sym, ap, subst, arith}
use Rattle.std.proofs.lemmas.Bool.{false≢true}
use Rattle.std.proofs.lemmas.List.{append-nil}
use Rattle.answer_journal.specs.Journal.{accounts_of, faults_of, identity_of, tells_of}
use Rattle.command_line.specs.Commands.{Follow}
use Rattle.exam_edge.specs.Images.{Account}
use Rattle.exam_follower.specs.Followers.{found, found_payloads, held_of, opened_size, records_of}
use Rattle.exam_follower.proofs.Marked.{found-opened, size-opened}
use Rattle.exam_office.specs.declared.fault.OpenFault.TheVariants.{Disk as FailedDisk}
use Rattle.exam_office.specs.Marks.{history, reach, AreCounted}
use Rattle.exam_office.specs.declared.mark.Mark.{Mark}
use Rattle.exam_office.specs.Moments.{AreMoments}
use Rattle.exam_office.specs.Noting.{OpenedWith, opened_with}
use Rattle.exam_office.specs.Running.{HandedDisk, Running, handed}
use Rattle.exam_program.specs.declared.halt.Halt.{Halt}
use Rattle.exam_program.specs.Follows.{AreFollowed, FollowSeen, IsFollowedBy}
use Rattle.exam_program.specs.Halts.{IsBeforeJournal}
use Rattle.exam_program.specs.Links.{IsLastOfFollow}
use Rattle.exam_program.specs.Outcomes.{Halts}
use Rattle.exam_program.specs.Outside.{DiskSeen, disk_seen}
use Rattle.exam_program.specs.Serves.{IsExamined}
use Rattle.exam_program.specs.Stopping.{IsUnopened, opening_halt}
use Rattle.exam_program.proofs.Lending.{written_back}
use Rattle.exam_program.proofs.LinkLaws.{at_disk, at_door, at_link, ends_by, follow_ends_own, follow_failed, follow_is_link, follow_last, follow_lent, follow_link_failed, follow_never_done, followed_so, is_any, link_unopened, not_before, opened_same, second_so}
use Rattle.exam_program.proofs.CauseLaws.{ends_as, ends_linked}
use Rattle.exam_program.proofs.ReplayLaws.{failing_so, no_sink, unopened_so, unwritten_so}
use Rattle.exam_program.proofs.RequestLaws.{nothing_written}
use Rattle.exam_program.proofs.ServeLaws.{IsClosed, examined_so, halt_status}
use Rattle.exam_program.proofs.StatusLaws.{at_before, at_disk as halt_at_disk, at_sink, disk_fault, late_fault, not_door, not_link}
use Rattle.exam_program.specs.Linked.{HasFailedFirst}
use Rattle.exam_serve.specs.Doors.{AreLent, HasFailedDoor}
use Rattle.exam_serve.specs.Results.{notes_of}
use Rattle.exam_serve.proofs.Left.{still_lent}
use Rattle.exam_serve.proofs.Notes.{marks_noted}
use Rattle.form_model.specs.Plan.{Plan}
use Rattle.history_model.specs.declared.entry.Entry.{Entry}
use Rattle.exam_records.specs.Spelling.{payload_of}
use Rattle.history_model.specs.Judging.{Record, entries_of}
use Rattle.std.specs.Option.{option_map}
use Rattle.history_model.specs.Summaries.{summary}
use Rattle.record_links.specs.Replicas.{sure}
use Rattle.exam_program.proofs.following.follow_over.Goals as goal

-- ---- the journal was not opened
pub returns-in-Err-clause-answers : goal.returns-in-Err-clause-answers
returns-in-Err-clause-answers g c = λ words o is same.
    let b = c.args.bank.now in
    let plan = c.args.spec.now in
    let base = c.args.base.now in
    let told = g.O.Sink.tells c.args.out.now in
    let was = g.O.Sink.written c.args.out.now in
    let disk = disk_seen g.D.Disk.tells g.D.Disk.content g.D.Disk.accounts g.D.Disk.faults c.args.disk c.in-Err.disk in
    let opened = c.in-Err.ensures in
    let why = opening_halt c.in-Err.fault in
    let image = λ (t : disk.told ≡ true). g.met.D.Disk.is_image c.in-Err.disk (opened.frame_err.tells ∙ t) in
    let failed = λ (e : c.in-Err.fault ≡ FailedDisk). failing_so g.D.Disk.tells g.D.Disk.content g.D.Disk.accounts g.D.Disk.faults c.args.disk c.in-Err.disk b plan (opened.cause e) image opened.moments_err in
    let untouched = λ (e : c.in-Err.fault ≡ FailedDisk → ⊥). unwritten_so g.D.Disk.tells g.D.Disk.content g.D.Disk.accounts g.D.Disk.faults c.args.disk c.in-Err.disk (opened.untouched e) (opened.unwritten e) in
    let unopened = subst (λ (d : DiskSeen). IsUnopened b plan d why) (sym same) (unopened_so b plan disk c.in-Err.fault opened.why failed untouched) in
    let halts = subst (λ (h : Halt). Halts words o told was was h) (sym c.halt_of_opening-halt.ensures)
    (link_unopened words o told was was b plan base (follow_is_link words o b plan base is) why (nothing_written told was) unopened) in
    inl (refl, c.report-status.ensures.answers words o was halts)

pub returns-in-Err-clause-cause : goal.returns-in-Err-clause-cause
returns-in-Err-clause-cause g c = λ words o is same.
    let b = c.args.bank.now in
    let plan = c.args.spec.now in
    let base = c.args.base.now in
    let told = g.O.Sink.tells c.args.out.now in
    let was = g.O.Sink.written c.args.out.now in
    let disk = disk_seen g.D.Disk.tells g.D.Disk.content g.D.Disk.accounts g.D.Disk.faults c.args.disk c.in-Err.disk in
    let opened = c.in-Err.ensures in
    let why = opening_halt c.in-Err.fault in
    let image = λ (t : disk.told ≡ true). g.met.D.Disk.is_image c.in-Err.disk (opened.frame_err.tells ∙ t) in
    let failed = λ (e : c.in-Err.fault ≡ FailedDisk). failing_so g.D.Disk.tells g.D.Disk.content g.D.Disk.accounts g.D.Disk.faults c.args.disk c.in-Err.disk b plan (opened.cause e) image opened.moments_err in
    let untouched = λ (e : c.in-Err.fault ≡ FailedDisk → ⊥). unwritten_so g.D.Disk.tells g.D.Disk.content g.D.Disk.accounts g.D.Disk.faults c.args.disk c.in-Err.disk (opened.untouched e) (opened.unwritten e) in
    let unopened = subst (λ (d : DiskSeen). IsUnopened b plan d why) (sym same) (unopened_so b plan disk c.in-Err.fault opened.why failed untouched) in
    let halts = subst (λ (h : Halt). Halts words o told was was h) (sym c.halt_of_opening-halt.ensures)
    (link_unopened words o told was was b plan base (follow_is_link words o b plan base is) why (nothing_written told was) unopened) in
    ends_as words o told was was c.halt_of_opening-halt.result c.report-status.result halts c.report-status.ensures.status

pub returns-in-Err-clause-status : goal.returns-in-Err-clause-status
returns-in-Err-clause-status g c = inl (halt_status c.halt_of_opening-halt.result c.report-status.result c.report-status.ensures.status)

pub returns-in-Err-clause-doors : goal.returns-in-Err-clause-doors
returns-in-Err-clause-doors g c = still_lent g.L.Door.tells g.L.Door.is_out g.L.Door.faults g.L.Door.identity c.args.doors.items c.requires.home

pub returns-in-Err-clause-door : goal.returns-in-Err-clause-door
returns-in-Err-clause-door g c = λ is. absurd (not_door c.halt_of_opening-halt.result c.report-status.result c.report-status.ensures.status is)

pub returns-in-Err-clause-link : goal.returns-in-Err-clause-link
returns-in-Err-clause-link g c = λ is. absurd (not_link c.halt_of_opening-halt.result c.report-status.result c.report-status.ensures.status is)

pub returns-in-Err-clause-sink : goal.returns-in-Err-clause-sink
returns-in-Err-clause-sink g c = at_sink c.halt_of_opening-halt.result c.report-status.result c.report-status.ensures.status (λ is. absurd (no_sink c.in-Err.fault (sym c.halt_of_opening-halt.ensures ∙ is)))

pub returns-in-Err-clause-failed : goal.returns-in-Err-clause-failed
returns-in-Err-clause-failed g c = halt_at_disk c.halt_of_opening-halt.result c.report-status.result c.report-status.ensures.status (λ is. c.in-Err.ensures.cause (disk_fault c.in-Err.fault (sym c.halt_of_opening-halt.ensures ∙ is)))

pub returns-in-Err-clause-opened : goal.returns-in-Err-clause-opened
returns-in-Err-clause-opened g c = λ before.
    late_fault c.in-Err.fault (subst (λ (h : Halt). IsBeforeJournal h) c.halt_of_opening-halt.ensures (at_before c.halt_of_opening-halt.result c.report-status.result c.report-status.ensures.status before))

-- ---- it was opened
-- the work at the door never ends by a link that ended well
pub end_following-status-requires : goal.end_following-status-requires
end_following-status-requires g c =
    follow_never_done g.L.Door.tells g.L.Door.coming g.L.Door.returned g.L.Door.is_out g.L.Door.faults g.L.Door.identity
    g.L.Link.Link.tells g.L.Link.Link.left g.L.Link.Link.written g.L.Link.Link.faults g.L.Link.Link.identity
    _ _ _ _ _ c.follow_first-end.result c.deref_mut.result.now c.follow_first-end.new.doors c.follow_first-end.ensures.followed

pub returns-clause-answers : goal.returns-clause-answers
returns-clause-answers g c = λ words o is same.
    let b = c.args.bank.now in
    let plan = c.args.spec.now in
    let base = c.args.base.now in
    let told = g.O.Sink.tells c.args.out.now in
    let was = g.O.Sink.written c.args.out.now in
    let now = g.O.Sink.written c.end_following-status.new.out in
    let faults = g.D.Disk.faults in
    let first = c.in-Ok.follower in
    let last = c.follow_first-end.new.replica in
    let old = first.office in
    let new = c.promote-office.result in
    let end = c.follow_first-end.result in
    let disk = disk_seen g.D.Disk.tells g.D.Disk.content g.D.Disk.accounts faults c.args.disk c.into_disk-disk.result in
    let opened = c.in-Ok.ensures in
    let done = c.follow_first-end.ensures in
    let office_is : new ≡ last.office = c.promote-office.ensures.office in
    let gone = c.into_disk-disk.ensures in
    let kept = c.keeps-2.ensures in
    let same_opened : opened_with new ≡ opened_with old = ap (λ (w : Running g.row.D.Denot). opened_with w) office_is ∙ opened_same old last.office done.later.same done.later.frame in
    let still = λ (t : disk.told ≡ true). gone.tells ∙ (ap (λ (w : OpenedWith). w.tells) same_opened ∙ (opened.tells ∙ t)) in
    let handed_so : new.opened ≡ handed g.D.Disk.content g.D.Disk.accounts faults c.args.disk = ap (λ (w : OpenedWith). w.disk) same_opened ∙ opened.opened in
    let found_old : found old.marks ≡ history old.marks = ap (λ (m : List Mark). found m) opened.marks ∙ found-opened (history old.marks) (reach old.marks) in
    let size_old : opened_size old.marks ≡ reach old.marks = ap (λ (m : List Mark). opened_size m) opened.marks ∙ size-opened (history old.marks) (reach old.marks) in
    let found_new : found new.marks ≡ history old.marks = ap (λ (w : Running g.row.D.Denot). found w.marks) office_is ∙ done.later.found_same ∙ found_old in
    let closed : IsClosed b plan base disk old new = record {
      bank = opened.bank;
      plan_is = opened.plan;
      base_is = opened.base;
      told = opened.tells;
      handed = opened.opened;
      found = λ t. second_so b plan (history old.marks) disk.found (records_of first) (opened.stands t) (opened.records t);
      short = opened.short;
      marks = opened.marks;
      same = same_opened;
      added = entries_of last.taken;
      extends = c.promote-office.ensures.history ∙ ap (λ (E : List Entry). E ++ entries_of last.taken) found_new;
      legal = kept.run;
      doubt = kept.doubt;
      marks_are = kept.marks;
      counted =
          let held : AreCounted new.marks (faults c.args.disk) (faults_of new.journal) =
          subst (λ (d : HandedDisk). AreCounted new.marks d.faults (faults_of new.journal)) handed_so kept.counted in
          omega (arith, held, gone.faults);
      length_is = λ t sure. gone.length (still t) sure;
      left = λ t. gone.content (still t);
      images = λ t. gone.images (still t);
      moments = λ t.
          subst (λ (accounts : List Account). AreMoments new.bank new.plan disk.moments_before new.marks accounts) (sym gone.accounts)
          (subst (λ (d : HandedDisk). AreMoments new.bank new.plan d.accounts new.marks (accounts_of new.journal)) handed_so
          (kept.moments (sym gone.tells ∙ still t)));
    } in
    let examined = subst (λ (d : DiskSeen). IsExamined b plan base d (notes_of old) (notes_of new) (history new.marks)) (sym same)
    (examined_so b plan base disk old new closed) in
    let work : FollowSeen = record {
      b = b;
      plan = plan;
      found = record { records = records_of first; entries = history old.marks; size = reach old.marks };
      final = held_of last;
      end = end;
    } in
    let none : map payload_of first.taken ≡ [] = ap (λ (rs : List Record). map payload_of rs) opened.none in
    let payloads : found_payloads old ≡ records_of first = sym (append-nil (found_payloads old)) ∙ ap (λ (l : List (List ℕ)). found_payloads old ++ l) (sym none) in
    let held_sure : held_of first ≡ sure (records_of first) = ap (λ (d : Option Record). record { records = records_of first; doubt = option_map payload_of d }) opened.sure.1 in
    inr (record {
      work = work;
      follows = subst (λ (bs : List g.row.L.Denot). AreFollowed g.L.Door.tells g.L.Door.coming g.L.Door.returned g.L.Door.is_out g.L.Door.faults g.L.Door.identity g.L.Link.Link.tells g.L.Link.Link.left g.L.Link.Link.written g.L.Link.Link.faults g.L.Link.Link.identity c.args.doors.items bs work) (sym (written_back c.follow_first-end.new.doors (drop (length c.follow_first-end.new.doors) c.args.doors.items) c.args.doors.len (c.follow_first-end.ensures.length ∙ c.deref_mut.ensures.len)))
          (subst (λ (ds : List g.row.L.Denot). AreFollowed g.L.Door.tells g.L.Door.coming g.L.Door.returned g.L.Door.is_out g.L.Door.faults g.L.Door.identity g.L.Link.Link.tells g.L.Link.Link.left g.L.Link.Link.written g.L.Link.Link.faults g.L.Link.Link.identity ds c.follow_first-end.new.doors work) c.deref_mut.ensures.value (followed_so g.L.Door.tells g.L.Door.coming g.L.Door.returned g.L.Door.is_out g.L.Door.faults g.L.Door.identity
          g.L.Link.Link.tells g.L.Link.Link.left g.L.Link.Link.written g.L.Link.Link.faults g.L.Link.Link.identity
          c.deref_mut.result.now c.follow_first-end.new.doors (held_of last) end
          old.bank b old.plan plan (found_payloads old) (records_of first) (found old.marks) (history old.marks) (opened_size old.marks) (reach old.marks)
          (held_of first) (sure (records_of first)) opened.bank opened.plan payloads found_old size_old held_sure done.followed));
      ends = ends_by (IsLastOfFollow c.journal.result c.records-count.result c.summary-summary.result end) (IsFollowedBy words o work)
          (λ status text lasting. record {
            base = base;
            H = history new.marks;
            opened = notes_of old;
            closed = notes_of new;
            is = is;
            examined = examined;
            begins = marks_noted (opened_with old) old.marks ∙ opened.marks;
            found = λ t. rw same (opened.records (sym (ap (λ (d : DiskSeen). d.told) same) ∙ t));
            spelled = λ t.
                rw office_is (c.keeps.ensures.spelled (done.later.frame.tells ∙ (opened.tells ∙ (sym (ap (λ (d : DiskSeen). d.told) same) ∙ t))));
            last = follow_last plan (history new.marks) end c.journal.result c.records-count.result c.summary-summary.result
                c.journal.ensures c.records-count.ensures
                (c.summary-summary.ensures ∙ ap (λ (p : Plan). summary p (history new.marks)) (ap (λ (w : OpenedWith). w.plan) same_opened ∙ opened.plan))
                status text lasting;
          })
          told was now c.end_following-status.result c.end_following-status.ensures.printed;
    })

pub returns-clause-door : goal.returns-clause-door
returns-clause-door g c = λ is.
    subst (λ (bs : List g.row.L.Denot). HasFailedDoor g.L.Door.faults c.args.doors.items bs) (sym (written_back c.follow_first-end.new.doors (drop (length c.follow_first-end.new.doors) c.args.doors.items) c.args.doors.len (c.follow_first-end.ensures.length ∙ c.deref_mut.ensures.len)))
    (subst (λ (ds : List g.row.L.Denot). HasFailedDoor g.L.Door.faults ds c.follow_first-end.new.doors) c.deref_mut.ensures.value (follow_failed g.L.Door.tells g.L.Door.coming g.L.Door.returned g.L.Door.is_out g.L.Door.faults g.L.Door.identity
    g.L.Link.Link.tells g.L.Link.Link.left g.L.Link.Link.written g.L.Link.Link.faults g.L.Link.Link.identity
    _ _ _ _ _ c.follow_first-end.result c.deref_mut.result.now c.follow_first-end.new.doors c.follow_first-end.ensures.followed
    (at_door 0 c.follow_first-end.result c.end_following-status.result (λ e. omega (arith, e)) (follow_ends_own _ _ _ c.follow_first-end.result _ _ _ c.end_following-status.result c.end_following-status.ensures.printed) is)))

pub returns-clause-link : goal.returns-clause-link
returns-clause-link g c = λ is.
    subst (λ (bs : List g.row.L.Denot). HasFailedFirst g.L.Door.tells g.L.Door.coming g.L.Door.returned g.L.Door.is_out g.L.Door.faults g.L.Door.identity g.L.Link.Link.faults c.args.doors.items bs) (sym (written_back c.follow_first-end.new.doors (drop (length c.follow_first-end.new.doors) c.args.doors.items) c.args.doors.len (c.follow_first-end.ensures.length ∙ c.deref_mut.ensures.len)))
    (subst (λ (ds : List g.row.L.Denot). HasFailedFirst g.L.Door.tells g.L.Door.coming g.L.Door.returned g.L.Door.is_out g.L.Door.faults g.L.Door.identity g.L.Link.Link.faults ds c.follow_first-end.new.doors) c.deref_mut.ensures.value (follow_link_failed g.L.Door.tells g.L.Door.coming g.L.Door.returned g.L.Door.is_out g.L.Door.faults g.L.Door.identity
    g.L.Link.Link.tells g.L.Link.Link.left g.L.Link.Link.written g.L.Link.Link.faults g.L.Link.Link.identity
    _ _ _ _ _ c.follow_first-end.result c.deref_mut.result.now c.follow_first-end.new.doors c.follow_first-end.ensures.followed
    (at_link 0 c.follow_first-end.result c.end_following-status.result (λ e. omega (arith, e)) (follow_ends_own _ _ _ c.follow_first-end.result _ _ _ c.end_following-status.result c.end_following-status.ensures.printed) is)))

pub returns-clause-doors : goal.returns-clause-doors
returns-clause-doors g c =
    subst (λ (bs : List g.row.L.Denot). AreLent g.L.Door.tells g.L.Door.identity g.L.Door.faults g.L.Door.is_out c.args.doors.items bs) (sym (written_back c.follow_first-end.new.doors (drop (length c.follow_first-end.new.doors) c.args.doors.items) c.args.doors.len (c.follow_first-end.ensures.length ∙ c.deref_mut.ensures.len)))
    (subst (λ (ds : List g.row.L.Denot). AreLent g.L.Door.tells g.L.Door.identity g.L.Door.faults g.L.Door.is_out ds c.follow_first-end.new.doors) c.deref_mut.ensures.value (follow_lent g.L.Door.tells g.L.Door.coming g.L.Door.returned g.L.Door.is_out g.L.Door.faults g.L.Door.identity
    g.L.Link.Link.tells g.L.Link.Link.left g.L.Link.Link.written g.L.Link.Link.faults g.L.Link.Link.identity
    _ _ _ _ _ c.follow_first-end.result c.deref_mut.result.now c.follow_first-end.new.doors c.follow_first-end.ensures.followed
    (subst (λ (ds : List g.row.L.Denot). All (λ (d : g.row.L.Denot). g.L.Door.is_out d ≡ false) ds) (sym c.deref_mut.ensures.value) c.requires.home)))

pub returns-clause-failed : goal.returns-clause-failed
returns-clause-failed g c = λ is.
    let at = at_disk 0 c.follow_first-end.result c.end_following-status.result (λ e. omega (arith, e)) (follow_ends_own _ _ _ c.follow_first-end.result _ _ _ c.end_following-status.result c.end_following-status.ensures.printed) is in
    let rose = c.follow_first-end.ensures.disk at in
    let same : faults_of c.promote-office.result.journal ≡ faults_of c.follow_first-end.new.replica.office.journal = ap (λ (w : Running g.row.D.Denot). faults_of w.journal) c.promote-office.ensures.office in
    omega (arith, rose, same, c.in-Ok.ensures.grows, c.into_disk-disk.ensures.faults)

pub returns-clause-cause : goal.returns-clause-cause
returns-clause-cause g c = λ words o is same.
    ends_linked words c.end_following-status.result (Follow is.bank is.plan) is.asked tt
    (not_before 0 c.follow_first-end.result c.end_following-status.result (λ e. false≢true e) (follow_ends_own _ _ _ c.follow_first-end.result _ _ _ c.end_following-status.result c.end_following-status.ensures.printed))

pub returns-clause-opened : goal.returns-clause-opened
returns-clause-opened g c =
    not_before 0 c.follow_first-end.result c.end_following-status.result (λ e. false≢true e) (follow_ends_own _ _ _ c.follow_first-end.result _ _ _ c.end_following-status.result c.end_following-status.ensures.printed)

pub returns-clause-status : goal.returns-clause-status
returns-clause-status g c =
    is_any 0 c.follow_first-end.result c.end_following-status.result (inl (inl (0, omega arith, refl))) (follow_ends_own _ _ _ c.follow_first-end.result _ _ _ c.end_following-status.result c.end_following-status.ensures.printed)

pub returns-clause-disk : goal.returns-clause-disk
returns-clause-disk g c =
    let opened = c.in-Ok.ensures in
    let done = c.follow_first-end.ensures in
    let office_is = c.promote-office.ensures.office in
    let gone = c.into_disk-disk.ensures in
    let same : faults_of c.promote-office.result.journal ≡ faults_of c.follow_first-end.new.replica.office.journal = ap (λ (w : Running g.row.D.Denot). faults_of w.journal) office_is in
    record {
      grows = omega (arith, opened.grows, done.later.frame.grows, same, gone.faults);
      tells = gone.tells ∙ (ap (λ (w : Running g.row.D.Denot). tells_of w.journal) office_is ∙ (done.later.frame.tells ∙ opened.tells));
      identity = gone.identity ∙ (ap (λ (w : Running g.row.D.Denot). identity_of w.journal) office_is ∙ (done.later.frame.identity ∙ opened.identity));
    }
