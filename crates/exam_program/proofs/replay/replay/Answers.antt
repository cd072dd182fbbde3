use Rattle.std.proofs.Common.{◌≡◌, ◌∙◌, ℕ, List, inl, true, refl, sym, ap, subst}
use Rattle.bank_tables.specs.Tables.{Tables}
use Rattle.exam_edge.specs.Images.{AllImages, latest}
use Rattle.form_model.specs.Plan.{Plan}
use Rattle.exam_office.specs.declared.fault.OpenFault.TheVariants.{Disk as FailedDisk}
use Rattle.answer_journal.specs.Journal.{accounts_of}
use Rattle.exam_office.specs.Files.{StandsSecond}
use Rattle.exam_office.specs.Marks.{history}
use Rattle.exam_office.specs.Writing.{IsMending}
use Rattle.exam_program.specs.declared.halt.Halt.{Halt}
use Rattle.exam_program.specs.declared.halt.Halt.TheVariants.{Disk}
use Rattle.exam_program.specs.Halts.{IsBeforeJournal}
use Rattle.exam_program.specs.Outside.{disk_seen}
use Rattle.exam_program.specs.Stopping.{Finishes, IsServed, IsUnserved, IsReplayed, Halted}
use Rattle.exam_program.proofs.OutcomeLaws.{rose_so, opened_so}
use Rattle.exam_program.proofs.ReplayLaws.{failing_so, unwritten_so, unopened_so, moved_so, IsHandedBack, finish_so, halted_so, as_given, at_err}
use Rattle.exam_program.proofs.RequestLaws.{on_ok, if_err, nothing_written}
use Rattle.exam_program.proofs.replay.replay.Goals as goal

pub returns-in-Err-clause-err : goal.returns-in-Err-clause-err
returns-in-Err-clause-err g c =
    let b = c.args.bank.now in
    let plan = c.args.spec.now in
    let told = g.O.Sink.tells c.args.out.now in
    let was = g.O.Sink.written c.args.out.now in
    let disk = disk_seen g.D.Disk.tells g.D.Disk.content g.D.Disk.accounts g.D.Disk.faults c.args.disk c.in-Err.disk in
    let opened = c.in-Err.ensures in
    let image = λ (t : disk.told ≡ true). g.met.D.Disk.is_image c.in-Err.disk (opened.frame_err.tells ∙ t) in
    let failed = λ (e : c.in-Err.fault ≡ FailedDisk). failing_so g.D.Disk.tells g.D.Disk.content g.D.Disk.accounts g.D.Disk.faults c.args.disk c.in-Err.disk b plan (opened.cause e) image opened.moments_err in
    let untouched = λ (e : c.in-Err.fault ≡ FailedDisk → ⊥). unwritten_so g.D.Disk.tells g.D.Disk.content g.D.Disk.accounts g.D.Disk.faults c.args.disk c.in-Err.disk (opened.untouched e) (opened.unwritten e) in
    subst (λ (h : Halt). Halted b plan c.args.base.now disk c.args.requests.now told was was h) (sym c.halt_of_opening.ensures)
    (inl (unopened_so b plan disk c.in-Err.fault opened.why failed untouched, nothing_written told was))

-- an office that was just opened
pub do_requests-done-requires : goal.do_requests-done-requires
do_requests-done-requires g c =
    let opened = c.in-Ok.ensures in
    let office = c.in-Ok.office in
    record {
      durable = record {
        sure = opened.sure;
        images = λ told.
            subst (λ (p : Plan). AllImages (StandsSecond office.bank p (history office.marks)) (latest (accounts_of office.journal))) (sym opened.plan)
            (subst (λ (b : Tables). AllImages (StandsSecond b c.args.spec.now (history office.marks)) (latest (accounts_of office.journal))) (sym opened.bank)
            (opened.images (sym opened.tells ∙ told)));
      };
    }

pub returns-clause-ok : goal.returns-clause-ok
returns-clause-ok g c =
    let b = c.args.bank.now in
    let plan = c.args.spec.now in
    let base = c.args.base.now in
    let script = c.args.requests.now in
    let told = g.O.Sink.tells c.args.out.now in
    let was = g.O.Sink.written c.args.out.now in
    let now = g.O.Sink.written c.do_requests-done.new.out in
    let old = c.in-Ok.office in
    let new = c.do_requests-done.new.alone.office in
    let disk = disk_seen g.D.Disk.tells g.D.Disk.content g.D.Disk.accounts g.D.Disk.faults c.args.disk c.into_disk.result in
    let opened = c.in-Ok.ensures in
    let done = c.do_requests-done.ensures in
    let gone = c.into_disk.ensures in
    let still = λ (t : disk.told ≡ true). gone.tells ∙ (done.disk.tells ∙ (opened.tells ∙ t)) in
    let back : IsHandedBack b plan disk old new = record {
      legal = opened.legal;
      found = λ t. moved_so b plan (history old.marks) disk.found (opened.stands t) (opened.version t);
      told = opened.tells;
      images = sym (ap latest gone.accounts);
      moments = sym gone.accounts;
      opening = opened.moments;
      left = λ t. g.met.D.Disk.is_image c.into_disk.result (still t);
      content = λ t.
          subst (λ (x : Tables). IsMending x plan (history new.marks) new.doubt disk.left) (done.same.bank ∙ opened.bank)
          (subst (λ (y : Plan). IsMending new.bank y (history new.marks) new.doubt disk.left) (done.same.plan ∙ opened.plan) (gone.content (still t)));
      length_is = λ t. gone.length (still t);
      before = opened.grows;
      after = sym gone.faults;
    } in
    on_ok (IsServed old.bank old.plan old.base script old new told was now) (Finishes (IsReplayed b plan base disk script) told was now) c.do_requests-done.result
    (λ served. finish_so b plan base disk script old new back told was now
    (as_given (λ (x : Tables) (y : Plan) (z : List ℕ). IsServed x y z script old new told was now) old.bank b old.plan plan old.base base opened.bank opened.plan opened.base served)) done.ok

pub returns-clause-err : goal.returns-clause-err
returns-clause-err g c =
    let b = c.args.bank.now in
    let plan = c.args.spec.now in
    let base = c.args.base.now in
    let script = c.args.requests.now in
    let told = g.O.Sink.tells c.args.out.now in
    let was = g.O.Sink.written c.args.out.now in
    let now = g.O.Sink.written c.do_requests-done.new.out in
    let old = c.in-Ok.office in
    let new = c.do_requests-done.new.alone.office in
    let disk = disk_seen g.D.Disk.tells g.D.Disk.content g.D.Disk.accounts g.D.Disk.faults c.args.disk c.into_disk.result in
    let opened = c.in-Ok.ensures in
    let done = c.do_requests-done.ensures in
    let gone = c.into_disk.ensures in
    let still = λ (t : disk.told ≡ true). gone.tells ∙ (done.disk.tells ∙ (opened.tells ∙ t)) in
    let back : IsHandedBack b plan disk old new = record {
      legal = opened.legal;
      found = λ t. moved_so b plan (history old.marks) disk.found (opened.stands t) (opened.version t);
      told = opened.tells;
      images = sym (ap latest gone.accounts);
      moments = sym gone.accounts;
      opening = opened.moments;
      left = λ t. g.met.D.Disk.is_image c.into_disk.result (still t);
      content = λ t.
          subst (λ (x : Tables). IsMending x plan (history new.marks) new.doubt disk.left) (done.same.bank ∙ opened.bank)
          (subst (λ (y : Plan). IsMending new.bank y (history new.marks) new.doubt disk.left) (done.same.plan ∙ opened.plan) (gone.content (still t)));
      length_is = λ t. gone.length (still t);
      before = opened.grows;
      after = sym gone.faults;
    } in
    if_err (IsUnserved old.bank old.plan old.base script old new told was now) (Halted b plan base disk script told was now) c.do_requests-done.result
    (λ h unserved. halted_so b plan base disk script old new back told was now h
    (as_given (λ (x : Tables) (y : Plan) (z : List ℕ). IsUnserved x y z script old new told was now h) old.bank b old.plan plan old.base base opened.bank opened.plan opened.base unserved)) done.err

pub returns-clause-failed : goal.returns-clause-failed
returns-clause-failed g c = λ is.
    let b = c.args.bank.now in
    let plan = c.args.spec.now in
    let base = c.args.base.now in
    let script = c.args.requests.now in
    let told = g.O.Sink.tells c.args.out.now in
    let was = g.O.Sink.written c.args.out.now in
    let now = g.O.Sink.written c.do_requests-done.new.out in
    let disk = disk_seen g.D.Disk.tells g.D.Disk.content g.D.Disk.accounts g.D.Disk.faults c.args.disk c.into_disk.result in
    rose_so b plan base disk script told was now Disk (at_err (Halted b plan base disk script told was now) c.do_requests-done.result Disk is (returns-clause-err g c)) refl

pub returns-clause-opened : goal.returns-clause-opened
returns-clause-opened g c =
    let b = c.args.bank.now in
    let plan = c.args.spec.now in
    let base = c.args.base.now in
    let script = c.args.requests.now in
    let told = g.O.Sink.tells c.args.out.now in
    let was = g.O.Sink.written c.args.out.now in
    let now = g.O.Sink.written c.do_requests-done.new.out in
    let disk = disk_seen g.D.Disk.tells g.D.Disk.content g.D.Disk.accounts g.D.Disk.faults c.args.disk c.into_disk.result in
    if_err (Halted b plan base disk script told was now) (λ (h : Halt). IsBeforeJournal h → ⊥) c.do_requests-done.result (opened_so b plan base disk script told was now) (returns-clause-err g c)
