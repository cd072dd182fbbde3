use Rattle.std.proofs.Common.{◌≡◌, ℕ, ◌+◌, List, [], ◌∷◌, ◌++◌, length, refl, sym, ◌∙◌, ap, subst, arith}
use Rattle.std.proofs.lemmas.Grind.{common_steps}
use Rattle.bank_tables.specs.Tables.{Tables}
use Rattle.form_model.specs.Plan.{Plan}
use Rattle.answer_journal.specs.Walk.{first_payloads}
use Rattle.exam_office.specs.Migrating.{AreMeasured, IsTakenOver}
use Rattle.exam_office.specs.Opening.{IsNotTaken}
use Rattle.exam_office.proofs.MigratingPassing.{measured_more, none_measured, one_entry}
use Rattle.exam_office.proofs.Opened.{refused_here}
use Rattle.exam_office.proofs.migrating.measure_records.Goals as goal

pub records-init : goal.records-init
records-init g c =
    let book = c.args.book.now in
    let walk = c.args.walk.now in
    record {
      bank = refl;
      plan = refl;
      measured = none_measured book.bank book.plan walk.at (g.D.Disk.tells walk.disk) (g.D.Disk.content walk.disk) book.entries walk.given walk.at 0 c.requires.empty c.requires.start refl refl;
      few = omega arith;
      places = omega (arith, ap length c.requires.empty);
      limit = refl;
      size = refl;
      version = refl;
      content = λ told. refl;
      accounts = λ told. refl;
      aside = λ told. refl;
      frame = record { grows = omega arith; tells = refl; identity = refl };
    }

pub records-preserved : goal.records-preserved
records-preserved g c =
    let book = c.args.book.now in
    let t0 = g.D.Disk.tells c.args.walk.now.disk in
    let c0 = g.D.Disk.content c.args.walk.now.disk in
    let i = c.records.invariant in
    let H = c.records.book.entries in
    let old = c.records.walk in
    let new = c.next.new.self in
    let p = c.next.new.buffer.items in
    let at = c.in-Ok-Some.at in
    let is = c.in-Ok-Some.field-0-is in
    let now = c.take_length.new.book.entries in
    let found = c.in-Ok.ensures.taken in
    let second : List ℕ = found.0 in
    let first = c.args.walk.now.at in
    let one : IsTakenOver book.bank book.plan H p now second =
    subst (λ (q : List ℕ). IsTakenOver book.bank book.plan H q now second) c.deref.ensures.value
    (subst (λ (q : Plan). IsTakenOver book.bank q H c.deref.result.now now second) i.plan (subst (λ (b : Tables). IsTakenOver b c.records.book.plan H c.deref.result.now now second) i.bank found.2)) in
    let place : new.at ≡ old.at + 5 + length p = c.in-Ok-Some.ensures.at at is ∙ ap (λ (k : ℕ). k + 5 + length p) (c.in-Ok-Some.ensures.place at is) in
    let fits = c.in-Ok-Some.ensures.fits at is in
    let longer : length now ≡ length H + 1 = one_entry book.bank book.plan H p now second one in
    record {
      bank = c.take_length.ensures.bank ∙ i.bank;
      plan = c.take_length.ensures.plan ∙ i.plan;
      measured =
          subst (λ (n : ℕ). AreMeasured book.bank book.plan first t0 c0 new.given new.at now n) (omega (arith, found.1))
          (measured_more book.bank book.plan first t0 c0 H old.given old.at c.records.total i.measured p new.given new.at place
          (λ told. subst (λ (f : List ℕ). first_payloads new.given f ≡ first_payloads old.given f ++ p ∷ []) (i.content told) (c.in-Ok-Some.ensures.payload at is (i.frame.tells ∙ told)))
          now second one);
      few = omega (arith, i.few, c.in-Ok.ensures.few, longer, place, ap length c.deref.ensures.value);
      places = omega (arith, i.places, place, fits.some, longer);
      limit = c.next.ensures.limit ∙ i.limit;
      size = c.next.ensures.size ∙ i.size;
      version = c.next.ensures.versions.1 ∙ i.version;
      content = λ told. c.next.ensures.untouched (i.frame.tells ∙ told) ∙ i.content told;
      accounts = λ told. c.next.ensures.accounts (i.frame.tells ∙ told) ∙ i.accounts told;
      aside = λ told. c.next.ensures.aside (i.frame.tells ∙ told) ∙ i.aside told;
      frame = record {
        grows = omega (arith, i.frame.grows, c.next.ensures.frame.grows);
        tells = c.next.ensures.frame.tells ∙ i.frame.tells;
        identity = c.next.ensures.frame.identity ∙ i.frame.identity;
      };
    }

pub returns-in-Err-clause-why : goal.returns-in-Err-clause-why
returns-in-Err-clause-why g c = λ told.
    let book = c.args.book.now in
    let t0 = g.D.Disk.tells c.args.walk.now.disk in
    let c0 = g.D.Disk.content c.args.walk.now.disk in
    let i = c.records.invariant in
    let H = c.records.book.entries in
    let old = c.records.walk in
    let new = c.next.new.self in
    let p = c.next.new.buffer.items in
    let at = c.in-Ok-Some.at in
    let is = c.in-Ok-Some.field-0-is in
    let fault = c.in-Err.fault in
    let first = c.args.walk.now.at in
    let more : first_payloads new.given c0 ≡ first_payloads old.given c0 ++ p ∷ [] =
    subst (λ (f : List ℕ). first_payloads new.given f ≡ first_payloads old.given f ++ p ∷ []) (i.content told) (c.in-Ok-Some.ensures.payload at is (i.frame.tells ∙ told)) in
    let one_on : first_payloads (old.given + 1) c0 ≡ first_payloads old.given c0 ++ p ∷ [] =
    ap (λ (k : ℕ). first_payloads k c0) (sym (c.in-Ok-Some.ensures.given at is)) ∙ more in
    let here : IsNotTaken book.bank book.plan 1 H at c.deref.result.now fault =
    subst (λ (q : Plan). IsNotTaken book.bank q 1 H at c.deref.result.now fault) i.plan (subst (λ (b : Tables). IsNotTaken b c.records.book.plan 1 H at c.deref.result.now fault) i.bank c.in-Err.ensures.refused) in
    let why : IsNotTaken book.bank book.plan 1 H old.at p fault =
    subst (λ (k : ℕ). IsNotTaken book.bank book.plan 1 H k p fault) (c.in-Ok-Some.ensures.place at is)
    (subst (λ (q : List ℕ). IsNotTaken book.bank book.plan 1 H at q fault) c.deref.ensures.value here) in
    refused_here book.bank book.plan 1 first t0 c0 H old.given old.at i.measured.taken told (c.requires.place told) (sym (c.requires.first told)) (c.requires.gives told) p one_on fault why

pub returns-in-Ok-None-clause-measured : goal.returns-in-Ok-None-clause-measured
returns-in-Ok-None-clause-measured g c =
    let book = c.args.book.now in
    let t0 = g.D.Disk.tells c.args.walk.now.disk in
    let c0 = g.D.Disk.content c.args.walk.now.disk in
    let i = c.records.invariant in
    let H = c.records.book.entries in
    let old = c.records.walk in
    let new = c.next.new.self in
    let first = c.args.walk.now.at in
    let stays = c.in-Ok-None.ensures.stays c.in-Ok-None.field-0-is in
    subst (λ (n : ℕ). AreMeasured book.bank book.plan first t0 c0 new.given n H c.records.total) (sym stays.0)
    (subst (λ (n : ℕ). AreMeasured book.bank book.plan first t0 c0 n old.at H c.records.total) (sym stays.1) i.measured)

pub returns-in-Ok-None-clause-last : goal.returns-in-Ok-None-clause-last
returns-in-Ok-None-clause-last g c = grind (arith, common_steps)
