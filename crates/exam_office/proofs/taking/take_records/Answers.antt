use Rattle.std.proofs.Common.{◌≡◌, ℕ, ◌+◌, List, [], ◌∷◌, ◌++◌, length, map, refl, sym, ◌∙◌, ap, subst, arith}
use Rattle.std.proofs.lemmas.List.{map-append}
use Rattle.std.proofs.lemmas.Grind.{common_steps}
use Rattle.bank_tables.specs.Tables.{Tables}
use Rattle.form_model.specs.Plan.{Plan}
use Rattle.history_model.specs.declared.entry.Entry.{Entry}
use Rattle.answer_journal.specs.Walk.{first_payloads}
use Rattle.exam_office.specs.declared.mark.Mark.{Mark}
use Rattle.exam_office.specs.declared.mark.Mark.TheVariants.{Old}
use Rattle.exam_office.specs.KeptVectors.{IsTakenWith, AreTakenWith}
use Rattle.exam_office.specs.Opening.{IsNotTaken}
use Rattle.exam_office.proofs.Opened.{none_with, taken_with_more, refused_here}
use Rattle.exam_office.proofs.taking.take_records.Goals as goal

pub records-init : goal.records-init
records-init g c =
    let book = c.args.book.now in
    let walk = c.args.walk.now in
    record {
      bank = refl;
      plan = refl;
      taken = none_with book.bank book.plan walk.record_version walk.at (g.D.Disk.tells walk.disk) (g.D.Disk.content walk.disk) book.entries walk.given walk.at c.args.vectors.now c.requires.empty c.requires.start refl c.requires.cold;
      asked = refl;
      noted = c.requires.none ∙ ap (map Old) (sym c.requires.empty);
      limit = refl;
      size = refl;
      versions = (refl, refl);
      content = λ told. refl;
      accounts = λ told. refl;
      aside = λ told. refl;
      frame = record { grows = omega arith; tells = refl; identity = refl };
    }

pub records-preserved : goal.records-preserved
records-preserved g c =
    let book = c.args.book.now in
    let t0 = g.D.Disk.tells c.args.walk.now.disk in
    let c0 = g.D.Disk.content c.args.walk.now.disk in
    let i = c.records.invariant in
    let H = c.records.book.entries in
    let old = c.records.walk in
    let new = c.next.new.self in
    let p = c.next.new.buffer.items in
    let at = c.in-Ok-Some.at in
    let is = c.in-Ok-Some.field-0-is in
    let e = c.in-Ok.entry in
    let v = c.records.vectors in
    let w = c.take_record.new.vectors in
    let version = c.args.walk.now.record_version in
    let first = c.args.walk.now.at in
    let here : IsTakenWith c.records.book.bank c.records.book.plan version H c.deref.result.now e v w =
    subst (λ (k : ℕ). IsTakenWith c.records.book.bank c.records.book.plan k H c.deref.result.now e v w) c.record_version-version.ensures.version c.in-Ok.ensures.taken in
    let one : IsTakenWith book.bank book.plan version H p e v w =
    subst (λ (q : List ℕ). IsTakenWith book.bank book.plan version H q e v w) c.deref.ensures.value
    (subst (λ (q : Plan). IsTakenWith book.bank q version H c.deref.result.now e v w) i.plan (subst (λ (b : Tables). IsTakenWith b c.records.book.plan version H c.deref.result.now e v w) i.bank here)) in
    let place : new.at ≡ old.at + 5 + length p = c.in-Ok-Some.ensures.at at is ∙ ap (λ (k : ℕ). k + 5 + length p) (c.in-Ok-Some.ensures.place at is) in
    record {
      bank = c.take_record.ensures.bank ∙ i.bank;
      plan = c.take_record.ensures.plan ∙ i.plan;
      taken = subst (λ (G : List Entry). AreTakenWith book.bank book.plan version first t0 c0 new.given new.at G w) (sym c.in-Ok.ensures.entries)
          (taken_with_more book.bank book.plan version first t0 c0 H old.given old.at i.taken.taken v w i.taken.vectors_are p new.given new.at place
          (λ told. subst (λ (f : List ℕ). first_payloads new.given f ≡ first_payloads old.given f ++ p ∷ []) (i.content told) (c.in-Ok-Some.ensures.payload at is (i.frame.tells ∙ told)))
          e one);
      asked = c.take_record.ensures.asked ∙ i.asked;
      noted = c.in-Ok-note.ensures.noted ∙ (ap (λ (ms : List Mark). ms ++ Old e ∷ []) i.noted ∙ (sym (map-append Old H (e ∷ [])) ∙ ap (map Old) (sym c.in-Ok.ensures.entries)));
      limit = c.next.ensures.limit ∙ i.limit;
      size = c.next.ensures.size ∙ i.size;
      versions = (c.next.ensures.versions.0 ∙ i.versions.0, c.next.ensures.versions.1 ∙ i.versions.1);
      content = λ told. c.next.ensures.untouched (i.frame.tells ∙ told) ∙ i.content told;
      accounts = λ told. c.next.ensures.accounts (i.frame.tells ∙ told) ∙ i.accounts told;
      aside = λ told. c.next.ensures.aside (i.frame.tells ∙ told) ∙ i.aside told;
      frame = record {
        grows = omega (arith, i.frame.grows, c.next.ensures.frame.grows);
        tells = c.next.ensures.frame.tells ∙ i.frame.tells;
        identity = c.next.ensures.frame.identity ∙ i.frame.identity;
      };
    }

pub returns-in-Err-clause-why : goal.returns-in-Err-clause-why
returns-in-Err-clause-why g c = λ told.
    let book = c.args.book.now in
    let t0 = g.D.Disk.tells c.args.walk.now.disk in
    let c0 = g.D.Disk.content c.args.walk.now.disk in
    let i = c.records.invariant in
    let H = c.records.book.entries in
    let old = c.records.walk in
    let new = c.next.new.self in
    let p = c.next.new.buffer.items in
    let at = c.in-Ok-Some.at in
    let is = c.in-Ok-Some.field-0-is in
    let fault = c.in-Err.fault in
    let more : first_payloads new.given c0 ≡ first_payloads old.given c0 ++ p ∷ [] =
    subst (λ (f : List ℕ). first_payloads new.given f ≡ first_payloads old.given f ++ p ∷ []) (i.content told) (c.in-Ok-Some.ensures.payload at is (i.frame.tells ∙ told)) in
    let one_on : first_payloads (old.given + 1) c0 ≡ first_payloads old.given c0 ++ p ∷ [] =
    ap (λ (k : ℕ). first_payloads k c0) (sym (c.in-Ok-Some.ensures.given at is)) ∙ more in
    let version = c.args.walk.now.record_version in
    let first = c.args.walk.now.at in
    let by_version : IsNotTaken c.records.book.bank c.records.book.plan version H at c.deref.result.now fault =
    subst (λ (k : ℕ). IsNotTaken c.records.book.bank c.records.book.plan k H at c.deref.result.now fault) c.record_version-version.ensures.version c.in-Err.ensures.refused in
    let here : IsNotTaken book.bank book.plan version H at c.deref.result.now fault =
    subst (λ (q : Plan). IsNotTaken book.bank q version H at c.deref.result.now fault) i.plan (subst (λ (b : Tables). IsNotTaken b c.records.book.plan version H at c.deref.result.now fault) i.bank by_version) in
    let why : IsNotTaken book.bank book.plan version H old.at p fault =
    subst (λ (k : ℕ). IsNotTaken book.bank book.plan version H k p fault) (c.in-Ok-Some.ensures.place at is)
    (subst (λ (q : List ℕ). IsNotTaken book.bank book.plan version H at q fault) c.deref.ensures.value here) in
    refused_here book.bank book.plan version first t0 c0 H old.given old.at i.taken.taken told (c.requires.place told) (c.requires.version told) (c.requires.gives told) p one_on fault why

pub returns-in-Ok-None-clause-taken : goal.returns-in-Ok-None-clause-taken
returns-in-Ok-None-clause-taken g c =
    let book = c.args.book.now in
    let t0 = g.D.Disk.tells c.args.walk.now.disk in
    let c0 = g.D.Disk.content c.args.walk.now.disk in
    let i = c.records.invariant in
    let H = c.records.book.entries in
    let old = c.records.walk in
    let new = c.next.new.self in
    let stays = c.in-Ok-None.ensures.stays c.in-Ok-None.field-0-is in
    let version = c.args.walk.now.record_version in
    let first = c.args.walk.now.at in
    subst (λ (n : ℕ). AreTakenWith book.bank book.plan version first t0 c0 new.given n H c.records.vectors) (sym stays.0)
    (subst (λ (n : ℕ). AreTakenWith book.bank book.plan version first t0 c0 n old.at H c.records.vectors) (sym stays.1) i.taken)

pub returns-in-Ok-None-clause-last : goal.returns-in-Ok-None-clause-last
returns-in-Ok-None-clause-last g c = grind (arith, common_steps)
