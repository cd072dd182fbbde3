use Rattle.std.proofs.Common.{◌≡◌, inr, ℕ, ◌+◌, List, [], ◌∷◌, ◌++◌, length, map, sym, ◌∙◌, ap, subst, arith}
use Rattle.exam_edge.specs.Images.{Account, AtEachMoment, latest}
use Rattle.exam_records.specs.Spelling.{payload_of}
use Rattle.answer_journal.specs.Moving.{IsImageOrUnmoved, IsMovingWith}
use Rattle.exam_office.specs.Files.{payload_in}
use Rattle.exam_office.specs.Migrating.{IsTakenOver}
use Rattle.exam_office.specs.Opening.{IsNotTaken}
use Rattle.exam_office.proofs.Allowing.{moving}
use Rattle.exam_office.proofs.FileLaws.{not_refused}
use Rattle.exam_office.proofs.MigratingFiles.{device_fault, moving_same}
use Rattle.exam_office.proofs.MigratingSteps.{moved_more, next_moved, room_then, second_next}
use Rattle.exam_office.proofs.migrating.move_record.Goals as goal

-- the old payload can't be read
pub returns-in-Err-clause-why : goal.returns-in-Err-clause-why
returns-in-Err-clause-why g c = λ told R done m short.
    let b = c.args.book.now.bank in
    let plan = c.args.book.now.plan in
    let old = c.args.moving.now in
    let content = g.D.Disk.content old.disk in
    let accounts = g.D.Disk.accounts old.disk in
    let n = next_moved b plan R done content old.waiting accounts old.gate old.end c.args.book.now.entries c.args.at m c.requires.before in
    let f = payload_in b plan 1 in
    device_fault c.in-Err.fault c.migrate_fault.result c.migrate_fault.ensures
    (c.in-Err.ensures.why told (map f done) (map f n.after) (map payload_of done) (f n.next)
    (subst (λ (ps : List (List ℕ)). IsMovingWith ps (map payload_of done) content old.waiting accounts old.gate old.end) n.payloads m.moving) m.place)

-- memory runs out while the record is taken
pub returns-in-Err-take_over-clause-why : goal.returns-in-Err-take_over-clause-why
returns-in-Err-take_over-clause-why g c = λ told R done m short.
    let b = c.args.book.now.bank in
    let plan = c.args.book.now.plan in
    let old = c.args.moving.now in
    let content = g.D.Disk.content old.disk in
    let accounts = g.D.Disk.accounts old.disk in
    let entries = c.args.book.now.entries in
    let n = next_moved b plan R done content old.waiting accounts old.gate old.end entries c.args.at m c.requires.before in
    let f = payload_in b plan 1 in
    let fault = c.in-Err-take_over.fault in
    let payload : c.deref.result.now ≡ f n.next =
    c.deref.ensures.value ∙ c.in-Ok.ensures.payload told (map f done) (map f n.after) (map payload_of done) (f n.next)
    (subst (λ (ps : List (List ℕ)). IsMovingWith ps (map payload_of done) content old.waiting accounts old.gate old.end) n.payloads m.moving) m.place in
    let refused : IsNotTaken b plan 1 entries c.args.at (f n.next) fault =
    subst (λ (p : List ℕ). IsNotTaken b plan 1 entries c.args.at p fault) payload c.in-Err-take_over.ensures.refused in
    device_fault fault c.migrate_fault-in-Err-take_over.result c.migrate_fault-in-Err-take_over.ensures
    (inr (not_refused b plan 1 entries c.args.at n.next fault n.low n.spells n.may refused))

-- the record is moved
pub returns-in-Ok-add_record-clause-moved : goal.returns-in-Ok-add_record-clause-moved
returns-in-Ok-add_record-clause-moved g c = λ told R done m.
    let b = c.args.book.now.bank in
    let plan = c.args.book.now.plan in
    let old = c.args.moving.now in
    let mid = c.read_old.new.moving in
    let new = c.add_record.new.moving in
    let content = g.D.Disk.content old.disk in
    let accounts = g.D.Disk.accounts old.disk in
    let entries = c.args.book.now.entries in
    let n = next_moved b plan R done content old.waiting accounts old.gate old.end entries c.args.at m c.requires.before in
    let f = payload_in b plan 1 in
    let now = c.take_over.new.book.entries in
    let second = c.in-Ok-take_over.second.items in
    let read : c.in-Ok.payload.items ≡ f n.next =
    c.in-Ok.ensures.payload told (map f done) (map f n.after) (map payload_of done) (f n.next)
    (subst (λ (ps : List (List ℕ)). IsMovingWith ps (map payload_of done) content old.waiting accounts old.gate old.end) n.payloads m.moving) m.place in
    let taken : IsTakenOver b plan entries (f n.next) now second =
    subst (λ (p : List ℕ). IsTakenOver b plan entries p now second) (c.deref.ensures.value ∙ read) c.in-Ok-take_over.ensures.taken in
    let places = c.read_old.ensures.places in
    let here : IsMovingWith (map f R) (map payload_of done) (g.D.Disk.content mid.disk) mid.waiting (g.D.Disk.accounts mid.disk) mid.gate mid.end =
    moving_same (map f R) (map payload_of done) content (g.D.Disk.content mid.disk) old.waiting mid.waiting accounts (g.D.Disk.accounts mid.disk) old.gate mid.gate old.end mid.end
    (c.read_old.ensures.content told) c.read_old.ensures.waiting (c.read_old.ensures.accounts told) places.0 places.1 m.moving in
    let added : IsMovingWith (map f R) (map payload_of done ++ second ∷ []) (g.D.Disk.content new.disk) new.waiting (g.D.Disk.accounts new.disk) new.gate new.end =
    subst (λ (p : List ℕ). IsMovingWith (map f R) (map payload_of done ++ p ∷ []) (g.D.Disk.content new.disk) new.waiting (g.D.Disk.accounts new.disk) new.gate new.end) c.deref-2.ensures.value
    (c.in-Ok-add_record.ensures.added (c.read_old.ensures.frame.tells ∙ told) (map f R) (map payload_of done) here) in (
      n.next,
      moved_more b plan R done content old.waiting accounts old.gate old.end entries c.args.at m n now second taken
          (g.D.Disk.content new.disk) new.waiting (g.D.Disk.accounts new.disk) new.gate new.end (c.args.at + 5 + c.len.result) (omega (arith, c.len.ensures, c.deref.ensures.len, ap length (c.deref.ensures.value ∙ read))) added,
    )

pub returns-in-Ok-add_record-clause-moments : goal.returns-in-Ok-add_record-clause-moments
returns-in-Ok-add_record-clause-moments g c = λ told R done m.
    let f = payload_in c.args.book.now.bank c.args.book.now.plan 1 in
    let old = c.args.moving.now in
    let mid = c.read_old.new.moving in
    let places = c.read_old.ensures.places in
    let here : IsMovingWith (map f R) (map payload_of done) (g.D.Disk.content mid.disk) mid.waiting (g.D.Disk.accounts mid.disk) mid.gate mid.end =
    moving_same (map f R) (map payload_of done) (g.D.Disk.content old.disk) (g.D.Disk.content mid.disk) old.waiting mid.waiting (g.D.Disk.accounts old.disk) (g.D.Disk.accounts mid.disk) old.gate mid.gate old.end mid.end
    (c.read_old.ensures.content told) c.read_old.ensures.waiting (c.read_old.ensures.accounts told) places.0 places.1 m.moving in
    subst (λ (a : List Account). AtEachMoment a (g.D.Disk.accounts c.add_record.new.moving.disk) (IsImageOrUnmoved (latest a) (map f R))) (c.read_old.ensures.accounts told)
    (c.add_record.ensures.moments (c.read_old.ensures.frame.tells ∙ told) (map f R) (map payload_of done) here)

-- the record is not written
pub returns-clause-moments : goal.returns-clause-moments
returns-clause-moments g c = λ told R done m.
    let f = payload_in c.args.book.now.bank c.args.book.now.plan 1 in
    let old = c.args.moving.now in
    let mid = c.read_old.new.moving in
    let places = c.read_old.ensures.places in
    let here : IsMovingWith (map f R) (map payload_of done) (g.D.Disk.content mid.disk) mid.waiting (g.D.Disk.accounts mid.disk) mid.gate mid.end =
    moving_same (map f R) (map payload_of done) (g.D.Disk.content old.disk) (g.D.Disk.content mid.disk) old.waiting mid.waiting (g.D.Disk.accounts old.disk) (g.D.Disk.accounts mid.disk) old.gate mid.gate old.end mid.end
    (c.read_old.ensures.content told) c.read_old.ensures.waiting (c.read_old.ensures.accounts told) places.0 places.1 m.moving in
    subst (λ (a : List Account). AtEachMoment a (g.D.Disk.accounts c.add_record.new.moving.disk) (IsImageOrUnmoved (latest a) (map f R))) (c.read_old.ensures.accounts told)
    (c.add_record.ensures.moments (c.read_old.ensures.frame.tells ∙ told) (map f R) (map payload_of done) here)

pub returns-clause-why : goal.returns-clause-why
returns-clause-why g c = λ told R done m short.
    let b = c.args.book.now.bank in
    let plan = c.args.book.now.plan in
    let old = c.args.moving.now in
    let mid = c.read_old.new.moving in
    let content = g.D.Disk.content old.disk in
    let accounts = g.D.Disk.accounts old.disk in
    let entries = c.args.book.now.entries in
    let n = next_moved b plan R done content old.waiting accounts old.gate old.end entries c.args.at m c.requires.before in
    let f = payload_in b plan 1 in
    let now = c.take_over.new.book.entries in
    let second = c.in-Ok-take_over.second.items in
    let payload : c.deref.result.now ≡ f n.next =
    c.deref.ensures.value ∙ c.in-Ok.ensures.payload told (map f done) (map f n.after) (map payload_of done) (f n.next)
    (subst (λ (ps : List (List ℕ)). IsMovingWith ps (map payload_of done) content old.waiting accounts old.gate old.end) n.payloads m.moving) m.place in
    let taken : IsTakenOver b plan entries (f n.next) now second =
    subst (λ (p : List ℕ). IsTakenOver b plan entries p now second) payload c.in-Ok-take_over.ensures.taken in
    let spelled = c.deref-2.ensures.value ∙ second_next b plan R done content old.waiting accounts old.gate old.end entries c.args.at m n now second taken in
    let places = c.read_old.ensures.places in
    c.in-Err-add_record.ensures.why
    (room_then b plan R done content old.waiting accounts old.gate old.end entries c.args.at m n c.deref-2.result.now mid.end old.limit mid.limit spelled places.1 places.2 short)

-- the record is added
pub add_record-requires-clause-moving : goal.add_record-requires-clause-moving
add_record-requires-clause-moving g c = λ told1.
    let told = sym c.read_old.ensures.frame.tells ∙ told1 in
    let b = c.args.book.now.bank in
    let plan = c.args.book.now.plan in
    let some = c.requires.so_far told in
    let m = some.2 in
    let old = c.args.moving.now in
    let mid = c.read_old.new.moving in
    let places = c.read_old.ensures.places in
    let ps = map (payload_in b plan 1) some.0 in
    let qs = map payload_of some.1 in
    let here : IsMovingWith ps qs (g.D.Disk.content mid.disk) mid.waiting (g.D.Disk.accounts mid.disk) mid.gate mid.end =
    moving_same ps qs (g.D.Disk.content old.disk) (g.D.Disk.content mid.disk) old.waiting mid.waiting (g.D.Disk.accounts old.disk) (g.D.Disk.accounts mid.disk) old.gate mid.gate old.end mid.end
    (c.read_old.ensures.content told) c.read_old.ensures.waiting (c.read_old.ensures.accounts told) places.0 places.1 m.moving in
    (ps, qs, here, moving b plan g.D.Disk.may_become c.requires.allows m.H some.0 m.are)
