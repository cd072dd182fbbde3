use Rattle.std.proofs.Common.{◌≤◌, inr, ℕ, List, length, map, ◌∙◌, sym, subst}
use Rattle.exam_edge.specs.Images.{Allows, AtEachMoment, latest}
use Rattle.exam_records.specs.Spelling.{payload_of}
use Rattle.answer_journal.specs.Moving.{IsImageOrUnmoved, IsUnmoved}
use Rattle.answer_journal.specs.Versions.{counted_in}
use Rattle.exam_office.specs.Files.{payload_in, IsImageOrStands}
use Rattle.exam_office.proofs.Allowing.{allowed_by, moving, switching}
use Rattle.exam_office.proofs.MigratingEnds.{listed, listed_by, moments_before, moments_on, moments_switched, number_moved, old_records, started_move}
use Rattle.exam_office.proofs.MigratingFiles.{moved_stands}
use Rattle.exam_office.proofs.MigratingSteps.{moved_by, short_by}
use Rattle.exam_office.proofs.migrating.move_judged.Goals as goal

-- the move can't be started
pub returns-in-Err-start_move-clause-moments_err : goal.returns-in-Err-start_move-clause-moments_err
returns-in-Err-start_move-clause-moments_err g c = λ told H s.
    let b = c.args.bank.now in
    let plan = c.args.spec.now in
    let file = g.D.Disk.content c.args.walk.disk in
    let a0 = g.D.Disk.accounts c.args.walk.disk in
    let a1 = g.D.Disk.accounts c.in-Err-start_move.disk in
    let old = (c.requires.old told).0 in
    moments_before b plan file old H s a0 a1
    (subst (λ (ps : List (List ℕ)). AtEachMoment a0 a1 (IsImageOrUnmoved (latest a0) ps)) (listed b plan file old) (c.in-Err-start_move.ensures.moments_err told))

-- a record is not moved
pub returns-in-Err-move_records-clause-moments_err : goal.returns-in-Err-move_records-clause-moments_err
returns-in-Err-move_records-clause-moments_err g c = λ told H s.
    let b = c.args.bank.now in
    let plan = c.args.spec.now in
    let b1 = c.in-Ok.book.bank in
    let plan1 = c.in-Ok.book.plan in
    let file = g.D.Disk.content c.args.walk.disk in
    let moving = c.in-Ok-start_move.moving in
    let a0 = g.D.Disk.accounts c.args.walk.disk in
    let a1 = g.D.Disk.accounts moving.disk in
    let old = (c.requires.old told).0 in
    let start = started_move b plan file old b1 plan1 c.in-Ok.ensures.bank c.in-Ok.ensures.plan (g.D.Disk.content moving.disk) moving.waiting a1 moving.gate moving.end c.in-Ok.book.entries c.in-Ok.ensures.entries (c.in-Ok-start_move.ensures.moving told) in
    subst (λ (d : g.row.D.Denot). AtEachMoment a0 (g.D.Disk.accounts d) (IsImageOrStands b plan H (latest a0))) (sym c.stop-in-Err-move_records.ensures.disk)
    (moments_before b plan file old H s a0 (g.D.Disk.accounts c.move_records.new.moving.disk)
    (moments_on b plan file old b1 plan1 c.in-Ok.ensures.bank c.in-Ok.ensures.plan a0 a1 (g.D.Disk.accounts c.move_records.new.moving.disk) (c.in-Ok-start_move.ensures.moments told)
    (c.move_records.ensures.moments (c.in-Ok-start_move.ensures.frame.tells ∙ told) old.records start)))

pub returns-in-Err-move_records-clause-why : goal.returns-in-Err-move_records-clause-why
returns-in-Err-move_records-clause-why g c = λ told.
    let b = c.args.bank.now in
    let plan = c.args.spec.now in
    let b1 = c.in-Ok.book.bank in
    let plan1 = c.in-Ok.book.plan in
    let file = g.D.Disk.content c.args.walk.disk in
    let moving = c.in-Ok-start_move.moving in
    let old = (c.requires.old told).0 in
    let start = started_move b plan file old b1 plan1 c.in-Ok.ensures.bank c.in-Ok.ensures.plan (g.D.Disk.content moving.disk) moving.waiting (g.D.Disk.accounts moving.disk) moving.gate moving.end c.in-Ok.book.entries c.in-Ok.ensures.entries (c.in-Ok-start_move.ensures.moving told) in
    c.in-Err-move_records.ensures.why (c.in-Ok-start_move.ensures.frame.tells ∙ told) old.records start
    (short_by b b1 plan plan1 c.in-Ok.ensures.bank c.in-Ok.ensures.plan old.records c.args.walk.limit moving.limit c.in-Ok-start_move.ensures.limit (c.requires.old told).1)

pub returns-in-Err-move_records-clause-kept : goal.returns-in-Err-move_records-clause-kept
returns-in-Err-move_records-clause-kept g c = λ other told.
    let b = c.args.bank.now in
    let plan = c.args.spec.now in
    let b1 = c.in-Ok.book.bank in
    let plan1 = c.in-Ok.book.plan in
    let file = g.D.Disk.content c.args.walk.disk in
    let moving = c.in-Ok-start_move.moving in
    let old = (c.requires.old told).0 in
    let start = started_move b plan file old b1 plan1 c.in-Ok.ensures.bank c.in-Ok.ensures.plan (g.D.Disk.content moving.disk) moving.waiting (g.D.Disk.accounts moving.disk) moving.gate moving.end c.in-Ok.book.entries c.in-Ok.ensures.entries (c.in-Ok-start_move.ensures.moving told) in
    subst (λ (d : g.row.D.Denot). IsUnmoved (counted_in file).payloads (g.D.Disk.content d)) (sym c.stop-in-Err-move_records.ensures.disk)
    (subst (λ (ps : List (List ℕ)). IsUnmoved ps (g.D.Disk.content c.move_records.new.moving.disk)) (listed_by b plan file old b1 plan1 c.in-Ok.ensures.bank c.in-Ok.ensures.plan)
    (c.in-Err-move_records.ensures.kept other (c.in-Ok-start_move.ensures.frame.tells ∙ told) old.records start))

-- all records are moved
pub switch-requires : goal.switch-requires
switch-requires g c = λ here.
    let b = c.args.bank.now in
    let plan = c.args.spec.now in
    let b1 = c.in-Ok.book.bank in
    let plan1 = c.in-Ok.book.plan in
    let file = g.D.Disk.content c.args.walk.disk in
    let moving = c.in-Ok-start_move.moving in
    let told = sym (c.move_records.ensures.frame.tells ∙ c.in-Ok-start_move.ensures.frame.tells) ∙ here in
    let old = (c.requires.old told).0 in
    let start = started_move b plan file old b1 plan1 c.in-Ok.ensures.bank c.in-Ok.ensures.plan (g.D.Disk.content moving.disk) moving.waiting (g.D.Disk.accounts moving.disk) moving.gate moving.end c.in-Ok.book.entries c.in-Ok.ensures.entries (c.in-Ok-start_move.ensures.moving told) in
    let all = c.in-Ok-move_records.ensures.moved (c.in-Ok-start_move.ensures.frame.tells ∙ told) old.records start in
    let allows = allowed_by b b1 plan plan1 c.in-Ok.ensures.bank c.in-Ok.ensures.plan g.D.Disk.may_become c.requires.allows in
    (map (payload_in b1 plan1 1) old.records, map payload_of old.records, all.1.moving, switching b1 plan1 g.D.Disk.may_become allows all.1.H old.records all.1.are)

pub returns-in-Ok-switch-clause-moved : goal.returns-in-Ok-switch-clause-moved
returns-in-Ok-switch-clause-moved g c = λ told.
    let b = c.args.bank.now in
    let plan = c.args.spec.now in
    let b1 = c.in-Ok.book.bank in
    let plan1 = c.in-Ok.book.plan in
    let file = g.D.Disk.content c.args.walk.disk in
    let moving = c.in-Ok-start_move.moving in
    let new = c.move_records.new.moving in
    let told1 = c.in-Ok-start_move.ensures.frame.tells ∙ told in
    let told2 = c.move_records.ensures.frame.tells ∙ told1 in
    let old = (c.requires.old told).0 in
    let start = started_move b plan file old b1 plan1 c.in-Ok.ensures.bank c.in-Ok.ensures.plan (g.D.Disk.content moving.disk) moving.waiting (g.D.Disk.accounts moving.disk) moving.gate moving.end c.in-Ok.book.entries c.in-Ok.ensures.entries (c.in-Ok-start_move.ensures.moving told) in
    let some = c.in-Ok-move_records.ensures.moved told1 old.records start in
    let all = moved_by b1 b plan1 plan (sym c.in-Ok.ensures.bank) (sym c.in-Ok.ensures.plan) old.records old.records (g.D.Disk.content new.disk) new.waiting (g.D.Disk.accounts new.disk) new.gate new.end c.move_records.new.book.entries some.0 some.1 in
    record {
      old = old;
      is = c.in-Ok-switch.ensures.content told2 (map (payload_in b plan 1) old.records) (map payload_of old.records) all.moving;
      settled = c.in-Ok-switch.ensures.settled told2;
      records = c.entries.ensures.number ∙ number_moved old.records c.move_records.new.book.entries all.entries_are;
    }

pub returns-in-Ok-switch-clause-stands : goal.returns-in-Ok-switch-clause-stands
returns-in-Ok-switch-clause-stands g c = λ told H s.
    let b = c.args.bank.now in
    let plan = c.args.spec.now in
    let b1 = c.in-Ok.book.bank in
    let plan1 = c.in-Ok.book.plan in
    let file = g.D.Disk.content c.args.walk.disk in
    let moving = c.in-Ok-start_move.moving in
    let told1 = c.in-Ok-start_move.ensures.frame.tells ∙ told in
    let told2 = c.move_records.ensures.frame.tells ∙ told1 in
    let old = (c.requires.old told).0 in
    let start = started_move b plan file old b1 plan1 c.in-Ok.ensures.bank c.in-Ok.ensures.plan (g.D.Disk.content moving.disk) moving.waiting (g.D.Disk.accounts moving.disk) moving.gate moving.end c.in-Ok.book.entries c.in-Ok.ensures.entries (c.in-Ok-start_move.ensures.moving told) in
    let all = c.in-Ok-move_records.ensures.moved told1 old.records start in
    moved_stands b plan H old.records (old_records b plan file old H s) (g.D.Disk.content c.in-Ok-switch.disk)
    (c.in-Ok-switch.ensures.moved told2 (map (payload_in b1 plan1 1) old.records) (map payload_of old.records) all.1.moving)

pub returns-in-Ok-switch-clause-limit : goal.returns-in-Ok-switch-clause-limit
returns-in-Ok-switch-clause-limit g c = λ told.
    let b = c.args.bank.now in
    let plan = c.args.spec.now in
    let b1 = c.in-Ok.book.bank in
    let plan1 = c.in-Ok.book.plan in
    let file = g.D.Disk.content c.args.walk.disk in
    let moving = c.in-Ok-start_move.moving in
    let new = c.move_records.new.moving in
    let told1 = c.in-Ok-start_move.ensures.frame.tells ∙ told in
    let told2 = c.move_records.ensures.frame.tells ∙ told1 in
    let old = (c.requires.old told).0 in
    let start = started_move b plan file old b1 plan1 c.in-Ok.ensures.bank c.in-Ok.ensures.plan (g.D.Disk.content moving.disk) moving.waiting (g.D.Disk.accounts moving.disk) moving.gate moving.end c.in-Ok.book.entries c.in-Ok.ensures.entries (c.in-Ok-start_move.ensures.moving told) in
    let some = c.in-Ok-move_records.ensures.moved told1 old.records start in
    let all = moved_by b1 b plan1 plan (sym c.in-Ok.ensures.bank) (sym c.in-Ok.ensures.plan) old.records old.records (g.D.Disk.content new.disk) new.waiting (g.D.Disk.accounts new.disk) new.gate new.end c.move_records.new.book.entries some.0 some.1 in
    subst (λ (f : List ℕ). length f ≤ c.args.walk.limit) (sym (c.in-Ok-switch.ensures.content told2 (map (payload_in b plan 1) old.records) (map payload_of old.records) all.moving)) (c.requires.old told).1

pub returns-in-Ok-switch-clause-moments : goal.returns-in-Ok-switch-clause-moments
returns-in-Ok-switch-clause-moments g c = λ told H s.
    let b = c.args.bank.now in
    let plan = c.args.spec.now in
    let b1 = c.in-Ok.book.bank in
    let plan1 = c.in-Ok.book.plan in
    let file = g.D.Disk.content c.args.walk.disk in
    let moving = c.in-Ok-start_move.moving in
    let new = c.move_records.new.moving in
    let a0 = g.D.Disk.accounts c.args.walk.disk in
    let a1 = g.D.Disk.accounts moving.disk in
    let a2 = g.D.Disk.accounts new.disk in
    let told1 = c.in-Ok-start_move.ensures.frame.tells ∙ told in
    let told2 = c.move_records.ensures.frame.tells ∙ told1 in
    let old = (c.requires.old told).0 in
    let start = started_move b plan file old b1 plan1 c.in-Ok.ensures.bank c.in-Ok.ensures.plan (g.D.Disk.content moving.disk) moving.waiting a1 moving.gate moving.end c.in-Ok.book.entries c.in-Ok.ensures.entries (c.in-Ok-start_move.ensures.moving told) in
    let some = c.in-Ok-move_records.ensures.moved told1 old.records start in
    let all = moved_by b1 b plan1 plan (sym c.in-Ok.ensures.bank) (sym c.in-Ok.ensures.plan) old.records old.records (g.D.Disk.content new.disk) new.waiting a2 new.gate new.end c.move_records.new.book.entries some.0 some.1 in
    moments_switched b plan file old H s a0 a2 (g.D.Disk.accounts c.in-Ok-switch.disk)
    (moments_on b plan file old b1 plan1 c.in-Ok.ensures.bank c.in-Ok.ensures.plan a0 a1 a2 (c.in-Ok-start_move.ensures.moments told) (c.move_records.ensures.moments told1 old.records start))
    (c.in-Ok-switch.ensures.moments told2 (map (payload_in b plan 1) old.records) (map payload_of old.records) all.moving)

-- the disk failed at the switch
pub returns-clause-moments_err : goal.returns-clause-moments_err
returns-clause-moments_err g c = λ told H s.
    let b = c.args.bank.now in
    let plan = c.args.spec.now in
    let b1 = c.in-Ok.book.bank in
    let plan1 = c.in-Ok.book.plan in
    let file = g.D.Disk.content c.args.walk.disk in
    let moving = c.in-Ok-start_move.moving in
    let new = c.move_records.new.moving in
    let a0 = g.D.Disk.accounts c.args.walk.disk in
    let a1 = g.D.Disk.accounts moving.disk in
    let a2 = g.D.Disk.accounts new.disk in
    let told1 = c.in-Ok-start_move.ensures.frame.tells ∙ told in
    let told2 = c.move_records.ensures.frame.tells ∙ told1 in
    let old = (c.requires.old told).0 in
    let start = started_move b plan file old b1 plan1 c.in-Ok.ensures.bank c.in-Ok.ensures.plan (g.D.Disk.content moving.disk) moving.waiting a1 moving.gate moving.end c.in-Ok.book.entries c.in-Ok.ensures.entries (c.in-Ok-start_move.ensures.moving told) in
    let some = c.in-Ok-move_records.ensures.moved told1 old.records start in
    let all = moved_by b1 b plan1 plan (sym c.in-Ok.ensures.bank) (sym c.in-Ok.ensures.plan) old.records old.records (g.D.Disk.content new.disk) new.waiting a2 new.gate new.end c.move_records.new.book.entries some.0 some.1 in
    moments_switched b plan file old H s a0 a2 (g.D.Disk.accounts c.in-Err-switch.disk)
    (moments_on b plan file old b1 plan1 c.in-Ok.ensures.bank c.in-Ok.ensures.plan a0 a1 a2 (c.in-Ok-start_move.ensures.moments told) (c.move_records.ensures.moments told1 old.records start))
    (c.in-Err-switch.ensures.moments_err told2 (map (payload_in b plan 1) old.records) (map payload_of old.records) all.moving)

pub returns-clause-aside_err : goal.returns-clause-aside_err
returns-clause-aside_err g c = λ told.
    let told1 = c.in-Ok-start_move.ensures.frame.tells ∙ told in
    inr (c.in-Err-switch.ensures.aside_err (c.move_records.ensures.frame.tells ∙ told1) ∙ (c.move_records.ensures.aside told1 ∙ c.in-Ok-start_move.ensures.aside told))

-- what the disk allows
pub start_move-requires-clause-comes : goal.start_move-requires-clause-comes
start_move-requires-clause-comes g c = λ told.
    let b = c.args.bank.now in
    let plan = c.args.spec.now in
    let file = g.D.Disk.content c.args.walk.disk in
    let old = (c.requires.old told).0 in
    subst (λ (ps : List (List ℕ)). Allows g.D.Disk.may_become (IsUnmoved ps) (IsUnmoved ps)) (sym (listed b plan file old))
    (moving b plan g.D.Disk.may_become c.requires.allows old.H old.records old.are)

pub move_records-requires-clause-allows : goal.move_records-requires-clause-allows
move_records-requires-clause-allows g c =
    allowed_by c.args.bank.now c.in-Ok.book.bank c.args.spec.now c.in-Ok.book.plan c.in-Ok.ensures.bank c.in-Ok.ensures.plan g.D.Disk.may_become c.requires.allows
