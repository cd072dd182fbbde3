use Rattle.std.proofs.Common.{ℕ, List, [], ◌∷◌, ◌++◌, map, refl, sym, ◌∙◌, subst, arith}
use Rattle.exam_edge.specs.Images.{AtEachMoment, latest}
use Rattle.history_model.specs.Judging.{Record}
use Rattle.exam_records.specs.Spelling.{payload_of}
use Rattle.answer_journal.specs.Moving.{IsImageOrUnmoved, IsUnmoved}
use Rattle.exam_office.specs.Files.{payload_in}
use Rattle.exam_office.specs.Migrating.{IsMovedUpTo}
use Rattle.exam_office.proofs.Allowing.{allowed_by}
use Rattle.exam_office.proofs.MigratingFiles.{moving_on, moving_still, moving_unmoved}
use Rattle.exam_office.proofs.MigratingSteps.{all_moved, moved_by, old_by, short_by}
use Rattle.exam_office.proofs.migrating.move_records.Goals as goal

pub records-init : goal.records-init
records-init g c = record {
  bank = refl;
  plan_is = refl;
  gate_is = refl;
  limit = refl;
  moved = λ told R start. ([], start);
  moments = λ told R start. moving_still (map (payload_in c.args.book.now.bank c.args.book.now.plan 1) R) (g.D.Disk.accounts c.args.moving.now.disk);
  aside = λ told. refl;
  frame = record { grows = omega arith; tells = refl; identity = refl };
}

pub move_record-requires-clause-so_far : goal.move_record-requires-clause-so_far
move_record-requires-clause-so_far g c = λ here.
    let i = c.records.invariant in
    let told = sym i.frame.tells ∙ here in
    let now = c.records.moving in
    let start = c.requires.start told in
    let so = i.moved told start.0 start.1 in (
      start.0,
      so.0,
      moved_by c.args.book.now.bank c.records.book.bank c.args.book.now.plan c.records.book.plan i.bank i.plan_is start.0 so.0 (g.D.Disk.content now.disk) now.waiting (g.D.Disk.accounts now.disk) now.gate now.end c.records.book.entries c.records.at so.1,
    )

pub records-preserved : goal.records-preserved
records-preserved g c =
    let i = c.records.invariant in
    let b = c.args.book.now.bank in
    let plan = c.args.book.now.plan in
    let b1 = c.records.book.bank in
    let plan1 = c.records.book.plan in
    let now = c.records.moving in
    let new = c.move_record.new.moving in
    record {
      bank = c.move_record.ensures.bank ∙ i.bank;
      plan_is = c.move_record.ensures.plan ∙ i.plan_is;
      gate_is = c.move_record.ensures.places.0 ∙ i.gate_is;
      limit = c.move_record.ensures.places.1 ∙ i.limit;
      moved = λ told R start.
          let so = i.moved told R start in
          let next = c.in-Ok.ensures.moved (i.frame.tells ∙ told) R so.0
          (moved_by b b1 plan plan1 i.bank i.plan_is R so.0 (g.D.Disk.content now.disk) now.waiting (g.D.Disk.accounts now.disk) now.gate now.end c.records.book.entries c.records.at so.1) in (
            so.0 ++ next.0 ∷ [],
            moved_by b1 b plan1 plan (sym i.bank) (sym i.plan_is) R (so.0 ++ next.0 ∷ []) (g.D.Disk.content new.disk) new.waiting (g.D.Disk.accounts new.disk) new.gate new.end c.move_record.new.book.entries c.in-Ok.next next.1,
          );
      moments = λ told R start.
          let so = i.moved told R start in
          moving_on (map (payload_in b plan 1) R) (g.D.Disk.accounts c.args.moving.now.disk) (g.D.Disk.accounts now.disk) (g.D.Disk.accounts new.disk) (i.moments told R start)
          (subst (λ (ps : List (List ℕ)). AtEachMoment (g.D.Disk.accounts now.disk) (g.D.Disk.accounts new.disk) (IsImageOrUnmoved (latest (g.D.Disk.accounts now.disk)) ps)) (old_by b b1 plan plan1 i.bank i.plan_is R)
          (c.move_record.ensures.moments (i.frame.tells ∙ told) R so.0
          (moved_by b b1 plan plan1 i.bank i.plan_is R so.0 (g.D.Disk.content now.disk) now.waiting (g.D.Disk.accounts now.disk) now.gate now.end c.records.book.entries c.records.at so.1)));
      aside = λ told. c.move_record.ensures.aside (i.frame.tells ∙ told) ∙ i.aside told;
      frame = record {
        grows = omega (arith, i.frame.grows, c.move_record.ensures.frame.grows);
        tells = c.move_record.ensures.frame.tells ∙ i.frame.tells;
        identity = c.move_record.ensures.frame.identity ∙ i.frame.identity;
      };
    }

-- a record is not moved
pub returns-in-Err-clause-moments : goal.returns-in-Err-clause-moments
returns-in-Err-clause-moments g c = λ told R start.
    let i = c.records.invariant in
    let b = c.args.book.now.bank in
    let plan = c.args.book.now.plan in
    let b1 = c.records.book.bank in
    let plan1 = c.records.book.plan in
    let now = c.records.moving in
    let new = c.move_record.new.moving in
    let so = i.moved told R start in
    moving_on (map (payload_in b plan 1) R) (g.D.Disk.accounts c.args.moving.now.disk) (g.D.Disk.accounts now.disk) (g.D.Disk.accounts new.disk) (i.moments told R start)
    (subst (λ (ps : List (List ℕ)). AtEachMoment (g.D.Disk.accounts now.disk) (g.D.Disk.accounts new.disk) (IsImageOrUnmoved (latest (g.D.Disk.accounts now.disk)) ps)) (old_by b b1 plan plan1 i.bank i.plan_is R)
    (c.move_record.ensures.moments (i.frame.tells ∙ told) R so.0
    (moved_by b b1 plan plan1 i.bank i.plan_is R so.0 (g.D.Disk.content now.disk) now.waiting (g.D.Disk.accounts now.disk) now.gate now.end c.records.book.entries c.records.at so.1)))

pub returns-in-Err-clause-kept : goal.returns-in-Err-clause-kept
returns-in-Err-clause-kept g c = λ other told R start.
    let i = c.records.invariant in
    let ps = map (payload_in c.args.book.now.bank c.args.book.now.plan 1) R in
    let now = c.records.moving in
    let so = i.moved told R start in
    subst (IsUnmoved ps) (sym (c.in-Err.ensures.kept other (i.frame.tells ∙ told)))
    (moving_unmoved ps (map payload_of so.0) (g.D.Disk.content now.disk) now.waiting (g.D.Disk.accounts now.disk) now.gate now.end so.1.moving)

pub returns-in-Err-clause-why : goal.returns-in-Err-clause-why
returns-in-Err-clause-why g c = λ told R start short.
    let i = c.records.invariant in
    let b = c.args.book.now.bank in
    let plan = c.args.book.now.plan in
    let b1 = c.records.book.bank in
    let plan1 = c.records.book.plan in
    let now = c.records.moving in
    let so = i.moved told R start in
    c.in-Err.ensures.why (i.frame.tells ∙ told) R so.0
    (moved_by b b1 plan plan1 i.bank i.plan_is R so.0 (g.D.Disk.content now.disk) now.waiting (g.D.Disk.accounts now.disk) now.gate now.end c.records.book.entries c.records.at so.1)
    (short_by b b1 plan plan1 i.bank i.plan_is R c.args.moving.now.limit now.limit i.limit short)

-- all are moved
pub returns-clause-moved : goal.returns-clause-moved
returns-clause-moved g c = λ told R start.
    let i = c.records.invariant in
    let b = c.args.book.now.bank in
    let plan = c.args.book.now.plan in
    let now = c.records.moving in
    let so = i.moved told R start in
    let content = g.D.Disk.content now.disk in
    let accounts = g.D.Disk.accounts now.disk in
    let all = all_moved b plan R so.0 content now.waiting accounts now.gate now.end c.records.book.entries c.records.at so.1 (omega (arith, c.records-test.false, i.gate_is, c.requires.gate)) in
    (c.records.at, subst (λ (done : List Record). IsMovedUpTo b plan R done content now.waiting accounts now.gate now.end c.records.book.entries c.records.at) (sym all) so.1)

pub move_record-requires-clause-allows : goal.move_record-requires-clause-allows
move_record-requires-clause-allows g c =
    let i = c.records.invariant in
    allowed_by c.args.book.now.bank c.records.book.bank c.args.book.now.plan c.records.book.plan i.bank i.plan_is g.D.Disk.may_become c.requires.allows
