use Rattle.std.proofs.Common.{◌++◌, [], List, ℕ, IsTrue, inr, arith, refl, sym, ap, ◌∙◌, subst, append-nil}
use Rattle.record_links.specs.declared.followed.Turn.TheVariants.{Over}
use Rattle.record_links.specs.Messages.{bytes_of}
use Rattle.record_links.specs.Shipping.{Ships, begun}
use Rattle.record_links.proofs.Pieces.{joined}
use Rattle.record_links.proofs.Sending.{ships_more, is_over, too_many}
use Rattle.record_links.proofs.shipping.ship_link.Goals as goal

pub haves-init : goal.haves-init
haves-init g c =
    let R = g.S.RecordLog.records c.args.log.now in
    let L = g.K.Link.left c.args.link.now in
    record {
      within = omega arith;
      shipped = λ reports told. ([], sym (append-nil _), subst (λ (b : List ℕ). Ships R L 0 [] (b ++ L)) (sym c.new-kept.ensures) begun);
      same = refl;
      tells = refl;
      later = g.met.S.RecordLog.later_itself c.args.log.now;
      faults = omega arith;
      frame = record { grows = omega arith; tells = refl; identity = refl };
    }

pub returns-in-Over-clause-shipped : goal.returns-in-Over-clause-shipped
returns-in-Over-clause-shipped g c reports told =
    let frame = c.haves.invariant.frame in
    let told1 : IsTrue (g.K.Link.tells c.haves.link) = rw frame.tells told in
    let before = c.haves.invariant.shipped reports told in
    let now = c.in-Over.ensures.turns (rw c.haves.invariant.tells reports) told1 in (
      before.0 ++ now.0,
      joined _ _ _ before.0 now.0 before.1 now.1,
      is_over (g.S.RecordLog.records c.args.log.now) (g.S.RecordLog.records c.haves.log) c.haves.invariant.same (g.K.Link.left c.args.link.now) c.haves._read before.0
          (bytes_of c.haves.kept ++ g.K.Link.left c.haves.link) now.0 c.in-Over.followed before.2 (omega arith) now.2,
    )

pub haves-preserved : goal.haves-preserved
haves-preserved g c =
    let frame = c.haves.invariant.frame in
    let turn = c.in-GoesOn.ensures.frame in
    record {
      within = let n = c.count.ensures in omega (arith, n);
      shipped = λ reports told.
          let told1 : IsTrue (g.K.Link.tells c.haves.link) = rw frame.tells told in
          let before = c.haves.invariant.shipped reports told in
          let now = c.in-GoesOn.ensures.turns (rw c.haves.invariant.tells reports) told1 in (
            before.0 ++ now.0,
            joined _ _ _ before.0 now.0 before.1 now.1,
            ships_more (g.S.RecordLog.records c.args.log.now) (g.S.RecordLog.records c.haves.log) c.haves.invariant.same (g.K.Link.left c.args.link.now) c.haves._read before.0
                (bytes_of c.haves.kept ++ g.K.Link.left c.haves.link) (bytes_of c.ship_message.new.kept ++ g.K.Link.left c.ship_message.new.link)
                now.2.0 now.2.1 now.0 before.2 now.2.2 now.2.3 now.2.4,
          );
      same = c.in-GoesOn.ensures.same ∙ c.haves.invariant.same;
      tells = c.in-GoesOn.ensures.tells ∙ c.haves.invariant.tells;
      later = g.met.S.RecordLog.later_still _ _ _ c.haves.invariant.later c.in-GoesOn.ensures.later;
      faults = let a = c.haves.invariant.faults in let b = c.in-GoesOn.ensures.grows in omega (arith, a, b);
      frame = record {
        grows = omega (arith, frame.grows, turn.grows);
        tells = turn.tells ∙ frame.tells;
        identity = turn.identity ∙ frame.identity;
      };
    }

pub returns-clause-shipped : goal.returns-clause-shipped
returns-clause-shipped g c reports told =
    let before = c.haves.invariant.shipped reports told in
    let n = c.count.ensures in
    let within = c.haves.invariant.within in (
      before.0,
      before.1,
      inr (refl, (_, too_many (g.S.RecordLog.records c.args.log.now) (g.K.Link.left c.args.link.now) c.haves._read before.0 _ (omega (arith, n, within)) before.2)),
    )

pub returns-in-Over-clause-later : goal.returns-in-Over-clause-later
returns-in-Over-clause-later g c = g.met.S.RecordLog.later_still _ _ _ c.haves.invariant.later c.in-Over.ensures.later

pub returns-in-Over-clause-lost : goal.returns-in-Over-clause-lost
returns-in-Over-clause-lost g c reports n is = c.in-Over.ensures.lost (rw c.haves.invariant.tells reports) n (ap Over is)
