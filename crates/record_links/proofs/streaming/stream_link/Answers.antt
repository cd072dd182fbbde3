use Rattle.std.proofs.Common.{◌++◌, [], List, ℕ, IsTrue, arith, refl, sym, ◌∙◌, subst, append-nil}
use Rattle.record_links.specs.Messages.{bytes_of}
use Rattle.record_links.specs.Streaming.{Streams, begun}
use Rattle.record_links.proofs.Growing.{same_grown, grown_on, streams_more, is_streamed}
use Rattle.record_links.proofs.Pieces.{joined}
use Rattle.record_links.proofs.streaming.stream_link.Goals as goal

pub haves-init : goal.haves-init
haves-init g c =
    let R = g.G.GrowingLog.records c.args.log.now in
    let L = g.K.Link.left c.args.link.now in
    record {
      streamed = λ grows told. ([], sym (append-nil _), subst (λ (b : List ℕ). Streams R L [] (b ++ L) R) (sym c.new-kept.ensures) begun);
      grown = λ grows. same_grown R;
      tells = refl;
      faults = omega arith;
      frame = record { grows = omega arith; tells = refl; identity = refl };
    }

pub haves-preserved : goal.haves-preserved
haves-preserved g c =
    let frame = c.haves.invariant.frame in
    let turn = c.in-GoesOn.ensures.frame in
    record {
      streamed = λ grows told.
          let grows1 : IsTrue (g.G.GrowingLog.tells c.haves.log) = rw c.haves.invariant.tells grows in
          let told1 : IsTrue (g.K.Link.tells c.haves.link) = rw frame.tells told in
          let before = c.haves.invariant.streamed grows told in
          let now = c.in-GoesOn.ensures.turns grows1 told1 in (
            before.0 ++ now.0,
            joined _ _ _ before.0 now.0 before.1 now.1,
            streams_more (g.G.GrowingLog.records c.args.log.now) (g.G.GrowingLog.records c.haves.log) (g.G.GrowingLog.records c.stream_message.new.log)
                (g.K.Link.left c.args.link.now) before.0 (bytes_of c.haves.kept ++ g.K.Link.left c.haves.link)
                (bytes_of c.stream_message.new.kept ++ g.K.Link.left c.stream_message.new.link)
                now.2.0 now.0 before.2 (c.in-GoesOn.ensures.grown grows1) now.2.1 now.2.2,
          );
      grown = λ grows.
          let grows1 : IsTrue (g.G.GrowingLog.tells c.haves.log) = rw c.haves.invariant.tells grows in
          grown_on _ _ _ (c.haves.invariant.grown grows) (c.in-GoesOn.ensures.grown grows1);
      tells = c.in-GoesOn.ensures.tells ∙ c.haves.invariant.tells;
      faults = let a = c.haves.invariant.faults in let b = c.in-GoesOn.ensures.grows in omega (arith, a, b);
      frame = record {
        grows = omega (arith, frame.grows, turn.grows);
        tells = turn.tells ∙ frame.tells;
        identity = turn.identity ∙ frame.identity;
      };
    }

pub returns-in-Over-clause-streamed : goal.returns-in-Over-clause-streamed
returns-in-Over-clause-streamed g c grows told =
    let frame = c.haves.invariant.frame in
    let grows1 : IsTrue (g.G.GrowingLog.tells c.haves.log) = rw c.haves.invariant.tells grows in
    let told1 : IsTrue (g.K.Link.tells c.haves.link) = rw frame.tells told in
    let before = c.haves.invariant.streamed grows told in
    let now = c.in-Over.ensures.turns grows1 told1 in (
      before.0 ++ now.0,
      joined _ _ _ before.0 now.0 before.1 now.1,
      is_streamed (g.G.GrowingLog.records c.args.log.now) (g.G.GrowingLog.records c.haves.log) (g.G.GrowingLog.records c.stream_message.new.log)
          (g.K.Link.left c.args.link.now) before.0 (bytes_of c.haves.kept ++ g.K.Link.left c.haves.link) now.0
          c.in-Over.followed before.2 (c.in-Over.ensures.grown grows1) now.2,
    )
