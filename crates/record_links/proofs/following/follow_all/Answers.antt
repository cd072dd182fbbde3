use Rattle.std.proofs.Common.{◌++◌, [], ◌∷◌, IsTrue, arith, refl, sym, ◌∙◌, append-nil}
use Rattle.record_links.specs.Following.{begun, stays, one_more}
use Rattle.record_links.proofs.Pieces.{joined}
use Rattle.record_links.proofs.Rules.{same_rule, same_still, takes_then, halts_then, ends_with_then}
use Rattle.record_links.proofs.Taking.{serves_more, ends_so}
use Rattle.record_links.proofs.following.follow_all.Goals as goal

pub messages-init : goal.messages-init
messages-init g c = record {
  rule = same_rule _ _ _;
  later = g.met.F.Replica.later_itself c.args.replica.now;
  goes = stays;
  served = λ tells. ([], [], sym (append-nil _), begun);
  faults = omega arith;
  frame = record { grows = omega arith; tells = refl; identity = refl };
}

pub messages-preserved : goal.messages-preserved
messages-preserved g c =
    let frame = c.messages.invariant.frame in
    let rule = c.messages.invariant.rule in
    let turn = c.in-GoesOn.ensures.frame in
    let step = c.in-GoesOn.ensures.steps in
    record {
      rule = same_still _ _ _ _ _ _ _ _ _ rule c.in-GoesOn.ensures.rule;
      later = g.met.F.Replica.later_still _ _ _ c.messages.invariant.later c.in-GoesOn.ensures.later;
      goes = one_more _ _ step.0 c.messages.invariant.goes (takes_then _ _ _ _ _ _ rule _ step.0 _ step.1);
      served = λ tells.
          let told : IsTrue (g.K.Link.tells c.messages.link) = rw frame.tells tells in
          let before = c.messages.invariant.served tells in
          let now = c.in-GoesOn.ensures.turns told in (
            before.0 ++ now.2.0 ∷ [],
            before.1 ++ now.0,
            joined _ _ _ before.1 now.0 before.2 now.1,
            serves_more (g.F.Replica.may_follow c.args.replica.now) (g.F.Replica.size c.args.replica.now) (g.F.Replica.limit c.args.replica.now)
                _ _ before.0 before.1 _ _ _ _ now.2.0 now.0 before.3 now.2.1 (takes_then _ _ _ _ _ _ rule _ now.2.0 _ now.2.2) now.2.3,
          );
      faults = let a = c.messages.invariant.faults in let b = c.in-GoesOn.ensures.grows in omega (arith, a, b);
      frame = record {
        grows = omega (arith, frame.grows, turn.grows);
        tells = turn.tells ∙ frame.tells;
        identity = turn.identity ∙ frame.identity;
      };
    }

pub returns-in-Over-clause-moved : goal.returns-in-Over-clause-moved
returns-in-Over-clause-moved g c = (
  g.F.Replica.held c.messages.replica,
  c.messages.invariant.goes,
  halts_then _ _ _ _ _ _ c.messages.invariant.rule _ _ c.in-Over.followed c.in-Over.ensures.steps,
)

pub returns-in-Over-clause-followed : goal.returns-in-Over-clause-followed
returns-in-Over-clause-followed g c told =
    let frame = c.messages.invariant.frame in
    let told1 : IsTrue (g.K.Link.tells c.messages.link) = rw frame.tells told in
    let before = c.messages.invariant.served told in
    let now = c.in-Over.ensures.turns told1 in (
      before.1 ++ now.0,
      joined _ _ _ before.1 now.0 before.2 now.1,
      ends_so (g.F.Replica.may_follow c.args.replica.now) (g.F.Replica.size c.args.replica.now) (g.F.Replica.limit c.args.replica.now)
          _ _ _ before.0 before.1 _ now.0 _ c.in-Over.followed before.3
          (ends_with_then _ _ _ _ _ _ c.messages.invariant.rule _ _ now.0 _ c.in-Over.followed now.2),
    )

pub returns-in-Over-clause-rule : goal.returns-in-Over-clause-rule
returns-in-Over-clause-rule g c = same_still _ _ _ _ _ _ _ _ _ c.messages.invariant.rule c.in-Over.ensures.rule

pub returns-in-Over-clause-later : goal.returns-in-Over-clause-later
returns-in-Over-clause-later g c = g.met.F.Replica.later_still _ _ _ c.messages.invariant.later c.in-Over.ensures.later
