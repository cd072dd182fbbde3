use Rattle.std.proofs.Common.{◌/◌, refl}
use Rattle.bank_tables.specs.Items.{has, Set}
use Rattle.certificate_check.proofs.TopLaws.{empty_top, more_top, none_left, leaders_small, leaders_with}
use Rattle.certificate_check.proofs.top.top_of.Goals as goal
use Rattle.certificate_check.proofs.top.top_of.Goals.{in-Some, in_default}

pub loop-round-init : goal.loop-round-init
loop-round-init c = record { top = empty_top c.args.n c.args.weights.now (has c.args.free.now) (has c.empty-top.result) c.empty-top.ensures; leaders = c.leaders_of-leaders.ensures }

pub first_leader-requires-clause-items : goal.first_leader-requires-clause-items
first_leader-requires-clause-items c = leaders_small c.args.n c.args.weights.now (has c.args.free.now) (has c.loop-round.top) c.loop-round.leaders c.requires.few c.loop-round.invariant.leaders

pub loop-round-preserved : goal.loop-round-preserved
loop-round-preserved c =
    let n = c.args.n in
    let xs = c.args.weights.now in
    let F : Set = has c.args.free.now in
    let T : Set = has c.loop-round.top in
    elim c.match-first_leader.branch [
      | in-Some w ↦
          rw (w.top-is, w.leaders-is)
          (record {
            top = more_top n xs F T (has w.with-top.result) c.loop-round._round w.in-Some.best c.loop-round.invariant.top (w.in-Some.ensures.best F T c.loop-round.invariant.leaders) w.with-top.ensures;
            leaders = leaders_with n xs F T (has w.with-top.result) c.loop-round.leaders w.in-Some.best (w.in-Some.best / 16) w.leader.result refl w.in-Some.ensures.item w.with-top.ensures c.loop-round.invariant.leaders w.leader.ensures;
          })
      | in_default w ↦ absurd (none_left n xs F T c.loop-round._round c.args.k c.loop-round.invariant.top (w.in_default.ensures.best F T c.loop-round.invariant.leaders) c.loop-round-test.true c.requires.enough)
    ]
