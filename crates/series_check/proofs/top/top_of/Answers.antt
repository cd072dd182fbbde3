use Rattle.bank_tables.specs.Items.{has, Set}
use Rattle.certificate_check.proofs.TopLaws.{empty_top, more_top, none_left}
use Rattle.series_check.proofs.top.top_of.Goals as goal
use Rattle.series_check.proofs.top.top_of.Goals.{in-Some, in_default}

pub loop-round-init : goal.loop-round-init
loop-round-init c = empty_top c.args.n c.args.weights.now (has c.args.free.now) (has c.empty-top.result) c.empty-top.ensures

pub loop-round-preserved : goal.loop-round-preserved
loop-round-preserved c =
    let n = c.args.n in
    let xs = c.args.weights.now in
    let F : Set = has c.args.free.now in
    let T : Set = has c.loop-round.top in
    elim c.match-best_of.branch [
      | in-Some w ↦
          rw w.top-is
          (more_top n xs F T (has w.with-top.result) c.loop-round._round w.in-Some.best c.loop-round.invariant w.in-Some.ensures.best w.with-top.ensures)
      | in_default w ↦ absurd (none_left n xs F T c.loop-round._round c.args.k c.loop-round.invariant w.in_default.ensures.best c.loop-round-test.true c.requires.enough)
    ]
