use Rattle.std.proofs.Common.{◌≡◌, ◌∙◌, ℕ, length, refl, subst, arith}
use Rattle.exam_program.proofs.ScriptLaws.{IsSoFar, none_so_far, next_so_far, next_stops, all_done, same_on, lent_on}
use Rattle.exam_program.proofs.replay.do_requests.Goals as goal

pub loop-request-init : goal.loop-request-init
loop-request-init g c =
    let old = c.args.alone.now.office in
    record {
      so_far = none_so_far old.bank old.plan old.base c.args.requests.now old (g.O.Sink.tells c.args.out.now) (g.O.Sink.written c.args.out.now) c.requires.durable;
      same = record { bank = refl; plan = refl; base = refl; opened = refl };
      disk = record { grows = omega arith; tells = refl; identity = refl };
      grows = omega arith;
      tells = refl;
    }

pub returns-in-Err-clause-err : goal.returns-in-Err-clause-err
returns-in-Err-clause-err g c =
    let inv = c.loop-request.invariant in
    next_stops c.args.requests.now c.loop-request.request-index c.args.alone.now.office c.loop-request.alone.office c.do_request.new.alone.office (g.O.Sink.tells c.args.out.now) (g.O.Sink.written c.args.out.now) (g.O.Sink.written c.loop-request.out) (g.O.Sink.written c.do_request.new.out) inv.so_far c.request-item.result c.loop-request-test.true c.request-item.is inv.same (g.O.Sink.tells c.loop-request.out) inv.tells c.do_request.ensures.each inv.disk c.do_request.ensures.disk c.in-Err.halt c.in-Err.ensures.err

pub loop-request-preserved : goal.loop-request-preserved
loop-request-preserved g c =
    let inv = c.loop-request.invariant in
    let old = c.args.alone.now.office in
    let cur = c.loop-request.alone.office in
    let new = c.do_request.new.alone.office in
    record {
      so_far = next_so_far c.args.requests.now c.loop-request.request-index old cur new (g.O.Sink.tells c.args.out.now) (g.O.Sink.written c.args.out.now) (g.O.Sink.written c.loop-request.out) (g.O.Sink.written c.do_request.new.out) inv.so_far c.request-item.result c.loop-request-test.true c.request-item.is inv.same (g.O.Sink.tells c.loop-request.out) inv.tells c.do_request.ensures.each inv.disk c.in-Ok.ensures.ok;
      same = same_on old cur new inv.same c.do_request.ensures.same;
      disk = lent_on old.journal cur.journal new.journal inv.disk c.do_request.ensures.disk;
      grows = omega (arith, inv.grows, c.do_request.ensures.grows);
      tells = c.do_request.ensures.tells ∙ inv.tells;
    }

pub returns-clause-ok : goal.returns-clause-ok
returns-clause-ok g c =
    let inv = c.loop-request.invariant in
    let script = c.args.requests.now in
    let old = c.args.alone.now.office in
    let new = c.loop-request.alone.office in
    let told = g.O.Sink.tells c.args.out.now in
    let was = g.O.Sink.written c.args.out.now in
    let now = g.O.Sink.written c.loop-request.out in
    let at_end : c.loop-request.request-index ≡ length script = omega (arith, c.loop-request-test.false, c.loop-request.auto.request-index-end) in
    all_done old.bank old.plan old.base script old new told was now inv.disk.tells (subst (λ (i : ℕ). IsSoFar old.bank old.plan old.base script i old new told was now) at_end inv.so_far)
