use Rattle.std.proofs.Common.{◌≡◌, ◌+◌, ◌∙◌, ap, subst}
use Rattle.serve_trials.specs.Own.{HasRun}
use Rattle.serve_trials.proofs.Places.{both}
use Rattle.serve_trials.proofs.threads.two_threads.Goals as goal

pub returns-then-two : goal.returns-then-two
returns-then-two g c =
    let turn = c.in_ok-turn.turn in
    let a = c.join-a.result.0 in
    let b = c.join-a.result.1 in
    let first : c.split-second.new.pass.number ≡ 0 = ap (λ p. p.number) c.split-second.ensures.pass ∙ ap (λ p. p.number) c.in_ok-turn.ensures in
    let second : c.split-second.result.number ≡ 1 =
    ap (λ p. p.number) c.split-second.ensures.new ∙ ap (λ p. p.splits + 1) c.in_ok-turn.ensures in
    both turn 1000 a.0 b.0 c.join.new.pass c.close-items.result.items.items a.1 b.1
    (subst (λ n. HasRun turn n 1000 a.0 a.1) first c.join-a.ensures.first)
    (subst (λ n. HasRun turn n 1000 b.0 b.1) second c.join-a.ensures.second)
    c.join.ensures.joined c.close-items.ensures.begins c.if-one.true c.if-two.true
