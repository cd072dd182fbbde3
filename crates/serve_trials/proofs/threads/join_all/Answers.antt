use Rattle.std.proofs.Common.{◌≡◌, ◌∷◌, ◌∙◌}
use Rattle.std.specs.Vec.Iter.{into_iter_items}
use Rattle.std.proofs.lemmas.List.Elements.{All-drop}
use Rattle.serve_trials.proofs.threads.join_all.Goals as goal

pub loop-caller-preserved : goal.loop-caller-preserved
loop-caller-preserved c =
    let at = c.loop-caller in
    let steps : into_iter_items at.caller-iterator ≡ c.in-Some.caller ∷ into_iter_items c.next.new.self = c.in-Some.ensures.steps.0 in
    let all = rw steps at at.invariant.3 in (
      tt,
      tt,
      c.join.ensures.joined.turn ∙ at.invariant.2,
      All-drop (λ d. d.pass.turn ≡ c.args.turn.now) 1 (c.in-Some.caller ∷ into_iter_items c.next.new.self) all,
    )
