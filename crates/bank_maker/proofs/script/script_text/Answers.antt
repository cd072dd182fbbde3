use Rattle.std.proofs.Common.{◌≡◌, ◌∙◌, ℕ, List, ◌++◌, ◌∷◌, [], length, ap, arith, append_assoc, get_or}
use Rattle.replay_cli.specs.Scripts.{request_line}
use Rattle.bank_maker.specs.declared.act.Act.TheVariants.{Begins}
use Rattle.bank_maker.specs.Scripts.{request_at}
use Rattle.bank_maker.proofs.ScriptLaws.{one_act, last_act}
use Rattle.bank_maker.proofs.script.script_text.Goals as goal

pub loop-act-preserved : goal.loop-act-preserved
loop-act-preserved c = one_act _ c.loop-act.out.items c.push.new.self.items c.loop-act.draws.state c.request_at-request.new.draws.state c.args.acts.now c.loop-act.act-index _ c.loop-act-test.true c.loop-act.invariant
    (c.in_ok-push.ensures.items ∙ ap (λ (t : List ℕ). t ++ 10 ∷ []) (c.in_ok-extend_from_slice.ensures.items
    ∙ ap (λ (t : List ℕ). c.loop-act.out.items ++ t) (c.deref.ensures.value ∙ (c.in_ok-request_line.ensures ∙ ap request_line c.request_at-request.ensures.request)))
    ∙ append_assoc c.loop-act.out.items (request_line (request_at c.loop-act.draws.state (get_or c.args.acts.now c.loop-act.act-index (Begins 0)))) (10 ∷ []))
    c.request_at-request.ensures.state

pub returns : goal.returns
returns c = let e : c.loop-act.act-index ≡ length c.args.acts.now = omega arith in last_act _ c.loop-act.out.items c.loop-act.draws.state c.args.acts.now c.loop-act.act-index e c.loop-act.invariant
