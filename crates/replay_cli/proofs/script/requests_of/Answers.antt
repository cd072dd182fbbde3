use Rattle.std.proofs.Common.{ℕ, ◌<◌, List, length, map}
use Rattle.std.proofs.lemmas.Result.{err_from_is_err_and}
use Rattle.std.proofs.lemmas.List.{length-map}
use Rattle.exam_text.proofs.Firsts.{each_fails_or}
use Rattle.replay_cli.specs.declared.script_fault.ScriptFault.TheVariants.{Memory}
use Rattle.replay_cli.specs.Reading.{request_at, requests_of}
use Rattle.replay_cli.proofs.script.requests_of.Goals as goal

pub returns-in_err-request_of : goal.returns-in_err-request_of
unfolding requests_of
returns-in_err-request_of c =
    let p = err_from_is_err_and c.from_residual.result c.from_residual.ensures.1 in
    let lines : List (List ℕ) = map (λ w. w.now) c.args.lines.now in
    let i : ℕ = c.loop-i.i in
    let lt : i < length lines = rw length-map c.loop-i-test.true in
    let here = rw c.word_at.ensures at c.in_err-request_of.ensures in
    rw (p.1, p.2) (each_fails_or Memory (length lines) i (request_at lines) c.loop-i.requests.items c.in_err-request_of.field-0.0 c.loop-i.invariant lt here)
