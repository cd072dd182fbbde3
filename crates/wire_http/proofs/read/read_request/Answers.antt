use Rattle.std.proofs.Common.{rules, ◌∙◌}
use Rattle.std.proofs.lemmas.Result.{err_from_is_err_and}
use Rattle.wire_http.proofs.read.read_request.Goals as goal

pub returns-in_err-head-clause-fault : goal.returns-in_err-head-clause-fault
returns-in_err-head-clause-fault g c =
    let p = err_from_is_err_and c.from_residual.result c.from_residual.ensures.1 in
    rw (p.1, p.2) c.in_err-head.ensures.fault

pub returns-in_err-message_of-in-Some-clause-fault : goal.returns-in_err-message_of-in-Some-clause-fault
returns-in_err-message_of-in-Some-clause-fault g c =
    let error = c.from_residual-in_err-message_of-in-Some in
    let p = err_from_is_err_and error.result error.ensures.1 in
    let head = c.in_ok-head.ensures in
    rw (p.1, p.2) (λ told. rw (← head.left told) (c.in_err-message_of-in-Some.ensures.fault (head.frame.tells ∙ told)))

pub returns-in_ok-message_of-in-Some-clause-message : goal.returns-in_ok-message_of-in-Some-clause-message
returns-in_ok-message_of-in-Some-clause-message g c told =
    let head = c.in_ok-head.ensures in
    rw (← head.left told) (c.in_ok-message_of-in-Some.ensures.message (head.frame.tells ∙ told))

pub returns-in-None-clause-none : goal.returns-in-None-clause-none
returns-in-None-clause-none g c = search rules
