use Rattle.std.proofs.Common.{◌≡◌, arith, inr, sym, ◌∙◌}
use Rattle.std.specs.Prelude.{Ok}
use Rattle.std.proofs.lemmas.Result.{err_from_is_err_and}
use Rattle.wire_http.specs.Heads.{body_length}
use Rattle.wire_http.specs.Messages.{bytes_of}
use Rattle.wire_http.proofs.HeadLaws.{size_is, head_fault, not_of_link, is_head, fits_whole, body_fault, message_is}
use Rattle.wire_http.proofs.read.message_of.Goals as goal

pub returns-in_err-end-clause-fault : goal.returns-in_err-end-clause-fault
returns-in_err-end-clause-fault g c =
    let p = err_from_is_err_and c.from_residual.result c.from_residual.ensures.1 in
    let kept = bytes_of c.args.kept.now in
    let left = g.K.Link.left c.args.link.now in
    let found = c.requires in
    let head = is_head kept left c.args.head found.0 found.1 found.2 in
    rw (p.1, p.2) (λ _. inr (head_fault _ found.0 _ _ head (sym found.1.body ∙ c.in_err-end.was)))

pub returns-in_err-end-clause-failed : goal.returns-in_err-end-clause-failed
returns-in_err-end-clause-failed g c =
    let p = err_from_is_err_and c.from_residual.result c.from_residual.ensures.1 in
    rw (p.1, p.2) (λ e. absurd (not_of_link c.requires.0 _ (sym c.requires.1.body ∙ c.in_err-end.was) e))

pub overflow_add-end : goal.overflow_add-end
overflow_add-end g c =
    let size = size_is c.requires.0 c.in_ok-end.field-0 (sym c.requires.1.body ∙ c.in_ok-end.was) in
    let len = c.requires.2 in
    omega (arith, size, len)

pub returns-in_err-fill-clause-fault : goal.returns-in_err-fill-clause-fault
returns-in_err-fill-clause-fault g c =
    let p = err_from_is_err_and c.from_residual-in_err-fill.result c.from_residual-in_err-fill.ensures.1 in
    let kept = bytes_of c.args.kept.now in
    let left = g.K.Link.left c.args.link.now in
    let found = c.requires in
    let head = is_head kept left c.args.head found.0 found.1 found.2 in
    let announced = sym found.1.body ∙ c.in_ok-end.was in
    let fits = fits_whole kept left c.args.head found.0 found.1 in
    let fault = c.in_err-fill.ensures.fault in
    rw (p.1, p.2) (λ tells. body_fault _ found.0 c.args.head.len c.in_ok-end.field-0 _ head announced fits (fault tells))

pub returns-clause-message : goal.returns-clause-message
returns-clause-message g c tells =
    let found = c.requires in
    let e : body_length found.0 ≡ Ok c.in_ok-end.field-0 = sym found.1.body ∙ c.in_ok-end.was in
    let head = is_head (bytes_of c.args.kept.now) (g.K.Link.left c.args.link.now) c.args.head found.0 found.1 found.2 in
    let filled = c.in_ok-fill.ensures in
    let body = c.in_ok-body.ensures in
    message_is _ (bytes_of c.fill.new.kept) (g.K.Link.left c.fill.new.link) (bytes_of c.take.new.self) found.0 c.args.head.len
    c.in_ok-end.field-0 _ head e (filled.left tells) filled.enough body.left found.1.method found.1.path found.1.authorization body.taken found.1.close
