use Rattle.std.proofs.Common.{List, ℕ, ap, ◌∙◌}
use Rattle.std.proofs.lemmas.Result.{IfOk-from_err}
use Rattle.wire_http.specs.Heads.{path_of}
use Rattle.wire_http.proofs.head.head_of.Goals as goal

pub returns-in_err-path-clause-len : goal.returns-in_err-path-clause-len
returns-in_err-path-clause-len c = IfOk-from_err c.from_residual.result _ c.from_residual.ensures.0

pub returns-in_err-path-clause-method : goal.returns-in_err-path-clause-method
returns-in_err-path-clause-method c = IfOk-from_err c.from_residual.result _ c.from_residual.ensures.0

pub returns-in_err-path-clause-path : goal.returns-in_err-path-clause-path
returns-in_err-path-clause-path c = IfOk-from_err c.from_residual.result _ c.from_residual.ensures.0

pub returns-in_err-path-clause-body : goal.returns-in_err-path-clause-body
returns-in_err-path-clause-body c = IfOk-from_err c.from_residual.result _ c.from_residual.ensures.0

pub returns-in_err-path-clause-close : goal.returns-in_err-path-clause-close
returns-in_err-path-clause-close c = IfOk-from_err c.from_residual.result _ c.from_residual.ensures.0

pub returns-clause-path : goal.returns-clause-path
returns-clause-path c =
    let path = c.in_ok-path.ensures.items_if_clones_equal (λ _ _ e. e) in
    path ∙ c.path_of.ensures ∙ ap (λ (l : List ℕ). path_of l) c.of.ensures

pub returns-in_err-path-clause-authorization : goal.returns-in_err-path-clause-authorization
returns-in_err-path-clause-authorization c = IfOk-from_err c.from_residual.result _ c.from_residual.ensures.0

pub returns-clause-authorization : goal.returns-clause-authorization
returns-clause-authorization c =
    let kept = c.in_ok-authorization.ensures.items_if_clones_equal (λ _ _ e. e) in
    kept ∙ c.authorization_of.ensures
