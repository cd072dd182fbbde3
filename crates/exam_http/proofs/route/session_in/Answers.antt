use Rattle.std.proofs.Common.{◌≡◌, ◌++◌, ℕ, List, codes, ap, ◌∙◌}
use Rattle.std.specs.Fmt.{decimal}
use Rattle.exam_http.proofs.Names.{if_some, with_front, with_back, front_is, no_back}
use Rattle.exam_http.proofs.route.session_in.Goals as goal

pub returns-in-None-strip_suffix-clause-none : goal.returns-in-None-strip_suffix-clause-none
returns-in-None-strip_suffix-clause-none c s le e =
    let p = c.as_slice.result.now in
    let is : c.args.path.now ≡ p ++ (decimal s ++ c.args.tail.now) = rw c.as_slice.ensures e in
    no_back c.args.tail.now c.in-Some.rest.now (decimal s) c.in-None-strip_suffix.ensures.cases
    (front_is p c.args.path.now c.in-Some.rest.now _ c.in-Some.ensures.cases.1 is)

pub returns-in-Some-strip_suffix-clause-some : goal.returns-in-Some-strip_suffix-clause-some
returns-in-Some-strip_suffix-clause-some c =
    let front = with_front c.as_slice.result.now c.args.path.now c.in-Some.rest.now c.in-Some.ensures.cases.0 c.in-Some.ensures.cases.1 in
    let text = c.in-Some-strip_suffix.text.now in
    let cut = c.in-Some-strip_suffix.ensures.cases in
    let back = with_back c.args.tail.now c.in-Some.rest.now text cut.0 cut.1 in
    let whole : c.args.path.now ≡ codes "/sessions/" ++ (c.in-Some-strip_suffix.text.now ++ c.args.tail.now) = front
    ∙ ap (λ (x : List ℕ). c.as_slice.result.now ++ x) back
    ∙ ap (λ (x : List ℕ). x ++ (c.in-Some-strip_suffix.text.now ++ c.args.tail.now)) c.as_slice.ensures in
    if_some c.session_number.result _ _ (λ s h. (
      h.0,
      whole
          ∙ ap (λ (x : List ℕ). codes "/sessions/" ++ (x ++ c.args.tail.now)) h.1,
    )) c.session_number.ensures.some
