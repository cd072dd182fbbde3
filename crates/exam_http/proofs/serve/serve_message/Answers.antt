use Rattle.std.proofs.Common.{◌++◌, ℕ, List, IsTrue, ap, subst, sym, ◌∙◌}
use Rattle.std.specs.Option.{option_copied}
use Rattle.wire_http.specs.Messages.{bytes_of, IsMessage}
use Rattle.exam_http.proofs.AfterMessages.{answered_after, may_answer, may_refuse}
use Rattle.exam_http.proofs.serve.serve_message.Goals as goal

pub returns-in-Ok-Some-clause-after : goal.returns-in-Ok-Some-clause-after
returns-in-Ok-Some-clause-after g c tells =
    let told : IsTrue (g.K.Link.tells c.read_request.new.link) = rw c.in-Ok-Some.ensures.frame.tells tells in
    let becomes = c.answer.ensures.becomes told in
    let message = rw c.in-Ok-Some.field-0-is at c.in-Ok-Some.ensures.message in
    let whole = bytes_of c.args.kept.now ++ g.K.Link.left c.args.link.now in
    let kept = bytes_of c.read_request.new.kept in
    let reads : IsMessage whole c.in-Ok-Some.message (kept ++ g.K.Link.left c.answer.new.link) =
    subst (λ (left : List ℕ). IsMessage whole c.in-Ok-Some.message (kept ++ left)) (sym (c.answer.ensures.left told)) (message tells) in (
      becomes.0,
      becomes.1 ∙ ap (λ (x : List ℕ). x ++ becomes.0) (c.in-Ok-Some.ensures.written tells),
      answered_after (option_copied c.args.terms.now.token) g.H.Handler.does g.H.Handler.probes g.H.Handler.idles whole becomes.0 _ c.args.handler.now c.answer.new.handler
          c.in-Ok-Some.message c.answer.result reads becomes.2,
    )

pub answer-requires-clause-allowed : goal.answer-requires-clause-allowed
answer-requires-clause-allowed g c κs within = λ told.
    let read = c.in-Ok-Some.ensures in
    let tells : IsTrue (g.K.Link.tells c.args.link.now) = sym read.frame.tells ∙ told in
    let message = rw c.in-Ok-Some.field-0-is at c.in-Ok-Some.ensures.message in
    may_answer (option_copied c.args.terms.now.token) g.H.Handler.does g.H.Handler.probes g.H.Handler.idles
    (g.K.Link.allows c.args.link.now) (g.K.Link.allows c.read_request.new.link) c.args.handler.now _ _ _ _ c.in-Ok-Some.message
    (c.requires.allowed tells) read.allows (read.written tells) (message tells)

pub refuse-requires : goal.refuse-requires
refuse-requires g c = λ told.
    let read = c.in-Err.ensures in
    let tells : IsTrue (g.K.Link.tells c.args.link.now) = sym read.frame.tells ∙ told in
    may_refuse (option_copied c.args.terms.now.token) g.H.Handler.does g.H.Handler.probes g.H.Handler.idles
    (g.K.Link.allows c.args.link.now) (g.K.Link.allows c.read_request.new.link) c.args.handler.now _ _ _ c.in-Err.fault
    (c.requires.allowed tells) read.allows (read.written tells) (read.fault tells)
