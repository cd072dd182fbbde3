use Rattle.std.proofs.Common.{◌++◌, [], IsTrue, arith, refl, sym, ◌∙◌, append-nil}
use Rattle.std.specs.Option.{option_copied}
use Rattle.exam_http.specs.Serving.{begun, one_more, unchanged}
use Rattle.exam_http.proofs.AfterMessages.{joined, leads_through, may_go_on}
use Rattle.exam_http.proofs.serve.serve_all.Goals as goal

pub messages-init : goal.messages-init
messages-init g c = record {
  leads = unchanged;
  served = λ tells. ([], sym (append-nil _), begun);
  allows = λ said was. was;
  frame = record { grows = omega arith; tells = refl; identity = refl };
}

pub messages-preserved : goal.messages-preserved
messages-preserved g c =
    let frame = c.messages.invariant.frame in
    let last = c.in-Answered.ensures.frame in
    record {
      leads = leads_through g.H.Handler.does g.H.Handler.probes g.H.Handler.idles _ _ _ c.messages.invariant.leads c.in-Answered.ensures.leads;
      served = λ tells.
          let told : IsTrue (g.K.Link.tells c.messages.link) = rw frame.tells tells in
          let before = c.messages.invariant.served tells in
          let now = c.in-Answered.ensures.after told in
          (before.0 ++ now.0, joined _ _ _ before.0 now.0 before.1 now.1, one_more before.0 _ now.0 _ _ _ before.2 now.2);
      allows = λ said was. c.in-Answered.ensures.allows said (c.messages.invariant.allows said was);
      frame = record {
        grows = omega (arith, frame.grows, last.grows);
        tells = last.tells ∙ frame.tells;
        identity = last.identity ∙ frame.identity;
      };
    }

pub returns-in-Over-clause-leads : goal.returns-in-Over-clause-leads
returns-in-Over-clause-leads g c =
    leads_through g.H.Handler.does g.H.Handler.probes g.H.Handler.idles _ _ _ c.messages.invariant.leads c.serve_message.ensures.leads

pub serve_message-requires-clause-allowed : goal.serve_message-requires-clause-allowed
serve_message-requires-clause-allowed g c κs within = λ told.
    let tells : IsTrue (g.K.Link.tells c.args.link.now) = sym c.messages.invariant.frame.tells ∙ told in
    let before = c.messages.invariant.served tells in
    may_go_on (option_copied c.args.terms.now.token) g.H.Handler.does g.H.Handler.probes g.H.Handler.idles
    (g.K.Link.allows c.args.link.now) (g.K.Link.allows c.messages.link) c.args.handler.now c.messages.handler
    _ before.0 _ _ _ (c.requires.allowed tells) c.messages.invariant.allows before.1 before.2
