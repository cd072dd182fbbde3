use Rattle.std.proofs.Common.{ℕ, List, [], inl, inr, refl, sym, subst, append-nil}
use Rattle.std.specs.Option.{option_copied}
use Rattle.exam_edge.specs.Allowing.{MayWrite}
use Rattle.exam_http.specs.Serving.{LeadsTo, unchanged, then_idle}
use Rattle.exam_http.proofs.AfterMessages.{may_respond, response_leads}
use Rattle.exam_http.proofs.serve.answer.Goals as goal

pub returns-in-Err-clause-becomes : goal.returns-in-Err-clause-becomes
returns-in-Err-clause-becomes g c tells = (
  [],
  sym (append-nil _),
  (
    refl,
    elim c.in-Err.ensures.memory [
      | inl same ↦ inl (same, refl)
      | inr asked ↦ inr (asked.0, (asked.0, refl), asked.1)
    ],
  ),
)

pub returns-in-Err-clause-leads : goal.returns-in-Err-clause-leads
returns-in-Err-clause-leads g c =
    elim c.in-Err.ensures.memory [
      | inl same ↦ subst (λ h. LeadsTo g.H.Handler.does g.H.Handler.probes g.H.Handler.idles c.args.handler.now h) (sym same) unchanged
      | inr asked ↦ response_leads (option_copied c.args.terms.now.token) g.H.Handler.does g.H.Handler.probes g.H.Handler.idles c.args.handler.now c.args.message.now asked.0 c.respond.new.handler asked.1
    ]

pub returns-in-Err-write_all-clause-leads : goal.returns-in-Err-write_all-clause-leads
returns-in-Err-write_all-clause-leads g c =
    response_leads (option_copied c.args.terms.now.token) g.H.Handler.does g.H.Handler.probes g.H.Handler.idles c.args.handler.now c.args.message.now c.in-Ok.text.items c.respond.new.handler c.in-Ok.ensures.response

pub returns-then-message-clause-leads : goal.returns-then-message-clause-leads
returns-then-message-clause-leads g c =
    then_idle c.respond.new.handler c.idle.new.self
    (response_leads (option_copied c.args.terms.now.token) g.H.Handler.does g.H.Handler.probes g.H.Handler.idles c.args.handler.now c.args.message.now c.in-Ok.text.items c.respond.new.handler c.in-Ok.ensures.response)
    c.idle.ensures

pub returns-clause-leads : goal.returns-clause-leads
returns-clause-leads g c =
    then_idle c.respond.new.handler c.idle.new.self
    (response_leads (option_copied c.args.terms.now.token) g.H.Handler.does g.H.Handler.probes g.H.Handler.idles c.args.handler.now c.args.message.now c.in-Ok.text.items c.respond.new.handler c.in-Ok.ensures.response)
    c.idle.ensures

pub write_all-requires : goal.write_all-requires
write_all-requires g c = λ tells.
    subst (λ (l : List ℕ). MayWrite (g.K.Link.allows c.args.link.now) (g.K.Link.written c.args.link.now) l) (sym c.deref.ensures.value)
    (may_respond (option_copied c.args.terms.now.token) g.H.Handler.does g.H.Handler.probes g.H.Handler.idles (g.K.Link.allows c.args.link.now)
    c.args.handler.now c.args.message.now (g.K.Link.written c.args.link.now) c.in-Ok.text.items c.respond.new.handler
    (c.requires.allowed tells) c.in-Ok.ensures.response)
