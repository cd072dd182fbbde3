use Rattle.std.proofs.Common.{◌≡◌, rules, inr, refl, subst}
use Rattle.std.specs.Option.{option_copied}
use Rattle.std.specs.Prelude.{Result, Ok}
use Rattle.exam_http.specs.Replies.{reply_text}
use Rattle.exam_http.specs.declared.asked.Asked.{Asked}
use Rattle.exam_http.specs.declared.asked.Asked.TheVariants as ask
use Rattle.exam_http.specs.declared.message_fault.MessageFault.{MessageFault}
use Rattle.exam_http.specs.Asks.{Asks}
use Rattle.exam_http.proofs.AfterMessages.{on_err, some_text}
use Rattle.exam_http.proofs.serve.respond.Goals as goal

pub returns-in-Ok-Request-clause-memory : goal.returns-in-Ok-Request-clause-memory
returns-in-Ok-Request-clause-memory g c =
    let is : c.in-Ok.asked ≡ Ok (ask.Request c.in-Ok-Request.request) = (search rules) in
    let asks = subst (λ (a : Result Asked MessageFault). Asks (option_copied c.args.terms.now.token) c.args.message.now a) is c.in-Ok.ensures in
    on_err c.reply_text.result _ (inr (
      reply_text c.handle-reply.result c.args.message.now.close,
      record {
        asked = Ok (ask.Request c.in-Ok-Request.request);
        asks = asks;
        gets = (c.handle-reply.result, c.handle-reply.ensures.does, refl);
      },
    ))

pub returns-in-Ok-Health-clause-memory : goal.returns-in-Ok-Health-clause-memory
returns-in-Ok-Health-clause-memory g c =
    let is : c.in-Ok.asked ≡ Ok ask.Health = (search rules) in
    let asks = subst (λ (a : Result Asked MessageFault). Asks (option_copied c.args.terms.now.token) c.args.message.now a) is c.in-Ok.ensures in
    let text = some_text c.probe-found.result c.args.message.now.close in
    on_err c.found_text.result _ (inr (
      text.0,
      record {
        asked = Ok ask.Health;
        asks = asks;
        gets = (c.probe-found.result, c.probe-found.ensures.probes, text.1);
      },
    ))
