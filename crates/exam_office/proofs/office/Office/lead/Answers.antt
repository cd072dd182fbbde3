use Rattle.std.proofs.Common.{refl, sym, subst}
use Rattle.history_model.specs.declared.request.Request.{Request}
use Rattle.exam_office.specs.Leading.{IsLead}
use Rattle.exam_office.specs.Marks.{history}
use Rattle.exam_office.proofs.Led.{booked_is_started}
use Rattle.exam_office.proofs.office.Office.lead.Goals as goal

-- the session that a booking has is started
pub begun_reply-requires : goal.begun_reply-requires
begun_reply-requires g c = booked_is_started c.in-Begin.booking (history c.begin-begun.new.self.marks) c.begin-begun.result c.begin-begun.ensures.session

pub begun_reply-requires-in-BeginWithout : goal.begun_reply-requires-in-BeginWithout
begun_reply-requires-in-BeginWithout g c = booked_is_started c.in-BeginWithout.booking (history c.begin_without-begun.new.self.marks) c.begin_without-begun.result c.begin_without-begun.ensures.session

-- each request, by the clauses of its call
pub returns-in-Begin : goal.returns-in-Begin
returns-in-Begin g c =
    let e = c.begin-begun.ensures in
    subst (λ (q : Request). IsLead q c.args.witness c.args.self.now c.begin-begun.new.self c.begun_reply.result) (sym c.in-Begin.is)
    (record {
      begun = c.begin-begun.result;
      call = record { same = e.same; call = e.call; images = e.images; moments = e.moments; frame = e.frame };
      session = e.session;
      fresh = e.fresh;
      reply_is = c.begun_reply.ensures;
    })

pub returns-in-BeginWithout : goal.returns-in-BeginWithout
returns-in-BeginWithout g c =
    let e = c.begin_without-begun.ensures in
    subst (λ (q : Request). IsLead q c.args.witness c.args.self.now c.begin_without-begun.new.self c.begun_reply-in-BeginWithout.result) (sym c.in-BeginWithout.is)
    (record {
      begun = c.begin_without-begun.result;
      call = record { same = e.same; call = e.call; images = e.images; moments = e.moments; frame = e.frame };
      session = e.session;
      fresh = e.fresh;
      reply_is = c.begun_reply-in-BeginWithout.ensures;
    })

pub returns-in-Answer : goal.returns-in-Answer
returns-in-Answer g c =
    let e = c.answer-found.ensures in
    subst (λ (q : Request). IsLead q c.args.witness c.args.self.now c.answer-found.new.self c.replied.result) (sym c.in-Answer.is)
    (record {
      found = c.answer-found.result;
      call = record { same = e.same; call = e.call; images = e.images; moments = e.moments; frame = e.frame };
      at = e.at;
      reply_is = c.replied.ensures;
    })

pub returns-in-Close : goal.returns-in-Close
returns-in-Close g c =
    let e = c.close-found.ensures in
    subst (λ (q : Request). IsLead q c.args.witness c.args.self.now c.close-found.new.self c.replied-in-Close.result) (sym c.in-Close.is)
    (record {
      found = c.close-found.result;
      call = record { same = e.same; call = e.call; images = e.images; moments = e.moments; frame = e.frame };
      at = e.at;
      reply_is = c.replied-in-Close.ensures;
    })

pub returns-in-Look : goal.returns-in-Look
returns-in-Look g c =
    let e = c.look.ensures in
    subst (λ (q : Request). IsLead q c.args.witness c.args.self.now c.args.self.now c.replied-in-Look.result) (sym c.in-Look.is)
    (refl, record { found = c.look.result; at = e.at; refused = e.refused; reply_is = c.replied-in-Look.ensures })
