use Rattle.std.proofs.Common.{◌≡◌, ◌∙◌, length, refl, ap, subst, arith}
use Rattle.exam_office.specs.Running.{HandedDisk}
use Rattle.bank_tables.specs.Tables.{Tables}
use Rattle.form_model.specs.Plan.{Plan}
use Rattle.history_model.specs.declared.request.Request.{Request}
use Rattle.exam_office.specs.Asking.{IsDurable}
use Rattle.exam_office.specs.Marks.{history}
use Rattle.exam_drill.specs.Leading.{none, IsDoneBy, IsCutShort}
use Rattle.exam_drill.proofs.AskingLaws.{as_first, as_now, same_on, next_leads, next_stops, all_led}
use Rattle.exam_drill.proofs.asking.ask_all.Goals as goal

pub loop-request-init : goal.loop-request-init
loop-request-init c = record {
  leads = none;
  same = record { bank = refl; plan = refl; base = refl; opened = refl };
  durable = c.requires.durable;
  tells = refl;
}

pub ask-requires-clause-durable : goal.ask-requires-clause-durable
ask-requires-clause-durable c =
    let cur = c.loop-request.alone.office in
    as_now (λ (b : Tables) (p : Plan). IsDurable b p cur) c.args.alone.now.office cur c.loop-request.invariant.same c.loop-request.invariant.durable

pub ask-requires-clause-told : goal.ask-requires-clause-told
ask-requires-clause-told c = c.loop-request.invariant.tells ∙ c.requires.told

pub ask-requires-clause-empty : goal.ask-requires-clause-empty
ask-requires-clause-empty c = ap (λ (d : HandedDisk). d.content) c.loop-request.invariant.same.opened ∙ c.requires.empty

pub returns-in-Err-clause-err : goal.returns-in-Err-clause-err
returns-in-Err-clause-err c =
    let inv = c.loop-request.invariant in
    let cur = c.loop-request.alone.office in
    let d : Request = c.request-item.result in
    let short = subst (λ (r : Request). IsCutShort cur.bank cur.plan (history cur.marks) r c.in-Err.fault) c.request-item.is c.in-Err.ensures.err in
    next_stops c.args.requests.now c.loop-request.request-index c.args.alone.now.office cur c.ask.new.alone.office inv.same d c.loop-request-test.true inv.leads c.in-Err.fault short

pub returns-in-Err-clause-same : goal.returns-in-Err-clause-same
returns-in-Err-clause-same c = same_on c.args.alone.now.office c.loop-request.alone.office c.ask.new.alone.office c.loop-request.invariant.same c.ask.ensures.same

pub loop-request-preserved : goal.loop-request-preserved
loop-request-preserved c =
    let inv = c.loop-request.invariant in
    let old = c.args.alone.now.office in
    let cur = c.loop-request.alone.office in
    let new = c.ask.new.alone.office in
    let d : Request = c.request-item.result in
    record {
      leads = next_leads c.args.requests.now c.loop-request.request-index old cur new inv.same d c.loop-request-test.true inv.leads
          (subst (λ (r : Request). IsDoneBy cur.bank cur.plan (history cur.marks) r (history new.marks)) c.request-item.is c.in-Ok.ensures.ok);
      same = same_on old cur new inv.same c.ask.ensures.same;
      durable = as_first (λ (b : Tables) (p : Plan). IsDurable b p new) old cur inv.same c.in-Ok.ensures.durable;
      tells = c.ask.ensures.tells ∙ inv.tells;
    }

pub returns-clause-ok : goal.returns-clause-ok
returns-clause-ok c =
    let old = c.args.alone.now.office in
    let at_end : c.loop-request.request-index ≡ length c.args.requests.now = omega arith in
    all_led old.bank old.plan (history old.marks) (history c.loop-request.alone.office.marks) c.args.requests.now c.loop-request.request-index at_end c.loop-request.invariant.leads
