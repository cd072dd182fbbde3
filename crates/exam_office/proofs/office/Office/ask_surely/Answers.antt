use Rattle.std.proofs.Common.{sym, subst}
use Rattle.history_model.specs.declared.place.Place.TheVariants.{Pending}
use Rattle.history_model.specs.declared.request.Reply.{Reply}
use Rattle.exam_office.specs.Asking.{IsAskedSurely}
use Rattle.exam_office.proofs.Asked.{durable_on, led_and_served}
use Rattle.exam_office.proofs.Led.{waits_so, done_so, placed_so}
use Rattle.exam_office.proofs.office.Office.ask_surely.Goals as goal

pub serve_pending-found-requires-clause-pending : goal.serve_pending-found-requires-clause-pending
serve_pending-found-requires-clause-pending g c =
    let old = c.args.self.now in
    let mid = c.lead-first.new.self in
    let r = waits_so old mid c.requires c.args.request.now c.witness_for-witness.result c.lead-first.result c.in-At.session c.in-At.place c.in-At.fresh c.in-Pending.field-0 c.lead-first.ensures c.in-At.is c.in-Pending.is in
    (c.in-Pending.field-0, r.stands)

pub serve_pending-found-requires-clause-durable : goal.serve_pending-found-requires-clause-durable
serve_pending-found-requires-clause-durable g c =
    let old = c.args.self.now in
    let mid = c.lead-first.new.self in
    let r = waits_so old mid c.requires c.args.request.now c.witness_for-witness.result c.lead-first.result c.in-At.session c.in-At.place c.in-At.fresh c.in-Pending.field-0 c.lead-first.ensures c.in-At.is c.in-Pending.is in
    durable_on old mid r.steps.same r.lasts

pub returns-in-Pending : goal.returns-in-Pending
returns-in-Pending g c =
    let old = c.args.self.now in
    let asked = c.args.request.now in
    let mid = c.lead-first.new.self in
    let new = c.serve_pending-found.new.self in
    let s = c.in-At.session in
    let fresh = c.in-At.fresh in
    let r = waits_so old mid c.requires asked c.witness_for-witness.result c.lead-first.result s c.in-At.place fresh c.in-Pending.field-0 c.lead-first.ensures c.in-At.is c.in-Pending.is in
    let t = c.serve_pending-found.ensures in
    subst (λ (x : Reply). IsAskedSurely old asked x new) (sym c.replied.ensures)
    (led_and_served asked old mid new s fresh r.steps r.leading r.lasts t.steps c.serve_pending-found.result t.served t.at t.settled)

-- the session doesn't wait for an item
pub returns-in_default-place : goal.returns-in_default-place
returns-in_default-place g c =
    placed_so c.args.self.now c.lead-first.new.self c.requires c.args.request.now c.witness_for-witness.result c.lead-first.result c.in-At.session c.in-At.place c.in-At.fresh c.lead-first.ensures c.in-At.is c.in_default-place.not-Pending

-- a reply without a place
pub returns-in_default : goal.returns-in_default
returns-in_default g c =
    done_so c.args.self.now c.lead-first.new.self c.requires c.args.request.now c.witness_for-witness.result c.lead-first.result c.lead-first.ensures (λ s k fresh e. c.in_default.not-At s (Pending k) fresh e)
