use Rattle.std.proofs.Common.{◌≡◌, ◌∙◌, ◌<◌, ℕ, length, slice_get, Some, None, sym, ap, arith}
use Rattle.history_model.specs.declared.place.Place.TheVariants.{Pending, Waiting}
use Rattle.exam_session.specs.KeptSeats.{seat_kept}
use Rattle.exam_session.proofs.KeptLaws.{place_at, list_there, list_past}
use Rattle.exam_session.proofs.kept_seat.KeptSeat.place.Goals as goal

pub overflow_cast-result : goal.overflow_cast-result
overflow_cast-result c = let short = c.requires.responses in let len = c.len-step.ensures in omega arith

pub overflow_cast-result-in-None : goal.overflow_cast-result-in-None
overflow_cast-result-in-None c = let short = c.requires.responses in let len = c.len-step.ensures in omega arith

pub returns-in-Some : goal.returns-in-Some
returns-in-Some c =
    let kept = c.args.self.now in
    let step : c.len-step.result ≡ length kept.responses.items = c.len-step.ensures ∙ kept.responses.ok.0 in
    let below : length kept.responses.items < c.args.spec.now.length = let within = c.if-step-length.false in let limit = c.length.ensures in omega arith in
    let there = list_there kept.shown.items c.deref.result.now c.len-step.result c.get.result c.in-Some.item c.deref.ensures.value c.get.ensures.lookup c.in-Some.is in
    ap (λ (k : ℕ). Waiting k c.in-Some.item.now kept.proved) step
    ∙ sym (place_at c.args.spec.now (seat_kept kept) (Some c.in-Some.item.now) c.if-self.false below (ap (slice_get kept.shown.items) (sym step) ∙ there))

pub returns-in-None : goal.returns-in-None
returns-in-None c =
    let kept = c.args.self.now in
    let step : c.len-step.result ≡ length kept.responses.items = c.len-step.ensures ∙ kept.responses.ok.0 in
    let below : length kept.responses.items < c.args.spec.now.length = let within = c.if-step-length.false in let limit = c.length.ensures in omega arith in
    let past = list_past kept.shown.items c.deref.result.now c.len-step.result c.get.result c.deref.ensures.value c.get.ensures.lookup c.in-None.is in
    ap (λ (k : ℕ). Pending k) step
    ∙ sym (place_at c.args.spec.now (seat_kept kept) None c.if-self.false below (ap (slice_get kept.shown.items) (sym step) ∙ past))
