use Rattle.std.proofs.Common.{◌≡◌, ◌∙◌, List, ℤ, [], length, take, ap, sym, subst, arith}
use Rattle.serving_model.specs.Seats.{answers}
use Rattle.ability_grid.specs.Running.{IsSumsOf}
use Rattle.shadow_select.proofs.ShownLaws.{found_at}
use Rattle.exam_session.proofs.VisitNotes.{first_is, band_is, begins, step_noted, all_visited}
use Rattle.exam_session.proofs.bands.visits_of.Goals as goal

pub loop-k-init : goal.loop-k-init
loop-k-init c =
    let b = c.args.bank.now in
    let plan = c.args.spec.now in
    let same_grid : b.grid ≡ length c.prior.result.now = sym c.requires.plan.prior_number ∙ ap (λ (xs : List ℤ). length xs) (sym c.prior.ensures) in
    let sums = subst (λ (prior : List ℤ). IsSumsOf b prior [] c.of_prior-sums.result) c.prior.ensures (c.of_prior-sums.ensures.sums b same_grid) in
    let mode = c.mode.ensures.mode b plan.prior [] sums in
    let within = mode.within in
    record {
      sums = sums;
      visited = begins b plan c.args.seat.now c.visits_from-found.result c.band.result (first_is b plan c.mode.result c.band.result (omega arith) mode c.band.ensures.band) c.visits_from-found.ensures;
    }

pub visit-requires-clause-item : goal.visit-requires-clause-item
visit-requires-clause-item c =
    let within = c.requires.seat.items c.number_at.result (found_at c.args.seat.now.shown c.loop-k.k c.number_at.result c.number_at.ensures) in
    let few = c.items.ensures.bank.few in
    omega arith

pub loop-k-preserved : goal.loop-k-preserved
loop-k-preserved c =
    let b = c.args.bank.now in
    let plan = c.args.spec.now in
    let seat = c.args.seat.now in
    let n = c.loop-k.k in
    let mode = c.mode-in-loop-k.ensures.mode b plan.prior (take n (answers seat)) c.loop-k.invariant.sums in
    let within = mode.within in
    let band = band_is b plan seat n c.mode-in-loop-k.result c.band-in-loop-k.result (omega arith) mode c.band-in-loop-k.ensures.band in
    record {
      sums = c.add_answer.ensures;
      visited = step_noted b plan seat n c.band-in-loop-k.result c.number_at.result c.loop-k.found c.visit.new.visits band c.number_at.ensures c.visit.ensures c.loop-k.invariant.visited;
    }

pub returns : goal.returns
returns c =
    let number = c.len-k-end.ensures.len in
    let high = c.loop-k-test.false in
    let low = c.loop-k.auto.k-end in
    all_visited c.args.bank.now c.args.spec.now c.args.seat.now c.loop-k.k c.loop-k.found (omega arith) c.loop-k.invariant.visited
