use Rattle.std.proofs.Common.{◌≡◌, ◌∙◌, List, ℤ, [], length, ap, sym, subst, arith}
use Rattle.ability_grid.specs.Running.{IsSumsOf}
use Rattle.exam_session.proofs.VisitNotes.{first_is}
use Rattle.exam_session.proofs.bands.first_band.Goals as goal

pub returns-clause-band : goal.returns-clause-band
returns-clause-band c = λ b grid.
    let plan = c.args.spec.now in
    let same : b.grid ≡ length c.prior.result.now = grid ∙ ap (λ (prior : List ℤ). length prior) (sym c.prior.ensures) in
    let sums = subst (λ (prior : List ℤ). IsSumsOf b prior [] c.of_prior.result) c.prior.ensures (c.of_prior.ensures.sums b same) in
    let some = c.requires.some in
    first_is b plan c.mode.result c.band.result (omega (arith, grid, some)) (c.mode.ensures.mode b plan.prior [] sums) c.band.ensures.band
