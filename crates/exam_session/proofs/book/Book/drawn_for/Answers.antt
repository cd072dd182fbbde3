use Rattle.std.proofs.Common.{List, subst, sym}
use Rattle.exposure_counters.specs.Tallies.{Tally}
use Rattle.exam_session.specs.Kept.{AreCountsByBand}
use Rattle.exam_session.proofs.DrawNotes.{are_drawn, drawn_items}
use Rattle.exam_session.proofs.book.Book.drawn_for.Goals as goal

pub returns-clause-drawn : goal.returns-clause-drawn
returns-clause-drawn c =
    let b = c.self.inside.bank.now in
    let plan = c.self.inside.spec.now in
    let H = c.self.inside.entries in
    let are : AreCountsByBand b plan H c.as_slice.result.now = subst (λ (xs : List Tally). AreCountsByBand b plan H xs) (sym c.as_slice.ensures.value) c.self.invariant.11 in
    rw (← c.self.view_is) (are_drawn b plan H c.as_slice.result.now c.args.session c.draw_bands.result are c.key.result.now c.rate.result c.key.ensures.value c.rate.ensures c.draw_bands.ensures.count c.draw_bands.ensures.drawn c.draw_bands.ensures.past)

pub returns-clause-items : goal.returns-clause-items
returns-clause-items c =
    let b = c.self.inside.bank.now in
    let plan = c.self.inside.spec.now in
    let H = c.self.inside.entries in
    let are : AreCountsByBand b plan H c.as_slice.result.now = subst (λ (xs : List Tally). AreCountsByBand b plan H xs) (sym c.as_slice.ensures.value) c.self.invariant.11 in
    rw (← c.self.view_is) (drawn_items b plan H c.args.session c.draw_bands.result (are_drawn b plan H c.as_slice.result.now c.args.session c.draw_bands.result are c.key.result.now c.rate.result c.key.ensures.value c.rate.ensures c.draw_bands.ensures.count c.draw_bands.ensures.drawn c.draw_bands.ensures.past))
