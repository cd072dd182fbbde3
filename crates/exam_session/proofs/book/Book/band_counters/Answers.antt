use Rattle.std.proofs.Common.{◌<◌, length, refl, sym, subst, arith}
use Rattle.std.proofs.lemmas.Option.{slice_get_read}
use Rattle.form_model.specs.Plan.{bands_of}
use Rattle.exam_session.specs.Ledgers.{Ledger}
use Rattle.exam_session.proofs.book.Book.band_counters.Goals as goal

pub returns : goal.returns
returns c =
    let kept = c.self.invariant.11 in
    let tallies = c.self.inside.band_counters.items in
    let below : c.args.band < bands_of c.self.inside.spec.now = subst (λ (book : Ledger). c.args.band < bands_of book.plan) (sym c.self.view_is) c.requires in
    let number = kept.number in
    let within : c.args.band < length tallies = omega arith in
    rw (← c.self.view_is) (kept.each c.args.band c.index.result.now (slice_get_read tallies (length tallies) c.args.band c.index.result.now refl within c.index.ensures))
