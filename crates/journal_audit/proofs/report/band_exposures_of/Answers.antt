use Rattle.std.proofs.Common.{◌≡◌, ℕ, List, [], ◌∷◌, ◌++◌, Some, length, slice_get, sym, ap, subst, arith}
use Rattle.std.proofs.lemmas.List.{length-append}
use Rattle.history_model.specs.declared.request.Exposure.{Exposure}
use Rattle.journal_audit.specs.Audit.{IsBandExposureOf}
use Rattle.journal_audit.proofs.BandReports.{band_more}
use Rattle.journal_audit.proofs.report.band_exposures_of.Goals as goal

pub loop-band-preserved : goal.loop-band-preserved
loop-band-preserved c =
    let b = c.args.book.now.bank in
    let plan = c.args.book.now.plan in
    let H = c.args.book.now.entries in
    let old = c.loop-band.bands.items in
    let next = c.in_ok-band_exposure_of.field-0 in
    let number = c.loop-band.invariant.number in
    let items : c.push.new.self.items ≡ old ++ next ∷ [] = c.in_ok-push.ensures.items in
    record {
      number = omega (arith, number, ap length items, length-append old (next ∷ []));
      each = subst (λ (xs : List Exposure). (k : ℕ) (x : Exposure) → slice_get xs k ≡ Some x → IsBandExposureOf b plan H k x) (sym items)
          (band_more b plan H old c.loop-band.band next number c.loop-band.invariant.each c.in_ok-band_exposure_of.ensures);
    }
