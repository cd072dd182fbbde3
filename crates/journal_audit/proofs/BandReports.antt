-- The exposure in a band, from the counts that a book keeps of it.
use Rattle.std.proofs.Common.{◌≡◌, ℕ, zero, suc, ◌<◌, List, [], ◌∷◌, ◌++◌, length, slice_get, Some, sym, ap, ◌∙◌, subst}
use Rattle.std.proofs.lemmas.Option.{slice_get-get_or}
use Rattle.bank_tables.specs.Tables.{Tables}
use Rattle.form_model.specs.Plan.{Plan}
use Rattle.exposure_counters.specs.Tallies.{Tally, no_counts}
use Rattle.history_model.specs.declared.counts.Counts.{Counts}
use Rattle.history_model.specs.declared.entry.Entry.{Entry}
use Rattle.history_model.specs.declared.request.Exposure.{Exposure}
use Rattle.exam_session.specs.Kept.{AreBandCounts}
use Rattle.journal_audit.specs.Audit.{IsBandExposureOf}

pub exposed_in_band : (b : Tables) (plan : Plan) (H : List Entry) (band : ℕ) (tally : Tally) (exposure : Exposure)
    → AreBandCounts b plan H band tally → exposure.finished ≡ tally.finished → exposure.rows ≡ tally.counts
    → IsBandExposureOf b plan H band exposure
exposed_in_band b plan H band tally exposure are finished rows = record {
  visited_is = finished ∙ are.finished;
  number = ap length rows ∙ are.number;
  each = λ i low.
      let there : i < length tally.counts = subst (λ (n : ℕ). i < n) (sym are.number) low in
      ap (λ (cs : List Counts). slice_get cs i) rows ∙ (slice_get-get_or tally.counts i no_counts there ∙ ap Some (are.each i low));
}

-- ---- the bands, one after another
-- what is true of each element, and of one more at its place, is true of each element of the longer
-- list
each_more : {X : Type 0} (P : ℕ → X → Type 0) (xs : List X) (y : X)
    → ((k : ℕ) (x : X) → slice_get xs k ≡ Some x → P k x) → P (length xs) y
    → (k : ℕ) (x : X) → slice_get (xs ++ y ∷ []) k ≡ Some x → P k x
each_more P [] y all last zero x e = let same : y ≡ x = cc in subst (P 0) same last
each_more P [] y all last (suc k) x e = absurd (cc)
each_more P (z ∷ xs) y all last zero x e = all 0 x e
each_more P (z ∷ xs) y all last (suc k) x e =
    each_more (λ j w. P (suc j) w) xs y (λ j w is. all (suc j) w is) last k x e

pub band_more : (b : Tables) (plan : Plan) (H : List Entry) (bands : List Exposure) (n : ℕ) (exposure : Exposure)
    → length bands ≡ n
    → ((k : ℕ) (x : Exposure) → slice_get bands k ≡ Some x → IsBandExposureOf b plan H k x)
    → IsBandExposureOf b plan H n exposure
    → (k : ℕ) (x : Exposure) → slice_get (bands ++ exposure ∷ []) k ≡ Some x → IsBandExposureOf b plan H k x
band_more b plan H bands n exposure number each last =
    each_more (λ k x. IsBandExposureOf b plan H k x) bands exposure each
    (subst (λ (m : ℕ). IsBandExposureOf b plan H m exposure) (sym number) last)
