-- The exposure of a history, from the counts that a book keeps.
use Rattle.std.proofs.Common.{◌≡◌, ℕ, ◌+◌, ◌<◌, ◌≤◌, List, [], ◌∷◌, ◌++◌, length, take, slice_get, get_or, Some, sym, ap, ◌∙◌, subst}
use Rattle.std.proofs.lemmas.List.{take_more, take_all}
use Rattle.std.proofs.lemmas.Option.{slice_get-get_or}
use Rattle.bank_tables.specs.Tables.{Tables}
use Rattle.form_model.specs.Plan.{Plan}
use Rattle.exposure_counters.specs.Tallies.{Tally, no_counts}
use Rattle.history_model.specs.declared.counts.Counts.{Counts}
use Rattle.history_model.specs.declared.entry.Entry.{Entry}
use Rattle.history_model.specs.declared.request.Exposure.{Exposure}
use Rattle.history_model.specs.Requests.{IsExposureOf}
use Rattle.exam_session.specs.Kept.{AreCounts}

pub exposed : (b : Tables) (plan : Plan) (H : List Entry) (tally : Tally) (exposure : Exposure) → AreCounts b plan H tally → exposure.finished ≡ tally.finished → exposure.rows ≡ tally.counts → IsExposureOf b plan H exposure
exposed b plan H tally exposure are finished rows = record {
  finished_is = finished ∙ are.finished;
  number = ap length rows ∙ are.number;
  each = λ i low.
      let there : i < length tally.counts = subst (λ (n : ℕ). i < n) (sym are.number) low in
      ap (λ (cs : List Counts). slice_get cs i) rows ∙ (slice_get-get_or tally.counts i no_counts there ∙ ap Some (are.each i low));
}

-- ---- the rows, one after another
pub row_more : (cs : List Counts) (i : ℕ) → i < length cs → take (i + 1) cs ≡ take i cs ++ get_or cs i no_counts ∷ []
row_more cs i low = take_more cs i no_counts low

pub rows_end : (cs : List Counts) (i : ℕ) → length cs ≤ i → take i cs ≡ cs
rows_end cs i high = take_all i cs high
