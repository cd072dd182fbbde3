-- Used items are items of the bank.
use Rattle.std.proofs.Common.{ℕ, ◌<◌, arith, nat_lt}
use Rattle.std.proofs.lemmas.Bool.{and_parts, ltb-true}
use Rattle.bank_tables.specs.Tables.{size}
use Rattle.form_model.proofs.SumLaws.{any_elim}
use Rattle.series_model.specs.Series.{SeriesProblem, IsSeriesProblem}
use Rattle.series_model.specs.SeriesPaths.{SeriesPath, is_free_in}
use Rattle.series_model.specs.SeriesVerdicts.{IsUseBranch}

-- an item that may be used is below 512
pub use_within : (Q : SeriesProblem) (p : SeriesPath) (i : ℕ) → IsSeriesProblem Q → IsUseBranch Q p i → i < 512
use_within Q p i is branch =
    let (f, w, e) = any_elim Q.forms (λ f. is_free_in Q p f i) branch.live in
    let low : i < size Q.bank = ltb-true i (size Q.bank) (and_parts (nat_lt i (size Q.bank)) _ e).0 in
    omega (arith, low, is.bank.few)
