-- What the tests at one path decide.
use Rattle.std.proofs.Common.{◌≡◌, ℕ, ◌<◌, inl, true, nat_lt, refl, arith, Option, Some}
use Rattle.std.proofs.lemmas.Bool.{and_parts, ltb-true}
use Rattle.bank_tables.specs.Tables.{size}
use Rattle.series_model.specs.declared.node.SeriesNode.TheVariants.{Branch, Count, Whole}
use Rattle.series_model.specs.Series.{SeriesProblem, IsSeriesProblem}
use Rattle.series_model.specs.SeriesPaths.{SeriesPath, is_free_in}
use Rattle.series_model.specs.SeriesVerdicts.{IsFormBranch, IsWholePath, IsSettled}
use Rattle.series_outcome.specs.declared.counted.FormRow.{FormRow}
use Rattle.series_outcome.specs.Spending.{IsPossible}
use Rattle.series_outcome.specs.Walks.{IsCounted}
use Rattle.series_outcome.specs.Searches.{IsAsGood, Suits, Ends, GoesOn}
use Rattle.series_outcome.proofs.KnownLaws.{as_good-refl, settled_more}

module _ (Q : SeriesProblem) (p : SeriesPath) where
  pub count_ends : (B : Option ℕ) (which : FormRow) → IsSeriesProblem Q → IsCounted Q p (Some which) → Ends Q p B B (Count which.form which.row)
  count_ends B which is counted =
      record {
        leaf = refl;
        no_branch = λ b. b;
        not_open = refl;
        no_worse = as_good-refl B;
        suits = λ U as_good. record { sound = (counted.0, inl counted.2); spent = tt; number = (omega (arith, counted.0, is.few_forms), counted.1) };
      }

  pub whole_ends : (B C : Option ℕ) → IsWholePath Q p → IsAsGood B C → IsSettled Q C p.taken → Ends Q p B C Whole
  whole_ends B C whole no_worse settled =
      record {
        leaf = refl;
        no_branch = λ b. b;
        not_open = refl;
        no_worse = no_worse;
        suits = λ U as_good. record { sound = (whole, settled_more Q p.taken C U as_good settled); spent = tt; number = tt };
      }

  pub goes_on : (B : Option ℕ) → IsPossible Q p → (IsWholePath Q p → ⊥) → GoesOn Q p B B
  goes_on B possible several = record { same = refl; possible = possible; several = several }

  free_in_bank : (f i : ℕ) → is_free_in Q p f i ≡ true → i < size Q.bank
  free_in_bank f i e = ltb-true i (size Q.bank) (and_parts (nat_lt i (size Q.bank)) _ e).0

  pub branch_suits : (f i : ℕ) → IsSeriesProblem Q → IsPossible Q p → IsFormBranch Q p f i → (U : Option ℕ) → Suits Q U p (Branch f i)
  branch_suits f i is possible branch U = record { sound = branch; spent = possible; number = (omega (arith, branch.form, is.few_forms), omega (arith, free_in_bank f i branch.free, is.bank.few)) }
