-- The next item by computing, for the worked rows.
use Rattle.std.proofs.Common.{◌≡◌, ℕ, Bool, true, not, ◌&&◌, ◌||◌, nat_lt}
use Rattle.std.specs.Prelude.{nat_le}
use Rattle.std.proofs.lemmas.Bool.{and_parts, ltb-true, leb-true}
use Rattle.bank_tables.specs.Items.{Set}
use Rattle.bank_tables.specs.Tables.{size, info}
use Rattle.bank_tables.specs.Validity.{HoldsItems}
use Rattle.form_model.specs.Problem.{Problem}
use Rattle.serving_model.specs.Serving.{is_candidate, IsNext}
use Rattle.form_model.proofs.Computed.{all_below, each_of, implied}

module _ (P : Problem) (X : Set) (item : ℕ) where
  abbrev pub next_test : Bool
  next_test =
      is_candidate P X item
      && (all_below (size P.bank) (λ i. not (is_candidate P X i) || nat_le (info P.bank i P.theta) (info P.bank item P.theta)) && all_below item (λ i. not (is_candidate P X i) || nat_lt (info P.bank i P.theta) (info P.bank item P.theta)))

  pub next_is : HoldsItems P.bank X → next_test ≡ true → IsNext P X item
  next_is items e =
      let parts = and_parts (is_candidate P X item) _ e in
      let rest = and_parts (all_below (size P.bank) (λ i. not (is_candidate P X i) || nat_le (info P.bank i P.theta) (info P.bank item P.theta))) _ parts.1 in
      record {
        candidate = parts.0;
        greatest = λ i c. leb-true _ _ (implied (is_candidate P X i) _ (each_of (size P.bank) (λ i. not (is_candidate P X i) || nat_le (info P.bank i P.theta) (info P.bank item P.theta)) rest.0 i (items i (and_parts (X i) _ (and_parts (X i && not (P.given i)) _ c).0).0)) c);
        lowest = λ i c w. ltb-true _ _ (implied (is_candidate P X i) _ (each_of item (λ i. not (is_candidate P X i) || nat_lt (info P.bank i P.theta) (info P.bank item P.theta)) rest.1 i w) c);
      }
