-- A row that is impossible by counting leaves no form on the path.
use Rattle.std.proofs.Common.{◌≡◌, ℕ, zero, suc, ◌+◌, ◌-◌, ◌≤◌, ◌<◌, inl, inr, true, ◌==◌, length, arith, nat_lt}
use Rattle.std.proofs.lemmas.Bool.{ltb-true, ltb-false, and_parts}
use Rattle.bank_tables.specs.Items.{Set}
use Rattle.bank_tables.specs.Tables.{size, stimulus}
use Rattle.form_model.specs.declared.row.Row.{Row}
use Rattle.form_model.specs.declared.row.Row.TheVariants.{Count, Quantity, Enemies, Stimuli}
use Rattle.certificate_model.specs.Counting.{taken_or_free, chosen_or_open, length_impossible, row_impossible, stimulus_impossible, is_impossible}
use Rattle.form_model.specs.Forms.{activity, lower_bound, upper_bound, items_of, stimuli_of, used, size_in}
use Rattle.certificate_model.specs.Paths.{Path, Under, is_chosen}
use Rattle.form_model.specs.Plan.{row_at, bound_at}
use Rattle.form_model.specs.Problem.{Problem}
use Rattle.form_model.proofs.SumLaws.{either, or_true, or_left, or_right, count_some, sum_in-le, either_lt}
use Rattle.certificate_model.proofs.Duality.{held_is_taken_or_free, used_chosen_or_open}

-- more items and more stimuli activity to more
activity-le : (P : Problem) (row : Row) (X Y Z W : Set) → ((i : ℕ) → X i ≡ true → Y i ≡ true) → ((s : ℕ) → 0 < s → s ≤ stimuli_of P.bank → Z s ≡ true → W s ≡ true) → activity P.bank row X Z ≤ activity P.bank row Y W
activity-le P (Count set low high) X Y Z W items stimuli = sum_in-le (size P.bank) X Y _ (λ i w. items i)
activity-le P (Quantity which set low high) X Y Z W items stimuli = sum_in-le (size P.bank) X Y _ (λ i w. items i)
activity-le P (Enemies set) X Y Z W items stimuli = sum_in-le (size P.bank) X Y _ (λ i w. items i)
activity-le P (Stimuli low high) X Y Z W items stimuli = sum_in-le (stimuli_of P.bank) (λ k. Z (suc k)) (λ k. W (suc k)) _ (λ k w. stimuli (suc k) (omega arith) (omega arith))

module _ (P : Problem) (p : Path) (X : Set) (under : Under P p X) where
  pub in_may_hold : (i : ℕ) → X i ≡ true → taken_or_free P p i ≡ true
  in_may_hold i e = elim (held_is_taken_or_free P p X under i e) [ inl taken ↦ or_left _ _ taken | inr free ↦ or_right _ _ free ]

  in_may_use : (s : ℕ) → 0 < s → s ≤ stimuli_of P.bank → used P.bank X s ≡ true → chosen_or_open P p s ≡ true
  in_may_use s first last e = elim (used_chosen_or_open P p X under s e) [ inl chosen ↦ or_left _ _ chosen | inr opened ↦ or_right _ _ opened ]

  row_possible : (r : ℕ) → r < length P.plan.rows → row_impossible P p (row_at P.plan r) ≡ true → ⊥
  row_possible r within impossible =
      let most = activity-le P (row_at P.plan r) p.taken X (is_chosen P p) (used P.bank X) under.holds_taken under.uses_chosen in
      let least = activity-le P (row_at P.plan r) X (taken_or_free P p) (used P.bank X) (chosen_or_open P p) in_may_hold in_may_use in
      let low = (under.form.meets.rows r within).low in
      let high = (under.form.meets.rows r within).high in
      let row = row_at P.plan r in
      elim (either_lt (upper_bound row) (activity P.bank row p.taken (is_chosen P p)) (activity P.bank row (taken_or_free P p) (chosen_or_open P p)) (lower_bound row) impossible) [ inl much ↦ omega arith | inr little ↦ omega arith ]

  length_possible : length_impossible P p ≡ true → ⊥
  length_possible impossible =
      let most = sum_in-le (size P.bank) p.taken X (λ _. 1) (λ i w. under.holds_taken i) in
      let least = sum_in-le (size P.bank) X (taken_or_free P p) (λ _. 1) (λ i w. in_may_hold i) in
      let n_items = under.form.meets.right_length.n_items in
      elim (either_lt P.plan.length (size_in P.bank p.taken) (size_in P.bank (taken_or_free P p)) P.plan.length impossible) [ inl much ↦ omega arith | inr little ↦ omega arith ]

  stimulus_possible : (s : ℕ) → 0 < s → s ≤ stimuli_of P.bank → stimulus_impossible P p s ≡ true → ⊥
  stimulus_possible s first last impossible =
      let most : items_of P.bank s p.taken ≤ items_of P.bank s X = sum_in-le (size P.bank) p.taken X _ (λ i w. under.holds_taken i) in
      let least : items_of P.bank s X ≤ items_of P.bank s (taken_or_free P p) = sum_in-le (size P.bank) X (taken_or_free P p) _ (λ i w. in_may_hold i) in
      let high = (under.form.meets.stimuli s first last).high in
      elim (or_true (nat_lt (bound_at P.plan s).high (items_of P.bank s p.taken)) _ impossible) [
        | inl much ↦ omega (arith, ltb-true (bound_at P.plan s).high (items_of P.bank s p.taken) much)
        | inr little ↦
            let parts = and_parts (is_chosen P p s) (nat_lt (items_of P.bank s (taken_or_free P p)) (bound_at P.plan s).low) little in
            let few : items_of P.bank s (taken_or_free P p) < (bound_at P.plan s).low = ltb-true _ _ parts.1 in
            let some : 0 < items_of P.bank s X = count_some (size P.bank) X (λ i. stimulus P.bank i == s) (and_parts (nat_lt 0 s) _ (under.uses_chosen s first last parts.0)).1 in
            elim ((under.form.meets.stimuli s first last).low) [ inl none ↦ omega arith | inr low ↦ omega arith ]
      ]

  pub impossible_leaves_no_form : (r : ℕ) → is_impossible P p r ≡ true → ⊥
  unfolding is_impossible
  impossible_leaves_no_form zero impossible = length_possible impossible
  impossible_leaves_no_form (suc r) impossible =
      elim (either (nat_lt r (length P.plan.rows))) [
        | inl row ↦ row_possible r (ltb-true _ _ row) (rw row at impossible)
        | inr beyond ↦
            let parts = and_parts (nat_lt r (length P.plan.rows + stimuli_of P.bank)) (stimulus_impossible P p (suc r - length P.plan.rows)) (rw beyond at impossible) in
            let within : r < length P.plan.rows + stimuli_of P.bank = ltb-true _ _ parts.0 in
            let past : length P.plan.rows ≤ r = ltb-false _ _ beyond in
            stimulus_possible (suc r - length P.plan.rows) (omega arith) (omega arith) parts.1
      ]
