-- Bank A goes on: trees that prove the forms of its seat best.
use Rattle.std.proofs.Common.{◌+◌, ◌*◌, inl, false, [], ◌∷◌, pos, Some, refl}
use Rattle.std.proofs.Math.Dec.{lit≤}
use Rattle.bank_tables.specs.Items.{has}
use Rattle.certificate_model.specs.declared.verdict.Verdict.TheVariants.{Optimal}
use Rattle.form_model.specs.Forms.{Form, Best, objective}
use Rattle.certificate_model.specs.Paths.{root}
use Rattle.certificate_model.specs.Weights.{item_weight, stimulus_weight, rows_constant}
use Rattle.certificate_model.specs.Relaxed.{link_multiplier, IsRelaxedMaximum}
use Rattle.certificate_model.specs.ClosedForm.{excess_of_items}
use Rattle.certificate_model.specs.Verdicts.{IsVerdict}
use Rattle.form_model.proofs.Computed.{these, these_below, form_is}
use Rattle.certificate_model.proofs.Computed.{maximum_is, at_most, names_sides}
use Rattle.certificate_model.proofs.TreeLaws.{optimal_is_best}
use Rattle.form_model.proofs.BankA.{item_a, bank_a, plan_of_rows, plan_a}
use Rattle.certificate_model.proofs.BankA.{one_bound}
use Rattle.serving_model.proofs.StepsOfA.{seat_1, problem_1, seat_2, problem_2}

form_1 : Form problem_1 (these (1 ∷ 2 ∷ 4 ∷ []))
unfolding problem_1 seat_1 bank_a item_a plan_of_rows plan_a has
form_1 = form_is problem_1 (these (1 ∷ 2 ∷ 4 ∷ [])) (these_below 6 (1 ∷ 2 ∷ 4 ∷ []) refl) (these_below 6 (2 ∷ []) refl) refl

-- side 0, the lower one of the row on items 0 and 1, by 6 times 256 brings item 1 to the weight of
-- item 3
maximum_1 : IsRelaxedMaximum problem_1 (root problem_1) ((0, 1536) ∷ []) false (pos 3584)
unfolding problem_1 seat_1 bank_a item_a plan_of_rows plan_a has item_weight stimulus_weight rows_constant link_multiplier excess_of_items
maximum_1 = maximum_is problem_1 (root problem_1) ((0, 1536) ∷ []) false (these (1 ∷ 4 ∷ [])) (pos 2048) (pos 3584) (these_below 6 (1 ∷ 4 ∷ []) refl) refl refl

optimal_1 : IsVerdict problem_1 (Some (these (1 ∷ 2 ∷ 4 ∷ []))) (one_bound ((0, 1536) ∷ [])) Optimal
unfolding one_bound problem_1 seat_1 bank_a item_a plan_of_rows plan_a
optimal_1 =
    inl (
      form_1,
      inl (
        (
          lit≤ tt,
          names_sides problem_1 ((0, 1536) ∷ []) refl,
          at_most problem_1 (root problem_1) ((0, 1536) ∷ []) false (pos 3584) (pos (256 * objective problem_1 (these (1 ∷ 2 ∷ 4 ∷ [])) + 255)) maximum_1 refl,
        ),
        refl,
      ),
    )

best_1 : Best problem_1 (these (1 ∷ 2 ∷ 4 ∷ []))
best_1 = optimal_is_best problem_1 (these (1 ∷ 2 ∷ 4 ∷ [])) (one_bound ((0, 1536) ∷ [])) optimal_1

form_2 : Form problem_2 (these (1 ∷ 2 ∷ 4 ∷ []))
unfolding problem_2 seat_2 bank_a item_a plan_of_rows plan_a has
form_2 = form_is problem_2 (these (1 ∷ 2 ∷ 4 ∷ [])) (these_below 6 (1 ∷ 2 ∷ 4 ∷ []) refl) (these_below 6 (2 ∷ 4 ∷ []) refl) refl

-- the plain bound is enough: item 1 has the greatest information that is left
maximum_2 : IsRelaxedMaximum problem_2 (root problem_2) [] false (pos 5376)
unfolding problem_2 seat_2 bank_a item_a plan_of_rows plan_a has item_weight stimulus_weight rows_constant link_multiplier excess_of_items
maximum_2 = maximum_is problem_2 (root problem_2) [] false (these (1 ∷ [])) (pos 2048) (pos 5376) (these_below 6 (1 ∷ []) refl) refl refl

optimal_2 : IsVerdict problem_2 (Some (these (1 ∷ 2 ∷ 4 ∷ []))) (one_bound []) Optimal
unfolding one_bound problem_2 seat_2 bank_a item_a plan_of_rows plan_a
optimal_2 =
    inl (
      form_2,
      inl (
        (
          lit≤ tt,
          names_sides problem_2 [] refl,
          at_most problem_2 (root problem_2) [] false (pos 5376) (pos (256 * objective problem_2 (these (1 ∷ 2 ∷ 4 ∷ [])) + 255)) maximum_2 refl,
        ),
        refl,
      ),
    )

best_2 : Best problem_2 (these (1 ∷ 2 ∷ 4 ∷ []))
best_2 = optimal_is_best problem_2 (these (1 ∷ 2 ∷ 4 ∷ [])) (one_bound []) optimal_2
