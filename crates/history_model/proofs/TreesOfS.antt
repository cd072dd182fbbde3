-- Bank S: trees that prove the forms of its seat best.
use Rattle.std.proofs.Common.{◌+◌, ◌*◌, inl, inr, false, [], ◌∷◌, pos, Some, refl}
use Rattle.std.proofs.Math.Dec.{lit≤}
use Rattle.bank_tables.specs.Items.{has}
use Rattle.certificate_model.specs.declared.node.Node.TheVariants.{Whole}
use Rattle.certificate_model.specs.declared.verdict.Verdict.TheVariants.{Optimal}
use Rattle.form_model.specs.Forms.{Form, Best, objective}
use Rattle.certificate_model.specs.Paths.{root}
use Rattle.certificate_model.specs.Weights.{item_weight, stimulus_weight, rows_constant}
use Rattle.certificate_model.specs.Relaxed.{link_multiplier, IsRelaxedMaximum}
use Rattle.certificate_model.specs.ClosedForm.{excess_of_items}
use Rattle.certificate_model.specs.ProofTrees.{ProofTree}
use Rattle.certificate_model.specs.Verdicts.{IsVerdict}
use Rattle.form_model.proofs.Computed.{these, these_below, form_is}
use Rattle.certificate_model.proofs.Computed.{maximum_is, at_most, names_sides}
use Rattle.certificate_model.proofs.TreeLaws.{optimal_is_best}
use Rattle.certificate_model.proofs.BankA.{one_bound}
use Rattle.form_model.proofs.BankS.{item_s, bank_s, plan_s}
use Rattle.serving_model.proofs.BankS.{seat_s, seat_0, problem_0, problem_3}

form_0 : Form problem_0 (these (0 ∷ 1 ∷ 3 ∷ 4 ∷ []))
unfolding problem_0 seat_0 seat_s bank_s item_s plan_s has
form_0 = form_is problem_0 (these (0 ∷ 1 ∷ 3 ∷ 4 ∷ [])) (these_below 5 (0 ∷ 1 ∷ 3 ∷ 4 ∷ []) refl) (λ i e. absurd (cc)) refl

maximum_0 : IsRelaxedMaximum problem_0 (root problem_0) [] false (pos 6912)
unfolding problem_0 seat_0 seat_s bank_s item_s plan_s has item_weight stimulus_weight rows_constant link_multiplier excess_of_items
maximum_0 = maximum_is problem_0 (root problem_0) [] false (these (0 ∷ 1 ∷ 3 ∷ 4 ∷ [])) (pos 600) (pos 6912) (these_below 5 (0 ∷ 1 ∷ 3 ∷ 4 ∷ []) refl) refl refl

optimal_0 : IsVerdict problem_0 (Some (these (0 ∷ 1 ∷ 3 ∷ 4 ∷ []))) (one_bound []) Optimal
unfolding one_bound problem_0 seat_0 seat_s bank_s item_s plan_s
optimal_0 =
    inl (
      form_0,
      inl (
        (
          lit≤ tt,
          names_sides problem_0 [] refl,
          at_most problem_0 (root problem_0) [] false (pos 6912) (pos (256 * objective problem_0 (these (0 ∷ 1 ∷ 3 ∷ 4 ∷ [])) + 255)) maximum_0 refl,
        ),
        refl,
      ),
    )

best_0 : Best problem_0 (these (0 ∷ 1 ∷ 3 ∷ 4 ∷ []))
best_0 = optimal_is_best problem_0 (these (0 ∷ 1 ∷ 3 ∷ 4 ∷ [])) (one_bound []) optimal_0

pub form_3 : Form problem_3 (these (0 ∷ 1 ∷ 3 ∷ 4 ∷ []))
unfolding problem_3 seat_s bank_s item_s plan_s has
form_3 = form_is problem_3 (these (0 ∷ 1 ∷ 3 ∷ 4 ∷ [])) (these_below 5 (0 ∷ 1 ∷ 3 ∷ 4 ∷ []) refl) (these_below 5 (0 ∷ 1 ∷ 3 ∷ []) refl) refl

-- one set is left, the items given and item 4: a Whole leaf proves it best
unfoldable pub one_whole : ProofTree
one_whole = record { vectors = []; nodes = Whole ∷ [] }

optimal_3 : IsVerdict problem_3 (Some (these (0 ∷ 1 ∷ 3 ∷ 4 ∷ []))) one_whole Optimal
unfolding one_whole problem_3 seat_s bank_s item_s plan_s has
optimal_3 = inl (form_3, inl (inr (inr (lit≤ tt)), refl))
