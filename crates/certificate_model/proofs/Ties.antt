-- Ties: two forms of the same objective are both best.
use Rattle.std.proofs.Common.{◌+◌, ◌*◌, inl, false, [], ◌∷◌, pos, Some, refl}
use Rattle.std.proofs.Math.Dec.{lit≤}
use Rattle.bank_tables.specs.Items.{has}
use Rattle.certificate_model.specs.declared.verdict.Verdict.TheVariants.{Optimal}
use Rattle.form_model.specs.Forms.{Form, Best, objective}
use Rattle.certificate_model.specs.Paths.{root}
use Rattle.certificate_model.specs.Weights.{item_weight, stimulus_weight, rows_constant}
use Rattle.certificate_model.specs.Relaxed.{link_multiplier, IsRelaxedMaximum}
use Rattle.certificate_model.specs.ClosedForm.{excess_of_items}
use Rattle.certificate_model.specs.Verdicts.{IsVerdict}
use Rattle.form_model.proofs.Computed.{these, these_below, form_is}
use Rattle.certificate_model.proofs.Computed.{maximum_is, at_most, names_sides}
use Rattle.certificate_model.proofs.TreeLaws.{optimal_is_best}
use Rattle.certificate_model.proofs.BankA.{one_bound}
use Rattle.form_model.proofs.Ties.{item_t, bank_t, plan_t, problem_t}

form_01 : Form problem_t (these (0 ∷ 1 ∷ []))
unfolding problem_t bank_t item_t plan_t has
form_01 = form_is problem_t (these (0 ∷ 1 ∷ [])) (these_below 3 (0 ∷ 1 ∷ []) refl) (λ i e. absurd (cc)) refl

form_02 : Form problem_t (these (0 ∷ 2 ∷ []))
unfolding problem_t bank_t item_t plan_t has
form_02 = form_is problem_t (these (0 ∷ 2 ∷ [])) (these_below 3 (0 ∷ 2 ∷ []) refl) (λ i e. absurd (cc)) refl

plain_t : IsRelaxedMaximum problem_t (root problem_t) [] false (pos 2560)
unfolding problem_t bank_t item_t plan_t has item_weight stimulus_weight rows_constant link_multiplier excess_of_items
plain_t = maximum_is problem_t (root problem_t) [] false (these (0 ∷ 1 ∷ [])) (pos 1280) (pos 2560) (these_below 3 (0 ∷ 1 ∷ []) refl) refl refl

-- the plain bound proves both best
optimal_01 : IsVerdict problem_t (Some (these (0 ∷ 1 ∷ []))) (one_bound []) Optimal
unfolding one_bound problem_t bank_t item_t plan_t
optimal_01 = inl (form_01, inl ((lit≤ tt, names_sides problem_t [] refl, at_most problem_t (root problem_t) [] false (pos 2560) (pos (256 * objective problem_t (these (0 ∷ 1 ∷ [])) + 255)) plain_t refl), refl))

optimal_02 : IsVerdict problem_t (Some (these (0 ∷ 2 ∷ []))) (one_bound []) Optimal
unfolding one_bound problem_t bank_t item_t plan_t
optimal_02 = inl (form_02, inl ((lit≤ tt, names_sides problem_t [] refl, at_most problem_t (root problem_t) [] false (pos 2560) (pos (256 * objective problem_t (these (0 ∷ 2 ∷ [])) + 255)) plain_t refl), refl))

both_best : Best problem_t (these (0 ∷ 1 ∷ [])) × Best problem_t (these (0 ∷ 2 ∷ []))
both_best = (optimal_is_best problem_t (these (0 ∷ 1 ∷ [])) (one_bound []) optimal_01, optimal_is_best problem_t (these (0 ∷ 2 ∷ [])) (one_bound []) optimal_02)
