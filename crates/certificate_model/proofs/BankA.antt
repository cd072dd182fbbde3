-- Bank A: a tree that proves a form best, and one that doesn't.
use Rattle.std.proofs.Common.{◌+◌, ◌*◌, inl, inr, false, [], ◌∷◌, pos, Some, refl}
use Rattle.std.proofs.Math.Dec.{lit≤}
use Rattle.bank_tables.specs.Items.{has}
use Rattle.certificate_model.specs.declared.node.Node.TheVariants.{Bound}
use Rattle.certificate_model.specs.declared.verdict.Reason.TheVariants.{NotClosed}
use Rattle.certificate_model.specs.declared.verdict.Verdict.TheVariants.{Optimal, Bad}
use Rattle.form_model.specs.Forms.{Form, Best, objective}
use Rattle.certificate_model.specs.Paths.{root}
use Rattle.certificate_model.specs.Weights.{item_weight, stimulus_weight, rows_constant}
use Rattle.certificate_model.specs.Relaxed.{Multipliers, link_multiplier, IsRelaxedMaximum}
use Rattle.certificate_model.specs.ClosedForm.{excess_of_items}
use Rattle.certificate_model.specs.ProofTrees.{ProofTree}
use Rattle.certificate_model.specs.Verdicts.{IsVerdict}
use Rattle.form_model.proofs.Computed.{these, these_below, form_is, is_no_form}
use Rattle.certificate_model.proofs.Computed.{maximum_is, not_at_most, at_most, names_sides}
use Rattle.certificate_model.proofs.TreeLaws.{optimal_is_best}
use Rattle.form_model.proofs.BankA.{item_a, bank_a, plan_of_rows, plan_a, problem_a}

-- ---- a form of 23, and a better set that is no form, since items 2 and 5 are enemies
pub form_123 : Form problem_a (these (1 ∷ 2 ∷ 3 ∷ []))
unfolding problem_a bank_a item_a plan_of_rows plan_a has
form_123 = form_is problem_a (these (1 ∷ 2 ∷ 3 ∷ [])) (these_below 6 (1 ∷ 2 ∷ 3 ∷ []) refl) (λ i e. absurd (cc)) refl

pub no_form_125 : Form problem_a (these (1 ∷ 2 ∷ 5 ∷ [])) → ⊥
unfolding problem_a bank_a item_a plan_of_rows plan_a has
no_form_125 = is_no_form problem_a (these (1 ∷ 2 ∷ 5 ∷ [])) refl

-- ---- one Bound leaf, side 3 (the enemies' upper side) by 1, proves it best
unfoldable pub one_bound : Multipliers → ProofTree
one_bound v = record { vectors = v ∷ []; nodes = Bound 0 ∷ [] }

-- the constant 1, and the weights of items 1, 2 and 5: 2048, 2303 and 1791
maximum_a : IsRelaxedMaximum problem_a (root problem_a) ((3, 1) ∷ []) false (pos 6143)
unfolding problem_a bank_a item_a plan_of_rows plan_a has item_weight stimulus_weight rows_constant link_multiplier excess_of_items
maximum_a = maximum_is problem_a (root problem_a) ((3, 1) ∷ []) false (these (1 ∷ 2 ∷ 5 ∷ [])) (pos 1600) (pos 6143) (these_below 6 (1 ∷ 2 ∷ 5 ∷ []) refl) refl refl

optimal_a : IsVerdict problem_a (Some (these (1 ∷ 2 ∷ 3 ∷ []))) (one_bound ((3, 1) ∷ [])) Optimal
unfolding one_bound problem_a bank_a item_a plan_of_rows plan_a
optimal_a =
    inl (
      form_123,
      inl (
        (
          lit≤ tt,
          names_sides problem_a ((3, 1) ∷ []) refl,
          at_most problem_a (root problem_a) ((3, 1) ∷ []) false (pos 6143) (pos (256 * objective problem_a (these (1 ∷ 2 ∷ 3 ∷ [])) + 255)) maximum_a refl,
        ),
        refl,
      ),
    )

best_a : Best problem_a (these (1 ∷ 2 ∷ 3 ∷ []))
best_a = optimal_is_best problem_a (these (1 ∷ 2 ∷ 3 ∷ [])) (one_bound ((3, 1) ∷ [])) optimal_a

-- with the multiplier 4,096 the relaxed maximum is 8,960, and the leaf isn't closed
maximum_4096 : IsRelaxedMaximum problem_a (root problem_a) ((3, 4096) ∷ []) false (pos 8960)
unfolding problem_a bank_a item_a plan_of_rows plan_a has item_weight stimulus_weight rows_constant link_multiplier excess_of_items
maximum_4096 = maximum_is problem_a (root problem_a) ((3, 4096) ∷ []) false (these (0 ∷ 1 ∷ 3 ∷ [])) (pos 1280) (pos 8960) (these_below 6 (0 ∷ 1 ∷ 3 ∷ []) refl) refl refl

pub not_closed_a : IsVerdict problem_a (Some (these (1 ∷ 2 ∷ 3 ∷ []))) (one_bound ((3, 4096) ∷ [])) (Bad 0 NotClosed)
unfolding one_bound problem_a bank_a item_a plan_of_rows plan_a
not_closed_a =
    inl (
      form_123,
      inr (
        NotClosed,
        (
          lit≤ tt,
          names_sides problem_a ((3, 4096) ∷ []) refl,
          not_at_most problem_a (root problem_a) ((3, 4096) ∷ []) false (pos 8960) (pos (256 * objective problem_a (these (1 ∷ 2 ∷ 3 ∷ [])) + 255)) maximum_4096 (record { lt = tt }),
        ),
        refl,
      ),
    )
