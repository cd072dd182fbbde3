-- Fixing by hand on bank C, whose items 0, 1 and 2 are one passage: by the vector with a cap of
-- four units the margins of the items are 8, 0, 0, 1, 0, 0 units, the passage has the margin -9 + 8
-- = -1, and the bound is 12 + 1 = 13 units.
use Rattle.std.proofs.Common.{◌≡◌, inl, inr, true, false, [], ◌∷◌, pos, negsuc, Some, refl}
use Rattle.std.proofs.Math.Dec.{lit≤}
use Rattle.certificate_model.specs.declared.node.Node.TheVariants.{Count, Fix}
use Rattle.certificate_model.specs.declared.verdict.Reason.TheVariants.{FixesNothing}
use Rattle.certificate_model.specs.declared.verdict.Verdict.TheVariants.{Bad}
use Rattle.certificate_model.specs.Fixing.{margin, stimulus_margin, stimulus_most, fixing_bound, room, loss_with, is_put_out, is_taken_in, is_settled_on, settles}
use Rattle.certificate_model.specs.Paths.{root}
use Rattle.certificate_model.specs.ProofTrees.{ProofTree}
use Rattle.certificate_model.specs.Relaxed.{Multipliers}
use Rattle.certificate_model.specs.Verdicts.{IsVerdict}
use Rattle.certificate_model.specs.Weights.{item_weight, stimulus_weight, rows_constant}
use Rattle.form_model.proofs.BankC.{item_c, bank_c, plan_c, problem_c}
use Rattle.form_model.proofs.Computed.{these}
use Rattle.certificate_model.proofs.BankC.{capped, form_345}
use Rattle.certificate_model.proofs.Computed.{names_sides}

margins : (margin problem_c capped 0 ≡ pos 2048) × (margin problem_c capped 1 ≡ pos 0) × (margin problem_c capped 3 ≡ pos 256) × (margin problem_c capped 4 ≡ pos 0)
unfolding problem_c bank_c item_c plan_c capped item_weight margin
margins = (refl, refl, refl, refl)

passage_margin : stimulus_margin problem_c (root problem_c) capped 1 ≡ negsuc 255
unfolding problem_c bank_c item_c plan_c capped item_weight stimulus_weight margin stimulus_margin
passage_margin = refl

bound_is : fixing_bound problem_c (root problem_c) capped ≡ pos 3328
unfolding problem_c bank_c item_c plan_c capped item_weight stimulus_weight rows_constant margin stimulus_margin stimulus_most fixing_bound
bound_is = refl

-- a form better than 12 has no item of the passage, and item 3; of items 4 and 5 nothing is known
better_than_12 : (is_put_out problem_c (root problem_c) capped 12 0 ≡ true) × (is_put_out problem_c (root problem_c) capped 12 1 ≡ true)
    × (is_put_out problem_c (root problem_c) capped 12 3 ≡ false) × (is_taken_in problem_c (root problem_c) capped 12 3 ≡ true)
    × (is_put_out problem_c (root problem_c) capped 12 4 ≡ false) × (is_taken_in problem_c (root problem_c) capped 12 4 ≡ false)
    × (is_settled_on problem_c (root problem_c) capped 12 1 ≡ false) × (settles problem_c (root problem_c) capped 12 ≡ true)
unfolding problem_c bank_c item_c plan_c capped item_weight stimulus_weight rows_constant margin stimulus_margin stimulus_most fixing_bound room loss_with
better_than_12 = (refl, refl, refl, refl, refl, refl, refl, refl)

-- by one unit less the vector settles nothing: the room is 257, the passage and item 3 lose 256
better_than_11 : (room problem_c (root problem_c) capped 11 ≡ pos 257) × (settles problem_c (root problem_c) capped 11 ≡ false)
unfolding problem_c bank_c item_c plan_c capped item_weight stimulus_weight rows_constant margin stimulus_margin stimulus_most fixing_bound room loss_with
better_than_11 = (refl, refl)

-- no form is better than 13: the room is below 0, and each item is put out
better_than_13 : (room problem_c (root problem_c) capped 13 ≡ negsuc 254) × (is_put_out problem_c (root problem_c) capped 13 3 ≡ true)
    × (is_put_out problem_c (root problem_c) capped 13 4 ≡ true) × (is_taken_in problem_c (root problem_c) capped 13 3 ≡ false)
unfolding problem_c bank_c item_c plan_c capped item_weight stimulus_weight rows_constant margin stimulus_margin stimulus_most fixing_bound room loss_with
better_than_13 = (refl, refl, refl, refl)

-- ---- a Fix that settles nothing, one whose goal the form does not reach, and one of a vector that
-- is not there
unfoldable fix_tree : Multipliers → ProofTree
fix_tree v = record { vectors = v ∷ []; nodes = Fix 0 11 ∷ Count 0 ∷ [] }

settles_nothing : IsVerdict problem_c (Some (these (3 ∷ 4 ∷ 5 ∷ []))) (fix_tree capped) (Bad 0 FixesNothing)
unfolding fix_tree problem_c bank_c item_c plan_c capped item_weight stimulus_weight rows_constant margin stimulus_margin stimulus_most fixing_bound room loss_with
settles_nothing = inl (form_345, inr (FixesNothing, (lit≤ tt, names_sides problem_c capped refl, lit≤ tt, refl), refl))
