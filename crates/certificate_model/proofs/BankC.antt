-- Six items, three of them one passage that is taken whole or not at all: a vector with a cap
-- proves the best form, and the same vector without its cap doesn't.
use Rattle.std.proofs.Common.{◌≡◌, ◌+◌, ◌*◌, inl, inr, true, false, ◌==◌, [], ◌∷◌, pos, negsuc, None, Some, refl}
use Rattle.std.proofs.Math.Dec.{lit≤}
use Rattle.certificate_model.specs.declared.verdict.Reason.TheVariants.{NotClosed}
use Rattle.certificate_model.specs.declared.verdict.Verdict.TheVariants.{Optimal, Bad}
use Rattle.form_model.specs.Forms.{Form, Best, objective}
use Rattle.certificate_model.specs.Paths.{Path, root, with_item, with_stimulus}
use Rattle.certificate_model.specs.Weights.{item_weight, stimulus_weight, rows_constant}
use Rattle.certificate_model.specs.Relaxed.{Multipliers, multiplier, cap, excess_over, link_multiplier, lagrangian_without_links, lagrangian, IsRelaxedMaximum}
use Rattle.certificate_model.specs.ClosedForm.{capped_weight, excess_of_items}
use Rattle.certificate_model.specs.Verdicts.{IsVerdict}
use Rattle.form_model.proofs.Computed.{these, these_below, form_is}
use Rattle.certificate_model.proofs.Computed.{maximum_is, not_at_most, at_most, names_sides}
use Rattle.certificate_model.proofs.TreeLaws.{optimal_is_best}
use Rattle.certificate_model.proofs.BankA.{one_bound}
use Rattle.form_model.proofs.BankC.{item_c, bank_c, plan_c, problem_c}

-- the items alone have 13, the passage has 11
pub form_345 : Form problem_c (these (3 ∷ 4 ∷ 5 ∷ []))
unfolding problem_c bank_c item_c plan_c
form_345 = form_is problem_c (these (3 ∷ 4 ∷ 5 ∷ [])) (these_below 6 (3 ∷ 4 ∷ 5 ∷ []) refl) (λ i e. absurd (cc)) refl

-- ---- the vector: side 0, the lower one of the passage, by 768, which is three units of
-- information; the cap is 1,024, four
unfoldable pub capped : Multipliers
capped = (0, 768) ∷ (384, 1024) ∷ []

-- the same without its cap, with the cap as the difference of its two sides, and with its sides
-- exchanged
unfoldable pub uncapped : Multipliers
uncapped = (0, 768) ∷ []

unfoldable pub by_both_sides : Multipliers
by_both_sides = (0, 768) ∷ (384, 2024) ∷ (385, 1000) ∷ []

unfoldable pub exchanged : Multipliers
exchanged = (0, 768) ∷ (385, 1024) ∷ []

caps : (cap capped ≡ Some (pos 1024)) × (cap uncapped ≡ None) × (cap by_both_sides ≡ Some (pos 1024)) × (cap exchanged ≡ Some (negsuc 1023)) × (cap ((384, 5) ∷ (385, 5) ∷ []) ≡ Some (pos 0))
unfolding capped uncapped by_both_sides exchanged
caps = (refl, refl, refl, refl, refl)

-- a weight above the cap, at it and below it, and no cap
excesses : (excess_over (Some (pos 4)) (pos 9) ≡ pos 5) × (excess_over (Some (pos 4)) (pos 4) ≡ pos 0) × (excess_over (Some (pos 4)) (negsuc 8) ≡ pos 0) × (excess_over (Some (negsuc 3)) (pos 1) ≡ pos 5) × (excess_over None (pos 9) ≡ pos 0)
excesses = (refl, refl, refl, refl, refl)

-- ---- the weights at the root: 12, 4 and 4 units in the passage, and 5, 4 and 4 alone, so item 0
-- has 8 units above the cap
weights_c : (item_weight problem_c (multiplier capped) false 0 ≡ pos 3072) × (link_multiplier problem_c (root problem_c) capped false 0 ≡ pos 2048) × (capped_weight problem_c (root problem_c) capped false 0 ≡ pos 1024) × (capped_weight problem_c (root problem_c) capped false 1 ≡ pos 1024) × (capped_weight problem_c (root problem_c) capped false 3 ≡ pos 1280)
unfolding problem_c bank_c item_c plan_c capped item_weight link_multiplier
weights_c = (refl, refl, refl, refl, refl)

-- the passage has a weight of -9 units, and -1 with the excess of its items
passage_c : (stimulus_weight problem_c (multiplier capped) 1 ≡ negsuc 2303) × (excess_of_items problem_c (root problem_c) capped false 1 ≡ pos 2048)
unfolding problem_c bank_c item_c plan_c capped item_weight stimulus_weight link_multiplier excess_of_items
passage_c = (refl, refl)

-- ---- the Lagrangian of some pairs: with the items alone no slack counts; with items 0, 3 and 4
-- the lower side of the passage and the link of item 0 do: 4,608 and 768 less 2,048 where the
-- passage isn't chosen, 4,608 less 1,536 where it is
lagrangians_c : (lagrangian problem_c (root problem_c) capped false (these (3 ∷ 4 ∷ 5 ∷ [])) (λ _. false) ≡ pos 3328)
    × (lagrangian problem_c (root problem_c) capped false (these (0 ∷ 1 ∷ 2 ∷ [])) (λ s. s == 1) ≡ pos 2816)
    × (lagrangian problem_c (root problem_c) capped false (these (0 ∷ 3 ∷ 4 ∷ [])) (λ _. false) ≡ pos 3328)
    × (lagrangian problem_c (root problem_c) capped false (these (0 ∷ 3 ∷ 4 ∷ [])) (λ s. s == 1) ≡ pos 3072)
    × (lagrangian_without_links problem_c capped false (these (0 ∷ 3 ∷ 4 ∷ [])) (λ _. false) ≡ pos 5376)
unfolding problem_c bank_c item_c plan_c capped item_weight link_multiplier lagrangian_without_links lagrangian
lagrangians_c = (refl, refl, refl, refl, refl)

-- ---- the relaxed maximum is 13 units: no item of the test is worth more than the cap, and the
-- passage is worth nothing
maximum_c : IsRelaxedMaximum problem_c (root problem_c) capped false (pos 3328)
unfolding problem_c bank_c item_c plan_c capped item_weight stimulus_weight rows_constant link_multiplier excess_of_items
maximum_c = maximum_is problem_c (root problem_c) capped false (these (3 ∷ 4 ∷ 5 ∷ [])) (pos 1024) (pos 3328) (these_below 6 (3 ∷ 4 ∷ 5 ∷ []) refl) refl refl

optimal_c : IsVerdict problem_c (Some (these (3 ∷ 4 ∷ 5 ∷ []))) (one_bound capped) Optimal
unfolding one_bound problem_c bank_c item_c plan_c capped
optimal_c =
    inl (
      form_345,
      inl (
        (
          lit≤ tt,
          names_sides problem_c capped refl,
          at_most problem_c (root problem_c) capped false (pos 3328) (pos (256 * objective problem_c (these (3 ∷ 4 ∷ 5 ∷ [])) + 255)) maximum_c refl,
        ),
        refl,
      ),
    )

best_c : Best problem_c (these (3 ∷ 4 ∷ 5 ∷ []))
best_c = optimal_is_best problem_c (these (3 ∷ 4 ∷ 5 ∷ [])) (one_bound capped) optimal_c

-- without the cap it is 21 units, as item 0 counts for 12 and the passage for nothing: the leaf
-- isn't closed
maximum_uncapped : IsRelaxedMaximum problem_c (root problem_c) uncapped false (pos 5376)
unfolding problem_c bank_c item_c plan_c uncapped item_weight stimulus_weight rows_constant link_multiplier excess_of_items
maximum_uncapped = maximum_is problem_c (root problem_c) uncapped false (these (0 ∷ 3 ∷ 4 ∷ [])) (pos 1024) (pos 5376) (these_below 6 (0 ∷ 3 ∷ 4 ∷ []) refl) refl refl

not_closed_c : IsVerdict problem_c (Some (these (3 ∷ 4 ∷ 5 ∷ []))) (one_bound uncapped) (Bad 0 NotClosed)
unfolding one_bound problem_c bank_c item_c plan_c uncapped
not_closed_c =
    inl (
      form_345,
      inr (
        NotClosed,
        (
          lit≤ tt,
          names_sides problem_c uncapped refl,
          not_at_most problem_c (root problem_c) uncapped false (pos 5376) (pos (256 * objective problem_c (these (3 ∷ 4 ∷ 5 ∷ [])) + 255)) maximum_uncapped (record { lt = tt }),
        ),
        refl,
      ),
    )

-- the cap is the difference of its two sides; with them exchanged it is -4 units, and the passage
-- is worth 23
maximum_by_both : IsRelaxedMaximum problem_c (root problem_c) by_both_sides false (pos 3328)
unfolding problem_c bank_c item_c plan_c by_both_sides item_weight stimulus_weight rows_constant link_multiplier excess_of_items
maximum_by_both = maximum_is problem_c (root problem_c) by_both_sides false (these (3 ∷ 4 ∷ 5 ∷ [])) (pos 1024) (pos 3328) (these_below 6 (3 ∷ 4 ∷ 5 ∷ []) refl) refl refl

maximum_exchanged : IsRelaxedMaximum problem_c (root problem_c) exchanged false (pos 9216)
unfolding problem_c bank_c item_c plan_c exchanged item_weight stimulus_weight rows_constant link_multiplier excess_of_items
maximum_exchanged = maximum_is problem_c (root problem_c) exchanged false (these (3 ∷ 4 ∷ 5 ∷ [])) (pos 1024) (pos 9216) (these_below 6 (3 ∷ 4 ∷ 5 ∷ []) refl) refl refl

-- ---- a cap of two units alone: at the root item 0 counts for 2 and the passage for 7, so the
-- maximum is 20 units; where the passage is chosen the cap is nothing, and it is 18
unfoldable pub two_units : Multipliers
two_units = (384, 512) ∷ []

maximum_two : IsRelaxedMaximum problem_c (root problem_c) two_units false (pos 5120)
unfolding problem_c bank_c item_c plan_c two_units item_weight stimulus_weight rows_constant link_multiplier excess_of_items
maximum_two = maximum_is problem_c (root problem_c) two_units false (these (3 ∷ 4 ∷ 5 ∷ [])) (pos 1024) (pos 5120) (these_below 6 (3 ∷ 4 ∷ 5 ∷ []) refl) refl refl

unfoldable pub on_passage : Path
on_passage = with_stimulus problem_c (root problem_c) 1 true

maximum_chosen : IsRelaxedMaximum problem_c on_passage two_units false (pos 4608)
unfolding on_passage problem_c bank_c item_c plan_c two_units item_weight stimulus_weight rows_constant link_multiplier excess_of_items
maximum_chosen = maximum_is problem_c on_passage two_units false (these (0 ∷ 3 ∷ 4 ∷ [])) (pos 1024) (pos 4608) (these_below 6 (0 ∷ 3 ∷ 4 ∷ []) refl) refl refl

-- and so it is where item 1 is taken, since then the passage is chosen: item 0 has 9 units, item 1
-- one and item 3 five
maximum_taken : IsRelaxedMaximum problem_c (with_item (root problem_c) 1 true) two_units false (pos 3840)
unfolding problem_c bank_c item_c plan_c two_units item_weight stimulus_weight rows_constant link_multiplier excess_of_items
maximum_taken = maximum_is problem_c (with_item (root problem_c) 1 true) two_units false (these (0 ∷ 3 ∷ [])) (pos 1024) (pos 3840) (these_below 6 (0 ∷ 3 ∷ []) refl) refl refl

-- an item that is out has no excess: with item 0 out the passage is worth nothing
maximum_out : IsRelaxedMaximum problem_c (with_item (root problem_c) 0 false) two_units false (pos 3328)
unfolding problem_c bank_c item_c plan_c two_units item_weight stimulus_weight rows_constant link_multiplier excess_of_items
maximum_out = maximum_is problem_c (with_item (root problem_c) 0 false) two_units false (these (3 ∷ 4 ∷ 5 ∷ [])) (pos 1024) (pos 3328) (these_below 6 (3 ∷ 4 ∷ 5 ∷ []) refl) refl refl

-- a ray takes the cap too: the items of the passage have 768 by its lower side, and 256 with this
-- cap; what is above it, 512 for each, leaves the passage below 0
unfoldable pub ray_c : Multipliers
ray_c = (0, 768) ∷ (384, 256) ∷ []

maximum_ray : IsRelaxedMaximum problem_c (root problem_c) ray_c true (pos 768)
unfolding problem_c bank_c item_c plan_c ray_c item_weight stimulus_weight rows_constant link_multiplier excess_of_items
maximum_ray = maximum_is problem_c (root problem_c) ray_c true (these (0 ∷ 1 ∷ 2 ∷ [])) (pos 100) (pos 768) (these_below 6 (0 ∷ 1 ∷ 2 ∷ []) refl) refl refl
