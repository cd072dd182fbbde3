-- Ties: the lowest item is served first.
use Rattle.std.proofs.Common.{[], ◌∷◌, refl, arith}
use Rattle.std.proofs.Math.Dec.{lit≤}
use Rattle.serving_model.specs.Serving.{IsNext}
use Rattle.form_model.proofs.Computed.{these, these_below}
use Rattle.serving_model.proofs.Computed.{next_is}
use Rattle.form_model.proofs.Ties.{item_t, bank_t, problem_t}

-- item 0, the lowest number, is served from either
next_01 : IsNext problem_t (these (0 ∷ 1 ∷ [])) 0
unfolding problem_t bank_t item_t
next_01 = next_is problem_t (these (0 ∷ 1 ∷ [])) 0 (these_below 3 (0 ∷ 1 ∷ []) refl) refl

next_02 : IsNext problem_t (these (0 ∷ 2 ∷ [])) 0
unfolding problem_t bank_t item_t
next_02 = next_is problem_t (these (0 ∷ 2 ∷ [])) 0 (these_below 3 (0 ∷ 2 ∷ []) refl) refl

not_item_2 : IsNext problem_t (these (0 ∷ 2 ∷ [])) 2 → ⊥
unfolding problem_t bank_t item_t
not_item_2 is = let less = is.lowest 0 refl (lit≤ tt) in omega arith
