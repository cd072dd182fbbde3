-- Bank A: the item that is served first.
use Rattle.std.proofs.Common.{[], ◌∷◌, refl}
use Rattle.serving_model.specs.Serving.{IsNext}
use Rattle.form_model.proofs.Computed.{these, these_below}
use Rattle.serving_model.proofs.Computed.{next_is}
use Rattle.form_model.proofs.BankA.{item_a, bank_a, problem_a}

-- item 2 has the greatest information at point 1
next_a : IsNext problem_a (these (1 ∷ 2 ∷ 3 ∷ [])) 2
unfolding problem_a bank_a item_a
next_a = next_is problem_a (these (1 ∷ 2 ∷ 3 ∷ [])) 2 (these_below 6 (1 ∷ 2 ∷ 3 ∷ []) refl) refl
