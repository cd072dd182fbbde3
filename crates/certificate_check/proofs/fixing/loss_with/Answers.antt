use Rattle.std.proofs.Common.{◌≡◌, ℕ, cond, arith, ap, ◌∙◌, w64, to_z, of_z}
use Rattle.std.specs.Prelude.{ℤ, pos, neg_ℤ, ◌+ℤ◌, FitsSigned}
use Rattle.std.specs.Int.{int_max}
use Rattle.std.proofs.lemmas.Int.{ints}
use Rattle.form_model.specs.Problem.{Problem}
use Rattle.certificate_model.specs.Fixing.{margin, stimulus_margin, loss_with}
use Rattle.certificate_model.specs.Paths.{Path, is_open}
use Rattle.certificate_model.specs.Relaxed.{Multipliers}
use Rattle.certificate_model.specs.Ranges.{IsWithin}
use Rattle.constraint_model.specs.Views.{problem_of}
use Rattle.certificate_check.specs.Cuts.{path_of}
use Rattle.certificate_check.specs.Costs.{margin_top}
use Rattle.certificate_check.specs.Weights.{gain_top}
use Rattle.certificate_check.proofs.fixing.loss_with.Goals as goal

fits : (a b : ℤ) → IsWithin margin_top a → IsWithin gain_top b → FitsSigned w64 (to_z w64 (of_z w64 a) +ℤ to_z w64 (of_z w64 b))
fits a b wa wb = omega (arith, ints)

summed : (a b : ℤ) → IsWithin margin_top a → IsWithin gain_top b → to_z w64 (of_z w64 (to_z w64 (of_z w64 a) +ℤ to_z w64 (of_z w64 b))) ≡ a +ℤ b
summed a b wa wb = omega (arith, ints)

pub overflow_add-result : goal.overflow_add-result
overflow_add-result c = fits c.item_loss.result c.stimulus_loss.result c.item_loss.ensures.within c.stimulus_loss.ensures.within

pub returns : goal.returns
unfolding loss_with
returns c =
    let P : Problem = problem_of c.args.problem.now in
    let p : Path = path_of c.args.standing.now.cut in
    let v : Multipliers = c.args.costs.now.vector.now in
    summed c.item_loss.result c.stimulus_loss.result c.item_loss.ensures.within c.stimulus_loss.ensures.within
    ∙ ap (λ (z : ℤ). z +ℤ c.stimulus_loss.result) c.item_loss.ensures.value
    ∙ ap (λ (z : ℤ). int_max (pos 0) (neg_ℤ (margin P v c.args.item)) +ℤ z) (c.stimulus_loss.ensures.value
    ∙ ap (λ (s : ℕ). cond (is_open P p s) (int_max (pos 0) (neg_ℤ (stimulus_margin P p v s))) (pos 0)) c.stimulus.ensures)
