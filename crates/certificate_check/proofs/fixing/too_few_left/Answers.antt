use Rattle.std.proofs.Common.{◌≡◌, ◌≤◌, ◌<◌, ℕ, Bool, inl, inr, not, ◌&&◌, get_or, nat_lt, arith, sym, ap, ◌∙◌}
use Rattle.bank_tables.specs.Items.{Set, has}
use Rattle.bank_tables.specs.Sums.{count_in}
use Rattle.bank_tables.specs.Tables.{size, stimulus}
use Rattle.form_model.specs.Forms.{stimuli_of}
use Rattle.form_model.specs.Plan.{bound_at}
use Rattle.form_model.specs.Problem.{Problem}
use Rattle.form_model.proofs.SumLaws.{either}
use Rattle.certificate_model.specs.Fixing.{is_free_of, is_too_dear}
use Rattle.certificate_model.specs.Paths.{Path, is_free, is_open}
use Rattle.certificate_model.specs.Relaxed.{Multipliers}
use Rattle.constraint_model.specs.Views.{problem_of}
use Rattle.certificate_check.specs.Cuts.{path_of}
use Rattle.certificate_check.specs.Fixes.{lacks_items}
use Rattle.certificate_check.proofs.CostLaws.{open_branch}
use Rattle.certificate_check.proofs.FixSteps.{left_of}
use Rattle.certificate_check.proofs.Steps.{greatest_at_most}
use Rattle.certificate_check.proofs.fixing.too_few_left.Goals as goal

pub returns : goal.returns
unfolding lacks_items
returns c =
    λ s.
    let P : Problem = problem_of c.args.problem.now in
    let p : Path = path_of c.args.standing.now.cut in
    let v : Multipliers = c.args.costs.now.vector.now in
    let number : ℕ = get_or c.items_of_each-left.result s 0 in
    let low : ℕ = (bound_at P.plan s).low in
    let counted : ℕ = count_in (size P.bank) (is_free_of P p s) (λ i. not (is_too_dear P p v c.args.costs.now.goal i)) in
    elim (either (is_open P p s)) [
      | inl opened ↦
          let most : stimuli_of P.bank ≤ 64 = greatest_at_most (size P.bank) 64 (stimulus P.bank) c.requires.well_made.bank.stimulus_high in
          let branch = open_branch P p s opened in
          let w : s < 65 = omega (arith, branch.last) in
          let left : (i : ℕ) → has c.minus.result i ≡ (is_free P p i && not (is_too_dear P p v c.args.costs.now.goal i)) = λ i. c.minus.ensures i ∙ ap (λ (X : Set). X i && not (has c.args.dear.now i)) c.requires.standing.free ∙ ap (λ (b : Bool). is_free P p i && not b) (c.requires.dear i) in
          let e : number ≡ counted = c.items_of_each-left.ensures s w ∙ left_of P p v c.args.costs.now.goal s (has c.minus.result) left in
          c.too_few.ensures s ∙ ap (λ (m : ℕ). is_open P p s && nat_lt m low) e
      | inr closed ↦ c.too_few.ensures s ∙ ap (λ (o : Bool). o && nat_lt number low) closed ∙ sym (ap (λ (o : Bool). o && nat_lt counted low) closed)
    ]
