use Rattle.std.proofs.Common.{List, ℕ, [], ◌∷◌, pos, negsuc, ◌∙◌, ap₂}
use Rattle.std.proofs.lemmas.Result.{IfOk-weaker}
use Rattle.form_model.specs.declared.row.Row.TheVariants.{Count, Enemies}
use Rattle.form_model.proofs.BankA.{plan_a, plan_of_rows}
use Rattle.trial_cases.specs.Plans.{plan_of}
use Rattle.trial_cases.proofs.SetLaws.{zero_and_one, two_and_five}
use Rattle.trial_cases.proofs.plans.draft_a.Goals as goal

pub returns : goal.returns
unfolding plan_of plan_a plan_of_rows
returns c =
    let first = zero_and_one c.set_of.result c.set_of.ensures.words c.set_of.ensures.members in
    let second = two_and_five c.set_of-2.result c.set_of-2.ensures.words c.set_of-2.ensures.members in
    IfOk-weaker c.draft_of.result _ _ (λ d is. is ∙ ap₂ (λ (s t : List ℕ). plan_of 3 (negsuc 9 ∷ pos 0 ∷ negsuc 9 ∷ []) (Count s 1 1 ∷ Enemies t ∷ []) []) first second) c.draft_of.ensures
