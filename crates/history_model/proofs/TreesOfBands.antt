-- Bank A with two bands: a tree shows that there is no form in the second.
use Rattle.std.proofs.Common.{◌≡◌, inl, true, None, refl}
use Rattle.bank_tables.specs.Items.{has}
use Rattle.certificate_model.specs.declared.verdict.Verdict.TheVariants.{NoForm}
use Rattle.form_model.specs.Forms.{HasNoForm}
use Rattle.certificate_model.specs.Paths.{root}
use Rattle.certificate_model.specs.Counting.{is_impossible}
use Rattle.certificate_model.specs.Verdicts.{IsVerdict}
use Rattle.certificate_model.proofs.TreeLaws.{no_form_is_none}
use Rattle.form_model.proofs.BankA.{item_a, plan_of_rows, plan_a}
use Rattle.certificate_model.proofs.StepsOfA.{one_count}
use Rattle.serving_model.proofs.BandsOfA.{bank_bands, plan_bands, seat_5, not_aside, problem_5}

-- so two items are left for a test of three: there is no form, although there was one in the first
-- band
short_5 : is_impossible (problem_5 not_aside) (root (problem_5 not_aside)) 0 ≡ true
unfolding problem_5 seat_5 bank_bands plan_bands plan_a plan_of_rows item_a has is_impossible
short_5 = refl

no_form_5 : IsVerdict (problem_5 not_aside) None (one_count 0) NoForm
unfolding one_count
no_form_5 = inl (tt, inl (short_5, refl))

none_5 : HasNoForm (problem_5 not_aside)
none_5 = no_form_is_none (problem_5 not_aside) (one_count 0) no_form_5
