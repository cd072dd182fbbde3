-- An Open leaf of a seat's problem, where one set is left.
use Rattle.std.proofs.Common.{inl, inr, [], ◌∷◌, Some, refl}
use Rattle.bank_tables.specs.Items.{has}
use Rattle.certificate_model.specs.declared.verdict.Reason.TheVariants.{OpenWhole}
use Rattle.certificate_model.specs.declared.verdict.Verdict.TheVariants.{Bad}
use Rattle.certificate_model.specs.Verdicts.{IsVerdict}
use Rattle.form_model.proofs.Computed.{these}
use Rattle.form_model.proofs.BankS.{item_s, bank_s, plan_s}
use Rattle.serving_model.proofs.BankS.{seat_s, problem_3}
use Rattle.history_model.proofs.TreesOfS.{form_3}
use Rattle.certificate_model.proofs.BankE.{one_open}

-- ---- OpenWhole: an Open leaf where one set is left, the items given and item 4
open_whole : IsVerdict problem_3 (Some (these (0 ∷ 1 ∷ 3 ∷ 4 ∷ []))) one_open (Bad 0 OpenWhole)
unfolding one_open problem_3 seat_s bank_s item_s plan_s has
open_whole = inl (form_3, inr (OpenWhole, (λ e. absurd (cc)), refl))
