-- The worked banks are item banks: none has a fault.
use Rattle.std.proofs.Common.{◌≡◌, ◌∙◌, ap, None, Result, Ok, refl}
use Rattle.std.specs.Prelude.{IfOk}
use Rattle.std.specs.declared.alloc.AllocError.{AllocError}
use Rattle.std.proofs.lemmas.Result.{IfOk-weaker, IfOk-at_ok}
use Rattle.bank_tables.specs.declared.bank_fault.BankFault.{BankFault}
use Rattle.bank_tables.specs.Tables.{Tables}
use Rattle.bank_tables.specs.Faults.{bank_fault, item_fault}
use Rattle.form_model.proofs.BankA.{bank_a, item_a, sevens}
use Rattle.form_model.proofs.BankS.{bank_s, item_s, ones}
use Rattle.form_model.proofs.BankE.{bank_e, item_e}
use Rattle.form_model.proofs.BankQ.{bank_q, item_q}
use Rattle.trial_cases.specs.Rows.{bank_l, item_l}

pub faultless_a : bank_fault bank_a ≡ None
unfolding bank_a item_a sevens bank_fault item_fault
faultless_a = refl

pub faultless_s : bank_fault bank_s ≡ None
unfolding bank_s item_s ones bank_fault item_fault
faultless_s = refl

pub faultless_e : bank_fault bank_e ≡ None
unfolding bank_e item_e bank_fault item_fault
faultless_e = refl

pub faultless_q : bank_fault bank_q ≡ None
unfolding bank_q item_q bank_fault item_fault
faultless_q = refl

pub faultless_l : bank_fault bank_l ≡ None
unfolding bank_l item_l bank_fault item_fault
faultless_l = refl

-- ---- rows that are these tables, which have no fault, and a bank of those rows
pub none_faulty : (rows : Result Tables AllocError) (t : Tables) → bank_fault t ≡ None → IfOk rows (λ r. r ≡ t) → IfOk rows (λ r. bank_fault r ≡ None)
none_faulty rows t e = IfOk-weaker rows _ _ (λ r is. ap bank_fault is ∙ e)

pub bank_is_them : (rows : Result Tables AllocError) (bank : Result Tables BankFault) (t : Tables) → IfOk rows (λ r. r ≡ t) → IfOk bank (λ b. rows ≡ Ok b) → IfOk bank (λ b. b ≡ t)
bank_is_them rows bank t is = IfOk-weaker bank _ _ (λ b e. IfOk-at_ok (λ r. r ≡ t) e is)
