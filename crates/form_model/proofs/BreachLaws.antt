-- A breach shows that the set is no form.
use Rattle.std.proofs.Common.{sym, ◌∙◌, Some}
use Rattle.std.proofs.Math.Bool.{true≢false}
use Rattle.bank_tables.specs.Items.{Set}
use Rattle.form_model.specs.declared.breach.Breach.{Breach}
use Rattle.form_model.specs.declared.breach.Breach.TheVariants.{Length, Row, Stimulus, Given, Barred}
use Rattle.form_model.specs.Breaches.{IsFirstBreach}
use Rattle.form_model.specs.Forms.{Form}
use Rattle.form_model.specs.Problem.{Problem}

pub breach_no_form : (P : Problem) (X : Set) (breach : Breach) → IsFirstBreach P X (Some breach) → Form P X → ⊥
breach_no_form P X (Length found) b form = b.0 form.meets.right_length
breach_no_form P X (Row r found) b form = b.3 (form.meets.rows r b.2)
breach_no_form P X (Stimulus s found) b form = b.5 (form.meets.stimuli s b.3 b.4)
breach_no_form P X (Given i) b form = true≢false (sym (form.holds_given i b.2) ∙ b.3)
breach_no_form P X (Barred i) b form = true≢false (sym b.4 ∙ form.holds_no_barred i b.3)
