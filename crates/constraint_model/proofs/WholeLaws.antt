-- The problem that has only the plan.
use Rattle.std.proofs.Common.{◌≡◌, ℕ, true, false, None, ap, ◌∙◌}
use Rattle.std.proofs.Math.Path.{fun_ext}
use Rattle.bank_tables.specs.Items.{Set}
use Rattle.bank_tables.specs.Tables.{Tables}
use Rattle.form_model.specs.Plan.{Plan}
use Rattle.form_model.specs.Problem.{Problem, whole}

-- no session, and these items given and barred
abbrev pub with_sets : Tables → Plan → ℕ → Set → Set → Problem
with_sets b plan theta given barred = record { bank = b; plan = plan; session = 0; step = 0; aside = true; given = given; barred = barred; theta = theta; last = None; start = None }

pub whole_from : (b : Tables) (plan : Plan) (theta : ℕ) (given barred : Set) → ((i : ℕ) → given i ≡ false) → ((i : ℕ) → barred i ≡ false) → with_sets b plan theta given barred ≡ whole b plan theta
whole_from b plan theta given barred none_given none_barred =
    let nothing : Set = λ _. false in
    let first : given ≡ nothing = fun_ext none_given in
    let second : barred ≡ nothing = fun_ext none_barred in
    ap (λ (X : Set). with_sets b plan theta X barred) first ∙ ap (λ (X : Set). with_sets b plan theta nothing X) second
