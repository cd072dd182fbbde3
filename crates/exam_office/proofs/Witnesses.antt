-- What a search for a form without the items of a list shows.
use Rattle.std.proofs.Common.{◌≡◌, ℕ, List, [], Option, None, Some, IsTrue, is_some, ap, sym, ◌∙◌, subst, Err}
use Rattle.bank_tables.specs.Items.{Set, has}
use Rattle.bank_tables.specs.Tables.{Tables}
use Rattle.form_model.specs.Plan.{Plan}
use Rattle.form_model.specs.Problem.{Problem, whole as whole_problem}
use Rattle.form_model.specs.Forms.{Form}
use Rattle.form_model.specs.declared.breach.Breach.{Breach}
use Rattle.form_model.specs.Breaches.{IsFirstBreach}
use Rattle.form_model.proofs.BreachLaws.{breach_no_form}
use Rattle.form_model.proofs.OneMode.{one_mode}
use Rattle.certificate_model.specs.ProofTrees.{ProofTree}
use Rattle.certificate_model.specs.Spending.{IsSpent}
use Rattle.branch_bound.specs.Assemblies.{IsAssembly, IsTrueOutcome}
use Rattle.branch_bound.specs.declared.outcome.Outcome.{Outcome}
use Rattle.branch_bound.specs.declared.outcome.Outcome.TheVariants.{NoForm, NoneFound}
use Rattle.history_model.specs.declared.refusal.Refusal.TheVariants as refusal
use Rattle.history_model.specs.Lists.{IsWholeWithout, IsFormWithout, no_form, none_found}
use Rattle.exam_office.specs.Calls.{IsWitness}

one_whole : (b : Tables) (plan : Plan) (items : Set) (P Q : Problem) → IsWholeWithout b plan items P → IsWholeWithout b plan items Q → P ≡ Q
one_whole b plan items P Q p q = p.is ∙ (ap (λ (theta : ℕ). let at : Problem = record (whole_problem b plan theta) { barred = items } in at) (one_mode b plan.prior [] p.theta q.theta p.mode q.mode) ∙ sym q.is)

pub no_base_so : (b : Tables) (plan : Plan) (items : Set) (P : Problem) (base : Set) (found : Option Breach) → IsWholeWithout b plan items P → IsFirstBreach P base found → IsTrue (is_some found) → IsFormWithout b plan items base → ⊥
no_base_so b plan items P base None whole h t w = cc
no_base_so b plan items P base (Some breach) whole h t w =
    breach_no_form P base breach h (subst (λ (Q : Problem). Form Q base) (one_whole b plan items w.problem P w.is_whole whole) w.form)

module _ (b : Tables) (plan : Plan) (items : List ℕ) (P : Problem) (whole : IsWholeWithout b plan (has items) P) where
  pub no_form_so : (outcome : Outcome) → IsTrueOutcome P outcome → outcome ≡ NoForm → IsWitness b plan items (Err refusal.NoForm)
  no_form_so outcome is_true is = no_form P whole (subst (λ (o : Outcome). IsTrueOutcome P o) is is_true)

  pub none_so : (outcome : Outcome) (T : ProofTree) (budget : ℕ) → IsAssembly P None budget T outcome → outcome ≡ NoneFound → budget ≡ plan.base_budget → IsWitness b plan items (Err refusal.NoneFound)
  none_so outcome T budget assembly is number =
      let shown = subst (λ (o : Outcome). IsAssembly P None budget T o) is assembly in
      none_found P T shown.shown.open_leaves whole shown.shown.verdict (subst (λ (n : ℕ). IsSpent P T n) number shown.shown.spent)
