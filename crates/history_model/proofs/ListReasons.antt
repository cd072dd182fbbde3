-- A start has at most one reason on its list, and none if it may follow.
use Rattle.std.proofs.Common.{◌≡◌, ℕ, [], Option, Some, None, sym, ap, ◌∙◌, subst}
use Rattle.bank_tables.specs.Items.{Set, has}
use Rattle.bank_tables.specs.Tables.{Tables}
use Rattle.form_model.specs.declared.breach.Breach.{Breach}
use Rattle.form_model.specs.Breaches.{IsFirstBreach}
use Rattle.form_model.specs.Forms.{Form}
use Rattle.form_model.specs.Plan.{Plan}
use Rattle.form_model.specs.Problem.{Problem, whole}
use Rattle.form_model.proofs.BreachLaws.{breach_no_form}
use Rattle.form_model.proofs.OneBreach.{one_breach}
use Rattle.form_model.proofs.OneMode.{one_mode}
use Rattle.history_model.specs.declared.entry.Without.{Without}
use Rattle.history_model.specs.Lists.{IsWholeWithout, IsLegalWithout, IsNoListFor, IsBreachOfWithout}

-- there is one whole problem without the items
one_whole : (b : Tables) (plan : Plan) (items : Set) (P Q : Problem) → IsWholeWithout b plan items P → IsWholeWithout b plan items Q → P ≡ Q
one_whole b plan items P Q p q = p.is ∙ (ap (λ (theta : ℕ). let at : Problem = record (whole b plan theta) { barred = items } in at) (one_mode b plan.prior [] p.theta q.theta p.mode q.mode) ∙ sym q.is)

pub one_breach_of : (b : Tables) (plan : Plan) (without : Option Without) (breach other : Breach) → IsBreachOfWithout b plan without breach → IsBreachOfWithout b plan without other → breach ≡ other
one_breach_of b plan None breach other h k = absurd h
one_breach_of b plan (Some list) breach other h k =
    let same = one_whole b plan (has list.items) k.problem h.problem k.is_whole h.is_whole in
    let e = one_breach h.problem (has list.form) (Some breach) (Some other) h.breaches (subst (λ (P : Problem). IsFirstBreach P (has list.form) (Some other)) same k.breaches) in
    cc

pub no_list_breach : (b : Tables) (plan : Plan) (without : Option Without) (breach : Breach) → IsNoListFor b without → IsBreachOfWithout b plan without breach → ⊥
no_list_breach b plan None breach h k = k
no_list_breach b plan (Some list) breach h k = h k.items

pub no_list_legal : (b : Tables) (plan : Plan) (without : Option Without) → IsNoListFor b without → IsLegalWithout b plan without → ⊥
no_list_legal b plan None h k = h
no_list_legal b plan (Some list) h k = h k.items

pub breach_not_legal : (b : Tables) (plan : Plan) (without : Option Without) (breach : Breach) → IsBreachOfWithout b plan without breach → IsLegalWithout b plan without → ⊥
breach_not_legal b plan None breach h k = h
breach_not_legal b plan (Some list) breach h k =
    let same = one_whole b plan (has list.items) k.witness.problem h.problem k.witness.is_whole h.is_whole in
    breach_no_form h.problem (has list.form) breach h.breaches (subst (λ (P : Problem). Form P (has list.form)) same k.witness.form)
