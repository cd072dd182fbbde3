-- Lists of items that an examinee must not get, as those of an earlier sitting.
use Rattle.std.specs.Prelude.{◌≡◌, ℕ, [], IsTrue, Option, Some, None}
use Rattle.bank_tables.specs.Items.{Set, has}
use Rattle.bank_tables.specs.Tables.{Tables}
use Rattle.bank_tables.specs.Validity.{HoldsItems}
use Rattle.history_model.specs.declared.entry.Without.{Without}
use Rattle.form_model.specs.declared.breach.Breach.{Breach}
use Rattle.form_model.specs.Ability.{IsPosteriorMode}
use Rattle.form_model.specs.Breaches.{IsFirstBreach}
use Rattle.form_model.specs.Forms.{Form, HasNoForm}
use Rattle.form_model.specs.Plan.{Plan}
use Rattle.form_model.specs.Problem.{Problem, whole}
use Rattle.certificate_model.specs.declared.verdict.Verdict.TheVariants.{Partial}
use Rattle.certificate_model.specs.ProofTrees.{ProofTree}
use Rattle.certificate_model.specs.Verdicts.{IsVerdict}
use Rattle.certificate_model.specs.Spending.{IsSpent}
use Rattle.history_model.specs.declared.refusal.Refusal.{Refusal}
use Rattle.history_model.specs.declared.refusal.Refusal.TheVariants.{NoForm, NoneFound}

-- a list has items, all of the bank
pub record IsListFor (b : Tables) (items : Set) : Type 0 where
  pub item : ℕ
  pub listed : IsTrue (items item)
  pub of_bank : HoldsItems b items

-- P is the whole problem, at the mode of the prior, with the items of a list barred
pub record IsWholeWithout (b : Tables) (plan : Plan) (items : Set) (P : Problem) : Type 0 where
  pub theta : ℕ
  pub mode : IsPosteriorMode b plan.prior [] theta
  pub is : P ≡ record (whole b plan theta) { barred = items }

-- X is a form of the whole problem without the items
pub record IsFormWithout (b : Tables) (plan : Plan) (items X : Set) : Type 0 where
  pub problem : Problem
  pub is_whole : IsWholeWithout b plan items problem
  pub form : Form problem X

-- a start may have a list for the bank, with a form without its items; it may have none
pub record IsLegalList (b : Tables) (plan : Plan) (list : Without) : Type 0 where
  pub items : IsListFor b (has list.items)
  pub witness : IsFormWithout b plan (has list.items) (has list.form)

abbrev pub IsLegalWithout : Tables → Plan → Option Without → Type 0
IsLegalWithout b plan None = Unit {0}
IsLegalWithout b plan (Some list) = IsLegalList b plan list

-- ---- why a start may not have its list
-- the list is empty, or has an item that the bank hasn't
abbrev pub IsNoListFor : Tables → Option Without → Type 0
IsNoListFor b None = ⊥
IsNoListFor b (Some list) = IsListFor b (has list.items) → ⊥

-- its set is no form without the items of the list, by its first breach
pub record IsBreachOfList (b : Tables) (plan : Plan) (list : Without)
    (breach : Breach) : Type 0 where
  pub items : IsListFor b (has list.items)
  pub problem : Problem
  pub is_whole : IsWholeWithout b plan (has list.items) problem
  pub breaches : IsFirstBreach problem (has list.form) (Some breach)

abbrev pub IsBreachOfWithout : Tables → Plan → Option Without → Breach → Type 0
IsBreachOfWithout b plan None breach = ⊥
IsBreachOfWithout b plan (Some list) breach = IsBreachOfList b plan list breach

-- ---- why no session starts with a list
-- no form without the items is known: no set is one, or none was found within the node budget for a
-- base form
pub data LacksForm (b : Tables) (plan : Plan) (items : Set) : Refusal → Type 0 where
  no_form : (P : Problem) → IsWholeWithout b plan items P → HasNoForm P
      → LacksForm b plan items NoForm
  none_found : (P : Problem) (T : ProofTree) (leaves : ℕ) → IsWholeWithout b plan items P
      → IsVerdict P None T (Partial leaves) → IsSpent P T plan.base_budget
      → LacksForm b plan items NoneFound
