-- What is assembled for a session that waits for an item.
use Rattle.std.proofs.Common.{◌≡◌, ℕ, Bool, true, false, List, Option, Some, None, refl}
use Rattle.std.specs.Prelude.{unwrap_or}
use Rattle.bank_tables.specs.Items.{Set, has}
use Rattle.bank_tables.specs.Tables.{Tables}
use Rattle.form_model.specs.Plan.{Plan}
use Rattle.form_model.specs.Problem.{Problem}
use Rattle.form_model.specs.Forms.{Meets, Form}
use Rattle.constraint_model.specs.Views.{problem_of}
use Rattle.branch_bound.specs.Assembled.{Assembly}
use Rattle.branch_bound.specs.Assemblies.{IsNoWorseThan, IsAssembly}
use Rattle.branch_bound.specs.declared.outcome.Outcome.{Outcome}
use Rattle.branch_bound.specs.declared.outcome.Outcome.TheVariants.{Found, NoForm, NoneFound}
use Rattle.history_model.specs.declared.entry.Entry.{Entry}
use Rattle.history_model.specs.Legality.{LegalRun}
use Rattle.history_model.specs.SessionProblems.{IsProblemOf}
use Rattle.history_model.proofs.AsideForms.{form_where_aside}
use Rattle.exam_office.specs.Commits.{IsOfStart}
use Rattle.exam_office.specs.Serving.{IsAssembledFor}

-- an outcome lacks a form where neither the start nor the base is one
abbrev Lacks : Problem → Outcome → Type 0
Lacks P o = (X : Set) → IsNoWorseThan P (Some X) o → Form P X → ⊥

no_fallback : (P : Problem) (start : Option Set) (base : Set) (o : Outcome) → Lacks P o → IsNoWorseThan P start o → IsNoWorseThan P (Some base) o → Form P (unwrap_or start base) → ⊥
no_fallback P (Some X) base o lacks begun hint form = lacks X begun form
no_fallback P None base o lacks begun hint form = lacks base hint form

module _ (b : Tables) (plan : Plan) (base : List ℕ) (H : List Entry) (session step : ℕ) (run : LegalRun b plan H) (meets : Meets b plan (has base)) (P : Problem) (asked : IsProblemOf b plan H session step P) where
  -- then eligibility is not set aside
  module _ (o : Outcome) (lacks : Lacks P o) (begun : IsNoWorseThan P P.start o) (hint : IsNoWorseThan P (Some (has base)) o) where
    not_aside : (t : Bool) → P.aside ≡ t → P.aside ≡ false
    not_aside false e = e
    not_aside true e = absurd (no_fallback P P.start (has base) o lacks begun hint (form_where_aside b plan H session step P (has base) run asked meets e))

  of_start : (o : Outcome) → IsNoWorseThan P P.start o → IsNoWorseThan P (Some (has base)) o → IsOfStart P base o
  of_start (Found form proved) begun hint = tt
  of_start NoForm begun hint = not_aside NoForm (λ X no. no) begun hint P.aside refl
  of_start NoneFound begun hint = (not_aside NoneFound (λ X no. no) begun hint P.aside refl, hint)

pub assembled_so : (b : Tables) (plan : Plan) (base : List ℕ) (H : List Entry) (session : ℕ) (run : LegalRun b plan H) (meets : Meets b plan (has base)) (a : Assembly) → IsProblemOf b plan H session (problem_of a.problem).step (problem_of a.problem) → a.budget ≡ plan.budget → (n : ℕ) → IsAssembly (problem_of a.problem) (Some (has base)) n a.tree a.outcome → IsAssembledFor b plan base H session a
assembled_so b plan base H session run meets a asked budget n is =
    let P = problem_of a.problem in
    record {
      asked = asked;
      budget = budget;
      of_start = of_start b plan base H session P.step run meets P asked a.outcome is.start is.hint;
      firm = is.firm;
      start = is.start;
      hint = is.hint;
    }
