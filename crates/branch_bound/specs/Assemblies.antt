-- The outcome of an assembly, and the tree that shows it.
use Rattle.std.specs.Prelude.{◌≡◌, ℕ, ◌≤◌, true, false, Option, Some, None}
use Rattle.bank_tables.specs.Items.{Set, has}
use Rattle.certificate_model.specs.declared.verdict.Verdict.TheVariants.{Optimal, Partial}
use Rattle.certificate_model.specs.declared.verdict.Verdict.TheVariants as verdict
use Rattle.form_model.specs.Problem.{Problem}
use Rattle.form_model.specs.Forms.{Form, Best, Firm, HasNoForm, objective}
use Rattle.certificate_model.specs.ProofTrees.{ProofTree}
use Rattle.certificate_model.specs.Pruning.{IsPruned}
use Rattle.certificate_model.specs.Spending.{IsSpent}
use Rattle.certificate_model.specs.Verdicts.{IsVerdict}
use Rattle.branch_bound.specs.declared.outcome.Outcome.{Outcome}
use Rattle.branch_bound.specs.declared.outcome.Outcome.TheVariants.{Found, NoForm, NoneFound}

-- the tree decides nothing within the budget, which it spends: its verdict, with a form or none, is
-- Partial
pub record IsUndecided (P : Problem) (X : Option Set) (T : ProofTree) (budget : ℕ) : Type 0 where
  pub open_leaves : ℕ
  pub verdict : IsVerdict P X T (Partial open_leaves)
  pub spent : IsSpent P T budget

-- the tree shows the outcome
abbrev pub IsShown : Problem → ProofTree → ℕ → Outcome → Type 0
IsShown P T budget (Found form true) = IsVerdict P (Some (has form)) T Optimal
IsShown P T budget (Found form false) = IsUndecided P (Some (has form)) T budget
IsShown P T budget NoForm = IsVerdict P None T verdict.NoForm
IsShown P T budget NoneFound = IsUndecided P None T budget

-- a found form is one that no exchange of one item betters
abbrev pub IsFirmOutcome : Problem → Outcome → Type 0
IsFirmOutcome P (Found form proved) = Firm P (has form)
IsFirmOutcome P outcome = Unit {0}

-- if X is a form then a form was found, and it is no worse
abbrev pub IsNoWorseThan : Problem → Option Set → Outcome → Type 0
IsNoWorseThan P None outcome = Unit {0}
IsNoWorseThan P (Some X) (Found form proved) = Form P X → objective P X ≤ objective P (has form)
IsNoWorseThan P (Some X) outcome = Form P X → ⊥

-- an assembly with a hint: its outcome is shown by its tree, no worse than start and hint, and
-- Firm, and no path of the tree goes on past a row that is impossible by counting
pub record IsAssembly (P : Problem) (suggested : Option Set) (budget : ℕ) (T : ProofTree) (outcome : Outcome) : Type 0 where
  pub shown : IsShown P T budget outcome
  pub firm : IsFirmOutcome P outcome
  pub start : IsNoWorseThan P P.start outcome
  pub hint : IsNoWorseThan P suggested outcome
  pub pruned : IsPruned P T

-- what the outcome means: proved, the form is best; without a form, there is none
abbrev pub IsTrueOutcome : Problem → Outcome → Type 0
IsTrueOutcome P (Found form true) = Best P (has form)
IsTrueOutcome P (Found form false) = Form P (has form)
IsTrueOutcome P NoForm = HasNoForm P
IsTrueOutcome P NoneFound = Unit {0}

-- the search went to its end
abbrev pub IsDecided : Outcome → Type 0
IsDecided (Found form proved) = proved ≡ true
IsDecided NoForm = Unit {0}
IsDecided NoneFound = ⊥
