-- What a verdict shows of an outcome, and what an outcome means.
use Rattle.std.proofs.Common.{◌≡◌, ℕ, zero, suc, ◌+◌, ◌^◌, ◌≤◌, ◌<◌, inl, inr, true, false, List, refl, arith, Option, Some, None}
use Rattle.bank_tables.specs.Items.{Set, has}
use Rattle.certificate_model.specs.declared.verdict.Verdict.TheVariants.{Optimal, Partial}
use Rattle.certificate_model.specs.declared.verdict.Verdict.TheVariants as verdict
use Rattle.form_model.specs.Forms.{Form, Firm, objective}
use Rattle.certificate_model.specs.Paths.{root, undecided}
use Rattle.form_model.specs.Problem.{Problem}
use Rattle.certificate_model.specs.ProofTrees.{ProofTree}
use Rattle.certificate_model.specs.Spending.{IsSpent}
use Rattle.certificate_model.specs.Verdicts.{verdict_of, IsVerdict}
use Rattle.certificate_model.proofs.TreeLaws.{optimal_is_best, no_form_is_none}
use Rattle.certificate_model.proofs.Bettering.{bettering_keeps}
use Rattle.certificate_model.proofs.Undecided.{partial_is_small}
use Rattle.branch_bound.specs.declared.outcome.Outcome.{Outcome}
use Rattle.branch_bound.specs.declared.outcome.Outcome.TheVariants.{Found, NoForm, NoneFound}
use Rattle.branch_bound.specs.Assemblies.{IsUndecided, IsShown, IsFirmOutcome, IsNoWorseThan, IsTrueOutcome, IsDecided}
use Rattle.branch_bound.specs.Comparing.{IsAsGood}
use Rattle.branch_bound.specs.Showing.{Shows}

-- ---- a form that is as good stays so
pub found_as_good : (P : Problem) (X : Set) (words : List ℕ) (proved : _) (Z : Option Set) → objective P X ≤ objective P (has words) → IsAsGood P Z (Some X) → IsNoWorseThan P Z (Found words proved)
found_as_good P X words proved None no_worse as_good = tt
found_as_good P X words proved (Some Z) no_worse as_good = λ form. omega (arith, as_good form)

pub no_form_as_good : (P : Problem) (Z : Option Set) → IsAsGood P Z None → IsNoWorseThan P Z NoForm
no_form_as_good P None as_good = tt
no_form_as_good P (Some Z) as_good = as_good

pub none_found_as_good : (P : Problem) (Z : Option Set) → IsAsGood P Z None → IsNoWorseThan P Z NoneFound
none_found_as_good P None as_good = tt
none_found_as_good P (Some Z) as_good = as_good

-- ---- what is shown
module _ (P : Problem) (T : ProofTree) (budget : ℕ) where
  pub partial_form : (X : Set) (k : ℕ) → IsVerdict P (Some X) T (Partial k) → Form P X
  partial_form X k (inl gives) = gives.0
  partial_form X k (inr bad) = absurd (let e = bad.1 in cc)

  pub best_shown : (words : List ℕ) → IsVerdict P (Some (has words)) T Optimal → Shows P (Some (has words)) T budget (Found words true)
  best_shown words is =
      let best = optimal_is_best P (has words) T is in
      record {
        shown = is;
        firm = record { form = best.form; exchanges = λ Y form but. best.greatest Y form };
        as_good = λ Z. found_as_good P (has words) words true Z (omega arith);
      }

  pub firm_shown : (words better : List ℕ) (k : ℕ) → IsVerdict P (Some (has words)) T (Partial k) → IsSpent P T budget → Firm P (has better) → objective P (has words) ≤ objective P (has better) → Shows P (Some (has words)) T budget (Found better false)
  firm_shown words better k is spent firm no_worse =
      record {
        shown = record { open_leaves = k; verdict = bettering_keeps P (Some (has words)) (has better) T k firm.form no_worse is; spent = spent };
        firm = firm;
        as_good = λ Z. found_as_good P (has words) better false Z no_worse;
      }

  pub no_form_shown : IsVerdict P None T verdict.NoForm → Shows P None T budget NoForm
  no_form_shown is = record { shown = is; firm = tt; as_good = no_form_as_good P }

  pub none_found_shown : (k : ℕ) → IsVerdict P None T (Partial k) → IsSpent P T budget → Shows P None T budget NoneFound
  none_found_shown k is spent = record { shown = record { open_leaves = k; verdict = is; spent = spent }; firm = tt; as_good = none_found_as_good P }

-- ---- what it means
pub shown_is_true : (P : Problem) (T : ProofTree) (budget : ℕ) (outcome : Outcome) → IsShown P T budget outcome → IsFirmOutcome P outcome → IsTrueOutcome P outcome
shown_is_true P T budget (Found words true) shown firm = optimal_is_best P (has words) T shown
shown_is_true P T budget (Found words false) shown firm = firm.form
shown_is_true P T budget NoForm shown firm = no_form_is_none P T shown
shown_is_true P T budget NoneFound shown firm = tt

not_undecided : (P : Problem) (X : Option Set) (T : ProofTree) (budget : ℕ) → IsUndecided P X T budget → 2 ^ (undecided P (root P) + 1) ≤ budget + 1 → ⊥
not_undecided P X T budget is large =
    let small = partial_is_small P X T is.open_leaves is.verdict in
    let number = is.spent.nodes in
    omega arith

pub shown_is_decided : (P : Problem) (T : ProofTree) (budget : ℕ) (outcome : Outcome) → IsShown P T budget outcome → 2 ^ (undecided P (root P) + 1) ≤ budget + 1 → IsDecided outcome
shown_is_decided P T budget (Found words true) shown large = refl
shown_is_decided P T budget (Found words false) shown large = absurd (not_undecided P (Some (has words)) T budget shown large)
shown_is_decided P T budget NoForm shown large = tt
shown_is_decided P T budget NoneFound shown large = not_undecided P None T budget shown large

-- ---- the verdict by the number of Open leaves
pub verdict_of_some : (X : Option Set) (k : ℕ) → 0 < k → verdict_of X k ≡ Partial k
verdict_of_some X zero some = absurd (omega arith)
verdict_of_some X (suc k) some = refl
