-- What an assembly keeps.
use Rattle.std.specs.Prelude.{ℕ, Bool, List, Option}
use Rattle.std.specs.Option.{option_map}
use Rattle.bank_tables.specs.Items.{has}
use Rattle.certificate_model.specs.ProofTrees.{ProofTree}
use Rattle.certificate_model.specs.Pruning.{IsPruned}
use Rattle.constraint_model.specs.declared.problem.Problem.{Problem}
use Rattle.constraint_model.specs.Views.{problem_of}
use Rattle.branch_bound.specs.declared.outcome.Outcome.{Outcome}
use Rattle.branch_bound.specs.Assemblies.{IsShown, IsFirmOutcome, IsNoWorseThan}

-- a problem and a hint, the tree that was made for them within a node budget, the outcome, and
-- whether the fallback search made the tree
pub record Assembly : Type 0 where
  pub problem : Problem
  pub hint : Option (List ℕ)
  pub tree : ProofTree
  pub budget : ℕ
  pub outcome : Outcome
  pub used_fallback : Bool

-- the tree shows the outcome, which is firm and no worse than the start and the hint, and is pruned
pub record KeepsPromise (a : Assembly) : Type 0 where
  pub shown : IsShown (problem_of a.problem) a.tree a.budget a.outcome
  pub firm : IsFirmOutcome (problem_of a.problem) a.outcome
  pub start : IsNoWorseThan (problem_of a.problem) (problem_of a.problem).start a.outcome
  pub hint : IsNoWorseThan (problem_of a.problem) (option_map has a.hint) a.outcome
  pub pruned : IsPruned (problem_of a.problem) a.tree
