-- What was assembled ahead of an answer.
use Rattle.std.specs.Prelude.{◌≡◌, ℕ, List, Option, Some, IfSome}
use Rattle.bank_tables.specs.Items.{AreWords}
use Rattle.bank_tables.specs.Tables.{Tables}
use Rattle.form_model.specs.Plan.{Plan}
use Rattle.constraint_model.specs.declared.problem.Problem.{Problem}
use Rattle.constraint_model.specs.Views.{problem_of}
use Rattle.history_model.specs.declared.entry.Entry.{Entry}
use Rattle.branch_bound.specs.Assembled.{Assembly}
use Rattle.exam_office.specs.Commits.{MayBeCommitted}
use Rattle.exam_hall.specs.Rounds.{IsGoodFor}

-- it was made for some problem of this bank and plan, within the plan's budget, with the base as
-- the hint
pub record IsPrepared (b : Tables) (plan : Plan) (base : List ℕ) (made : Assembly) : Type 0 where
  pub of_bank : made.problem.bank.now ≡ b
  pub of_plan : made.problem.spec.now ≡ plan
  pub budget : made.budget ≡ plan.budget
  pub hint : made.hint ≡ Some base

-- the problems have all in common but the bank and the plan
pub record IsSameProblem (P Q : Problem) : Type 0 where
  pub session : P.session ≡ Q.session
  pub step : P.step ≡ Q.step
  pub aside : P.aside ≡ Q.aside
  pub given : P.given ≡ Q.given
  pub barred : P.barred ≡ Q.barred
  pub theta : P.theta ≡ Q.theta
  pub last : P.last ≡ Q.last
  pub start : P.start ≡ Q.start

-- what was prepared is kept where it was made for this problem
abbrev pub KeepsFor : Problem → Option Assembly → Option Assembly → Type 0
KeepsFor P prepared kept = (made : Assembly) → prepared ≡ Some made
    → problem_of made.problem ≡ problem_of P → kept ≡ Some made

-- the sets of items of a problem are 8 words of 64 bits each
pub record HasItemSets (P : Problem) : Type 0 where
  pub given : AreWords P.given
  pub barred : AreWords P.barred
  pub start : IfSome P.start AreWords

-- it was made for this problem, and may be committed after the history H
pub record FitsFor (b : Tables) (plan : Plan) (base : List ℕ) (H : List Entry) (P : Problem)
    (made : Assembly) : Type 0 where
  pub same : IsSameProblem made.problem P
  pub may : MayBeCommitted b plan base H made
  pub good : IsGoodFor base made
