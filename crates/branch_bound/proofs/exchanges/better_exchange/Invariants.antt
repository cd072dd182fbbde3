use Rattle.std.proofs.Common.{◌≡◌, ℕ, ◌<◌, true, None}
use Rattle.bank_tables.specs.Items.{has}
use Rattle.constraint_model.specs.Views.{problem_of}
use Rattle.branch_bound.specs.Exchanges.{IsExchange}
use Rattle.branch_bound.proofs.exchanges.better_exchange.Given as goal

-- no exchange of an earlier item betters the form
abbrev pub invariant-loop-out : goal.invariant-loop-out
invariant-loop-out l = (k : ℕ) → k < l.out → has l.form k ≡ true → IsExchange (problem_of l.problem) (has l.form) k None
