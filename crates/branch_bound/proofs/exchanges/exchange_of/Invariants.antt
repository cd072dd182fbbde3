use Rattle.std.proofs.Common.{◌≡◌, ℕ, ◌<◌, false}
use Rattle.bank_tables.specs.Items.{has}
use Rattle.bank_tables.specs.Tables.{info}
use Rattle.form_model.specs.Forms.{Form}
use Rattle.constraint_model.specs.Views.{problem_of}
use Rattle.branch_bound.specs.Exchanges.{exchange}
use Rattle.branch_bound.proofs.exchanges.exchange_of.Given as goal

-- no exchange for an earlier item of more information is a form
abbrev pub invariant-loop-i : goal.invariant-loop-i
invariant-loop-i l = (k : ℕ) → k < l.i → has l.form k ≡ false → info l.problem.bank.now l.out l.problem.theta < info l.problem.bank.now k l.problem.theta → Form (problem_of l.problem) (exchange (has l.form) l.out k) → ⊥
