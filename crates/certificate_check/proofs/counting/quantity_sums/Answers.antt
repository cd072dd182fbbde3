use Rattle.std.proofs.Common.{ℕ, cond, get_or, ap, ◌∙◌}
use Rattle.bank_tables.specs.Items.{has}
use Rattle.bank_tables.specs.Tables.{size, quantity}
use Rattle.certificate_check.proofs.Tallies.{sum_in_alike}
use Rattle.certificate_check.proofs.counting.quantity_sums.Goals as goal

pub returns-clause-least : goal.returns-clause-least
returns-clause-least c =
    let b = c.args.problem.now.bank.now in
    let f : ℕ → ℕ = λ i. cond (has c.args.set.now i) (get_or c.read_column.new.column.values i 0) 0 in
    let g : ℕ → ℕ = λ i. cond (has c.args.set.now i) (quantity b i c.args.which) 0 in
    c.two_sums.ensures.first ∙ sum_in_alike (size b) (has c.args.standing.now.cut.taken) f g (λ i w. ap (λ (q : ℕ). cond (has c.args.set.now i) q 0) (c.read_column.ensures.values i w))

pub returns-clause-most : goal.returns-clause-most
returns-clause-most c =
    let b = c.args.problem.now.bank.now in
    let f : ℕ → ℕ = λ i. cond (has c.args.set.now i) (get_or c.read_column.new.column.values i 0) 0 in
    let g : ℕ → ℕ = λ i. cond (has c.args.set.now i) (quantity b i c.args.which) 0 in
    c.two_sums.ensures.second ∙ sum_in_alike (size b) (has c.args.standing.now.may_hold) f g (λ i w. ap (λ (q : ℕ). cond (has c.args.set.now i) q 0) (c.read_column.ensures.values i w))
