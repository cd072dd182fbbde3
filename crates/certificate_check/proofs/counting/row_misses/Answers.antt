use Rattle.std.proofs.Common.{◌≡◌, ℕ, Bool, false, cond, ◌||◌, nat_lt, sym, ap, ◌∙◌}
use Rattle.std.proofs.lemmas.Bool.{le-ltb}
use Rattle.bank_tables.specs.Items.{Set, has}
use Rattle.bank_tables.specs.Sums.{sum_in}
use Rattle.bank_tables.specs.Tables.{size, quantity}
use Rattle.form_model.specs.declared.row.Row.{Row}
use Rattle.certificate_model.specs.Counting.{row_impossible, taken_or_free}
use Rattle.constraint_model.specs.Views.{problem_of}
use Rattle.certificate_check.specs.Cuts.{path_of}
use Rattle.certificate_check.proofs.counting.row_misses.Goals as goal

pub returns-else-high-least-clause-misses : goal.returns-else-high-least-clause-misses
returns-else-high-least-clause-misses c =
    let P = problem_of c.args.problem.now in
    let p = path_of c.args.standing.now.cut in
    let low = c.in-Quantity.low in
    let high = c.in-Quantity.high in
    let f : ℕ → ℕ = λ i. cond (has c.in-Quantity.set i) (quantity P.bank i c.in-Quantity.which) 0 in
    let most : c.quantity_sums-least.result.1 ≡ sum_in (size P.bank) (taken_or_free P p) f = c.quantity_sums-least.ensures.most ∙ ap (λ (X : Set). sum_in (size P.bank) X f) c.requires.standing.may_hold in
    let fits : nat_lt high (sum_in (size P.bank) p.taken f) ≡ false = ap (λ (m : ℕ). nat_lt high m) (sym c.quantity_sums-least.ensures.least) ∙ le-ltb high c.quantity_sums-least.result.0 c.if-high-least.false in
    ap (λ (m : ℕ). nat_lt m low) most
    ∙ sym (ap (λ (over : Bool). over || nat_lt (sum_in (size P.bank) (taken_or_free P p) f) low) fits)
    ∙ sym (ap (λ (row : Row). row_impossible P p row) c.in-Quantity.is)
