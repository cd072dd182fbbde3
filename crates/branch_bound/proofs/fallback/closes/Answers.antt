use Rattle.std.proofs.Common.{◌+◌, ◌*◌, [], sym, subst, arith}
use Rattle.std.specs.Prelude.{◌≤ℤ◌, ◌<ℤ◌, pos}
use Rattle.std.specs.Option.{option_map}
use Rattle.std.proofs.lemmas.Int.{ints}
use Rattle.bank_tables.specs.Items.{Set, has}
use Rattle.form_model.specs.Forms.{objective}
use Rattle.certificate_model.specs.Verdicts.{ClosesByBound}
use Rattle.constraint_model.specs.Views.{problem_of}
use Rattle.branch_bound.specs.Searches.{ExceedsForm}
use Rattle.branch_bound.proofs.fallback.closes.Goals as goal

pub returns-in-Some-clause-closed : goal.returns-in-Some-clause-closed
returns-in-Some-clause-closed c = λ p is closed.
    let P = problem_of c.args.problem.now in
    let X : Set = has c.in-Some.form in
    let most : c.plain_bound.result ≤ℤ pos (256 * objective P X + 255) = grind (arith, ints, c.closing_value.ensures) in
    subst (λ (o : _). ClosesByBound P (option_map has o) p []) (sym c.in-Some.is) (record { maximum = c.plain_bound.result; is_maximum = c.plain_bound.ensures p is; below = most })

pub returns-in-Some-clause-not_closed : goal.returns-in-Some-clause-not_closed
returns-in-Some-clause-not_closed c = λ p is closed.
    let P = problem_of c.args.problem.now in
    let X : Set = has c.in-Some.form in
    let above : pos (256 * objective P X + 255) <ℤ c.plain_bound.result = grind (arith, ints, c.closing_value.ensures) in
    subst (λ (o : _). ExceedsForm P p (option_map has o)) (sym c.in-Some.is) (record { maximum = c.plain_bound.result; is_maximum = c.plain_bound.ensures p is; above = above })
