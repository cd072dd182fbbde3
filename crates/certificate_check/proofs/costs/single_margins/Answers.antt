use Rattle.std.proofs.Common.{◌≡◌, ◌<◌, ◌≤◌, ◌+◌, ◌*◌, ℕ, ap, ◌∙◌, arith, w64, to_z, of_z, add-one, sym, subst}
use Rattle.std.specs.Prelude.{FitsSigned, ℤ, pos, ◌+ℤ◌}
use Rattle.std.specs.Int.{int_max}
use Rattle.std.proofs.lemmas.Int.{ints}
use Rattle.bank_tables.specs.Sums.{sum_in_z}
use Rattle.certificate_model.specs.Fixing.{is_single}
use Rattle.certificate_model.specs.Paths.{Path}
use Rattle.certificate_model.specs.Ranges.{IsWithin, at}
use Rattle.constraint_model.specs.Views.{problem_of}
use Rattle.certificate_check.specs.Cuts.{path_of}
use Rattle.certificate_check.specs.Weights.{excess_top}
use Rattle.certificate_check.proofs.costs.single_margins.Goals as goal

step : (i : ℕ) (a b : ℤ) → i < 512 → IsWithin (i * 141835108499456) a → IsWithin 141835108499456 b → to_z w64 (of_z w64 (a +ℤ to_z w64 (of_z w64 b))) ≡ a +ℤ b
step i a b few wa wb = omega (arith, ints)

more_within : (i : ℕ) (a b : ℤ) → IsWithin (i * 141835108499456) a → IsWithin 141835108499456 b → IsWithin ((i + 1) * 141835108499456) (a +ℤ b)
more_within i a b wa wb = record { low = omega (arith, ints); high = omega (arith, ints) }

most : (i : ℕ) (a : ℤ) → i ≤ 512 → IsWithin (i * 141835108499456) a → IsWithin excess_top a
most i a few w = record { low = omega (arith, ints, w.low); high = omega (arith, ints, w.high) }

sum_fits : (i : ℕ) (a b : ℤ) → i < 512 → IsWithin (i * 141835108499456) a → IsWithin 141835108499456 b → FitsSigned w64 (a +ℤ to_z w64 (of_z w64 b))
sum_fits i a b few wa wb = omega (arith, ints)

pub overflow_add-sum : goal.overflow_add-sum
overflow_add-sum c =
    let few : c.loop-i.i < 512 = omega (arith, c.requires.well_made.bank.few) in
    sum_fits c.loop-i.i (to_z w64 c.loop-i.sum-bits) c.single_margin-sum.result few c.loop-i.invariant.within c.single_margin-sum.ensures.within

pub loop-i-preserved : goal.loop-i-preserved
loop-i-preserved c =
    let P = problem_of c.args.problem.now in
    let p : Path = path_of c.args.standing.now.cut in
    let i = c.loop-i.i in
    let term : ℤ = c.single_margin-sum.result in
    let few : i < 512 = omega (arith, c.requires.well_made.bank.few) in
    let sum : ℤ = to_z w64 c.loop-i.sum-bits in
    let e-sum : to_z w64 (of_z w64 (sum +ℤ to_z w64 (of_z w64 term))) ≡ sum +ℤ term = step i sum term few c.loop-i.invariant.within c.single_margin-sum.ensures.within in
    record {
      value = rw add-one (e-sum ∙ ap (λ z. z +ℤ term) c.loop-i.invariant.value ∙ ap (λ z. sum_in_z i (is_single P p) (λ j. int_max (pos 0) (at c.args.margins.now j)) +ℤ z) c.single_margin-sum.ensures.value);
      within = subst (IsWithin ((i + 1) * 141835108499456)) (sym e-sum) (more_within i sum term c.loop-i.invariant.within c.single_margin-sum.ensures.within);
    }

pub returns-clause-within : goal.returns-clause-within
returns-clause-within c =
    let few : c.loop-i.i ≤ 512 = omega (arith, c.items-i-end.ensures.items, c.requires.well_made.bank.few) in
    most c.loop-i.i (to_z w64 c.loop-i.sum-bits) few c.loop-i.invariant.within
