use Rattle.std.proofs.Common.{◌≡◌, ◌<◌, ◌≤◌, ◌+◌, ◌*◌, ℕ, suc, ap, ◌∙◌, arith, w64, to_z, of_z, add-one, sym, subst, refl}
use Rattle.std.specs.Prelude.{FitsSigned, ℤ, ◌+ℤ◌, slice_index}
use Rattle.std.proofs.lemmas.Int.{ints}
use Rattle.bank_tables.specs.Sums.{total_z}
use Rattle.bank_tables.specs.Tables.{size, stimulus}
use Rattle.form_model.specs.Forms.{stimuli_of}
use Rattle.certificate_model.specs.Paths.{Path}
use Rattle.constraint_model.specs.Views.{problem_of}
use Rattle.certificate_check.specs.Cuts.{path_of}
use Rattle.certificate_check.specs.Weights.{excess_top}
use Rattle.certificate_check.specs.Maximum.{gain_of_stimulus}
use Rattle.certificate_model.specs.Ranges.{IsWithin, at}
use Rattle.certificate_check.proofs.Steps.{greatest_at_most}
use Rattle.certificate_check.proofs.relaxed.gains.Goals as goal

step : (k : ℕ) (a b a' : ℤ) → k < 64 → a' ≡ a → IsWithin (k * 73323252256079872) a → IsWithin 73323252256079872 b → to_z w64 (of_z w64 (a' +ℤ to_z w64 (of_z w64 b))) ≡ a +ℤ b
step k a b a' few e wa wb = omega (arith, ints)

more_within : (k : ℕ) (a b : ℤ) → IsWithin (k * 73323252256079872) a → IsWithin 73323252256079872 b → IsWithin ((k + 1) * 73323252256079872) (a +ℤ b)
more_within k a b wa wb = record { low = omega (arith, ints); high = omega (arith, ints) }

wider : (k : ℕ) (a : ℤ) → k ≤ 64 → IsWithin (k * 73323252256079872) a → IsWithin 4692688144389111808 a
wider k a few w = record { low = omega (arith, ints); high = omega (arith, ints) }

read_back : (z : ℤ) → IsWithin excess_top z → to_z w64 (of_z w64 z) ≡ z
read_back z w = omega (arith, ints)

sum_fits : (k : ℕ) (a b : ℤ) → k < 64 → IsWithin (k * 73323252256079872) a → IsWithin 73323252256079872 b → FitsSigned w64 (a +ℤ to_z w64 (of_z w64 b))
sum_fits k a b few wa wb = omega (arith, ints)

pub bounds-excesses-k : goal.bounds-excesses-k
bounds-excesses-k c =
    let P = problem_of c.args.problem.now in
    let most : stimuli_of P.bank ≤ 64 = greatest_at_most (size P.bank) 64 (stimulus P.bank) c.requires.well_made.bank.stimulus_high in
    omega (arith, c.stimuli-k-end.ensures)

pub gain_of_stimulus-sum-requires-clause-excess : goal.gain_of_stimulus-sum-requires-clause-excess
gain_of_stimulus-sum-requires-clause-excess c =
    let P = problem_of c.args.problem.now in
    let most : stimuli_of P.bank ≤ 64 = greatest_at_most (size P.bank) 64 (stimulus P.bank) c.requires.well_made.bank.stimulus_high in
    let few : c.loop-k.k < 64 = omega (arith, c.stimuli-k-end.ensures) in
    let within : IsWithin excess_top (at c.args.excesses.now c.loop-k.k) = c.requires.excesses c.loop-k.k few in
    subst (IsWithin excess_top) (sym (read_back (at c.args.excesses.now c.loop-k.k) within)) within

pub overflow_add-sum : goal.overflow_add-sum
overflow_add-sum c =
    let P = problem_of c.args.problem.now in
    let most : stimuli_of P.bank ≤ 64 = greatest_at_most (size P.bank) 64 (stimulus P.bank) c.requires.well_made.bank.stimulus_high in
    let few : c.loop-k.k < 64 = omega (arith, c.stimuli-k-end.ensures) in
    sum_fits c.loop-k.k (to_z w64 c.loop-k.sum-bits) c.gain_of_stimulus-sum.result few c.loop-k.invariant.within c.gain_of_stimulus-sum.ensures.within

pub loop-k-preserved : goal.loop-k-preserved
loop-k-preserved c =
    let P = problem_of c.args.problem.now in
    let p : Path = path_of c.args.standing.now.cut in
    let M : ℕ → ℕ = slice_index c.args.sides.now in
    let k = c.loop-k.k in
    let term : ℤ = c.gain_of_stimulus-sum.result in
    let most : stimuli_of P.bank ≤ 64 = greatest_at_most (size P.bank) 64 (stimulus P.bank) c.requires.well_made.bank.stimulus_high in
    let few : k < 64 = omega (arith, c.stimuli-k-end.ensures) in
    let sum : ℤ = to_z w64 c.loop-k.sum-bits in
    let e-sum : to_z w64 (of_z w64 (sum +ℤ to_z w64 (of_z w64 term))) ≡ sum +ℤ term = step k sum term sum few refl c.loop-k.invariant.within c.gain_of_stimulus-sum.ensures.within in
    let e-term : term ≡ gain_of_stimulus P p M (at c.args.excesses.now k) (suc k) = c.gain_of_stimulus-sum.ensures.value ∙ ap (λ (e : ℤ). gain_of_stimulus P p M e (k + 1)) (read_back (at c.args.excesses.now k) (c.requires.excesses k few)) ∙ ap (λ (s : ℕ). gain_of_stimulus P p M (at c.args.excesses.now k) s) (add-one k) in
    record {
      value = rw add-one (e-sum ∙ ap (λ z. z +ℤ term) c.loop-k.invariant.value ∙ ap (λ z. total_z k (λ j. gain_of_stimulus P p M (at c.args.excesses.now j) (suc j)) +ℤ z) e-term);
      within = subst (IsWithin ((k + 1) * 73323252256079872)) (sym e-sum) (more_within k sum term c.loop-k.invariant.within c.gain_of_stimulus-sum.ensures.within);
    }

pub returns-clause-within : goal.returns-clause-within
returns-clause-within c =
    let P = problem_of c.args.problem.now in
    let most : stimuli_of P.bank ≤ 64 = greatest_at_most (size P.bank) 64 (stimulus P.bank) c.requires.well_made.bank.stimulus_high in
    let few : c.loop-k.k ≤ 64 = omega (arith, c.stimuli-k-end.ensures) in
    wider c.loop-k.k (to_z w64 c.loop-k.sum-bits) few c.loop-k.invariant.within
