use Rattle.std.proofs.Common.{◌≡◌, ◌<◌, ◌≤◌, ◌+◌, ℕ, suc, length, arith, ◌∙◌, ap, add-one, w64, to_z, of_z, sym, subst}
use Rattle.std.specs.Prelude.{ℤ, ◌+ℤ◌, slice_index}
use Rattle.std.proofs.lemmas.List.{length-set}
use Rattle.bank_tables.specs.Tables.{size, stimulus}
use Rattle.form_model.specs.Forms.{stimuli_of}
use Rattle.certificate_model.specs.Ranges.{IsWithin, at}
use Rattle.certificate_model.specs.Weights.{stimulus_weight}
use Rattle.constraint_model.specs.Views.{problem_of}
use Rattle.certificate_check.specs.Weights.{excess_top, gain_top}
use Rattle.certificate_check.proofs.CostLaws.{read_back, wider}
use Rattle.certificate_check.proofs.Steps.{greatest_at_most}
use Rattle.certificate_check.proofs.TopLaws.{written}
use Rattle.certificate_check.proofs.costs.uses_of.Goals as goal

pub bounds-excesses-k : goal.bounds-excesses-k
bounds-excesses-k c =
    let P = problem_of c.args.problem.now in
    let most : stimuli_of P.bank ≤ 64 = greatest_at_most (size P.bank) 64 (stimulus P.bank) c.requires.well_made.bank.stimulus_high in
    omega (arith, c.stimuli-k-end.ensures)

pub bounds-uses-k : goal.bounds-uses-k
bounds-uses-k c =
    let P = problem_of c.args.problem.now in
    let most : stimuli_of P.bank ≤ 64 = greatest_at_most (size P.bank) 64 (stimulus P.bank) c.requires.well_made.bank.stimulus_high in
    omega (arith, c.stimuli-k-end.ensures, c.loop-k.invariant.0)

pub use_of-requires-clause-excess : goal.use_of-requires-clause-excess
use_of-requires-clause-excess c =
    let P = problem_of c.args.problem.now in
    let most : stimuli_of P.bank ≤ 64 = greatest_at_most (size P.bank) 64 (stimulus P.bank) c.requires.well_made.bank.stimulus_high in
    let few : c.loop-k.k < 64 = omega (arith, c.stimuli-k-end.ensures) in
    let within : IsWithin excess_top (at c.args.excesses.now c.loop-k.k) = c.requires.excesses c.loop-k.k few in
    subst (IsWithin excess_top) (sym (read_back (at c.args.excesses.now c.loop-k.k) (wider excess_top _ (omega arith) within))) within

pub loop-k-preserved : goal.loop-k-preserved
loop-k-preserved c =
    let P = problem_of c.args.problem.now in
    let M : ℕ → ℕ = slice_index c.args.sides.now in
    let k = c.loop-k.k in
    let term : ℤ = c.use_of.result in
    let new : ℤ = to_z w64 (of_z w64 term) in
    let excess : ℤ = at c.args.excesses.now k in
    let most : stimuli_of P.bank ≤ 64 = greatest_at_most (size P.bank) 64 (stimulus P.bank) c.requires.well_made.bank.stimulus_high in
    let few : k < 64 = omega (arith, c.stimuli-k-end.ensures) in
    let same : new ≡ term = read_back term (wider gain_top term (omega arith) c.use_of.ensures.within) in
    let back : to_z w64 (of_z w64 excess) ≡ excess = read_back excess (wider excess_top excess (omega arith) (c.requires.excesses k few)) in
    let e : term ≡ stimulus_weight P M (suc k) +ℤ excess = c.use_of.ensures.value ∙ ap (λ (z : ℤ). stimulus_weight P M (k + 1) +ℤ z) back ∙ ap (λ (s : ℕ). stimulus_weight P M s +ℤ excess) (add-one k) in
    let within : k < length c.loop-k.uses = omega (arith, c.loop-k.invariant.0) in (
      length-set c.loop-k.uses k new ∙ c.loop-k.invariant.0,
      written (λ j z. (z ≡ stimulus_weight P M (suc j) +ℤ at c.args.excesses.now j) × IsWithin gain_top z) c.loop-k.uses k new within c.loop-k.invariant.1 (same ∙ e, subst (IsWithin gain_top) (sym same) c.use_of.ensures.within),
    )
