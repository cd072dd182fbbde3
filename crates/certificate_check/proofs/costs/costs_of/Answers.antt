use Rattle.std.proofs.Common.{◌≡◌, ◌<◌, ◌≤◌, ◌*◌, ◌+◌, ◌==◌, ℕ, suc, sym, ◌∙◌, ap, subst, arith, false, w64, to_z, of_z}
use Rattle.std.proofs.Math.Path.{fun_ext}
use Rattle.std.specs.Prelude.{ℤ, pos, ◌+ℤ◌, ◌-ℤ◌, ◌*ℤ◌, List, slice_index}
use Rattle.std.specs.Int.{int_max}
use Rattle.bank_tables.specs.Sums.{sum_in_z, total_z}
use Rattle.bank_tables.specs.Tables.{size, stimulus}
use Rattle.form_model.specs.Forms.{stimuli_of}
use Rattle.form_model.specs.Problem.{Problem}
use Rattle.certificate_model.specs.Fixing.{is_single, places_left}
use Rattle.certificate_model.specs.Paths.{Path}
use Rattle.certificate_model.specs.Ranges.{IsWithin, at}
use Rattle.certificate_model.specs.Relaxed.{Multipliers, multiplier, cap_side}
use Rattle.certificate_model.specs.Weights.{price, item_weight, stimulus_weight, rows_constant}
use Rattle.constraint_model.specs.Views.{problem_of}
use Rattle.certificate_check.specs.Costs.{bound_top, room_top}
use Rattle.certificate_check.specs.Cuts.{path_of}
use Rattle.certificate_check.specs.Maximum.{gain_of_stimulus}
use Rattle.certificate_check.specs.Weights.{excess_at}
use Rattle.certificate_check.proofs.CostLaws.{read_back, wider, margins_are, uses_are, room_is}
use Rattle.certificate_check.proofs.Steps.{greatest_at_most}
use Rattle.certificate_check.proofs.costs.costs_of.Goals as goal

pub returns-clause-costs : goal.returns-clause-costs
returns-clause-costs c =
    let P : Problem = problem_of c.args.problem.now in
    let p : Path = path_of c.args.standing.now.cut in
    let v : Multipliers = c.args.vector.now in
    let M : ℕ → ℕ = slice_index c.sides_of-sides.result in
    let multipliers : M ≡ multiplier v = fun_ext c.sides_of-sides.ensures.value in
    let weights : List ℤ = c.item_weights-weights.result in
    let margins : List ℤ = c.margins_of-margins.result in
    let excesses : List ℤ = c.excesses_of-excesses.result in
    let bound : ℤ = c.bound_of-bound.result in
    let left : ℤ = c.room_of.result in
    let weighed : (i : ℕ) → i < size P.bank → at weights i ≡ item_weight P (multiplier v) false i = λ i w. c.item_weights-weights.ensures.value i w ∙ ap (λ (N : ℕ → ℕ). item_weight P N false i) multipliers in
    let cap-is : to_z w64 (of_z w64 c.cap.result) ≡ price (multiplier v) cap_side = read_back c.cap.result (wider 16777216 c.cap.result (omega arith) c.cap.ensures.within) ∙ c.cap.ensures.cap ∙ ap (λ (N : ℕ → ℕ). price N cap_side) multipliers in
    let lowered : (i : ℕ) → i < size P.bank → at margins i ≡ at weights i -ℤ price (multiplier v) cap_side = λ i w. c.margins_of-margins.ensures.value i w ∙ ap (λ (z : ℤ). at weights i -ℤ z) cap-is in
    let above : (k : ℕ) → k < 64 → at excesses k ≡ sum_in_z (size P.bank) (λ i. stimulus P.bank i == suc k) (excess_at P p (multiplier v) weights) = subst (λ (N : ℕ → ℕ). (k : ℕ) → k < 64 → at excesses k ≡ sum_in_z (size P.bank) (λ i. stimulus P.bank i == suc k) (excess_at P p N weights)) multipliers c.excesses_of-excesses.ensures.value in
    let few : stimuli_of P.bank ≤ 64 = greatest_at_most (size P.bank) 64 (stimulus P.bank) c.requires.well_made.bank.stimulus_high in
    let summed : (k : ℕ) → k < stimuli_of P.bank → at c.uses_of.result k ≡ stimulus_weight P (multiplier v) (suc k) +ℤ at excesses k = subst (λ (N : ℕ → ℕ). (k : ℕ) → k < stimuli_of P.bank → at c.uses_of.result k ≡ stimulus_weight P N (suc k) +ℤ at excesses k) multipliers c.uses_of.ensures.value in
    let total : bound ≡ (rows_constant P (multiplier v) +ℤ sum_in_z (size P.bank) p.taken (at weights)) +ℤ ((pos (places_left P p) *ℤ price (multiplier v) cap_side) +ℤ (sum_in_z (size P.bank) (is_single P p) (λ i. int_max (pos 0) (at margins i)) +ℤ total_z (stimuli_of P.bank) (λ k. gain_of_stimulus P p (multiplier v) (at excesses k) (suc k)))) =
    subst (λ (N : ℕ → ℕ). bound ≡ (rows_constant P N +ℤ sum_in_z (size P.bank) p.taken (at weights)) +ℤ ((pos (places_left P p) *ℤ price N cap_side) +ℤ (sum_in_z (size P.bank) (is_single P p) (λ i. int_max (pos 0) (at margins i)) +ℤ total_z (stimuli_of P.bank) (λ k. gain_of_stimulus P p N (at excesses k) (suc k))))) multipliers c.bound_of-bound.ensures.value in
    let back : to_z w64 (of_z w64 bound) ≡ bound = read_back bound (wider bound_top bound (omega arith) c.bound_of-bound.ensures.within) in
    let lower : left ≡ bound -ℤ pos (256 * c.args.goal + 255) = c.room_of.ensures.value ∙ ap (λ (z : ℤ). z -ℤ pos (256 * c.args.goal + 255)) back in
    let same : to_z w64 (of_z w64 left) ≡ left = read_back left c.room_of.ensures.within in
    record {
      margins_are = margins_are P p v weights margins excesses weighed lowered above few;
      margins_within = c.margins_of-margins.ensures.within;
      uses_are = uses_are P p v weights margins excesses weighed lowered above few c.uses_of.result summed;
      uses_within = c.uses_of.ensures.within;
      room_within = subst (IsWithin room_top) (sym same) c.room_of.ensures.within;
      room_is = same ∙ room_is P p v weights margins excesses weighed lowered above few c.args.goal bound left total lower;
    }
