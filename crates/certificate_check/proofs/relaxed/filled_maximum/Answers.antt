use Rattle.std.proofs.Common.{◌≡◌, ◌<◌, ℕ, sym, ◌∙◌, ap, subst, arith, Bool, false, cond, w64, to_z, of_z}
use Rattle.std.proofs.Math.Path.{fun_ext}
use Rattle.std.specs.Prelude.{ℤ, pos, List, Some, None, slice_index}
use Rattle.std.proofs.lemmas.Int.{ints}
use Rattle.bank_tables.specs.Tables.{size}
use Rattle.certificate_model.specs.ProofTrees.{IsVector}
use Rattle.certificate_model.specs.Paths.{Path}
use Rattle.form_model.specs.Problem.{Problem}
use Rattle.certificate_model.specs.Ranges.{IsWithin, at}
use Rattle.certificate_model.specs.Weights.{price, item_weight}
use Rattle.certificate_model.specs.Relaxed.{Multipliers, multiplier, cap, cap_side, IsRelaxedMaximum}
use Rattle.constraint_model.specs.Views.{problem_of}
use Rattle.certificate_check.specs.Weights.{excess_top}
use Rattle.certificate_check.specs.Caps.{has_cap}
use Rattle.certificate_check.specs.Cuts.{path_of}
use Rattle.certificate_check.proofs.CapLaws.{cap_is, zeros, without_cap}
use Rattle.certificate_check.proofs.relaxed.filled_maximum.Goals as goal

-- without a multiplier at the cap's sides there is no cap
no_cap : (v : Multipliers) (M : ℕ → ℕ) → M ≡ multiplier v → IsVector 0 v → has_cap M ≡ false → cap v ≡ None
no_cap v M e is test = cap_is v is ∙ ap (λ (x : Bool). cond x (Some (price (multiplier v) cap_side)) None) (ap has_cap (sym e) ∙ test)

read_back : (z : ℤ) → IsWithin 4909983772838985728 z → to_z w64 (of_z w64 z) ≡ z
read_back z w = omega (arith, ints)

none_within : IsWithin excess_top (pos 0)
none_within = record { low = omega (arith, ints); high = omega (arith, ints) }

pub value_with-requires-clause-excesses : goal.value_with-requires-clause-excesses
value_with-requires-clause-excesses c = λ k w. subst (IsWithin excess_top) (sym (zeros 64 k)) none_within

pub returns-then-not-has_cap : goal.returns-then-not-has_cap
returns-then-not-has_cap c =
    let P : Problem = problem_of c.args.problem.now in
    let p : Path = path_of c.args.standing.now.cut in
    let v : Multipliers = c.args.vector.now in
    let M : ℕ → ℕ = slice_index c.sides_of-sides.result in
    let multipliers : M ≡ multiplier v = fun_ext c.sides_of-sides.ensures.value in
    let weights : List ℤ = c.item_weights-weights.result in
    let weighed : (i : ℕ) → i < size P.bank → at weights i ≡ item_weight P (multiplier v) c.args.ray i = λ i w. c.item_weights-weights.ensures.value i w ∙ ap (λ (N : ℕ → ℕ). item_weight P N c.args.ray i) multipliers in
    let none : cap v ≡ None = no_cap v M multipliers c.requires.vector (sym c.has_cap.ensures ∙ c.if-not-has_cap.true) in
    subst (IsRelaxedMaximum P p v c.args.ray) (sym (read_back c.value_with.result c.value_with.ensures.within)) (c.value_with.ensures.maximum v c.args.ray multipliers (without_cap P p v c.args.ray weights weighed 64 none))

pub returns : goal.returns
returns c =
    let P : Problem = problem_of c.args.problem.now in
    let p : Path = path_of c.args.standing.now.cut in
    let v : Multipliers = c.args.vector.now in
    let M : ℕ → ℕ = slice_index c.sides_of-sides.result in
    let multipliers : M ≡ multiplier v = fun_ext c.sides_of-sides.ensures.value in
    let weights : List ℤ = c.item_weights-weights.result in
    let weighed : (i : ℕ) → i < size P.bank → at weights i ≡ item_weight P (multiplier v) c.args.ray i = λ i w. c.item_weights-weights.ensures.value i w ∙ ap (λ (N : ℕ → ℕ). item_weight P N c.args.ray i) multipliers in
    subst (IsRelaxedMaximum P p v c.args.ray) (sym (read_back c.capped_maximum.result c.capped_maximum.ensures.within))
    (c.capped_maximum.ensures.maximum v c.args.ray c.requires.vector multipliers weighed)
