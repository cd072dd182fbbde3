use Rattle.std.proofs.Common.{◌≡◌, w64, to_z, of_z, sym, subst, arith}
use Rattle.std.specs.Prelude.{ℤ, ◌≤ℤ◌}
use Rattle.std.proofs.lemmas.Int.{ints}
use Rattle.certificate_model.specs.Relaxed.{Multipliers}
use Rattle.constraint_model.specs.Views.{problem_of}
use Rattle.std.proofs.Common.{true, false, Bool}
use Rattle.bank_tables.specs.Items.{Set}
use Rattle.form_model.specs.Problem.{Problem}
use Rattle.certificate_model.specs.Paths.{Path, Under}
use Rattle.certificate_model.specs.Relaxed.{IsRelaxedMaximum}
use Rattle.certificate_model.proofs.Duality.{weak_duality, weak_ray}
use Rattle.lagrange_bound.specs.Bounds.{bounded_value}
use Rattle.lagrange_bound.proofs.relaxation.bound.Goals as goal

above : (P : Problem) (p : Path) (v : Multipliers) (ray : Bool) (r : ℤ) (X : Set) → IsRelaxedMaximum P p v ray r → Under P p X → bounded_value P ray X ≤ℤ r
above P p v true r X is under = weak_ray P p v r X is under
above P p v false r X is under = weak_duality P p v r X is under

pub returns-in-Some-clause-above : goal.returns-in-Some-clause-above
returns-in-Some-clause-above c p is X under =
    let P = problem_of c.args.problem.now in
    let r : ℤ = c.maximum.result in
    let same : to_z w64 (of_z w64 r) ≡ r = omega (arith, ints) in
    subst (λ (z : ℤ). bounded_value P c.args.ray X ≤ℤ z) (sym same) (above P p c.args.vector.now c.args.ray r X (c.maximum.ensures p is) under)
