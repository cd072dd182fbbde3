use Rattle.std.proofs.Common.{◌≡◌, Bool, Option, Some, None, subst}
use Rattle.std.specs.Prelude.{ℤ, ◌≤ℤ◌}
use Rattle.form_model.specs.Problem.{Problem}
use Rattle.certificate_model.specs.Paths.{Path}
use Rattle.certificate_model.specs.Relaxed.{Multipliers}
use Rattle.certificate_model.proofs.SomeMaximum.{one_maximum}
use Rattle.constraint_model.specs.Views.{problem_of}
use Rattle.lagrange_bound.specs.Bounds.{IsBound}
use Rattle.multiplier_steps.specs.Improvement.{AreInOrder, IsNoHigher}
use Rattle.multiplier_steps.proofs.ascent.is_no_higher.Goals as goal

in_order : (P : Problem) (p : Path) (ray : Bool) (v u : Multipliers) (to from : Option ℤ) → IsBound P p u ray to → IsBound P p v ray from → AreInOrder to from → IsNoHigher P p ray v u
in_order P p ray v u None from is_to is_from order = absurd order
in_order P p ray v u (Some b) None is_to is_from order = absurd order
in_order P p ray v u (Some b) (Some a) is_to is_from order =
    λ r q is_r is_q.
    let old : a ≡ r = one_maximum P p v ray a r is_from is_r in
    let new : b ≡ q = one_maximum P p u ray b q is_to is_q in
    subst (λ (z : ℤ). q ≤ℤ z) old (subst (λ (z : ℤ). z ≤ℤ a) new order)

pub returns : goal.returns
returns c holds p is = in_order (problem_of c.args.problem.now) p c.args.ray c.args.from.now c.args.to.now c.bound.result c.bound-2.result (c.bound.ensures.maximum p is) (c.bound-2.ensures.maximum p is) (c.is_at_most.ensures holds)
