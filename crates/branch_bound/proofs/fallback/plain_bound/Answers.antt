use Rattle.std.proofs.Common.{◌≡◌, subst, Option, Some, [], false, arith, w64, to_z, of_z}
use Rattle.std.proofs.lemmas.Int.{ints}
use Rattle.std.specs.Prelude.{ℤ}
use Rattle.certificate_model.specs.Relaxed.{Multipliers, IsRelaxedMaximum}
use Rattle.constraint_model.specs.Views.{problem_of}
use Rattle.lagrange_bound.specs.Bounds.{IsBound}
use Rattle.branch_bound.proofs.LeafLaws.{bound_there}
use Rattle.branch_bound.proofs.fallback.plain_bound.Goals as goal

pub unwrap-requires : goal.unwrap-requires
unwrap-requires c =
    let cut = c.requires.cut in
    bound_there (problem_of c.args.problem.now) cut.path c.args.plain.now c.bound.result (c.bound.ensures.maximum cut.path cut.is) (c.requires.possible cut.path cut.is)

pub returns : goal.returns
returns c = λ p is.
    let P = problem_of c.args.problem.now in
    let there : IsBound P p c.args.plain.now false (Some c.unwrap.result) = subst (λ (r : Option ℤ). IsBound P p c.args.plain.now false r) c.unwrap.ensures (c.bound.ensures.maximum p is) in
    let plainly : IsRelaxedMaximum P p [] false c.unwrap.result = subst (λ (v : Multipliers). IsBound P p v false (Some c.unwrap.result)) c.requires.plain there in
    let same : c.unwrap.result ≡ to_z w64 (of_z w64 c.unwrap.result) = omega (arith, ints) in
    subst (λ (r : ℤ). IsRelaxedMaximum P p [] false r) same plainly
