use Rattle.std.proofs.Common.{◌≡◌, ◌<◌, length, arith, ◌∙◌, to_z, of_z, sym, subst}
use Rattle.std.specs.Prelude.{ℤ, slice_index}
use Rattle.std.specs.Int.{w128}
use Rattle.std.proofs.lemmas.List.{length-set}
use Rattle.certificate_model.specs.Ranges.{IsWithin}
use Rattle.certificate_check.proofs.TopLaws.{written}
use Rattle.series_check.specs.Cuts.{problem_of}
use Rattle.series_check.specs.Maximum.{weight_at}
use Rattle.series_check.specs.Tops.{weight_top}
use Rattle.series_check.proofs.Wide.{wide_top, nearer, read_back}
use Rattle.series_check.proofs.relaxed.weights.Goals as goal

pub loop-i-preserved : goal.loop-i-preserved
loop-i-preserved c =
    let Q = problem_of c.args.setting.now in
    let term : ℤ = c.weight.result in
    let new : ℤ = to_z w128 (of_z w128 term) in
    let same : new ≡ term = read_back term (nearer weight_top wide_top term (omega arith) c.weight.ensures.within) in
    let within : c.loop-i.i < length c.loop-i.weights = omega (arith, c.loop-i.invariant.0, c.requires.problem.bank.few) in (
      length-set c.loop-i.weights c.loop-i.i new ∙ c.loop-i.invariant.0,
      written (λ k z. (z ≡ weight_at Q (slice_index c.args.sides.now) (slice_index c.args.own.now) c.args.ray c.args.form k) × IsWithin weight_top z) c.loop-i.weights c.loop-i.i new within c.loop-i.invariant.1 (same ∙ c.weight.ensures.value, subst (IsWithin weight_top) (sym same) c.weight.ensures.within),
    )
