use Rattle.std.proofs.Common.{◌≡◌, ℕ, ◌+◌, ◌*◌, ◌<◌, true, arith, ap, ◌∙◌, sym, subst, to_z, of_z, add-one}
use Rattle.std.specs.Prelude.{ℤ, pos, ◌+ℤ◌, slice_index}
use Rattle.std.specs.Int.{w128}
use Rattle.std.proofs.Math.Path.{fun_ext}
use Rattle.bank_tables.specs.Sums.{sum_in}
use Rattle.bank_tables.specs.Tables.{size}
use Rattle.certificate_model.specs.Ranges.{IsWithin}
use Rattle.certificate_model.specs.Relaxed.{multiplier}
use Rattle.series_model.specs.Series.{SeriesProblem}
use Rattle.series_model.specs.SeriesBounds.{uses}
use Rattle.series_model.specs.SeriesPaths.{SeriesPath}
use Rattle.series_check.specs.Cuts.{problem_of, path_of}
use Rattle.series_check.specs.Maximum.{maximum_top}
use Rattle.series_check.proofs.MaximumLaws.{no_forms, one_more_form, none_of_all}
use Rattle.series_check.proofs.Wide.{wide_top, nearer, both_within, summed, from_unsigned, unsigned_within}
use Rattle.series_check.proofs.relaxed.relaxed_maximum.Goals as goal

pub loop-f-init : goal.loop-f-init
loop-f-init c =
    let Q : SeriesProblem = problem_of c.args.setting.now in
    let n = c.uses-sum.result in
    let is : to_z w128 n ≡ pos n = from_unsigned n (omega (arith, c.uses-sum.ensures.high)) in
    record {
      maximum = λ v are. (let all : slice_index c.args.sides.now ≡ multiplier v = fun_ext are in
          let e : n ≡ uses Q v = c.uses-sum.ensures.value ∙ ap (λ (M : ℕ → ℕ). sum_in (size Q.bank) (λ _. true) (λ i. M (256 + i))) all in
          no_forms Q (path_of c.args.cut.now) v c.args.ray (to_z w128 n) (is ∙ ap (λ (m : ℕ). pos m) e));
      within = subst (IsWithin 2199023255040) (sym is) (unsigned_within n 2199023255040 c.uses-sum.ensures.high);
    }

pub returns-in-None : goal.returns-in-None
returns-in-None c v are r maximum = none_of_all (problem_of c.args.setting.now) (path_of c.args.cut.now) v c.args.ray c.loop-f.f c.loop-f-test.true (c.in-None.ensures.maximum v are) r maximum

pub loop-f-preserved : goal.loop-f-preserved
loop-f-preserved c =
    let Q : SeriesProblem = problem_of c.args.setting.now in
    let p : SeriesPath = path_of c.args.cut.now in
    let k = c.loop-f.f in
    let sum : ℤ = to_z w128 c.loop-f.sum-bits in
    let term : ℤ = c.in-Some.maximum in
    let few : k < 4 = omega (arith, c.loop-f-test.true, c.requires.few_forms) in
    let before = c.loop-f.invariant.within in
    let within : IsWithin maximum_top term = c.in-Some.ensures.within in
    let e-sum : to_z w128 (of_z w128 (sum +ℤ to_z w128 (of_z w128 term))) ≡ sum +ℤ term =
    summed sum term (nearer (2199023255040 + k * 400000000000000000000000) wide_top sum (omega arith) before) (nearer maximum_top wide_top term (omega arith) within) in
    record {
      maximum = λ v are. rw (add-one, e-sum) (one_more_form Q p v c.args.ray k sum term (c.loop-f.invariant.maximum v are) (c.in-Some.ensures.maximum v are));
      within = subst (IsWithin (2199023255040 + (k + 1) * 400000000000000000000000)) (sym e-sum)
          (both_within (2199023255040 + k * 400000000000000000000000) maximum_top (2199023255040 + (k + 1) * 400000000000000000000000) sum term (omega arith) before within);
    }
