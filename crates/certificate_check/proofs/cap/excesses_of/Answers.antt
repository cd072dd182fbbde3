use Rattle.std.proofs.Common.{◌≡◌, ◌≤◌, ◌+◌, ◌*◌, ◌==◌, ℕ, suc, Bool, true, false, cond, arith, ap, ◌∙◌, sym, subst, add-one, w64, to_z, of_z}
use Rattle.std.specs.Prelude.{ℤ, pos, ◌+ℤ◌, slice_index}
use Rattle.std.proofs.lemmas.Int.{ints}
use Rattle.bank_tables.specs.Sums.{sum_in_z}
use Rattle.bank_tables.specs.Tables.{stimulus}
use Rattle.certificate_model.specs.Paths.{Path}
use Rattle.certificate_model.specs.Ranges.{IsWithin, at}
use Rattle.constraint_model.specs.Views.{problem_of}
use Rattle.certificate_check.specs.Cuts.{path_of}
use Rattle.certificate_check.specs.Weights.{excess_top, excess_at}
use Rattle.certificate_check.proofs.CapLaws.{zeros}
use Rattle.certificate_check.proofs.cap.excesses_of.Goals as goal

wider : (i : ℕ) (z : ℤ) → i ≤ 512 → IsWithin (i * 141835108499456) z → IsWithin excess_top z
wider i z few w = record { low = omega (arith, ints, w.low); high = omega (arith, ints, w.high) }

more_within : (i : ℕ) (a b : ℤ) (here : Bool) → IsWithin (i * 141835108499456) a → IsWithin 141835108499456 b → IsWithin ((i + 1) * 141835108499456) (a +ℤ cond here b (pos 0))
more_within i a b true wa wb = record { low = omega (arith, ints); high = omega (arith, ints) }
more_within i a b false wa wb = record { low = omega (arith, ints); high = omega (arith, ints) }

read_back : (z : ℤ) → IsWithin 141835108499456 z → to_z w64 (of_z w64 z) ≡ z
read_back z w = omega (arith, ints)

none_within : IsWithin 0 (pos 0)
none_within = record { low = omega (arith, ints); high = omega (arith, ints) }

pub loop-i-init : goal.loop-i-init
loop-i-init c = λ k w. let e = zeros 64 k in (e, subst (IsWithin 0) (sym e) none_within)

pub add_excess-requires-clause-excesses : goal.add_excess-requires-clause-excesses
add_excess-requires-clause-excesses c = λ k w. wider c.loop-i.i (at c.loop-i.excesses k) (omega (arith, c.requires.well_made.bank.few)) (c.loop-i.invariant k w).1

pub loop-i-preserved : goal.loop-i-preserved
loop-i-preserved c =
    λ k w.
    let P = problem_of c.args.problem.now in
    let p : Path = path_of c.args.standing.now.cut in
    let e : ℕ → ℤ = excess_at P p (slice_index c.args.sides.now) c.args.weights.now in
    let i = c.loop-i.i in
    let here : Bool = stimulus P.bank i == suc k in
    let old : ℤ = at c.loop-i.excesses k in
    let above : ℤ = c.excess-above.result in
    let same : to_z w64 (of_z w64 above) ≡ above = read_back above c.excess-above.ensures.within in
    let raised : at c.add_excess.new.excesses k ≡ old +ℤ cond here above (pos 0) = c.add_excess.ensures k w ∙ ap (λ (z : ℤ). old +ℤ cond (c.stimulus.result == suc k) z (pos 0)) same ∙ ap (λ (s : ℕ). old +ℤ cond (s == suc k) above (pos 0)) c.stimulus.ensures in (
      rw add-one (raised ∙ ap (λ (z : ℤ). z +ℤ cond here above (pos 0)) (c.loop-i.invariant k w).0 ∙ ap (λ (z : ℤ). sum_in_z i (λ i. stimulus P.bank i == suc k) e +ℤ cond here z (pos 0)) c.excess-above.ensures.value),
      subst (IsWithin ((i + 1) * 141835108499456)) (sym raised) (more_within i old above here (c.loop-i.invariant k w).1 c.excess-above.ensures.within),
    )
