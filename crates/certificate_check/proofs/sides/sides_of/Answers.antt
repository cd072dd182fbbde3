use Rattle.std.proofs.Common.{◌≡◌, ◌≤◌, ◌<◌, ◌+◌, ℕ, List, length, drop, get_or, arith, refl, sym, ◌∙◌, subst}
use Rattle.std.proofs.Math.ListN.{drop_of_length-le}
use Rattle.std.proofs.lemmas.List.{length-set, drop_more}
use Rattle.certificate_model.specs.Relaxed.{Multipliers, multiplier}
use Rattle.certificate_check.proofs.SideLaws.{IsRead, none_read, more_read, all_read, multiplier_high}
use Rattle.certificate_check.proofs.sides.sides_of.Goals as goal

pub loop-side-init : goal.loop-side-init
loop-side-init c = (refl, (0, none_read c.args.vector.now 386 c.requires.vector))

pub loop-side-preserved : goal.loop-side-preserved
loop-side-preserved c =
    let v : Multipliers = c.args.vector.now in
    let i = c.loop-side.side-index in
    let pair : ℕ × ℕ = get_or v i (0, 0) in
    let low : pair.0 < 386 = c.requires.sides i (0, 0) c.loop-side-test.true in
    let (from, read) = c.loop-side.invariant.1 in (
      length-set c.loop-side.sides pair.0 pair.1 ∙ c.loop-side.invariant.0,
      (
        pair.0 + 1,
        more_read v (drop (i + 1) v) pair c.loop-side.sides from (omega (arith, c.loop-side.invariant.0)) (subst (λ (left : Multipliers). IsRead v left c.loop-side.sides from) (drop_more v i (0, 0) c.loop-side-test.true) read),
      ),
    )

-- at the end of the vector the sides are its multipliers
ended : (v : Multipliers) (i : ℕ) (sides : List ℕ) → length v ≤ i → ((from : ℕ) × IsRead v (drop i v) sides from) → (k : ℕ) → get_or sides k 0 ≡ multiplier v k
ended v i sides past (from, read) = all_read v sides from (subst (λ (left : Multipliers). IsRead v left sides from) (drop_of_length-le v past) read)

pub returns-clause-value : goal.returns-clause-value
returns-clause-value c = ended c.args.vector.now c.loop-side.side-index c.loop-side.sides c.loop-side-test.false c.loop-side.invariant.1

pub returns-clause-high : goal.returns-clause-high
returns-clause-high c =
    λ k.
    subst (λ (m : ℕ). m ≤ 16777216) (sym (ended c.args.vector.now c.loop-side.side-index c.loop-side.sides c.loop-side-test.false c.loop-side.invariant.1 k)) (multiplier_high 0 k c.args.vector.now c.requires.vector)
