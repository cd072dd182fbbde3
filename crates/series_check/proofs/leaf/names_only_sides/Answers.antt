use Rattle.std.proofs.Common.{◌≡◌, ℕ, ◌+◌, ◌<◌, ◌⊎◌, inl, inr, Bool, get_or, refl, sym, ◌∙◌, subst, arith}
use Rattle.std.proofs.Math.Bool.{true≢false}
use Rattle.std.proofs.lemmas.List.{get_or_default}
use Rattle.series_model.specs.SeriesTrees.{names_pool}
use Rattle.series_model.specs.SeriesVerdicts.{IsSide}
use Rattle.series_check.specs.Cuts.{problem_of}
use Rattle.series_check.proofs.leaf.names_only_sides.Goals as goal

last_or : (i n : ℕ) → i < n + 1 → (i < n) ⊎ (i ≡ n)
last_or i n w = grind arith

pub returns-then-not-is_side : goal.returns-then-not-is_side
returns-then-not-is_side c = (
  λ h. absurd (true≢false (sym h)),
  λ all. absurd (true≢false (sym (c.is_side.ensures.1 (subst (λ (pool : Bool). IsSide (problem_of c.args.setting.now) pool (get_or c.args.vector.now c.loop-pair.pair-index (0, 0)).0) (sym c.requires.pool) (all c.loop-pair.pair-index (0, 0) c.loop-pair-test.true))) ∙ c.if-not-is_side.true)),
)

pub loop-pair-preserved : goal.loop-pair-preserved
loop-pair-preserved c k d w =
    elim (last_or k c.loop-pair.pair-index w) [
      | inl old ↦ c.loop-pair.invariant k d old
      | inr new ↦ subst (λ (j : ℕ). IsSide (problem_of c.args.setting.now) (names_pool c.args.vector.now) (get_or c.args.vector.now j d).0) (sym new) (under d (subst (λ (pool : Bool). IsSide (problem_of c.args.setting.now) pool (get_or c.args.vector.now c.loop-pair.pair-index (0, 0)).0) c.requires.pool (c.is_side.ensures.0 c.if-not-is_side.false)))
    ]
  where
    under : (d : ℕ × ℕ) → IsSide (problem_of c.args.setting.now) (names_pool c.args.vector.now) (get_or c.args.vector.now c.loop-pair.pair-index (0, 0)).0 → IsSide (problem_of c.args.setting.now) (names_pool c.args.vector.now) (get_or c.args.vector.now c.loop-pair.pair-index d).0
    under d is = subst (λ (x : ℕ × ℕ). IsSide (problem_of c.args.setting.now) (names_pool c.args.vector.now) x.0) (get_or_default c.args.vector.now c.loop-pair.pair-index (0, 0) d c.loop-pair-test.true) is

pub returns : goal.returns
returns c = (λ h k d w. c.loop-pair.invariant k d (omega (arith, w, c.loop-pair-test.false)), λ all. refl)
