use Rattle.std.proofs.Common.{rules, ◌≡◌, Bool, to_z, of_z, sym, subst}
use Rattle.std.specs.Prelude.{ℤ}
use Rattle.std.specs.Int.{w128}
use Rattle.series_model.specs.SeriesPools.{IsMaximumBy}
use Rattle.series_check.specs.Cuts.{problem_of, path_of}
use Rattle.series_check.proofs.LeafLaws.{below_of, none_below, same_order}
use Rattle.series_check.proofs.leaf.maximum_is_below.Goals as goal

pub returns-in-Some : goal.returns-in-Some
returns-in-Some c v are e =
    let r : ℤ = c.in-Some.maximum in
    let top : ℤ = c.args.top in
    let same_r : to_z w128 (of_z w128 r) ≡ r = search rules in
    let same_top : to_z w128 (of_z w128 top) ≡ top = search rules in
    let both =
    below_of (problem_of c.args.setting.now) (path_of c.args.cut.now) v c.args.ray r top
    (subst (λ (pool : Bool). IsMaximumBy pool (problem_of c.args.setting.now) (path_of c.args.cut.now) v c.args.ray r) e (c.in-Some.ensures v are)) in
    (λ h. both.0 (same_order _ _ _ _ same_r same_top h), λ low. same_order _ _ _ _ (sym same_r) (sym same_top) (both.1 low))

pub returns-in-None : goal.returns-in-None
returns-in-None c v are e = none_below (problem_of c.args.setting.now) (path_of c.args.cut.now) v c.args.ray c.args.top (subst (λ (pool : Bool). (r : ℤ) → IsMaximumBy pool (problem_of c.args.setting.now) (path_of c.args.cut.now) v c.args.ray r → ⊥) e (c.in-None.ensures v are))
