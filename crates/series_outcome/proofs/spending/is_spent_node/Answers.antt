use Rattle.std.proofs.Common.{inl, inr, sym, subst}
use Rattle.series_check.specs.Cuts.{problem_of, path_of}
use Rattle.series_outcome.specs.Spending.{IsSpentNode}
use Rattle.series_outcome.proofs.SpendSteps.{possible_spent, none_counted}
use Rattle.series_outcome.proofs.spending.is_spent_node.Goals as goal

pub returns-in-Branch : goal.returns-in-Branch
returns-in-Branch c h =
    possible_spent (problem_of c.args.setting.now) (path_of c.args.cut.now) c.args.node.now (none_counted (problem_of c.args.setting.now) (path_of c.args.cut.now) c.impossible.result c.is_none.result c.impossible.ensures c.is_none.ensures h)

pub returns-in-Bound : goal.returns-in-Bound
returns-in-Bound c h =
    let S = IsSpentNode (problem_of c.args.setting.now) (path_of c.args.cut.now) in
    elim c.in-Bound.is [
      | inl bound ↦ subst S (sym bound.1) tt
      | inr rest ↦
          elim rest [
            | inl ray ↦ subst S (sym ray.1) tt
            | inr rest ↦ elim rest [ inl count ↦ subst S (sym count.2) tt | inr whole ↦ subst S (sym whole) tt ]
          ]
    ]
