use Rattle.std.proofs.Common.{ℕ, ◌==◌, List, [], get_or, sym, ap, ◌∙◌}
use Rattle.bank_tables.specs.Items.{has, Set}
use Rattle.series_model.specs.SeriesTwins.{is_twin}
use Rattle.series_check.specs.Cuts.{problem_of, path_of}
use Rattle.series_check.proofs.CutLaws.{twin_more, twin_none}
use Rattle.series_check.proofs.twins.without_twins.Goals as goal
use Rattle.series_check.proofs.twins.without_twins.Goals.{then-is_twin, else-is_twin}

pub loop-g-preserved : goal.loop-g-preserved
loop-g-preserved c h i =
    let twin : Set = is_twin (problem_of c.args.setting.now) (path_of c.args.cut.now) c.args.form in
    let g = c.loop-g.g in
    let x = i == c.args.item in
    let old = has (get_or c.args.cut.now.out h []) i in
    let before = c.loop-g.invariant h i in
    elim c.if-is_twin.branch [
      | then-is_twin w ↦ ap (λ (sets : List (List ℕ)). has (get_or sets h []) i) w.out-is ∙ twin_more twin g h x old _ _ (sym c.is_twin.ensures ∙ w.if-is_twin.true) (w.with_item-out.ensures h i) before
      | else-is_twin w ↦ ap (λ (sets : List (List ℕ)). has (get_or sets h []) i) w.out-is ∙ twin_none twin g h x old _ (sym c.is_twin.ensures ∙ w.if-is_twin.false) before
    ]
