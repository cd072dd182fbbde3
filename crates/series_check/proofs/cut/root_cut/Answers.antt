use Rattle.series_check.proofs.CutLaws.{no_sets, same_path}
use Rattle.series_check.proofs.cut.root_cut.Goals as goal

pub returns : goal.returns
returns c = same_path _ _ _ _ _ _ (no_sets c.empty-none.result c.empty-none.ensures) (no_sets c.empty-none.result c.empty-none.ensures) c.empty-none.ensures
