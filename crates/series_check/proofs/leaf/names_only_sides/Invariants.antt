use Rattle.std.proofs.Common.{ℕ, ◌<◌, get_or}
use Rattle.series_model.specs.SeriesTrees.{names_pool}
use Rattle.series_model.specs.SeriesVerdicts.{IsSide}
use Rattle.series_check.specs.Cuts.{problem_of}
use Rattle.series_check.proofs.leaf.names_only_sides.Given as goal

abbrev pub invariant-loop-pair : goal.invariant-loop-pair
invariant-loop-pair l = (k : ℕ) (d : ℕ × ℕ) → k < l.pair-index → IsSide (problem_of l.setting) (names_pool l.vector) (get_or l.vector k d).0
