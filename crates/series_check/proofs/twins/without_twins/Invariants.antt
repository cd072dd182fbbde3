use Rattle.std.proofs.Common.{◌≡◌, ℕ, ◌&&◌, ◌||◌, ◌==◌, nat_lt, [], get_or}
use Rattle.bank_tables.specs.Items.{has}
use Rattle.series_model.specs.SeriesTwins.{is_twin}
use Rattle.series_check.specs.Cuts.{problem_of, path_of}
use Rattle.series_check.proofs.twins.without_twins.Given as goal

abbrev pub invariant-loop-g : goal.invariant-loop-g
invariant-loop-g l = (h i : ℕ) → has (get_or l.out h []) i ≡ (((nat_lt h l.g && is_twin (problem_of l.setting) (path_of l.cut) l.form h) && i == l.item) || has (get_or l.cut.out h []) i)
