use Rattle.series_check.proofs.leaf.is_side.Goals as goal

pub returns-then-side-lt256 : goal.returns-then-side-lt256
returns-then-side-lt256 c = c.is_point_side.ensures c.args.pool

pub returns-then-side-lt2304 : goal.returns-then-side-lt2304
returns-then-side-lt2304 c = c.is_row_side.ensures c.args.pool
