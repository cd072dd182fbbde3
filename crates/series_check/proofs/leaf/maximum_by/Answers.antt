use Rattle.std.proofs.Common.{Bool, sym, subst}
use Rattle.series_check.specs.Cuts.{problem_of, path_of}
use Rattle.series_check.specs.Maximum.{IsAnswer}
use Rattle.series_check.proofs.leaf.maximum_by.Goals as goal

pub returns-then-pool : goal.returns-then-pool
returns-then-pool c v are = subst (λ (pool : Bool). IsAnswer pool (problem_of c.args.setting.now) (path_of c.args.cut.now) v c.args.ray c.pool_maximum.result) (sym c.if-pool.true) (c.pool_maximum.ensures v are)

pub returns-else-pool : goal.returns-else-pool
returns-else-pool c v are = subst (λ (pool : Bool). IsAnswer pool (problem_of c.args.setting.now) (path_of c.args.cut.now) v c.args.ray c.relaxed_maximum.result) (sym c.if-pool.false) (c.relaxed_maximum.ensures v are)
