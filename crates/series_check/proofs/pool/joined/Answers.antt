use Rattle.std.proofs.Common.{arith}
use Rattle.series_check.specs.Pools.{share_top, rest_top}
use Rattle.series_check.proofs.Wide.{wide_top, nearer, two_summed}
use Rattle.series_check.proofs.pool.joined.Goals as goal

pub returns : goal.returns
returns c =
    record {
      holders = c.union-holds.ensures;
      counts = c.greatest-counts.ensures.value;
      within = c.greatest-counts.ensures.within;
      rest =
          two_summed c.args.first.now.rest c.args.second.now.rest (nearer rest_top wide_top c.args.first.now.rest (omega arith) c.requires.first.rest)
          (nearer share_top wide_top c.args.second.now.rest (omega arith) c.requires.second.rest);
    }
