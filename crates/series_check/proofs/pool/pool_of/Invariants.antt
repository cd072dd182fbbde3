use Rattle.std.proofs.Common.{ℕ, ◌+◌, ◌*◌, ◌<◌}
use Rattle.bank_tables.specs.Tables.{size}
use Rattle.certificate_model.specs.Ranges.{IsWithin, at}
use Rattle.certificate_model.specs.Relaxed.{Multipliers}
use Rattle.series_check.specs.Cuts.{problem_of, path_of}
use Rattle.series_check.specs.Maximum.{IsSides}
use Rattle.series_check.specs.Pools.{IsPoolTo}
use Rattle.series_check.specs.Tops.{item_top}
use Rattle.series_check.proofs.pool.pool_of.Given as goal

abbrev pub invariant-loop-f : goal.invariant-loop-f
invariant-loop-f l =
    record {
      pool : (v : Multipliers) → IsSides v l.sides → IsPoolTo (problem_of l.setting) (path_of l.cut) v l.ray l.f l.pool;
      counts : (i : ℕ) → i < size l.setting.bank.now → IsWithin item_top (at l.pool.counts i);
      rest : IsWithin (512 * 4294967295 + l.f * 100000000000000000000000) l.pool.rest;
    }
