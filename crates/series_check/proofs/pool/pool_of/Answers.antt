use Rattle.std.proofs.Common.{◌≡◌, ℕ, ◌+◌, ◌*◌, ◌≤◌, true, arith, ap, ◌∙◌, sym, subst, to_z, add-one}
use Rattle.std.specs.Prelude.{pos, slice_index}
use Rattle.std.specs.Int.{w128}
use Rattle.std.proofs.Math.Path.{fun_ext}
use Rattle.bank_tables.specs.Sums.{sum_in}
use Rattle.bank_tables.specs.Tables.{size}
use Rattle.certificate_model.specs.Ranges.{IsWithin}
use Rattle.certificate_model.specs.Relaxed.{multiplier}
use Rattle.series_model.specs.Series.{SeriesProblem}
use Rattle.series_model.specs.SeriesBounds.{uses}
use Rattle.series_model.specs.SeriesPaths.{SeriesPath}
use Rattle.series_check.specs.declared.pool.Part.{Part}
use Rattle.series_check.specs.Cuts.{problem_of, path_of}
use Rattle.series_check.specs.Pools.{share_top, rest_top, IsJoined, IsPoolTo}
use Rattle.series_check.proofs.PoolStepLaws.{zeros_near, no_parts, one_more_part}
use Rattle.series_check.proofs.Wide.{nearer, both_within, from_unsigned, unsigned_within}
use Rattle.series_check.proofs.pool.pool_of.Goals as goal

pub loop-f-init : goal.loop-f-init
loop-f-init c =
    let Q : SeriesProblem = problem_of c.args.setting.now in
    let n = c.uses-rest.result in
    let is : to_z w128 n ≡ pos n = from_unsigned n (omega (arith, c.uses-rest.ensures.high)) in
    record {
      pool = λ v are. (let all : slice_index c.args.sides.now ≡ multiplier v = fun_ext are in
          let e : n ≡ uses Q v = c.uses-rest.ensures.value ∙ ap (λ (M : ℕ → ℕ). sum_in (size Q.bank) (λ _. true) (λ i. M (256 + i))) all in
          no_parts Q (path_of c.args.cut.now) v c.args.ray _ c.empty-holds.ensures (is ∙ ap (λ (m : ℕ). pos m) e));
      counts = λ i w. zeros_near i;
      rest = subst (IsWithin 2199023255040) (sym is) (unsigned_within n 2199023255040 c.uses-rest.ensures.high);
    }

pub loop-f-preserved : goal.loop-f-preserved
loop-f-preserved c =
    let Q : SeriesProblem = problem_of c.args.setting.now in
    let p : SeriesPath = path_of c.args.cut.now in
    let k = c.loop-f.f in
    let sum : Part = c.loop-f.pool in
    let part : Part = c.part_of-part.result in
    let new : Part = c.joined-pool.result in
    let joins : IsJoined (size Q.bank) sum part new = subst (λ (n : ℕ). IsJoined n sum part new) c.items-items.ensures.items c.joined-pool.ensures in
    record {
      pool = λ v are. rw add-one (one_more_part Q p v c.args.ray k sum part new (c.loop-f.invariant.pool v are) (c.part_of-part.ensures.part v are) joins);
      counts = joins.within;
      rest = subst (IsWithin (2199023255040 + (k + 1) * 100000000000000000000000)) (sym joins.rest)
          (both_within (2199023255040 + k * 100000000000000000000000) share_top (2199023255040 + (k + 1) * 100000000000000000000000) sum.rest part.rest (omega arith) c.loop-f.invariant.rest c.part_of-part.ensures.near.rest);
    }

pub returns-clause-pool : goal.returns-clause-pool
returns-clause-pool c v are =
    let Q : SeriesProblem = problem_of c.args.setting.now in
    let e : c.loop-f.f ≡ Q.forms = omega (arith, c.loop-f-test.false, c.loop-f.auto.f-end) in
    subst (λ (k : ℕ). IsPoolTo Q (path_of c.args.cut.now) v c.args.ray k c.loop-f.pool) e (c.loop-f.invariant.pool v are)

pub returns-clause-near : goal.returns-clause-near
returns-clause-near c =
    let few : c.loop-f.f ≤ 4 = omega (arith, c.loop-f.auto.f-end, c.requires.few_forms) in
    record {
      counts = c.loop-f.invariant.counts;
      rest = nearer (2199023255040 + c.loop-f.f * 100000000000000000000000) rest_top c.loop-f.pool.rest (omega arith) c.loop-f.invariant.rest;
    }
