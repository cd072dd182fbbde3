use Rattle.std.proofs.Common.{◌≡◌, ℕ, Bool, false, ◌||◌, ap, ◌∙◌, sym}
use Rattle.std.proofs.Math.Bool.{true≢false}
use Rattle.bank_tables.specs.Items.{Set, has}
use Rattle.series_model.specs.Series.{SeriesProblem}
use Rattle.series_model.specs.SeriesPaths.{SeriesPath, is_placed, is_use_lost}
use Rattle.series_check.specs.Cuts.{problem_of, path_of}
use Rattle.series_check.specs.Values.{AreApart}
use Rattle.series_check.proofs.PoolMaximumLaws.{none_apart, none_used}
use Rattle.series_check.proofs.PoolStepLaws.{filled_answer}
use Rattle.series_check.proofs.pool.pool_maximum.Goals as goal

pub returns-then-not-are_apart : goal.returns-then-not-are_apart
returns-then-not-are_apart c v are = none_apart (problem_of c.args.setting.now) (path_of c.args.cut.now) v c.args.ray (λ apart. true≢false (sym (c.are_apart.ensures.1 apart) ∙ c.if-not-are_apart.true))

pub returns-then-is_use_lost : goal.returns-then-is_use_lost
returns-then-is_use_lost c v are = none_used (problem_of c.args.setting.now) (path_of c.args.cut.now) v c.args.ray (sym c.is_use_lost.ensures ∙ c.if-is_use_lost.true)

pub returns : goal.returns
returns c v are =
    let Q : SeriesProblem = problem_of c.args.setting.now in
    let p : SeriesPath = path_of c.args.cut.now in
    let sure : Set = has c.union-sure.result in
    let apart : AreApart Q.forms p.taken = c.are_apart.ensures.0 c.if-not-are_apart.false in
    let kept : is_use_lost Q p ≡ false = sym c.is_use_lost.ensures ∙ c.if-is_use_lost.false in
    let is_sure : (i : ℕ) → sure i ≡ (is_placed Q p i || p.used i) = λ i. c.union-sure.ensures i ∙ ap (λ (b : Bool). b || p.used i) (c.placed-placed.ensures i) in
    filled_answer Q p v c.args.ray c.pool_of-pool.result sure c.filled.result apart kept (c.pool_of-pool.ensures.pool v are) is_sure c.filled.ensures
