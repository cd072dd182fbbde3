use Rattle.std.proofs.Common.{◌≡◌, ◌∙◌, List, length, get_or, refl, sym, ap, arith}
use Rattle.std.specs.Prelude.{ℤ, pos}
use Rattle.std.proofs.lemmas.List.{get_or-take}
use Rattle.ability_grid.specs.Running.{Running, sum_at}
use Rattle.ability_grid.proofs.kept.KeptSums.of_prior.Goals as goal

pub returns-clause-sums : goal.returns-clause-sums
returns-clause-sums c = λ b same.
    let of = c.of_prior-sums.ensures.sums b same in
    let long : length c.in_ok-values.values.items ≡ length c.args.prior.now = omega (arith, c.in_ok-values.ensures.len) in
    record {
      same_grid = long ∙ sym same;
      number = refl;
      sums = λ point below.
          ap (λ (xs : List ℤ). get_or xs point (pos 0)) c.in_ok-values.ensures.items
          ∙ get_or-take (length c.args.prior.now) c.sums.inside.values point (pos 0) (omega (arith, below, same))
          ∙ ap (λ (r : Running). sum_at r point) c.sums.view_is
          ∙ of.sums point below;
    }
