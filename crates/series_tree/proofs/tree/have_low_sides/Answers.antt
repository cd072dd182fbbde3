use Rattle.std.proofs.Common.{◌≡◌, ℕ, List, [], All, true, ◌<◌, get_or, ◌∙◌, sym, subst}
use Rattle.std.proofs.lemmas.List.{get_or_read}
use Rattle.series_tree.proofs.tree.have_low_sides.Goals as goal

pub returns-then-not-sides_are_low-clause-sides : goal.returns-then-not-sides_are_low-clause-sides
returns-then-not-sides_are_low-clause-sides c =
    let here : c.pairs.result.now ≡ get_or c.args.vectors.now c.loop-vector.vector-index [] =
    c.pairs.ensures.pairs ∙ get_or_read c.args.vectors.now c.loop-vector.vector-index c.vector-item.result c.loop-vector-test.true c.vector-item.is [] in (
      λ e. absurd cc,
      λ all. let low : All (λ pair. pair.0 < 2315) c.pairs.result.now = subst (λ (v : List (ℕ × ℕ)). All (λ pair. pair.0 < 2315) v) (sym here) (all c.loop-vector.vector-index c.loop-vector-test.true) in
          let yes : c.sides_are_low.result ≡ true = c.sides_are_low.ensures.1 low in absurd cc,
    )
