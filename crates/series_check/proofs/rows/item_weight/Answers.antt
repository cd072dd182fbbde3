use Rattle.std.proofs.Common.{◌≡◌, ℕ, ◌∙◌, ap, arith, pos}
use Rattle.std.specs.Prelude.{ℤ, ◌+ℤ◌, slice_index}
use Rattle.std.proofs.lemmas.Int.{ints}
use Rattle.bank_tables.specs.Tables.{stimulus}
use Rattle.certificate_model.specs.Weights.{price_of_stimulus, item_weight}
use Rattle.series_check.specs.Cuts.{one_form}
use Rattle.series_check.proofs.Wide.{wide_top, nearer, two_summed}
use Rattle.series_check.proofs.rows.item_weight.Goals as goal

joined : (a b a' b' s : ℤ) → s ≡ a +ℤ b → a ≡ a' → b ≡ b' → s ≡ pos 0 +ℤ (a' +ℤ b')
joined a b a' b' s e f g = omega (arith, ints)

pub returns-clause-value : goal.returns-clause-value
unfolding item_weight
returns-clause-value c =
    let P = one_form c.args.setting.now in
    let N : ℕ → ℕ = slice_index c.args.sides.now in
    let e-price : c.price_of_stimulus.result ≡ price_of_stimulus P N (stimulus P.bank c.args.item) = c.price_of_stimulus.ensures.value ∙ ap (λ (s : ℕ). price_of_stimulus P N s) c.stimulus-which.ensures in
    let sum = two_summed c.item_rows.result c.price_of_stimulus.result (nearer 36028247254761600 wide_top c.item_rows.result (omega arith) c.item_rows.ensures.within) (nearer 4294967295 wide_top c.price_of_stimulus.result (omega arith) c.price_of_stimulus.ensures.within) in
    joined c.item_rows.result c.price_of_stimulus.result _ _ _ sum c.item_rows.ensures.value e-price
