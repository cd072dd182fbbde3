use Rattle.std.proofs.Common.{◌≡◌, ◌≤◌, ◌<◌, [], ◌∙◌, sym, ap, subst, arith, length, take, List, ℤ}
use Rattle.std.proofs.lemmas.List.{take_all}
use Rattle.std.proofs.lemmas.Slice.Zip.{length-zip}
use Rattle.bank_tables.specs.Tables.{categories}
use Rattle.form_model.specs.Ability.{AnswerList}
use Rattle.serving_model.specs.Seats.{answers}
use Rattle.ability_grid.specs.Running.{IsSumsOf}
use Rattle.shadow_select.proofs.ShownLaws.{found_at, answer_more}
use Rattle.shadow_select.proofs.estimate.sums_of.Goals as goal

pub loop-k-init : goal.loop-k-init
loop-k-init c =
    let b = c.args.bank.now in
    let same_grid : b.grid ≡ length c.prior.result.now = sym c.requires.plan.prior_number ∙ ap (λ (xs : List ℤ). length xs) (sym c.prior.ensures) in
    subst (λ (prior : List ℤ). IsSumsOf b prior [] c.of_prior-sums.result) c.prior.ensures (c.of_prior-sums.ensures.sums b same_grid)

pub overflow_cast-response : goal.overflow_cast-response
overflow_cast-response c =
    let item = c.number_at-item.result in
    let below : c.number_at-response.result < categories c.args.bank.now item = c.requires.seat.in_range c.loop-k.k item c.number_at-response.result c.number_at-item.ensures c.number_at-response.ensures in
    omega (arith, below, c.items.ensures.bank.categories_high item)

pub add-requires-clause-item : goal.add-requires-clause-item
add-requires-clause-item c = c.requires.seat.items c.number_at-item.result (found_at c.args.seat.now.shown c.loop-k.k c.number_at-item.result c.number_at-item.ensures)

pub loop-k-preserved : goal.loop-k-preserved
loop-k-preserved c =
    let seat = c.args.seat.now in
    let b = c.args.bank.now in
    let prior = c.args.spec.now.prior in
    let more = answer_more seat.shown seat.responses c.loop-k.k c.number_at-item.result c.number_at-response.result c.number_at-item.ensures c.number_at-response.ensures in
    subst (λ (list : AnswerList). IsSumsOf b prior list c.add.new.self) (sym more) (c.add.ensures.sums prior (take c.loop-k.k (answers seat)) c.loop-k.invariant)

pub returns : goal.returns
returns c =
    let seat = c.args.seat.now in
    let past : length (answers seat) ≤ c.loop-k.k = omega (arith, length-zip seat.shown seat.responses, c.len-k-end.ensures.len, c.loop-k-test.false) in
    subst (λ (list : AnswerList). IsSumsOf c.args.bank.now c.args.spec.now.prior list c.loop-k.sums) (take_all c.loop-k.k (answers seat) past) c.loop-k.invariant
