use Rattle.std.proofs.Common.{◌≡◌, ◌≤◌, ◌<◌, ◌+◌, ℕ, length, take, ◌∙◌, refl, sym, subst, arith, slice_get, Option, Some, None}
use Rattle.std.proofs.lemmas.List.{take_all}
use Rattle.std.proofs.lemmas.Slice.Zip.{length-zip}
use Rattle.bank_tables.specs.Tables.{categories}
use Rattle.form_model.specs.Ability.{AnswerList}
use Rattle.serving_model.specs.Seats.{answers}
use Rattle.ability_grid.specs.Running.{IsSumsOf}
use Rattle.history_model.proofs.Standing.{past_end}
use Rattle.shadow_select.proofs.ShownLaws.{found_at, answer_more}
use Rattle.exam_session.proofs.bands.add_answer.Goals as goal

pub overflow_cast-response : goal.overflow_cast-response
overflow_cast-response c =
    let item = c.number_at-item.result in
    let there : slice_get c.args.seat.now.responses c.args.k ≡ Some c.in-Some.response = sym c.get.ensures ∙ c.in-Some.is in
    let below : c.in-Some.response < categories c.args.bank.now item = c.requires.seat.in_range c.args.k item c.in-Some.response c.number_at-item.ensures there in
    omega (arith, below, c.items.ensures.bank.categories_high item)

pub add-requires-clause-item : goal.add-requires-clause-item
add-requires-clause-item c = c.requires.seat.items c.number_at-item.result (found_at c.args.seat.now.shown c.args.k c.number_at-item.result c.number_at-item.ensures)

pub returns-in-Some : goal.returns-in-Some
returns-in-Some c =
    let seat = c.args.seat.now in
    let b = c.args.bank.now in
    let prior = c.args.spec.now.prior in
    let there : slice_get seat.responses c.args.k ≡ Some c.in-Some.response = sym c.get.ensures ∙ c.in-Some.is in
    let more = answer_more seat.shown seat.responses c.args.k c.number_at-item.result c.in-Some.response c.number_at-item.ensures there in
    subst (λ (list : AnswerList). IsSumsOf b prior list c.add.new.self) (sym more) (c.add.ensures.sums prior (take c.args.k (answers seat)) c.requires.sums)

none : (r : Option ℕ) → ((x : ℕ) → r ≡ Some x → ⊥) → r ≡ None
none None other = refl
none (Some x) other = absurd (other x refl)

pub returns-in_default : goal.returns-in_default
returns-in_default c =
    let seat = c.args.seat.now in
    let list : AnswerList = answers seat in
    let gone : slice_get seat.responses c.args.k ≡ None = sym c.get.ensures ∙ none c.get.result c.in_default.not-Some in
    let past = past_end seat.responses c.args.k gone in
    let zipped = length-zip seat.shown seat.responses in
    let all : length list ≤ c.args.k = omega arith in
    let more : length list ≤ c.args.k + 1 = omega arith in
    subst (λ (x : AnswerList). IsSumsOf c.args.bank.now c.args.spec.now.prior x c.args.sums.now) (take_all c.args.k list all ∙ sym (take_all (c.args.k + 1) list more)) c.requires.sums
