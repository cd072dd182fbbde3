use Rattle.std.proofs.Common.{rules, ◌≡◌, ◌∙◌, ◌<◌, arith, ℕ, List, length, get_or, slice_get, Some, sym, ap, subst}
use Rattle.std.specs.List.{zip}
use Rattle.std.proofs.lemmas.Option.{get_or_from_slice_get}
use Rattle.form_model.specs.Ability.{AnswerList}
use Rattle.serving_model.specs.Seats.{answers}
use Rattle.history_model.specs.declared.entry.Entry.{Entry}
use Rattle.ability_grid.specs.Running.{IsSumsOf}
use Rattle.bank_tables.specs.Tables.{size, categories}
use Rattle.history_model.proofs.Standing.{before_end}
use Rattle.exam_session.specs.KeptSeats.{seat_kept, HasRoomFor, TakesResponse, TakesAnswer}
use Rattle.exam_session.proofs.SumNotes.{answer_more, item_more}
use Rattle.exam_session.proofs.kept_seat.KeptSeat.note.Goals as goal

pub returns-in-Served-clause-sums : goal.returns-in-Served-clause-sums
returns-in-Served-clause-sums c = λ plan sums.
    let kept = c.args.self.now in
    let more = ap (λ (xs : List ℕ). zip xs kept.responses.items) c.push_reserved.ensures.items ∙ item_more kept.shown.items kept.responses.items c.in-Served.item c.requires.answered in
    subst (λ (list : AnswerList). IsSumsOf c.args.bank.now plan.prior list kept.sums) (sym more) sums

pub returns-in-Answered-clause-sums : goal.returns-in-Answered-clause-sums
returns-in-Answered-clause-sums c = λ plan sums.
    let kept = c.args.self.now in
    let b = c.args.bank.now in
    let takes : TakesResponse b c.in-Answered.response kept = subst (λ (e : Entry). TakesAnswer b e kept) c.in-Answered.is c.requires.answer in
    let item = c.index-item.result.now in
    let at : c.len.result ≡ length kept.responses.items = c.len.ensures ∙ kept.responses.ok.0 in
    let same : item ≡ takes.item = c.index-item.ensures ∙ ap (λ (k : ℕ). get_or kept.shown.items k item) at ∙ get_or_from_slice_get kept.shown.items (length kept.responses.items) takes.item item takes.waits in
    let waits : slice_get kept.shown.items (length kept.responses.items) ≡ Some item = takes.waits ∙ ap (λ (k : ℕ). Some k) (sym same) in
    let more = ap (zip kept.shown.items) c.push_reserved-in-Answered.ensures.items ∙ answer_more kept.shown.items kept.responses.items item c.in-Answered.response waits in
    subst (λ (list : AnswerList). IsSumsOf b plan.prior list c.add.new.self) (sym more) (c.add.ensures.sums plan.prior (answers (seat_kept kept)) sums)

pub add-requires-clause-few : goal.add-requires-clause-few
add-requires-clause-few c = search rules

pub with_flag-self-requires : goal.with_flag-self-requires
with_flag-self-requires c = subst (λ (e : Entry). HasRoomFor e c.args.self.now) c.in-SetAside.is c.requires.room

pub index-item-requires : goal.index-item-requires
index-item-requires c =
    let kept = c.args.self.now in
    let takes : TakesResponse c.args.bank.now c.in-Answered.response kept = subst (λ (e : Entry). TakesAnswer c.args.bank.now e kept) c.in-Answered.is c.requires.answer in
    let within = before_end kept.shown.items (length kept.responses.items) takes.item takes.waits in
    let responses = kept.responses.ok.0 in
    let shown = kept.shown.ok.0 in
    let len = c.len.ensures in
    omega arith

-- the item that waits
waits_for : (shown : List ℕ) (n item found : ℕ) → slice_get shown n ≡ Some item → found ≡ get_or shown n found → found ≡ item
waits_for shown n item found there is = is ∙ get_or_from_slice_get shown n item found there

pub add-requires-clause-item : goal.add-requires-clause-item
add-requires-clause-item c =
    let kept = c.args.self.now in
    let takes : TakesResponse c.args.bank.now c.in-Answered.response kept = subst (λ (e : Entry). TakesAnswer c.args.bank.now e kept) c.in-Answered.is c.requires.answer in
    let at : c.len.result ≡ length kept.responses.items = c.len.ensures ∙ kept.responses.ok.0 in
    let same : c.index-item.result.now ≡ takes.item = waits_for kept.shown.items c.len.result takes.item c.index-item.result.now (ap (slice_get kept.shown.items) at ∙ takes.waits) c.index-item.ensures in
    subst (λ (k : ℕ). k < size c.args.bank.now) (sym same) takes.of_bank

pub add-requires-clause-response : goal.add-requires-clause-response
add-requires-clause-response c =
    let kept = c.args.self.now in
    let takes : TakesResponse c.args.bank.now c.in-Answered.response kept = subst (λ (e : Entry). TakesAnswer c.args.bank.now e kept) c.in-Answered.is c.requires.answer in
    let at : c.len.result ≡ length kept.responses.items = c.len.ensures ∙ kept.responses.ok.0 in
    let same : c.index-item.result.now ≡ takes.item = waits_for kept.shown.items c.len.result takes.item c.index-item.result.now (ap (slice_get kept.shown.items) at ∙ takes.waits) c.index-item.ensures in
    subst (λ (k : ℕ). c.in-Answered.response < categories c.args.bank.now k) (sym same) takes.in_range
