use Rattle.std.proofs.Common.{◌≡◌, Bool, true, false, refl, sym}
use Rattle.std.proofs.Math.Bool.{true≢false}
use Rattle.bank_tables.specs.Items.{has}
use Rattle.history_model.specs.Lists.{IsListFor}
use Rattle.history_model.specs.Refusals.{is_list}
use Rattle.history_model.proofs.RequestLists.{list_by_words}
use Rattle.exam_office.proofs.starting.is_list_for.Goals as goal

-- two tests of one thing
same_test : (A : Type 0) (t u : Bool) → (t ≡ true → A) → (A → t ≡ true) → (u ≡ true → A) → (A → u ≡ true) → t ≡ u
same_test A true true there back found shown = refl
same_test A false false there back found shown = refl
same_test A true false there back found shown = absurd (true≢false (sym (shown (there refl))))
same_test A false true there back found shown = absurd (true≢false (sym (back (found refl))))

pub returns-clause-words : goal.returns-clause-words
returns-clause-words c =
    let b = c.args.bank.now in
    let items = c.args.items.now in
    let words = list_by_words b items c.is_item_set.ensures in
    same_test (IsListFor b (has items)) c.is_list.result (is_list b items) c.is_list.ensures.0 c.is_list.ensures.1 words.0 words.1
