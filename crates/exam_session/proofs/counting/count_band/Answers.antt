use Rattle.std.proofs.Common.{◌≡◌, ◌∙◌, ℕ, List, true, false, sym, ap, refl, arith, rules}
use Rattle.std.proofs.Math.Bool.{true≢false}
use Rattle.bank_tables.specs.Items.{has}
use Rattle.exam_session.proofs.counting.count_band.Goals as goal

pub returns-then-not-was_in : goal.returns-then-not-was_in
returns-then-not-was_in c = λ plan are.
    let low = c.requires.1.low in
    let none : c.was_in.result ≡ false = search rules in
    let off = sym (are.there c.args.band low) ∙ (sym c.was_in.ensures ∙ none) in
    record { there = λ on. absurd (true≢false (sym on ∙ off)); away = λ _. refl }

pub finish-requires-clause-shown : goal.finish-requires-clause-shown
finish-requires-clause-shown c = λ i held.
    let can = c.requires.1 in
    let within = can.shown i (sym (ap (λ (words : List ℕ). has words i) c.shown_in.ensures ∙ can.visits_are.shown c.args.band i can.low) ∙ held) in
    let number = can.number in
    omega arith

pub finish-requires-clause-eligible : goal.finish-requires-clause-eligible
finish-requires-clause-eligible c = λ i held.
    let can = c.requires.1 in
    let within = c.open_items-open.ensures.items can.eligible i held in
    let number = can.number in
    omega arith

pub finish-requires-clause-few : goal.finish-requires-clause-few
finish-requires-clause-few c =
    let can = c.requires.1 in
    let some : c.was_in.result ≡ true = search rules in
    can.room (sym (can.visits_are.there c.args.band can.low) ∙ (sym c.was_in.ensures ∙ some))

pub returns : goal.returns
returns c = λ plan are.
    let low = c.requires.1.low in
    let some : c.was_in.result ≡ true = search rules in
    let on = sym (are.there c.args.band low) ∙ (sym c.was_in.ensures ∙ some) in
    record {
      there = λ _. record {
        shown = has c.shown_in.result;
        eligible = has c.open_items-open.result;
        items = c.finish.ensures.items;
        counts = c.finish.ensures.counts;
        finished = c.finish.ensures.finished;
        shown_is = λ i below. ap (λ (words : List ℕ). has words i) c.shown_in.ensures ∙ are.shown c.args.band i low;
        eligible_is = c.open_items-open.ensures.open;
      };
      away = λ off. absurd (true≢false (sym on ∙ off));
    }
