use Rattle.std.proofs.Common.{◌≡◌, ℕ, ◌∙◌, ap, arith, List}
use Rattle.std.specs.Prelude.{map}
use Rattle.std.specs.List.{range_with_len}
use Rattle.std.proofs.lemmas.List.FromFn.{map-range_with_len_more}
use Rattle.bank_tables.specs.Tables.{Tables, Item}
use Rattle.trial_cases.specs.Rows.{item_l, bank_l}
use Rattle.trial_cases.proofs.rows.rows_l.Goals as goal

pub loop-i-preserved : goal.loop-i-preserved
loop-i-preserved c =
    let more = map-range_with_len_more item_l 0 c.loop-i.i c.loop-i.i (omega arith) in
    cc (more, c.in_ok-push.ensures.items, c.loop-i.invariant, c.in_ok-item_l.ensures)

pub returns : goal.returns
unfolding bank_l
returns c =
    let all : c.loop-i.i ≡ 120 = omega arith in
    c.rows_of.ensures
    ∙ ap (λ (items : List Item). let t : Tables = record { grid = 7; quantities = 1; items = items } in t)
    (c.loop-i.invariant ∙ ap (λ (n : ℕ). map item_l (range_with_len 0 n)) all)
