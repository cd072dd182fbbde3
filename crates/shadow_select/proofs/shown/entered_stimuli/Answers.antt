use Rattle.std.proofs.Common.{◌∙◌, sym, ap, ◌||◌, ◌==◌, take, Bool, ℕ}
use Rattle.std.specs.List.{list_any}
use Rattle.bank_tables.specs.Items.{has}
use Rattle.bank_tables.specs.Tables.{stimulus}
use Rattle.shadow_select.proofs.ShownLaws.{found_at, any_more, swapped}
use Rattle.shadow_select.proofs.shown.entered_stimuli.Goals as goal

pub stimulus-requires : goal.stimulus-requires
stimulus-requires c = c.requires c.number_at-item.result (found_at c.args.seat.now.shown c.loop-k.k c.number_at-item.result c.number_at-item.ensures)

pub loop-k-preserved : goal.loop-k-preserved
loop-k-preserved c = λ s.
    let b = c.args.bank.now in
    let xs = c.args.seat.now.shown in
    let x = c.number_at-item.result in
    c.with-stimuli.ensures s
    ∙ ap (λ (t : ℕ). (s == t) || has c.loop-k.stimuli s) c.stimulus.ensures
    ∙ ap (λ (p : Bool). (s == stimulus b x) || p) (c.loop-k.invariant s)
    ∙ swapped s (stimulus b x) (list_any (λ item. stimulus b item == s) (take c.loop-k.k xs))
    ∙ sym (any_more (λ item. stimulus b item == s) xs c.loop-k.k x c.number_at-item.ensures)
