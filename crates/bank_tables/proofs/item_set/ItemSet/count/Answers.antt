use Rattle.std.proofs.Common.{◌≡◌, ◌<◌, ◌+◌, ◌*◌, ◌^◌, ℕ, sym, ◌∙◌, ap, get_or, List, length, subst, arith, rules}
use lib.Count.{ones}
use Rattle.bank_tables.specs.Items.{has}
use Rattle.bank_tables.specs.Sums.{size_of, count_in}
use Rattle.bank_tables.proofs.Bits.{has_past}
use Rattle.bank_tables.proofs.Words.{count_word, count_le, every}
use Rattle.bank_tables.proofs.item_set.ItemSet.count.Goals as goal

pub overflow_add-total : goal.overflow_add-total
overflow_add-total c =
    let words : List ℕ = c.self.inside.words in
    let k : ℕ = c.loop-k.k in
    let fits : get_or words k 0 < 2 ^ 64 = search rules in
    let so_far : c.loop-k.total ≡ count_in (64 * k) (has words) every = rw (← c.self.view_is) at c.loop-k.invariant in
    omega (arith, count_word words k fits, count_le (64 * (k + 1)) (has words), so_far)

pub loop-k-preserved : goal.loop-k-preserved
loop-k-preserved c =
    let words : List ℕ = c.self.inside.words in
    let k : ℕ = c.loop-k.k in
    let fits : get_or words k 0 < 2 ^ 64 = search rules in
    let so_far : c.loop-k.total ≡ count_in (64 * k) (has words) every = rw (← c.self.view_is) at c.loop-k.invariant in
    let more : c.loop-k.total + ones (get_or words k 0) ≡ count_in (64 * (k + 1)) (has words) every = ap (λ (n : ℕ). n + ones (get_or words k 0)) so_far ∙ sym (count_word words k fits) in
    subst (λ (ws : List ℕ). c.loop-k.total + ones (get_or words k 0) ≡ count_in (64 * (k + 1)) (has ws) every) c.self.view_is more

pub returns-clause-count : goal.returns-clause-count
unfolding size_of
returns-clause-count c =
    let e : c.loop-k.k ≡ 8 = omega arith in
    c.loop-k.invariant ∙ ap (λ (n : ℕ). count_in (64 * n) (has c.args.self.now) every) e

pub returns-clause-few : goal.returns-clause-few
returns-clause-few c = omega (arith, c.loop-k.invariant, count_le (64 * c.loop-k.k) (has c.args.self.now))

pub returns-clause-below : goal.returns-clause-below
returns-clause-below c i past =
    let e : length c.args.self.now ≡ 8 = subst (λ (ws : List ℕ). length ws ≡ 8) c.self.view_is c.self.invariant.eight in
    has_past c.args.self.now i e past
