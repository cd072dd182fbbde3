-- The state after draws, and the items drawn.
use Rattle.std.proofs.Common.{◌≡◌, ℕ, suc, ◌+◌, ◌*◌, ◌%◌, ◌^◌, List, [], ◌∷◌, ◌++◌, map, arith, refl, sym, ap, ◌∙◌}
use Rattle.std.proofs.Math.Nat.{mod-add-mod}
use Rattle.std.proofs.lemmas.List.FromFn.{map-range_with_len_more}
use Rattle.std.specs.List.{range_with_len}
use Rattle.bank_maker.specs.declared.item.DrawnItem.{DrawnItem}
use Rattle.bank_maker.specs.Draws.{next_state, state_after, upper_bits, draw}
use Rattle.bank_maker.specs.Items.{drawn}

pub next_from : (s : ℕ) → ((s * 6364136223846793005) % 2 ^ 64 + 1442695040888963407) % 2 ^ 64 ≡ next_state s
next_from s = mod-add-mod (s * 6364136223846793005) (2 ^ 64) 1442695040888963407

-- one draw more
more : (s n m : ℕ) → m ≡ suc n → state_after s m ≡ next_state (state_after s n)
unfolding state_after
more s n m e = rw e refl

one : (s n : ℕ) → state_after s (3 * n + 1) ≡ next_state (state_after s (3 * n))
one s n = more s (3 * n) (3 * n + 1) (omega arith)

two : (s n : ℕ) → state_after s (3 * n + 1 + 1) ≡ next_state (state_after s (3 * n + 1))
two s n = more s (3 * n + 1) (3 * n + 1 + 1) (omega arith)

three : (s n : ℕ) → state_after s (3 * n + 2 + 1) ≡ next_state (state_after s (3 * n + 1 + 1))
three s n = more s (3 * n + 1 + 1) (3 * n + 2 + 1) (omega arith)

-- the state after the three draws of item n
pub after_item : (s n was now : ℕ) → was ≡ state_after s (3 * n) → now ≡ next_state (next_state (next_state was)) → now ≡ state_after s (3 * (n + 1))
after_item s n was now e f =
    let same : 3 * (n + 1) ≡ 3 * n + 2 + 1 = omega arith in
    rw (f, e, same, three s n, two s n, one s n) refl

same_item : (x y : DrawnItem) → x.peak ≡ y.peak → x.height ≡ y.height → x.quantity ≡ y.quantity → x ≡ y
same_item x y p h q = ap (λ (n : ℕ). record { peak = n; height = x.height; quantity = x.quantity }) p
    ∙ ap (λ (n : ℕ). record { peak = y.peak; height = n; quantity = x.quantity }) h
    ∙ ap (λ (n : ℕ). record { peak = y.peak; height = y.height; quantity = n }) q

-- what the three draws give is item n
pub one_item : (s n was : ℕ) (x : DrawnItem) → was ≡ state_after s (3 * n)
    → x.peak ≡ upper_bits (next_state was) % 11
    → x.height ≡ 200 + upper_bits (next_state (next_state was)) % 801
    → x.quantity ≡ 30 + upper_bits (next_state (next_state (next_state was))) % 91
    → x ≡ drawn s n
one_item s n was x e p h q =
    let a : next_state was ≡ state_after s (3 * n + 1) = ap next_state e ∙ sym (one s n) in
    let b : next_state (next_state was) ≡ state_after s (3 * n + 1 + 1) = ap next_state a ∙ sym (two s n) in
    let d : next_state (next_state (next_state was)) ≡ state_after s (3 * n + 2 + 1) = ap next_state b ∙ sym (three s n) in
    let peak : x.peak ≡ draw s (3 * n) % 11 = p ∙ ap (λ (t : ℕ). upper_bits t % 11) a in
    let height : x.height ≡ 200 + draw s (3 * n + 1) % 801 = h ∙ ap (λ (t : ℕ). 200 + upper_bits t % 801) b in
    let quantity : x.quantity ≡ 30 + draw s (3 * n + 2) % 91 = q ∙ ap (λ (t : ℕ). 30 + upper_bits t % 91) d in
    same_item x (drawn s n) peak height quantity

pub more_items : (s n : ℕ) (xs : List DrawnItem) (x : DrawnItem) → xs ≡ map (drawn s) (range_with_len 0 n) → x ≡ drawn s n → xs ++ x ∷ [] ≡ map (drawn s) (range_with_len 0 (n + 1))
more_items s n xs x e f = rw (e, f) (sym (map-range_with_len_more (drawn s) 0 n n (omega arith)))
