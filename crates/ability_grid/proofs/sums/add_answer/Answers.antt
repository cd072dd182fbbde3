use Rattle.std.proofs.Common.{rules, ◌≡◌, ◌≢◌, ◌<◌, ◌+◌, ◌⊎◌, inl, inr, ℕ, length, arith, get_or, set, w32, w64, sym, ◌∙◌, ap, to_z, of_z}
use Rattle.std.specs.Prelude.{ℤ, pos, negsuc, ◌+ℤ◌, ◌≤ℤ◌}
use Rattle.std.proofs.lemmas.Int.{ints}
use Rattle.std.proofs.lemmas.List.{get_or-set_same, get_or-set_other}
use Rattle.bank_tables.specs.Tables.{loglik}
use Rattle.ability_grid.proofs.sums.add_answer.Goals as goal

-- what the code adds is the sum
added : (a b : ℤ) → negsuc 9000000000000000 ≤ℤ a → a ≤ℤ pos 2147483647 → negsuc 2147483647 ≤ℤ b → b ≤ℤ pos 2147483647 → to_z w64 (of_z w64 (to_z w64 (of_z w64 a) +ℤ to_z w64 (of_z w64 (to_z w32 (of_z w32 b))))) ≡ a +ℤ b
added a b la ha lb hb = omega (arith, ints)

last_or_before : (h g : ℕ) → h < g + 1 → (h < g) ⊎ (h ≡ g)
last_or_before h g w = grind arith

pub loop-g-preserved : goal.loop-g-preserved
loop-g-preserved c =
    let g = c.loop-g.g in
    let a : ℤ = get_or c.loop-g.values g (pos 0) in
    let b : ℤ = c.loglik.result in
    let new : ℤ = to_z w64 (of_z w64 (to_z w64 (of_z w64 a) +ℤ to_z w64 (of_z w64 (to_z w32 (of_z w32 b))))) in
    let within : g < length c.loop-g.values = omega arith in
    let old : a ≡ get_or c.args.values.now g (pos 0) = c.loop-g.invariant.rest g (omega arith) in
    let low = c.requires.low g (omega arith) in
    let high = c.requires.high g (omega arith) in
    let e : new ≡ a +ℤ b = added a b (omega (arith, ints)) (omega (arith, ints)) (omega (arith, ints)) (omega (arith, ints)) in
    record {
      done =
          λ h w.
          elim (last_or_before h g w) [
            | inl before ↦ let ne : h ≢ g = omega arith in get_or-set_other c.loop-g.values g h new (pos 0) ne ∙ c.loop-g.invariant.done h before
            | inr this ↦
                ap (λ (k : ℕ). get_or (set c.loop-g.values g new) k (pos 0)) this
                ∙ get_or-set_same c.loop-g.values g new (pos 0) within
                ∙ e
                ∙ ap (λ z. z +ℤ b) old
                ∙ ap (λ z. get_or c.args.values.now g (pos 0) +ℤ z) c.loglik.ensures
                ∙ ap (λ (k : ℕ). get_or c.args.values.now k (pos 0) +ℤ loglik c.args.bank.now c.args.item c.args.response k) (sym this)
          ];
      rest = λ h w. let ne : h ≢ g = omega arith in get_or-set_other c.loop-g.values g h new (pos 0) ne ∙ c.loop-g.invariant.rest h (omega arith);
    }

pub loop-g-init : goal.loop-g-init
loop-g-init c = search rules
