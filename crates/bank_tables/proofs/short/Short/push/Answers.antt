use Rattle.std.proofs.Common.{◌≡◌, ℕ, ◌+◌, ◌-◌, ◌<◌, ◌≤◌, List, length, take, drop, sym, subst, ◌∙◌, ap, arith, length-set}
use Rattle.std.specs.Prelude.{replicate}
use Rattle.std.proofs.lemmas.List.{drop-set-lt, drop-replicate, length-take-le}
use Rattle.std.proofs.lemmas.List.{drop-drop}
use Rattle.bank_tables.proofs.short.Short.push.Goals as goal

pub invariant_of-self : goal.invariant_of-self
invariant_of-self c =
    let values : List ℕ = c.self.inside.values in
    let len : ℕ = c.self.inside.len in
    let shorter : length (take len values) < 512 = subst (λ (xs : List ℕ). length xs < 512) (sym c.self.view_is) c.requires in
    let few : len ≤ length values = omega (arith, c.self.invariant.room, c.self.invariant.few) in
    let number : length (take len values) ≡ len = length-take-le len values few in
    record {
      room = length-set values len c.args.value ∙ c.self.invariant.room;
      few = omega arith;
      rest =
          let after : len < len + 1 = omega arith in
          drop-set-lt (len + 1) values len c.args.value after
          ∙ (sym (drop-drop 1 len values) ∙ (ap (drop 1) c.self.invariant.rest ∙ (drop-replicate 1 (512 - len) 0 ∙ ap (λ (n : ℕ). replicate n 0) (omega arith))));
    }
