use Rattle.std.proofs.Common.{◌≡◌, ◌<◌, ◌^◌, ℕ, arith, ap, sym, ◌∙◌}
use Rattle.std.specs.Option.{option_map}
use Rattle.std.proofs.lemmas.Nat.{pow_below}
use lib.Count.{ones}
use Rattle.bank_tables.specs.Items.{Set, has}
use Rattle.bank_tables.specs.Tables.{size}
use Rattle.constraint_model.specs.Views.{problem_of}
use Rattle.form_enumeration.specs.Enumeration.{masked}
use Rattle.form_enumeration.proofs.Enumerated.{after_set, after_skip, all_masks}
use Rattle.form_enumeration.proofs.enumeration.best_form.Goals as goal
use Rattle.form_enumeration.proofs.enumeration.best_form.Goals.{then-mask-length, else-mask-length}

pub loop-mask-preserved : goal.loop-mask-preserved
loop-mask-preserved c =
    let P = problem_of c.args.problem.now in
    let kept = option_map has c.loop-mask.best in
    elim c.if-mask-length.branch [
      | then-mask-length w ↦
          let S : Set = has w.masked.result in
          let new = option_map has w.better_of-best.result in
          let e : (i : ℕ) → S i ≡ masked c.loop-mask.mask (size c.args.problem.now.bank.now) i = λ i. w.masked.ensures i ∙ ap (λ (n : ℕ). masked c.loop-mask.mask n i) c.items-items.ensures.items in
          record {
            form = rw w.best-is w.better_of-best.ensures.form;
            greatest = rw w.best-is (after_set P c.loop-mask.mask S kept new e w.better_of-best.ensures c.loop-mask.invariant.greatest);
          }
      | else-mask-length w ↦
          let other : ones c.loop-mask.mask ≡ P.plan.length → ⊥ = λ same. w.if-mask-length.false (same ∙ sym c.length-length.ensures) in
          record {
            form = rw w.best-is c.loop-mask.invariant.form;
            greatest = rw w.best-is (after_skip P c.loop-mask.mask kept other c.loop-mask.invariant.greatest);
          }
    ]

pub returns : goal.returns
returns c =
    let few : c.items-items.result < 17 = omega (arith, c.items-items.ensures.items, c.requires.small) in
    let small : 2 ^ c.items-items.result < 2 ^ 17 = pow_below c.items-items.result 17 few in
    let e : 2 ^ c.items-items.result ≡ 2 ^ size c.args.problem.now.bank.now = ap (λ (n : ℕ). 2 ^ n) c.items-items.ensures.items in
    all_masks (problem_of c.args.problem.now) c.loop-mask.mask c.loop-mask.best (omega (arith, c.loop-mask-test.false)) c.loop-mask.invariant.form c.loop-mask.invariant.greatest
