use Rattle.std.proofs.Common.{◌≡◌, ℕ, ◌<◌, ◌&&◌, ◌||◌, ◌==◌, not, sym, ap, ◌∙◌}
use Rattle.std.proofs.Math.Path.{fun_ext}
use Rattle.bank_tables.specs.Items.{Set, has}
use Rattle.bank_tables.specs.Tables.{size, stimulus}
use Rattle.constraint_model.specs.Views.{problem_of}
use Rattle.lagrange_bound.proofs.Branches.{free_taken, chosen_taken, open_taken}
use Rattle.std.proofs.Common.{nat_lt}
use Rattle.std.proofs.lemmas.Bool.{ltb-true, and_parts}
use Rattle.lagrange_bound.proofs.cut.Cut.with_taken.Goals as goal

pub returns : goal.returns
returns c p is =
    let P = problem_of c.args.problem.now in
    let i = c.args.item in
    let within : i < size P.bank = ltb-true i (size P.bank) (and_parts _ _ (ap (λ (X : Set). X i) (sym c.requires.cut.is.free) ∙ c.requires.free)).0 in
    let own : c.stimulus-stimulus.result ≡ stimulus P.bank i = c.stimulus-stimulus.ensures in
    record {
      taken = fun_ext (λ j. c.with.ensures j ∙ ap (λ (X : Set). (j == i) || X j) is.taken);
      out = is.out;
      free = free_taken P p i (has c.args.self.now.free) (has c.without.result) is.free c.without.ensures;
      chosen = chosen_taken P p i within (has c.args.self.now.chosen) (has c.with_one_more.result) is.chosen (λ s. c.with_one_more.ensures s ∙ ap (λ (t : ℕ). (nat_lt 0 s && t == s) || has c.args.self.now.chosen s) own);
      opened = open_taken P p i within (has c.args.self.now.opened) (has c.without-2.result) is.opened (λ s. c.without-2.ensures s ∙ ap (λ (t : ℕ). not (s == t) && has c.args.self.now.opened s) own);
    }
