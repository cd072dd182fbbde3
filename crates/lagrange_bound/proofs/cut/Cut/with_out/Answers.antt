use Rattle.std.proofs.Common.{◌≡◌, ℕ, ◌&&◌, ◌||◌, ◌==◌, not, sym, ap, ◌∙◌}
use Rattle.std.proofs.Math.Path.{fun_ext}
use Rattle.bank_tables.specs.Items.{Set, has}
use Rattle.bank_tables.specs.Tables.{size, stimulus}
use Rattle.constraint_model.specs.Views.{problem_of}
use Rattle.lagrange_bound.proofs.Branches.{free_out, open_out}
use Rattle.std.proofs.Math.Bool.{true≢false}
use Rattle.bank_tables.specs.Sums.{any_below}
use Rattle.lagrange_bound.proofs.cut.Cut.with_out.Goals.{then-has_one_of, else-has_one_of}
use Rattle.lagrange_bound.proofs.cut.Cut.with_out.Goals as goal

pub returns : goal.returns
returns c p is =
    let P = problem_of c.args.problem.now in
    let i = c.args.item in
    let own : c.stimulus-stimulus.result ≡ stimulus P.bank i = c.stimulus-stimulus.ensures in
    let found : c.has_one_of.result ≡ any_below (size P.bank) (λ j. has c.without-free.result j && stimulus P.bank j == stimulus P.bank i) =
    c.has_one_of.ensures ∙ ap (λ (t : ℕ). any_below (size P.bank) (λ j. has c.without-free.result j && stimulus P.bank j == t)) own in
    record {
      taken = is.taken;
      out = fun_ext (λ j. c.with.ensures j ∙ ap (λ (X : Set). (j == i) || X j) is.out);
      free = free_out P p i (has c.args.self.now.free) (has c.without-free.result) is.free c.without-free.ensures;
      chosen = is.chosen;
      opened = open_out P p i (has c.args.self.now.free) (has c.without-free.result) (has c.args.self.now.opened) (has c.if-has_one_of.opened) is.free c.without-free.ensures is.opened c.has_one_of.result found
          (λ some. elim c.if-has_one_of.branch [
            | then-has_one_of w ↦ ap (λ s. has s) w.opened-is
            | else-has_one_of w ↦ absurd (true≢false (sym some ∙ w.if-has_one_of.false))
          ])
          (λ none. elim c.if-has_one_of.branch [
            | then-has_one_of w ↦ absurd (true≢false (sym w.if-has_one_of.true ∙ none))
            | else-has_one_of w ↦ λ s. ap (λ o. has o s) w.opened-is ∙ w.without-opened.ensures s ∙ ap (λ (t : ℕ). not (s == t) && has c.args.self.now.opened s) own
          ]);
    }
