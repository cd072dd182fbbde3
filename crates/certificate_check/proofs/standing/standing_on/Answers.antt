use Rattle.std.proofs.Common.{◌≡◌, ℕ, ◌∙◌, ap, Bool, ◌||◌}
use Rattle.std.proofs.Math.Path.{fun_ext}
use Rattle.bank_tables.specs.Items.{has}
use Rattle.form_model.specs.Forms.{used}
use Rattle.certificate_model.specs.Paths.{Path, is_free, is_chosen, is_open}
use Rattle.constraint_model.specs.Views.{problem_of}
use Rattle.certificate_check.specs.Cuts.{path_of}
use Rattle.certificate_check.proofs.Collected.{both_tests}
use Rattle.certificate_check.proofs.standing.standing_on.Goals as goal

pub returns-clause-standing : goal.returns-clause-standing
returns-clause-standing c =
    let P = problem_of c.args.problem.now in
    let p : Path = path_of c.args.cut.now in
    let free : has c.free_items-free.result ≡ is_free P p = fun_ext c.free_items-free.ensures in
    let taken_used = c.stimuli_used.ensures in
    let chosen : has c.union-chosen.result ≡ is_chosen P p =
    fun_ext (λ (s : ℕ). c.union-chosen.ensures s ∙ ap (λ (b : Bool). has c.args.cut.now.branched_on s || b) (c.stimuli_used.ensures s)) in
    let opened : has c.minus-opened.result ≡ is_open P p =
    fun_ext (λ (s : ℕ). c.minus-opened.ensures s
    ∙ both_tests _ _ _ _ (c.stimuli_used-2.ensures s ∙ ap (λ X. used P.bank X s) free) (ap (λ X. X s) chosen)) in
    record {
      free = free;
      may_hold = fun_ext (λ (i : ℕ). c.union.ensures i ∙ ap (λ X. has c.args.cut.now.taken i || X i) free);
      chosen = chosen;
      opened = opened;
      may_use = fun_ext (λ (s : ℕ). c.union-2.ensures s ∙ ap (λ X. X s || has c.minus-opened.result s) chosen ∙ ap (λ X. is_chosen P p s || X s) opened);
    }
