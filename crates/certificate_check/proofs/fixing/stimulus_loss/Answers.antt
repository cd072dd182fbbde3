use Rattle.std.proofs.Common.{◌≡◌, Bool, true, cond, arith, sym, ap, ◌∙◌}
use Rattle.std.specs.Prelude.{pos, neg_ℤ}
use Rattle.std.specs.Int.{int_max}
use Rattle.bank_tables.specs.Items.{Set}
use Rattle.form_model.specs.Problem.{Problem}
use Rattle.certificate_model.specs.Fixing.{stimulus_margin}
use Rattle.certificate_model.specs.Paths.{Path, is_open}
use Rattle.constraint_model.specs.Views.{problem_of}
use Rattle.certificate_check.specs.Cuts.{path_of}
use Rattle.certificate_check.specs.Weights.{gain_top}
use Rattle.certificate_check.proofs.CostLaws.{read_back, wider, open_branch}
use Rattle.certificate_check.proofs.fixing.stimulus_loss.Goals as goal

pub use_loss-requires-clause-branch : goal.use_loss-requires-clause-branch
use_loss-requires-clause-branch c =
    let P : Problem = problem_of c.args.problem.now in
    let p : Path = path_of c.args.standing.now.cut in
    let opened : is_open P p c.args.which ≡ true = sym (c.has.ensures ∙ ap (λ (X : Set). X c.args.which) c.requires.standing.opened) ∙ c.if-not-has.false in
    let branch = open_branch P p c.args.which opened in
    branch

pub returns-clause-value : goal.returns-clause-value
returns-clause-value c =
    let P : Problem = problem_of c.args.problem.now in
    let p : Path = path_of c.args.standing.now.cut in
    let opened : is_open P p c.args.which ≡ true = sym (c.has.ensures ∙ ap (λ (X : Set). X c.args.which) c.requires.standing.opened) ∙ c.if-not-has.false in
    let branch = open_branch P p c.args.which opened in
    read_back c.use_loss.result (wider gain_top c.use_loss.result (omega arith) c.use_loss.ensures.within) ∙ c.use_loss.ensures.value
    ∙ sym (ap (λ (o : Bool). cond o (int_max (pos 0) (neg_ℤ (stimulus_margin P p c.args.costs.now.vector.now c.args.which))) (pos 0)) opened)
