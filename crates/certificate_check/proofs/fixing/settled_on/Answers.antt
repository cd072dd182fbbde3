use Rattle.std.proofs.Common.{◌≤◌, ◌+◌, ℕ, List, sym, ◌∙◌, subst, arith}
use Rattle.std.proofs.lemmas.Bool.{and_parts}
use Rattle.bank_tables.specs.Items.{Set, has}
use Rattle.bank_tables.specs.Tables.{size, stimulus}
use Rattle.form_model.specs.Forms.{stimuli_of}
use Rattle.form_model.specs.Problem.{Problem}
use Rattle.certificate_model.specs.Fixing.{is_settled_on}
use Rattle.certificate_model.specs.Paths.{Path, is_open}
use Rattle.constraint_model.specs.Views.{problem_of}
use Rattle.certificate_check.specs.Cuts.{path_of}
use Rattle.certificate_check.proofs.Collected.{all_collected, taken_one, skipped_one, IsCollected}
use Rattle.certificate_check.proofs.CostLaws.{open_branch}
use Rattle.certificate_check.proofs.Steps.{greatest_at_most}
use Rattle.certificate_check.proofs.fixing.settled_on.Goals.{then-is_settled_on, else-is_settled_on}
use Rattle.certificate_check.proofs.fixing.settled_on.Goals as goal

pub returns : goal.returns
returns c =
    let P : Problem = problem_of c.args.problem.now in
    let p : Path = path_of c.args.standing.now.cut in
    let most : stimuli_of P.bank ≤ 64 = greatest_at_most (size P.bank) 64 (stimulus P.bank) c.requires.well_made.bank.stimulus_high in
    all_collected (65) c.loop-which.which (λ j. is_settled_on P p c.args.costs.now.vector.now c.args.costs.now.goal j) (has c.loop-which.found) (omega (arith, c.loop-which-test.false)) c.loop-which.invariant (λ j e. let branch = open_branch P p j (and_parts (is_open P p j) _ e).0 in omega (arith, branch.last))

pub loop-which-preserved : goal.loop-which-preserved
loop-which-preserved c =
    let P : Problem = problem_of c.args.problem.now in
    let p : Path = path_of c.args.standing.now.cut in
    let test : Set = is_settled_on P p c.args.costs.now.vector.now c.args.costs.now.goal in
    let here = c.loop-which.which in
    elim c.if-is_settled_on.branch [
      | then-is_settled_on w ↦
          let more : IsCollected (here + 1) test (has w.with-found.result) = taken_one here test (has c.loop-which.found) (has w.with-found.result) c.loop-which.invariant (sym c.is_settled_on.ensures ∙ w.if-is_settled_on.true) w.with-found.ensures in
          subst (λ (words : List ℕ). IsCollected (here + 1) test (has words)) (sym w.found-is) more
      | else-is_settled_on w ↦
          let same : IsCollected (here + 1) test (has c.loop-which.found) = skipped_one here test (has c.loop-which.found) c.loop-which.invariant (sym c.is_settled_on.ensures ∙ w.if-is_settled_on.false) in
          subst (λ (words : List ℕ). IsCollected (here + 1) test (has words)) (sym w.found-is) same
    ]
