use Rattle.std.proofs.Common.{◌+◌, ℕ, List, sym, ◌∙◌, subst, arith}
use Rattle.std.proofs.lemmas.Bool.{and_parts}
use Rattle.bank_tables.specs.Items.{Set, has}
use Rattle.bank_tables.specs.Tables.{size}
use Rattle.form_model.specs.Problem.{Problem}
use Rattle.certificate_model.specs.Fixing.{is_taken_in}
use Rattle.certificate_model.specs.Paths.{Path, is_free}
use Rattle.constraint_model.specs.Views.{problem_of}
use Rattle.certificate_check.specs.Cuts.{path_of}
use Rattle.certificate_check.proofs.Collected.{all_collected, taken_one, skipped_one, IsCollected}
use Rattle.certificate_check.proofs.CostLaws.{free_below}
use Rattle.certificate_check.proofs.fixing.taken_in.Goals.{then-is_taken_in, else-is_taken_in}
use Rattle.certificate_check.proofs.fixing.taken_in.Goals as goal

pub returns : goal.returns
returns c =
    let P : Problem = problem_of c.args.problem.now in
    let p : Path = path_of c.args.standing.now.cut in
    all_collected (size P.bank) c.loop-i.i (λ j. is_taken_in P p c.args.costs.now.vector.now c.args.costs.now.goal j) (has c.loop-i.found) (omega (arith, c.items-i-end.ensures.items, c.loop-i-test.false)) c.loop-i.invariant (λ j e. free_below P p j (and_parts (is_free P p j) _ e).0)

pub loop-i-preserved : goal.loop-i-preserved
loop-i-preserved c =
    let P : Problem = problem_of c.args.problem.now in
    let p : Path = path_of c.args.standing.now.cut in
    let test : Set = is_taken_in P p c.args.costs.now.vector.now c.args.costs.now.goal in
    let here = c.loop-i.i in
    elim c.if-is_taken_in.branch [
      | then-is_taken_in w ↦
          let more : IsCollected (here + 1) test (has w.with-found.result) = taken_one here test (has c.loop-i.found) (has w.with-found.result) c.loop-i.invariant (sym c.is_taken_in.ensures ∙ w.if-is_taken_in.true) w.with-found.ensures in
          subst (λ (words : List ℕ). IsCollected (here + 1) test (has words)) (sym w.found-is) more
      | else-is_taken_in w ↦
          let same : IsCollected (here + 1) test (has c.loop-i.found) = skipped_one here test (has c.loop-i.found) c.loop-i.invariant (sym c.is_taken_in.ensures ∙ w.if-is_taken_in.false) in
          subst (λ (words : List ℕ). IsCollected (here + 1) test (has words)) (sym w.found-is) same
    ]
