use Rattle.std.proofs.Common.{◌&&◌, ◌||◌, arith}
use Rattle.std.proofs.lemmas.Bool.{and_parts}
use Rattle.bank_tables.specs.Items.{has}
use Rattle.bank_tables.specs.Tables.{size, stimulus}
use Rattle.form_model.specs.Problem.{Problem}
use Rattle.certificate_model.specs.Paths.{Path, is_free}
use Rattle.constraint_model.specs.Views.{problem_of}
use Rattle.certificate_check.specs.Cuts.{path_of}
use Rattle.certificate_check.proofs.Collected.{all_collected}
use Rattle.certificate_check.proofs.CostLaws.{free_below}
use Rattle.certificate_check.proofs.fixing.put_out.Goals as goal

pub returns : goal.returns
returns c =
    let P : Problem = problem_of c.args.problem.now in
    let p : Path = path_of c.args.standing.now.cut in
    all_collected (size P.bank) c.loop-i.i (λ j. is_free P p j && (has c.args.dear.now j || has c.args.few.now (stimulus P.bank j))) (has c.loop-i.found) (omega (arith, c.items-i-end.ensures.items, c.loop-i-test.false)) c.loop-i.invariant (λ j e. free_below P p j (and_parts (is_free P p j) _ e).0)
