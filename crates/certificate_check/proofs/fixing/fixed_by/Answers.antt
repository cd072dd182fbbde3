use Rattle.std.proofs.Common.{Bool, ◌&&◌, ◌||◌, ap, ◌∙◌}
use Rattle.bank_tables.specs.Items.{has}
use Rattle.bank_tables.specs.Tables.{stimulus}
use Rattle.form_model.specs.Problem.{Problem}
use Rattle.certificate_model.specs.Fixing.{is_too_dear}
use Rattle.certificate_model.specs.Paths.{Path, is_free}
use Rattle.certificate_model.specs.Relaxed.{Multipliers}
use Rattle.constraint_model.specs.Views.{problem_of}
use Rattle.certificate_check.specs.Cuts.{path_of}
use Rattle.certificate_check.proofs.fixing.fixed_by.Goals as goal

pub taken_in-requires-clause-out : goal.taken_in-requires-clause-out
taken_in-requires-clause-out c =
    λ i.
    let P : Problem = problem_of c.args.problem.now in
    let p : Path = path_of c.args.standing.now.cut in
    let v : Multipliers = c.args.costs.now.vector.now in
    c.put_out-out.ensures i
    ∙ ap (λ (b : Bool). is_free P p i && (b || has c.too_few_left-few.result (stimulus P.bank i))) (c.too_dear-dear.ensures i)
    ∙ ap (λ (b : Bool). is_free P p i && (is_too_dear P p v c.args.costs.now.goal i || b)) (c.too_few_left-few.ensures (stimulus P.bank i))

pub returns : goal.returns
returns c =
    let P : Problem = problem_of c.args.problem.now in
    let p : Path = path_of c.args.standing.now.cut in
    let v : Multipliers = c.args.costs.now.vector.now in
    record {
      taken = c.taken_in.ensures;
      out = λ i.
          c.put_out-out.ensures i
          ∙ ap (λ (b : Bool). is_free P p i && (b || has c.too_few_left-few.result (stimulus P.bank i))) (c.too_dear-dear.ensures i)
          ∙ ap (λ (b : Bool). is_free P p i && (is_too_dear P p v c.args.costs.now.goal i || b)) (c.too_few_left-few.ensures (stimulus P.bank i));
      branched_on = c.settled_on.ensures;
    }
