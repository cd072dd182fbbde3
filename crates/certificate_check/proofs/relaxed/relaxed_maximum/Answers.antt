use Rattle.std.proofs.Common.{◌≡◌, arith, inl, inr, ap, ◌∙◌}
use Rattle.bank_tables.specs.Items.{Set}
use Rattle.form_model.specs.Forms.{size_in}
use Rattle.certificate_model.specs.Paths.{Path, is_free}
use Rattle.constraint_model.specs.Views.{problem_of}
use Rattle.certificate_check.specs.Cuts.{path_of}
use Rattle.certificate_check.proofs.MaximumLaws.{no_maximum}
use Rattle.certificate_check.proofs.relaxed.relaxed_maximum.Goals as goal

pub returns-then-length-taken : goal.returns-then-length-taken
returns-then-length-taken c =
    let P = problem_of c.args.problem.now in
    let p : Path = path_of c.args.standing.now.cut in
    no_maximum P p c.args.vector.now c.args.ray (inl (omega (arith, c.size_in-taken.ensures.size, c.length-length.ensures)))

pub returns-then-taken-free : goal.returns-then-taken-free
returns-then-taken-free c =
    let P = problem_of c.args.problem.now in
    let p : Path = path_of c.args.standing.now.cut in
    let free : c.size_in-free.result ≡ size_in P.bank (is_free P p) = c.size_in-free.ensures.size ∙ ap (λ (X : Set). size_in P.bank X) c.requires.standing.free in
    no_maximum P p c.args.vector.now c.args.ray (inr (omega (arith, c.size_in-taken.ensures.size, c.length-length.ensures)))

pub filled_maximum-requires-clause-enough : goal.filled_maximum-requires-clause-enough
filled_maximum-requires-clause-enough c = omega (arith, c.size_in-free.ensures.size)

pub filled_maximum-requires-clause-fills : goal.filled_maximum-requires-clause-fills
filled_maximum-requires-clause-fills c = omega arith
