use Rattle.std.proofs.Common.{◌≤◌, ℕ, length, get_or, sym, ◌∙◌, subst}
use Rattle.bank_tables.specs.Tables.{size, stimulus}
use Rattle.form_model.specs.Forms.{stimuli_of}
use Rattle.form_model.specs.Problem.{Problem}
use Rattle.certificate_model.specs.Paths.{Path}
use Rattle.certificate_model.specs.Relaxed.{Multipliers}
use Rattle.constraint_model.specs.Views.{problem_of}
use Rattle.certificate_check.specs.Cuts.{path_of}
use Rattle.certificate_check.specs.Fixes.{AreFixed}
use Rattle.certificate_check.specs.declared.fixing.Fixed.{Fixed}
use Rattle.certificate_check.proofs.FixSteps.{low_side, settled_is, below_path}
use Rattle.certificate_check.proofs.Steps.{greatest_at_most}
use Rattle.certificate_check.proofs.fixing.fixed_cut.Goals as goal

pub costs_of-costs-requires-clause-sides : goal.costs_of-costs-requires-clause-sides
costs_of-costs-requires-clause-sides c k d w =
    let P = problem_of c.args.problem.now in
    let most : stimuli_of P.bank ≤ 64 = greatest_at_most (size P.bank) 64 (stimulus P.bank) c.requires.well_made.bank.stimulus_high in
    low_side (get_or c.args.vector.now k d).0 (length P.plan.rows) (stimuli_of P.bank) c.requires.well_made.plan.few_rows most (c.requires.sides k d w)

pub returns-then-not-settles : goal.returns-then-not-settles
returns-then-not-settles c =
    let P : Problem = problem_of c.args.problem.now in
    let p : Path = path_of c.args.standing.now.cut in
    let f : Fixed = c.fixed_by-fixed.result in
    let are : AreFixed P p c.args.vector.now c.args.goal f = subst (λ (goal : ℕ). AreFixed P p c.args.vector.now goal f) c.costs_of-costs.ensures.goal (subst (λ (v : Multipliers). AreFixed P p v c.costs_of-costs.result.goal f) c.costs_of-costs.ensures.vector c.fixed_by-fixed.ensures) in
    sym (settled_is P p c.args.vector.now c.args.goal f are) ∙ sym c.settles.ensures ∙ c.if-not-settles.true

pub returns : goal.returns
returns c =
    let P : Problem = problem_of c.args.problem.now in
    let p : Path = path_of c.args.standing.now.cut in
    let f : Fixed = c.fixed_by-fixed.result in
    let are : AreFixed P p c.args.vector.now c.args.goal f = subst (λ (goal : ℕ). AreFixed P p c.args.vector.now goal f) c.costs_of-costs.ensures.goal (subst (λ (v : Multipliers). AreFixed P p v c.costs_of-costs.result.goal f) c.costs_of-costs.ensures.vector c.fixed_by-fixed.ensures) in (
      sym (settled_is P p c.args.vector.now c.args.goal f are) ∙ sym c.settles.ensures ∙ c.if-not-settles.false,
      below_path P c.args.standing.now.cut c.cut_with.result c.args.vector.now c.args.goal f are c.cut_with.ensures.taken c.cut_with.ensures.out c.cut_with.ensures.branched_on,
    )
