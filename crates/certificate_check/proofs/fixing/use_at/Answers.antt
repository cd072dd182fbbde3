use Rattle.std.proofs.Common.{◌≡◌, ◌≤◌, ◌<◌, ◌-◌, ℕ, suc, arith, sym, ap, ◌∙◌, subst}
use Rattle.bank_tables.specs.Tables.{size, stimulus}
use Rattle.form_model.specs.Forms.{stimuli_of}
use Rattle.form_model.specs.Problem.{Problem}
use Rattle.certificate_model.specs.Fixing.{stimulus_margin}
use Rattle.certificate_model.specs.Paths.{Path, is_open}
use Rattle.certificate_model.specs.Ranges.{IsWithin, at}
use Rattle.constraint_model.specs.Views.{problem_of}
use Rattle.certificate_check.specs.Cuts.{path_of}
use Rattle.certificate_check.specs.Weights.{gain_top}
use Rattle.certificate_check.proofs.CostLaws.{read_back, wider}
use Rattle.certificate_check.proofs.Steps.{greatest_at_most}
use Rattle.certificate_check.proofs.fixing.use_at.Goals as goal

pub bounds-costs-which : goal.bounds-costs-which
bounds-costs-which c =
    let P : Problem = problem_of c.args.problem.now in
    let p : Path = path_of c.args.standing.now.cut in
    let most : stimuli_of P.bank ≤ 64 = greatest_at_most (size P.bank) 64 (stimulus P.bank) c.requires.well_made.bank.stimulus_high in
    omega (arith, c.requires.branch.first, c.requires.branch.last)

pub returns-clause-value : goal.returns-clause-value
returns-clause-value c =
    let P : Problem = problem_of c.args.problem.now in
    let p : Path = path_of c.args.standing.now.cut in
    let k : ℕ = c.args.which - 1 in
    let e : suc k ≡ c.args.which = omega (arith, c.requires.branch.first) in
    let w : k < stimuli_of P.bank = omega (arith, c.requires.branch.first, c.requires.branch.last) in
    let near : IsWithin gain_top (at c.args.costs.now.uses k) = c.requires.costs.uses_within k w in
    read_back (at c.args.costs.now.uses k) (wider gain_top (at c.args.costs.now.uses k) (omega arith) near)
    ∙ c.requires.costs.uses_are k w (ap (λ (s : ℕ). is_open P p s) e ∙ c.requires.branch.is_open)
    ∙ ap (λ (s : ℕ). stimulus_margin P p c.args.costs.now.vector.now s) e

pub returns-clause-within : goal.returns-clause-within
returns-clause-within c =
    let P : Problem = problem_of c.args.problem.now in
    let p : Path = path_of c.args.standing.now.cut in
    let k : ℕ = c.args.which - 1 in
    let w : k < stimuli_of P.bank = omega (arith, c.requires.branch.first, c.requires.branch.last) in
    let near : IsWithin gain_top (at c.args.costs.now.uses k) = c.requires.costs.uses_within k w in
    subst (IsWithin gain_top) (sym (read_back (at c.args.costs.now.uses k) (wider gain_top (at c.args.costs.now.uses k) (omega arith) near))) near
