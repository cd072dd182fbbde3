use Rattle.std.proofs.Common.{◌≤◌, arith}
use Rattle.std.proofs.lemmas.Bool.{lt-ltb, ltb-true}
use Rattle.bank_tables.specs.Tables.{size, stimulus}
use Rattle.form_model.specs.Forms.{stimuli_of}
use Rattle.certificate_check.proofs.Steps.{greatest_at_most}
use Rattle.series_check.specs.Cuts.{problem_of}
use Rattle.series_check.proofs.NameLaws.{point_named, named_point}
use Rattle.series_check.proofs.leaf.is_point_side.Goals as goal

pub returns-then-side-setting : goal.returns-then-side-setting
returns-then-side-setting c pool =
    let Q = problem_of c.args.setting.now in
    let few : stimuli_of Q.bank ≤ 64 = greatest_at_most (size Q.bank) 64 (stimulus Q.bank) c.requires.problem.bank.stimulus_high in (
      λ h. point_named Q c.requires.problem few c.args.side pool (omega (arith, c.if-side-setting.true)) (omega (arith, ltb-true _ _ h, c.grid.ensures)),
      λ named. lt-ltb _ _ (omega (arith, (named_point Q c.requires.problem few c.args.side pool c.requires.last named).1, c.grid.ensures)),
    )

pub returns-else-side-setting : goal.returns-else-side-setting
returns-else-side-setting c pool =
    let Q = problem_of c.args.setting.now in
    let few : stimuli_of Q.bank ≤ 64 = greatest_at_most (size Q.bank) 64 (stimulus Q.bank) c.requires.problem.bank.stimulus_high in (
      λ h. absurd (let form = ltb-true _ _ h in omega (arith, form, c.if-side-setting.false)),
      λ named. absurd (let both = named_point Q c.requires.problem few c.args.side pool c.requires.last named in omega (arith, both.0, c.if-side-setting.false)),
    )
