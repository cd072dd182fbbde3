use Rattle.std.proofs.Common.{◌≤◌, Bool, sym, subst, arith}
use Rattle.std.proofs.lemmas.Bool.{lt-ltb, ltb-true}
use Rattle.bank_tables.specs.Tables.{size, stimulus}
use Rattle.form_model.specs.Forms.{stimuli_of}
use Rattle.certificate_check.proofs.Steps.{greatest_at_most}
use Rattle.series_model.specs.SeriesVerdicts.{IsSide}
use Rattle.series_check.specs.Cuts.{problem_of}
use Rattle.series_check.proofs.NameLaws.{use_named, named_use}
use Rattle.series_check.proofs.leaf.is_use_side.Goals as goal

pub returns-then-not-pool : goal.returns-then-not-pool
returns-then-not-pool c =
    let Q = problem_of c.args.setting.now in
    let few : stimuli_of Q.bank ≤ 64 = greatest_at_most (size Q.bank) 64 (stimulus Q.bank) c.requires.problem.bank.stimulus_high in (
      λ h. subst (λ (pool : Bool). IsSide Q pool c.args.side) (sym c.if-not-pool.true) (use_named Q c.requires.problem few c.args.side c.requires.first (omega (arith, ltb-true _ _ h, c.items.ensures.items))),
      λ named. lt-ltb _ _ (omega (arith, (named_use Q c.requires.problem few c.args.side c.args.pool c.requires.first c.requires.last named).1, c.items.ensures.items)),
    )
