use Rattle.std.proofs.Common.{◌≡◌, ◌≤◌, true, false, inl, inr, Bool, sym, ◌∙◌, subst, arith}
use Rattle.std.proofs.lemmas.Bool.{lt-ltb, ltb-true}
use Rattle.std.proofs.Math.Bool.{true≢false}
use Rattle.bank_tables.specs.Tables.{size, stimulus}
use Rattle.form_model.specs.Forms.{stimuli_of}
use Rattle.certificate_check.proofs.Steps.{greatest_at_most}
use Rattle.series_model.specs.SeriesVerdicts.{IsSide}
use Rattle.series_check.specs.Cuts.{problem_of}
use Rattle.series_check.proofs.NameLaws.{pool_named, named_pool}
use Rattle.series_check.proofs.leaf.is_pool_side.Goals as goal

pub returns-else-pool : goal.returns-else-pool
returns-else-pool c =
    let Q = problem_of c.args.setting.now in
    let few : stimuli_of Q.bank ≤ 64 = greatest_at_most (size Q.bank) 64 (stimulus Q.bank) c.requires.problem.bank.stimulus_high in (
      λ h. absurd (true≢false (sym h ∙ c.if-pool.false)),
      λ named. absurd (let off : c.args.pool ≡ false = c.if-pool.false in
          let on : c.args.pool ≡ true = (named_pool Q c.requires.problem few c.args.side c.args.pool c.requires.first named).0 in
          true≢false (sym on ∙ off)),
    )

pub returns-else-side-eq2314 : goal.returns-else-side-eq2314
returns-else-side-eq2314 c =
    let Q = problem_of c.args.setting.now in
    let few : stimuli_of Q.bank ≤ 64 = greatest_at_most (size Q.bank) 64 (stimulus Q.bank) c.requires.problem.bank.stimulus_high in (
      λ h. subst (λ (pool : Bool). IsSide Q pool c.args.side) (sym c.if-pool.true) (pool_named Q c.requires.problem few c.args.side c.requires.first (inr (omega (arith, ltb-true _ _ h)))),
      λ named. elim (named_pool Q c.requires.problem few c.args.side c.args.pool c.requires.first named).1 [
        | inl mark ↦ absurd (omega (arith, mark, c.if-side-eq2314.false))
        | inr price ↦ lt-ltb _ _ (omega (arith, price))
      ],
    )
