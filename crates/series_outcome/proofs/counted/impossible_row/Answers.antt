use Rattle.std.proofs.Common.{inl, inr, List, length, sym, ap, ◌∙◌, below_more, arith}
use Rattle.std.proofs.lemmas.Bool.{cases_lt}
use Rattle.form_model.specs.declared.row.Row.{Row}
use Rattle.series_check.specs.Cuts.{one_form, form_path_of}
use Rattle.series_outcome.proofs.CountLaws.{past_rows, few_stimuli}
use Rattle.series_outcome.proofs.counted.impossible_row.Goals as goal

pub loop-row-preserved : goal.loop-row-preserved
loop-row-preserved c = below_more _ _ c.loop-row.invariant (sym c.is_impossible.ensures ∙ c.if-is_impossible.false)

pub overflow_cast-last-2 : goal.overflow_cast-last-2
overflow_cast-last-2 c = omega (arith, c.requires.problem.plan.few_rows, ap (λ (xs : List Row). length xs) c.rows-rows.ensures, few_stimuli c.args.setting.now.bank.now c.requires.problem.bank, c.stimuli.ensures)

pub overflow_add-row-end : goal.overflow_add-row-end
overflow_add-row-end c = omega (arith, c.requires.problem.plan.few_rows, ap (λ (xs : List Row). length xs) c.rows-rows.ensures, few_stimuli c.args.setting.now.bank.now c.requires.problem.bank, c.stimuli.ensures)

pub returns-then-is_impossible-clause-few : goal.returns-then-is_impossible-clause-few
returns-then-is_impossible-clause-few c = omega (arith, c.loop-row-test.true, c.requires.problem.plan.few_rows, ap (λ (xs : List Row). length xs) c.rows-rows.ensures, few_stimuli c.args.setting.now.bank.now c.requires.problem.bank, c.stimuli.ensures)

pub returns-clause-first : goal.returns-clause-first
returns-clause-first c r =
    elim (cases_lt r c.loop-row.row) [
      | inl before ↦ c.loop-row.invariant r before
      | inr past ↦ past_rows (one_form c.args.setting.now) (form_path_of c.args.standing.now) r (omega (arith, c.loop-row-test.false, ap (λ (xs : List Row). length xs) c.rows-rows.ensures, c.stimuli.ensures))
    ]
