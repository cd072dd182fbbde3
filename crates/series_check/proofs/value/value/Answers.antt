use Rattle.std.proofs.Common.{◌≡◌, ◌+◌, sym, subst, arith}
use Rattle.std.proofs.Math.Path.{fun_ext}
use Rattle.bank_tables.specs.Items.{Set, has}
use Rattle.series_model.specs.Series.{SeriesProblem, Forms, forms_of}
use Rattle.series_check.specs.Cuts.{problem_of}
use Rattle.series_check.specs.Values.{IsLeastTo, IsLeastOf}
use Rattle.series_check.proofs.ApartLaws.{set_read}
use Rattle.series_check.proofs.BestLaws.{points_within, form_has_least, one_form_more}
use Rattle.series_check.proofs.value.value.Goals as goal
use Rattle.series_check.proofs.value.value.Goals.{in-Some, in_default}

pub loop-f-preserved : goal.loop-f-preserved
loop-f-preserved c =
    let Q : SeriesProblem = problem_of c.args.setting.now in
    let S : Forms = forms_of c.args.sets.now in
    let f = c.loop-f.f in
    let within = points_within Q c.requires.problem in
    let (g, counted) = c.requires.problem.some_weight in
    let read : has c.index-sets-f.result ≡ S f = fun_ext (set_read c.args.sets.now f c.index-sets-f.result c.index-sets-f.is (omega (arith, c.loop-f-test.true, c.requires.enough))) in
    let own : IsLeastTo Q (S f) Q.bank.grid c.form_least.result = subst (λ (X : Set). IsLeastTo Q X Q.bank.grid c.form_least.result) read c.form_least.ensures in
    elim c.match-form_least.branch [
      | in-Some w ↦
          subst (IsLeastOf Q S (f + 1)) (sym w.least-is)
          (one_form_more Q S f Q.bank.grid within c.loop-f.least w.in-Some.here w.lesser.result w.lesser.ensures (subst (IsLeastTo Q (S f) Q.bank.grid) w.in-Some.is own) c.loop-f.invariant)
      | in_default w ↦ absurd (form_has_least Q S f Q.bank.grid within g counted (subst (IsLeastTo Q (S f) Q.bank.grid) w.in_default.is own))
    ]
