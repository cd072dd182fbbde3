use Rattle.std.proofs.Common.{◌≡◌, ℕ, inl, inr, false, sym, ap, ◌∙◌, subst}
use Rattle.certificate_model.specs.Counting.{is_impossible}
use Rattle.certificate_model.specs.Paths.{Path}
use Rattle.series_model.specs.SeriesPaths.{form_problem, form_path}
use Rattle.series_check.specs.Cuts.{problem_of, path_of}
use Rattle.series_outcome.proofs.CountLaws.{last_or}
use Rattle.series_outcome.proofs.counted.impossible.Goals as goal

pub loop-form-preserved : goal.loop-form-preserved
loop-form-preserved c f r w =
    let Q = problem_of c.args.setting.now in
    elim (last_or f c.loop-form.form w) [
      | inl old ↦ c.loop-form.invariant f r old
      | inr new ↦
          subst (λ (g : ℕ). is_impossible (form_problem Q) (form_path Q (path_of c.args.cut.now) g) r ≡ false) (sym new)
          (sym (ap (λ (q : Path). is_impossible (form_problem Q) q r) c.standing_on.ensures.path) ∙ c.in_default.ensures.first r)
    ]
