use Rattle.std.proofs.Common.{◌≡◌, ℕ, inl, inr, false, sym, ap, ◌∙◌, subst, arith}
use Rattle.bank_tables.specs.Items.{Set}
use Rattle.certificate_model.specs.Paths.{Path, is_free}
use Rattle.series_model.specs.SeriesPaths.{is_free_in}
use Rattle.series_check.specs.Cuts.{problem_of, one_form, path_of}
use Rattle.series_outcome.proofs.CountLaws.{last_or}
use Rattle.series_outcome.proofs.fallback.free_item.Goals as goal

pub returns-in-Some-clause-branch : goal.returns-in-Some-clause-branch
returns-in-Some-clause-branch c =
    record {
      form = omega arith;
      free = sym (ap (λ (X : Set). X c.in-Some.item) c.standing_on.ensures.standing.free ∙ ap (λ (q : Path). is_free (one_form c.args.setting.now) q c.in-Some.item) c.standing_on.ensures.path) ∙ c.in-Some.ensures.lowest.member;
    }

pub loop-form-preserved : goal.loop-form-preserved
loop-form-preserved c f i w =
    elim (last_or f c.loop-form.form w) [
      | inl old ↦ c.loop-form.invariant f i old
      | inr new ↦
          let free = ap (λ (X : Set). X i) c.standing_on.ensures.standing.free ∙ ap (λ (q : Path). is_free (one_form c.args.setting.now) q i) c.standing_on.ensures.path in
          subst (λ (g : ℕ). is_free_in (problem_of c.args.setting.now) (path_of c.args.cut.now) g i ≡ false) (sym new) (sym free ∙ c.in_default.ensures.lowest i)
    ]

pub unreachable-requires : goal.unreachable-requires
unreachable-requires c = c.requires.several (λ f i w. c.loop-form.invariant f i (omega arith))
