use Rattle.std.proofs.Common.{◌≡◌, ℕ, ◌+◌, ◌<◌, ◌⊎◌, inl, inr, false, sym, ap, ◌∙◌, subst, arith}
use Rattle.bank_tables.specs.Items.{has, Set}
use Rattle.certificate_model.specs.Paths.{Path, is_free}
use Rattle.series_model.specs.SeriesPaths.{is_free_in}
use Rattle.series_check.specs.Cuts.{problem_of, one_form, path_of}
use Rattle.series_check.proofs.ApartLaws.{no_member}
use Rattle.series_check.proofs.leaf.is_whole.Goals as goal

last_or : (i n : ℕ) → i < n + 1 → (i < n) ⊎ (i ≡ n)
last_or i n w = grind arith

pub loop-f-preserved : goal.loop-f-preserved
loop-f-preserved c f i w =
    elim (last_or f c.loop-f.f w) [
      | inl old ↦ c.loop-f.invariant f i old
      | inr new ↦
          let none = no_member (has c.standing_on.result.free) c.first.result c.first.ensures.lowest (sym c.is_some.ensures ∙ c.if-is_some.false) i in
          let free = ap (λ (X : Set). X i) c.standing_on.ensures.standing.free ∙ ap (λ (q : Path). is_free (one_form c.args.setting.now) q i) c.standing_on.ensures.path in
          subst (λ (g : ℕ). is_free_in (problem_of c.args.setting.now) (path_of c.args.cut.now) g i ≡ false) (sym new) (sym free ∙ none)
    ]
