-- One form, and one point of weight 1: a series is a form, and its value the form's objective.
use Rattle.std.proofs.Common.{◌≡◌, ℕ, ◌*◌, ◌<◌, inl, inr, sym, ap, ◌∙◌, arith}
use Rattle.std.proofs.lemmas.Bool.{cases_eq}
use Rattle.std.proofs.Math.Bool.{true≢false}
use Rattle.bank_tables.specs.Items.{Set}
use Rattle.bank_tables.specs.Sums.{sum_in}
use Rattle.bank_tables.specs.Tables.{size, info}
use Rattle.form_model.specs.Forms.{Form, Best, objective, Meets}
use Rattle.form_model.specs.Problem.{whole}
use Rattle.series_model.specs.Series.{SeriesProblem, Forms, weight_of, weighted_information, IsSeries, IsValue, BestSeries}
use Rattle.series_model.specs.SeriesLaws.{OneFormIsBest}

module _ (Q : SeriesProblem) (g : ℕ) (one : Q.forms ≡ 1) (weight : weight_of Q g ≡ 1) (others : (h : ℕ) → (h ≡ g → ⊥) → weight_of Q h ≡ 0) where
  -- the point that counts is g
  counted_is : (h : ℕ) → 0 < weight_of Q h → h ≡ g
  counted_is h some = elim (cases_eq h g) [ inl same ↦ same | inr other ↦ absurd (let none = others h other in omega arith) ]

  weighs_one : (X : Set) → weighted_information Q X g ≡ objective (whole Q.bank Q.plan g) X
  weighs_one X = ap (λ (w : ℕ). w * sum_in (size Q.bank) X (λ i. info Q.bank i g)) weight ∙ omega arith

  value_is : (S : Forms) (V : ℕ) → IsValue Q S V → V ≡ objective (whole Q.bank Q.plan g) (S 0)
  value_is S V value =
      let (f, h, w, some, e) = value.reached in
      let first : f ≡ 0 = omega arith in
      let here : h ≡ g = counted_is h some in
      e ∙ ap (λ (k : ℕ). weighted_information Q (S k) h) first ∙ ap (λ (k : ℕ). weighted_information Q (S 0) k) here ∙ weighs_one (S 0)

  -- the series of one form
  alone_series : (X : Set) → Meets Q.bank Q.plan X → IsSeries Q (λ _. X)
  alone_series X meets = record { meets = λ f w. meets; apart = λ f h i w v a b. omega arith }

  alone_value : (X : Set) → IsValue Q (λ _. X) (objective (whole Q.bank Q.plan g) X)
  alone_value X =
      record {
        least = λ f h w some. (let same : weighted_information Q X h ≡ objective (whole Q.bank Q.plan g) X = ap (λ (k : ℕ). weighted_information Q X k) (counted_is h some) ∙ weighs_one X in omega arith);
        reached = (0, g, omega arith, omega arith, sym (weighs_one X));
      }

  form_is : (X : Set) → Meets Q.bank Q.plan X → Form (whole Q.bank Q.plan g) X
  form_is X meets =
      record {
        meets = meets;
        holds_given = λ i given. absurd (true≢false (sym given));
        holds_no_barred = λ i barred. absurd (true≢false (sym barred));
      }

  best_is : (S : Forms) (V : ℕ) → BestSeries Q S → IsValue Q S V → Best (whole Q.bank Q.plan g) (S 0)
  best_is S V best value =
      record {
        form = form_is (S 0) (best.series.meets 0 (omega arith));
        greatest = λ Y form.
            let top = best.greatest V value (λ _. Y) (objective (whole Q.bank Q.plan g) Y) (alone_series Y form.meets) (alone_value Y) in
            let e = value_is S V value in
            omega arith;
      }

pub one_form_is_best : OneFormIsBest
one_form_is_best Q S V g one weight others best value = (best_is Q g one weight others S V best value, value_is Q g one weight others S V value)
