-- The first sets of an array, as a list of forms.
use Rattle.std.proofs.Common.{◌≡◌, ℕ, zero, suc, ◌<◌, ◌≤◌, arith, List, [], ◌∷◌, length, take, get_or, sym, ap, ◌∙◌, subst}
use Rattle.std.proofs.lemmas.List.{get_or-take, length-take-le}
use Rattle.bank_tables.specs.Items.{Set, has}
use Rattle.form_model.specs.Forms.{Meets}
use Rattle.series_model.specs.Series.{SeriesProblem, Forms, weighted_information, IsSeries, IsSeriesList, IsValue, forms_of}

-- the sets of the forms are the same
abbrev pub SameForms : SeriesProblem → Forms → Forms → Type 0
SameForms Q S R = (f : ℕ) → f < Q.forms → S f ≡ R f

module _ (Q : SeriesProblem) (S R : Forms) (same : SameForms Q S R) where
  pub same_series : IsSeries Q S → IsSeries Q R
  same_series series =
      record {
        meets = λ f w. subst (λ (X : Set). Meets Q.bank Q.plan X) (same f w) (series.meets f w);
        apart = λ f g i w v a b. series.apart f g i w v (ap (λ (X : Set). X i) (same f w) ∙ a) (ap (λ (X : Set). X i) (same g v) ∙ b);
      }

  pub same_value : (V : ℕ) → IsValue Q S V → IsValue Q R V
  same_value V value =
      let (f, g, w, counted, e) = value.reached in
      record {
        least = λ f g w counted. subst (λ (X : Set). V ≤ weighted_information Q X g) (same f w) (value.least f g w counted);
        reached = (f, g, w, counted, e ∙ ap (λ (X : Set). weighted_information Q X g) (same f w));
      }

pub taken_forms : (Q : SeriesProblem) (sets xs : List (List ℕ)) → xs ≡ take Q.forms sets → SameForms Q (forms_of sets) (forms_of xs)
taken_forms Q sets xs is f w = ap (λ (ws : List ℕ). has ws) (sym (get_or-take Q.forms sets f [] w) ∙ ap (λ (ys : List (List ℕ)). get_or ys f []) (sym is))

pub taken_list : (Q : SeriesProblem) (sets xs : List (List ℕ)) → xs ≡ take Q.forms sets → Q.forms ≤ length sets → IsSeries Q (forms_of sets) → IsSeriesList Q xs
taken_list Q sets xs is enough series = record { number = ap (λ (ys : List (List ℕ)). length ys) is ∙ length-take-le Q.forms sets enough; series = same_series Q (forms_of sets) (forms_of xs) (taken_forms Q sets xs is) series }

-- four sets that are those of a list as far as it goes are the same forms
pub listed_forms : (Q : SeriesProblem) (sets : List (List ℕ)) (a b c d : List ℕ) → length sets ≡ Q.forms → Q.forms ≤ 4
    → (0 < length sets → a ≡ get_or sets 0 [])
    → (1 < length sets → b ≡ get_or sets 1 [])
    → (2 < length sets → c ≡ get_or sets 2 [])
    → (3 < length sets → d ≡ get_or sets 3 [])
    → SameForms Q (forms_of sets) (forms_of (a ∷ b ∷ c ∷ d ∷ []))
listed_forms Q sets a b c d number few first second third fourth zero within = ap (λ (ws : List ℕ). has ws) (sym (first (omega arith)))
listed_forms Q sets a b c d number few first second third fourth (suc zero) within = ap (λ (ws : List ℕ). has ws) (sym (second (omega arith)))
listed_forms Q sets a b c d number few first second third fourth (suc (suc zero)) within = ap (λ (ws : List ℕ). has ws) (sym (third (omega arith)))
listed_forms Q sets a b c d number few first second third fourth (suc (suc (suc zero))) within = ap (λ (ws : List ℕ). has ws) (sym (fourth (omega arith)))
listed_forms Q sets a b c d number few first second third fourth (suc (suc (suc (suc f)))) within = absurd (omega arith)
