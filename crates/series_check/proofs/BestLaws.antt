-- The best item so far, and the least value so far.
use Rattle.std.proofs.Common.{◌≡◌, ℕ, ◌+◌, ◌<◌, ◌≤◌, ◌⊎◌, inl, inr, Bool, true, false, List, length, Option, Some, None, IfSome, ℤ, ◌≤ℤ◌, refl, sym, ap, ◌∙◌, subst, arith}
use Rattle.std.specs.Prelude.{unwrap_or}
use Rattle.std.proofs.lemmas.Int.{ints}
use Rattle.std.proofs.lemmas.Bool.{cases_lt}
use Rattle.std.proofs.lemmas.List.{get_or_past}
use Rattle.std.proofs.Math.Bool.{true≢false}
use Rattle.bank_tables.specs.Items.{Set}
use Rattle.certificate_check.specs.Tops.{IsNextBest}
use Rattle.certificate_model.specs.Ranges.{at}
use Rattle.series_model.specs.Series.{SeriesProblem, Forms, weight_of, weighted_information, IsValue, IsSeriesProblem}
use Rattle.series_check.specs.Tops.{IsHeavier}
use Rattle.series_check.specs.Values.{IsLesser, IsLeastTo, IsLeastOf}

last_or : (i n : ℕ) → i < n + 1 → (i < n) ⊎ (i ≡ n)
last_or i n w = grind arith

-- ---- the best item
-- an item that is not free, or taken, changes nothing
pub best_kept : (n : ℕ) (xs : List ℤ) (F T : Set) (best : Option ℕ) → ((F n ≡ true) → (T n ≡ false) → ⊥) → IsNextBest n xs F T best → IsNextBest (n + 1) xs F T best
best_kept n xs F T None out is =
    λ i w f. elim (last_or i n w) [ inl old ↦ is i old f | inr new ↦ elim (either (T i)) [ inl taken ↦ taken | inr free ↦ absurd (out (sym (ap F new) ∙ f) (sym (ap T new) ∙ free)) ] ]
  where
    either : (b : Bool) → (b ≡ true) ⊎ (b ≡ false)
    either true = inl refl
    either false = inr refl
best_kept n xs F T (Some b) passed is =
    (omega (arith, is.0), is.1, is.2, λ j w f out. elim (last_or j n w) [ inl old ↦ is.3 j old f out | inr new ↦ absurd (passed (sym (ap F new) ∙ f) (sym (ap T new) ∙ out)) ])

-- of an item that is, the heavier of it and the best so far is the best
pub best_more : (n : ℕ) (xs : List ℤ) (F T : Set) (best result : Option ℕ) → F n ≡ true → T n ≡ false → IsHeavier xs best n result → IsNextBest n xs F T best → IsNextBest (n + 1) xs F T result
best_more n xs F T best None f out heavy is = absurd heavy
best_more n xs F T None (Some r) f out heavy is = (
  omega (arith, heavy),
  ap F heavy ∙ f,
  ap T heavy ∙ out,
  λ j w g free. elim (last_or j n w) [
    | inl old ↦ absurd (true≢false (sym (is j old g) ∙ free))
    | inr new ↦ subst (λ (k : ℕ). at xs k ≤ℤ at xs r) (sym new) (subst (λ (k : ℕ). at xs n ≤ℤ at xs k) (sym heavy) (omega (arith, ints)))
  ],
)
best_more n xs F T (Some b) (Some r) f out (inl old_best) is = (
  omega (arith, is.0, old_best.0),
  ap F old_best.0 ∙ is.1,
  ap T old_best.0 ∙ is.2,
  λ j w g free.
      subst (λ (k : ℕ). at xs j ≤ℤ at xs k) (sym old_best.0)
      (elim (last_or j n w) [
        | inl old ↦ is.3 j old g free
        | inr new ↦ subst (λ (k : ℕ). at xs k ≤ℤ at xs b) (sym new) old_best.1
      ]),
)
best_more n xs F T (Some b) (Some r) f out (inr new_best) is = (
  omega (arith, new_best.0),
  ap F new_best.0 ∙ f,
  ap T new_best.0 ∙ out,
  λ j w g free.
      subst (λ (k : ℕ). at xs j ≤ℤ at xs k) (sym new_best.0)
      (elim (last_or j n w) [
        | inl old ↦ (let low = is.3 j old g free in let high = new_best.1 in omega (arith, ints))
        | inr new ↦ subst (λ (k : ℕ). at xs k ≤ℤ at xs n) (sym new) (omega (arith, ints))
      ]),
)

pub heavier_item : (xs : List ℤ) (first : Option ℕ) (second : ℕ) (result : Option ℕ) → IfSome first (λ i. i < 512) → second < 512 → IsHeavier xs first second result → IfSome result (λ i. i < 512)
heavier_item xs first second None small low heavy = absurd heavy
heavier_item xs None second (Some r) small low heavy = omega (arith, heavy)
heavier_item xs (Some b) second (Some r) small low (inl old) = omega (arith, old.0)
heavier_item xs (Some b) second (Some r) small low (inr new) = omega (arith, new.0)

-- ---- the least value
-- a point that doesn't count changes nothing
pub least_kept : (Q : SeriesProblem) (X : Set) (m : ℕ) (least : Option ℕ) → weight_of Q m ≡ 0 → IsLeastTo Q X m least → IsLeastTo Q X (m + 1) least
least_kept Q X m None zero_weight is = λ g w. elim (last_or g m w) [ inl old ↦ is g old | inr new ↦ ap (weight_of Q) new ∙ zero_weight ]
least_kept Q X m (Some V) zero_weight is =
    let (g, w, counted, e) = is.1 in
    (λ g w counted. elim (last_or g m w) [ inl old ↦ is.0 g old counted | inr new ↦ absurd (let none : weight_of Q g ≡ 0 = ap (weight_of Q) new ∙ zero_weight in omega arith) ], (g, omega (arith, w), counted, e))

pub least_more : (Q : SeriesProblem) (X : Set) (m : ℕ) (least : Option ℕ) (here result : ℕ) → 0 < weight_of Q m → here ≡ weighted_information Q X m → IsLesser least here result → IsLeastTo Q X m least → IsLeastTo Q X (m + 1) (Some result)
least_more Q X m None here result some e lesser is = (
  λ g w counted. elim (last_or g m w) [
    | inl old ↦ absurd (let none = is g old in omega (arith, counted, none))
    | inr new ↦ subst (λ (k : ℕ). result ≤ weighted_information Q X k) (sym new) (omega (arith, lesser, e))
  ],
  (m, omega arith, some, lesser ∙ e),
)
least_more Q X m (Some V) here result some e (inl old_least) is =
    let (g, w, counted, d) = is.1 in (
      λ g w counted. elim (last_or g m w) [
        | inl old ↦ (let low = is.0 g old counted in omega (arith, old_least.0))
        | inr new ↦ subst (λ (k : ℕ). result ≤ weighted_information Q X k) (sym new) (omega (arith, old_least.0, old_least.1, e))
      ],
      (g, omega (arith, w), counted, old_least.0 ∙ d),
    )
least_more Q X m (Some V) here result some e (inr new_least) is = (
  λ g w counted. elim (last_or g m w) [
    | inl old ↦ (let low = is.0 g old counted in omega (arith, new_least.0, new_least.1))
    | inr new ↦ subst (λ (k : ℕ). result ≤ weighted_information Q X k) (sym new) (omega (arith, new_least.0, e))
  ],
  (m, omega arith, some, new_least.0 ∙ e),
)

-- a point that counts is of the grid
pub points_within : (Q : SeriesProblem) → IsSeriesProblem Q → (g : ℕ) → 0 < weight_of Q g → g < Q.bank.grid
points_within Q is g counted =
    elim (cases_lt g (length Q.weights)) [
      | inl low ↦ omega (arith, is.each_point)
      | inr past ↦ absurd (omega (arith, get_or_past Q.weights g 0 past))
    ]

-- one form more; a form has a least value, since a point counts
module _ (Q : SeriesProblem) (S : Forms) (k grid : ℕ) (past : (g : ℕ) → 0 < weight_of Q g → g < grid) where
  pub form_has_least : (g : ℕ) → 0 < weight_of Q g → IsLeastTo Q (S k) grid None → ⊥
  form_has_least g counted none = let zero_weight = none g (past g counted) in omega arith

  pub one_form_more : (least : Option ℕ) (here result : ℕ) → IsLesser least here result → IsLeastTo Q (S k) grid (Some here) → IsLeastOf Q S k least → IsLeastOf Q S (k + 1) (Some result)
  one_form_more None here result lesser own is =
      let (h, v, counted, e) = own.1 in (
        λ f g w counted. elim (last_or f k w) [
          | inl old ↦ absurd (omega (arith, is))
          | inr new ↦ subst (λ (X : Set). result ≤ weighted_information Q X g) (sym (ap S new)) (let low = own.0 g (past g counted) counted in omega (arith, lesser))
        ],
        (k, h, omega arith, counted, lesser ∙ e),
      )
  one_form_more (Some V) here result (inl old_least) own is =
      let (f, g, w, counted, e) = is.1 in (
        λ f g w counted. elim (last_or f k w) [
          | inl old ↦ (let low = is.0 f g old counted in omega (arith, old_least.0))
          | inr new ↦ subst (λ (X : Set). result ≤ weighted_information Q X g) (sym (ap S new)) (let low = own.0 g (past g counted) counted in omega (arith, old_least.0, old_least.1))
        ],
        (f, g, omega (arith, w), counted, old_least.0 ∙ e),
      )
  one_form_more (Some V) here result (inr new_least) own is =
      let (h, v, counted, e) = own.1 in (
        λ f g w counted. elim (last_or f k w) [
          | inl old ↦ (let low = is.0 f g old counted in omega (arith, new_least.0, new_least.1))
          | inr new ↦ subst (λ (X : Set). result ≤ weighted_information Q X g) (sym (ap S new)) (let low = own.0 g (past g counted) counted in omega (arith, new_least.0))
        ],
        (k, h, omega arith, counted, new_least.0 ∙ e),
      )

-- of all forms the least is the value
pub value_is : (Q : SeriesProblem) (S : Forms) (k : ℕ) (least : Option ℕ) (default : ℕ) → k ≡ Q.forms → 0 < Q.forms → IsLeastOf Q S k least → (result : ℕ) → result ≡ unwrap_or least default → IsValue Q S result
value_is Q S k None default e some is result r = absurd (omega (arith, is))
value_is Q S k (Some V) default e some is result r =
    let (f, g, w, counted, d) = is.1 in
    record {
      least = λ f g w counted. (let low = is.0 f g (omega arith) counted in omega (arith, r));
      reached = (f, g, omega (arith, w), counted, r ∙ d);
    }
