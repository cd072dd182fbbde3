-- Sound nodes leave no series with a value above the number, or none at all.
use Rattle.std.proofs.Common.{◌≡◌, ℕ, zero, suc, ◌+◌, ◌*◌, ◌≤◌, ◌<◌, ◌⊎◌, inl, inr, Bool, true, false, cond, ◌&&◌, ◌==◌, List, [], ◌∷◌, ◌++◌, ℤ, pos, ◌≤ℤ◌, ◌<ℤ◌, refl, sym, ap, ◌∙◌, subst, arith, Option, Some, None}
use Rattle.std.proofs.lemmas.Int.{ints}
use Rattle.std.proofs.lemmas.Bool.{and_parts, eqb-true}
use Rattle.std.proofs.Math.Bool.{true≢false}
use Rattle.std.proofs.Math.Path.{fun_ext}
use Rattle.bank_tables.specs.Items.{Set}
use Rattle.form_model.specs.Forms.{Meets}
use Rattle.certificate_model.specs.Relaxed.{Multipliers}
use Rattle.form_model.proofs.SumLaws.{either, or_true}
use Rattle.certificate_model.proofs.Duality.{held_is_taken_or_free}
use Rattle.series_model.specs.declared.node.SeriesNode.{SeriesNode}
use Rattle.series_model.specs.declared.node.SeriesNode.TheVariants.{Branch, Bound, Ray, Count, Whole, Open, Use, Twin}
use Rattle.series_model.specs.declared.verdict.SeriesVerdict.{SeriesVerdict}
use Rattle.series_model.specs.declared.verdict.SeriesVerdict.TheVariants.{Optimal, NoSeries, Bad}
use Rattle.series_model.specs.Series.{SeriesProblem, Forms, IsSeries, IsValue, weighted_information, forms_of}
use Rattle.series_model.specs.SeriesTrees.{Certificate, vector_at, names_pool}
use Rattle.series_model.specs.SeriesPaths.{SeriesPath, root, form_problem, form_path, with_form, with_use, OnPath}
use Rattle.series_model.specs.SeriesBounds.{points}
use Rattle.series_model.specs.SeriesPools.{least_of_pool, IsMaximumBy}
use Rattle.series_model.specs.SeriesLaws.{OptimalIsBestSeries, OptimalIsAtMost, NoSeriesIsNone}
use Rattle.series_model.specs.SeriesVerdicts.{MaximumIsBelow, ClosesByBound, IsWholePath, IsSettled, IsCountedOut, IsSound, below, open_leaf, verdict_of, GivesFrom}
use Rattle.series_model.specs.SeriesTwins.{without_twins}
use Rattle.series_model.proofs.SeriesSums.{times-le}
use Rattle.series_model.proofs.TwinLaws.{exchanged, exchanged_settled, some_twin_or_out, twin_exchanged}
use Rattle.series_model.proofs.SeriesDualityLaws.{form_under, series_duality, series_ray, series_counting}
use Rattle.series_model.proofs.PoolLaws.{pool_duality, pool_ray}
use Rattle.series_model.proofs.UseLaws.{series_uses, some_form_or_out, use_in}

-- no series on the path has a value above U; without U, there is none on it
abbrev pub Closed : SeriesProblem → Option ℕ → SeriesPath → Type 0
Closed Q U p = (S : Forms) → OnPath Q p S → IsSettled Q U S

-- ---- leaves
less_or : (v u : ℕ) → (v ≤ u) ⊎ (u + 1 ≤ v)
less_or v u = grind arith

module _ (Q : SeriesProblem) (p : SeriesPath) where
  low_enough : (m u v : ℕ) → m * v < m * (u + 1) → v ≤ u
  low_enough m u v h = elim (less_or v u) [ inl le ↦ le | inr gt ↦ absurd (let e : m * (u + 1) ≤ m * v = times-le m (u + 1) v gt in omega arith) ]

  -- by the rule of the pool and by that of each form, what is below the goal of U closes
  at_most_by : (pool : Bool) (U : ℕ) (v : Multipliers) (r : ℤ) → IsMaximumBy pool Q p v false r → r <ℤ pos (cond pool (least_of_pool Q v U) (points Q v * (U + 1))) → (S : Forms) → OnPath Q p S → (V : ℕ) → IsValue Q S V → V ≤ U
  at_most_by true U v r is low S on V value = elim (less_or V U) [ inl le ↦ le | inr gt ↦ absurd (let reached = pool_duality Q p v r S U V is on value (omega arith) in omega (arith, ints)) ]
  at_most_by false U v r is low S on V value =
      let weak = series_duality Q p v r S V is on value in
      low_enough (points Q v) U V (omega (arith, ints))

  pub bound_closed : (U : Option ℕ) (v : Multipliers) → ClosesByBound Q U p v → Closed Q U p
  bound_closed None v closes = absurd closes
  bound_closed (Some U) v closes = λ S on V series value. at_most_by (names_pool v) U v closes.1.maximum closes.1.is_maximum closes.1.below S on V value

  settled_from_none : (U : Option ℕ) (S : Forms) → ⊥ → IsSettled Q U S
  settled_from_none U S none = absurd none

  not_below_by : (pool : Bool) (v : Multipliers) (r : ℤ) → IsMaximumBy pool Q p v true r → (S : Forms) → OnPath Q p S → pos 0 ≤ℤ r
  not_below_by true v r is S on = pool_ray Q p v r S is on
  not_below_by false v r is S on = series_ray Q p v r S is on

  pub ray_closed : (U : Option ℕ) (v : Multipliers) → MaximumIsBelow Q p v true (pos 0) → Closed Q U p
  ray_closed U v low S on =
      let weak = not_below_by (names_pool v) v low.maximum low.is_maximum S on in
      let top = low.below in
      settled_from_none U S (omega (arith, ints))

-- ---- where no item is free in a form, one list of sets is left
module _ (Q : SeriesProblem) (p : SeriesPath) (S : Forms) (on : OnPath Q p S) (whole : IsWholePath Q p) where
  left_is : (f : ℕ) → f < Q.forms → S f ≡ p.taken f
  left_is f w =
      fun_ext (λ i. elim (either (S f i)) [
        | inl has ↦
            elim (held_is_taken_or_free (form_problem Q) (form_path Q p f) (S f) (form_under Q p S on f w) i has) [
              | inl taken ↦ has ∙ sym taken
              | inr free ↦ absurd (true≢false (sym free ∙ whole f i w))
            ]
        | inr has_not ↦
            elim (either (p.taken f i)) [
              | inl taken ↦ absurd (true≢false (sym (on.holds_taken f i w taken) ∙ has_not))
              | inr not_taken ↦ has_not ∙ sym not_taken
            ]
      ])

  left_series : IsSeries Q S → IsSeries Q p.taken
  left_series series =
      record {
        meets = λ f w. subst (λ (X : Set). Meets Q.bank Q.plan X) (left_is f w) (series.meets f w);
        apart = λ f g i w v a b. series.apart f g i w v (ap (λ (X : Set). X i) (left_is f w) ∙ a) (ap (λ (X : Set). X i) (left_is g v) ∙ b);
      }

  left_value : (V : ℕ) → IsValue Q S V → IsValue Q p.taken V
  left_value V value =
      let (f, g, w, counted, e) = value.reached in
      record {
        least = λ f g w counted. subst (λ (X : Set). V ≤ weighted_information Q X g) (left_is f w) (value.least f g w counted);
        reached = (f, g, w, counted, e ∙ ap (λ (X : Set). weighted_information Q X g) (left_is f w));
      }

  pub whole_closed : (U : Option ℕ) → IsSettled Q U p.taken → IsSettled Q U S
  whole_closed None settled = λ series. settled (left_series series)
  whole_closed (Some U) settled = λ V series value. settled V (left_series series) (left_value V value)

-- ---- branches
module _ (Q : SeriesProblem) (p : SeriesPath) (S : Forms) (on : OnPath Q p S) (f i : ℕ) (form : f < Q.forms) where
  pub form_in : S f i ≡ true → OnPath Q (with_form p f i true) S
  form_in has =
      record {
        series = on.series;
        holds_taken = λ g j w e.
            elim (or_true (g == f && j == i) (p.taken g j) e) [
              | inl new ↦ (let parts = and_parts (g == f) (j == i) new in ap (λ (k : ℕ). S k j) (eqb-true _ _ parts.0) ∙ ap (S f) (eqb-true _ _ parts.1) ∙ has)
              | inr old ↦ on.holds_taken g j w old
            ];
        holds_no_out = on.holds_no_out;
        holds_used = on.holds_used;
      }

  pub form_out : S f i ≡ false → OnPath Q (with_form p f i false) S
  form_out has_not =
      record {
        series = on.series;
        holds_taken = on.holds_taken;
        holds_no_out = λ g j w e.
            elim (or_true (g == f && j == i) (p.out g j) e) [
              | inl new ↦ (let parts = and_parts (g == f) (j == i) new in ap (λ (k : ℕ). S k j) (eqb-true _ _ parts.0) ∙ ap (S f) (eqb-true _ _ parts.1) ∙ has_not)
              | inr old ↦ on.holds_no_out g j w old
            ];
        holds_used = on.holds_used;
      }

branch_closed : (Q : SeriesProblem) (U : Option ℕ) (p : SeriesPath) (f i : ℕ) → f < Q.forms → Closed Q U (with_form p f i true) → Closed Q U (with_form p f i false) → Closed Q U p
branch_closed Q U p f i form left right S on =
    elim (either (S f i)) [
      | inl has ↦ left S (form_in Q p S on f i form has)
      | inr has_not ↦ right S (form_out Q p S on f i form has_not)
    ]

-- where the item is in a twin's set, that series with the two forms exchanged is on the left path
twin_closed : (Q : SeriesProblem) (U : Option ℕ) (p : SeriesPath) (f i : ℕ) → f < Q.forms → Closed Q U (with_form p f i true) → Closed Q U (without_twins Q p f i) → Closed Q U p
twin_closed Q U p f i form left right S on =
    elim (some_twin_or_out Q p S on f i) [
      | inl twin ↦
          let (g, w, equal, has) = twin in
          let moved = twin_exchanged Q p S on f g i form w equal has in
          exchanged_settled Q S f g form w U on.series (left (exchanged Q S f g form w) (form_in Q p (exchanged Q S f g form w) moved.0 f i form moved.1))
      | inr out ↦ right S out
    ]

-- where the item is in a form, the series is on the left path, else on the right one
use_closed : (Q : SeriesProblem) (U : Option ℕ) (p : SeriesPath) (i : ℕ) → Closed Q U (with_use Q p i true) → Closed Q U (with_use Q p i false) → Closed Q U p
use_closed Q U p i left right S on =
    elim (some_form_or_out Q p S on i) [
      | inl some ↦ left S (use_in Q p S on i some)
      | inr out ↦ right S out
    ]

counted_out : (Q : SeriesProblem) (p : SeriesPath) (S : Forms) (f r : ℕ) → f < Q.forms → IsCountedOut Q p f r → OnPath Q p S → ⊥
counted_out Q p S f r w (inl impossible) on = series_counting Q p S f r w impossible on
counted_out Q p S f r w (inr uses) on = series_uses Q p S uses.1 on

-- ---- the tree
abbrev AllClosed : SeriesProblem → Option ℕ → List SeriesPath → Type 0
AllClosed Q U [] = Unit {0}
AllClosed Q U (p ∷ paths) = Closed Q U p × AllClosed Q U paths

-- a verdict that all is settled comes only where no leaf is open
not_bad : (U : Option ℕ) (at : ℕ) → verdict_of U 0 ≡ Bad at → ⊥
not_bad None at e = cc
not_bad (Some U) at e = cc

none_met : (Q : SeriesProblem) (U : Option ℕ) (T : Certificate) (at met : ℕ) (nodes : List SeriesNode) (paths : List SeriesPath) (verdict : SeriesVerdict) → 0 < met → verdict ≡ verdict_of U 0 → GivesFrom Q U T at met nodes paths verdict → ⊥
none_met Q U T at met [] (p ∷ paths) verdict some e gives = gives
none_met Q U T at zero [] [] verdict some e gives = absurd (omega arith)
none_met Q None T at (suc met) [] [] verdict some e gives = cc
none_met Q (Some U) T at (suc met) [] [] verdict some e gives = cc
none_met Q U T at met (node ∷ nodes) [] verdict some e gives = gives
none_met Q U T at met (node ∷ nodes) (p ∷ paths) verdict some e gives =
    elim gives [
      | inl sound ↦ none_met Q U T (at + 1) (met + open_leaf node) nodes (below Q p node ++ paths) verdict (omega arith) e sound.1
      | inr bad ↦ not_bad U at (sym e ∙ bad.1)
    ]

-- each path that waits is closed by the nodes to come
all_closed : (Q : SeriesProblem) (U : Option ℕ) (T : Certificate) (at met : ℕ) (nodes : List SeriesNode) (paths : List SeriesPath) (verdict : SeriesVerdict) → verdict ≡ verdict_of U 0 → GivesFrom Q U T at met nodes paths verdict → AllClosed Q U paths
all_closed Q U T at met [] [] verdict e gives = tt
all_closed Q U T at met [] (p ∷ paths) verdict e gives = absurd gives
all_closed Q U T at met (node ∷ nodes) [] verdict e gives = absurd gives
all_closed Q U T at met (node ∷ nodes) (p ∷ paths) verdict e gives =
    elim gives [
      | inl sound ↦ closes node sound.0 (λ some. none_met Q U T (at + 1) (met + open_leaf node) nodes (below Q p node ++ paths) verdict some e sound.1) (all_closed Q U T (at + 1) (met + open_leaf node) nodes (below Q p node ++ paths) verdict e sound.1)
      | inr bad ↦ absurd (not_bad U at (sym e ∙ bad.1))
    ]
  where
    closes : (node : SeriesNode) → IsSound Q U T p node → (0 < met + open_leaf node → ⊥) → AllClosed Q U (below Q p node ++ paths) → AllClosed Q U (p ∷ paths)
    closes (Branch f i) sound none rest = (branch_closed Q U p f i sound.form rest.0 rest.1.0, rest.1.1)
    closes (Bound v) sound none rest = (bound_closed Q p U (vector_at T v) sound.2, rest)
    closes (Ray v) sound none rest = (ray_closed Q p U (vector_at T v) sound.2, rest)
    closes (Count f r) sound none rest = (λ S on. absurd (counted_out Q p S f r sound.0 sound.1 on), rest)
    closes Whole sound none rest = (λ S on. whole_closed Q p S on sound.0 U sound.1, rest)
    closes Open sound none rest = absurd (none (omega arith))
    closes (Twin f i) sound none rest = (twin_closed Q U p f i sound.form rest.0 rest.1.0, rest.1.1)
    closes (Use i) sound none rest = (use_closed Q U p i rest.0 rest.1.0, rest.1.1)

-- at the root every series is on the path
at_root : (Q : SeriesProblem) (S : Forms) → IsSeries Q S → OnPath Q root S
at_root Q S series =
    record {
      series = series;
      holds_taken = λ f i w taken. absurd (true≢false (sym taken));
      holds_no_out = λ f i w out. absurd (true≢false (sym out));
      holds_used = λ i uses. absurd (true≢false (sym uses));
    }

-- what the nodes of a whole tree show
pub whole_tree : (Q : SeriesProblem) (U : Option ℕ) (T : Certificate) (verdict : SeriesVerdict) → verdict ≡ verdict_of U 0 → GivesFrom Q U T 0 0 T.nodes (root ∷ []) verdict → (S : Forms) → IsSeries Q S → IsSettled Q U S
whole_tree Q U T verdict e gives S series = (all_closed Q U T 0 0 T.nodes (root ∷ []) verdict e gives).0 S (at_root Q S series)

-- two values of a series are one
pub one_value : (Q : SeriesProblem) (S : Forms) (V W : ℕ) → IsValue Q S V → IsValue Q S W → V ≡ W
one_value Q S V W a b =
    let (f, g, w, counted, e) = a.reached in
    let (h, k, v, counts, d) = b.reached in
    let low = a.least h k v counts in
    let high = b.least f g w counted in
    omega arith

pub optimal_is_best_series : OptimalIsBestSeries
optimal_is_best_series Q sets T verdict =
    elim verdict [
      | inl gives ↦
          let (U, bar, nodes) = gives.1 in
          let (V, value, is) = bar in
          record {
            series = gives.0.series;
            greatest = λ W own S X series has.
                let top : X ≤ V = whole_tree Q (Some V) T Optimal refl (subst (λ (u : Option ℕ). GivesFrom Q u T 0 0 T.nodes (root ∷ []) Optimal) is nodes) S series X series has in
                let same : W ≡ V = one_value Q (forms_of sets) W V own value in
                omega arith;
          }
      | inr bad ↦ absurd (let e = bad.1 in cc)
    ]

pub optimal_is_at_most : OptimalIsAtMost
optimal_is_at_most Q sets top T verdict =
    elim verdict [
      | inl gives ↦
          let (U, is, nodes) = gives.1 in
          λ S X series has. whole_tree Q (Some top) T Optimal refl (subst (λ (u : Option ℕ). GivesFrom Q u T 0 0 T.nodes (root ∷ []) Optimal) is nodes) S series X series has
      | inr bad ↦ absurd (let e = bad.1 in cc)
    ]

pub no_series_is_none : NoSeriesIsNone
no_series_is_none Q at_most T verdict =
    elim verdict [
      | inl gives ↦
          let (U, is, nodes) = gives.1 in
          record { none = λ S series. whole_tree Q None T NoSeries refl (subst (λ (u : Option ℕ). GivesFrom Q u T 0 0 T.nodes (root ∷ []) NoSeries) is nodes) S series series }
      | inr bad ↦ absurd (let e = bad.1 in cc)
    ]
