-- Each series on a path is at most the relaxed maximum there.
use Rattle.std.proofs.Common.{◌≡◌, ℕ, suc, ◌+◌, ◌-◌, ◌*◌, ◌≤◌, ◌<◌, inl, inr, Bool, true, false, cond, not, ◌&&◌, ◌==◌, length, ℤ, pos, ◌-ℤ◌, ◌≤ℤ◌, sym, ap, ◌∙◌, arith, nat_lt}
use Rattle.std.proofs.lemmas.Int.{ints}
use Rattle.std.proofs.lemmas.Bool.{lt-ltb, ltb-true, and_parts, and_from, eq-eqb}
use Rattle.std.proofs.Math.Bool.{true≢false}
use Rattle.bank_tables.specs.Items.{Set}
use Rattle.bank_tables.specs.Sums.{sum_in}
use Rattle.bank_tables.specs.Tables.{size, info, stimulus}
use Rattle.form_model.specs.Forms.{Meets, items_of, stimuli_of, used}
use Rattle.certificate_model.specs.Paths.{Under}
use Rattle.form_model.specs.Plan.{bound_at}
use Rattle.form_model.specs.Problem.{Problem}
use Rattle.certificate_model.specs.Relaxed.{Multipliers, multiplier, weighted_slacks, weighted_stimulus_slacks, lagrangian_without_links}
use Rattle.certificate_model.specs.Weights.{weight}
use Rattle.form_model.proofs.SumLaws.{either, or_true, any_intro, any_elim, nonneg_sub, nonneg_mul, nonneg_add, nonneg_total, sum_in-zero, count_none, count_some}
use Rattle.certificate_model.proofs.Duality.{held_is_taken_or_free, used_chosen_or_open}
use Rattle.certificate_model.proofs.CountingLaws.{impossible_leaves_no_form}
use Rattle.series_model.specs.Series.{SeriesProblem, Forms, weight_of, weighted_information, IsValue}
use Rattle.series_model.specs.SeriesPaths.{SeriesPath, form_problem, in_another, form_path, OnPath}
use Rattle.series_model.specs.SeriesBounds.{point_side, use_side, multipliers_of, counts, points_of, points, information_of, form_lagrangian, series_lagrangian, AreRelaxed, IsSeriesMaximum}
use Rattle.series_model.specs.SeriesLaws.{SeriesDuality, SeriesRay, SeriesCounting}
use Rattle.series_model.proofs.SeriesSums.{every, times-le, sum_in-below, sum_in-times, by_points, each_once, sum_in_z-less, total_z-low}

rest_false : (a b : Bool) → a ≡ true → (a && b) ≡ false → b ≡ false
rest_false true b e h = h
rest_false false b e h = absurd (true≢false (sym e))

-- ---- the slacks of a set that meets the plan are not negative
module _ (P : Problem) (X : Set) (meets : Meets P.bank P.plan X) where
  row_nonneg : (v : Multipliers) (r : ℕ) → r < length P.plan.rows → pos 0 ≤ℤ weighted_slacks P v X (used P.bank X) r
  row_nonneg v r within =
      nonneg_add _ _ (nonneg_mul (multiplier v (2 * r)) _ (nonneg_sub _ _ (meets.rows r within).low)) (nonneg_mul (multiplier v (2 * r + 1)) _ (nonneg_sub _ _ (meets.rows r within).high))

  low_held : (s : ℕ) → 0 < s → s ≤ stimuli_of P.bank → cond (used P.bank X s) (bound_at P.plan s).low 0 ≤ items_of P.bank s X
  low_held s first last =
      elim (either (used P.bank X s)) [
        | inl some ↦
            let held = count_some (size P.bank) X (λ i. stimulus P.bank i == s) (and_parts (nat_lt 0 s) _ some).1 in
            elim ((meets.stimuli s first last).low) [ inl none ↦ absurd (omega arith) | inr low ↦ rw some low ]
        | inr none ↦ rw none (omega arith)
      ]

  high_held : (s : ℕ) → 0 < s → s ≤ stimuli_of P.bank → items_of P.bank s X ≤ cond (used P.bank X s) (bound_at P.plan s).high 0
  high_held s first last =
      elim (either (used P.bank X s)) [
        | inl some ↦ rw some ((meets.stimuli s first last).high)
        | inr none ↦ rw none (omega (arith, count_none (size P.bank) X (λ i. stimulus P.bank i == s) (rest_false (nat_lt 0 s) _ (lt-ltb 0 s first) none)))
      ]

  stimulus_nonneg : (v : Multipliers) (s : ℕ) → 0 < s → s ≤ stimuli_of P.bank → pos 0 ≤ℤ weighted_stimulus_slacks P v X (used P.bank X) s
  stimulus_nonneg v s first last =
      let low_side = 2 * length P.plan.rows + 2 * (s - 1) in
      nonneg_add _ _ (nonneg_mul (multiplier v low_side) _ (nonneg_sub _ _ (low_held s first last))) (nonneg_mul (multiplier v (low_side + 1)) _ (nonneg_sub _ _ (high_held s first last)))

  pub slacks_nonneg : (v : Multipliers) → pos 0 ≤ℤ lagrangian_without_links P v true X (used P.bank X)
  unfolding lagrangian_without_links
  slacks_nonneg v =
      let rows = nonneg_total (length P.plan.rows) (weighted_slacks P v X (used P.bank X)) (row_nonneg v) in
      let stimuli = nonneg_total (stimuli_of P.bank) (λ k. weighted_stimulus_slacks P v X (used P.bank X) (suc k)) (λ k w. stimulus_nonneg v (suc k) (omega arith) (omega arith)) in
      let none : sum_in (size P.bank) X (weight P true) ≡ 0 = sum_in-zero (size P.bank) X in
      omega (arith, ints)

module _ (Q : SeriesProblem) (p : SeriesPath) (S : Forms) (on : OnPath Q p S) where
  -- each set of a series on a path is a form on the path of that form
  pub form_under : (f : ℕ) → f < Q.forms → Under (form_problem Q) (form_path Q p f) (S f)
  form_under f w =
      record {
        form = record {
          meets = on.series.meets f w;
          holds_given = λ i given. absurd (true≢false (sym given));
          holds_no_barred = λ i barred. absurd (true≢false (sym barred));
        };
        holds_taken = λ i. on.holds_taken f i w;
        holds_no_out = λ i out. elim (or_true (p.out f i) (in_another Q p f i) out) [ inl put ↦ on.holds_no_out f i w put | inr other ↦ not_here i other ];
        uses_chosen = λ s first last chosen.
            let (i, within, e) = any_elim (size Q.bank) (λ i. p.taken f i && stimulus Q.bank i == s) (and_parts (nat_lt 0 s) _ chosen).1 in
            let parts = and_parts _ _ e in
            and_from _ _ (and_parts (nat_lt 0 s) _ chosen).0 (any_intro (size Q.bank) (λ i. S f i && stimulus Q.bank i == s) i within (and_from _ _ (on.holds_taken f i w parts.0) parts.1));
      }
    where
      not_here : (i : ℕ) → in_another Q p f i ≡ true → S f i ≡ false
      not_here i other =
          let (g, v, e) = any_elim Q.forms (λ g. not (g == f) && p.taken g i) other in
          let parts = and_parts (not (g == f)) (p.taken g i) e in
          elim (either (S f i)) [
            | inl here ↦ absurd (true≢false (sym parts.0 ∙ ap not (eq-eqb g f (on.series.apart g f i v w (on.holds_taken g i v parts.1) here))))
            | inr none ↦ none
          ]

  -- and with the stimuli that it uses a relaxed pair
  pub series_fits : AreRelaxed Q p S (λ f. used Q.bank (S f))
  series_fits f w =
      let under = form_under f w in
      record {
        n_items = under.form.meets.right_length.n_items;
        holds_taken = under.holds_taken;
        else_free = held_is_taken_or_free (form_problem Q) (form_path Q p f) (S f) under;
        holds_chosen = under.uses_chosen;
        else_open = λ s first last uses. used_chosen_or_open (form_problem Q) (form_path Q p f) (S f) under s uses;
      }

  -- the Lagrangian of a form is at least what its items add
  form_low : (v : Multipliers) (ray : Bool) (f : ℕ) → f < Q.forms
      → (pos (sum_in (size Q.bank) (S f) (information_of Q v ray f)) -ℤ pos (sum_in (size Q.bank) (S f) (λ i. multiplier v (use_side i)))) ≤ℤ form_lagrangian Q v ray f (S f) (used Q.bank (S f))
  form_low v ray f w =
      let gains = sum_in_z-less (size Q.bank) (S f) (information_of Q v ray f) (λ i. multiplier v (use_side i)) in
      let slacks = slacks_nonneg (form_problem Q) (S f) (on.series.meets f w) (multipliers_of f v) in
      omega (arith, ints)

  -- that of all forms at least the information, since each item is in one form at most
  pub series_low : (v : Multipliers) (ray : Bool) → pos (sum_in Q.forms every (λ f. sum_in (size Q.bank) (S f) (information_of Q v ray f))) ≤ℤ series_lagrangian Q v ray S (λ f. used Q.bank (S f))
  series_low v ray =
      let forms =
      total_z-low Q.forms (λ f. form_lagrangian Q v ray f (S f) (used Q.bank (S f))) (λ f. sum_in (size Q.bank) (S f) (information_of Q v ray f)) (λ f. sum_in (size Q.bank) (S f) (λ i. multiplier v (use_side i)))
      (form_low v ray) in
      let once = each_once Q.forms (size Q.bank) S (λ i. multiplier v (use_side i)) on.series.apart in
      omega (arith, ints)

  -- the information of a form at its points is at least the value
  form_high : (v : Multipliers) (V : ℕ) → IsValue Q S V → (f : ℕ) → f < Q.forms → points_of Q v f * V ≤ sum_in (size Q.bank) (S f) (information_of Q v false f)
  form_high v V value f w =
      let swap = by_points (size Q.bank) Q.bank.grid (S f) (counts Q) (λ g. multiplier v (point_side f g)) (weight_of Q) (λ i g. info Q.bank i g) in
      let times = sum_in-times Q.bank.grid (counts Q) (λ g. multiplier v (point_side f g)) V in
      let each =
      sum_in-below Q.bank.grid (counts Q) (λ g. multiplier v (point_side f g) * V) (λ g. multiplier v (point_side f g) * weighted_information Q (S f) g)
      (λ g within counted. times-le (multiplier v (point_side f g)) V (weighted_information Q (S f) g) (value.least f g w (ltb-true 0 (weight_of Q g) counted))) in
      omega arith

  pub series_high : (v : Multipliers) (V : ℕ) → IsValue Q S V → points Q v * V ≤ sum_in Q.forms every (λ f. sum_in (size Q.bank) (S f) (information_of Q v false f))
  series_high v V value =
      let times = sum_in-times Q.forms every (points_of Q v) V in
      let each = sum_in-below Q.forms every (λ f. points_of Q v f * V) (λ f. sum_in (size Q.bank) (S f) (information_of Q v false f)) (λ f w all. form_high v V value f w) in
      omega arith

  pub at_most_maximum : (v : Multipliers) (ray : Bool) (r : ℤ) → IsSeriesMaximum Q p v ray r → pos (sum_in Q.forms every (λ f. sum_in (size Q.bank) (S f) (information_of Q v ray f))) ≤ℤ r
  at_most_maximum v ray r maximum =
      let a = series_low v ray in
      let b = maximum.greatest S (λ f. used Q.bank (S f)) series_fits in
      omega (arith, ints)

pub series_duality : SeriesDuality
series_duality Q p v r S V maximum on value =
    let a = series_high Q p S on v V value in
    let b = at_most_maximum Q p S on v false r maximum in
    omega (arith, ints)

pub series_ray : SeriesRay
series_ray Q p v r S maximum on =
    let b = at_most_maximum Q p S on v true r maximum in
    omega (arith, ints)

pub series_counting : SeriesCounting
series_counting Q p S f r w impossible on = impossible_leaves_no_form (form_problem Q) (form_path Q p f) (S f) (form_under Q p S on f w) r impossible
