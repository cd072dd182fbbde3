-- Each series on a path is at most the relaxed maximum of the pool there.
use Rattle.std.proofs.Common.{◌≡◌, ℕ, zero, suc, ◌+◌, ◌*◌, ◌/◌, ◌≤◌, ◌<◌, Bool, true, false, ℤ, pos, ◌-ℤ◌, ◌*ℤ◌, ◌≤ℤ◌, refl, ap, ◌∙◌, arith}
use Rattle.std.proofs.lemmas.Int.{ints}
use Rattle.std.proofs.lemmas.Nat.{div_below}
use Rattle.std.proofs.lemmas.Bool.{ltb-true}
use Rattle.bank_tables.specs.Sums.{sum_in, total_z}
use Rattle.bank_tables.specs.Tables.{size, info}
use Rattle.form_model.specs.Forms.{used, size_in}
use Rattle.certificate_model.specs.Relaxed.{Multipliers, multiplier}
use Rattle.certificate_model.specs.Weights.{price}
use Rattle.certificate_model.proofs.Duality.{held_is_taken_or_free, used_chosen_or_open}
use Rattle.series_model.specs.Series.{SeriesProblem, Forms, weight_of, weighted_information, IsValue}
use Rattle.series_model.specs.SeriesPaths.{SeriesPath, form_problem, form_path, OnPath}
use Rattle.series_model.specs.SeriesBounds.{point_side, counts, information_of}
use Rattle.series_model.specs.SeriesPools.{length_side, length_slack, ArePooled, IsPoolMaximum, least_above, least_of_form, least_of_pool}
use Rattle.series_model.specs.SeriesLaws.{PoolDuality, PoolRay}
use Rattle.series_model.proofs.SeriesSums.{every, times-le, sum_in-below, by_points}
use Rattle.series_model.proofs.SeriesDualityLaws.{form_under, series_low}
use Rattle.series_model.proofs.UseLaws.{each_n}

no_lack : (m : ℤ) (n k : ℕ) → n ≡ k → m *ℤ (pos k -ℤ pos n) ≡ pos 0
no_lack m n k e = let d : pos k -ℤ pos n ≡ pos 0 = omega (arith, ints) in ap (λ (z : ℤ). m *ℤ z) d ∙ omega (arith, ints)

none_lack : (k : ℕ) (L : ℕ → ℤ) → ((f : ℕ) → f < k → L f ≡ pos 0) → total_z k L ≡ pos 0
none_lack zero L h = refl
none_lack (suc k) L h = let rest = none_lack k L (λ f w. h f (omega arith)) in let last = h k (omega arith) in omega (arith, ints)

-- what is above U is the next multiple of the weight at least
next_multiple : (w s U V : ℕ) → 0 < w → U < V → V ≤ w * s → w * (U / w + 1) ≤ w * s
next_multiple w s U V some above low = times-le w (U / w + 1) s (let below = div_below U w s some (let e : s * w ≡ w * s = grind arith in omega arith) in omega arith)

module _ (Q : SeriesProblem) (p : SeriesPath) (S : Forms) (on : OnPath Q p S) where
  -- a series on the path, with the stimuli that it uses, is pooled
  series_pooled : ArePooled Q p S (λ f. used Q.bank (S f))
  series_pooled =
      record {
        n_items = each_n Q.forms (size Q.bank) Q.plan.length S (λ f w. (on.series.meets f w).right_length.n_items);
        apart = on.series.apart;
        holds_taken = on.holds_taken;
        else_free = λ f i w. held_is_taken_or_free (form_problem Q) (form_path Q p f) (S f) (form_under Q p S on f w) i;
        holds_used = λ i w. on.holds_used i;
        holds_chosen = λ f s w. (form_under Q p S on f w).uses_chosen s;
        else_open = λ f s w first last uses. used_chosen_or_open (form_problem Q) (form_path Q p f) (S f) (form_under Q p S on f w) s uses;
      }

  -- none of its forms lacks an item
  slacks_none : (v : Multipliers) → total_z Q.forms (length_slack Q v S) ≡ pos 0
  slacks_none v = none_lack Q.forms (length_slack Q v S) (λ f w. no_lack (price (multiplier v) (length_side f)) (size_in Q.bank (S f)) Q.plan.length (on.series.meets f w).right_length.n_items)

  at_most_pool : (v : Multipliers) (ray : Bool) (r : ℤ) → IsPoolMaximum Q p v ray r → pos (sum_in Q.forms every (λ f. sum_in (size Q.bank) (S f) (information_of Q v ray f))) ≤ℤ r
  at_most_pool v ray r maximum =
      let a = series_low Q p S on v ray in
      let b = maximum.greatest S (λ f. used Q.bank (S f)) series_pooled in
      let c = slacks_none v in
      omega (arith, ints)

  form_reaches : (v : Multipliers) (U V : ℕ) → IsValue Q S V → U < V → (f : ℕ) → f < Q.forms → least_of_form Q v U f ≤ sum_in (size Q.bank) (S f) (information_of Q v false f)
  form_reaches v U V value above f w =
      let swap = by_points (size Q.bank) Q.bank.grid (S f) (counts Q) (λ g. multiplier v (point_side f g)) (weight_of Q) (λ i g. info Q.bank i g) in
      let each =
      sum_in-below Q.bank.grid (counts Q) (λ g. multiplier v (point_side f g) * least_above Q U g) (λ g. multiplier v (point_side f g) * weighted_information Q (S f) g)
      (λ g within counted. times-le (multiplier v (point_side f g)) (least_above Q U g) (weighted_information Q (S f) g)
      (next_multiple (weight_of Q g) (sum_in (size Q.bank) (S f) (λ i. info Q.bank i g)) U V (ltb-true 0 (weight_of Q g) counted) above (value.least f g w (ltb-true 0 (weight_of Q g) counted)))) in
      omega arith

  series_reaches : (v : Multipliers) (U V : ℕ) → IsValue Q S V → U < V → least_of_pool Q v U ≤ sum_in Q.forms every (λ f. sum_in (size Q.bank) (S f) (information_of Q v false f))
  series_reaches v U V value above = sum_in-below Q.forms every (least_of_form Q v U) (λ f. sum_in (size Q.bank) (S f) (information_of Q v false f)) (λ f w all. form_reaches v U V value above f w)

pub pool_duality : PoolDuality
pool_duality Q p v r S U V maximum on value above =
    let a = series_reaches Q p S on v U V value above in
    let b = at_most_pool Q p S on v false r maximum in
    omega (arith, ints)

pub pool_ray : PoolRay
pool_ray Q p v r S maximum on =
    let b = at_most_pool Q p S on v true r maximum in
    omega (arith, ints)
