-- Six items without stimuli, in two forms: a plan that no series meets, and a series of two items a
-- form that is best.
use Rattle.std.proofs.Common.{◌≡◌, ℕ, zero, suc, ◌*◌, ◌≤◌, ◌<◌, inl, inr, Bool, true, false, not, ◌&&◌, List, [], ◌∷◌, length, ℤ, pos, negsuc, ◌≤ℤ◌, None, Some, refl, sym, arith}
use Rattle.std.specs.Prelude.{replicate}
use Rattle.std.specs.List.{list_all}
use Rattle.std.proofs.Math.Dec.{lit≤}
use Rattle.std.proofs.lemmas.Int.{ints}
use Rattle.std.proofs.Math.Bool.{true≢false}
use Rattle.bank_tables.specs.Items.{has}
use Rattle.form_model.specs.Forms.{Meets}
use Rattle.certificate_model.specs.Paths.{is_free}
use Rattle.form_model.specs.Plan.{Plan}
use Rattle.certificate_model.specs.Ranges.{at}
use Rattle.certificate_model.specs.Relaxed.{Multipliers, multiplier}
use Rattle.certificate_model.specs.Weights.{item_weight, rows_constant}
use Rattle.form_model.proofs.BankA.{item_a, bank_a}
use Rattle.form_model.proofs.Computed.{each_of, these, these_in, one_word, word_below}
use Rattle.series_model.specs.declared.node.SeriesNode.TheVariants.{Bound, Ray}
use Rattle.series_model.specs.declared.verdict.SeriesVerdict.TheVariants.{Optimal, NoSeries}
use Rattle.series_model.specs.Series.{SeriesProblem, weight_of, weighted_information, IsSeriesList, IsValue, BestSeries, HasNoSeries, forms_of}
use Rattle.series_model.specs.SeriesBounds.{points, multipliers_of, IsSeriesMaximum}
use Rattle.series_model.specs.SeriesPaths.{root, form_problem, form_path}
use Rattle.series_model.specs.SeriesPools.{IsMaximumBy}
use Rattle.series_model.specs.SeriesTrees.{Certificate, names_pool}
use Rattle.series_model.specs.SeriesVerdicts.{NamesOnlySides, ClosesByBound, IsSeriesVerdict}
use Rattle.series_model.proofs.SeriesTreeLaws.{optimal_is_best_series, no_series_is_none}
use Rattle.series_check.specs.Maximum.{weight_at, IsFormMaximum}
use Rattle.series_check.proofs.LinearLaws.{greatest_linear}
use Rattle.series_check.proofs.MaximumLaws.{form_maximum_is, no_forms, one_more_form, all_forms}

-- so many items a form, and no rows
unfoldable pub plan_of : ℕ → Plan
plan_of length =
    record {
      length = length;
      prior = negsuc 9 ∷ pos 0 ∷ negsuc 9 ∷ [];
      rows = [];
      bounds = [];
      rate = record { num = 1; den = 1 };
      key = replicate 32 0;
      bands = [];
      budget = 2001;
      base_budget = 4095;
      sessions = 1000;
      journal = 67108864;
      base = None;
    }

-- two forms, and point 1 alone counts
unfoldable pub two_forms : ℕ → SeriesProblem
two_forms length = record { bank = bank_a; plan = plan_of length; weights = 0 ∷ 1 ∷ 0 ∷ []; forms = 2 }

-- ---- four items a form: each item is in one form at most, and there are six
unfoldable pub common_uses : Multipliers
common_uses = (256, 1) ∷ (257, 1) ∷ (258, 1) ∷ (259, 1) ∷ (260, 1) ∷ (261, 1) ∷ []

unfoldable minus_ones : List ℤ
minus_ones = negsuc 0 ∷ negsuc 0 ∷ negsuc 0 ∷ negsuc 0 ∷ negsuc 0 ∷ negsuc 0 ∷ []

each_minus_one : (i : ℕ) → i < 6 → at minus_ones i ≡ negsuc 0
unfolding minus_ones
each_minus_one zero w = refl
each_minus_one (suc zero) w = refl
each_minus_one (suc (suc zero)) w = refl
each_minus_one (suc (suc (suc zero))) w = refl
each_minus_one (suc (suc (suc (suc zero)))) w = refl
each_minus_one (suc (suc (suc (suc (suc zero))))) w = refl
each_minus_one (suc (suc (suc (suc (suc (suc i)))))) w = absurd (omega arith)

first_four_free : (f : ℕ) → f < 2 → list_all (is_free (form_problem (two_forms 4)) (form_path (two_forms 4) root f)) (0 ∷ 1 ∷ 2 ∷ 3 ∷ []) ≡ true
unfolding two_forms bank_a
first_four_free zero w = refl
first_four_free (suc zero) w = refl
first_four_free (suc (suc f)) w = absurd (omega arith)

module _ (f : ℕ) where
  weighed_uses : (i : ℕ) → i < 6 → at minus_ones i ≡ weight_at (two_forms 4) (multiplier common_uses) (multiplier (multipliers_of f common_uses)) true f i
  unfolding two_forms plan_of bank_a item_a common_uses minus_ones item_weight
  weighed_uses zero w = refl
  weighed_uses (suc zero) w = refl
  weighed_uses (suc (suc zero)) w = refl
  weighed_uses (suc (suc (suc zero))) w = refl
  weighed_uses (suc (suc (suc (suc zero)))) w = refl
  weighed_uses (suc (suc (suc (suc (suc zero))))) w = refl
  weighed_uses (suc (suc (suc (suc (suc (suc i)))))) w = absurd (omega arith)

  four_minus_ones : f < 2 → IsFormMaximum (two_forms 4) root common_uses true f (negsuc 3)
  unfolding two_forms plan_of bank_a minus_ones rows_constant
  four_minus_ones w =
      form_maximum_is (two_forms 4) root common_uses true f minus_ones (negsuc 3) weighed_uses
      (greatest_linear (form_problem (two_forms 4)) (form_path (two_forms 4) root f) (multiplier (multipliers_of f common_uses)) (at minus_ones) (these (0 ∷ 1 ∷ 2 ∷ 3 ∷ [])) (negsuc 0)
      (these_in (is_free (form_problem (two_forms 4)) (form_path (two_forms 4) root f)) (0 ∷ 1 ∷ 2 ∷ 3 ∷ []) (first_four_free f w))
      refl
      (λ i v e. (let one = each_minus_one i v in omega (arith, ints)))
      (λ i v e d. (let one = each_minus_one i v in omega (arith, ints))))

-- 6 - 4 - 4
pub minus_two : IsSeriesMaximum (two_forms 4) root common_uses true (negsuc 1)
unfolding two_forms plan_of bank_a common_uses
minus_two =
    all_forms (two_forms 4) root common_uses true 2 (negsuc 1) refl
    (one_more_form (two_forms 4) root common_uses true 1 (pos 2) (negsuc 3)
    (one_more_form (two_forms 4) root common_uses true 0 (pos 6) (negsuc 3) (no_forms (two_forms 4) root common_uses true (pos 6) refl) (four_minus_ones 0 (omega arith)))
    (four_minus_ones 1 (omega arith)))

-- it is no vector of the pool
pub minus_two_by : IsMaximumBy (names_pool common_uses) (two_forms 4) root common_uses true (negsuc 1)
unfolding common_uses
minus_two_by = minus_two

names_uses : NamesOnlySides (two_forms 4) common_uses
unfolding two_forms bank_a common_uses
names_uses zero d w = inr (inl (0, omega arith, refl))
names_uses (suc zero) d w = inr (inl (1, omega arith, refl))
names_uses (suc (suc zero)) d w = inr (inl (2, omega arith, refl))
names_uses (suc (suc (suc zero))) d w = inr (inl (3, omega arith, refl))
names_uses (suc (suc (suc (suc zero)))) d w = inr (inl (4, omega arith, refl))
names_uses (suc (suc (suc (suc (suc zero))))) d w = inr (inl (5, omega arith, refl))
names_uses (suc (suc (suc (suc (suc (suc k)))))) d w = absurd (omega arith)

unfoldable pub one_ray : Certificate
one_ray = record { vectors = common_uses ∷ []; nodes = Ray 0 ∷ [] }

pub no_series_of_four : IsSeriesVerdict (two_forms 4) None None one_ray NoSeries
unfolding one_ray
no_series_of_four = inl (tt, (None, refl, inl ((omega arith, names_uses, record { maximum = negsuc 1; is_maximum = minus_two_by; below = omega (arith, ints) }), refl)))

pub none_of_four : HasNoSeries (two_forms 4)
none_of_four = no_series_is_none (two_forms 4) None one_ray no_series_of_four

-- ---- two items a form: the forms of 1 and 5 and of 2 and 3 have 15 each, and no series has more
unfoldable pub best_sets : List (List ℕ)
best_sets = one_word 34 ∷ one_word 12 ∷ []

unfoldable pub prices : Multipliers
prices = (1, 1) ∷ (65, 1) ∷ (257, 3) ∷ (258, 4) ∷ (259, 1) ∷ (261, 2) ∷ []

unfoldable priced : List ℤ
priced = pos 5 ∷ pos 5 ∷ pos 5 ∷ pos 5 ∷ pos 4 ∷ pos 5 ∷ []

first_two_free : (f : ℕ) → f < 2 → list_all (is_free (form_problem (two_forms 2)) (form_path (two_forms 2) root f)) (0 ∷ 1 ∷ []) ≡ true
unfolding two_forms bank_a
first_two_free zero w = refl
first_two_free (suc zero) w = refl
first_two_free (suc (suc f)) w = absurd (omega arith)

weighed_prices : (f i : ℕ) → f < 2 → i < 6 → at priced i ≡ weight_at (two_forms 2) (multiplier prices) (multiplier (multipliers_of f prices)) false f i
unfolding two_forms plan_of bank_a item_a prices priced item_weight
weighed_prices zero zero v w = refl
weighed_prices zero (suc zero) v w = refl
weighed_prices zero (suc (suc zero)) v w = refl
weighed_prices zero (suc (suc (suc zero))) v w = refl
weighed_prices zero (suc (suc (suc (suc zero)))) v w = refl
weighed_prices zero (suc (suc (suc (suc (suc zero))))) v w = refl
weighed_prices (suc zero) zero v w = refl
weighed_prices (suc zero) (suc zero) v w = refl
weighed_prices (suc zero) (suc (suc zero)) v w = refl
weighed_prices (suc zero) (suc (suc (suc zero))) v w = refl
weighed_prices (suc zero) (suc (suc (suc (suc zero)))) v w = refl
weighed_prices (suc zero) (suc (suc (suc (suc (suc zero))))) v w = refl
weighed_prices zero (suc (suc (suc (suc (suc (suc i)))))) v w = absurd (omega arith)
weighed_prices (suc zero) (suc (suc (suc (suc (suc (suc i)))))) v w = absurd (omega arith)
weighed_prices (suc (suc f)) i v w = absurd (omega arith)

at_most_five : (i : ℕ) → i < 6 → at priced i ≤ℤ pos 5
unfolding priced
at_most_five zero w = omega (arith, ints)
at_most_five (suc zero) w = omega (arith, ints)
at_most_five (suc (suc zero)) w = omega (arith, ints)
at_most_five (suc (suc (suc zero))) w = omega (arith, ints)
at_most_five (suc (suc (suc (suc zero)))) w = omega (arith, ints)
at_most_five (suc (suc (suc (suc (suc zero))))) w = omega (arith, ints)
at_most_five (suc (suc (suc (suc (suc (suc i)))))) w = absurd (omega arith)

abbrev is_first_two : ℕ → Bool
is_first_two zero = true
is_first_two (suc zero) = true
is_first_two (suc (suc i)) = false

five_of_two : (i : ℕ) → is_first_two i ≡ true → pos 5 ≤ℤ at priced i
unfolding priced
five_of_two zero e = omega (arith, ints)
five_of_two (suc zero) e = omega (arith, ints)
five_of_two (suc (suc i)) e = absurd (true≢false (sym e))

two_fives : (f : ℕ) → f < 2 → IsFormMaximum (two_forms 2) root prices false f (pos 10)
unfolding two_forms plan_of bank_a priced rows_constant
two_fives f w =
    form_maximum_is (two_forms 2) root prices false f priced (pos 10) (λ i v. weighed_prices f i w v)
    (greatest_linear (form_problem (two_forms 2)) (form_path (two_forms 2) root f) (multiplier (multipliers_of f prices)) (at priced) (these (0 ∷ 1 ∷ [])) (pos 5)
    (these_in (is_free (form_problem (two_forms 2)) (form_path (two_forms 2) root f)) (0 ∷ 1 ∷ []) (first_two_free f w))
    refl
    (λ i v e. five_of_two i (these_in is_first_two (0 ∷ 1 ∷ []) refl i e))
    (λ i v e d. at_most_five i v))

-- 10 + 10 + 10, where 31 would do
pub thirty : IsSeriesMaximum (two_forms 2) root prices false (pos 30)
unfolding two_forms plan_of bank_a prices
thirty =
    all_forms (two_forms 2) root prices false 2 (pos 30) refl
    (one_more_form (two_forms 2) root prices false 1 (pos 20) (pos 10)
    (one_more_form (two_forms 2) root prices false 0 (pos 10) (pos 10) (no_forms (two_forms 2) root prices false (pos 10) refl) (two_fives 0 (omega arith)))
    (two_fives 1 (omega arith)))

names_prices : NamesOnlySides (two_forms 2) prices
unfolding two_forms bank_a prices
names_prices zero d w = inl (0, 1, omega arith, omega arith, refl)
names_prices (suc zero) d w = inl (1, 1, omega arith, omega arith, refl)
names_prices (suc (suc zero)) d w = inr (inl (1, omega arith, refl))
names_prices (suc (suc (suc zero))) d w = inr (inl (2, omega arith, refl))
names_prices (suc (suc (suc (suc zero)))) d w = inr (inl (3, omega arith, refl))
names_prices (suc (suc (suc (suc (suc zero))))) d w = inr (inl (5, omega arith, refl))
names_prices (suc (suc (suc (suc (suc (suc k)))))) d w = absurd (omega arith)

closes_at_root : ClosesByBound (two_forms 2) (Some 15) root prices
unfolding two_forms bank_a prices
closes_at_root =
    let two : points (two_forms 2) prices ≡ 2 = refl in
    let goal : points (two_forms 2) prices * 16 ≡ 32 = refl in
    (omega (arith, two), record { maximum = pos 30; is_maximum = thirty; below = omega (arith, ints, goal) })

meets_of : (f : ℕ) → f < 2 → Meets bank_a (plan_of 2) (forms_of best_sets f)
unfolding two_forms plan_of bank_a item_a best_sets has
meets_of zero w = record { right_length = record { in_bank = word_below 6 34 refl refl; n_items = refl }; rows = λ r v. absurd (omega arith); stimuli = λ s first last. absurd (omega arith) }
meets_of (suc zero) w = record { right_length = record { in_bank = word_below 6 12 refl refl; n_items = refl }; rows = λ r v. absurd (omega arith); stimuli = λ s first last. absurd (omega arith) }
meets_of (suc (suc f)) w = absurd (omega arith)

in_both : (i : ℕ) → has (one_word 34) i ≡ true → has (one_word 12) i ≡ true → ⊥
unfolding has
in_both i e d = never (has (one_word 34) i) (has (one_word 12) i) e d (each_of 6 (λ j. not (has (one_word 34) j && has (one_word 12) j)) refl i (word_below 6 34 refl refl i e))
  where
    never : (a b : Bool) → a ≡ true → b ≡ true → not (a && b) ≡ true → ⊥
    never true true e d h = true≢false (sym h)
    never true false e d h = true≢false (sym d)
    never false b e d h = true≢false (sym e)

series_of_two : IsSeriesList (two_forms 2) best_sets
unfolding two_forms plan_of best_sets
series_of_two = record { number = refl; series = record { meets = meets_of; apart = apart } }
  where
    apart : (f g i : ℕ) → f < 2 → g < 2 → forms_of best_sets f i ≡ true → forms_of best_sets g i ≡ true → f ≡ g
    apart zero zero i v w e d = refl
    apart zero (suc zero) i v w e d = absurd (in_both i e d)
    apart (suc zero) zero i v w e d = absurd (in_both i d e)
    apart (suc zero) (suc zero) i v w e d = refl
    apart zero (suc (suc g)) i v w e d = absurd (omega arith)
    apart (suc zero) (suc (suc g)) i v w e d = absurd (omega arith)
    apart (suc (suc f)) g i v w e d = absurd (omega arith)

value_of_two : IsValue (two_forms 2) (forms_of best_sets) 15
unfolding two_forms bank_a item_a best_sets has
value_of_two = record { least = least; reached = (0, 1, omega arith, omega arith, refl) }
  where
    least : (f g : ℕ) → f < 2 → 0 < weight_of (two_forms 2) g → 15 ≤ weighted_information (two_forms 2) (forms_of best_sets f) g
    least zero (suc zero) w counted = lit≤ tt
    least (suc zero) (suc zero) w counted = lit≤ tt
    least (suc (suc f)) g w counted = absurd (omega arith)
    least zero zero w counted = absurd (omega arith)
    least (suc zero) zero w counted = absurd (omega arith)
    least zero (suc (suc zero)) w counted = absurd (omega arith)
    least (suc zero) (suc (suc zero)) w counted = absurd (omega arith)
    least zero (suc (suc (suc g))) w counted = absurd (omega arith)
    least (suc zero) (suc (suc (suc g))) w counted = absurd (omega arith)

unfoldable pub one_bound : Certificate
one_bound = record { vectors = prices ∷ []; nodes = Bound 0 ∷ [] }

pub best_of_two : IsSeriesVerdict (two_forms 2) (Some best_sets) None one_bound Optimal
unfolding one_bound
best_of_two = inl (series_of_two, (Some 15, (15, value_of_two, refl), inl ((omega arith, names_prices, closes_at_root), refl)))

pub is_best_of_two : BestSeries (two_forms 2) (forms_of best_sets)
is_best_of_two = optimal_is_best_series (two_forms 2) best_sets one_bound best_of_two
