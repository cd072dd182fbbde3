-- Bank S: the stimulus goes on before a better item is served, and is barred once it is left.
use Rattle.std.proofs.Common.{◌≡◌, ℕ, zero, suc, ◌<◌, Bool, true, false, List, [], ◌∷◌, None, Some, refl, sym, arith}
use Rattle.std.proofs.Math.Bool.{true≢false}
use Rattle.bank_tables.specs.Items.{has}
use Rattle.form_model.specs.declared.breach.Breach.TheVariants.{Barred}
use Rattle.serving_model.specs.declared.seat.Seat.{Seat}
use Rattle.form_model.specs.Problem.{Problem}
use Rattle.form_model.specs.Forms.{objective}
use Rattle.form_model.specs.Breaches.{IsFirstBreach}
use Rattle.serving_model.specs.Serving.{IsNext, is_candidate, stimulus_goes_on}
use Rattle.serving_model.specs.Seats.{eight, IsSeatProblem, seat_problem, is_barred, is_unavailable_in}
use Rattle.form_model.proofs.Computed.{these, these_below, these_in, one_word, meets_is, mode_is}
use Rattle.serving_model.proofs.Computed.{next_is}
use Rattle.form_model.proofs.BankS.{item_s, ones, bank_s, plan_s}

-- ---- the seat before and after each answer
unfoldable pub seat_s : List ℕ → List ℕ → Seat
seat_s shown responses = record { shown = shown; responses = responses; eligible = one_word 31 ∷ []; aside = eight (λ _. false); without = None; form = Some (one_word 27); proved = true; closed = false }

-- the seat begins without a form
unfoldable pub seat_0 : Seat
unfolding seat_s
seat_0 = record (seat_s [] []) { form = None }

unfoldable pub problem_0 : Problem
problem_0 = seat_problem bank_s plan_s 0 seat_0 0

seat_problem_0 : IsSeatProblem bank_s plan_s 0 seat_0 problem_0
unfolding problem_0 seat_0 seat_s bank_s item_s ones plan_s
seat_problem_0 = record { theta = 0; mode = mode_is bank_s plan_s.prior [] 0 refl; is = refl }

objective_0 : objective problem_0 (these (0 ∷ 1 ∷ 3 ∷ 4 ∷ [])) ≡ 27
unfolding problem_0 seat_0 seat_s bank_s item_s
objective_0 = refl

next_0 : IsNext problem_0 (these (0 ∷ 1 ∷ 3 ∷ 4 ∷ [])) 0
unfolding problem_0 seat_0 seat_s bank_s item_s
next_0 = next_is problem_0 (these (0 ∷ 1 ∷ 3 ∷ 4 ∷ [])) 0 (these_below 5 (0 ∷ 1 ∷ 3 ∷ 4 ∷ []) refl) refl

-- ---- item 0 is answered: its stimulus goes on, so item 1 of 3 comes before item 3 of 8
unfoldable pub problem_1 : Problem
unfolding seat_s
problem_1 = seat_problem bank_s plan_s 0 (seat_s (0 ∷ []) (0 ∷ [])) 0

seat_problem_1 : IsSeatProblem bank_s plan_s 0 (seat_s (0 ∷ []) (0 ∷ [])) problem_1
unfolding problem_1 seat_s bank_s item_s ones plan_s
seat_problem_1 = record { theta = 0; mode = mode_is bank_s plan_s.prior ((0, 0) ∷ []) 0 refl; is = refl }

goes_on_1 : (stimulus_goes_on problem_1 (these (0 ∷ 1 ∷ 3 ∷ 4 ∷ [])) ≡ true) × (is_candidate problem_1 (these (0 ∷ 1 ∷ 3 ∷ 4 ∷ [])) 1 ≡ true) × (is_candidate problem_1 (these (0 ∷ 1 ∷ 3 ∷ 4 ∷ [])) 3 ≡ false)
unfolding problem_1 seat_s bank_s item_s
goes_on_1 = (refl, refl, refl)

next_1 : IsNext problem_1 (these (0 ∷ 1 ∷ 3 ∷ 4 ∷ [])) 1
unfolding problem_1 seat_s bank_s item_s
next_1 = next_is problem_1 (these (0 ∷ 1 ∷ 3 ∷ 4 ∷ [])) 1 (these_below 5 (0 ∷ 1 ∷ 3 ∷ 4 ∷ []) refl) refl

-- ---- item 1 is answered: the form has no more items of stimulus 1, though the bank has, so item 3
-- is next
unfoldable pub problem_2 : Problem
unfolding seat_s
problem_2 = seat_problem bank_s plan_s 0 (seat_s (0 ∷ 1 ∷ []) (0 ∷ 0 ∷ [])) 0

next_2 : IsNext problem_2 (these (0 ∷ 1 ∷ 3 ∷ 4 ∷ [])) 3
unfolding problem_2 seat_s bank_s item_s
next_2 = next_is problem_2 (these (0 ∷ 1 ∷ 3 ∷ 4 ∷ [])) 3 (these_below 5 (0 ∷ 1 ∷ 3 ∷ 4 ∷ []) refl) refl

-- ---- item 3 is answered: the mode is point 1, where item 2 has 90, but its stimulus was left
unfoldable pub problem_3 : Problem
unfolding seat_s
problem_3 = seat_problem bank_s plan_s 0 (seat_s (0 ∷ 1 ∷ 3 ∷ []) (0 ∷ 0 ∷ 1 ∷ [])) 1

seat_problem_3 : IsSeatProblem bank_s plan_s 0 (seat_s (0 ∷ 1 ∷ 3 ∷ []) (0 ∷ 0 ∷ 1 ∷ [])) problem_3
unfolding problem_3 seat_s bank_s item_s ones plan_s
seat_problem_3 = record { theta = 1; mode = mode_is bank_s plan_s.prior ((0, 0) ∷ (1, 0) ∷ (3, 1) ∷ []) 1 refl; is = refl }

-- not barred while the stimulus goes on; barred after it; never an item shown, an item of no
-- stimulus, or one beyond the bank
barred_s : (problem_2.barred 2 ≡ false) × (problem_3.barred 2 ≡ true) × (problem_3.barred 0 ≡ false) × (problem_3.barred 4 ≡ false) × (problem_3.barred 5 ≡ false) × (problem_3.barred 600 ≡ false)
unfolding problem_2 problem_3 seat_s bank_s item_s plan_s has
barred_s = (refl, refl, refl, refl, refl, refl)

-- an item that isn't eligible is barred, unless eligibility is set aside
unfoldable pub few_eligible : Bool → Seat
unfolding seat_0 seat_s
few_eligible aside = record seat_0 { eligible = one_word 7 ∷ []; aside = eight (λ _. aside) }

eligible_s : (is_barred bank_s (few_eligible false) (is_unavailable_in (few_eligible false) 0) 3 ≡ true) × (is_barred bank_s (few_eligible false) (is_unavailable_in (few_eligible false) 0) 2 ≡ false) × (is_barred bank_s (few_eligible true) (is_unavailable_in (few_eligible true) 0) 3 ≡ false) × (is_barred bank_s (few_eligible false) (is_unavailable_in (few_eligible false) 0) 600 ≡ false)
unfolding few_eligible seat_0 seat_s bank_s item_s has
eligible_s = (refl, refl, refl, refl)

next_3 : IsNext problem_3 (these (0 ∷ 1 ∷ 3 ∷ 4 ∷ [])) 4
unfolding problem_3 seat_s bank_s item_s
next_3 = next_is problem_3 (these (0 ∷ 1 ∷ 3 ∷ 4 ∷ [])) 4 (these_below 5 (0 ∷ 1 ∷ 3 ∷ 4 ∷ []) refl) refl

-- with item 2 in place of item 4 the plan is met, but item 2 is barred
breach_3 : IsFirstBreach problem_3 (these (0 ∷ 1 ∷ 2 ∷ 3 ∷ [])) (Some (Barred 2))
unfolding problem_3 seat_s bank_s item_s plan_s has
breach_3 = (meets_is bank_s plan_s (these (0 ∷ 1 ∷ 2 ∷ 3 ∷ [])) (these_below 5 (0 ∷ 1 ∷ 2 ∷ 3 ∷ []) refl) refl, given, before, refl, refl)
  where
    given : (j : ℕ) → these (0 ∷ 1 ∷ 3 ∷ []) j ≡ true → these (0 ∷ 1 ∷ 2 ∷ 3 ∷ []) j ≡ true
    given = these_in (these (0 ∷ 1 ∷ 2 ∷ 3 ∷ [])) (0 ∷ 1 ∷ 3 ∷ []) refl

    before : (j : ℕ) → j < 2 → problem_3.barred j ≡ true → these (0 ∷ 1 ∷ 2 ∷ 3 ∷ []) j ≡ false
    before zero w e = absurd (true≢false (sym e))
    before (suc zero) w e = absurd (true≢false (sym e))
    before (suc (suc j)) w e = absurd (omega arith)
