-- Bank A with two bands: the estimate moves to the second, where only item 0 is eligible.
use Rattle.std.proofs.Common.{◌≡◌, Bool, true, false, ◌==◌, List, [], ◌∷◌, pos, negsuc, None, Some, refl}
use Rattle.bank_tables.specs.Items.{has}
use Rattle.bank_tables.specs.Tables.{Tables}
use Rattle.serving_model.specs.declared.seat.Seat.{Seat}
use Rattle.form_model.specs.Plan.{Plan, band_of, bands_of}
use Rattle.form_model.specs.Problem.{Problem}
use Rattle.form_model.specs.Forms.{Form, objective}
use Rattle.form_model.specs.Ability.{IsPosteriorMode, mode_of, greatest_at}
use Rattle.serving_model.specs.Seats.{eight, first_band, IsSeatProblem, seat_problem}
use Rattle.form_model.proofs.Computed.{these, these_below, one_word, form_is, mode_is}
use Rattle.form_model.proofs.BankA.{item_a, sevens, plan_of_rows, plan_a}

-- ---- response 1 to item 5 moves the estimate from point 1 to point 2
unfoldable pub bank_bands : Tables
unfolding item_a sevens
bank_bands =
    record {
      grid = 3;
      quantities = 0;
      items =
          item_a (9 ∷ 5 ∷ 1 ∷ []) sevens
          ∷ item_a (7 ∷ 8 ∷ 2 ∷ []) sevens
          ∷ item_a (4 ∷ 9 ∷ 3 ∷ []) (negsuc 6 ∷ negsuc 6 ∷ negsuc 6 ∷ negsuc 29 ∷ negsuc 14 ∷ negsuc 0 ∷ [])
          ∷ item_a (2 ∷ 6 ∷ 8 ∷ []) sevens
          ∷ item_a (1 ∷ 4 ∷ 9 ∷ []) (pos 0 ∷ negsuc 0 ∷ negsuc 19 ∷ negsuc 6 ∷ negsuc 6 ∷ negsuc 6 ∷ [])
          ∷ item_a (3 ∷ 7 ∷ 5 ∷ []) (negsuc 6 ∷ negsuc 6 ∷ negsuc 6 ∷ negsuc 29 ∷ negsuc 14 ∷ negsuc 0 ∷ [])
          ∷ [];
    }

-- a new band begins at point 2
unfoldable pub plan_bands : Plan
unfolding plan_a plan_of_rows
plan_bands = record plan_a { bands = 2 ∷ [] }

bands_are : (bands_of plan_bands ≡ 2) × (band_of plan_bands 0 ≡ 0) × (band_of plan_bands 1 ≡ 0) × (band_of plan_bands 2 ≡ 1) × (first_band bank_bands plan_bands ≡ 0)
unfolding bank_bands plan_bands plan_a plan_of_rows item_a sevens mode_of greatest_at
bands_are = (refl, refl, refl, refl, refl)

mode_5 : IsPosteriorMode bank_bands plan_bands.prior ((5, 1) ∷ []) 2
unfolding bank_bands plan_bands plan_a plan_of_rows item_a sevens
mode_5 = mode_is bank_bands plan_bands.prior ((5, 1) ∷ []) 2 refl

-- in the first band all are eligible, in the second item 0 alone
unfoldable pub seat_5 : List Bool → Seat
seat_5 flags = record { shown = 5 ∷ []; responses = 1 ∷ []; eligible = one_word 63 ∷ one_word 1 ∷ []; aside = flags; without = None; form = Some (one_word 41); proved = true; closed = false }

abbrev pub not_aside : List Bool
not_aside = eight (λ _. false)

abbrev second_aside : List Bool
second_aside = eight (λ band. band == 1)

unfoldable pub problem_5 : List Bool → Problem
problem_5 flags = seat_problem bank_bands plan_bands 0 (seat_5 flags) 2

seat_problem_5 : (flags : List Bool) → IsSeatProblem bank_bands plan_bands 0 (seat_5 flags) (problem_5 flags)
unfolding problem_5 seat_5
seat_problem_5 flags = record { theta = 2; mode = mode_5; is = refl }

-- items 1 to 4 are barred; item 5 was shown
barred_5 : ((problem_5 not_aside).aside ≡ false) × ((problem_5 not_aside).barred 0 ≡ false) × ((problem_5 not_aside).barred 1 ≡ true) × ((problem_5 not_aside).barred 4 ≡ true) × ((problem_5 not_aside).barred 5 ≡ false)
unfolding problem_5 seat_5 bank_bands plan_bands plan_a plan_of_rows item_a has
barred_5 = (refl, refl, refl, refl, refl)

-- with the second band aside nothing is barred
open_5 : ((problem_5 second_aside).aside ≡ true) × ((problem_5 second_aside).barred 1 ≡ false) × ((problem_5 second_aside).barred 4 ≡ false)
unfolding problem_5 seat_5 bank_bands plan_bands plan_a plan_of_rows item_a has
open_5 = (refl, refl, refl)

form_5 : Form (problem_5 second_aside) (these (1 ∷ 4 ∷ 5 ∷ []))
unfolding problem_5 seat_5 bank_bands plan_bands plan_a plan_of_rows item_a has
form_5 = form_is (problem_5 second_aside) (these (1 ∷ 4 ∷ 5 ∷ [])) (these_below 6 (1 ∷ 4 ∷ 5 ∷ []) refl) (these_below 6 (5 ∷ []) refl) refl

objective_5 : objective (problem_5 second_aside) (these (1 ∷ 4 ∷ 5 ∷ [])) ≡ 16
unfolding problem_5 seat_5 bank_bands item_a
objective_5 = refl
