-- Bank A with a list: item 2 is withheld from the examinee of a new session.
use Rattle.std.proofs.Common.{◌≡◌, ℕ, zero, suc, ◌<◌, inl, inr, Bool, false, true, ◌&&◌, ◌==◌, List, [], ◌∷◌, Some, refl, sym, ap, ◌∙◌, arith}
use Rattle.std.specs.Prelude.{nat_lt}
use Rattle.std.proofs.lemmas.Bool.{eqb-true, le-ltb}
use Rattle.bank_tables.specs.Items.{has}
use Rattle.serving_model.specs.declared.seat.Seat.{Seat}
use Rattle.form_model.specs.Problem.{Problem}
use Rattle.form_model.specs.Forms.{Form, objective}
use Rattle.serving_model.specs.Serving.{IsNext}
use Rattle.serving_model.specs.Seats.{eight, is_withheld, is_available_in, new_seat, seat_problem, problem_aside}
use Rattle.form_model.proofs.SumLaws.{either}
use Rattle.form_model.proofs.Computed.{these, these_below, one_word, form_is, is_no_form}
use Rattle.serving_model.proofs.Computed.{next_is}
use Rattle.form_model.proofs.BankA.{item_a, bank_a, plan_of_rows, plan_a}

-- a new seat with a list, every item eligible in the one band, with the flags of eligibility set
-- aside
unfoldable pub seat_without_2 : List Bool → Seat
seat_without_2 flags = record (new_seat (one_word 63 ∷ [])) { aside = flags; without = Some (one_word 4); form = Some (one_word 42) }

abbrev not_aside : List Bool
not_aside = eight (λ _. false)

abbrev first_aside : List Bool
first_aside = eight (λ band. band == 0)

unfoldable pub problem_without_2 : List Bool → Problem
problem_without_2 flags = seat_problem bank_a plan_a 1 (seat_without_2 flags) 1

-- an item of a number past the bank is neither barred nor item 2
past : (k : ℕ) (t : Bool) → (nat_lt (suc (suc (suc (suc (suc (suc k)))))) 6 && t) ≡ (suc (suc (suc (suc (suc (suc k))))) == 2)
past k t = ap (λ (s : Bool). s && t) (le-ltb (suc (suc (suc (suc (suc (suc k)))))) 6 (omega arith)) ∙ sym not_two
  where
    not_two : (suc (suc (suc (suc (suc (suc k))))) == 2) ≡ false
    not_two = elim (either (suc (suc (suc (suc (suc (suc k))))) == 2)) [ inl is ↦ absurd (let at = eqb-true (suc (suc (suc (suc (suc (suc k)))))) 2 is in omega arith) | inr not ↦ not ]

-- exactly item 2 is withheld
withheld : (i : ℕ) → i < 6 → is_withheld (seat_without_2 not_aside) i ≡ (i == 2)
unfolding seat_without_2 has
withheld zero w = refl
withheld (suc zero) w = refl
withheld (suc (suc zero)) w = refl
withheld (suc (suc (suc zero))) w = refl
withheld (suc (suc (suc (suc zero)))) w = refl
withheld (suc (suc (suc (suc (suc zero))))) w = refl
withheld (suc (suc (suc (suc (suc (suc k)))))) w = absurd (omega arith)

-- so exactly item 2 is barred
barred : (i : ℕ) → (problem_without_2 not_aside).barred i ≡ (i == 2)
unfolding problem_without_2 seat_without_2 bank_a item_a plan_of_rows plan_a has
barred zero = refl
barred (suc zero) = refl
barred (suc (suc zero)) = refl
barred (suc (suc (suc zero))) = refl
barred (suc (suc (suc (suc zero)))) = refl
barred (suc (suc (suc (suc (suc zero))))) = refl
barred (suc (suc (suc (suc (suc (suc k)))))) = past k _

-- where eligibility is set aside in the band, it stays barred
barred_aside : (i : ℕ) → (problem_without_2 first_aside).barred i ≡ (i == 2)
unfolding problem_without_2 seat_without_2 bank_a item_a plan_of_rows plan_a has
barred_aside zero = refl
barred_aside (suc zero) = refl
barred_aside (suc (suc zero)) = refl
barred_aside (suc (suc (suc zero))) = refl
barred_aside (suc (suc (suc (suc zero)))) = refl
barred_aside (suc (suc (suc (suc (suc zero))))) = refl
barred_aside (suc (suc (suc (suc (suc (suc k)))))) = past k _

still_barred : ((problem_without_2 first_aside).aside ≡ true) × ((problem_aside bank_a plan_a 1 (seat_without_2 not_aside) 1).barred 2 ≡ true) × ((problem_aside bank_a plan_a 1 (seat_without_2 not_aside) 1).barred 1 ≡ false)
unfolding problem_without_2 seat_without_2 bank_a item_a plan_of_rows plan_a has
still_barred = (refl, refl, refl)

-- it is available as the others are, and withheld all the same; past the last band none is
-- available
available_items :
    (is_available_in (seat_without_2 not_aside) 0 2 ≡ true)
    × (is_available_in (seat_without_2 first_aside) 0 2 ≡ true)
    × (is_available_in (seat_without_2 not_aside) 0 1 ≡ true)
    × (is_withheld (seat_without_2 not_aside) 2 ≡ true)
    × (is_withheld (seat_without_2 first_aside) 2 ≡ true)
    × (is_withheld (seat_without_2 not_aside) 1 ≡ false)
    × (is_available_in (seat_without_2 first_aside) 1 1 ≡ false)
unfolding seat_without_2 has
available_items = (refl, refl, refl, refl, refl, refl, refl)

-- the items 1, 3 and 5 are a form of 21, and item 1 is its first; the best form of all items, with
-- item 2, is none
form_135 : Form (problem_without_2 not_aside) (these (1 ∷ 3 ∷ 5 ∷ []))
unfolding problem_without_2 seat_without_2 bank_a item_a plan_of_rows plan_a has
form_135 = form_is (problem_without_2 not_aside) (these (1 ∷ 3 ∷ 5 ∷ [])) (these_below 6 (1 ∷ 3 ∷ 5 ∷ []) refl) (λ i e. absurd (cc)) refl

objective_135 : objective (problem_without_2 not_aside) (these (1 ∷ 3 ∷ 5 ∷ [])) ≡ 21
unfolding problem_without_2 seat_without_2 bank_a item_a
objective_135 = refl

next_135 : IsNext (problem_without_2 not_aside) (these (1 ∷ 3 ∷ 5 ∷ [])) 1
unfolding problem_without_2 seat_without_2 bank_a item_a
next_135 = next_is (problem_without_2 not_aside) (these (1 ∷ 3 ∷ 5 ∷ [])) 1 (these_below 6 (1 ∷ 3 ∷ 5 ∷ []) refl) refl

no_form_with_2 : Form (problem_without_2 not_aside) (these (1 ∷ 2 ∷ 3 ∷ [])) → ⊥
unfolding problem_without_2 seat_without_2 bank_a item_a plan_of_rows plan_a has
no_form_with_2 = is_no_form (problem_without_2 not_aside) (these (1 ∷ 2 ∷ 3 ∷ [])) refl

-- nor is it one where eligibility is set aside
no_form_aside : Form (problem_without_2 first_aside) (these (1 ∷ 2 ∷ 3 ∷ [])) → ⊥
unfolding problem_without_2 seat_without_2 bank_a item_a plan_of_rows plan_a has
no_form_aside = is_no_form (problem_without_2 first_aside) (these (1 ∷ 2 ∷ 3 ∷ [])) refl
