-- Bank A goes on: the estimate after each answer, the next problems of the seat, their forms and
-- next items.
use Rattle.std.proofs.Common.{◌≡◌, ℕ, zero, suc, ◌<◌, inl, true, false, List, [], ◌∷◌, negsuc, None, Some, refl, sym, subst, arith}
use Rattle.std.specs.Prelude.{slice_get}
use Rattle.std.proofs.Math.Dec.{lit≤}
use Rattle.bank_tables.specs.Items.{has}
use Rattle.bank_tables.specs.Tables.{categories}
use Rattle.bank_tables.specs.Validity.{HoldsItems}
use Rattle.serving_model.specs.declared.seat.Seat.{Seat}
use Rattle.form_model.specs.Problem.{Problem}
use Rattle.form_model.specs.Forms.{objective}
use Rattle.form_model.specs.Ability.{IsPosteriorMode, log_posterior}
use Rattle.serving_model.specs.Serving.{IsNext}
use Rattle.serving_model.specs.Seats.{eight, IsSeat, IsPending, IsSeatProblem, seat_problem}
use Rattle.form_model.proofs.Computed.{these, these_below, one_word, word_below, mode_is}
use Rattle.serving_model.proofs.Computed.{next_is}
use Rattle.form_model.proofs.BankA.{item_a, sevens, bank_a, plan_of_rows, plan_a}

-- ---- item 2 is answered by response 1: -40, -15, -11, so the mode is point 2
sums_1 : (log_posterior bank_a plan_a.prior ((2, 1) ∷ []) 0 ≡ negsuc 39) × (log_posterior bank_a plan_a.prior ((2, 1) ∷ []) 1 ≡ negsuc 14) × (log_posterior bank_a plan_a.prior ((2, 1) ∷ []) 2 ≡ negsuc 10)
unfolding bank_a item_a sevens plan_of_rows plan_a
sums_1 = (refl, refl, refl)

mode_1 : IsPosteriorMode bank_a plan_a.prior ((2, 1) ∷ []) 2
unfolding bank_a item_a sevens plan_of_rows plan_a
mode_1 = mode_is bank_a plan_a.prior ((2, 1) ∷ []) 2 refl

unfoldable pub seat_1 : Seat
seat_1 = record { shown = 2 ∷ []; responses = 1 ∷ []; eligible = one_word 63 ∷ []; aside = eight (λ _. false); without = None; form = Some (one_word 14); proved = true; closed = false }

unfoldable pub problem_1 : Problem
problem_1 = seat_problem bank_a plan_a 0 seat_1 2

seat_problem_1 : IsSeatProblem bank_a plan_a 0 seat_1 problem_1
unfolding problem_1 seat_1
seat_problem_1 = record { theta = 2; mode = mode_1; is = refl }

pending_1 : IsPending plan_a seat_1
unfolding seat_1 plan_of_rows plan_a
pending_1 = record { not_closed = refl; not_complete = lit≤ tt; answered = refl }

-- the problem: step 1, item 2 given and last, nothing barred, the form served from the start
parts_1 : (problem_1.step ≡ 1) × (problem_1.given 2 ≡ true) × (problem_1.given 1 ≡ false) × (problem_1.barred 1 ≡ false) × (problem_1.barred 600 ≡ false) × (problem_1.last ≡ Some 2) × (problem_1.start ≡ Some (has (one_word 14)))
unfolding problem_1 seat_1 bank_a item_a plan_of_rows plan_a has
parts_1 = (refl, refl, refl, refl, refl, refl, refl)

objective_1 : objective problem_1 (these (1 ∷ 2 ∷ 4 ∷ [])) ≡ 14
unfolding problem_1 seat_1 bank_a item_a
objective_1 = refl

next_1 : IsNext problem_1 (these (1 ∷ 2 ∷ 4 ∷ [])) 4
unfolding problem_1 seat_1 bank_a item_a
next_1 = next_is problem_1 (these (1 ∷ 2 ∷ 4 ∷ [])) 4 (these_below 6 (1 ∷ 2 ∷ 4 ∷ []) refl) refl

-- ---- item 4 is answered by response 0: -40, -16, -31, so the mode is point 1 again
sums_2 : (log_posterior bank_a plan_a.prior ((2, 1) ∷ (4, 0) ∷ []) 0 ≡ negsuc 39) × (log_posterior bank_a plan_a.prior ((2, 1) ∷ (4, 0) ∷ []) 1 ≡ negsuc 15) × (log_posterior bank_a plan_a.prior ((2, 1) ∷ (4, 0) ∷ []) 2 ≡ negsuc 30)
unfolding bank_a item_a sevens plan_of_rows plan_a
sums_2 = (refl, refl, refl)

mode_2 : IsPosteriorMode bank_a plan_a.prior ((2, 1) ∷ (4, 0) ∷ []) 1
unfolding bank_a item_a sevens plan_of_rows plan_a
mode_2 = mode_is bank_a plan_a.prior ((2, 1) ∷ (4, 0) ∷ []) 1 refl

unfoldable pub seat_2 : Seat
seat_2 = record { shown = 2 ∷ 4 ∷ []; responses = 1 ∷ 0 ∷ []; eligible = one_word 63 ∷ []; aside = eight (λ _. false); without = None; form = Some (one_word 22); proved = true; closed = false }

unfoldable pub problem_2 : Problem
problem_2 = seat_problem bank_a plan_a 0 seat_2 1

seat_problem_2 : IsSeatProblem bank_a plan_a 0 seat_2 problem_2
unfolding problem_2 seat_2
seat_problem_2 = record { theta = 1; mode = mode_2; is = refl }

objective_2 : objective problem_2 (these (1 ∷ 2 ∷ 4 ∷ [])) ≡ 21
unfolding problem_2 seat_2 bank_a item_a
objective_2 = refl

next_2 : IsNext problem_2 (these (1 ∷ 2 ∷ 4 ∷ [])) 1
unfolding problem_2 seat_2 bank_a item_a
next_2 = next_is problem_2 (these (1 ∷ 2 ∷ 4 ∷ [])) 1 (these_below 6 (1 ∷ 2 ∷ 4 ∷ []) refl) refl

-- the seat keeps what a caller knows of one
kept_2 : IsSeat bank_a plan_a seat_2
unfolding seat_2 bank_a item_a plan_of_rows plan_a has
kept_2 =
    record {
      items = these_below 6 (2 ∷ 4 ∷ []) refl;
      once = once;
      few = lit≤ tt;
      responses = inl refl;
      in_range = in_range;
      form_items = λ words e. form_items words e;
      form_none = λ e. absurd (cc);
      form_some = λ e f. absurd (omega arith);
      list_form = λ e. refl;
      not_withheld = λ i e. refl;
    }
  where
    once : (j k item : ℕ) → slice_get (2 ∷ 4 ∷ []) j ≡ Some item → slice_get (2 ∷ 4 ∷ []) k ≡ Some item → j ≡ k
    once zero zero item e f = refl
    once zero (suc zero) item e f = absurd (cc)
    once (suc zero) zero item e f = absurd (cc)
    once (suc zero) (suc zero) item e f = refl
    once (suc (suc j)) k item e f = absurd (cc)
    once zero (suc (suc k)) item e f = absurd (cc)
    once (suc zero) (suc (suc k)) item e f = absurd (cc)

    in_range : (k item response : ℕ) → slice_get (2 ∷ 4 ∷ []) k ≡ Some item → slice_get (1 ∷ 0 ∷ []) k ≡ Some response → response < categories bank_a item
    in_range zero item response e f = let i : 2 ≡ item = cc in let r : 1 ≡ response = cc in rw (sym i, sym r) (lit≤ tt)
    in_range (suc zero) item response e f = let i : 4 ≡ item = cc in let r : 0 ≡ response = cc in rw (sym i, sym r) (lit≤ tt)
    in_range (suc (suc k)) item response e f = absurd (cc)

    form_items : (words : List ℕ) → Some (one_word 22) ≡ Some words → HoldsItems bank_a (has words)
    form_items words e = let same : one_word 22 ≡ words = cc in subst (λ (ws : List ℕ). HoldsItems bank_a (has ws)) same (word_below 6 22 refl refl)
