-- The problems of the next step of a session on bank A, before its item is answered.
use Rattle.std.proofs.Common.{◌≡◌, ℕ, ◌+◌, ◌<◌, Bool, true, List, [], ◌∷◌, ◌++◌, Some, refl, sym, subst, arith}
use Rattle.std.proofs.Math.Dec.{lit≤}
use Rattle.bank_tables.specs.Tables.{categories}
use Rattle.form_model.specs.Ability.{IsPosteriorMode}
use Rattle.form_model.specs.Forms.{objective}
use Rattle.form_model.specs.Problem.{Problem}
use Rattle.form_model.proofs.BankA.{item_a, sevens, bank_a, plan_of_rows, plan_a}
use Rattle.form_model.proofs.Computed.{these, mode_is}
use Rattle.serving_model.specs.Seats.{seat_problem}
use Rattle.history_model.specs.Ahead.{IsAhead}
use Rattle.history_model.specs.declared.entry.Entry.{Entry}
use Rattle.history_model.specs.declared.entry.Entry.TheVariants.{Answered}
use Rattle.history_model.specs.declared.place.Place.TheVariants.{Pending, Waiting}
use Rattle.history_model.specs.Entries.{seat_of}
use Rattle.history_model.proofs.HistoriesOfA.{started_a, served_a, answered_a, served_1, answered_1, served_2}
use Rattle.exam_office.specs.Ahead.{HasNextStep}

-- ---- at step 0 item 2 waits, which has two responses
leads_0 : HasNextStep bank_a plan_a served_a 0 0
unfolding bank_a item_a plan_of_rows plan_a started_a served_a
leads_0 = record { step = 0; item = 2; proved = true; waiting = refl; in_range = lit≤ tt; not_last = lit≤ tt }

leads_1 : HasNextStep bank_a plan_a served_a 0 1
unfolding bank_a item_a plan_of_rows plan_a started_a served_a
leads_1 = record { step = 0; item = 2; proved = true; waiting = refl; in_range = lit≤ tt; not_last = lit≤ tt }

waits_with : (k i j n : ℕ) (p q : Bool) → Some (Waiting k i p) ≡ Some (Waiting j n q) → (k ≡ j) × (i ≡ n)
waits_with k i j n p q e = (cc, cc)

no_response_2 : HasNextStep bank_a plan_a served_a 0 2 → ⊥
unfolding bank_a item_a plan_of_rows plan_a started_a served_a
no_response_2 n =
    let at = waits_with 0 2 n.step n.item true n.proved n.waiting in
    let below : 2 < categories bank_a 2 = subst (λ i. 2 < categories bank_a i) (sym at.1) n.in_range in
    absurd (omega (arith, below))

-- ---- none follows the last item, and none where an item is to be served
none_last : (response : ℕ) → HasNextStep bank_a plan_a served_2 0 response → ⊥
unfolding plan_of_rows plan_a started_a served_a answered_a served_1 answered_1 served_2
none_last response n =
    let at = waits_with 2 1 n.step n.item true n.proved n.waiting in
    let below : n.step + 1 < 3 = n.not_last in
    let is = at.0 in
    absurd (omega arith)

waits_for : (j n : ℕ) (q : Bool) → Some (Pending 0) ≡ Some (Waiting j n q) → ⊥
waits_for j n q e = cc

none_pending : (response : ℕ) → HasNextStep bank_a plan_a started_a 0 response → ⊥
unfolding plan_of_rows plan_a started_a
none_pending response n = waits_for n.step n.item n.proved n.waiting

-- ---- the two problems: response 1 leads to point 2, response 0 to point 1
abbrev after : ℕ → List Entry
after response = served_a ++ Answered 0 0 response ∷ []

mode_1 : IsPosteriorMode bank_a plan_a.prior ((2, 1) ∷ []) 2
unfolding bank_a item_a sevens plan_of_rows plan_a
mode_1 = mode_is bank_a plan_a.prior ((2, 1) ∷ []) 2 refl

mode_0 : IsPosteriorMode bank_a plan_a.prior ((2, 0) ∷ []) 1
unfolding bank_a item_a sevens plan_of_rows plan_a
mode_0 = mode_is bank_a plan_a.prior ((2, 0) ∷ []) 1 refl

unfoldable problem_1 : Problem
problem_1 = seat_problem bank_a plan_a 0 (seat_of (after 1) 0) 2

unfoldable problem_0 : Problem
problem_0 = seat_problem bank_a plan_a 0 (seat_of (after 0) 0) 1

ahead_1 : IsAhead bank_a plan_a served_a 0 0 1 problem_1
unfolding problem_1 bank_a item_a plan_of_rows plan_a started_a served_a
ahead_1 = record { item = 2; proved = true; waiting = refl; in_range = lit≤ tt; not_last = lit≤ tt; is_problem = record { pending = refl; of_seat = record { theta = 2; mode = mode_1; is = refl } } }

ahead_0 : IsAhead bank_a plan_a served_a 0 0 0 problem_0
unfolding problem_0 bank_a item_a plan_of_rows plan_a started_a served_a
ahead_0 = record { item = 2; proved = true; waiting = refl; in_range = lit≤ tt; not_last = lit≤ tt; is_problem = record { pending = refl; of_seat = record { theta = 1; mode = mode_0; is = refl } } }

-- the forms of the worked rows: 1, 2 and 4 with 14, and 1, 2 and 3 with 23
objectives : (objective problem_1 (these (1 ∷ 2 ∷ 4 ∷ [])) ≡ 14) × (objective problem_0 (these (1 ∷ 2 ∷ 3 ∷ [])) ≡ 23)
unfolding problem_1 problem_0 bank_a item_a
objectives = (refl, refl)
