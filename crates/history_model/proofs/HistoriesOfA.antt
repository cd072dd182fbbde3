-- A test of three items on bank A, entry by entry: places, seats, problems, counts.
use Rattle.std.proofs.Common.{◌≡◌, ℕ, false, true, List, [], ◌∷◌, ◌++◌, None, Some, refl}
use Rattle.bank_tables.specs.Items.{has}
use Rattle.form_model.specs.Ability.{mode_of, greatest_at}
use Rattle.serving_model.specs.Seats.{answers, seat_problem}
use Rattle.form_model.proofs.Computed.{one_word}
use Rattle.form_model.proofs.BankA.{item_a, sevens, bank_a, plan_of_rows, plan_a}
use Rattle.serving_model.proofs.StepsOfA.{seat_1, seat_2, problem_1, problem_2}
use Rattle.history_model.specs.declared.entry.Bands.{Bands}
use Rattle.history_model.specs.declared.entry.Entry.{Entry}
use Rattle.history_model.specs.declared.entry.Entry.TheVariants.{Started, Served, Answered, Closed}
use Rattle.history_model.specs.declared.place.Place.TheVariants.{Pending, Waiting, Complete, Closed as IsClosed}
use Rattle.history_model.specs.Entries.{sessions, holder, seat_of}
use Rattle.history_model.specs.Places.{place}
use Rattle.history_model.specs.Counts.{counts, finished}

-- the eligible items of a plan with one band
abbrev pub one_band : List ℕ → Bands
one_band words = record { count = 1; sets = words ∷ [] }

-- ---- the session of booking 70: items 2, 4 and 1, answered by 1, 0 and 1
unfoldable pub started_a : List Entry
started_a = Started 0 70 (one_band (one_word 63)) None ∷ []

unfoldable pub served_a : List Entry
unfolding started_a
served_a = started_a ++ Served 0 0 2 (one_word 14) true 1 ∷ []

unfoldable pub answered_a : List Entry
unfolding served_a started_a
answered_a = served_a ++ Answered 0 0 1 ∷ []

unfoldable pub served_1 : List Entry
unfolding answered_a served_a started_a
served_1 = answered_a ++ Served 0 1 4 (one_word 22) true 1 ∷ []

unfoldable pub answered_1 : List Entry
unfolding served_1 answered_a served_a started_a
answered_1 = served_1 ++ Answered 0 1 0 ∷ []

unfoldable pub served_2 : List Entry
unfolding answered_1 served_1 answered_a served_a started_a
served_2 = answered_1 ++ Served 0 2 1 (one_word 22) true 1 ∷ []

unfoldable pub answered_2 : List Entry
unfolding served_2 answered_1 served_1 answered_a served_a started_a
answered_2 = served_2 ++ Answered 0 2 1 ∷ []

-- the place after each entry; session 1 isn't there
places_a : (place plan_a [] 0 ≡ None) × (place plan_a started_a 0 ≡ Some (Pending 0)) × (place plan_a served_a 0 ≡ Some (Waiting 0 2 true)) × (place plan_a answered_a 0 ≡ Some (Pending 1)) × (place plan_a served_a 1 ≡ None)
unfolding plan_of_rows plan_a started_a served_a answered_a
places_a = (refl, refl, refl, refl, refl)

places_1 : (place plan_a served_1 0 ≡ Some (Waiting 1 4 true)) × (place plan_a answered_1 0 ≡ Some (Pending 2)) × (place plan_a served_2 0 ≡ Some (Waiting 2 1 true)) × (place plan_a answered_2 0 ≡ Some Complete)
unfolding plan_of_rows plan_a started_a served_a answered_a served_1 answered_1 served_2 answered_2
places_1 = (refl, refl, refl, refl)

-- the number of sessions, and the session of a booking
sessions_a : (sessions [] ≡ 0) × (sessions answered_2 ≡ 1) × (holder answered_2 70 ≡ Some 0) × (holder answered_2 71 ≡ None)
unfolding started_a served_a answered_a served_1 answered_1 served_2 answered_2
sessions_a = (refl, refl, refl, refl)

-- the seats that the history gives are those that were worked with
seats_a : (seat_of answered_a 0 ≡ seat_1) × (seat_of answered_1 0 ≡ seat_2)
unfolding seat_1 seat_2 started_a served_a answered_a served_1 answered_1
seats_a = (refl, refl)

unseen_a : (seat_of started_a 0).form ≡ None
unfolding started_a
unseen_a = refl

-- a seat that waits for an answer, and one whose test is complete
waiting_a : ((seat_of served_1 0).shown ≡ 2 ∷ 4 ∷ []) × ((seat_of served_1 0).responses ≡ 1 ∷ []) × ((seat_of answered_2 0).shown ≡ 2 ∷ 4 ∷ 1 ∷ []) × (answers (seat_of answered_2 0) ≡ (2, 1) ∷ (4, 0) ∷ (1, 1) ∷ [])
unfolding started_a served_a answered_a served_1 answered_1 served_2 answered_2
waiting_a = (refl, refl, refl, refl)

-- the problems of the steps: the items given, none barred
problems_a : (seat_problem bank_a plan_a 0 (seat_of answered_a 0) 2 ≡ problem_1) × (seat_problem bank_a plan_a 0 (seat_of answered_1 0) 1 ≡ problem_2)
unfolding problem_1 problem_2 seat_1 seat_2 started_a served_a answered_a served_1 answered_1
problems_a = (refl, refl)

given_a : (problem_2.given 4 ≡ true) × (problem_2.given 1 ≡ false) × (problem_2.barred 1 ≡ false) × (problem_2.barred 600 ≡ false) × (problem_2.step ≡ 2) × (problem_2.last ≡ Some 4)
unfolding problem_2 seat_2 bank_a item_a has plan_of_rows plan_a
given_a = (refl, refl, refl, refl, refl, refl)

-- nothing counts before the end of the session, then items 1, 2 and 4 are shown, and all were
-- eligible
counts_before : (finished plan_a served_2 ≡ 0) × (counts bank_a plan_a served_2 2 ≡ record { alpha = 0; eps = 0 })
unfolding plan_of_rows plan_a started_a served_a answered_a served_1 answered_1 served_2 has bank_a item_a sevens mode_of greatest_at
counts_before = (refl, refl)

counts_behind : (finished plan_a answered_2 ≡ 1) × (counts bank_a plan_a answered_2 0 ≡ record { alpha = 0; eps = 1 }) × (counts bank_a plan_a answered_2 1 ≡ record { alpha = 1; eps = 1 }) × (counts bank_a plan_a answered_2 2 ≡ record { alpha = 1; eps = 1 }) × (counts bank_a plan_a answered_2 3 ≡ record { alpha = 0; eps = 1 }) × (counts bank_a plan_a answered_2 4 ≡ record { alpha = 1; eps = 1 }) × (counts bank_a plan_a answered_2 5 ≡ record { alpha = 0; eps = 1 }) × (counts bank_a plan_a answered_2 6 ≡ record { alpha = 0; eps = 0 })
unfolding plan_of_rows plan_a started_a served_a answered_a served_1 answered_1 served_2 answered_2 has bank_a item_a sevens mode_of greatest_at
counts_behind = (refl, refl, refl, refl, refl, refl, refl, refl)

-- ---- two sessions: the second is closed while its first item waits for an answer, and that item
-- counts as shown
unfoldable pub two_a : List Entry
two_a = Started 0 1 (one_band (one_word 63)) None ∷ Served 0 0 2 (one_word 14) true 1 ∷ Started 1 2 (one_band (one_word 63)) None ∷ Served 1 0 2 (one_word 14) true 1 ∷ Answered 0 0 1 ∷ Served 0 1 4 (one_word 22) true 1 ∷ []

unfoldable pub closed_a : List Entry
unfolding two_a
closed_a = two_a ++ Closed 1 ∷ []

places_two : (place plan_a two_a 0 ≡ Some (Waiting 1 4 true)) × (place plan_a two_a 1 ≡ Some (Waiting 0 2 true)) × (place plan_a closed_a 1 ≡ Some IsClosed) × (place plan_a closed_a 0 ≡ Some (Waiting 1 4 true)) × (holder closed_a 2 ≡ Some 1)
unfolding plan_of_rows plan_a two_a closed_a
places_two = (refl, refl, refl, refl, refl)

counts_two : (finished plan_a two_a ≡ 0) × (counts bank_a plan_a two_a 2 ≡ record { alpha = 0; eps = 0 }) × (finished plan_a closed_a ≡ 1) × (counts bank_a plan_a closed_a 2 ≡ record { alpha = 1; eps = 1 }) × (counts bank_a plan_a closed_a 4 ≡ record { alpha = 0; eps = 1 })
unfolding plan_of_rows plan_a two_a closed_a has bank_a item_a sevens mode_of greatest_at
counts_two = (refl, refl, refl, refl, refl)
