-- The edges of the definitions: histories that aren't legal, sessions set aside and closed, items
-- of stimuli that were left.
use Rattle.std.proofs.Common.{◌≡◌, ℕ, false, true, List, [], ◌∷◌, ◌++◌, negsuc, None, Some, refl}
use Rattle.bank_tables.specs.Items.{has}
use Rattle.bank_tables.specs.Tables.{Tables, Item}
use Rattle.form_model.specs.Ability.{mode_of, greatest_at}
use Rattle.serving_model.specs.Seats.{eight, is_barred, is_unavailable_in, is_aside_in}
use Rattle.form_model.proofs.Computed.{one_word}
use Rattle.form_model.proofs.BankA.{item_a, sevens, bank_a, plan_of_rows, plan_a}
use Rattle.serving_model.proofs.WithheldOfA.{seat_without_2}
use Rattle.history_model.proofs.HistoriesOfA.{one_band}
use Rattle.history_model.specs.declared.entry.Cause.TheVariants.{NoForm, Spent}
use Rattle.history_model.specs.declared.entry.Entry.{Entry}
use Rattle.history_model.specs.declared.entry.Entry.TheVariants.{Started, SetAside, Served, Answered, Closed}
use Rattle.history_model.specs.declared.place.Place.TheVariants.{Pending, Waiting, Complete, Closed as IsClosed}
use Rattle.history_model.specs.Entries.{sessions, holder, seat_of}
use Rattle.history_model.specs.Places.{place, is_finished}
use Rattle.history_model.specs.Counts.{opens_in, counts, finished}

-- a Served entry of step 1 isn't one of step 0
gap : List Entry
gap = Started 0 70 (one_band (one_word 63)) None ∷ Served 0 1 2 (one_word 14) true 1 ∷ []

place_gap : (place plan_a gap 0 ≡ Some (Pending 0)) × (place plan_a (gap ++ Answered 0 0 1 ∷ []) 0 ≡ Some (Waiting 1 2 true))
unfolding plan_of_rows plan_a gap
place_gap = (refl, refl)

-- a test with more answers than items is complete
beyond_end : List Entry
beyond_end = Started 0 70 (one_band (one_word 63)) None ∷ Answered 0 0 1 ∷ Answered 0 1 1 ∷ Answered 0 2 1 ∷ Answered 0 3 1 ∷ []

place_beyond : place plan_a beyond_end 0 ≡ Some Complete
unfolding plan_of_rows plan_a beyond_end
place_beyond = refl

-- a session closed at its end is closed; one that isn't started has no place, whatever other
-- entries it has
both_ends : List Entry
unfolding beyond_end
both_ends = beyond_end ++ Closed 0 ∷ Served 1 0 2 (one_word 14) true 1 ∷ Closed 1 ∷ []

place_both : (place plan_a both_ends 0 ≡ Some IsClosed) × (place plan_a both_ends 1 ≡ None) × (is_finished plan_a both_ends 0 ≡ true) × (is_finished plan_a both_ends 1 ≡ false) × (finished plan_a both_ends ≡ 1)
unfolding plan_of_rows plan_a beyond_end both_ends
place_both = (refl, refl, refl, refl, refl)

-- a booking is that of its first Started entry
twice : List Entry
twice = Started 0 70 (one_band (one_word 63)) None ∷ Started 1 70 (one_band (one_word 1)) None ∷ []

holder_twice : (holder twice 70 ≡ Some 0) × (sessions twice ≡ 2) × ((seat_of twice 1).eligible ≡ one_word 1 ∷ [])
unfolding twice
holder_twice = (refl, refl, refl)

-- ---- counts: session 0 complete, session 1 set aside and closed while it waits, session 2 open
unfoldable pub complete_0 : List Entry
complete_0 = Started 0 70 (one_band (one_word 31)) None ∷ Served 0 0 0 (one_word 11) true 1 ∷ Answered 0 0 1 ∷ Served 0 1 3 (one_word 11) true 1 ∷ Answered 0 1 0 ∷ Served 0 2 4 (one_word 25) true 1 ∷ Answered 0 2 0 ∷ []

unfoldable pub three : List Entry
unfolding complete_0
three = complete_0 ++ Started 1 71 (one_band (one_word 1)) None ∷ SetAside 1 0 0 NoForm 1 ∷ Served 1 0 0 (one_word 11) false 1 ∷ Closed 1 ∷ Started 2 72 (one_band (one_word 63)) None ∷ Served 2 0 0 (one_word 11) true 1 ∷ []

places_three : (place plan_a three 0 ≡ Some Complete) × (place plan_a three 1 ≡ Some IsClosed) × (place plan_a three 2 ≡ Some (Waiting 0 0 true)) × (sessions three ≡ 3) × (finished plan_a three ≡ 2)
unfolding plan_of_rows plan_a complete_0 three
places_three = (refl, refl, refl, refl, refl)

-- item 5 wasn't eligible for session 0, and was set aside in session 1; items 0 and 4 were shown in
-- two and in one
counts_three : (counts bank_a plan_a three 0 ≡ record { alpha = 2; eps = 2 }) × (counts bank_a plan_a three 4 ≡ record { alpha = 1; eps = 2 }) × (counts bank_a plan_a three 5 ≡ record { alpha = 0; eps = 1 })
unfolding plan_of_rows plan_a complete_0 three has bank_a item_a sevens mode_of greatest_at
counts_three = (refl, refl, refl)

seat_three : (is_aside_in (seat_of three 1) 0 ≡ true) × ((seat_of three 1).proved ≡ false) × ((seat_of three 1).closed ≡ true) × (is_aside_in (seat_of three 0) 0 ≡ false) × ((seat_of three 0).form ≡ Some (one_word 25))
unfolding complete_0 three
seat_three = (refl, refl, refl, refl, refl)

-- ---- the bar: items 0, 1 and 2 are of stimulus 1, items 3 and 4 of none, item 5 of stimulus 2;
-- all but item 4 are eligible
item_b : ℕ → Item
item_b stimulus = record { stimulus = stimulus; categories = 2; quantities = []; info = 1 ∷ []; loglik = negsuc 0 ∷ negsuc 0 ∷ [] }

bank_b : Tables
unfolding item_b
bank_b = record { grid = 1; quantities = 0; items = item_b 1 ∷ item_b 1 ∷ item_b 1 ∷ item_b 0 ∷ item_b 0 ∷ item_b 2 ∷ [] }

entered : List Entry
entered = Started 0 70 (one_band (one_word 47)) None ∷ Served 0 0 0 (one_word 11) true 1 ∷ Answered 0 0 1 ∷ []

left_behind : List Entry
unfolding entered
left_behind = entered ++ Served 0 1 3 (one_word 11) true 1 ∷ Answered 0 1 0 ∷ []

barred_b : (is_barred bank_b (seat_of entered 0) (is_unavailable_in (seat_of entered 0) 0) 1 ≡ false) × (is_barred bank_b (seat_of entered 0) (is_unavailable_in (seat_of entered 0) 0) 4 ≡ true) × (is_barred bank_b (seat_of left_behind 0) (is_unavailable_in (seat_of left_behind 0) 0) 1 ≡ true) × (is_barred bank_b (seat_of left_behind 0) (is_unavailable_in (seat_of left_behind 0) 0) 2 ≡ true) × (is_barred bank_b (seat_of left_behind 0) (is_unavailable_in (seat_of left_behind 0) 0) 0 ≡ false) × (is_barred bank_b (seat_of left_behind 0) (is_unavailable_in (seat_of left_behind 0) 0) 3 ≡ false) × (is_barred bank_b (seat_of left_behind 0) (is_unavailable_in (seat_of left_behind 0) 0) 5 ≡ false) × (is_barred bank_b (seat_of left_behind 0) (is_unavailable_in (seat_of left_behind 0) 0) 600 ≡ false)
unfolding bank_b item_b entered left_behind has
barred_b = (refl, refl, refl, refl, refl, refl, refl, refl)

-- set aside, item 4 isn't barred
barred_aside : is_barred bank_b (seat_of (entered ++ SetAside 0 0 0 Spent 1 ∷ []) 0) (is_unavailable_in (seat_of (entered ++ SetAside 0 0 0 Spent 1 ∷ []) 0) 0) 4 ≡ false
unfolding bank_b item_b entered has
barred_aside = refl

-- an item that is withheld could be served in no band, also where eligibility is set aside
opens_withheld :
    (opens_in bank_a plan_a 0 2 (seat_without_2 (eight (λ _. true))) ≡ false)
    × (opens_in bank_a plan_a 0 1 (seat_without_2 (eight (λ _. true))) ≡ true)
unfolding bank_a item_a sevens plan_of_rows plan_a seat_without_2 has mode_of greatest_at
opens_withheld = (refl, refl)
