-- The headline's definitions on the worked histories of bank A: seats, ends, counts, and entries
-- that may not follow.
use Rattle.std.proofs.Common.{◌≡◌, ℕ, false, true, [], ◌∷◌, ◌++◌, None, refl, arith}
use Rattle.bank_tables.specs.Items.{has}
use Rattle.form_model.specs.Ability.{mode_of, greatest_at}
use Rattle.form_model.proofs.BankA.{item_a, sevens, bank_a, plan_of_rows, plan_a}
use Rattle.form_model.proofs.Computed.{one_word}
use Rattle.serving_model.proofs.StepsOfA.{seat_1, seat_2}
use Rattle.history_model.specs.declared.entry.Bands.{Bands}
use Rattle.history_model.specs.declared.entry.Cause.{Cause}
use Rattle.history_model.specs.declared.entry.Entry.TheVariants.{SetAside}
use Rattle.history_model.proofs.HistoriesOfA.{one_band, started_a, served_a, answered_a, served_1, answered_1, served_2, answered_2, two_a, closed_a}
use Rattle.headline_model.specs.Counts.{counts_of}
use Rattle.headline_model.specs.Legal.{IsStart, IsAside, IsAnswer, IsClosing}
use Rattle.headline_model.specs.Sessions.{seat_after, is_over}

-- the seats that were worked by hand, after one answer and after two
seats : (seat_after answered_a 0 ≡ seat_1) × (seat_after answered_1 0 ≡ seat_2)
unfolding seat_1 seat_2 started_a served_a answered_a served_1 answered_1
seats = (refl, refl)

-- a session is over with its last answer, or once it is closed
ends : (is_over plan_a (seat_after answered_1 0) ≡ false) × (is_over plan_a (seat_after answered_2 0) ≡ true)
    × (is_over plan_a (seat_after two_a 1) ≡ false) × (is_over plan_a (seat_after closed_a 1) ≡ true)
unfolding plan_of_rows plan_a started_a served_a answered_a served_1 answered_1 served_2 answered_2 two_a closed_a
ends = (refl, refl, refl, refl)

-- nothing counts before the end; then the items shown and the items that were eligible
counted : (counts_of bank_a plan_a served_2 2 ≡ record { alpha = 0; eps = 0 })
    × (counts_of bank_a plan_a answered_2 0 ≡ record { alpha = 0; eps = 1 })
    × (counts_of bank_a plan_a answered_2 1 ≡ record { alpha = 1; eps = 1 })
unfolding plan_of_rows plan_a started_a served_a answered_a served_1 answered_1 served_2 answered_2 has bank_a item_a sevens mode_of greatest_at
counted = (refl, refl, refl)

-- an item that waits for its answer counts as shown once its session is closed
counted_closed : (counts_of bank_a plan_a two_a 2 ≡ record { alpha = 0; eps = 0 })
    × (counts_of bank_a plan_a closed_a 2 ≡ record { alpha = 1; eps = 1 })
unfolding plan_of_rows plan_a two_a closed_a has bank_a item_a sevens mode_of greatest_at
counted_closed = (refl, refl)

-- booking 70 has a session, and may not start another
not_twice : (eligible : Bands) → IsStart bank_a plan_a started_a 1 70 eligible None → ⊥
unfolding started_a
not_twice eligible start = start.not_booked 0 (one_band (one_word 63)) None (0, omega arith, refl)

-- a number is not skipped
not_skipped : (eligible : Bands) → IsStart bank_a plan_a started_a 2 71 eligible None → ⊥
unfolding started_a
not_skipped eligible start = let number = start.number in cc

-- a step that has no item yet is not answered, and none of a closed session
no_item_yet : (response : ℕ) → IsAnswer bank_a plan_a started_a 0 0 response → ⊥
unfolding started_a
no_item_yet response answer = let shown = answer.shown in cc

closed_is_over : (response : ℕ) → IsAnswer bank_a plan_a closed_a 1 0 response → ⊥
unfolding two_a closed_a
closed_is_over response answer = let open_yet = answer.not_closed in cc

-- a step is answered once
answered_once : (response : ℕ) → IsAnswer bank_a plan_a answered_a 0 0 response → ⊥
unfolding started_a served_a answered_a
answered_once response answer = let step = answer.step_is in cc

-- a session that is complete or closed is not closed
complete_stays : IsClosing plan_a answered_2 0 → ⊥
unfolding plan_of_rows plan_a started_a served_a answered_a served_1 answered_1 served_2 answered_2
complete_stays closing = let early = closing.not_complete in omega arith

closed_stays : IsClosing plan_a closed_a 1 → ⊥
unfolding two_a closed_a
closed_stays closing = let open_yet = closing.not_closed in cc

-- eligibility is set aside once in a band
aside_once : (cause : Cause) (nodes : ℕ) → IsAside bank_a plan_a (started_a ++ SetAside 0 0 0 cause nodes ∷ []) 0 0 0 cause nodes → ⊥
unfolding started_a
aside_once cause nodes aside = let once = aside.once in cc
