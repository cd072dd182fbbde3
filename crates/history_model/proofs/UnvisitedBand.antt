-- Three items and two bands: no session counts in the second band, since none is served an item
-- there, though two have an estimate there at their end.
use Rattle.std.proofs.Common.{◌≡◌, ℕ, Bool, false, true, List, [], ◌∷◌, ◌++◌, Some, None, refl}
use Rattle.rand_core.specs.Steps.{u32_at}
use Rattle.rand_chacha.specs.Block.{quarter_round, column_round, diagonal_round, double_rounds, block_word}
use Rattle.bank_tables.specs.Items.{has}
use Rattle.form_model.specs.Ability.{mode_of, greatest_at}
use Rattle.form_model.proofs.Computed.{one_word}
use Rattle.form_model.proofs.BankA.{item_a, plan_of_rows}
use Rattle.history_model.specs.declared.entry.Cause.TheVariants.{NoForm, Spent}
use Rattle.history_model.specs.declared.entry.Entry.{Entry}
use Rattle.history_model.specs.declared.entry.Entry.TheVariants.{Started, SetAside, Served, Answered, Closed}
use Rattle.history_model.specs.declared.place.Place.TheVariants.{Pending, Complete, Closed as IsClosed}
use Rattle.history_model.specs.Places.{place}
use Rattle.history_model.specs.Counts.{counts, band_counts, visited, finished}
use Rattle.history_model.specs.Draws.{draw_word, draw}
use Rattle.history_model.specs.SessionProblems.{band_now, is_aside_now}
use Rattle.history_model.proofs.HistoriesOfBands.{two_bands}
use Rattle.history_model.proofs.AsideInBands.{bank_three, plan_two}

-- ---- session 0 is served items 0 and 1 in the first band; its last answer moves the estimate to
-- the second
unfoldable one_session : List Entry
one_session =
    Started 0 70 (two_bands (one_word 7) (one_word 7)) None
    ∷ Served 0 0 0 (one_word 3) true 1
    ∷ Answered 0 0 0
    ∷ Served 0 1 1 (one_word 3) true 1
    ∷ Answered 0 1 1
    ∷ []

-- ---- session 1 has item 2 alone in the first band, and is closed before an item is served
unfoldable two_sessions : List Entry
unfolding one_session
two_sessions = one_session ++ Started 1 71 (two_bands (one_word 4) (one_word 7)) None ∷ Closed 1 ∷ []

-- ---- session 2 has the same items: eligibility is set aside in the first band and, after item 0,
-- in the second
unfoldable set_aside : List Entry
unfolding two_sessions one_session
set_aside =
    two_sessions
    ++ Started 2 72 (two_bands (one_word 4) (one_word 7)) None
    ∷ SetAside 2 0 0 NoForm 1
    ∷ Served 2 0 0 (one_word 3) true 1
    ∷ Answered 2 0 1
    ∷ SetAside 2 1 1 Spent 2001
    ∷ []

-- it is closed before an item is served there
unfoldable three_sessions : List Entry
unfolding set_aside two_sessions one_session
three_sessions = set_aside ++ Closed 2 ∷ []

places :
    (place plan_two three_sessions 0 ≡ Some Complete) × (place plan_two three_sessions 1 ≡ Some IsClosed)
    × (place plan_two set_aside 2 ≡ Some (Pending 1))
    × (place plan_two three_sessions 2 ≡ Some IsClosed)
unfolding plan_two plan_of_rows three_sessions set_aside two_sessions one_session
places = (refl, refl, refl, refl)

bands_now :
    (band_now bank_three plan_two one_session 0 ≡ 1) × (band_now bank_three plan_two two_sessions 1 ≡ 0)
    × (band_now bank_three plan_two set_aside 2 ≡ 1)
    × (is_aside_now bank_three plan_two set_aside 2 ≡ true)
unfolding plan_two plan_of_rows set_aside two_sessions one_session bank_three item_a mode_of greatest_at
bands_now = (refl, refl, refl, refl)

-- ---- the draws
abbrev drawn_there : List Entry → ℕ → ℕ → List Bool
drawn_there H session band =
    draw bank_three plan_two H session band 0
    ∷ draw bank_three plan_two H session band 1
    ∷ draw bank_three plan_two H session band 2
    ∷ []

draws_first : (drawn_there one_session 1 0 ≡ false ∷ false ∷ true ∷ []) × (drawn_there two_sessions 2 0 ≡ false ∷ false ∷ true ∷ [])
unfolding plan_two plan_of_rows two_sessions one_session has bank_three item_a mode_of greatest_at draw_word u32_at quarter_round column_round diagonal_round double_rounds block_word
draws_first = (refl, refl)

draws_second : (drawn_there one_session 1 1 ≡ true ∷ true ∷ true ∷ []) × (drawn_there two_sessions 2 1 ≡ true ∷ true ∷ true ∷ [])
unfolding plan_two plan_of_rows two_sessions one_session has bank_three item_a mode_of greatest_at draw_word u32_at quarter_round column_round diagonal_round double_rounds block_word
draws_second = (refl, refl)

-- ---- counts
abbrev each_item : (ℕ → ℕ) → List ℕ
each_item f = f 0 ∷ f 1 ∷ f 2 ∷ []

visits :
    (finished plan_two three_sessions ≡ 3) × (visited bank_three plan_two three_sessions 0 ≡ 3)
    × (visited bank_three plan_two three_sessions 1 ≡ 0)
unfolding plan_two plan_of_rows three_sessions set_aside two_sessions one_session bank_three item_a mode_of greatest_at
visits = (refl, refl, refl)

-- item 2 could be served in each session, the others not in session 1
counts_first :
    (each_item (λ i. (band_counts bank_three plan_two three_sessions 0 i).alpha) ≡ 2 ∷ 1 ∷ 0 ∷ [])
    × (each_item (λ i. (band_counts bank_three plan_two three_sessions 0 i).eps) ≡ 2 ∷ 2 ∷ 3 ∷ [])
unfolding plan_two plan_of_rows three_sessions set_aside two_sessions one_session bank_three item_a mode_of greatest_at has
counts_first = (refl, refl)

counts_second :
    (each_item (λ i. (band_counts bank_three plan_two three_sessions 1 i).alpha) ≡ 0 ∷ 0 ∷ 0 ∷ [])
    × (each_item (λ i. (band_counts bank_three plan_two three_sessions 1 i).eps) ≡ 0 ∷ 0 ∷ 0 ∷ [])
unfolding plan_two plan_of_rows three_sessions set_aside two_sessions one_session bank_three item_a mode_of greatest_at has
counts_second = (refl, refl)

counts_in_all :
    (each_item (λ i. (counts bank_three plan_two three_sessions i).alpha) ≡ 2 ∷ 1 ∷ 0 ∷ [])
    × (each_item (λ i. (counts bank_three plan_two three_sessions i).eps) ≡ 2 ∷ 2 ∷ 3 ∷ [])
unfolding plan_two plan_of_rows three_sessions set_aside two_sessions one_session bank_three item_a mode_of greatest_at has
counts_in_all = (refl, refl)
