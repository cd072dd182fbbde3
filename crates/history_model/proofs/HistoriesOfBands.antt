-- Bank A with two bands, entry by entry: one session stays in the first band, the next moves to the
-- second, and goes on there or comes back.
use Rattle.std.proofs.Common.{◌≡◌, ℕ, zero, suc, ◌+◌, ◌*◌, ◌<◌, inl, Bool, false, true, ◌&&◌, List, [], ◌∷◌, ◌++◌, pos, None, Some, refl, sym, ap, ◌∙◌, arith}
use Rattle.std.specs.Prelude.{nat_lt}
use Rattle.std.proofs.Math.Bool.{true≢false}
use Rattle.std.proofs.Math.Dec.{lit≤}
use Rattle.std.proofs.lemmas.Bool.{le-ltb}
use Rattle.rand_core.specs.Steps.{u32_at}
use Rattle.rand_chacha.specs.Block.{quarter_round, column_round, diagonal_round, double_rounds, block_word}
use Rattle.bank_tables.specs.Items.{has}
use Rattle.bank_tables.specs.Tables.{size}
use Rattle.form_model.specs.declared.breach.Breach.TheVariants.{Barred}
use Rattle.certificate_model.specs.declared.verdict.Verdict.TheVariants.{Optimal}
use Rattle.form_model.specs.Plan.{Plan}
use Rattle.form_model.specs.Problem.{Problem}
use Rattle.form_model.specs.Forms.{Form, objective}
use Rattle.certificate_model.specs.Paths.{root}
use Rattle.certificate_model.specs.Weights.{item_weight, stimulus_weight, rows_constant}
use Rattle.certificate_model.specs.Relaxed.{link_multiplier, IsRelaxedMaximum}
use Rattle.certificate_model.specs.ClosedForm.{excess_of_items}
use Rattle.certificate_model.specs.Verdicts.{IsVerdict}
use Rattle.form_model.specs.Ability.{IsPosteriorMode, mode_of, greatest_at}
use Rattle.serving_model.specs.Serving.{IsNext}
use Rattle.serving_model.specs.Seats.{eight, seat_problem}
use Rattle.form_model.proofs.Computed.{these_below, one_word, word_below, form_is, mode_is}
use Rattle.serving_model.proofs.Computed.{next_is}
use Rattle.certificate_model.proofs.Computed.{maximum_is, at_most, names_sides}
use Rattle.form_model.proofs.BankA.{item_a, sevens, plan_of_rows, plan_a}
use Rattle.certificate_model.proofs.BankA.{one_bound}
use Rattle.serving_model.proofs.BandsOfA.{bank_bands, plan_bands}
use Rattle.history_model.specs.declared.entry.Bands.{Bands}
use Rattle.history_model.specs.declared.entry.Entry.{Entry}
use Rattle.history_model.specs.declared.entry.Entry.TheVariants.{Started, Served, Answered, Closed}
use Rattle.history_model.specs.declared.illegal.Illegal.TheVariants.{NotDrawn, NotForm}
use Rattle.history_model.specs.declared.place.Place.TheVariants.{Pending, Complete, Closed as IsClosed}
use Rattle.history_model.specs.Entries.{items_in, seat_of}
use Rattle.history_model.specs.Places.{place}
use Rattle.history_model.specs.Counts.{counts, band_counts, visited, finished}
use Rattle.history_model.specs.Draws.{draw_word, draw, drawn, SameItems, AreDrawn, other_number, other_items}
use Rattle.history_model.specs.SessionProblems.{IsProblemOf, band_now}
use Rattle.history_model.specs.Legality.{IsNextNumber}
use Rattle.history_model.specs.Judging.{MayFollow}
use Rattle.history_model.specs.Reasons.{IsIllegal}
use Rattle.history_model.proofs.HistoriesOfA.{one_band}
use Rattle.history_model.proofs.Bounds.{no_set}
use Rattle.history_model.proofs.RecordsOfA.{none_past}

-- ---- a session in 65,535 is to see an item
unfoldable pub plan_rare : Plan
unfolding plan_bands
plan_rare = record plan_bands { rate = record { num = 1; den = 65535 } }

abbrev pub two_bands : List ℕ → List ℕ → Bands
two_bands first second = record { count = 2; sets = first ∷ second ∷ [] }

-- ---- session 0 gives response 0 to items 2, 1 and 3: the estimate stays at point 1, in the first
-- band
unfoldable stayed : List Entry
stayed =
    Started 0 70 (two_bands (one_word 63) (one_word 63)) None
    ∷ Served 0 0 2 (one_word 14) true 1
    ∷ Answered 0 0 0
    ∷ Served 0 1 1 (one_word 14) true 1
    ∷ Answered 0 1 0
    ∷ Served 0 2 3 (one_word 14) true 1
    ∷ Answered 0 2 0
    ∷ []

-- session 1 hasn't items 1, 2 and 3 in the first band, and has all in the second
unfoldable begun : List Entry
unfolding stayed
begun = stayed ++ Started 1 71 (two_bands (one_word 49) (one_word 63)) None ∷ []

-- response 1 to item 5 moves its estimate to point 2, in the second band
unfoldable moved : List Entry
unfolding begun stayed
moved = begun ++ Served 1 0 5 (one_word 49) true 1 ∷ Answered 1 0 1 ∷ []

-- response 1 to item 4 leaves it there, response 0 brings it back to point 1
unfoldable went_on : List Entry
unfolding moved begun stayed
went_on = moved ++ Served 1 1 4 (one_word 50) true 1 ∷ Answered 1 1 1 ∷ []

unfoldable came_back : List Entry
unfolding moved begun stayed
came_back = moved ++ Served 1 1 4 (one_word 50) true 1 ∷ Answered 1 1 0 ∷ []

-- the session is closed while its third item, of the second band, waits for an answer
unfoldable closed : List Entry
unfolding went_on moved begun stayed
closed = went_on ++ Served 1 2 1 (one_word 50) true 1 ∷ Closed 1 ∷ []

places : (place plan_rare stayed 0 ≡ Some Complete) × (place plan_rare begun 1 ≡ Some (Pending 0)) × (place plan_rare moved 1 ≡ Some (Pending 1)) × (place plan_rare went_on 1 ≡ Some (Pending 2)) × (place plan_rare closed 1 ≡ Some IsClosed)
unfolding plan_rare plan_bands plan_of_rows plan_a stayed begun moved went_on closed
places = (refl, refl, refl, refl, refl)

-- the band of the estimate
bands_now : (band_now bank_bands plan_rare stayed 0 ≡ 0) × (band_now bank_bands plan_rare begun 1 ≡ 0) × (band_now bank_bands plan_rare moved 1 ≡ 1) × (band_now bank_bands plan_rare went_on 1 ≡ 1) × (band_now bank_bands plan_rare came_back 1 ≡ 0)
unfolding plan_rare plan_bands plan_of_rows plan_a stayed begun moved went_on came_back bank_bands item_a sevens mode_of greatest_at
bands_now = (refl, refl, refl, refl, refl)

-- the seat has the sets of both bands and no flag
seats : ((seat_of moved 1).eligible ≡ one_word 49 ∷ one_word 63 ∷ []) × ((seat_of moved 1).aside ≡ eight (λ _. false)) × ((seat_of moved 1).shown ≡ 5 ∷ []) × ((seat_of moved 1).without ≡ None) × ((seat_of moved 1).form ≡ Some (one_word 49))
unfolding stayed begun moved
seats = (refl, refl, refl, refl, refl)

-- ---- counts
-- a number for each of six items
abbrev each_item : (ℕ → ℕ) → List ℕ
each_item f = f 0 ∷ f 1 ∷ f 2 ∷ f 3 ∷ f 4 ∷ f 5 ∷ []

abbrev shown_there : List Entry → ℕ → List ℕ
shown_there H band = each_item (λ i. (band_counts bank_bands plan_rare H band i).alpha)

abbrev open_there : List Entry → ℕ → List ℕ
open_there H band = each_item (λ i. (band_counts bank_bands plan_rare H band i).eps)

-- session 0 visited the first band alone
visited_first : (finished plan_rare stayed ≡ 1) × (visited bank_bands plan_rare stayed 0 ≡ 1) × (visited bank_bands plan_rare stayed 1 ≡ 0)
unfolding plan_rare plan_bands plan_of_rows plan_a stayed bank_bands item_a sevens mode_of greatest_at
visited_first = (refl, refl, refl)

counts_first : (shown_there stayed 0 ≡ 0 ∷ 1 ∷ 1 ∷ 1 ∷ 0 ∷ 0 ∷ []) × (open_there stayed 0 ≡ 1 ∷ 1 ∷ 1 ∷ 1 ∷ 1 ∷ 1 ∷ []) × (shown_there stayed 1 ≡ each_item (λ _. 0)) × (open_there stayed 1 ≡ each_item (λ _. 0))
unfolding plan_rare plan_bands plan_of_rows plan_a stayed has bank_bands item_a sevens mode_of greatest_at
counts_first = (refl, refl, refl, refl)

-- session 1 visited both: item 5 was shown in the first, items 4 and 1 in the second
visited_both : (finished plan_rare closed ≡ 2) × (visited bank_bands plan_rare closed 0 ≡ 2) × (visited bank_bands plan_rare closed 1 ≡ 1)
unfolding plan_rare plan_bands plan_of_rows plan_a stayed begun moved went_on closed bank_bands item_a sevens mode_of greatest_at
visited_both = (refl, refl, refl)

counts_both : (shown_there closed 0 ≡ 0 ∷ 1 ∷ 1 ∷ 1 ∷ 0 ∷ 1 ∷ []) × (open_there closed 0 ≡ 2 ∷ 1 ∷ 1 ∷ 1 ∷ 2 ∷ 2 ∷ []) × (shown_there closed 1 ≡ 0 ∷ 1 ∷ 0 ∷ 0 ∷ 1 ∷ 0 ∷ []) × (open_there closed 1 ≡ 1 ∷ 1 ∷ 1 ∷ 1 ∷ 1 ∷ 1 ∷ [])
unfolding plan_rare plan_bands plan_of_rows plan_a stayed begun moved went_on closed has bank_bands item_a sevens mode_of greatest_at
counts_both = (refl, refl, refl, refl)

-- in all, item 1 was shown in two sessions, and each item could be served in both
counts_in_all : (each_item (λ i. (counts bank_bands plan_rare closed i).alpha) ≡ 0 ∷ 2 ∷ 1 ∷ 1 ∷ 1 ∷ 1 ∷ []) × (each_item (λ i. (counts bank_bands plan_rare closed i).eps) ≡ 2 ∷ 2 ∷ 2 ∷ 2 ∷ 2 ∷ 2 ∷ [])
unfolding plan_rare plan_bands plan_of_rows plan_a stayed begun moved went_on closed has bank_bands item_a sevens mode_of greatest_at
counts_in_all = (refl, refl)

-- ---- session 1 came back, and is closed while its third item, of the first band, waits for an
-- answer
unfoldable back_and_closed : List Entry
unfolding came_back moved begun stayed
back_and_closed = came_back ++ Served 1 2 0 (one_word 49) true 1 ∷ Closed 1 ∷ []

-- items 5 and 0 were shown in the first band, item 4 in the second
visited_back :
    (place plan_rare back_and_closed 1 ≡ Some IsClosed) × (finished plan_rare back_and_closed ≡ 2)
    × (visited bank_bands plan_rare back_and_closed 0 ≡ 2)
    × (visited bank_bands plan_rare back_and_closed 1 ≡ 1)
unfolding plan_rare plan_bands plan_of_rows plan_a stayed begun moved came_back back_and_closed bank_bands item_a sevens mode_of greatest_at
visited_back = (refl, refl, refl, refl)

counts_back :
    (shown_there back_and_closed 0 ≡ 1 ∷ 1 ∷ 1 ∷ 1 ∷ 0 ∷ 1 ∷ [])
    × (open_there back_and_closed 0 ≡ 2 ∷ 1 ∷ 1 ∷ 1 ∷ 2 ∷ 2 ∷ [])
    × (shown_there back_and_closed 1 ≡ 0 ∷ 0 ∷ 0 ∷ 0 ∷ 1 ∷ 0 ∷ [])
    × (open_there back_and_closed 1 ≡ each_item (λ _. 1))
unfolding plan_rare plan_bands plan_of_rows plan_a stayed begun moved came_back back_and_closed has bank_bands item_a sevens mode_of greatest_at
counts_back = (refl, refl, refl, refl)

-- in all, each item was shown in one session and could be served in both
counts_back_in_all :
    (each_item (λ i. (counts bank_bands plan_rare back_and_closed i).alpha) ≡ each_item (λ _. 1))
    × (each_item (λ i. (counts bank_bands plan_rare back_and_closed i).eps) ≡ each_item (λ _. 2))
unfolding plan_rare plan_bands plan_of_rows plan_a stayed begun moved came_back back_and_closed has bank_bands item_a sevens mode_of greatest_at
counts_back_in_all = (refl, refl)

-- ---- the draw of session 1
past_six : (word k : ℕ) (t : Bool) → nat_lt word 64 ≡ true → has (one_word word) (suc (suc (suc (suc (suc (suc k)))))) ≡ (nat_lt (suc (suc (suc (suc (suc (suc k)))))) 6 && t)
past_six word k t small = none_past word (suc (suc (suc (suc (suc (suc k)))))) small (λ w. omega arith) ∙ sym (ap (λ (s : Bool). s && t) (le-ltb (suc (suc (suc (suc (suc (suc k)))))) 6 (omega arith)))

draw_first : SameItems (has (one_word 49)) (draw bank_bands plan_rare stayed 1 0)
unfolding plan_rare plan_bands plan_of_rows plan_a stayed has bank_bands item_a sevens mode_of greatest_at draw_word u32_at quarter_round column_round diagonal_round double_rounds block_word
draw_first zero = refl
draw_first (suc zero) = refl
draw_first (suc (suc zero)) = refl
draw_first (suc (suc (suc zero))) = refl
draw_first (suc (suc (suc (suc zero)))) = refl
draw_first (suc (suc (suc (suc (suc zero))))) = refl
draw_first (suc (suc (suc (suc (suc (suc k)))))) = past_six 49 k _ refl

draw_second : SameItems (has (one_word 63)) (draw bank_bands plan_rare stayed 1 1)
unfolding plan_rare plan_bands plan_of_rows plan_a stayed has bank_bands item_a sevens mode_of greatest_at
draw_second zero = refl
draw_second (suc zero) = refl
draw_second (suc (suc zero)) = refl
draw_second (suc (suc (suc zero))) = refl
draw_second (suc (suc (suc (suc zero)))) = refl
draw_second (suc (suc (suc (suc (suc zero))))) = refl
draw_second (suc (suc (suc (suc (suc (suc k)))))) = past_six 63 k _ refl

-- a band past the second has no set and no draw
no_third : (k : ℕ) → SameItems (items_in [] k) (draw bank_bands plan_rare stayed 1 (suc (suc k)))
unfolding plan_rare plan_bands plan_of_rows plan_a
no_third k i =
    no_set k i ∙ sym (ap (λ (t : Bool). t && drawn plan_rare.key plan_rare.rate 1 (suc (suc k)) (size bank_bands) (band_counts bank_bands plan_rare stayed (suc (suc k))) i) (le-ltb (suc (suc k)) 2 (omega arith)))

are_drawn : AreDrawn bank_bands plan_rare stayed 1 (two_bands (one_word 49) (one_word 63))
unfolding plan_rare plan_bands plan_of_rows plan_a
are_drawn = record { number = refl; each = each }
  where
    each : (band : ℕ) → SameItems (items_in (one_word 49 ∷ one_word 63 ∷ []) band) (draw bank_bands plan_rare stayed 1 band)
    each zero i = draw_first i
    each (suc zero) i = draw_second i
    each (suc (suc k)) i = no_third k i

next_number : IsNextNumber plan_rare stayed 1
unfolding stayed plan_rare plan_bands plan_of_rows plan_a
next_number = record { next = refl; within = lit≤ tt }

may_start : MayFollow bank_bands plan_rare stayed (Started 1 71 (two_bands (one_word 49) (one_word 63)) None) None
unfolding stayed
may_start = (record { number = next_number; not_booked = refl; drawn = are_drawn; listed = tt }, refl)

-- refused: all items in the first band, item 0 missing in the second, one set alone
start_all : IsIllegal bank_bands plan_rare stayed (Started 1 71 (two_bands (one_word 63) (one_word 63)) None) None (NotDrawn 1)
unfolding plan_rare plan_bands plan_of_rows plan_a stayed has bank_bands item_a sevens mode_of greatest_at draw_word u32_at quarter_round column_round diagonal_round double_rounds block_word
start_all = (next_number, refl, other_items 1 refl (record { band = 0; differs = λ e. true≢false e; before = before }))
  where
    before : (other i : ℕ) → i < 1 → items_in (one_word 63 ∷ one_word 63 ∷ []) other i ≡ draw bank_bands plan_rare stayed 1 other i
    before zero zero w = refl
    before (suc zero) zero w = draw_second 0
    before (suc (suc k)) zero w = no_third k 0
    before other (suc i) w = absurd (omega arith)

start_second : IsIllegal bank_bands plan_rare stayed (Started 1 71 (two_bands (one_word 49) (one_word 62)) None) None (NotDrawn 0)
unfolding plan_rare plan_bands plan_of_rows plan_a stayed has bank_bands item_a sevens mode_of greatest_at
start_second = (next_number, refl, other_items 0 refl (record { band = 1; differs = λ e. true≢false (sym e); before = λ other i w. absurd (omega arith) }))

start_one_set : IsIllegal bank_bands plan_rare stayed (Started 1 71 (one_band (one_word 49)) None) None (NotDrawn 0)
unfolding stayed plan_rare plan_bands plan_of_rows plan_a
start_one_set = (next_number, refl, other_number (λ e. absurd (omega (arith, e))))

-- ---- the third item in the second band: nothing is barred, and item 1 follows from the form of
-- items 1, 4 and 5
mode_on : IsPosteriorMode bank_bands plan_rare.prior ((5, 1) ∷ (4, 1) ∷ []) 2
unfolding bank_bands plan_rare plan_bands plan_a plan_of_rows item_a sevens
mode_on = mode_is bank_bands plan_rare.prior ((5, 1) ∷ (4, 1) ∷ []) 2 refl

unfoldable problem_on : Problem
problem_on = seat_problem bank_bands plan_rare 1 (seat_of went_on 1) 2

is_problem_on : IsProblemOf bank_bands plan_rare went_on 1 2 problem_on
unfolding problem_on went_on moved begun stayed plan_rare plan_bands plan_of_rows plan_a
is_problem_on = record { pending = refl; of_seat = record { theta = 2; mode = mode_on; is = refl } }

form_on : Form problem_on (has (one_word 50))
unfolding problem_on went_on moved begun stayed bank_bands item_a plan_rare plan_bands plan_of_rows plan_a has
form_on = form_is problem_on (has (one_word 50)) (word_below 6 50 refl refl) (these_below 6 (5 ∷ 4 ∷ []) refl) refl

next_on : IsNext problem_on (has (one_word 50)) 1
unfolding problem_on went_on moved begun stayed bank_bands item_a has
next_on = next_is problem_on (has (one_word 50)) 1 (word_below 6 50 refl refl) refl

-- side 0, the lower one of the row on items 0 and 1, by 6 times 256 brings item 1 to the weight of
-- item 3
maximum_on : IsRelaxedMaximum problem_on (root problem_on) ((0, 1536) ∷ []) false (pos 4096)
unfolding problem_on went_on moved begun stayed bank_bands item_a plan_rare plan_bands plan_of_rows plan_a has item_weight stimulus_weight rows_constant link_multiplier excess_of_items
maximum_on = maximum_is problem_on (root problem_on) ((0, 1536) ∷ []) false (has (one_word 2)) (pos 2048) (pos 4096) (word_below 6 2 refl refl) refl refl

optimal_on : IsVerdict problem_on (Some (has (one_word 50))) (one_bound ((0, 1536) ∷ [])) Optimal
unfolding one_bound problem_on went_on moved begun stayed bank_bands item_a plan_rare plan_bands plan_of_rows plan_a has
optimal_on = inl (form_on, inl ((lit≤ tt, names_sides problem_on ((0, 1536) ∷ []) refl, at_most problem_on (root problem_on) ((0, 1536) ∷ []) false (pos 4096) (pos (256 * objective problem_on (has (one_word 50)) + 255)) maximum_on refl), refl))

may_serve_on : MayFollow bank_bands plan_rare went_on (Served 1 2 1 (one_word 50) true 1) (Some (one_bound ((0, 1536) ∷ [])))
unfolding one_bound
may_serve_on = record { problem = problem_on; is_problem = is_problem_on; is_form = form_on; next = next_on; shows = record { has_tree = record { number = refl; spent = tt }; verdict = Optimal; has_verdict = optimal_on; asked = refl } }

-- ---- back in the first band items 1, 2 and 3 are barred, and item 0 follows from the form of
-- items 0, 4 and 5
mode_back : IsPosteriorMode bank_bands plan_rare.prior ((5, 1) ∷ (4, 0) ∷ []) 1
unfolding bank_bands plan_rare plan_bands plan_a plan_of_rows item_a sevens
mode_back = mode_is bank_bands plan_rare.prior ((5, 1) ∷ (4, 0) ∷ []) 1 refl

unfoldable problem_back : Problem
problem_back = seat_problem bank_bands plan_rare 1 (seat_of came_back 1) 1

is_problem_back : IsProblemOf bank_bands plan_rare came_back 1 2 problem_back
unfolding problem_back came_back moved begun stayed plan_rare plan_bands plan_of_rows plan_a
is_problem_back = record { pending = refl; of_seat = record { theta = 1; mode = mode_back; is = refl } }

barred_back : (problem_back.barred 0 ≡ false) × (problem_back.barred 1 ≡ true) × (problem_back.barred 2 ≡ true) × (problem_back.barred 3 ≡ true) × (problem_back.barred 4 ≡ false) × (problem_back.barred 5 ≡ false)
unfolding problem_back came_back moved begun stayed bank_bands item_a plan_rare plan_bands plan_of_rows plan_a has
barred_back = (refl, refl, refl, refl, refl, refl)

form_back : Form problem_back (has (one_word 49))
unfolding problem_back came_back moved begun stayed bank_bands item_a plan_rare plan_bands plan_of_rows plan_a has
form_back = form_is problem_back (has (one_word 49)) (word_below 6 49 refl refl) (these_below 6 (5 ∷ 4 ∷ []) refl) refl

next_back : IsNext problem_back (has (one_word 49)) 0
unfolding problem_back came_back moved begun stayed bank_bands item_a has
next_back = next_is problem_back (has (one_word 49)) 0 (word_below 6 49 refl refl) refl

-- the plain bound is enough: item 0 alone is left
maximum_back : IsRelaxedMaximum problem_back (root problem_back) [] false (pos 4096)
unfolding problem_back came_back moved begun stayed bank_bands item_a plan_rare plan_bands plan_of_rows plan_a has item_weight stimulus_weight rows_constant link_multiplier excess_of_items
maximum_back = maximum_is problem_back (root problem_back) [] false (has (one_word 1)) (pos 1280) (pos 4096) (word_below 6 1 refl refl) refl refl

optimal_back : IsVerdict problem_back (Some (has (one_word 49))) (one_bound []) Optimal
unfolding one_bound problem_back came_back moved begun stayed bank_bands item_a plan_rare plan_bands plan_of_rows plan_a has
optimal_back = inl (form_back, inl ((lit≤ tt, names_sides problem_back [] refl, at_most problem_back (root problem_back) [] false (pos 4096) (pos (256 * objective problem_back (has (one_word 49)) + 255)) maximum_back refl), refl))

may_serve_back : MayFollow bank_bands plan_rare came_back (Served 1 2 0 (one_word 49) true 1) (Some (one_bound []))
unfolding one_bound
may_serve_back = record { problem = problem_back; is_problem = is_problem_back; is_form = form_back; next = next_back; shows = record { has_tree = record { number = refl; spent = tt }; verdict = Optimal; has_verdict = optimal_back; asked = refl } }

-- the form with item 1, of the second band, is none here
serve_barred : IsIllegal bank_bands plan_rare came_back (Served 1 2 1 (one_word 50) true 1) (Some (one_bound ((0, 1536) ∷ []))) (NotForm (Barred 1))
unfolding problem_on problem_back went_on came_back moved begun stayed bank_bands item_a plan_rare plan_bands plan_of_rows plan_a has
serve_barred = (problem_back, is_problem_back, (form_on.meets, form_on.holds_given, before, refl, refl))
  where
    before : (j : ℕ) → j < 1 → problem_back.barred j ≡ true → has (one_word 50) j ≡ false
    before zero w barred = refl
    before (suc j) w barred = absurd (omega arith)
