-- Three items and two bands: for the third session eligibility is set aside in the first band, and
-- at the next step, in the second band, again.
use Rattle.std.proofs.Common.{◌≡◌, ℕ, zero, suc, inl, inr, Bool, false, true, ◌&&◌, List, [], ◌∷◌, ◌++◌, pos, negsuc, None, Some, refl, sym, ap, ◌∙◌, arith}
use Rattle.std.specs.Prelude.{nat_lt}
use Rattle.std.proofs.Math.Dec.{lit≤}
use Rattle.std.proofs.lemmas.Bool.{le-ltb}
use Rattle.rand_core.specs.Steps.{u32_at}
use Rattle.rand_chacha.specs.Block.{quarter_round, column_round, diagonal_round, double_rounds, block_word}
use Rattle.bank_tables.specs.Items.{has}
use Rattle.bank_tables.specs.Tables.{Tables, size}
use Rattle.certificate_model.specs.declared.node.Node.TheVariants.{Count}
use Rattle.certificate_model.specs.declared.verdict.Verdict.TheVariants.{NoForm as NoFormVerdict}
use Rattle.form_model.specs.Plan.{Plan}
use Rattle.form_model.specs.Problem.{Problem}
use Rattle.certificate_model.specs.Counting.{is_impossible}
use Rattle.certificate_model.specs.Paths.{root}
use Rattle.certificate_model.specs.ProofTrees.{ProofTree}
use Rattle.form_model.specs.Ability.{IsPosteriorMode, mode_of, greatest_at}
use Rattle.serving_model.specs.Seats.{eight, is_available_in, seat_problem}
use Rattle.form_model.proofs.SumLaws.{either}
use Rattle.form_model.proofs.Computed.{one_word, word_below, mode_is}
use Rattle.form_model.proofs.BankA.{item_a, plan_of_rows}
use Rattle.history_model.specs.declared.entry.Cause.TheVariants.{NoForm}
use Rattle.history_model.specs.declared.entry.Entry.{Entry}
use Rattle.history_model.specs.declared.entry.Entry.TheVariants.{Started, SetAside, Served, Answered}
use Rattle.history_model.specs.declared.illegal.Illegal.TheVariants.{IsAside, NotStep, NotBand}
use Rattle.history_model.specs.declared.place.Place.TheVariants.{Pending, Complete}
use Rattle.history_model.specs.Entries.{items_in, seat_of}
use Rattle.history_model.specs.Places.{place}
use Rattle.history_model.specs.Counts.{counts, band_counts, visited, finished}
use Rattle.history_model.specs.Draws.{draw_word, draw, drawn, SameItems, AreDrawn}
use Rattle.history_model.specs.SessionProblems.{IsProblemOf, band_now, is_aside_now}
use Rattle.history_model.specs.Judging.{MayFollow}
use Rattle.history_model.specs.Reasons.{IsIllegal}
use Rattle.history_model.proofs.Bounds.{no_set}
use Rattle.history_model.proofs.HistoriesOfBands.{two_bands}

-- ---- the bank: response 1 to item 0 or 1 moves the estimate from point 0 to point 1
unfoldable pub bank_three : Tables
unfolding item_a
bank_three =
    record {
      grid = 2;
      quantities = 0;
      items =
          item_a (9 ∷ 1 ∷ []) (negsuc 0 ∷ negsuc 0 ∷ negsuc 8 ∷ negsuc 0 ∷ [])
          ∷ item_a (8 ∷ 5 ∷ []) (negsuc 0 ∷ negsuc 0 ∷ negsuc 8 ∷ negsuc 0 ∷ [])
          ∷ item_a (7 ∷ 4 ∷ []) (negsuc 0 ∷ negsuc 0 ∷ negsuc 0 ∷ negsuc 0 ∷ [])
          ∷ [];
    }

-- ---- the plan: two items; the second band begins at point 1
unfoldable pub plan_two : Plan
unfolding plan_of_rows
plan_two = record (plan_of_rows []) { length = 2; prior = pos 0 ∷ negsuc 0 ∷ []; rate = record { num = 1; den = 65535 }; bands = 1 ∷ [] }

-- ---- three sessions, whose second item is served in the second band: items 0 and 1, items 1 and
-- 2, items 0 and 1
unfoldable two_sessions : List Entry
two_sessions =
    Started 0 70 (two_bands (one_word 7) (one_word 7)) None
    ∷ Served 0 0 0 (one_word 3) true 1
    ∷ Answered 0 0 1
    ∷ Served 0 1 1 (one_word 3) true 1
    ∷ Answered 0 1 0
    ∷ Started 1 71 (two_bands (one_word 6) (one_word 5)) None
    ∷ Served 1 0 1 (one_word 6) true 1
    ∷ Answered 1 0 1
    ∷ Served 1 1 2 (one_word 6) true 1
    ∷ Answered 1 1 0
    ∷ []

unfoldable begun : List Entry
unfolding two_sessions
begun = two_sessions ++ Started 2 72 (two_bands (one_word 4) (one_word 1)) None ∷ []

unfoldable first_aside : List Entry
unfolding begun two_sessions
first_aside = begun ++ SetAside 2 0 0 NoForm 1 ∷ []

unfoldable moved : List Entry
unfolding first_aside begun two_sessions
moved = first_aside ++ Served 2 0 0 (one_word 3) true 1 ∷ Answered 2 0 1 ∷ []

unfoldable second_aside : List Entry
unfolding moved first_aside begun two_sessions
second_aside = moved ++ SetAside 2 1 1 NoForm 1 ∷ []

unfoldable three_sessions : List Entry
unfolding second_aside moved first_aside begun two_sessions
three_sessions = second_aside ++ Served 2 1 1 (one_word 3) true 1 ∷ Answered 2 1 0 ∷ []

places : (place plan_two begun 2 ≡ Some (Pending 0)) × (place plan_two first_aside 2 ≡ Some (Pending 0)) × (place plan_two moved 2 ≡ Some (Pending 1)) × (place plan_two second_aside 2 ≡ Some (Pending 1)) × (place plan_two three_sessions 2 ≡ Some Complete)
unfolding plan_two plan_of_rows three_sessions second_aside moved first_aside begun two_sessions
places = (refl, refl, refl, refl, refl)

bands_now : (band_now bank_three plan_two begun 2 ≡ 0) × (band_now bank_three plan_two first_aside 2 ≡ 0) × (band_now bank_three plan_two moved 2 ≡ 1) × (band_now bank_three plan_two second_aside 2 ≡ 1)
unfolding plan_two plan_of_rows second_aside moved first_aside begun two_sessions bank_three item_a mode_of greatest_at
bands_now = (refl, refl, refl, refl)

-- the flag of the first band doesn't set eligibility aside in the second
aside_now : (is_aside_now bank_three plan_two begun 2 ≡ false) × (is_aside_now bank_three plan_two first_aside 2 ≡ true) × (is_aside_now bank_three plan_two moved 2 ≡ false) × (is_aside_now bank_three plan_two second_aside 2 ≡ true)
unfolding plan_two plan_of_rows second_aside moved first_aside begun two_sessions bank_three item_a mode_of greatest_at
aside_now = (refl, refl, refl, refl)

-- the sets and the flags of the seat
sets : ((seat_of begun 2).eligible ≡ one_word 4 ∷ one_word 1 ∷ []) × ((seat_of begun 2).aside ≡ eight (λ _. false)) × ((seat_of moved 2).eligible ≡ one_word 4 ∷ one_word 1 ∷ [])
unfolding moved first_aside begun two_sessions
sets = (refl, refl, refl)

flags : ((seat_of moved 2).aside ≡ true ∷ false ∷ false ∷ false ∷ false ∷ false ∷ false ∷ false ∷ []) × ((seat_of second_aside 2).aside ≡ true ∷ true ∷ false ∷ false ∷ false ∷ false ∷ false ∷ false ∷ [])
unfolding second_aside moved first_aside begun two_sessions
flags = (refl, refl)

-- item 1 is available in the first band alone, until eligibility is set aside in the second
available_items : (is_available_in (seat_of begun 2) 0 1 ≡ false) × (is_available_in (seat_of moved 2) 0 1 ≡ true) × (is_available_in (seat_of moved 2) 1 1 ≡ false) × (is_available_in (seat_of second_aside 2) 1 1 ≡ true)
unfolding second_aside moved first_aside begun two_sessions has
available_items = (refl, refl, refl, refl)

-- ---- counts
abbrev each_item : (ℕ → ℕ) → List ℕ
each_item f = f 0 ∷ f 1 ∷ f 2 ∷ []

abbrev shown_there : List Entry → ℕ → List ℕ
shown_there H band = each_item (λ i. (band_counts bank_three plan_two H band i).alpha)

abbrev open_there : List Entry → ℕ → List ℕ
open_there H band = each_item (λ i. (band_counts bank_three plan_two H band i).eps)

visits_all : (finished plan_two three_sessions ≡ 3) × (visited bank_three plan_two three_sessions 0 ≡ 3) × (visited bank_three plan_two three_sessions 1 ≡ 3)
unfolding plan_two plan_of_rows three_sessions second_aside moved first_aside begun two_sessions bank_three item_a mode_of greatest_at
visits_all = (refl, refl, refl)

counts_two : (shown_there two_sessions 0 ≡ 1 ∷ 1 ∷ 0 ∷ []) × (open_there two_sessions 0 ≡ 1 ∷ 2 ∷ 2 ∷ []) × (shown_there two_sessions 1 ≡ 0 ∷ 1 ∷ 1 ∷ []) × (open_there two_sessions 1 ≡ 2 ∷ 1 ∷ 2 ∷ [])
unfolding plan_two plan_of_rows two_sessions bank_three item_a mode_of greatest_at has
counts_two = (refl, refl, refl, refl)

-- where eligibility was set aside each item counts as one that could be served
counts_three : (shown_there three_sessions 0 ≡ 2 ∷ 1 ∷ 0 ∷ []) × (open_there three_sessions 0 ≡ 2 ∷ 3 ∷ 3 ∷ []) × (shown_there three_sessions 1 ≡ 0 ∷ 2 ∷ 1 ∷ []) × (open_there three_sessions 1 ≡ 3 ∷ 2 ∷ 3 ∷ [])
unfolding plan_two plan_of_rows three_sessions second_aside moved first_aside begun two_sessions bank_three item_a mode_of greatest_at has
counts_three = (refl, refl, refl, refl)

counts_in_all : (each_item (λ i. (counts bank_three plan_two three_sessions i).alpha) ≡ 2 ∷ 3 ∷ 1 ∷ []) × (each_item (λ i. (counts bank_three plan_two three_sessions i).eps) ≡ 3 ∷ 3 ∷ 3 ∷ [])
unfolding plan_two plan_of_rows three_sessions second_aside moved first_aside begun two_sessions bank_three item_a mode_of greatest_at has
counts_in_all = (refl, refl)

-- ---- the draw of session 2: item 2 alone in the first band, item 0 alone in the second
past_three : (word k : ℕ) (t : Bool) → nat_lt word 8 ≡ true → has (one_word word) (suc (suc (suc k))) ≡ (nat_lt (suc (suc (suc k))) 3 && t)
past_three word k t small = above ∙ sym (ap (λ (s : Bool). s && t) (le-ltb (suc (suc (suc k))) 3 (omega arith)))
  where
    above : has (one_word word) (suc (suc (suc k))) ≡ false
    above = elim (either (has (one_word word) (suc (suc (suc k))))) [ inl is ↦ absurd (let w = word_below 3 word refl small (suc (suc (suc k))) is in omega arith) | inr not ↦ not ]

draw_first : SameItems (has (one_word 4)) (draw bank_three plan_two two_sessions 2 0)
unfolding plan_two plan_of_rows two_sessions bank_three item_a mode_of greatest_at has draw_word u32_at quarter_round column_round diagonal_round double_rounds block_word
draw_first zero = refl
draw_first (suc zero) = refl
draw_first (suc (suc zero)) = refl
draw_first (suc (suc (suc k))) = past_three 4 k _ refl

draw_second : SameItems (has (one_word 1)) (draw bank_three plan_two two_sessions 2 1)
unfolding plan_two plan_of_rows two_sessions bank_three item_a mode_of greatest_at has draw_word u32_at quarter_round column_round diagonal_round double_rounds block_word
draw_second zero = refl
draw_second (suc zero) = refl
draw_second (suc (suc zero)) = refl
draw_second (suc (suc (suc k))) = past_three 1 k _ refl

are_drawn : AreDrawn bank_three plan_two two_sessions 2 (two_bands (one_word 4) (one_word 1))
unfolding plan_two plan_of_rows
are_drawn = record { number = refl; each = each }
  where
    each : (band : ℕ) → SameItems (items_in (one_word 4 ∷ one_word 1 ∷ []) band) (draw bank_three plan_two two_sessions 2 band)
    each zero i = draw_first i
    each (suc zero) i = draw_second i
    each (suc (suc k)) i = no_set k i ∙ sym (ap (λ (t : Bool). t && drawn plan_two.key plan_two.rate 2 (suc (suc k)) (size bank_three) (band_counts bank_three plan_two two_sessions (suc (suc k))) i) (le-ltb (suc (suc k)) 2 (omega arith)))

may_start : MayFollow bank_three plan_two two_sessions (Started 2 72 (two_bands (one_word 4) (one_word 1)) None) None
unfolding two_sessions plan_two plan_of_rows
may_start = (record { number = record { next = refl; within = lit≤ tt }; not_booked = refl; drawn = are_drawn; listed = tt }, refl)

-- ---- one Count leaf of the length shows that no set of two is a form
unfoldable one_leaf : ProofTree
one_leaf = record { vectors = []; nodes = Count 0 ∷ [] }

-- ---- the first step, in the first band
mode_first : IsPosteriorMode bank_three plan_two.prior [] 0
unfolding bank_three item_a plan_two plan_of_rows
mode_first = mode_is bank_three plan_two.prior [] 0 refl

unfoldable problem_first : Problem
problem_first = seat_problem bank_three plan_two 2 (seat_of begun 2) 0

is_problem_first : IsProblemOf bank_three plan_two begun 2 0 problem_first
unfolding problem_first begun two_sessions plan_two plan_of_rows
is_problem_first = record { pending = refl; of_seat = record { theta = 0; mode = mode_first; is = refl } }

short_first : is_impossible problem_first (root problem_first) 0 ≡ true
unfolding problem_first begun two_sessions bank_three item_a plan_two plan_of_rows has is_impossible
short_first = refl

may_set_aside_first : MayFollow bank_three plan_two begun (SetAside 2 0 0 NoForm 1) (Some one_leaf)
unfolding one_leaf problem_first begun two_sessions plan_two plan_of_rows
may_set_aside_first =
    record { problem = problem_first; is_problem = is_problem_first; band_is = refl; not_aside = refl; shows = record { has_tree = record { number = refl; spent = tt }; verdict = NoFormVerdict; has_verdict = inl (tt, inl (short_first, refl)); asked = refl } }

-- refused: another band than that of the estimate, the step that is to come
aside_other_band : IsIllegal bank_three plan_two begun (SetAside 2 0 1 NoForm 1) (Some one_leaf) (NotBand 0)
unfolding problem_first begun two_sessions plan_two plan_of_rows
aside_other_band = (problem_first, is_problem_first, refl, refl, λ e. absurd (omega (arith, e)))

aside_other_step : IsIllegal bank_three plan_two begun (SetAside 2 1 0 NoForm 1) (Some one_leaf) (NotStep 0)
unfolding problem_first begun two_sessions plan_two plan_of_rows
aside_other_step = (problem_first, is_problem_first, refl, λ e. absurd (omega (arith, e)))

-- the same entry once more
aside_again : IsIllegal bank_three plan_two first_aside (SetAside 2 0 0 NoForm 1) (Some one_leaf) IsAside
unfolding first_aside begun two_sessions plan_two plan_of_rows
aside_again = (0, seat_problem bank_three plan_two 2 (seat_of first_aside 2) 0, record { pending = refl; of_seat = record { theta = 0; mode = mode_first; is = refl } }, refl)

-- ---- the second step, in the second band: eligibility is set aside in the first alone
mode_second : IsPosteriorMode bank_three plan_two.prior ((0, 1) ∷ []) 1
unfolding bank_three item_a plan_two plan_of_rows
mode_second = mode_is bank_three plan_two.prior ((0, 1) ∷ []) 1 refl

unfoldable problem_second : Problem
problem_second = seat_problem bank_three plan_two 2 (seat_of moved 2) 1

is_problem_second : IsProblemOf bank_three plan_two moved 2 1 problem_second
unfolding problem_second moved first_aside begun two_sessions plan_two plan_of_rows
is_problem_second = record { pending = refl; of_seat = record { theta = 1; mode = mode_second; is = refl } }

barred_second : (problem_second.given 0 ≡ true) × (problem_second.barred 0 ≡ false) × (problem_second.barred 1 ≡ true) × (problem_second.barred 2 ≡ true)
unfolding problem_second moved first_aside begun two_sessions bank_three item_a plan_two plan_of_rows has
barred_second = (refl, refl, refl, refl)

short_second : is_impossible problem_second (root problem_second) 0 ≡ true
unfolding problem_second moved first_aside begun two_sessions bank_three item_a plan_two plan_of_rows has is_impossible
short_second = refl

may_set_aside_second : MayFollow bank_three plan_two moved (SetAside 2 1 1 NoForm 1) (Some one_leaf)
unfolding one_leaf problem_second moved first_aside begun two_sessions plan_two plan_of_rows
may_set_aside_second =
    record { problem = problem_second; is_problem = is_problem_second; band_is = refl; not_aside = refl; shows = record { has_tree = record { number = refl; spent = tt }; verdict = NoFormVerdict; has_verdict = inl (tt, inl (short_second, refl)); asked = refl } }

-- refused: the band of the step before, the step before
aside_band_before : IsIllegal bank_three plan_two moved (SetAside 2 1 0 NoForm 1) (Some one_leaf) (NotBand 1)
unfolding problem_second moved first_aside begun two_sessions plan_two plan_of_rows
aside_band_before = (problem_second, is_problem_second, refl, refl, λ e. absurd (omega (arith, e)))

aside_step_before : IsIllegal bank_three plan_two moved (SetAside 2 0 1 NoForm 1) (Some one_leaf) (NotStep 1)
unfolding problem_second moved first_aside begun two_sessions plan_two plan_of_rows
aside_step_before = (problem_second, is_problem_second, refl, λ e. absurd (omega (arith, e)))

-- the same entry once more
aside_again_second : IsIllegal bank_three plan_two second_aside (SetAside 2 1 1 NoForm 1) (Some one_leaf) IsAside
unfolding second_aside moved first_aside begun two_sessions plan_two plan_of_rows
aside_again_second = (1, seat_problem bank_three plan_two 2 (seat_of second_aside 2) 1, record { pending = refl; of_seat = record { theta = 1; mode = mode_second; is = refl } }, refl)
