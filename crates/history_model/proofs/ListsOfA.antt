-- A session on bank A whose examinee must not get item 2: its start, its first item, its counts.
use Rattle.std.proofs.Common.{◌≡◌, ℕ, zero, suc, ◌+◌, ◌*◌, ◌<◌, inl, true, false, List, [], ◌∷◌, ◌++◌, pos, Option, None, Some, refl, sym, arith}
use Rattle.std.proofs.Math.Bool.{true≢false}
use Rattle.std.proofs.Math.Dec.{lit≤}
use Rattle.bank_tables.specs.Items.{has}
use Rattle.certificate_model.specs.declared.verdict.Verdict.TheVariants.{Optimal}
use Rattle.form_model.specs.declared.breach.Breach.TheVariants.{Barred}
use Rattle.form_model.specs.Ability.{mode_of, greatest_at}
use Rattle.form_model.specs.Problem.{Problem, whole}
use Rattle.form_model.specs.Forms.{Form, objective}
use Rattle.certificate_model.specs.Paths.{root}
use Rattle.certificate_model.specs.Weights.{item_weight, stimulus_weight, rows_constant}
use Rattle.certificate_model.specs.Relaxed.{link_multiplier, IsRelaxedMaximum}
use Rattle.certificate_model.specs.ClosedForm.{excess_of_items}
use Rattle.certificate_model.specs.Verdicts.{IsVerdict}
use Rattle.serving_model.specs.Serving.{IsNext}
use Rattle.serving_model.specs.Seats.{seat_problem}
use Rattle.form_model.proofs.Computed.{one_word, word_below, form_is}
use Rattle.serving_model.proofs.Computed.{next_is}
use Rattle.certificate_model.proofs.Computed.{maximum_is, at_most, names_sides}
use Rattle.form_model.proofs.BankA.{item_a, sevens, bank_a, plan_of_rows, plan_a}
use Rattle.certificate_model.proofs.BankA.{one_bound}
use Rattle.history_model.specs.declared.entry.Entry.{Entry}
use Rattle.history_model.specs.declared.entry.Entry.TheVariants.{Started, Served, Closed}
use Rattle.history_model.specs.declared.entry.Without.{Without}
use Rattle.history_model.specs.declared.illegal.Illegal.TheVariants.{NoItem, NotWithout, NotForm, NotSpent}
use Rattle.history_model.specs.Counts.{counts, finished}
use Rattle.history_model.specs.Entries.{seat_of, list_of}
use Rattle.history_model.specs.Judging.{MayServe, MayFollow}
use Rattle.history_model.specs.Lists.{IsListFor, IsWholeWithout}
use Rattle.history_model.specs.Reasons.{IsIllegal}
use Rattle.history_model.specs.SessionProblems.{IsProblemOf}
use Rattle.history_model.proofs.HistoriesOfA.{one_band, started_a, served_a}
use Rattle.history_model.proofs.RecordsOfA.{mode_0}
use Rattle.history_model.proofs.ReasonsOfA.{one_leaf, next_number, draw_1}

-- a list of some items, with a form
abbrev list_with : ℕ → ℕ → Option Without
list_with items form = Some (record { items = one_word items; form = one_word form })

abbrev start_with : ℕ → ℕ → Entry
start_with items form = Started 1 71 (one_band (one_word 63)) (list_with items form)

-- ---- the whole problem without item 2 has the form of items 1, 3 and 5
whole_without : ℕ → Problem
whole_without items = record (whole bank_a plan_a 1) { barred = has (one_word items) }

is_whole : (items : ℕ) → IsWholeWithout bank_a plan_a (has (one_word items)) (whole_without items)
unfolding whole_without
is_whole items = record { theta = 1; mode = mode_0; is = refl }

form_without : Form (whole_without 4) (has (one_word 42))
unfolding whole_without bank_a item_a plan_of_rows plan_a has
form_without = form_is (whole_without 4) (has (one_word 42)) (word_below 6 42 refl refl) (λ i e. absurd (true≢false (sym e))) refl

item_2 : IsListFor bank_a (has (one_word 4))
unfolding has bank_a item_a
item_2 = record { item = 2; listed = refl; of_bank = word_below 6 4 refl refl }

-- so a session without item 2 may start
may_start_listed : MayFollow bank_a plan_a served_a (start_with 4 42) None
unfolding started_a served_a
may_start_listed = (
  record {
    number = next_number;
    not_booked = refl;
    drawn = draw_1;
    listed = record { items = item_2; witness = record { problem = whole_without 4; is_whole = is_whole 4; form = form_without } };
  },
  refl,
)

-- not with a tree, nor with the form of items 1, 2 and 3
listed_with_tree : IsIllegal bank_a plan_a served_a (start_with 4 42) (Some one_leaf) (NotSpent 0)
unfolding started_a served_a
listed_with_tree = (next_number, refl, draw_1, may_start_listed.0.listed, λ e. cc, refl)

form_123 : Form (whole bank_a plan_a 1) (has (one_word 14))
unfolding bank_a item_a plan_of_rows plan_a has
form_123 = form_is (whole bank_a plan_a 1) (has (one_word 14)) (word_below 6 14 refl refl) (λ i e. absurd (true≢false (sym e))) refl

listed_with_item : IsIllegal bank_a plan_a served_a (start_with 4 14) None (NotWithout (Barred 2))
unfolding started_a served_a whole_without has
listed_with_item = (next_number, refl, draw_1, record { items = item_2; problem = whole_without 4; is_whole = is_whole 4; breaches = (form_123.meets, form_123.holds_given, before, refl, refl) })
  where
    before : (j : ℕ) → j < 2 → has (one_word 4) j ≡ true → has (one_word 14) j ≡ false
    before zero w e = absurd (true≢false (sym e))
    before (suc zero) w e = absurd (true≢false (sym e))
    before (suc (suc j)) w e = absurd (omega arith)

-- an item beyond the bank, and no item
listed_beyond : IsIllegal bank_a plan_a served_a (start_with 64 42) None (NoItem 6)
unfolding started_a served_a has bank_a item_a
listed_beyond = (next_number, refl, draw_1, λ list. absurd (let w = list.of_bank 6 refl in omega arith), refl)

listed_nothing : IsIllegal bank_a plan_a served_a (start_with 0 42) None (NoItem 6)
unfolding started_a served_a bank_a item_a
listed_nothing = (next_number, refl, draw_1, λ list. absurd (let w = word_below 0 0 refl refl list.item list.listed in omega arith), refl)

-- ---- its first item
unfoldable listed_a : List Entry
unfolding served_a started_a
listed_a = served_a ++ start_with 4 42 ∷ []

unfoldable shown_a : List Entry
unfolding listed_a served_a started_a
shown_a = listed_a ++ Served 1 0 1 (one_word 42) true 1 ∷ []

unfoldable ended_a : List Entry
unfolding shown_a listed_a served_a started_a
ended_a = shown_a ++ Closed 1 ∷ []

seats_listed : ((seat_of listed_a 1).without ≡ Some (one_word 4)) × ((seat_of listed_a 1).form ≡ Some (one_word 42)) × ((seat_of listed_a 0).without ≡ None) × (list_of ended_a 1 ≡ list_with 4 42) × (list_of ended_a 0 ≡ None)
unfolding started_a served_a listed_a shown_a ended_a
seats_listed = (refl, refl, refl, refl, refl)

-- item 2 alone is barred, and items 1, 3 and 5 are best
unfoldable problem_listed : Problem
problem_listed = seat_problem bank_a plan_a 1 (seat_of listed_a 1) 1

is_problem_listed : IsProblemOf bank_a plan_a listed_a 1 0 problem_listed
unfolding problem_listed listed_a served_a started_a plan_of_rows plan_a
is_problem_listed = record { pending = refl; of_seat = record { theta = 1; mode = mode_0; is = refl } }

barred_listed : (problem_listed.barred 0 ≡ false) × (problem_listed.barred 1 ≡ false) × (problem_listed.barred 2 ≡ true) × (problem_listed.barred 3 ≡ false) × (problem_listed.barred 4 ≡ false) × (problem_listed.barred 5 ≡ false)
unfolding problem_listed listed_a served_a started_a bank_a item_a plan_of_rows plan_a has
barred_listed = (refl, refl, refl, refl, refl, refl)

form_listed : Form problem_listed (has (one_word 42))
unfolding problem_listed listed_a served_a started_a bank_a item_a plan_of_rows plan_a has
form_listed = form_is problem_listed (has (one_word 42)) (word_below 6 42 refl refl) (λ i e. absurd (true≢false (sym e))) refl

worth_listed : objective problem_listed (has (one_word 42)) ≡ 21
unfolding problem_listed listed_a served_a started_a bank_a item_a plan_of_rows plan_a has
worth_listed = refl

next_listed : IsNext problem_listed (has (one_word 42)) 1
unfolding problem_listed listed_a served_a started_a bank_a item_a has
next_listed = next_is problem_listed (has (one_word 42)) 1 (word_below 6 42 refl refl) refl

maximum_listed : IsRelaxedMaximum problem_listed (root problem_listed) [] false (pos 5376)
unfolding problem_listed listed_a served_a started_a bank_a item_a plan_of_rows plan_a has item_weight stimulus_weight rows_constant link_multiplier excess_of_items
maximum_listed = maximum_is problem_listed (root problem_listed) [] false (has (one_word 42)) (pos 1536) (pos 5376) (word_below 6 42 refl refl) refl refl

optimal_listed : IsVerdict problem_listed (Some (has (one_word 42))) (one_bound []) Optimal
unfolding one_bound problem_listed listed_a served_a started_a bank_a item_a plan_of_rows plan_a has
optimal_listed = inl (form_listed, inl ((lit≤ tt, names_sides problem_listed [] refl, at_most problem_listed (root problem_listed) [] false (pos 5376) (pos (256 * objective problem_listed (has (one_word 42)) + 255)) maximum_listed refl), refl))

may_serve_listed : MayServe bank_a plan_a listed_a 1 0 1 (has (one_word 42)) true 1 (Some (one_bound []))
unfolding one_bound
may_serve_listed = record { problem = problem_listed; is_problem = is_problem_listed; is_form = form_listed; next = next_listed; shows = record { has_tree = record { number = refl; spent = tt }; verdict = Optimal; has_verdict = optimal_listed; asked = refl } }

-- the form that session 0 is served from has item 2, and is none here
serve_listed : IsIllegal bank_a plan_a listed_a (Served 1 0 2 (one_word 14) true 1) (Some (one_bound [])) (NotForm (Barred 2))
unfolding problem_listed listed_a served_a started_a bank_a item_a plan_of_rows plan_a has
serve_listed = (problem_listed, is_problem_listed, (form_123.meets, λ i given. absurd (true≢false (sym given)), before, refl, refl))
  where
    before : (j : ℕ) → j < 2 → problem_listed.barred j ≡ true → has (one_word 14) j ≡ false
    before zero w e = refl
    before (suc zero) w e = absurd (true≢false (sym e))
    before (suc (suc j)) w e = absurd (omega arith)

-- ---- once session 1 is closed, item 1 was shown in it, and each item but item 2 was eligible
counts_listed : (finished plan_a ended_a ≡ 1) × (counts bank_a plan_a ended_a 0 ≡ record { alpha = 0; eps = 1 }) × (counts bank_a plan_a ended_a 1 ≡ record { alpha = 1; eps = 1 }) × (counts bank_a plan_a ended_a 2 ≡ record { alpha = 0; eps = 0 }) × (counts bank_a plan_a ended_a 3 ≡ record { alpha = 0; eps = 1 }) × (counts bank_a plan_a ended_a 4 ≡ record { alpha = 0; eps = 1 }) × (counts bank_a plan_a ended_a 5 ≡ record { alpha = 0; eps = 1 })
unfolding plan_of_rows plan_a started_a served_a listed_a shown_a ended_a has bank_a item_a sevens mode_of greatest_at
counts_listed = (refl, refl, refl, refl, refl, refl, refl)
