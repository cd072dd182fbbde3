-- The test on bank A as records with their proof trees: each may follow those before it, so the run
-- is legal, and the items shown in it meet the plan.
use Rattle.std.proofs.Common.{◌≡◌, ℕ, zero, suc, ◌+◌, ◌*◌, ◌<◌, inl, inr, Bool, true, false, not, ◌&&◌, List, [], ◌∷◌, ◌++◌, pos, None, Some, refl, sym, ap, ◌∙◌, subst, arith}
use Rattle.std.specs.Prelude.{nat_lt}
use Rattle.std.proofs.Math.Bool.{true≢false}
use Rattle.std.proofs.Math.Dec.{lit≤}
use Rattle.std.proofs.lemmas.Bool.{cases_lt, le-ltb}
use Rattle.bank_tables.specs.Items.{has}
use Rattle.bank_tables.specs.Tables.{size}
use Rattle.certificate_model.specs.declared.verdict.Verdict.TheVariants.{Optimal}
use Rattle.form_model.specs.Problem.{Problem}
use Rattle.form_model.specs.Forms.{Meets, Form, objective}
use Rattle.certificate_model.specs.Paths.{root}
use Rattle.certificate_model.specs.Weights.{item_weight, stimulus_weight, rows_constant}
use Rattle.certificate_model.specs.Relaxed.{link_multiplier, IsRelaxedMaximum}
use Rattle.certificate_model.specs.ClosedForm.{excess_of_items}
use Rattle.certificate_model.specs.ProofTrees.{ProofTree}
use Rattle.certificate_model.specs.Verdicts.{IsVerdict}
use Rattle.form_model.specs.Ability.{IsPosteriorMode}
use Rattle.serving_model.specs.Serving.{IsNext}
use Rattle.serving_model.specs.Seats.{seat_problem, is_shown}
use Rattle.form_model.proofs.SumLaws.{either}
use Rattle.form_model.proofs.Computed.{these_below, one_word, word_below, form_is, mode_is}
use Rattle.serving_model.proofs.Computed.{next_is}
use Rattle.certificate_model.proofs.Computed.{maximum_is, at_most, names_sides}
use Rattle.form_model.proofs.BankA.{item_a, sevens, bank_a, plan_of_rows, plan_a}
use Rattle.certificate_model.proofs.BankA.{one_bound}
use Rattle.serving_model.proofs.StepsOfA.{seat_1, seat_2, problem_1, problem_2}
use Rattle.history_model.specs.declared.entry.Entry.{Entry}
use Rattle.history_model.specs.declared.entry.Entry.TheVariants.{Started, Served, Answered}
use Rattle.history_model.specs.Entries.{items_in, seat_of}
use Rattle.history_model.specs.Counts.{band_counts}
use Rattle.history_model.specs.Draws.{drawn, draw, SameItems, AreDrawn}
use Rattle.history_model.specs.SessionProblems.{IsProblemOf}
use Rattle.history_model.specs.Legality.{IsLegalAnswer, LegalRun}
use Rattle.history_model.specs.Judging.{MayServe, MayFollow, Record, entries_of, Backed, empty, more}
use Rattle.history_model.proofs.HistoriesOfA.{one_band, started_a, served_a, answered_a, served_1, answered_1, served_2, answered_2}
use Rattle.history_model.proofs.Bounds.{no_set}
use Rattle.history_model.proofs.JudgingLaws.{backed_is_legal_run}
use Rattle.history_model.proofs.CompleteLaws.{complete_meets}

-- ---- all six items are drawn where none was shown in a finished session
pub none_past : (word i : ℕ) → nat_lt word 64 ≡ true → (i < 6 → ⊥) → has (one_word word) i ≡ false
none_past word i small past = elim (either (has (one_word word) i)) [ inl is ↦ absurd (past (word_below 6 word refl small i is)) | inr not ↦ not ]

first_six : (i : ℕ) → i < 6 → has (one_word 63) i ≡ nat_lt i 6
unfolding has
first_six zero w = refl
first_six (suc zero) w = refl
first_six (suc (suc zero)) w = refl
first_six (suc (suc (suc zero))) w = refl
first_six (suc (suc (suc (suc zero)))) w = refl
first_six (suc (suc (suc (suc (suc zero))))) w = refl
first_six (suc (suc (suc (suc (suc (suc j)))))) w = absurd (omega arith)

pub all_drawn : (i : ℕ) → has (one_word 63) i ≡ nat_lt i 6
all_drawn i = elim (cases_lt i 6) [ inl below ↦ first_six i below | inr past ↦ none_past 63 i refl (λ below. omega arith) ∙ sym (le-ltb i 6 past) ]

pub and_on : (a : Bool) → (a && true) ≡ a
and_on true = refl
and_on false = refl

-- with one band the sets past it are empty, as their draws are
pub one_drawn : (H : List Entry) (session : ℕ) (words : List ℕ) → SameItems (has words) (draw bank_a plan_a H session 0) → AreDrawn bank_a plan_a H session (one_band words)
unfolding plan_of_rows plan_a
one_drawn H session words first = record { number = refl; each = each }
  where
    each : (band : ℕ) → SameItems (items_in (words ∷ []) band) (draw bank_a plan_a H session band)
    each zero i = first i
    each (suc k) i = no_set k i ∙ sym (ap (λ (t : Bool). t && drawn plan_a.key plan_a.rate session (suc k) (size bank_a) (band_counts bank_a plan_a H (suc k)) i) (le-ltb (suc k) 1 (omega arith)))

draw_first : AreDrawn bank_a plan_a [] 0 (one_band (one_word 63))
unfolding bank_a item_a plan_of_rows plan_a
draw_first = one_drawn [] 0 (one_word 63) (λ i. all_drawn i ∙ sym (and_on (nat_lt i 6)))

pub may_start : MayFollow bank_a plan_a [] (Started 0 70 (one_band (one_word 63)) None) None
unfolding plan_of_rows plan_a
may_start = (record { number = record { next = refl; within = lit≤ tt }; not_booked = refl; drawn = draw_first; listed = tt }, refl)

-- ---- item 2 from the form of items 1, 2 and 3
pub mode_0 : IsPosteriorMode bank_a plan_a.prior [] 1
unfolding bank_a plan_of_rows plan_a
mode_0 = mode_is bank_a plan_a.prior [] 1 refl

unfoldable pub problem_0 : Problem
problem_0 = seat_problem bank_a plan_a 0 (seat_of started_a 0) 1

pub is_problem_0 : IsProblemOf bank_a plan_a started_a 0 0 problem_0
unfolding problem_0 started_a plan_of_rows plan_a
is_problem_0 = record { pending = refl; of_seat = record { theta = 1; mode = mode_0; is = refl } }

pub form_0 : Form problem_0 (has (one_word 14))
unfolding problem_0 started_a bank_a item_a plan_of_rows plan_a has
form_0 = form_is problem_0 (has (one_word 14)) (word_below 6 14 refl refl) (λ i e. absurd (true≢false (sym e))) refl

pub next_0 : IsNext problem_0 (has (one_word 14)) 2
unfolding problem_0 started_a bank_a item_a has
next_0 = next_is problem_0 (has (one_word 14)) 2 (word_below 6 14 refl refl) refl

maximum_0 : IsRelaxedMaximum problem_0 (root problem_0) ((3, 1) ∷ []) false (pos 6143)
unfolding problem_0 started_a bank_a item_a plan_of_rows plan_a has item_weight stimulus_weight rows_constant link_multiplier excess_of_items
maximum_0 = maximum_is problem_0 (root problem_0) ((3, 1) ∷ []) false (has (one_word 38)) (pos 1600) (pos 6143) (word_below 6 38 refl refl) refl refl

optimal_0 : IsVerdict problem_0 (Some (has (one_word 14))) (one_bound ((3, 1) ∷ [])) Optimal
unfolding one_bound problem_0 started_a bank_a item_a plan_of_rows plan_a has
optimal_0 = inl (form_0, inl ((lit≤ tt, names_sides problem_0 ((3, 1) ∷ []) refl, at_most problem_0 (root problem_0) ((3, 1) ∷ []) false (pos 6143) (pos (256 * objective problem_0 (has (one_word 14)) + 255)) maximum_0 refl), refl))

pub may_serve_0 : MayServe bank_a plan_a started_a 0 0 2 (has (one_word 14)) true 1 (Some (one_bound ((3, 1) ∷ [])))
unfolding one_bound
may_serve_0 = record { problem = problem_0; is_problem = is_problem_0; is_form = form_0; next = next_0; shows = record { has_tree = record { number = refl; spent = tt }; verdict = Optimal; has_verdict = optimal_0; asked = refl } }

pub may_answer_0 : IsLegalAnswer bank_a plan_a served_a 0 0 1
unfolding bank_a item_a plan_of_rows plan_a started_a served_a
may_answer_0 = record { item = 2; proved = true; waiting = refl; in_range = lit≤ tt }

-- ---- item 4 from the form of items 1, 2 and 4
mode_1 : IsPosteriorMode bank_a plan_a.prior ((2, 1) ∷ []) 2
unfolding bank_a item_a sevens plan_of_rows plan_a
mode_1 = mode_is bank_a plan_a.prior ((2, 1) ∷ []) 2 refl

is_problem_1 : IsProblemOf bank_a plan_a answered_a 0 1 problem_1
unfolding problem_1 seat_1 started_a served_a answered_a plan_of_rows plan_a
is_problem_1 = record { pending = refl; of_seat = record { theta = 2; mode = mode_1; is = refl } }

given_1 : (i : ℕ) → problem_1.given i ≡ true → i < 6
unfolding problem_1 seat_1
given_1 = these_below 6 (2 ∷ []) refl

form_1 : Form problem_1 (has (one_word 22))
unfolding problem_1 seat_1 bank_a item_a plan_of_rows plan_a has
form_1 = form_is problem_1 (has (one_word 22)) (word_below 6 22 refl refl) given_1 refl

next_1 : IsNext problem_1 (has (one_word 22)) 4
unfolding problem_1 seat_1 bank_a item_a has
next_1 = next_is problem_1 (has (one_word 22)) 4 (word_below 6 22 refl refl) refl

maximum_1 : IsRelaxedMaximum problem_1 (root problem_1) ((0, 1536) ∷ []) false (pos 3584)
unfolding problem_1 seat_1 bank_a item_a plan_of_rows plan_a has item_weight stimulus_weight rows_constant link_multiplier excess_of_items
maximum_1 = maximum_is problem_1 (root problem_1) ((0, 1536) ∷ []) false (has (one_word 18)) (pos 2048) (pos 3584) (word_below 6 18 refl refl) refl refl

optimal_1 : IsVerdict problem_1 (Some (has (one_word 22))) (one_bound ((0, 1536) ∷ [])) Optimal
unfolding one_bound problem_1 seat_1 bank_a item_a plan_of_rows plan_a has
optimal_1 = inl (form_1, inl ((lit≤ tt, names_sides problem_1 ((0, 1536) ∷ []) refl, at_most problem_1 (root problem_1) ((0, 1536) ∷ []) false (pos 3584) (pos (256 * objective problem_1 (has (one_word 22)) + 255)) maximum_1 refl), refl))

pub may_serve_1 : MayServe bank_a plan_a answered_a 0 1 4 (has (one_word 22)) true 1 (Some (one_bound ((0, 1536) ∷ [])))
unfolding one_bound
may_serve_1 = record { problem = problem_1; is_problem = is_problem_1; is_form = form_1; next = next_1; shows = record { has_tree = record { number = refl; spent = tt }; verdict = Optimal; has_verdict = optimal_1; asked = refl } }

pub may_answer_1 : IsLegalAnswer bank_a plan_a served_1 0 1 0
unfolding bank_a item_a plan_of_rows plan_a started_a served_a answered_a served_1
may_answer_1 = record { item = 4; proved = true; waiting = refl; in_range = lit≤ tt }

-- ---- item 1 from the same form
mode_2 : IsPosteriorMode bank_a plan_a.prior ((2, 1) ∷ (4, 0) ∷ []) 1
unfolding bank_a item_a sevens plan_of_rows plan_a
mode_2 = mode_is bank_a plan_a.prior ((2, 1) ∷ (4, 0) ∷ []) 1 refl

is_problem_2 : IsProblemOf bank_a plan_a answered_1 0 2 problem_2
unfolding problem_2 seat_2 started_a served_a answered_a served_1 answered_1 plan_of_rows plan_a
is_problem_2 = record { pending = refl; of_seat = record { theta = 1; mode = mode_2; is = refl } }

given_2 : (i : ℕ) → problem_2.given i ≡ true → i < 6
unfolding problem_2 seat_2
given_2 = these_below 6 (2 ∷ 4 ∷ []) refl

form_2 : Form problem_2 (has (one_word 22))
unfolding problem_2 seat_2 bank_a item_a plan_of_rows plan_a has
form_2 = form_is problem_2 (has (one_word 22)) (word_below 6 22 refl refl) given_2 refl

next_2 : IsNext problem_2 (has (one_word 22)) 1
unfolding problem_2 seat_2 bank_a item_a has
next_2 = next_is problem_2 (has (one_word 22)) 1 (word_below 6 22 refl refl) refl

maximum_2 : IsRelaxedMaximum problem_2 (root problem_2) [] false (pos 5376)
unfolding problem_2 seat_2 bank_a item_a plan_of_rows plan_a has item_weight stimulus_weight rows_constant link_multiplier excess_of_items
maximum_2 = maximum_is problem_2 (root problem_2) [] false (has (one_word 2)) (pos 2048) (pos 5376) (word_below 6 2 refl refl) refl refl

optimal_2 : IsVerdict problem_2 (Some (has (one_word 22))) (one_bound []) Optimal
unfolding one_bound problem_2 seat_2 bank_a item_a plan_of_rows plan_a has
optimal_2 = inl (form_2, inl ((lit≤ tt, names_sides problem_2 [] refl, at_most problem_2 (root problem_2) [] false (pos 5376) (pos (256 * objective problem_2 (has (one_word 22)) + 255)) maximum_2 refl), refl))

pub may_serve_2 : MayServe bank_a plan_a answered_1 0 2 1 (has (one_word 22)) true 1 (Some (one_bound []))
unfolding one_bound
may_serve_2 = record { problem = problem_2; is_problem = is_problem_2; is_form = form_2; next = next_2; shows = record { has_tree = record { number = refl; spent = tt }; verdict = Optimal; has_verdict = optimal_2; asked = refl } }

pub may_answer_2 : IsLegalAnswer bank_a plan_a served_2 0 2 1
unfolding bank_a item_a plan_of_rows plan_a started_a served_a answered_a served_1 answered_1 served_2
may_answer_2 = record { item = 1; proved = true; waiting = refl; in_range = lit≤ tt }

-- ---- the records
with_tree : Entry → ProofTree → Record
with_tree entry tree = record { entry = entry; tree = Some tree }

bare : Entry → Record
bare entry = record { entry = entry; tree = None }

records_1 : List Record
records_1 = bare (Started 0 70 (one_band (one_word 63)) None) ∷ with_tree (Served 0 0 2 (one_word 14) true 1) (one_bound ((3, 1) ∷ [])) ∷ bare (Answered 0 0 1) ∷ []

records_3 : List Record
records_3 = records_1 ++ with_tree (Served 0 1 4 (one_word 22) true 1) (one_bound ((0, 1536) ∷ [])) ∷ bare (Answered 0 1 0) ∷ []

pub records_a : List Record
records_a = records_3 ++ with_tree (Served 0 2 1 (one_word 22) true 1) (one_bound []) ∷ bare (Answered 0 2 1) ∷ []

backed_1 : Backed bank_a plan_a records_1
unfolding records_1 with_tree bare started_a served_a
backed_1 =
    more (bare (Started 0 70 (one_band (one_word 63)) None) ∷ with_tree (Served 0 0 2 (one_word 14) true 1) (one_bound ((3, 1) ∷ [])) ∷ []) (bare (Answered 0 0 1))
    (more (bare (Started 0 70 (one_band (one_word 63)) None) ∷ []) (with_tree (Served 0 0 2 (one_word 14) true 1) (one_bound ((3, 1) ∷ []))) (more [] (bare (Started 0 70 (one_band (one_word 63)) None)) empty may_start) may_serve_0)
    (may_answer_0, refl)

backed_3 : Backed bank_a plan_a records_3
unfolding records_1 records_3 with_tree bare started_a served_a answered_a served_1
backed_3 =
    more (records_1 ++ with_tree (Served 0 1 4 (one_word 22) true 1) (one_bound ((0, 1536) ∷ [])) ∷ []) (bare (Answered 0 1 0))
    (more records_1 (with_tree (Served 0 1 4 (one_word 22) true 1) (one_bound ((0, 1536) ∷ []))) backed_1 may_serve_1)
    (may_answer_1, refl)

pub backed_a : Backed bank_a plan_a records_a
unfolding records_1 records_3 records_a with_tree bare started_a served_a answered_a served_1 answered_1 served_2
backed_a =
    more (records_3 ++ with_tree (Served 0 2 1 (one_word 22) true 1) (one_bound []) ∷ []) (bare (Answered 0 2 1))
    (more records_3 (with_tree (Served 0 2 1 (one_word 22) true 1) (one_bound [])) backed_3 may_serve_2)
    (may_answer_2, refl)

entries_a : entries_of records_a ≡ answered_2
unfolding records_1 records_3 records_a with_tree bare started_a served_a answered_a served_1 answered_1 served_2 answered_2
entries_a = refl

pub run_a : LegalRun bank_a plan_a answered_2
run_a = subst (λ (H : List Entry). LegalRun bank_a plan_a H) entries_a (backed_is_legal_run bank_a plan_a records_a backed_a)

-- the items shown, 2, 4 and 1, meet the plan
meets_a : Meets bank_a plan_a (is_shown (seat_of answered_2 0))
unfolding plan_of_rows plan_a started_a served_a answered_a served_1 answered_1 served_2 answered_2
meets_a = complete_meets bank_a plan_a answered_2 0 (lit≤ tt) run_a refl
