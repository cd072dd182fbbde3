-- Each reason why a record may not follow, on bank A: after a start and a first serving, and after
-- others.
use Rattle.std.proofs.Common.{◌≡◌, ℕ, zero, suc, ◌+◌, ◌*◌, ◌<◌, inl, inr, true, false, [], ◌∷◌, ◌++◌, pos, None, Some, refl, sym, ◌∙◌, arith}
use Rattle.std.specs.Prelude.{nat_lt}
use Rattle.std.proofs.Math.Bool.{true≢false}
use Rattle.std.proofs.Math.Dec.{lit≤}
use Rattle.bank_tables.specs.Items.{has}
use Rattle.form_model.specs.declared.breach.Breach.TheVariants.{Row}
use Rattle.certificate_model.specs.declared.node.Node.TheVariants.{Count}
use Rattle.certificate_model.specs.declared.verdict.Reason.TheVariants.{NotClosed, RowPossible}
use Rattle.certificate_model.specs.declared.verdict.Verdict.TheVariants.{Bad}
use Rattle.form_model.specs.Forms.{RowHolds, objective}
use Rattle.form_model.specs.Breaches.{IsFirstBreach}
use Rattle.certificate_model.specs.Counting.{is_impossible}
use Rattle.certificate_model.specs.Paths.{root}
use Rattle.certificate_model.specs.Weights.{item_weight, stimulus_weight, rows_constant}
use Rattle.certificate_model.specs.Relaxed.{link_multiplier, IsRelaxedMaximum}
use Rattle.certificate_model.specs.ClosedForm.{excess_of_items}
use Rattle.certificate_model.specs.ProofTrees.{ProofTree}
use Rattle.certificate_model.specs.Verdicts.{IsVerdict}
use Rattle.serving_model.specs.Seats.{seat_problem}
use Rattle.form_model.proofs.Computed.{one_word, word_below}
use Rattle.certificate_model.proofs.Computed.{maximum_is, not_at_most, names_sides}
use Rattle.form_model.proofs.BankA.{item_a, bank_a, plan_of_rows, plan_a}
use Rattle.certificate_model.proofs.BankA.{one_bound}
use Rattle.history_model.specs.declared.entry.Cause.TheVariants.{NoForm, Spent}
use Rattle.history_model.specs.declared.entry.Entry.TheVariants.{Started, SetAside, Served, Answered, Closed}
use Rattle.history_model.specs.declared.place.Place.TheVariants.{Pending, Waiting, Complete, Closed as IsClosed}
use Rattle.history_model.specs.declared.illegal.Illegal.TheVariants.{NotNumber, Booked, NotDrawn, NoSession, NotPending, IsAside, NotStep, NotBand, NotForm, NotItem, NotSpent, Tree, NotWaiting, BadResponse, Ended}
use Rattle.history_model.specs.Draws.{AreDrawn, other_items}
use Rattle.history_model.specs.Entries.{seat_of}
use Rattle.history_model.specs.Legality.{IsNextNumber}
use Rattle.history_model.specs.Judging.{MayFollow}
use Rattle.history_model.specs.Reasons.{IsIllegal}
use Rattle.history_model.proofs.HistoriesOfA.{one_band, started_a, served_a, answered_a, served_1, answered_1, served_2, answered_2, two_a, closed_a}
use Rattle.history_model.proofs.RecordsOfA.{all_drawn, and_on, one_drawn, mode_0, problem_0, is_problem_0, form_0, next_0}

unfoldable pub one_leaf : ProofTree
one_leaf = record { vectors = []; nodes = Count 1 ∷ [] }

-- ---- a start after session 0: of session 2, for its booking, without item 0, with a tree
start_2 : IsIllegal bank_a plan_a served_a (Started 2 71 (one_band (one_word 63)) None) None (NotNumber 1)
unfolding started_a served_a
start_2 = (λ number. let e = number.next in omega arith, refl)

pub next_number : IsNextNumber plan_a served_a 1
unfolding started_a served_a plan_of_rows plan_a
next_number = record { next = refl; within = lit≤ tt }

start_70 : IsIllegal bank_a plan_a served_a (Started 1 70 (one_band (one_word 63)) None) None (Booked 0)
unfolding started_a served_a
start_70 = (next_number, refl)

start_without : IsIllegal bank_a plan_a served_a (Started 1 71 (one_band (one_word 62)) None) None (NotDrawn 0)
unfolding started_a served_a bank_a item_a plan_of_rows plan_a has
start_without = (next_number, refl, other_items 0 refl (record { band = 0; differs = λ e. true≢false (sym e); before = λ other i w. absurd (omega arith) }))

pub draw_1 : AreDrawn bank_a plan_a served_a 1 (one_band (one_word 63))
unfolding started_a served_a bank_a item_a plan_of_rows plan_a
draw_1 = one_drawn served_a 1 (one_word 63) (λ i. all_drawn i ∙ sym (and_on (nat_lt i 6)))

start_with_tree : IsIllegal bank_a plan_a served_a (Started 1 71 (one_band (one_word 63)) None) (Some one_leaf) (NotSpent 0)
unfolding started_a served_a
start_with_tree = (next_number, refl, draw_1, tt, λ e. cc, refl)

may_start_1 : MayFollow bank_a plan_a served_a (Started 1 71 (one_band (one_word 63)) None) None
unfolding started_a served_a
may_start_1 = (record { number = next_number; not_booked = refl; drawn = draw_1; listed = tt }, refl)

-- ---- an answer out of range, of another step, of a session that isn't there, with a tree
answer_2 : IsIllegal bank_a plan_a served_a (Answered 0 0 2) None (BadResponse 2)
unfolding started_a served_a bank_a item_a plan_of_rows plan_a
answer_2 = (refl, (2, true, refl, refl, lit≤ tt))

answer_step_1 : IsIllegal bank_a plan_a served_a (Answered 0 1 0) None (NotWaiting (Waiting 0 2 true))
unfolding started_a served_a plan_of_rows plan_a
answer_step_1 = (refl, refl, λ e. omega arith)

answer_5 : IsIllegal bank_a plan_a served_a (Answered 5 0 0) None (NoSession 1)
unfolding started_a served_a plan_of_rows plan_a
answer_5 = (refl, refl)

answer_with_tree : IsIllegal bank_a plan_a served_a (Answered 0 0 0) (Some one_leaf) (NotSpent 0)
unfolding started_a served_a plan_of_rows plan_a
answer_with_tree = (λ e. cc, λ e. cc, refl)

-- ---- closing a session that isn't there, one that may be closed, one that is complete, one that
-- is closed
close_5 : IsIllegal bank_a plan_a served_a (Closed 5) None (NoSession 1)
unfolding started_a served_a plan_of_rows plan_a
close_5 = (refl, refl)

may_close_0 : MayFollow bank_a plan_a served_a (Closed 0) None
unfolding started_a served_a plan_of_rows plan_a
may_close_0 = (record { at = Waiting 0 2 true; stands = refl; goes_on = tt }, refl)

close_complete : IsIllegal bank_a plan_a answered_2 (Closed 0) None (Ended Complete)
unfolding started_a served_a answered_a served_1 answered_1 served_2 answered_2 plan_of_rows plan_a
close_complete = (refl, refl, λ e. e)

close_twice : IsIllegal bank_a plan_a closed_a (Closed 1) None (Ended IsClosed)
unfolding two_a closed_a plan_of_rows plan_a
close_twice = (refl, refl, λ e. e)

-- ---- a serving: of a session that isn't there, while an answer is waited for, of a step to come
serve_5 : IsIllegal bank_a plan_a served_a (Served 5 0 2 (one_word 14) true 1) (Some one_leaf) (NoSession 1)
unfolding started_a served_a plan_of_rows plan_a
serve_5 = (refl, refl)

serve_again : IsIllegal bank_a plan_a served_a (Served 0 1 4 (one_word 22) true 1) (Some one_leaf) (NotPending (Waiting 0 2 true))
unfolding started_a served_a plan_of_rows plan_a
serve_again = (refl, λ e. cc)

serve_step_1 : IsIllegal bank_a plan_a started_a (Served 0 1 4 (one_word 22) true 1) (Some one_leaf) (NotPending (Pending 0))
unfolding started_a plan_of_rows plan_a
serve_step_1 = (refl, λ e. absurd (cc))

-- items 2 and 5 are enemies
breach_125 : IsFirstBreach problem_0 (has (one_word 38)) (Some (Row 1 2))
unfolding problem_0 started_a bank_a item_a plan_of_rows plan_a has
breach_125 = (record { in_bank = word_below 6 38 refl refl; n_items = refl }, before, lit≤ tt, λ holds. absurd (let high = holds.high in omega arith), refl)
  where
    before : (q : ℕ) → q < 1 → RowHolds bank_a plan_a (has (one_word 38)) q
    before zero w = record { low = lit≤ tt; high = lit≤ tt }
    before (suc q) w = absurd (omega arith)

serve_125 : IsIllegal bank_a plan_a started_a (Served 0 0 2 (one_word 38) true 1) (Some one_leaf) (NotForm (Row 1 2))
serve_125 = (problem_0, is_problem_0, breach_125)

serve_1 : IsIllegal bank_a plan_a started_a (Served 0 0 1 (one_word 14) true 1) (Some one_leaf) (NotItem 2)
serve_1 = (problem_0, is_problem_0, form_0, next_0, λ e. omega arith)

-- no tree, another number of nodes, an unproved mark without a spent tree
serve_without_tree : IsIllegal bank_a plan_a started_a (Served 0 0 2 (one_word 14) true 1) None (NotSpent 1)
serve_without_tree = (problem_0, is_problem_0, form_0, next_0, λ e. e, refl)

serve_3_nodes : IsIllegal bank_a plan_a started_a (Served 0 0 2 (one_word 14) true 3) (Some one_leaf) (NotSpent 3)
unfolding one_leaf
serve_3_nodes = (problem_0, is_problem_0, form_0, next_0, λ tree. let e = tree.number in omega arith, refl)

serve_unproved : IsIllegal bank_a plan_a started_a (Served 0 0 2 (one_word 14) false 1) (Some one_leaf) (NotSpent 1)
unfolding one_leaf plan_of_rows plan_a
serve_unproved = (problem_0, is_problem_0, form_0, next_0, λ tree. let e = tree.spent.nodes in omega arith, refl)

-- a tree that shows nothing: with the multiplier 4,096 the relaxed maximum is 8,960, and the leaf
-- isn't closed
maximum_4096 : IsRelaxedMaximum problem_0 (root problem_0) ((3, 4096) ∷ []) false (pos 8960)
unfolding problem_0 started_a bank_a item_a plan_of_rows plan_a has item_weight stimulus_weight rows_constant link_multiplier excess_of_items
maximum_4096 = maximum_is problem_0 (root problem_0) ((3, 4096) ∷ []) false (has (one_word 11)) (pos 1280) (pos 8960) (word_below 6 11 refl refl) refl refl

not_closed : IsVerdict problem_0 (Some (has (one_word 14))) (one_bound ((3, 4096) ∷ [])) (Bad 0 NotClosed)
unfolding one_bound problem_0 started_a bank_a item_a plan_of_rows plan_a has
not_closed =
    inl (form_0, inr (NotClosed, (lit≤ tt, names_sides problem_0 ((3, 4096) ∷ []) refl, not_at_most problem_0 (root problem_0) ((3, 4096) ∷ []) false (pos 8960) (pos (256 * objective problem_0 (has (one_word 14)) + 255)) maximum_4096 (record { lt = tt })), refl))

serve_bad_tree : IsIllegal bank_a plan_a started_a (Served 0 0 2 (one_word 14) true 1) (Some (one_bound ((3, 4096) ∷ []))) (Tree (Bad 0 NotClosed))
unfolding one_bound
serve_bad_tree = (problem_0, is_problem_0, form_0, next_0, record { number = refl; spent = tt }, not_closed, λ e. cc)

-- ---- setting eligibility aside: after the first serving, twice, no tree, a tree showing nothing
aside_late : IsIllegal bank_a plan_a served_a (SetAside 0 0 0 NoForm 1) (Some one_leaf) (NotPending (Waiting 0 2 true))
unfolding started_a served_a plan_of_rows plan_a
aside_late = (refl, λ e. e)

aside_twice : IsIllegal bank_a plan_a (started_a ++ SetAside 0 0 0 Spent 2001 ∷ []) (SetAside 0 0 0 NoForm 1) (Some one_leaf) IsAside
unfolding started_a plan_of_rows plan_a
aside_twice = (0, seat_problem bank_a plan_a 0 (seat_of (started_a ++ SetAside 0 0 0 Spent 2001 ∷ []) 0) 1, record { pending = refl; of_seat = record { theta = 1; mode = mode_0; is = refl } }, refl)

aside_5 : IsIllegal bank_a plan_a started_a (SetAside 5 0 0 NoForm 1) None (NoSession 1)
unfolding started_a plan_of_rows plan_a
aside_5 = (refl, refl)

aside_without_tree : IsIllegal bank_a plan_a started_a (SetAside 0 0 0 NoForm 7) None (NotSpent 7)
unfolding started_a problem_0 plan_of_rows plan_a
aside_without_tree = (problem_0, is_problem_0, refl, refl, λ e. e, refl)

aside_not_spent : IsIllegal bank_a plan_a started_a (SetAside 0 0 0 Spent 1) (Some one_leaf) (NotSpent 1)
unfolding started_a one_leaf problem_0 plan_of_rows plan_a
aside_not_spent = (problem_0, is_problem_0, refl, refl, λ tree. let e = tree.spent.nodes in omega arith, refl)

possible : is_impossible problem_0 (root problem_0) 1 ≡ false
unfolding problem_0 started_a bank_a item_a plan_of_rows plan_a is_impossible has
possible = refl

aside_bad_tree : IsIllegal bank_a plan_a started_a (SetAside 0 0 0 NoForm 1) (Some one_leaf) (Tree (Bad 0 RowPossible))
unfolding started_a one_leaf problem_0 plan_of_rows plan_a
aside_bad_tree = (problem_0, is_problem_0, refl, refl, record { number = refl; spent = tt }, inl (tt, inr (RowPossible, possible, refl)), λ e. cc)

-- at another step, in another band
aside_step_3 : IsIllegal bank_a plan_a started_a (SetAside 0 3 0 NoForm 1) (Some one_leaf) (NotStep 0)
unfolding started_a problem_0 plan_of_rows plan_a
aside_step_3 = (problem_0, is_problem_0, refl, λ e. absurd (omega (arith, e)))

aside_band_1 : IsIllegal bank_a plan_a started_a (SetAside 0 0 1 NoForm 1) (Some one_leaf) (NotBand 0)
unfolding started_a problem_0 plan_of_rows plan_a
aside_band_1 = (problem_0, is_problem_0, refl, refl, λ e. absurd (omega (arith, e)))
