-- How long the journal of an examination may become.
use Rattle.std.proofs.Common.{◌≡◌, inl, inr, ℕ, zero, suc, ◌+◌, ◌*◌, ◌<◌, ◌≤◌, ◌==◌, ◌||◌, nat_le, Bool, true, false, cond, List, [], ◌∷◌, ◌++◌, length, map, Option, Some, None, refl, sym, ap, ◌∙◌, subst, arith, length-append}
use Rattle.std.specs.Prelude.{count_by, sum_by}
use Rattle.std.specs.List.{AllByRecursion, filter_map}
use Rattle.std.proofs.lemmas.Bool.{cases_lt, eq-eqb, eqb-true}
use Rattle.std.proofs.Math.Nat.{suc-mul}
use Rattle.std.proofs.lemmas.List.Sums.{sum_by-append, sum_by-cons}
use Rattle.answer_journal.specs.Payload.{end_of}
use Rattle.bank_tables.specs.Sums.{sum_in}
use Rattle.bank_tables.specs.Tables.{Tables}
use Rattle.certificate_model.specs.ProofTrees.{ProofTree}
use Rattle.exam_records.proofs.BandFields.{sets_len}
use Rattle.exam_records.proofs.ListFields.{list_len}
use Rattle.exam_records.proofs.SecondLaws.{record_len}
use Rattle.exam_records.specs.Shape.{GoesWith, HasBands, IsRecord}
use Rattle.exam_records.specs.Spelling.{entry_bytes, list_bytes, payload_of, sets_bytes, tree_bytes}
use Rattle.form_model.proofs.SumLaws.{either}
use Rattle.form_model.specs.Plan.{Plan, band_of}
use Rattle.form_model.specs.Problem.{Problem}
use Rattle.history_model.proofs.Bounds.{sessions_are_few}
use Rattle.history_model.proofs.JudgingLaws.{backed_is_legal_run}
use Rattle.history_model.proofs.Ordered.{in_order}
use Rattle.history_model.proofs.Pushed.{answers-push, aside-push, closed-push, servings-push, sessions-push}
use Rattle.history_model.proofs.Running.{all_answered, sessions_are_numbered}
use Rattle.history_model.proofs.SessionEntries.{closes_session, session_answer, session_serving, sets_session_aside}
use Rattle.history_model.proofs.Standing.{pending, there, waiting}
use Rattle.history_model.specs.declared.entry.Entry.{Entry}
use Rattle.history_model.specs.declared.entry.Entry.TheVariants.{Started, SetAside, Served, Answered, Closed}
use Rattle.history_model.specs.declared.place.Place.{Place}
use Rattle.history_model.specs.declared.place.Place.TheVariants.{Pending, Waiting, Complete, Closed as Over}
use Rattle.history_model.specs.Entries.{is_closed, is_set_aside, seat_of, servings, sessions, starts, step_answers}
use Rattle.history_model.specs.Judging.{Record, entries_of}
use Rattle.history_model.specs.Legality.{GoesOn, Legal, LegalRun, empty, more}
use Rattle.history_model.specs.Places.{place}
use Rattle.serving_model.specs.Seats.{is_aside_in}
use Rattle.exam_drill.specs.Lengths.{FramesAreShort, JournalsAreShort, most_of, most_of_session, with_tree, without_tree}

-- ---- a frame
short_so : (entry : Entry) (tree : Option ProofTree) → GoesWith entry tree → HasBands entry → length (entry_bytes entry ++ tree_bytes tree) ≤ 98885 → 5 + length (entry_bytes entry ++ tree_bytes tree) ≤ most_of entry
unfolding entry_bytes
short_so (Started session booking eligible None) None goes bands few = omega (arith, bands.0.few, length-append (sets_bytes eligible.count eligible.sets) [], sets_len eligible.count eligible.sets)
short_so (Started session booking eligible (Some list)) None goes bands few =
    omega (arith, bands.0.few, length-append (sets_bytes eligible.count eligible.sets ++ list_bytes list) [], length-append (sets_bytes eligible.count eligible.sets) (list_bytes list), sets_len eligible.count eligible.sets, list_len list)
short_so (Started session booking eligible without) (Some T) goes bands few = absurd goes
short_so (SetAside session step band cause nodes) tree goes bands few = omega (arith, few)
short_so (Served session step item form proved nodes) tree goes bands few = omega (arith, few)
short_so (Answered session step response) None goes bands few = omega arith
short_so (Answered session step response) (Some T) goes bands few = absurd goes
short_so (Closed session) None goes bands few = omega arith
short_so (Closed session) (Some T) goes bands few = absurd goes

pub frames_are_short : FramesAreShort
unfolding payload_of
frames_are_short r is = short_so r.entry r.tree is.goes_with is.bands (record_len r is.goes_with is.bands is.tree).1

-- ---- sums over all numbers below a bound
abbrev total : ℕ → (ℕ → ℕ) → ℕ
total n f = sum_in n (λ _. true) f

total_le : (n : ℕ) (f g : ℕ → ℕ) → ((i : ℕ) → f i ≤ g i) → total n f ≤ total n g
total_le zero f g each = omega arith
total_le (suc n) f g each = omega (arith, total_le n f g each, each n)

total_more : (n s k : ℕ) (f g : ℕ → ℕ) → ((i : ℕ) → f i ≤ g i) → s < n → f s + k ≤ g s → total n f + k ≤ total n g
total_more zero s k f g each lt here = absurd (omega arith)
total_more (suc n) s k f g each lt here = elim (cases_lt s n) [
  | inl apart ↦ omega (arith, total_more n s k f g each apart here, each n)
  | inr past ↦
      let same : s ≡ n = omega (arith, past, lt) in
      let last : f n + k ≤ g n = subst (λ (i : ℕ). f i + k ≤ g i) same here in
      omega (arith, total_le n f g each, last)
]

total_most : (n c : ℕ) (f : ℕ → ℕ) → ((i : ℕ) → f i ≤ c) → total n f ≤ n * c
total_most zero c f each = omega arith
total_most (suc n) c f each = omega (arith, suc-mul n c, total_most n c f each, each n)

-- ---- what a session may have
abbrev flag : Bool → ℕ
flag t = cond t 1 0

flag_more : (a x : Bool) → flag a ≤ flag (a || x)
flag_more true x = omega arith
flag_more false x = omega arith

flag_few : (a : Bool) → flag a ≤ 1
flag_few true = omega arith
flag_few false = omega arith

-- the most bytes of the frames of a session so far
abbrev most_so_far : List Entry → ℕ → ℕ
most_so_far H s = with_tree * (length (servings H s) + flag (is_set_aside H s 0)) + without_tree * (1 + (length (step_answers H s) + flag (is_closed H s)))

module _ (H : List Entry) (e : Entry) (s : ℕ) where
  abbrev now : List Entry
  now = H ++ e ∷ []

  served_now : length (servings now s) ≡ length (servings H s) + length (filter_map (session_serving s) (e ∷ []))
  served_now = ap length (servings-push H e s) ∙ length-append (servings H s) (filter_map (session_serving s) (e ∷ []))

  answered_now : length (step_answers now s) ≡ length (step_answers H s) + length (filter_map (session_answer s) (e ∷ []))
  answered_now = ap length (answers-push H e s) ∙ length-append (step_answers H s) (filter_map (session_answer s) (e ∷ []))

  aside_now : flag (is_set_aside H s 0) ≤ flag (is_set_aside now s 0)
  aside_now = subst (λ (t : Bool). flag (is_set_aside H s 0) ≤ flag t) (sym (aside-push H e s 0)) (flag_more (is_set_aside H s 0) (sets_session_aside s 0 e || false))

  closed_now : flag (is_closed H s) ≤ flag (is_closed now s)
  closed_now = subst (λ (t : Bool). flag (is_closed H s) ≤ flag t) (sym (closed-push H e s)) (flag_more (is_closed H s) (closes_session s e || false))

  no_less : most_so_far H s ≤ most_so_far now s
  no_less = omega (arith, served_now, answered_now, aside_now, closed_now)

-- ---- one entry more
most_push : (H : List Entry) (e : Entry) → sum_by most_of (H ++ e ∷ []) ≡ sum_by most_of H + most_of e
most_push H e =
    let none : sum_by most_of [] ≡ 0 = refl in
    omega (arith, sum_by-append most_of H (e ∷ []), sum_by-cons most_of e [], none)

no_band : (plan : Plan) → plan.bands ≡ [] → (g : ℕ) → band_of plan g ≡ 0
no_band plan none g = ap (λ (points : List ℕ). count_by (λ point. nat_le point g) points) none

same_session : (s : ℕ) → (s == s) ≡ true
same_session s = eq-eqb s s refl

not_closed : (plan : Plan) (H : List Entry) (s : ℕ) (at : Place) → place plan H s ≡ Some at → GoesOn at → is_closed H s ≡ false
not_closed plan H s (Pending step) at goes = (pending plan H s step at).not_closed
not_closed plan H s (Waiting step item proved) at goes = (waiting plan H s step item proved at).not_closed
not_closed plan H s Complete at goes = absurd goes
not_closed plan H s Over at goes = absurd goes

module _ (b : Tables) (plan : Plan) (one_band : plan.bands ≡ []) (H : List Entry) (run : LegalRun b plan H) where
  numbered : (s : ℕ) (at : Place) → place plan H s ≡ Some at → s < sessions H
  numbered s at is = (sessions_are_numbered b plan H s run).0 (there plan H s at is)

  -- an entry of a session that was started
  in_session : (e : Entry) (s : ℕ) → starts e ≡ false → s < sessions H → most_so_far H s + most_of e ≤ most_so_far (H ++ e ∷ []) s
      → sum_by most_of H ≤ total (sessions H) (most_so_far H) → sum_by most_of (H ++ e ∷ []) ≤ total (sessions (H ++ e ∷ [])) (most_so_far (H ++ e ∷ []))
  in_session e s other lt here so_far =
      let n : sessions (H ++ e ∷ []) ≡ sessions H = sessions-push H e ∙ (ap (λ (t : Bool). sessions H + cond t 1 0) other ∙ omega arith) in
      let f = most_so_far H in
      let g = most_so_far (H ++ e ∷ []) in
      let more_now = total_more (sessions H) s (most_of e) f g (no_less H e) lt here in
      subst (λ (k : ℕ). sum_by most_of (H ++ e ∷ []) ≤ total k g) (sym n) (omega (arith, more_now, most_push H e, so_far))

  step : (e : Entry) → Legal b plan H e → sum_by most_of H ≤ total (sessions H) (most_so_far H) → sum_by most_of (H ++ e ∷ []) ≤ total (sessions (H ++ e ∷ [])) (most_so_far (H ++ e ∷ []))
  step (Started s booking eligible without) legal so_far =
      let e : Entry = Started s booking eligible without in
      let n : sessions (H ++ e ∷ []) ≡ suc (sessions H) = sessions-push H e ∙ omega arith in
      let f = most_so_far H in
      let g = most_so_far (H ++ e ∷ []) in
      let last : 659 ≤ g (sessions H) = omega arith in
      subst (λ (k : ℕ). sum_by most_of (H ++ e ∷ []) ≤ total k g) (sym n) (omega (arith, most_push H e, so_far, last, total_le (sessions H) f g (no_less H e)))
  step (SetAside s at band cause nodes) legal so_far =
      let e : Entry = SetAside s at band cause nodes in
      let theta = legal.is_problem.of_seat.theta in
      let zero_band : band ≡ 0 = legal.band_is ∙ no_band plan one_band legal.problem.theta in
      let before : is_set_aside H s 0 ≡ false =
      ap (λ (k : ℕ). is_aside_in (seat_of H s) k) (sym (no_band plan one_band theta)) ∙ (sym (ap (λ (P : Problem). P.aside) legal.is_problem.of_seat.is) ∙ legal.not_aside) in
      let here : sets_session_aside s 0 e ≡ true = rw (same_session s, zero_band) refl in
      let after : is_set_aside (H ++ e ∷ []) s 0 ≡ true = aside-push H e s 0 ∙ rw (before, here) refl in
      in_session e s refl (numbered s (Pending at) legal.is_problem.pending)
      (omega (arith, served_now H e s, answered_now H e s, ap flag before, ap flag after, closed_now H e s)) so_far
  step (Served s at item form proved nodes) legal so_far =
      let e : Entry = Served s at item form proved nodes in
      let one : length (filter_map (session_serving s) (e ∷ [])) ≡ 1 = rw (same_session s) refl in
      in_session e s refl (numbered s (Pending at) legal.is_problem.pending)
      (omega (arith, served_now H e s, one, answered_now H e s, aside_now H e s, closed_now H e s)) so_far
  step (Answered s at response) legal so_far =
      let e : Entry = Answered s at response in
      let one : length (filter_map (session_answer s) (e ∷ [])) ≡ 1 = rw (same_session s) refl in
      in_session e s refl (numbered s (Waiting at legal.item legal.proved) legal.waiting)
      (omega (arith, served_now H e s, one, answered_now H e s, aside_now H e s, closed_now H e s)) so_far
  step (Closed s) legal so_far =
      let e : Entry = Closed s in
      let before : is_closed H s ≡ false = not_closed plan H s legal.at legal.stands legal.goes_on in
      let here : closes_session s e ≡ true = same_session s in
      let after : is_closed (H ++ e ∷ []) s ≡ true = closed-push H e s ∙ rw (before, here) refl in
      in_session e s refl (numbered s legal.at legal.stands)
      (omega (arith, served_now H e s, answered_now H e s, aside_now H e s, ap flag before, ap flag after)) so_far

-- ---- all entries
module _ (b : Tables) (plan : Plan) where
  by_sessions : plan.bands ≡ [] → (H : List Entry) → LegalRun b plan H → sum_by most_of H ≤ total (sessions H) (most_so_far H)
  by_sessions one_band _ empty =
      let none : sum_by most_of [] ≡ 0 = refl in
      omega (arith, none)
  by_sessions one_band _ (more H e run legal) = step b plan one_band H run e legal (by_sessions one_band H run)

  -- no more items are served in a session than the test has
  few_served : (s : ℕ) (H : List Entry) → LegalRun b plan H → length (servings H s) ≤ plan.length
  few_served s _ empty = omega arith
  few_served s _ (more H (Started t booking eligible without) run legal) = omega (arith, served_now H (Started t booking eligible without) s, few_served s H run)
  few_served s _ (more H (SetAside t at band cause nodes) run legal) = omega (arith, served_now H (SetAside t at band cause nodes) s, few_served s H run)
  few_served s _ (more H (Answered t at response) run legal) = omega (arith, served_now H (Answered t at response) s, few_served s H run)
  few_served s _ (more H (Closed t) run legal) = omega (arith, served_now H (Closed t) s, few_served s H run)
  few_served s _ (more H (Served t at item form proved nodes) run legal) = elim (either (t == s)) [
    | inl same ↦
        let here = pending plan H s at (subst (λ (u : ℕ). place plan H u ≡ Some (Pending at)) (eqb-true t s same) legal.is_problem.pending) in
        let one : length (filter_map (session_serving s) (Served t at item form proved nodes ∷ [])) ≡ 1 = rw same refl in
        omega (arith, served_now H (Served t at item form proved nodes) s, one, all_answered plan H s at (in_order b plan H s run) here, here.not_full)
    | inr other ↦
        let none : length (filter_map (session_serving s) (Served t at item form proved nodes ∷ [])) ≡ 0 = rw other refl in
        omega (arith, served_now H (Served t at item form proved nodes) s, none, few_served s H run)
  ]

  session_is_short : (H : List Entry) → LegalRun b plan H → (s : ℕ) → most_so_far H s ≤ most_of_session plan
  session_is_short H run s = omega (arith, few_served s H run, (in_order b plan H s run).few, flag_few (is_set_aside H s 0), flag_few (is_closed H s))

  run_is_short : plan.bands ≡ [] → (H : List Entry) → LegalRun b plan H → sum_by most_of H ≤ plan.sessions * most_of_session plan
  run_is_short one_band H run =
      let few = total_most (sessions H) (most_of_session plan) (most_so_far H) (session_is_short H run) in
      omega (arith, by_sessions one_band H run, few, mul_le (sessions H) plan.sessions (most_of_session plan) (sessions_are_few b plan H run))
    where
      mul_le : (m n c : ℕ) → m ≤ n → m * c ≤ n * c
      mul_le zero n c le = omega arith
      mul_le (suc m) zero c le = absurd (omega arith)
      mul_le (suc m) (suc n) c le = omega (arith, suc-mul m c, suc-mul n c, mul_le m n c (omega arith))

-- ---- the frames
frames_end : (at : ℕ) (R : List Record) → AllByRecursion IsRecord R → end_of at (map payload_of R) ≤ at + sum_by most_of (entries_of R)
frames_end at [] is =
    let none : sum_by most_of (entries_of []) ≡ 0 = refl in
    omega (arith, none)
frames_end at (r ∷ R) is =
    let ends : end_of at (map payload_of (r ∷ R)) ≡ end_of (at + 5 + length (payload_of r)) (map payload_of R) = refl in
    let sum_is : sum_by most_of (entries_of (r ∷ R)) ≡ most_of r.entry + sum_by most_of (entries_of R) = sum_by-cons most_of r.entry (entries_of R) in
    omega (arith, ends, sum_is, frames_end (at + 5 + length (payload_of r)) R is.1, frames_are_short r is.0)

pub journals_are_short : JournalsAreShort
journals_are_short b plan R one_band is backed =
    omega (arith, frames_end 8 R is, run_is_short b plan one_band (entries_of R) (backed_is_legal_run b plan R backed))
