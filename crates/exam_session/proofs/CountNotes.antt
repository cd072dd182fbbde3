-- The exposure counts of a book after one entry more.
use Rattle.std.proofs.Common.{◌≡◌, ℕ, zero, suc, ◌+◌, ◌≤◌, ◌<◌, inl, inr, Bool, true, false, cond, ◌&&◌, ◌==◌, List, [], ◌∷◌, ◌++◌, length, set, slice_get, Option, Some, None, refl, sym, ap, ◌∙◌, subst, arith, get_or}
use Rattle.std.specs.Prelude.{is_some, nat_le, slice_index_or}
use Rattle.std.proofs.lemmas.Bool.{eqb-true, cases_eq}
use Rattle.std.proofs.lemmas.Option.{slice_get_read, slice_get-get_or}
use Rattle.bank_tables.specs.Items.{Set, has}
use Rattle.bank_tables.specs.Sums.{count_in}
use Rattle.bank_tables.specs.Tables.{Tables, size}
use Rattle.bank_tables.specs.Validity.{IsBank}
use Rattle.serving_model.specs.declared.seat.Seat.{Seat}
use Rattle.form_model.specs.Plan.{Plan}
use Rattle.serving_model.specs.Seats.{is_shown, is_shown_in, band_at, visits}
use Rattle.form_model.specs.Validity.{IsPlanFor}
use Rattle.form_model.proofs.SumLaws.{and_true, any_elim, either}
use Rattle.history_model.specs.declared.entry.Entry.{Entry}
use Rattle.history_model.specs.declared.entry.Entry.TheVariants.{Started, SetAside, Served, Answered, Closed}
use Rattle.history_model.specs.declared.counts.Counts.{Counts}
use Rattle.history_model.specs.Entries.{sessions, seat_of}
use Rattle.history_model.specs.Places.{is_finished}
use Rattle.history_model.specs.Counts.{counts, finished, shows, opens, visited}
use Rattle.history_model.specs.Legality.{Legal, LegalRun, more}
use Rattle.history_model.specs.Laws.{finished_by, number_after, counts_after}
use Rattle.history_model.proofs.Standing.{there, before_end}
use Rattle.history_model.proofs.Running.{sessions_are_numbered, seat_is_seat}
use Rattle.history_model.proofs.Bounds.{eligible_is_of_bank, sessions_are_few, finished_are_few}
use Rattle.history_model.proofs.CountLaws.{counts_go_on, finished_goes_on, visited_goes_on}
use Rattle.exposure_counters.specs.Tallies.{Tally, counts_at, counted}
use Rattle.shadow_select.proofs.ShownLaws.{found_at}
use Rattle.std.proofs.lemmas.List.{length-map, length-set}
use Rattle.exam_session.specs.Kept.{AreCounts, AreBandCounts, AreCountsByBand}
use Rattle.exam_session.specs.Visits.{IsCountedByBand, IsCountedOrNot, IsCountable}
use Rattle.exam_session.proofs.SeatNotes.{same_place, other_place}
use Rattle.exam_session.specs.declared.kept_seat.KeptSeat.{KeptSeat}
use Rattle.exam_session.specs.KeptSeats.{seat_kept, IsShort, AreKept}
use Rattle.exam_session.proofs.BandNotes.{band_stays, band_is_passed, band_goes_on}
use Rattle.exam_session.proofs.KeptLaws.{is_of, is_short}

-- ---- the number of finished sessions
no_more : (b : Tables) (plan : Plan) (H : List Entry) (e : Entry) → 0 < plan.length → LegalRun b plan H → Legal b plan H e → finished_by plan e ≡ None → finished plan (H ++ e ∷ []) ≡ finished plan H
no_more b plan H e some run legal none = finished_goes_on b plan H e some run legal ∙ (ap (λ (o : Option ℕ). finished plan H + cond (is_some o) 1 0) none ∙ omega arith)

one_more : (b : Tables) (plan : Plan) (H : List Entry) (e : Entry) (s : ℕ) → 0 < plan.length → LegalRun b plan H → Legal b plan H e → finished_by plan e ≡ Some s → finished plan (H ++ e ∷ []) ≡ finished plan H + 1
one_more b plan H e s some run legal finishes = finished_goes_on b plan H e some run legal ∙ ap (λ (o : Option ℕ). finished plan H + cond (is_some o) 1 0) finishes

-- ---- an entry that finishes no session
pub counts_kept : (b : Tables) (plan : Plan) (H : List Entry) (e : Entry) (tally : Tally) → 0 < plan.length → LegalRun b plan H → Legal b plan H e → finished_by plan e ≡ None → AreCounts b plan H tally → AreCounts b plan (H ++ e ∷ []) tally
counts_kept b plan H e tally some run legal none kept = record {
  number = kept.number;
  each = λ i below. kept.each i below ∙ sym (counts_go_on b plan H e i some run legal ∙ ap (λ (o : Option ℕ). counts_after H o (shows i) (opens b plan i) (counts b plan H i)) none);
  finished = kept.finished ∙ sym (no_more b plan H e some run legal none);
}

-- ---- an entry that finishes one
pub counts_more : (b : Tables) (plan : Plan) (H : List Entry) (e : Entry) (s : ℕ) (seat : Seat) (old new : Tally) (shown open' : ℕ → Bool)
    → 0 < plan.length → LegalRun b plan H → Legal b plan H e → finished_by plan e ≡ Some s → seat ≡ seat_of H s → AreCounts b plan H old
    → length new.counts ≡ length old.counts → ((i : ℕ) → counts_at new i ≡ counted (counts_at old i) (shown i) (open' i)) → new.finished ≡ old.finished + 1
    → ((i : ℕ) → shown i ≡ is_shown seat i) → ((i : ℕ) → i < size b → open' i ≡ opens b plan i seat)
    → AreCounts b plan (H ++ e ∷ []) new
counts_more b plan H e s seat old new shown open' some run legal finishes seat_is kept number counts_are next shown_are open_are = record {
  number = number ∙ kept.number;
  each = each;
  finished = next ∙ (ap (λ (n : ℕ). n + 1) kept.finished ∙ sym (one_more b plan H e s some run legal finishes));
}
  where
    each : (i : ℕ) → i < size b → counts_at new i ≡ counts b plan (H ++ e ∷ []) i
    each i below =
        counts_are i
        ∙ (ap (λ (c : Counts). counted c (shown i) (open' i)) (kept.each i below)
        ∙ (ap (λ (t : Bool). counted (counts b plan H i) t (open' i)) (shown_are i)
        ∙ (ap (λ (t : Bool). counted (counts b plan H i) (is_shown seat i) t) (open_are i below)
        ∙ (ap (λ (x : Seat). counted (counts b plan H i) (is_shown x i) (opens b plan i x)) seat_is
        ∙ sym (counts_go_on b plan H e i some run legal ∙ ap (λ (o : Option ℕ). counts_after H o (shows i) (opens b plan i) (counts b plan H i)) finishes)))))

-- the session that a legal entry finishes is there
pub finishes_session : (b : Tables) (plan : Plan) (H : List Entry) (e : Entry) (s : ℕ) → LegalRun b plan H → Legal b plan H e → finished_by plan e ≡ Some s → s < sessions H
finishes_session b plan H (Started session booking eligible without) s run legal e = absurd (cc)
finishes_session b plan H (SetAside session step band cause nodes) s run legal e = absurd (cc)
finishes_session b plan H (Served session step item form proved nodes) s run legal e = absurd (cc)
finishes_session b plan H (Answered session step response) s run legal e = by (nat_le plan.length (step + 1)) e
  where
    by : (t : Bool) → cond t (Some session) None ≡ Some s → s < sessions H
    by true f = let same : session ≡ s = cc in let below = (sessions_are_numbered b plan H session run).0 (there plan H session _ legal.waiting) in omega arith
    by false f = absurd (cc)
finishes_session b plan H (Closed session) s run legal e = let same : session ≡ s = cc in let below = (sessions_are_numbered b plan H session run).0 (there plan H session legal.at legal.stands) in omega arith

-- before it, fewer sessions are finished than a plan may allow
pub few_finished : (b : Tables) (plan : Plan) (H : List Entry) (e : Entry) (s : ℕ) (tally : Tally) → IsPlanFor b plan → LegalRun b plan H → Legal b plan H e → finished_by plan e ≡ Some s → AreCounts b plan H tally → tally.finished < 65536
few_finished b plan H e s tally valid run legal finishes kept =
    let on = one_more b plan H e s valid.some_items run legal finishes in
    let few = finished_are_few plan (H ++ e ∷ []) in
    let within = sessions_are_few b plan (H ++ e ∷ []) (more H e run legal) in
    let high = valid.few_sessions in
    let before = kept.finished in
    omega arith

-- the session of a legal entry that finishes one has a seat
pub finishes_seat : (b : Tables) (plan : Plan) (H : List Entry) (seats : List KeptSeat) (e : Entry) (s : ℕ) → LegalRun b plan H → Legal b plan H e → AreKept plan H seats → finished_by plan e ≡ Some s → s < length seats
finishes_seat b plan H seats e s run legal are finishes =
    let below = finishes_session b plan H e s run legal finishes in
    let number = are.are.number in
    let same = length-map seats seat_kept in
    omega arith

-- the seat at its place is that of the session
pub seat_at : (b : Tables) (plan : Plan) (H : List Entry) (seats : List KeptSeat) (e : Entry) (s : ℕ) (kept : KeptSeat) (seat : Seat) → LegalRun b plan H → Legal b plan H e → AreKept plan H seats → finished_by plan e ≡ Some s
    → kept ≡ get_or seats s kept → seat ≡ seat_kept kept → seat ≡ seat_of H s
seat_at b plan H seats e s kept seat run legal are finishes is of =
    of ∙ is_of plan H seats s kept are (slice_get_read seats (length seats) s kept refl (finishes_seat b plan H seats e s run legal are finishes) is)

pub short_at : (b : Tables) (plan : Plan) (H : List Entry) (seats : List KeptSeat) (e : Entry) (s : ℕ) (kept : KeptSeat) → IsBank b → IsPlanFor b plan → LegalRun b plan H → Legal b plan H e → AreKept plan H seats → finished_by plan e ≡ Some s
    → kept ≡ get_or seats s kept → IsShort kept
short_at b plan H seats e s kept bank valid run legal are finishes is =
    is_short b plan H seats s kept bank valid run are (slice_get_read seats (length seats) s kept refl (finishes_seat b plan H seats e s run legal are finishes) is)

pub shown_of_bank : (b : Tables) (plan : Plan) (H : List Entry) (s : ℕ) (seat : Seat) → LegalRun b plan H → seat ≡ seat_of H s → (i : ℕ) → is_shown seat i ≡ true → i < size b
shown_of_bank b plan H s seat run is i shown = (seat_is_seat b plan H s run).items i (subst (λ (x : Seat). is_shown x i ≡ true) is shown)

-- ---- the counts of each band
pub by_band_kept : (b : Tables) (plan : Plan) (H : List Entry) (e : Entry) (tallies : List Tally) → 0 < plan.length → LegalRun b plan H → Legal b plan H e → finished_by plan e ≡ None → AreCountsByBand b plan H tallies → AreCountsByBand b plan (H ++ e ∷ []) tallies
by_band_kept b plan H e tallies some run legal none kept = record { number = kept.number; each = λ band tally at. band_stays b plan H e band tally some run legal none (kept.each band tally at) }

-- a session that is counted in each band that it visited
pub by_band_more : (b : Tables) (plan : Plan) (H : List Entry) (e : Entry) (s : ℕ) (seat : Seat) (old new : List Tally) → 0 < plan.length → LegalRun b plan H → Legal b plan H e → finished_by plan e ≡ Some s → seat ≡ seat_of H s
    → IsCountedByBand b plan seat old new → AreCountsByBand b plan H old → AreCountsByBand b plan (H ++ e ∷ []) new
by_band_more b plan H e s seat old new some run legal finishes seat_is counted_so kept = record { number = counted_so.number ∙ kept.number; each = each }
  where
    so : IsCountedByBand b plan (seat_of H s) old new
    so = subst (λ (x : Seat). IsCountedByBand b plan x old new) seat_is counted_so

    of : (band : ℕ) (was is : Tally) → slice_get old band ≡ Some was → slice_get new band ≡ Some is → AreBandCounts b plan (H ++ e ∷ []) band is
    of band was is before after = elim (either (visits b plan (seat_of H s) band)) [
      | inl here ↦ band_goes_on b plan H e s band was is some run legal finishes here ((so.each band was is before after).there here) (kept.each band was before)
      | inr away ↦ subst (λ (t : Tally). AreBandCounts b plan (H ++ e ∷ []) band t) (sym ((so.each band was is before after).away away)) (band_is_passed b plan H e s band was some run legal finishes away (kept.each band was before))
    ]

    each : (band : ℕ) (tally : Tally) → slice_get new band ≡ Some tally → AreBandCounts b plan (H ++ e ∷ []) band tally
    each band tally at =
        let within = before_end new band tally at in
        let number = counted_so.number in
        let below : band < length old = omega arith in
        of band (get_or old band tally) tally (slice_get-get_or old band tally below) at

-- ---- it can be counted
at_most : (n : ℕ) (X p : Set) → count_in n X p ≤ n
at_most zero X p = omega arith
at_most (suc n) X p = let before = at_most n X p in by (X n) (p n) before
  where
    by : (t u : Bool) → count_in n X p ≤ n → count_in n X p + cond t (cond u 1 0) 0 ≤ suc n
    by true true h = omega arith
    by true false h = omega arith
    by false u h = omega arith

visited_few : (b : Tables) (plan : Plan) (H : List Entry) (band : ℕ) → visited b plan H band ≤ sessions H
visited_few b plan H band = at_most (sessions H) (is_finished plan H) (λ s. visits b plan (seat_of H s) band)

shown_in_is_shown : (b : Tables) (plan : Plan) (seat : Seat) (band i : ℕ) → is_shown_in b plan seat band i ≡ true → is_shown seat i ≡ true
shown_in_is_shown b plan seat band i shown =
    let (step, below, both) = any_elim (length seat.shown) (λ step. (slice_index_or seat.shown step 0 == i) && (band_at b plan seat step == band)) shown in
    let item : get_or seat.shown step 0 ≡ i = eqb-true _ _ (and_true (slice_index_or seat.shown step 0 == i) _ both).0 in
    found_at seat.shown step i (slice_get-get_or seat.shown step 0 below ∙ ap (λ (n : ℕ). Some n) item)

pub countable : (b : Tables) (plan : Plan) (H : List Entry) (e : Entry) (s : ℕ) (seat : Seat) (tallies : List Tally) → IsPlanFor b plan → LegalRun b plan H → Legal b plan H e → finished_by plan e ≡ Some s → seat ≡ seat_of H s
    → AreCountsByBand b plan H tallies → IsCountable b plan seat tallies
countable b plan H e s seat tallies valid run legal finishes seat_is kept = record {
  bands = kept.number;
  few = let few = valid.bands.few in omega arith;
  shown = λ band i shown. shown_of_bank b plan H s seat run seat_is i (shown_in_is_shown b plan seat band i shown);
  eligible = λ band i eligible. eligible_is_of_bank b plan H s band run i (subst (λ (x : Seat). has (get_or x.eligible band []) i ≡ true) seat_is eligible);
  number = λ band tally at. (kept.each band tally at).number;
  room = room;
}
  where
    room : (band : ℕ) (tally : Tally) → slice_get tallies band ≡ Some tally → visits b plan seat band ≡ true → tally.finished < 65536
    room band tally at here =
        let there' : visits b plan (seat_of H s) band ≡ true = subst (λ (x : Seat). visits b plan x band ≡ true) seat_is here in
        let on : visited b plan (H ++ e ∷ []) band ≡ visited b plan H band + 1 =
        visited_goes_on b plan H e band valid.some_items run legal
        ∙ (ap (λ (o : Option ℕ). number_after H o (λ x. visits b plan x band) (visited b plan H band)) finishes
        ∙ ap (λ (t : Bool). visited b plan H band + cond t 1 0) there') in
        let most = visited_few b plan (H ++ e ∷ []) band in
        let within = sessions_are_few b plan (H ++ e ∷ []) (more H e run legal) in
        let high = valid.few_sessions in
        let before = (kept.each band tally at).finished in
        omega arith

-- ---- the loop over the bands
pub record CountedSoFar (b : Tables) (plan : Plan) (seat : Seat) (n : ℕ) (first now : List Tally) : Type 0 where
  pub number : length now ≡ length first
  pub done : (band : ℕ) (was is : Tally) → band < n → slice_get first band ≡ Some was → slice_get now band ≡ Some is → IsCountedOrNot b plan band seat was is
  pub kept : (band : ℕ) → n ≤ band → slice_get now band ≡ slice_get first band

some_same : (x y : Tally) → Some x ≡ Some y → x ≡ y
some_same x y e = cc

pub counted_more : (b : Tables) (plan : Plan) (seat : Seat) (n : ℕ) (first now : List Tally) (old new : Tally) → slice_get now n ≡ Some old → IsCountedOrNot b plan n seat old new → CountedSoFar b plan seat n first now → CountedSoFar b plan seat (n + 1) first (set now n new)
counted_more b plan seat n first now old new at counts so_far = record {
  number = length-set now n new ∙ so_far.number;
  done = done;
  kept = λ band past. other_place now n band new (λ same. absurd (omega (arith, same, past))) ∙ so_far.kept band (omega (arith, past));
}
  where
    done : (band : ℕ) (was is : Tally) → band < n + 1 → slice_get first band ≡ Some was → slice_get (set now n new) band ≡ Some is → IsCountedOrNot b plan band seat was is
    done band was is below before after = elim (cases_eq band n) [
      | inl same ↦
          let this : is ≡ new = same_place now n new is (ap (slice_get (set now n new)) (sym same) ∙ after) in
          let that : was ≡ old = some_same was old (sym before ∙ (ap (slice_get first) same ∙ (sym (so_far.kept n (omega arith)) ∙ at))) in
          subst (λ (t : Tally). IsCountedOrNot b plan band seat was t) (sym this)
          (subst (λ (t : Tally). IsCountedOrNot b plan band seat t new) (sym that)
          (subst (λ (k : ℕ). IsCountedOrNot b plan k seat old new) (sym same) counts))
      | inr other ↦ so_far.done band was is (omega (arith, below, other)) before (sym (other_place now n band new (λ same. other (sym same))) ∙ after)
    ]

pub none_counted : (b : Tables) (plan : Plan) (seat : Seat) (first : List Tally) → CountedSoFar b plan seat 0 first first
none_counted b plan seat first = record { number = refl; done = λ band was is below. absurd (omega (arith, below)); kept = λ band past. refl }

pub all_counted : (b : Tables) (plan : Plan) (seat : Seat) (n : ℕ) (first now : List Tally) → length first ≤ n → CountedSoFar b plan seat n first now → IsCountedByBand b plan seat first now
all_counted b plan seat n first now all so_far = record {
  number = so_far.number;
  each = λ band was is before after. let within = before_end first band was before in so_far.done band was is (omega (arith, within, all)) before after;
}
