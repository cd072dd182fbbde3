-- The counters of a band after one entry more.
use Rattle.std.proofs.Common.{◌≡◌, ℕ, zero, suc, ◌+◌, ◌<◌, Bool, true, false, not, cond, ◌&&◌, ◌||◌, ◌==◌, List, [], ◌∷◌, ◌++◌, length, Option, Some, None, refl, sym, ap, ◌∙◌, arith}
use Rattle.std.specs.Prelude.{slice_index_or}
use Rattle.std.proofs.Math.Bool.{true≢false}
use Rattle.bank_tables.specs.Items.{Set}
use Rattle.bank_tables.specs.Sums.{any_below}
use Rattle.bank_tables.specs.Tables.{Tables, size}
use Rattle.serving_model.specs.declared.seat.Seat.{Seat}
use Rattle.form_model.specs.Plan.{Plan}
use Rattle.serving_model.specs.Seats.{band_at, first_band, is_shown_in, is_available_in, is_withheld, visits}
use Rattle.history_model.specs.declared.counts.Counts.{Counts}
use Rattle.history_model.specs.declared.entry.Entry.{Entry}
use Rattle.history_model.specs.Entries.{seat_of}
use Rattle.history_model.specs.Counts.{shows_in, opens_in, band_counts, visited}
use Rattle.history_model.specs.Laws.{finished_by, number_after, counts_after}
use Rattle.history_model.proofs.CountLaws.{band_counts_go_on, visited_goes_on}
use Rattle.exposure_counters.specs.Tallies.{Tally, counts_at, counted}
use Rattle.history_model.specs.Legality.{Legal, LegalRun}
use Rattle.exam_session.specs.Kept.{AreBandCounts}
use Rattle.exam_session.specs.Visits.{IsCountedIn}

-- an entry that finishes no session leaves the counters of each band
pub band_stays : (b : Tables) (plan : Plan) (H : List Entry) (e : Entry) (band : ℕ) (tally : Tally) → 0 < plan.length → LegalRun b plan H → Legal b plan H e → finished_by plan e ≡ None
    → AreBandCounts b plan H band tally → AreBandCounts b plan (H ++ e ∷ []) band tally
band_stays b plan H e band tally some run legal none kept = record {
  number = kept.number;
  each = λ i below. kept.each i below ∙ sym (band_counts_go_on b plan H e band i some run legal ∙ ap (λ (o : Option ℕ). counts_after H o (shows_in b plan band i) (opens_in b plan band i) (band_counts b plan H band i)) none);
  finished = kept.finished ∙ sym (visited_goes_on b plan H e band some run legal ∙ ap (λ (o : Option ℕ). number_after H o (λ seat. visits b plan seat band) (visited b plan H band)) none);
}

-- ---- a band that wasn't visited has no item shown, and none open
none_of : (n : ℕ) (p q : Set) → any_below n p ≡ false → any_below n (λ k. q k && p k) ≡ false
none_of zero p q e = refl
none_of (suc n) p q e = by (any_below n p) (p n) e (none_of n p q)
  where
    by : (before here : Bool) → (before || here) ≡ false → (before ≡ false → any_below n (λ k. q k && p k) ≡ false) → (any_below n (λ k. q k && p k) || (q n && here)) ≡ false
    by true here h rest = absurd (true≢false h)
    by false true h rest = absurd (true≢false h)
    by false false h rest = rw (rest refl) (nothing (q n))
      where
        nothing : (t : Bool) → (t && false) ≡ false
        nothing true = refl
        nothing false = refl

or_none : (a c : Bool) → (a || c) ≡ false → c ≡ false
or_none true c e = absurd (true≢false e)
or_none false c e = e

not_shown : (b : Tables) (plan : Plan) (seat : Seat) (band i : ℕ) → visits b plan seat band ≡ false → is_shown_in b plan seat band i ≡ false
not_shown b plan seat band i e =
    none_of (length seat.shown) (λ step. band_at b plan seat step == band) (λ step. slice_index_or seat.shown step 0 == i)
    (or_none (first_band b plan == band) (any_below (length seat.shown) (λ step. band_at b plan seat step == band)) e)

plus_none : (n : ℕ) (t : Bool) → t ≡ false → n + cond t 1 0 ≡ n
plus_none n true e = absurd (true≢false e)
plus_none n false e = omega arith

same_counts : (a c d f : ℕ) → a ≡ d → c ≡ f → (let x : Counts = record { alpha = a; eps = c } in let y : Counts = record { alpha = d; eps = f } in x ≡ y)
same_counts a c d f e g = cc

-- an entry that finishes a session which did not visit the band
pub band_is_passed : (b : Tables) (plan : Plan) (H : List Entry) (e : Entry) (s band : ℕ) (tally : Tally) → 0 < plan.length → LegalRun b plan H → Legal b plan H e → finished_by plan e ≡ Some s
    → visits b plan (seat_of H s) band ≡ false → AreBandCounts b plan H band tally → AreBandCounts b plan (H ++ e ∷ []) band tally
band_is_passed b plan H e s band tally some run legal finishes away kept = record {
  number = kept.number;
  each = λ i below. kept.each i below ∙ sym (band_counts_go_on b plan H e band i some run legal ∙ (ap (λ (o : Option ℕ). counts_after H o (shows_in b plan band i) (opens_in b plan band i) (band_counts b plan H band i)) finishes ∙ same_counts _ _ _ _ (plus_none _ _ (not_shown b plan (seat_of H s) band i away)) (plus_none _ _ (not_open i))));
  finished = kept.finished ∙ sym (visited_goes_on b plan H e band some run legal ∙ (ap (λ (o : Option ℕ). number_after H o (λ seat. visits b plan seat band) (visited b plan H band)) finishes ∙ plus_none _ _ away));
}
  where
    not_open : (i : ℕ) → opens_in b plan band i (seat_of H s) ≡ false
    not_open i = ap (λ (t : Bool). t && (is_available_in (seat_of H s) band i && not (is_withheld (seat_of H s) i))) away

-- one that finishes a session which visited it counts the items shown there and those open there
pub band_goes_on : (b : Tables) (plan : Plan) (H : List Entry) (e : Entry) (s band : ℕ) (old new : Tally) → 0 < plan.length → LegalRun b plan H → Legal b plan H e → finished_by plan e ≡ Some s
    → visits b plan (seat_of H s) band ≡ true → IsCountedIn b plan band (seat_of H s) old new → AreBandCounts b plan H band old → AreBandCounts b plan (H ++ e ∷ []) band new
band_goes_on b plan H e s band old new some run legal finishes there counts kept = record {
  number = counts.items ∙ kept.number;
  each = each;
  finished = counts.finished ∙ (ap (λ (n : ℕ). n + 1) kept.finished ∙ sym (visited_goes_on b plan H e band some run legal ∙ (ap (λ (o : Option ℕ). number_after H o (λ seat. visits b plan seat band) (visited b plan H band)) finishes ∙ ap (λ (t : Bool). visited b plan H band + cond t 1 0) there)));
}
  where
    seat : Seat
    seat = seat_of H s

    open' : (i : ℕ) → opens_in b plan band i seat ≡ (is_available_in seat band i && not (is_withheld seat i))
    open' i = ap (λ (t : Bool). t && (is_available_in seat band i && not (is_withheld seat i))) there

    each : (i : ℕ) → i < size b → counts_at new i ≡ band_counts b plan (H ++ e ∷ []) band i
    each i below =
        counts.counts i
        ∙ (ap (λ (c : Counts). counted c (counts.shown i) (counts.eligible i)) (kept.each i below)
        ∙ (ap (λ (t : Bool). counted (band_counts b plan H band i) t (counts.eligible i)) (counts.shown_is i below)
        ∙ (ap (λ (t : Bool). counted (band_counts b plan H band i) (is_shown_in b plan seat band i) t) (counts.eligible_is i below ∙ sym (open' i))
        ∙ sym (band_counts_go_on b plan H e band i some run legal ∙ ap (λ (o : Option ℕ). counts_after H o (shows_in b plan band i) (opens_in b plan band i) (band_counts b plan H band i)) finishes))))
