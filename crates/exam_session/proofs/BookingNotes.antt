-- The bookings of a book after one entry more.
use Rattle.std.proofs.Common.{◌≡◌, ℕ, ◌+◌, ◌-◌, ◌<◌, Bool, true, false, cond, ◌==◌, List, [], ◌∷◌, ◌++◌, length, length-append, get_or, slice_get, Option, Some, None, refl, sym, ap, ◌∙◌, subst, arith}
use Rattle.std.specs.List.{filter_map, insert}
use Rattle.std.proofs.lemmas.List.Edits.{length-insert, get_or-insert_below, get_or-insert_at, get_or-insert_above}
use Rattle.std.proofs.Math.Seq.{get_or-append_seam}
use Rattle.std.proofs.lemmas.Bool.{eqb-true}
use Rattle.std.proofs.lemmas.List.Elements.{filter_map-append}
use Rattle.bank_tables.specs.Tables.{Tables}
use Rattle.form_model.specs.Plan.{Plan}
use Rattle.history_model.specs.declared.entry.Bands.{Bands}
use Rattle.history_model.specs.declared.entry.Entry.{Entry}
use Rattle.history_model.specs.declared.entry.Without.{Without}
use Rattle.history_model.specs.declared.entry.Entry.TheVariants.{Started, SetAside, Served, Answered, Closed}
use Rattle.history_model.specs.Entries.{starts, sessions, holder_of, holder}
use Rattle.history_model.specs.Legality.{Legal}
use Rattle.history_model.proofs.Pushed.{list_end, sessions-push}
use Rattle.exam_session.specs.Bookings.{booking_of, session_with, IsPlaceFor, AreBookings}
use Rattle.exam_session.proofs.BookingLaws.{inserted, new_before, rises, same_found, same_rising, same_place_for}
use Rattle.exam_session.proofs.SeatNotes.{same_sessions}

-- ---- the session of a booking, after a start
first_of : {A : Type 0} (xs ys : List A) (x : A) → slice_get xs 0 ≡ Some x → slice_get (xs ++ ys) 0 ≡ Some x
first_of [] ys x e = absurd (cc)
first_of (z ∷ xs) ys x e = e

first_after : {A : Type 0} (xs ys : List A) → slice_get xs 0 ≡ None → slice_get (xs ++ ys) 0 ≡ slice_get ys 0
first_after [] ys e = refl
first_after (z ∷ xs) ys e = absurd (cc)

holder-push : (H : List Entry) (e : Entry) (booking : ℕ) → holder (H ++ e ∷ []) booking ≡ slice_get (filter_map (holder_of booking) H ++ filter_map (holder_of booking) (e ∷ [])) 0
holder-push H e booking = ap (λ (xs : List ℕ). slice_get xs 0) (filter_map-append (holder_of booking) H (e ∷ []))

still_held : (H : List Entry) (e : Entry) (booking s : ℕ) → holder H booking ≡ Some s → holder (H ++ e ∷ []) booking ≡ Some s
still_held H e booking s held = holder-push H e booking ∙ first_of (filter_map (holder_of booking) H) (filter_map (holder_of booking) (e ∷ [])) s held

only_new : (H : List Entry) (e : Entry) (booking : ℕ) → holder H booking ≡ None → holder (H ++ e ∷ []) booking ≡ slice_get (filter_map (holder_of booking) (e ∷ [])) 0
only_new H e booking none = holder-push H e booking ∙ first_after (filter_map (holder_of booking) H) (filter_map (holder_of booking) (e ∷ [])) none

-- the sessions of the bookings after a start
given : (session booking : ℕ) (eligible : Bands) (without : Option Without) (other : ℕ) → slice_get (filter_map (holder_of other) (Started session booking eligible without ∷ [])) 0 ≡ cond (booking == other) (Some session) None
given session booking eligible without other = by (booking == other)
  where
    by : (t : Bool) → slice_get (filter_map (λ (x : Entry). cond t (Some session) None) (Started session booking eligible without ∷ [])) 0 ≡ cond t (Some session) None
    by true = refl
    by false = refl

goes_on : (H : List Entry) (session booking : ℕ) (eligible : Bands) (without : Option Without) → holder H booking ≡ None → (other : ℕ) → holder (H ++ Started session booking eligible without ∷ []) other ≡ cond (booking == other) (Some session) (holder H other)
goes_on H session booking eligible without unbooked other = by (holder H other) refl (booking == other) refl
  where
    by : (o : Option ℕ) → holder H other ≡ o → (t : Bool) → (booking == other) ≡ t → holder (H ++ Started session booking eligible without ∷ []) other ≡ cond t (Some session) (holder H other)
    by None was true same = only_new H _ other was ∙ (given session booking eligible without other ∙ ap (λ (t : Bool). cond t (Some session) None) same)
    by None was false same = only_new H _ other was ∙ (given session booking eligible without other ∙ (ap (λ (t : Bool). cond t (Some session) None) same ∙ sym was))
    by (Some s) was true same = let equal = eqb-true booking other same in absurd (differ s (sym was ∙ (ap (holder H) (sym equal) ∙ unbooked)))
      where
        differ : (x : ℕ) → Some x ≡ None → ⊥
        differ x e = cc
    by (Some s) was false same = still_held H _ other s was ∙ sym was

-- a start adds its booking, and its session at the place for it
pub bookings_started : (b : Tables) (plan : Plan) (H : List Entry) (bookings order : List ℕ) (session booking place : ℕ) (eligible : Bands) (without : Option Without) → IsPlaceFor bookings order booking place → Legal b plan H (Started session booking eligible without) → AreBookings H bookings order
    → AreBookings (H ++ Started session booking eligible without ∷ []) (bookings ++ booking ∷ []) (insert order place session)
bookings_started b plan H bookings order session booking place eligible without is legal kept = record {
  number = number;
  ordered = ordered;
  known = known;
  rising = rises new order booking place at session has_it unbooked (same_rising bookings booking order kept.known kept.rising);
  each = each;
}
  where
    e : Entry
    e = Started session booking eligible without

    new : List ℕ
    new = bookings ++ booking ∷ []

    longer : length new ≡ length bookings + 1
    longer = omega (arith, length-append bookings (booking ∷ []))

    last : session ≡ length bookings
    last = legal.number.next ∙ sym kept.number

    number : length new ≡ sessions (H ++ e ∷ [])
    number = let more = sessions-push H e in let before = kept.number in omega (arith, longer)

    ordered : length (insert order place session) ≡ sessions (H ++ e ∷ [])
    ordered = let more = sessions-push H e in let before = kept.ordered in let one = length-insert order place session is.within in omega arith

    at : IsPlaceFor new order booking place
    at = same_place_for bookings booking order booking place kept.known is

    has_it : booking_of new session ≡ booking
    has_it = ap (booking_of new) last ∙ get_or-append_seam bookings booking [] 0

    unbooked : session_with new order booking ≡ None
    unbooked = same_found bookings booking order kept.known booking ∙ kept.each booking ∙ legal.not_booked

    known : (k : ℕ) → k < length (insert order place session) → get_or (insert order place session) k 0 < length new
    known k within =
        let one = length-insert order place session is.within in
        let before : k < place → get_or (insert order place session) k 0 ≡ get_or order k 0 = λ low. get_or-insert_below order place session 0 k low is.within in
        let here : k ≡ place → get_or (insert order place session) k 0 ≡ session = λ same. rw same (get_or-insert_at order place session 0 is.within) in
        let above : place < k → get_or (insert order place session) k 0 ≡ get_or order (k - 1) 0 = λ high. subst (λ q. get_or (insert order place session) q 0 ≡ get_or order (k - 1) 0) {x = k - 1 + 1} (omega arith) (get_or-insert_above order place session 0 (k - 1) (omega arith) is.within) in
        grind (arith, longer, last, is.within, kept.known k, kept.known (k - 1))

    each : (other : ℕ) → session_with new (insert order place session) other ≡ holder (H ++ e ∷ []) other
    each other =
        inserted new order booking session place has_it (new_before new order booking place at) other
        ∙ (ap (λ (o : Option ℕ). cond (booking == other) (Some session) o) (same_found bookings booking order kept.known other ∙ kept.each other) ∙ sym (goes_on H session booking eligible without legal.not_booked other))

-- ---- any other entry changes nothing
no_holder : (H : List Entry) (e : Entry) (booking : ℕ) → starts e ≡ false → holder (H ++ e ∷ []) booking ≡ holder H booking
no_holder H (Started session other eligible without) booking no_start = absurd (cc)
no_holder H (SetAside session step band cause nodes) booking no_start = holder-push H (SetAside session step band cause nodes) booking ∙ ap (λ (xs : List ℕ). slice_get xs 0) (list_end (filter_map (holder_of booking) H))
no_holder H (Served session step item form proved nodes) booking no_start = holder-push H (Served session step item form proved nodes) booking ∙ ap (λ (xs : List ℕ). slice_get xs 0) (list_end (filter_map (holder_of booking) H))
no_holder H (Answered session step response) booking no_start = holder-push H (Answered session step response) booking ∙ ap (λ (xs : List ℕ). slice_get xs 0) (list_end (filter_map (holder_of booking) H))
no_holder H (Closed session) booking no_start = holder-push H (Closed session) booking ∙ ap (λ (xs : List ℕ). slice_get xs 0) (list_end (filter_map (holder_of booking) H))

pub bookings_kept : (H : List Entry) (bookings order : List ℕ) (e : Entry) → starts e ≡ false → AreBookings H bookings order → AreBookings (H ++ e ∷ []) bookings order
bookings_kept H bookings order e no_start kept = record {
  number = kept.number ∙ sym (same_sessions H e no_start);
  ordered = kept.ordered ∙ sym (same_sessions H e no_start);
  known = kept.known;
  rising = kept.rising;
  each = λ booking. kept.each booking ∙ sym (no_holder H e booking no_start);
}
