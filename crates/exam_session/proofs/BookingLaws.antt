-- What a search finds among sessions in the order of their bookings, and what an insertion at that
-- place does.
use Rattle.std.proofs.Common.{◌≡◌, ℕ, zero, suc, ◌+◌, ◌-◌, ◌<◌, ◌≤◌, ◌==◌, false, cond, List, [], ◌∷◌, ◌++◌, length, get_or, ltb, slice_get, Option, Some, None, refl, sym, ap, ◌∙◌, subst, arith, inl, inr}
use Rattle.std.specs.List.{insert}
use Rattle.std.proofs.Math.ListN.{get_or-append}
use Rattle.std.proofs.lemmas.Bool.{cases_lt}
use Rattle.std.proofs.lemmas.Option.{slice_get-get_or}
use Rattle.std.proofs.lemmas.Bool.Decides.{nat_tests}
use Rattle.std.specs.List.Sorted.{IsNonDecreasingBy}
use Rattle.std.proofs.lemmas.List.Sorted.{IsNonDecreasingBy-from_default}
use Rattle.std.proofs.lemmas.List.Edits.{length-insert, get_or-insert_below, get_or-insert_at, get_or-insert_above}
use Rattle.exam_session.specs.Bookings.{booking_of, session_with, booking_at, IsRising, IsPlaceFor}

pub not_below : (n m : ℕ) → ltb n m ≡ false → m ≤ n
not_below n m fails = grind (arith, nat_tests)

-- the session at a place, or none
pub same_session : (l : List ℕ) (n one other : ℕ) → slice_get l n ≡ Some one → slice_get l n ≡ Some other → one ≡ other
same_session l n one other e f = cc

pub no_session : (l : List ℕ) (n session : ℕ) → slice_get l n ≡ None → slice_get l n ≡ Some session → ⊥
no_session l n session e f = absurd (cc)

module _ (bookings : List ℕ) where
  -- bookings that rise don't fall
  pub do_not_fall : (l : List ℕ) → IsRising bookings l → IsNonDecreasingBy (booking_of bookings) l
  do_not_fall l rising = IsNonDecreasingBy-from_default (booking_of bookings) l 0 (λ i j le within. elim (cases_lt i j) [
    | inl before ↦ omega (arith, rising i j before within)
    | inr at ↦ (let same : i ≡ j = omega arith in let equal : booking_at bookings l i ≡ booking_at bookings l j = ap (booking_at bookings l) same in omega arith)
  ])

  -- no session before the place has the booking
  abbrev pub IsNewBefore : List ℕ → ℕ → ℕ → Type 0
  IsNewBefore l booking place = (k : ℕ) → k < place → booking_at bookings l k ≡ booking → ⊥

  tail_is_new : (x : ℕ) (l : List ℕ) (booking n : ℕ) → IsNewBefore (x ∷ l) booking (suc n) → IsNewBefore l booking n
  tail_is_new x l booking n new k below = new (suc k) (omega arith)

  -- a booking that no session has isn't found
  pub absent : (l : List ℕ) (booking : ℕ) → IsNewBefore l booking (length l) → session_with bookings l booking ≡ None
  absent [] booking new = refl
  absent (x ∷ l) booking new = grind (arith, nat_tests, new 0 (omega arith), absent l booking (tail_is_new x l booking _ new))

  -- the first session that has it is found
  pub present : (l : List ℕ) (booking n session : ℕ) → slice_get l n ≡ Some session → booking_of bookings session ≡ booking → IsNewBefore l booking n → session_with bookings l booking ≡ Some session
  present [] booking n session there same new = absurd (cc)
  present (x ∷ l) booking zero session there same new = let is : x ≡ session = cc in subst (λ (s : ℕ). cond (booking_of bookings s == booking) (Some s) (session_with bookings l booking) ≡ Some session) (sym is) (grind (arith, nat_tests))
  present (x ∷ l) booking (suc n) session there same new = grind (arith, nat_tests, new 0 (omega arith), present l booking n session there same (tail_is_new x l booking n new))

  -- a session before any that has its booking is the one of that booking alone
  pub inserted : (l : List ℕ) (booking session n : ℕ) → booking_of bookings session ≡ booking → IsNewBefore l booking n → (other : ℕ) → session_with bookings (insert l n session) other ≡ cond (booking == other) (Some session) (session_with bookings l other)
  inserted l booking session zero is new other = ap (λ (k : ℕ). cond (k == other) (Some session) (session_with bookings l other)) is
  inserted [] booking session (suc n) is new other = ap (λ (k : ℕ). cond (k == other) (Some session) None) is
  inserted (x ∷ l) booking session (suc n) is new other = grind (arith, nat_tests, new 0 (omega arith), inserted l booking session n is (tail_is_new x l booking n new) other)

  -- a booking of a rising order has a session
  pub found : (l : List ℕ) (booking k : ℕ) → IsRising bookings l → k < length l → booking_at bookings l k ≡ booking → session_with bookings l booking ≡ None → ⊥
  found l booking k rising within same unbooked = differ _ (sym some ∙ unbooked)
    where
      new : IsNewBefore l booking k
      new i below here = omega (arith, rising i k below within)

      some : session_with bookings l booking ≡ Some (get_or l k 0)
      some = present l booking k (get_or l k 0) (slice_get-get_or l k 0 within) same new

      differ : (x : ℕ) → Some x ≡ None → ⊥
      differ x e = cc

-- ---- at the place for a booking
module _ (bookings l : List ℕ) (booking place : ℕ) (is : IsPlaceFor bookings l booking place) where
  pub new_before : IsNewBefore bookings l booking place
  new_before k below same = omega (arith, is.lower k below)

  -- where the session at the place has another booking, or there is none, none has it
  pub not_there : IsRising bookings l → ((session : ℕ) → slice_get l place ≡ Some session → booking_of bookings session ≡ booking → ⊥) → session_with bookings l booking ≡ None
  not_there rising other = absent bookings l booking (λ k within same. elim (cases_lt k place) [
    | inl before ↦ omega (arith, is.lower k before)
    | inr past ↦ (let reaches : place < length l = omega arith in
        let here : booking_at bookings l place ≡ booking → ⊥ = λ e. other (get_or l place 0) (slice_get-get_or l place 0 reaches) e in
        elim (cases_lt place k) [
          | inl later ↦ omega (arith, rising place k later within, is.not_lower place (omega arith) reaches)
          | inr at ↦ (let equal : place ≡ k = omega arith in here (ap (booking_at bookings l) equal ∙ same))
        ])
  ])

  -- where the booking is new, an insertion keeps the order
  pub rises : (session : ℕ) → booking_of bookings session ≡ booking → session_with bookings l booking ≡ None → IsRising bookings l → IsRising bookings (insert l place session)
  rises session has_it unbooked rising i j below within =
      let new = insert l place session in
      let number = booking_of bookings in
      let longer = length-insert l place session is.within in
      let higher : (k : ℕ) → place ≤ k → k < length l → booking < booking_at bookings l k = λ k past k_in. (let low = is.not_lower k past k_in in let other = λ (e : booking_at bookings l k ≡ booking). found bookings l booking k rising k_in e unbooked in grind arith) in
      let at_below : (k : ℕ) → k < place → booking_at bookings new k ≡ booking_at bookings l k = λ k before. ap number (get_or-insert_below l place session 0 k before is.within) in
      let at_place : (k : ℕ) → k ≡ place → booking_at bookings new k ≡ booking = λ k here. rw here (ap number (get_or-insert_at l place session 0 is.within) ∙ has_it) in
      let at_above : (k : ℕ) → place < k → booking_at bookings new k ≡ booking_at bookings l (k - 1) = λ k above. subst (λ q. booking_at bookings new q ≡ booking_at bookings l (k - 1)) {x = k - 1 + 1} (omega arith) (ap number (get_or-insert_above l place session 0 (k - 1) (omega arith) is.within)) in
      grind (arith, at_below i, at_place i, at_above i, at_below j, at_place j, at_above j, rising i j, rising i (j - 1), rising (i - 1) (j - 1), is.lower i, higher (j - 1))

-- ---- with the booking of a session more, of which the order knows nothing
module _ (bookings : List ℕ) (one : ℕ) where
  -- each session of the order has a booking
  abbrev pub AreKnown : List ℕ → Type 0
  AreKnown l = (k : ℕ) → k < length l → get_or l k 0 < length bookings

  pub same_booking : (session : ℕ) → session < length bookings → booking_of (bookings ++ one ∷ []) session ≡ booking_of bookings session
  same_booking session below = get_or-append bookings (one ∷ []) 0 session below

  pub same_at : (l : List ℕ) (k : ℕ) → AreKnown l → k < length l → booking_at (bookings ++ one ∷ []) l k ≡ booking_at bookings l k
  same_at l k known within = same_booking (get_or l k 0) (known k within)

  pub same_found : (l : List ℕ) → AreKnown l → (booking : ℕ) → session_with (bookings ++ one ∷ []) l booking ≡ session_with bookings l booking
  same_found [] known booking = refl
  same_found (x ∷ l) known booking =
      ap (λ (n : ℕ). cond (n == booking) (Some x) (session_with (bookings ++ one ∷ []) l booking)) (same_booking x (known 0 (omega arith)))
      ∙ ap (λ (o : Option ℕ). cond (booking_of bookings x == booking) (Some x) o) (same_found l (λ k within. known (suc k) (omega arith)) booking)

  pub same_rising : (l : List ℕ) → AreKnown l → IsRising bookings l → IsRising (bookings ++ one ∷ []) l
  same_rising l known rising i j below within =
      let first = same_at l i known (omega arith) in
      let second = same_at l j known within in
      omega (arith, first, second, rising i j below within)

  pub same_place_for : (l : List ℕ) (booking place : ℕ) → AreKnown l → IsPlaceFor bookings l booking place → IsPlaceFor (bookings ++ one ∷ []) l booking place
  same_place_for l booking place known is = record {
    within = is.within;
    lower = λ k below. omega (arith, same_at l k known (omega (arith, is.within)), is.lower k below);
    not_lower = λ k past within. omega (arith, same_at l k known within, is.not_lower k past within);
  }
