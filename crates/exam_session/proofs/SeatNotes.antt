-- The seats of a book after one entry more.
use Rattle.std.proofs.Common.{◌≡◌, ℕ, zero, suc, ◌+◌, inl, inr, Bool, true, false, cond, ◌==◌, List, [], ◌∷◌, ◌++◌, length, slice_get, Option, Some, refl, sym, ap, ◌∙◌, arith, length-append}
use Rattle.std.proofs.Math.Bool.{true≢false}
use Rattle.std.proofs.Math.ListN.{set}
use Rattle.std.proofs.lemmas.Bool.{eqb-true, eq-eqb}
use Rattle.std.proofs.lemmas.List.{length-set}
use Rattle.bank_tables.specs.Tables.{Tables}
use Rattle.serving_model.specs.declared.seat.Seat.{Seat}
use Rattle.form_model.specs.Plan.{Plan}
use Rattle.history_model.specs.declared.entry.Bands.{Bands}
use Rattle.history_model.specs.declared.entry.Entry.{Entry}
use Rattle.history_model.specs.declared.entry.Without.{Without}
use Rattle.history_model.specs.declared.entry.Entry.TheVariants.{Started, SetAside, Served, Answered, Closed}
use Rattle.history_model.specs.Entries.{session_of, starts, sessions, is_started, seat_of}
use Rattle.history_model.specs.Legality.{Legal, LegalRun}
use Rattle.history_model.specs.Laws.{no_seat, seat_with}
use Rattle.history_model.proofs.Pushed.{sessions-push}
use Rattle.history_model.proofs.Standing.{before_end}
use Rattle.history_model.proofs.Running.{sessions_are_numbered, seat_before_start, the_seat_goes_on}
use Rattle.exam_session.specs.Kept.{AreSeats}
use Rattle.exam_session.specs.KeptSeats.{started_seat}
use Rattle.exam_session.proofs.Lists.{pushed}

-- an entry of another session leaves a seat as it is
not_of : (s : ℕ) (seat : Seat) (e : Entry) → (session_of e == s) ≡ false → seat_with s seat e ≡ seat
not_of s seat (Started session booking eligible without) other = rw other refl
not_of s seat (SetAside session step band cause nodes) other = rw other refl
not_of s seat (Served session step item form proved nodes) other = rw other refl
not_of s seat (Answered session step response) other = rw other refl
not_of s seat (Closed session) other = rw other refl

-- an entry that isn't a start adds no session
pub same_sessions : (H : List Entry) (e : Entry) → starts e ≡ false → sessions (H ++ e ∷ []) ≡ sessions H
same_sessions H e no_start = sessions-push H e ∙ (ap (λ (t : Bool). sessions H + cond t 1 0) no_start ∙ omega arith)

-- a session that starts has the seat of one before its start, with the sets of the start
started_same : (s booking : ℕ) (eligible : Bands) (without : Option Without) (seat : Seat) → seat ≡ no_seat → seat_with s seat (Started s booking eligible without) ≡ started_seat no_seat eligible without
started_same s booking eligible without seat e = rw (eq-eqb s s refl) (ap (λ (x : Seat). started_seat x eligible without) e)

-- ---- a start adds a seat
pub seats_started : (b : Tables) (plan : Plan) (H : List Entry) (seats : List Seat) (session booking : ℕ) (eligible : Bands) (without : Option Without) → LegalRun b plan H → Legal b plan H (Started session booking eligible without) → AreSeats H seats
    → AreSeats (H ++ Started session booking eligible without ∷ []) (seats ++ started_seat no_seat eligible without ∷ [])
seats_started b plan H seats session booking eligible without run legal kept = record { number = number; each = each }
  where
    e : Entry
    e = Started session booking eligible without

    new : Seat
    new = started_seat no_seat eligible without

    number : length (seats ++ new ∷ []) ≡ sessions (H ++ e ∷ [])
    number = let more = sessions-push H e in let before = kept.number in let one = length-append seats (new ∷ []) in omega arith

    goes_on : (s : ℕ) → seat_of (H ++ e ∷ []) s ≡ seat_with s (seat_of H s) e
    goes_on s = the_seat_goes_on b plan H e s run legal

    not_started : is_started H session ≡ false
    not_started = by (is_started H session) refl
      where
        by : (t : Bool) → is_started H session ≡ t → t ≡ false
        by true f = let below = (sessions_are_numbered b plan H session run).0 f in let next = legal.number.next in absurd (omega arith)
        by false f = refl

    old : (s : ℕ) (seat : Seat) → slice_get seats s ≡ Some seat → seat ≡ seat_of (H ++ e ∷ []) s
    old s seat found = kept.each s seat found ∙ (sym (not_of s (seat_of H s) e other) ∙ sym (goes_on s))
      where
        other : (session == s) ≡ false
        other = by (session == s) refl
          where
            by : (t : Bool) → (session == s) ≡ t → t ≡ false
            by true f = let same = eqb-true session s f in let within = before_end seats s seat found in let next = legal.number.next in let before = kept.number in absurd (omega arith)
            by false f = refl

    last : (s : ℕ) (seat : Seat) → s ≡ length seats → seat ≡ new → seat ≡ seat_of (H ++ e ∷ []) s
    last s seat at is =
        let next = legal.number.next in
        let before = kept.number in
        let same : session ≡ s = omega arith in
        is ∙ (sym (started_same session booking eligible without (seat_of H session) (seat_before_start b plan H session run not_started)) ∙ (sym (goes_on session) ∙ ap (seat_of (H ++ e ∷ [])) same))

    each : (s : ℕ) (seat : Seat) → slice_get (seats ++ new ∷ []) s ≡ Some seat → seat ≡ seat_of (H ++ e ∷ []) s
    each s seat found = elim (pushed seats new seat s found) [ inl here ↦ old s seat here | inr at_end ↦ last s seat at_end.0 at_end.1 ]

-- ---- any other entry changes a seat
pub same_place : {A : Type 0} (xs : List A) (i : ℕ) (v y : A) → slice_get (set xs i v) i ≡ Some y → y ≡ v
same_place [] i v y e = absurd (cc)
same_place (x ∷ xs) zero v y e = cc
same_place (x ∷ xs) (suc i) v y e = same_place xs i v y e

pub other_place : {A : Type 0} (xs : List A) (i k : ℕ) (v : A) → (i ≡ k → ⊥) → slice_get (set xs i v) k ≡ slice_get xs k
other_place [] i k v other = refl
other_place (x ∷ xs) zero zero v other = absurd (other refl)
other_place (x ∷ xs) zero (suc k) v other = refl
other_place (x ∷ xs) (suc i) zero v other = refl
other_place (x ∷ xs) (suc i) (suc k) v other = other_place xs i k v (λ e. other (ap (λ (n : ℕ). suc n) e))

pub seats_changed : (b : Tables) (plan : Plan) (H : List Entry) (seats : List Seat) (e : Entry) (seat : Seat) → starts e ≡ false → LegalRun b plan H → Legal b plan H e → AreSeats H seats → slice_get seats (session_of e) ≡ Some seat
    → AreSeats (H ++ e ∷ []) (set seats (session_of e) (seat_with (session_of e) seat e))
seats_changed b plan H seats e seat no_start run legal kept found = record { number = number; each = each }
  where
    new : Seat
    new = seat_with (session_of e) seat e

    number : length (set seats (session_of e) new) ≡ sessions (H ++ e ∷ [])
    number = length-set seats (session_of e) new ∙ (kept.number ∙ sym (same_sessions H e no_start))

    goes_on : (s : ℕ) → seat_of (H ++ e ∷ []) s ≡ seat_with s (seat_of H s) e
    goes_on s = the_seat_goes_on b plan H e s run legal

    each : (s : ℕ) (x : Seat) → slice_get (set seats (session_of e) new) s ≡ Some x → x ≡ seat_of (H ++ e ∷ []) s
    each s x at = by (session_of e == s) refl
      where
        by : (t : Bool) → (session_of e == s) ≡ t → x ≡ seat_of (H ++ e ∷ []) s
        by true f =
            let same : session_of e ≡ s = eqb-true (session_of e) s f in
            let is : x ≡ new = same_place seats (session_of e) new x (ap (slice_get (set seats (session_of e) new)) same ∙ at) in
            is ∙ (ap (λ (y : Seat). seat_with (session_of e) y e) (kept.each (session_of e) seat found) ∙ (sym (goes_on (session_of e)) ∙ ap (seat_of (H ++ e ∷ [])) same))
        by false f = kept.each s x (sym (other_place seats (session_of e) s new (λ same. true≢false (sym (eq-eqb (session_of e) s same) ∙ f))) ∙ at) ∙ (sym (not_of s (seat_of H s) e f) ∙ sym (goes_on s))
