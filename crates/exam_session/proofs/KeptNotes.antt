-- The seats that a book keeps, after one entry more.
use Rattle.std.proofs.Common.{◌≡◌, ℕ, ◌≤◌, inl, inr, Bool, true, false, ◌==◌, List, [], ◌∷◌, ◌++◌, length, map, set, take, drop, slice_get, Option, Some, None, refl, sym, ap, ◌∙◌, subst, arith}
use Rattle.std.specs.Prelude.{IfSome, IsSome}
use Rattle.std.proofs.Math.Bool.{true≢false}
use Rattle.std.proofs.lemmas.Bool.{eqb-true, eq-eqb}
use Rattle.std.proofs.lemmas.List.{map-append, map-set, take-append-le, take_all}
use Rattle.bank_tables.specs.Tables.{Tables}
use Rattle.serving_model.specs.declared.seat.Seat.{Seat}
use Rattle.form_model.specs.Plan.{Plan}
use Rattle.history_model.specs.declared.entry.Bands.{Bands}
use Rattle.history_model.specs.declared.entry.Entry.{Entry}
use Rattle.history_model.specs.declared.entry.Without.{Without}
use Rattle.history_model.specs.declared.entry.Entry.TheVariants.{Started}
use Rattle.history_model.specs.Entries.{session_of, starts}
use Rattle.history_model.specs.Laws.{no_seat, seat_with}
use Rattle.history_model.specs.Legality.{Legal, LegalRun}
use Rattle.exam_session.specs.declared.kept_seat.KeptSeat.{KeptSeat}
use Rattle.exam_session.specs.Kept.{AreSeats}
use Rattle.exam_session.specs.KeptSeats.{seat_kept, HasRoom, KeepsRoom, IsSpare, AreKept, StartsSeat, started_seat}
use Rattle.exam_session.proofs.Lists.{pushed}
use Rattle.exam_session.proofs.SeatNotes.{same_place, other_place, seats_started, seats_changed}
use Rattle.exam_session.proofs.KeptLaws.{seat_there}

still_has : (plan : Plan) (old new : KeptSeat) → KeepsRoom old new → HasRoom plan old → HasRoom plan new
still_has plan old new keeps room =
    let same = keeps.shown in
    let as_many = keeps.responses in
    let places = keeps.eligible in
    let shown = room.shown in
    let responses = room.responses in
    let eligible = room.eligible in
    record { shown = omega arith; responses = omega arith; eligible = omega arith }

-- ---- an entry of a session that goes on
pub kept_changed : (b : Tables) (plan : Plan) (H : List Entry) (seats : List KeptSeat) (e : Entry) (kept after : KeptSeat) → starts e ≡ false → LegalRun b plan H → Legal b plan H e → AreKept plan H seats
    → slice_get seats (session_of e) ≡ Some kept → seat_kept after ≡ seat_with (session_of e) (seat_kept kept) e → KeepsRoom kept after → AreKept plan (H ++ e ∷ []) (set seats (session_of e) after)
kept_changed b plan H seats e kept after no_start run legal are there is keeps = record { are = seats_are; room = room }
  where
    changed : AreSeats (H ++ e ∷ []) (set (map seat_kept seats) (session_of e) (seat_with (session_of e) (seat_kept kept) e))
    changed = seats_changed b plan H (map seat_kept seats) e (seat_kept kept) no_start run legal are.are (seat_there seats (session_of e) kept there)

    seats_are : AreSeats (H ++ e ∷ []) (map seat_kept (set seats (session_of e) after))
    seats_are = subst (λ (xs : List Seat). AreSeats (H ++ e ∷ []) xs) (sym (map-set seat_kept seats (session_of e) after ∙ ap (set (map seat_kept seats) (session_of e)) is)) changed

    room : (s : ℕ) (k : KeptSeat) → slice_get (set seats (session_of e) after) s ≡ Some k → HasRoom plan k
    room s k at = by (session_of e == s) refl
      where
        by : (t : Bool) → (session_of e == s) ≡ t → HasRoom plan k
        by true f =
            let same : session_of e ≡ s = eqb-true (session_of e) s f in
            let this : k ≡ after = same_place seats (session_of e) after k (ap (slice_get (set seats (session_of e) after)) same ∙ at) in
            subst (HasRoom plan) (sym this) (still_has plan kept after keeps (are.room (session_of e) kept there))
        by false f = are.room s k (sym (other_place seats (session_of e) s after (λ same. true≢false (sym (eq-eqb (session_of e) s same) ∙ f))) ∙ at)

-- ---- a start
pub kept_started : (b : Tables) (plan : Plan) (H : List Entry) (seats new : List KeptSeat) (session booking : ℕ) (eligible : Bands) (without : Option Without) (spare : Option KeptSeat) → LegalRun b plan H → Legal b plan H (Started session booking eligible without)
    → IsSome spare → IfSome spare (IsSpare plan) → IfSome spare (StartsSeat seats eligible without new) → AreKept plan H seats → AreKept plan (H ++ Started session booking eligible without ∷ []) new
kept_started b plan H seats new session booking eligible without None run legal some ready starts_seat are = absurd (true≢false (sym some))
kept_started b plan H seats new session booking eligible without (Some spare) run legal some ready start are = record { are = seats_are; room = room }
  where
    e : Entry
    e = Started session booking eligible without

    first : seat_kept start.seat ≡ started_seat no_seat eligible without
    first = start.starts ∙ ap (λ (x : Seat). started_seat x eligible without) ready.unused.empty

    seats_are : AreSeats (H ++ e ∷ []) (map seat_kept new)
    seats_are =
        subst (λ (xs : List Seat). AreSeats (H ++ e ∷ []) xs)
        (sym (ap (map seat_kept) start.is ∙ (map-append seat_kept seats (start.seat ∷ []) ∙ ap (λ (x : Seat). map seat_kept seats ++ x ∷ []) first)))
        (seats_started b plan H (map seat_kept seats) session booking eligible without run legal are.are)

    room : (s : ℕ) (k : KeptSeat) → slice_get new s ≡ Some k → HasRoom plan k
    room s k at = elim (pushed seats start.seat k s (ap (λ (xs : List KeptSeat). slice_get xs s) (sym start.is) ∙ at)) [
      | inl here ↦ are.room s k here
      | inr last ↦ subst (HasRoom plan) (sym last.1) (still_has plan spare start.seat start.room ready.room)
    ]

-- the whole list that was lent
pub whole : {A : Type 0} (n : ℕ) (xs ys : List A) → n ≡ length xs → length ys ≡ length xs → take n (ys ++ drop (length ys) xs) ≡ ys
whole n xs ys number same =
    let least : n ≤ length ys = omega arith in
    let most : length ys ≤ n = omega arith in
    take-append-le n ys (drop (length ys) xs) least ∙ take_all n ys most
