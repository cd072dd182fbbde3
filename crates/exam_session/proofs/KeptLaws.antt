-- The seats that a book keeps.
use Rattle.std.proofs.Common.{◌≡◌, ℕ, ◌≤◌, ◌<◌, inl, inr, false, List, length, map, slice_get, Option, Some, None, sym, ap, ◌∙◌, arith, Bor}
use Rattle.std.specs.Option.{option_copied, option_map}
use Rattle.std.specs.Slice.{IsItemAt}
use Rattle.std.proofs.lemmas.Option.{slice_get-map}
use Rattle.bank_tables.specs.Tables.{Tables}
use Rattle.bank_tables.specs.Validity.{IsBank}
use Rattle.serving_model.specs.declared.seat.Seat.{Seat}
use Rattle.form_model.specs.Plan.{Plan}
use Rattle.form_model.specs.Validity.{IsPlanFor}
use Rattle.history_model.specs.declared.entry.Entry.{Entry}
use Rattle.history_model.specs.Entries.{seat_of}
use Rattle.history_model.specs.Laws.{seat_place, step_place}
use Rattle.history_model.specs.Legality.{LegalRun}
use Rattle.history_model.proofs.Running.{seat_is_seat}
use Rattle.exam_session.specs.declared.kept_seat.KeptSeat.{KeptSeat}
use Rattle.exam_session.specs.KeptSeats.{seat_kept, IsShort, AreKept}
use Rattle.exam_session.proofs.BookLaws.{above_of, looked_up, seat_if_started, found_seat}

-- the place of a seat that goes on, by what it shows at its step
pub place_at : (plan : Plan) (seat : Seat) (o : Option ℕ) → seat.closed ≡ false → length seat.responses < plan.length → slice_get seat.shown (length seat.responses) ≡ o → seat_place plan seat ≡ step_place (length seat.responses) o seat.proved
place_at plan seat o going below shown = rw going (rw (above_of plan.length (length seat.responses) below) (ap (λ (x : Option ℕ). step_place (length seat.responses) x seat.proved) shown))

-- what a list lends at a place
pub list_there : (xs lent : List ℕ) (i : ℕ) (r : Option (Bor ℕ)) (x : Bor ℕ) → lent ≡ xs → IsItemAt lent i r → r ≡ Some x → slice_get xs i ≡ Some x.now
list_there xs lent i r x same there e = ap (λ (ys : List ℕ). slice_get ys i) (sym same) ∙ (sym (looked_up lent i r there) ∙ ap option_copied e)

pub list_past : (xs lent : List ℕ) (i : ℕ) (r : Option (Bor ℕ)) → lent ≡ xs → IsItemAt lent i r → r ≡ None → slice_get xs i ≡ None
list_past xs lent i r same there e = ap (λ (ys : List ℕ). slice_get ys i) (sym same) ∙ (sym (looked_up lent i r there) ∙ ap option_copied e)

-- ---- a kept seat and its seat
pub seat_there : (seats : List KeptSeat) (s : ℕ) (kept : KeptSeat) → slice_get seats s ≡ Some kept → slice_get (map seat_kept seats) s ≡ Some (seat_kept kept)
seat_there seats s kept e = slice_get-map seat_kept seats s ∙ ap (option_map seat_kept) e

pub is_of : (plan : Plan) (H : List Entry) (seats : List KeptSeat) (s : ℕ) (kept : KeptSeat) → AreKept plan H seats → slice_get seats s ≡ Some kept → seat_kept kept ≡ seat_of H s
is_of plan H seats s kept are e = are.are.each s (seat_kept kept) (seat_there seats s kept e)

-- the seat that is looked up is that of the session, if it is started
pub found_kept : (b : Tables) (plan : Plan) (H : List Entry) (seats lent : List KeptSeat) (s : ℕ) (r : Option (Bor KeptSeat)) → LegalRun b plan H → AreKept plan H seats → lent ≡ seats → IsItemAt lent s r
    → option_map seat_kept (option_copied r) ≡ seat_if_started H s
found_kept b plan H seats lent s r run are same there =
    ap (option_map seat_kept) (looked_up lent s r there ∙ ap (λ (xs : List KeptSeat). slice_get xs s) same)
    ∙ (sym (slice_get-map seat_kept seats s) ∙ found_seat b plan H (map seat_kept seats) s run are.are)

-- it is there
pub kept_there : (seats lent : List KeptSeat) (s : ℕ) (r : Option (Bor KeptSeat)) (kept : Bor KeptSeat) → lent ≡ seats → IsItemAt lent s r → r ≡ Some kept → slice_get seats s ≡ Some kept.now
kept_there seats lent s r kept same there e = ap (λ (xs : List KeptSeat). slice_get xs s) (sym same) ∙ (sym (looked_up lent s r there) ∙ ap option_copied e)

-- the lists of a kept seat are as short as those of a seat
pub is_short : (b : Tables) (plan : Plan) (H : List Entry) (seats : List KeptSeat) (s : ℕ) (kept : KeptSeat) → IsBank b → IsPlanFor b plan → LegalRun b plan H → AreKept plan H seats → slice_get seats s ≡ Some kept → IsShort kept
is_short b plan H seats s kept bank valid run are e =
    let is = is_of plan H seats s kept are e in
    let seat = seat_is_seat b plan H s run in
    let few = valid.few_items in
    let small = bank.few in
    let most = seat.few in
    let shown : length kept.shown.items ≡ length (seat_of H s).shown = ap (λ (x : Seat). length x.shown) is in
    let responses : length kept.responses.items ≡ length (seat_of H s).responses = ap (λ (x : Seat). length x.responses) is in
    let answered : length (seat_of H s).responses ≤ length (seat_of H s).shown = elim seat.responses [ inl same ↦ omega arith | inr more ↦ omega arith ] in
    record { shown = omega arith; responses = omega arith }
