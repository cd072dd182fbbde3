use Rattle.std.proofs.Common.{◌≡◌, ◌++◌, ◌∷◌, [], ℕ, sym, ap, ◌∙◌, subst, set, get_or, slice_get, Some}
use Rattle.std.proofs.lemmas.Option.{get_or_from_slice_get}
use Rattle.history_model.specs.Laws.{seat_with}
use Rattle.history_model.specs.Entries.{session_of}
use Rattle.exam_session.specs.declared.kept_seat.KeptSeat.{KeptSeat}
use Rattle.exam_session.specs.KeptSeats.{seat_kept, KeepsRoom, AreKept, HasSums}
use Rattle.exam_session.proofs.KeptNotes.{kept_changed}
use Rattle.exam_session.proofs.SumNotes.{sums_changed}
use Rattle.exam_session.proofs.seats.change_seat.Goals as goal

pub returns-clause-seats : goal.returns-clause-seats
returns-clause-seats c = λ b plan H no_start run legal are.
    let seats = c.args.seats.now in
    let entry = c.args.entry.now in
    let kept = c.requires.kept in
    let after = c.note.new.self in
    let at : slice_get seats c.session_of-session.result ≡ Some kept = ap (slice_get seats) c.session_of-session.ensures ∙ c.requires.there in
    let found : get_or seats c.session_of-session.result c.index-seats-session.result ≡ kept = get_or_from_slice_get seats c.session_of-session.result kept c.index-seats-session.result at in
    let is : seat_kept after ≡ seat_with (session_of entry) (seat_kept kept) entry = c.note.ensures.seat ∙ ap (λ (k : KeptSeat). seat_with (session_of entry) (seat_kept k) entry) found in
    subst (λ (s : ℕ). AreKept plan (H ++ entry ∷ []) (set seats s after)) (sym c.session_of-session.ensures)
    (kept_changed b plan H seats entry kept after no_start run legal are c.requires.there is (subst (λ (k : KeptSeat). KeepsRoom k after) found c.note.ensures.room))

pub returns-clause-sums : goal.returns-clause-sums
returns-clause-sums c = λ plan have.
    let b = c.args.bank.now in
    let seats = c.args.seats.now in
    let s = c.session_of-session.result in
    let kept = c.requires.kept in
    let after = c.note.new.self in
    let at : slice_get seats s ≡ Some kept = ap (slice_get seats) c.session_of-session.ensures ∙ c.requires.there in
    let found : get_or seats s c.index-seats-session.result ≡ kept = get_or_from_slice_get seats s kept c.index-seats-session.result at in
    sums_changed b plan seats s kept after at (subst (λ (k : KeptSeat). HasSums b plan k → HasSums b plan after) found (c.note.ensures.sums plan)) have
