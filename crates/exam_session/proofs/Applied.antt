-- What a book needs for an entry that is legal after its own.
use Rattle.std.proofs.Common.{◌≡◌, ℕ, ◌+◌, ◌-◌, ◌≤◌, ◌<◌, inl, inr, Bool, true, false, cond, List, length, map, slice_get, Option, Some, None, refl, sym, ap, ◌∙◌, arith}
use Rattle.std.specs.Prelude.{min, IfSome}
use Rattle.std.specs.Vec.{vec_capacity}
use Rattle.bank_tables.specs.Tables.{Tables}
use Rattle.bank_tables.specs.Validity.{IsBank}
use Rattle.serving_model.specs.declared.seat.Seat.{Seat}
use Rattle.form_model.specs.Plan.{Plan, bands_of}
use Rattle.form_model.specs.Validity.{IsPlanFor}
use Rattle.history_model.specs.declared.entry.Bands.{Bands}
use Rattle.history_model.specs.declared.entry.Entry.{Entry}
use Rattle.history_model.specs.declared.entry.Without.{Without}
use Rattle.history_model.specs.declared.entry.Entry.TheVariants.{Started, SetAside, Served, Answered, Closed}
use Rattle.history_model.specs.Entries.{session_of, starts, sessions, is_started, seat_of}
use Rattle.history_model.specs.Legality.{Legal, LegalRun}
use Rattle.history_model.proofs.Standing.{there, waiting}
use Rattle.history_model.proofs.Running.{pending_is_of_seat, responses_number, seat_is_seat}
use Rattle.std.specs.Option.{option_map}
use Rattle.std.proofs.lemmas.Option.{slice_get-map}
use Rattle.std.proofs.lemmas.Slice.Zip.{length-zip}
use Rattle.exam_session.specs.declared.kept_seat.KeptSeat.{KeptSeat}
use Rattle.exam_session.specs.KeptSeats.{seat_kept, HasRoom, HasRoomFor, TakesAnswer, IsSpare, IsSeated, AreKept, HasSums, HaveSums}
use Rattle.exam_session.proofs.BookLaws.{found_seat, waiting_shown, waiting_item}
use Rattle.exam_session.proofs.KeptLaws.{is_of}
use Rattle.exam_session.proofs.LiftLaws.{drawn_eligible, legal_has_bands}

session_there : (b : Tables) (plan : Plan) (H : List Entry) (e : Entry) → starts e ≡ false → Legal b plan H e → is_started H (session_of e) ≡ true
session_there b plan H (Started session booking eligible without) no_start legal = absurd (cc)
session_there b plan H (SetAside session step band cause nodes) no_start legal = there plan H session _ legal.is_problem.pending
session_there b plan H (Served session step item form proved nodes) no_start legal = there plan H session _ legal.is_problem.pending
session_there b plan H (Answered session step response) no_start legal = there plan H session _ legal.waiting
session_there b plan H (Closed session) no_start legal = there plan H session legal.at legal.stands

has_room : (b : Tables) (plan : Plan) (H : List Entry) (e : Entry) (kept : KeptSeat) → IsPlanFor b plan → starts e ≡ false → LegalRun b plan H → Legal b plan H e → seat_kept kept ≡ seat_of H (session_of e) → HasRoom plan kept → HasRoomFor e kept
has_room b plan H (Started session booking eligible without) kept valid no_start run legal is room = absurd (cc)
has_room b plan H (SetAside session step band cause nodes) kept valid no_start run legal is room = legal_has_bands b plan H (SetAside session step band cause nodes) valid legal
has_room b plan H (Served session step item form proved nodes) kept valid no_start run legal is room =
    let waits = (pending_is_of_seat b plan H session step run legal.is_problem.pending).0 in
    let answered = waits.answered in
    let more = waits.not_complete in
    let shown : length kept.shown.items ≡ length (seat_of H session).shown = ap (λ (x : Seat). length x.shown) is in
    let number = kept.shown.ok.0 in
    let free = room.shown in
    omega arith
has_room b plan H (Answered session step response) kept valid no_start run legal is room =
    let more = (waiting plan H session step legal.item legal.proved legal.waiting).not_full in
    let answered = responses_number H session in
    let responses : length kept.responses.items ≡ length (seat_of H session).responses = ap (λ (x : Seat). length x.responses) is in
    let number = kept.responses.ok.0 in
    let free = room.responses in
    omega arith
has_room b plan H (Closed session) kept valid no_start run legal is room = tt

-- the sums of a seat that waits for a response have room for it
few_answers : (b : Tables) (plan : Plan) (kept : KeptSeat) → length kept.responses.items < 512 → HasSums b plan kept → kept.sums.additions < 512
few_answers b plan kept few sums =
    let number = sums.number in
    let pairs = length-zip kept.shown.items kept.responses.items in
    omega arith

takes_answer : (b : Tables) (plan : Plan) (H : List Entry) (e : Entry) (kept : KeptSeat) → IsBank b → IsPlanFor b plan → LegalRun b plan H → Legal b plan H e → seat_kept kept ≡ seat_of H (session_of e) → HasSums b plan kept → TakesAnswer b e kept
takes_answer b plan H (Started session booking eligible without) kept bank valid run legal is sums = tt
takes_answer b plan H (SetAside session step band cause nodes) kept bank valid run legal is sums = tt
takes_answer b plan H (Served session step item form proved nodes) kept bank valid run legal is sums = tt
takes_answer b plan H (Answered session step response) kept bank valid run legal is sums =
    let more = (waiting plan H session step legal.item legal.proved legal.waiting).not_full in
    let answered = responses_number H session in
    let responses : length kept.responses.items ≡ length (seat_of H session).responses = ap (λ (x : Seat). length x.responses) is in
    let few = valid.few_items in
    let small = bank.few in
    record {
      item = legal.item;
      waits = ap (λ (x : Seat). slice_get x.shown (length x.responses)) is ∙ waiting_shown b plan H session step legal.item legal.proved run legal.waiting;
      of_bank = waiting_item b plan H session step legal.item legal.proved run legal.waiting;
      in_range = legal.in_range;
      same_grid = sums.same_grid;
      few = few_answers b plan kept (omega arith) sums;
    }
takes_answer b plan H (Closed session) kept bank valid run legal is sums = tt

-- each response is of an item shown
answered_shown : (b : Tables) (plan : Plan) (H : List Entry) (s : ℕ) (kept : KeptSeat) → LegalRun b plan H → seat_kept kept ≡ seat_of H s → length kept.responses.items ≤ length kept.shown.items
answered_shown b plan H s kept run is =
    let seat = seat_is_seat b plan H s run in
    let shown : length kept.shown.items ≡ length (seat_of H s).shown = ap (λ (x : Seat). length x.shown) is in
    let responses : length kept.responses.items ≡ length (seat_of H s).responses = ap (λ (x : Seat). length x.responses) is in
    elim seat.responses [ inl same ↦ omega arith | inr more ↦ omega arith ]

pub is_seated : (b : Tables) (plan : Plan) (H : List Entry) (seats : List KeptSeat) (e : Entry) → IsBank b → IsPlanFor b plan → starts e ≡ false → LegalRun b plan H → Legal b plan H e → AreKept plan H seats → HaveSums b plan seats → IsSeated b seats e
is_seated b plan H seats e bank valid no_start run legal are have = by (slice_get seats (session_of e)) refl
  where
    found : slice_get (map seat_kept seats) (session_of e) ≡ Some (seat_of H (session_of e))
    found = found_seat b plan H (map seat_kept seats) (session_of e) run are.are ∙ ap (λ (t : Bool). cond t (Some (seat_of H (session_of e))) None) (session_there b plan H e no_start legal)

    differ : (x : Seat) → None ≡ Some x → ⊥
    differ x e = cc

    by : (o : Option KeptSeat) → slice_get seats (session_of e) ≡ o → IsSeated b seats e
    by None at = absurd (differ _ (sym (slice_get-map seat_kept seats (session_of e) ∙ ap (option_map seat_kept) at) ∙ found))
    by (Some kept) at =
        let is = is_of plan H seats (session_of e) kept are at in
        record {
          kept = kept;
          there = at;
          room = has_room b plan H e kept valid no_start run legal is (are.room (session_of e) kept at);
          answered = answered_shown b plan H (session_of e) kept run is;
          answer = takes_answer b plan H e kept bank valid run legal is (have (session_of e) kept at);
        }

-- the room that is left where at most one element was added
pub room_left : (len cap room new_len new_cap added : ℕ) → len + room ≤ cap → 0 < room → new_len ≡ len + added → new_cap ≡ cap → added ≤ 1 → new_len + (room - 1) ≤ new_cap
room_left len cap room new_len new_cap added fits some longer same few = omega arith

-- the session that starts is below the plan's limit
pub is_below : (b : Tables) (plan : Plan) (H : List Entry) (e : Entry) → Legal b plan H e → starts e ≡ true → sessions H < plan.sessions
is_below b plan H (Started session booking eligible without) legal start = let number = legal.number.next in let within = legal.number.within in omega arith
is_below b plan H (SetAside session step band cause nodes) legal start = absurd (cc)
is_below b plan H (Served session step item form proved nodes) legal start = absurd (cc)
is_below b plan H (Answered session step response) legal start = absurd (cc)
is_below b plan H (Closed session) legal start = absurd (cc)

-- so a list with an element for each session has room for it
pub seat_free : (limit count len cap room : ℕ) → min limit (len + room) ≤ cap → 0 < room → len ≡ count → count < limit → len < cap
seat_free limit count len cap room fits some number below = omega arith

-- and room is left, where one was added for a start and none else
pub seats_left : (limit count len cap room new_len new_cap : ℕ) (start : Bool) → min limit (len + room) ≤ cap → 0 < room → len ≡ count → (start ≡ true → count < limit) → new_len ≡ len + cond start 1 0 → new_cap ≡ cap → min limit (new_len + (room - 1)) ≤ new_cap
seats_left limit count len cap room new_len new_cap true fits some number below longer same = omega arith
seats_left limit count len cap room new_len new_cap false fits some number below longer same = omega arith

-- an entry that isn't Started isn't a start
pub no_start : (e : Entry) → ((session booking : ℕ) (eligible : Bands) (without : Option Without) → e ≡ Started session booking eligible without → ⊥) → starts e ≡ false
no_start (Started session booking eligible without) other = absurd (other session booking eligible without refl)
no_start (SetAside session step band cause nodes) other = refl
no_start (Served session step item form proved nodes) other = refl
no_start (Answered session step response) other = refl
no_start (Closed session) other = refl

-- there is room for the list of a start, if it has one
list_room : (without : Option Without) (kept : KeptSeat) → 1 ≤ vec_capacity kept.without → IfSome without (λ list. 1 ≤ vec_capacity kept.without)
list_room (Some list) kept room = room
list_room None kept room = tt

-- the spare seat takes a start that is legal
pub takes_start : (b : Tables) (plan : Plan) (H : List Entry) (e : Entry) (spare : Option KeptSeat) → IsPlanFor b plan → Legal b plan H e → starts e ≡ true → IfSome spare (IsSpare plan) → IfSome spare (HasRoomFor e)
takes_start b plan H e None valid legal start ready = tt
takes_start b plan H (Started session booking eligible without) (Some kept) valid legal start ready =
    let number : eligible.count ≡ bands_of plan = legal.drawn.number in
    let free = ready.room.eligible in
    record {
      no_sets = ready.unused.no_sets;
      no_list = ready.unused.no_list;
      no_form = ap (λ (x : Seat). x.form) ready.unused.empty;
      fit = drawn_eligible b plan H session eligible valid legal.drawn;
      bands = omega (arith, number, free);
      list = list_room without kept ready.list;
    }
takes_start b plan H (SetAside session step band cause nodes) (Some kept) valid legal start ready = absurd (cc)
takes_start b plan H (Served session step item form proved nodes) (Some kept) valid legal start ready = absurd (cc)
takes_start b plan H (Answered session step response) (Some kept) valid legal start ready = absurd (cc)
takes_start b plan H (Closed session) (Some kept) valid legal start ready = absurd (cc)
