-- The seats of a book, each in as few bytes as its content needs.
use Rattle.std.specs.Prelude.{◌≡◌, ℕ, ◌<◌, ◌≤◌, List, [], ◌∷◌, ◌++◌, map, get_or, length, slice_get, Option, Some, None, IfSome}
use Rattle.std.specs.Option.{option_map}
use Rattle.std.specs.Vec.{vec_len, vec_capacity}
use Rattle.bank_tables.specs.Tables.{Tables, size, categories}
use Rattle.serving_model.specs.declared.seat.Seat.{Seat}
use Rattle.form_model.specs.Plan.{Plan, bands_of}
use Rattle.serving_model.specs.Seats.{answers, eight}
use Rattle.ability_grid.specs.Running.{IsSumsOf}
use Rattle.history_model.specs.declared.entry.Bands.{Bands}
use Rattle.history_model.specs.declared.entry.Entry.{Entry}
use Rattle.history_model.specs.declared.entry.Entry.TheVariants.{Started, SetAside, Served, Answered}
use Rattle.history_model.specs.declared.entry.Without.{Without}
use Rattle.history_model.specs.Entries.{session_of}
use Rattle.history_model.specs.Laws.{no_seat}
use Rattle.exam_records.specs.Sets.{no_items}
use Rattle.exam_records.specs.Shape.{AreEligible}
use Rattle.exam_session.specs.declared.kept_seat.KeptSeat.{KeptSeat}
use Rattle.exam_session.specs.Flags.{flags_of}
use Rattle.exam_session.specs.Kept.{AreSeats}

-- the sets of the eight bands, and no items past the end of the list
abbrev pub filled : List (List ℕ) → List (List ℕ)
filled sets = eight (λ band. get_or sets band no_items)

-- the seat whose content is kept
abbrev pub seat_kept : KeptSeat → Seat
seat_kept kept =
    record {
      shown = kept.shown.items;
      responses = kept.responses.items;
      eligible = filled kept.eligible.items;
      aside = flags_of kept.aside;
      without = slice_get kept.without.items 0;
      form = kept.form;
      proved = kept.proved;
      closed = kept.closed;
    }

-- each list has room for what a test of the plan needs in all
pub record HasRoom (plan : Plan) (kept : KeptSeat) : Type 0 where
  pub shown : plan.length ≤ vec_capacity kept.shown
  pub responses : plan.length ≤ vec_capacity kept.responses
  pub eligible : bands_of plan ≤ vec_capacity kept.eligible

-- the seat is unused, and has room for the sets of a start and for its list, if it has one
pub record TakesStart (eligible : Bands) (without : Option Without) (kept : KeptSeat) : Type 0 where
  pub no_sets : kept.eligible.items ≡ []
  pub no_list : kept.without.items ≡ []
  pub no_form : kept.form ≡ None
  pub fit : AreEligible eligible
  pub bands : eligible.count ≤ vec_capacity kept.eligible
  pub list : IfSome without (λ list. 1 ≤ vec_capacity kept.without)

-- there is room for what the entry adds, and a flag for its band
abbrev pub HasRoomFor : Entry → KeptSeat → Type 0
HasRoomFor (Started session booking eligible without) kept = TakesStart eligible without kept
HasRoomFor (SetAside session step band cause nodes) kept = band < 8
HasRoomFor (Served session step item form proved nodes) kept =
    vec_len kept.shown < vec_capacity kept.shown
HasRoomFor (Answered session step response) kept =
    vec_len kept.responses < vec_capacity kept.responses
HasRoomFor entry kept = Unit {0}

-- the item shown last waits for the response; the response is one of it, and the sums have room for
-- it
pub record TakesResponse (b : Tables) (response : ℕ) (kept : KeptSeat) : Type 0 where
  pub item : ℕ
  pub waits : slice_get kept.shown.items (length kept.responses.items) ≡ Some item
  pub of_bank : item < size b
  pub in_range : response < categories b item
  pub same_grid : kept.sums.grid ≡ b.grid
  pub few : kept.sums.additions < 512

-- the seat takes the response of an answer
abbrev pub TakesAnswer : Tables → Entry → KeptSeat → Type 0
TakesAnswer b (Answered session step response) kept = TakesResponse b response kept
TakesAnswer b entry kept = Unit {0}

-- the sums are those of the plan's prior and the seat's answers
abbrev pub HasSums : Tables → Plan → KeptSeat → Type 0
HasSums b plan kept = IsSumsOf b plan.prior (answers (seat_kept kept)) kept.sums

-- the lists of items, responses and bands have as much room as before
pub record KeepsRoom (old new : KeptSeat) : Type 0 where
  pub shown : vec_capacity new.shown ≡ vec_capacity old.shown
  pub responses : vec_capacity new.responses ≡ vec_capacity old.responses
  pub eligible : vec_capacity new.eligible ≡ vec_capacity old.eligible

-- the lists are as short as those of a seat
pub record IsShort (kept : KeptSeat) : Type 0 where
  pub shown : length kept.shown.items ≤ 512
  pub responses : length kept.responses.items ≤ 512

-- a seat before its session is started; its sets are noted then
pub record IsUnused (kept : KeptSeat) : Type 0 where
  pub empty : seat_kept kept ≡ record no_seat { eligible = filled [] }
  pub no_sets : kept.eligible.items ≡ []
  pub no_list : kept.without.items ≡ []

-- such a seat with room for a test of the plan and a list, and the sums of the plan's prior
pub record IsSpare (plan : Plan) (kept : KeptSeat) : Type 0 where
  pub unused : IsUnused kept
  pub room : HasRoom plan kept
  pub list : 1 ≤ vec_capacity kept.without
  pub sums : (b : Tables) → b.grid ≡ length plan.prior → IsSumsOf b plan.prior [] kept.sums

-- the seat of each session of the entries, with room for a test of the plan
pub record AreKept (plan : Plan) (H : List Entry) (seats : List KeptSeat) : Type 0 where
  pub are : AreSeats H (map seat_kept seats)
  pub room : (s : ℕ) (kept : KeptSeat) → slice_get seats s ≡ Some kept → HasRoom plan kept

-- the sums of each seat are those of the plan's prior and the seat's answers
abbrev pub HaveSums : Tables → Plan → List KeptSeat → Type 0
HaveSums b plan seats =
    (s : ℕ) (kept : KeptSeat) → slice_get seats s ≡ Some kept → HasSums b plan kept

-- the seat of each session of the entries, with room for a test of the plan, and its sums
pub record AreKeptWithSums (b : Tables) (plan : Plan) (H : List Entry)
    (seats : List KeptSeat) : Type 0 where
  pub kept : AreKept plan H seats
  pub sums : HaveSums b plan seats

-- the session of the entry has a seat, with room for what the entry adds; an answer is one of the
-- item that waits
pub record IsSeated (b : Tables) (seats : List KeptSeat) (entry : Entry) : Type 0 where
  pub kept : KeptSeat
  pub there : slice_get seats (session_of entry) ≡ Some kept
  pub room : HasRoomFor entry kept
  pub answered : length kept.responses.items ≤ length kept.shown.items
  pub answer : TakesAnswer b entry kept

-- the seat of a session that starts
abbrev pub started_seat : Seat → Bands → Option Without → Seat
started_seat seat eligible without =
    record seat {
      eligible = eligible.sets;
      without = option_map (λ (list : Without). list.items) without;
      form = option_map (λ (list : Without). list.form) without;
    }

-- the new seats are the old ones and the spare one, which starts with these sets
pub record StartsSeat (old : List KeptSeat) (eligible : Bands) (without : Option Without)
    (new : List KeptSeat) (spare : KeptSeat) : Type 0 where
  pub seat : KeptSeat
  pub is : new ≡ old ++ seat ∷ []
  pub starts : seat_kept seat ≡ started_seat (seat_kept spare) eligible without
  pub room : KeepsRoom spare seat
  pub sums : seat.sums ≡ spare.sums
