-- What a message asks, or why it asks nothing.
use Rattle.std.specs.Prelude.{◌≡◌, ◌≢◌, ◌⊎◌, ℕ, ◌||◌, ◌==◌, Bool, true, false, List, [], ◌∷◌, codes, nat_le, IsUtf8, if◌then◌else◌, Option, None, Some, is_some, option_and_then, Result, Ok, Err}
use Rattle.exam_text.specs.First.{or_fault, ◌>>=◌}
use Rattle.bank_tables.specs.Items.{has, AreWords}
use Rattle.serde_json.specs.Data.{Data, Items, no_items, item}
use Rattle.serde_json.specs.Read.{read}
use Rattle.serde_json.specs.View.{view}
use Rattle.serde_json.specs.declared.value.Value.{Value}
use Rattle.serde_json.specs.Find.{get, as_number, as_array, as_u64}
use Rattle.history_model.specs.declared.request.Request.{Request}
use Rattle.history_model.specs.declared.request.Request.TheVariants as request
use Rattle.wire_http.specs.declared.message.Message.{Message}
use Rattle.exam_http.specs.declared.asked.Asked.{Asked}
use Rattle.exam_http.specs.declared.asked.Asked.TheVariants as ask
use Rattle.exam_http.specs.declared.route.Route.{Route}
use Rattle.exam_http.specs.declared.route.Route.TheVariants.{Sessions, Session, Answers, Close, Exposure, Health}
use Rattle.exam_http.specs.declared.message_fault.MessageFault.{MessageFault}
use Rattle.exam_http.specs.declared.message_fault.MessageFault.TheVariants.{NoRoute, NoMethod, BadJson, BadBody, Unauthorized}
use Rattle.exam_http.specs.Paths.{Names, method_of}
use Rattle.exam_http.specs.Tokens.{may_ask, is_for_all}

-- the value of a body, or none where it is no JSON
abbrev pub IsJson : List ℕ → Option Data → Type 0
IsJson body (Some d) = IsUtf8 body × (read body ≡ Some d)
IsJson body None = IsUtf8 body → read body ≡ None

abbrev pub up_to : ℕ → Option ℕ → Option ℕ
up_to most None = None
up_to most (Some n) = if nat_le n most then Some n else None

-- the number that the last member of this name is: written in digits alone, and at most so much
abbrev pub number_member : Data → List ℕ → ℕ → Result ℕ MessageFault
number_member d name most =
    or_fault (up_to most (option_and_then as_u64 (option_and_then as_number (get name d)))) BadBody

-- ---- a list of items
-- the number is one of these
abbrev pub is_among : List ℕ → ℕ → Bool
is_among [] i = false
is_among (n ∷ ns) i = (n == i) || is_among ns i

-- a number, and the numbers after it, if all are there
abbrev pub number_before : Option ℕ → Option (List ℕ) → Option (List ℕ)
number_before (Some n) (Some ns) = Some (n ∷ ns)
number_before n ns = None

-- the number of an element: written in digits alone, and at most so much
abbrev pub number_in : ℕ → Data → Option ℕ
number_in most d = up_to most (option_and_then as_u64 (as_number d))

-- the numbers of an array, if each of its elements is one
abbrev pub numbers_in : ℕ → Items → Option (List ℕ)
numbers_in most no_items = Some []
numbers_in most (item d ds) = number_before (number_in most d) (numbers_in most ds)

-- the same of a member, of which there may be none: then there are no numbers
abbrev pub numbers_of : ℕ → Option Data → Option (List ℕ)
numbers_of most None = Some []
numbers_of most (Some d) = option_and_then (numbers_in most) (as_array d)

-- the numbers of the array that the last member of this name is; none without such a member
abbrev pub list_member : Data → List ℕ → ℕ → Result (List ℕ) MessageFault
list_member d name most = or_fault (numbers_of most (get name d)) BadBody

-- the words are of the set of these items
pub record AreItems (words items : List ℕ) : Type 0 where
  pub are_words : AreWords words
  pub each : (i : ℕ) → has words i ≡ is_among items i

-- the request is for a session for a booking, whose examinee must not get these items; where there
-- are none, it has no list
abbrev pub AsksBegin : ℕ → List ℕ → Request → Type 0
AsksBegin booking [] asked = asked ≡ request.Begin booking
AsksBegin booking (n ∷ ns) asked =
    (words : List ℕ) × AreItems words (n ∷ ns) × (asked ≡ request.BeginWithout booking words)

-- what the value of a body asks of the beginning of a session: the booking is read first
pub data BeginOf (d : Data) : Result Asked MessageFault → Type 0 where
  no_booking : (fault : MessageFault)
      → number_member d (codes "booking") 18446744073709551615 ≡ Err fault → BeginOf d (Err fault)
  no_list : (booking : ℕ) (fault : MessageFault)
      → number_member d (codes "booking") 18446744073709551615 ≡ Ok booking
      → list_member d (codes "without") 511 ≡ Err fault → BeginOf d (Err fault)
  begin : (booking : ℕ) (items : List ℕ) (asked : Request)
      → number_member d (codes "booking") 18446744073709551615 ≡ Ok booking
      → list_member d (codes "without") 511 ≡ Ok items → AsksBegin booking items asked
      → BeginOf d (Ok (ask.Request asked))

-- the set of the elements of an array, or none, as they are read
abbrev pub IsSetIn : Items → Option (List ℕ) → Type 0
IsSetIn ds None = numbers_in 511 ds ≡ None
IsSetIn ds (Some words) =
    (items : List ℕ) × (numbers_in 511 ds ≡ Some items) × AreItems words items

-- the set of the list of a body, or its fault, as they are read
abbrev pub IsSetOf : Data → Result (List ℕ) MessageFault → Type 0
IsSetOf d (Err fault) = list_member d (codes "without") 511 ≡ Err fault
IsSetOf d (Ok words) =
    (items : List ℕ) × (list_member d (codes "without") 511 ≡ Ok items) × AreItems words items

-- ---- an answer, and a closing

-- a booking, where it is named
abbrev pub named_where : Bool → Result ℕ MessageFault → Result (Option ℕ) MessageFault
named_where false booking = Ok None
named_where true booking = booking >>= λ n. Ok (Some n)

-- the booking that the last member of this name is, if there is such a member
abbrev pub booking_member : Data → Result (Option ℕ) MessageFault
booking_member d = named_where (is_some (get (codes "booking") d))
    (number_member d (codes "booking") 18446744073709551615)

unfoldable pub answer_of : ℕ → Data → Result Asked MessageFault
answer_of session d =
    number_member d (codes "step") 65535 >>= λ step.
    number_member d (codes "response") 255 >>= λ response.
    booking_member d >>= λ booking.
    Ok (ask.Request (request.Answer session step response booking))

-- a body that is no JSON names no booking
abbrev pub closing_of : ℕ → Option Data → Result Asked MessageFault
closing_of session None = Ok (ask.Request (request.Close session None))
closing_of session (Some d) =
    booking_member d >>= λ booking. Ok (ask.Request (request.Close session booking))

-- what a body asks of the closing of a session
abbrev pub IsClosing : ℕ → List ℕ → Result Asked MessageFault → Type 0
IsClosing session body asked =
    (value : Option Data) × IsJson body value × (asked ≡ closing_of session value)

-- what the value of a body asks, if the body has one
abbrev pub IfJson : (Data → Result Asked MessageFault → Type 0) → Option Data
    → Result Asked MessageFault → Type 0
IfJson Says None asked = asked ≡ Err BadJson
IfJson Says (Some d) asked = Says d asked

-- what is asked by a body, by the relation of its value to that
abbrev pub IsSaidBy : (Data → Result Asked MessageFault → Type 0) → List ℕ
    → Result Asked MessageFault → Type 0
IsSaidBy Says body asked = (value : Option Data) × IsJson body value × IfJson Says value asked

-- what is asked by the value of a body
abbrev pub IsParsedBy : (Data → Result Asked MessageFault) → List ℕ → Result Asked MessageFault
    → Type 0
IsParsedBy f body asked =
    (value : Option Data) × IsJson body value × (asked ≡ (or_fault value BadJson >>= f))

-- what a body asks on a route
abbrev pub AsksOn : Route → List ℕ → Result Asked MessageFault → Type 0
AsksOn Sessions body asked = IsSaidBy BeginOf body asked
AsksOn (Session s) body asked = asked ≡ Ok (ask.Request (request.Look s))
AsksOn (Answers s) body asked = IsParsedBy (answer_of s) body asked
AsksOn (Close s) body asked = IsClosing s body asked
AsksOn Exposure body asked = asked ≡ Ok (ask.Request request.Exposure)
AsksOn Health body asked = asked ≡ Ok ask.Health

-- what a method and a body ask, where the path names this route, or none
abbrev pub AsksBy : Option Route → List ℕ → List ℕ → Result Asked MessageFault → Type 0
AsksBy None method body asked = asked ≡ Err NoRoute
AsksBy (Some r) method body asked =
    ((method ≢ method_of r) × (asked ≡ Err NoMethod)) ⊎ ((method ≡ method_of r)
    × AsksOn r body asked)

-- the same where whoever sent it may ask; who may not asks nothing
abbrev pub AsksIf : Bool → Option Route → List ℕ → List ℕ → Result Asked MessageFault → Type 0
AsksIf true route method body asked = AsksBy route method body asked
AsksIf false route method body asked = asked ≡ Err Unauthorized

-- what a message asks a server with this token or none, or why it asks nothing
abbrev pub Asks : Option (List ℕ) → Message → Result Asked MessageFault → Type 0
Asks token m asked =
    (route : Option Route) × Names m.path.items route
    × AsksIf (may_ask token m.authorization.items || is_for_all route m.method)
    route m.method m.body.items asked

-- a value that was read, as data
abbrev pub view_of : Option Value → Option Data
view_of None = None
view_of (Some value) = Some (view value)
