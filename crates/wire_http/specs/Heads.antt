-- The head of a message: one of httparse's default grammar, within limits.
use Rattle.std.specs.Prelude.{◌≡◌, ℕ, ◌≤◌, Bool, ◌==◌, List, length, map, take, drop, position, Option, None, Some, Result}
use Rattle.httparse.specs.Grammar.{RequestHead, ReadsRequest, HasNoRequest, MayBecomeRequest, print_request}
use Rattle.httparse.specs.Spans.{name_and_value, RequestOverflows}
use Rattle.wire_http.specs.declared.message.WireFault.{WireFault}
use Rattle.wire_http.specs.declared.head.Head.{Head}
use Rattle.wire_http.specs.declared.head.Front.{Front}
use Rattle.wire_http.specs.declared.head.Front.TheVariants.{Whole, Part, NoHead}
use Rattle.wire_http.specs.Fields as fields

-- the bytes are this head, of at most 64 fields and 8,192 bytes, and then the rest
pub record IsHead (bytes : List ℕ) (h : RequestHead) (rest : List ℕ) : Type 0 where
  pub reads : ReadsRequest bytes h rest
  pub fields : length h.fields ≤ 64
  pub size : length (print_request h) ≤ 8192

-- whatever bytes follow, no head of at most 64 fields begins with these
abbrev pub BeginsNoHead : List ℕ → Type 0
BeginsNoHead bytes = RequestOverflows 64 bytes

-- no front of the bytes is a head, and more bytes may make them one, or they end within a target
pub record IsPartOfHead (bytes : List ℕ) : Type 0 where
  pub none : HasNoRequest bytes
  pub more : MayBecomeRequest bytes

abbrev pub up_to : List ℕ → Option ℕ → List ℕ
up_to text None = text
up_to text (Some k) = take k text

-- the path: the target up to its first `?`
abbrev pub path_of : List ℕ → List ℕ
path_of target = up_to target (position (λ b. b == 63) target)

-- how many bytes of body the head announces, or its fault
abbrev pub body_length : RequestHead → Result ℕ WireFault
body_length h = fields.body_length h.method (map name_and_value h.fields)

-- the head asks to close the connection
abbrev pub asks_to_close : RequestHead → Bool
asks_to_close h = fields.asks_to_close h.minor h.method (map name_and_value h.fields)

-- the value of its only field Authorization, empty if it has none or several
abbrev pub authorization : RequestHead → List ℕ
authorization h = fields.authorization (map name_and_value h.fields)

-- the bytes begin with the head h, and this is what is kept of it
pub record IsOfHead (bytes : List ℕ) (head : Head) (h : RequestHead) : Type 0 where
  pub reads : ReadsRequest bytes h (drop head.len bytes)
  pub len : head.len ≡ length (print_request h)
  pub fields : length h.fields ≤ 64
  pub method : head.method ≡ h.method
  pub path : head.path.items ≡ path_of h.target
  pub authorization : head.authorization.items ≡ authorization h
  pub body : head.body_length ≡ body_length h
  pub close : head.close ≡ asks_to_close h

-- what is at the front of the bytes
abbrev pub Finds : List ℕ → Front → Type 0
Finds bytes (Whole head) = (h : RequestHead) × IsOfHead bytes head h
Finds bytes Part = IsPartOfHead bytes
Finds bytes NoHead = BeginsNoHead bytes

-- the bytes begin with a head of at most 8,192 bytes, and this is what is kept of it
abbrev pub StartsWithHead : List ℕ → Head → Type 0
StartsWithHead bytes head = (h : RequestHead) × IsOfHead bytes head h × (head.len ≤ 8192)
