-- The messages of a byte text.
use Rattle.std.specs.Prelude.{◌≡◌, ◌≢◌, ℕ, ◌<◌, ◌≤◌, ◌⊎◌, List, [], ◌∷◌, ◌++◌, length, take, drop, Ok, Err}
use Rattle.httparse.specs.Grammar.{RequestHead}
use Rattle.wire_http.specs.declared.message.WireFault.{WireFault}
use Rattle.wire_http.specs.declared.message.WireFault.TheVariants.{BadHead, HeadTooLong, NoLength, BodyTooLong, Cut, Link, Memory}
use Rattle.wire_http.specs.declared.message.Message.{Message}
use Rattle.wire_http.specs.declared.kept.Kept.{Kept}
use Rattle.wire_http.specs.Heads.{IsHead, BeginsNoHead, IsPartOfHead, path_of, authorization, body_length, asks_to_close}

-- the bytes that were read beyond a message
abbrev pub bytes_of : Kept → List ℕ
bytes_of kept = kept.bytes.items

-- the bytes begin with a head that announces n bytes of body, and the rest follows it
pub record Announces (bytes : List ℕ) (h : RequestHead) (n : ℕ) (rest : List ℕ) : Type 0 where
  pub head : IsHead bytes h rest
  pub announced : body_length h ≡ Ok n

-- the bytes begin with the message m, and the next ones follow it
pub record IsMessage (bytes : List ℕ) (m : Message) (next : List ℕ) : Type 0 where
  pub head : RequestHead
  pub length_of_body : ℕ
  pub rest : List ℕ
  pub announces : Announces bytes head length_of_body rest
  pub enough : length_of_body ≤ length rest
  pub method : m.method ≡ head.method
  pub path : m.path.items ≡ path_of head.target
  pub authorization : m.authorization.items ≡ authorization head
  pub body : m.body.items ≡ take length_of_body rest
  pub close : m.close ≡ asks_to_close head
  pub follows : next ≡ drop length_of_body rest

-- the bytes begin with a head whose fields have this fault
abbrev pub HasHeadFault : List ℕ → WireFault → Type 0
HasHeadFault bytes f =
    (h : RequestHead) × (rest : List ℕ) × IsHead bytes h rest × (body_length h ≡ Err f)

-- with a front of at most 8,192 bytes no head of at most 64 fields begins
abbrev pub HasNoHead : List ℕ → Type 0
HasNoHead bytes = (front : List ℕ) × (rest : List ℕ) × (bytes ≡ front ++ rest)
    × (length front ≤ 8192) × BeginsNoHead front

-- the first 8,192 bytes have no head, and are a part of one
abbrev pub HasLongHead : List ℕ → Type 0
HasLongHead bytes = (front : List ℕ) × (rest : List ℕ) × (bytes ≡ front ++ rest)
    × (length front ≡ 8192) × IsPartOfHead front

-- there are bytes, fewer than 8,192, and they end within a head
pub record EndsInHead (bytes : List ℕ) : Type 0 where
  pub some : bytes ≢ []
  pub few : length bytes < 8192
  pub part : IsPartOfHead bytes

-- the bytes end within a body
abbrev pub EndsInBody : List ℕ → Type 0
EndsInBody bytes =
    (h : RequestHead) × (n : ℕ) × (rest : List ℕ) × Announces bytes h n rest × (length rest < n)

-- why the bytes begin with no message
abbrev pub IsFault : List ℕ → WireFault → Type 0
IsFault bytes BadHead = HasNoHead bytes ⊎ HasHeadFault bytes BadHead
IsFault bytes HeadTooLong = HasLongHead bytes
IsFault bytes NoLength = HasHeadFault bytes NoLength
IsFault bytes BodyTooLong = HasHeadFault bytes BodyTooLong
IsFault bytes Cut = EndsInHead bytes ⊎ EndsInBody bytes
IsFault bytes Link = ⊥
IsFault bytes Memory = ⊥

-- the bytes begin with these messages, one after another, and the rest follows them
pub data Messages (bytes : List ℕ) : List Message → List ℕ → Type 0 where
  none_yet : Messages bytes [] bytes
  one_more : (ms : List Message) (rest : List ℕ) (m : Message) (next : List ℕ)
      → Messages bytes ms rest → IsMessage rest m next
      → Messages bytes (ms ++ m ∷ []) next

-- a fault whatever the bytes are: the link failed, or memory ran out
abbrev pub IsFree : WireFault → Type 0
IsFree f = (f ≡ Link) ⊎ (f ≡ Memory)

-- two messages are the same in each part
pub record IsSame (m k : Message) : Type 0 where
  pub method : m.method ≡ k.method
  pub path : m.path.items ≡ k.path.items
  pub authorization : m.authorization.items ≡ k.authorization.items
  pub body : m.body.items ≡ k.body.items
  pub close : m.close ≡ k.close

-- no head of at most 64 fields begins with the bytes, and yet they are a part of a head: one of
-- more fields, or one whose target is no text
abbrev pub IsUndecided : List ℕ → Type 0
IsUndecided bytes = HasNoHead bytes × (HasLongHead bytes ⊎ EndsInHead bytes)
