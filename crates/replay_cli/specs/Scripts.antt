-- The grammar of a script: requests, each on a line of its own.
use Rattle.std.specs.Prelude.{◌≡◌, ℕ, ◌+◌, ◌<◌, ◌≤◌, ◌⊎◌, List, [], ◌∷◌, ◌++◌, map, length, get_or, Option, Some, None, codes}
use Rattle.std.specs.Fmt.{decimal}
use Rattle.std.specs.List.{All}
use Rattle.bank_tables.specs.Items.{has, AreWords}
use Rattle.exam_text.specs.Words.{lines_of, spaced, text_of_lines}
use Rattle.history_model.specs.declared.request.Request.{Request}
use Rattle.history_model.specs.declared.request.Request.TheVariants.{Begin, BeginWithout, Answer, Close, Look, Exposure}
use Rattle.spec_reader.specs.Canonical.{set_words}
use Rattle.spec_reader.specs.Grammar.{IsSet}

-- the words that name a booking, after those of a request, if it names one
abbrev pub booking_words : Option ℕ → List (List ℕ)
booking_words None = []
booking_words (Some booking) = codes "for" ∷ decimal booking ∷ []

-- the words of a request; the items of a list are spelled as the canonical text of a plan spells a
-- set, in its maximal runs
abbrev pub request_words : Request → List (List ℕ)
request_words (Begin booking) = codes "begin" ∷ decimal booking ∷ []
request_words (BeginWithout booking items) =
    codes "begin" ∷ decimal booking ∷ codes "without" ∷ set_words (has items)
request_words (Answer session step response booking) =
    codes "answer" ∷ decimal session ∷ decimal step ∷ decimal response ∷ booking_words booking
request_words (Close session booking) =
    codes "close" ∷ decimal session ∷ booking_words booking
request_words (Look session) = codes "look" ∷ decimal session ∷ []
request_words Exposure = codes "exposure" ∷ []

-- the line of a request: its words, with a space between each two
abbrev pub request_line : Request → List ℕ
request_line request = spaced (request_words request)

-- a booking that is named has 64 bits
abbrev pub IsNamed : Option ℕ → Type 0
IsNamed None = Unit {0}
IsNamed (Some booking) = booking ≤ 18446744073709551615

-- a booking has 64 bits, a session 32, a step 16, a response 8; a list has an item, and each is
-- below 512
abbrev pub IsInRange : Request → Type 0
IsInRange (Begin booking) = booking ≤ 18446744073709551615
IsInRange (BeginWithout booking items) =
    (booking ≤ 18446744073709551615) × AreWords items × IsSet (has items)
IsInRange (Answer session step response booking) =
    (session ≤ 4294967295) × (step ≤ 65535) × (response ≤ 255) × IsNamed booking
IsInRange (Close session booking) = (session ≤ 4294967295) × IsNamed booking
IsInRange (Look session) = session ≤ 4294967295
IsInRange Exposure = Unit {0}

-- the text of requests: the line of each, ended by a line feed
unfoldable pub text_of_requests : List Request → List ℕ
text_of_requests requests = text_of_lines (map request_line requests)

-- the text is a script of these requests: it is their text, of which the last line feed may be
-- missing
pub record IsScript (text : List ℕ) (requests : List Request) : Type 0 where
  pub in_range : All IsInRange requests
  pub lines : (text ≡ text_of_requests requests)
      ⊎ (text ++ 10 ∷ [] ≡ text_of_requests requests)

-- the line is that of a request
pub record IsRequestLine (line : List ℕ) : Type 0 where
  pub request : Request
  pub in_range : IsInRange request
  pub words : line ≡ request_line request

-- line n of the text, counted from 1, is the first that is no request's
pub record IsFirstFaultyLine (text : List ℕ) (n : ℕ) : Type 0 where
  pub at : ℕ
  pub number : n ≡ at + 1
  pub within : at < length (lines_of text)
  pub here : IsRequestLine (get_or (lines_of text) at []) → ⊥
  pub before : (i : ℕ) → i < at → IsRequestLine (get_or (lines_of text) i [])
