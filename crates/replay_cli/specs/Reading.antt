-- Reading a script line by line, and the fault of a source.
use Rattle.std.specs.Prelude.{ℕ, zero, suc, ◌+◌, ◌*◌, ◌^◌, ◌<◌, ◌≤◌, ⊤, ◌&&◌, ◌==◌, nat_lt, if◌then◌else◌, List, [], ◌∷◌, ◌++◌, length, drop, bytes_eq, codes, Option, Some, None, Result}
use Rattle.std.specs.Option.{option_map}
use Rattle.bank_tables.specs.Items.{Set}
use Rattle.bank_tables.specs.Sums.{sum_in}
use Rattle.exam_text.specs.First.{◌orelse◌, or_fault, each_below}
use Rattle.exam_text.specs.Numbers.{number_of}
use Rattle.exam_text.specs.Runs.{is_set}
use Rattle.exam_text.specs.Words.{words_of, word}
use Rattle.history_model.specs.declared.request.Request.{Request}
use Rattle.history_model.specs.declared.request.Request.TheVariants.{Begin, BeginWithout, Answer, Close, Look, Exposure}
use Rattle.replay_cli.specs.declared.script_fault.ScriptFault.{ScriptFault}
use Rattle.replay_cli.specs.declared.script_fault.ScriptFault.TheVariants.{Source, TooLong, Line, Memory}
use Rattle.spec_reader.specs.Sets.{in_set}
use Rattle.replay_cli.specs.Scripts.{request_line, IsFirstFaultyLine}

-- the number of a line of two words, of which the first is this name
unfoldable pub number_after : List ℕ → ℕ → List (List ℕ) → Option ℕ
number_after name most words =
    if ((length words == 2) && bytes_eq (word words 0) name)
    then number_of most (word words 1)
    else None

-- the booking that the last words of a line name: no words name none, and other words than
-- `for B` are a fault
unfoldable pub booking_in : List (List ℕ) → Option (Option ℕ)
booking_in words =
    if (length words == 0)
    then Some None
    else option_map Some (number_after (codes "for") 18446744073709551615 words)

-- the answer of these three numbers and this booking, if each is there
abbrev pub answer_with : Option ℕ → Option ℕ → Option ℕ → Option (Option ℕ) → Option Request
answer_with (Some session) (Some step) (Some response) (Some booking) =
    Some (Answer session step response booking)
answer_with session step response booking = None

-- the answer of the words of a line
unfoldable pub answer_in : List (List ℕ) → Option Request
answer_in words =
    if (nat_lt 3 (length words) && bytes_eq (word words 0) (codes "answer"))
    then answer_with (number_of 4294967295 (word words 1)) (number_of 65535 (word words 2))
    (number_of 255 (word words 3)) (booking_in (drop 4 words))
    else None

-- the closing of this session with this booking, if both are there
abbrev pub close_with : Option ℕ → Option (Option ℕ) → Option Request
close_with (Some session) (Some booking) = Some (Close session booking)
close_with session booking = None

-- the closing of the words of a line
unfoldable pub close_in : List (List ℕ) → Option Request
close_in words =
    if (nat_lt 1 (length words) && bytes_eq (word words 0) (codes "close"))
    then close_with (number_of 4294967295 (word words 1)) (booking_in (drop 2 words))
    else None

-- the request for the counts, if the word of a line is that
unfoldable pub exposure_in : List (List ℕ) → Option Request
exposure_in words =
    if ((length words == 1) && bytes_eq (word words 0) (codes "exposure"))
    then Some Exposure
    else None

-- the request without a list of the words of a line
unfoldable pub request_in : List (List ℕ) → Option Request
request_in words =
    option_map Begin (number_after (codes "begin") 18446744073709551615 words)
    orelse answer_in words
    orelse close_in words
    orelse option_map Look (number_after (codes "look") 4294967295 words)
    orelse exposure_in words

-- the items of X from `first` on in a word of so many bits: bit j is that of item first + j
unfoldable pub word_of : ℕ → Set → ℕ → ℕ
word_of bits X first = sum_in bits (λ j. X (first + j)) (λ j. 2 ^ j)

-- a set of items in so many words of 64 bits
unfoldable pub words_below : ℕ → Set → List ℕ
words_below zero X = []
words_below (suc count) X = words_below count X ++ word_of 64 X (64 * count) ∷ []

-- the set of items that the words write, however it is spelled
abbrev pub list_in : List (List ℕ) → Option (List ℕ)
list_in words = if is_set words then Some (words_below 8 (in_set words)) else None

-- the beginning with this booking and this list, if both are there
abbrev pub begin_with : Option ℕ → Option (List ℕ) → Option Request
begin_with (Some booking) (Some items) = Some (BeginWithout booking items)
begin_with booking items = None

-- the beginning with a list of the words of a line, however the list is spelled
unfoldable pub without_in : List (List ℕ) → Option Request
without_in words =
    if (nat_lt 3 (length words) && (bytes_eq (word words 0) (codes "begin")
    && bytes_eq (word words 2) (codes "without")))
    then begin_with (number_of 18446744073709551615 (word words 1)) (list_in (drop 3 words))
    else None

-- the request with a list, if the line is its line; or else the other request
abbrev pub if_spelled : List ℕ → Option Request → Option Request → Option Request
if_spelled line None other = other
if_spelled line (Some request) other =
    if bytes_eq (request_line request) line then Some request else None

-- the request of a line with these words
unfoldable pub request_from : List ℕ → List (List ℕ) → Option Request
request_from line words = if_spelled line (without_in words) (request_in words)

-- the request of a line
abbrev pub request_on : List ℕ → Option Request
request_on line = request_from line (words_of line)

-- the request of line i, counted from 0, or the fault with its number, counted from 1
abbrev pub request_at : List (List ℕ) → ℕ → Result Request ScriptFault
request_at lines i = or_fault (request_on (word lines i)) (Line (i + 1))

-- the requests of lines, or the fault of the first that is no request's
unfoldable pub requests_of : List (List ℕ) → Result (List Request) ScriptFault
requests_of lines = each_below (length lines) (request_at lines)

-- how long a script may be, in bytes
abbrev pub most_bytes : ℕ
most_bytes = 16777216

-- the fault of a source with these bytes: it is too long exactly if they are more than
-- `most_bytes`; a failed source and lack of memory are possible with any bytes
abbrev pub IsScriptFault : List ℕ → ScriptFault → Type 0
IsScriptFault bytes Source = ⊤
IsScriptFault bytes Memory = ⊤
IsScriptFault bytes TooLong = most_bytes < length bytes
IsScriptFault bytes (Line n) = (length bytes ≤ most_bytes) × IsFirstFaultyLine bytes n

-- a fault of the text itself
abbrev pub IsOfText : ScriptFault → Type 0
IsOfText Source = ⊥
IsOfText Memory = ⊥
IsOfText fault = Unit {0}
