-- What the fields of a head mean: each is a pair of its name and its value, with no white space
-- around the value.
use Rattle.std.specs.Prelude.{ℕ, ◌&&◌, ◌||◌, not, Bool, List, ◌==◌, nat_lt, nat_le, map, length, [], ◌∷◌, codes, bytes_eq, Result, Ok, Err, if◌then◌else◌}
use Rattle.std.specs.List.{filter, list_any, list_all}
use Rattle.std.specs.Char.{is_ascii_digit}
use Rattle.std.specs.Str.{str_eq_ignore_ascii_case}
use Rattle.std.specs.Str.Parse.{digits_value}
use Rattle.exam_text.specs.First.{fault_where, unless}
use Rattle.wire_http.specs.declared.message.WireFault.{WireFault}
use Rattle.wire_http.specs.declared.message.WireFault.TheVariants.{BadHead, NoLength, BodyTooLong}

-- the field has this name, in any case of its letters
abbrev pub is_named : List ℕ → List ℕ × List ℕ → Bool
is_named name field = str_eq_ignore_ascii_case field.0 name

-- the field has this name and this value, both in any case of their letters
abbrev pub is_named_with : List ℕ → List ℕ → List ℕ × List ℕ → Bool
is_named_with name word field = is_named name field && str_eq_ignore_ascii_case field.1 word

-- the values of the fields of this name, in order
abbrev pub values_of : List ℕ → List (List ℕ × List ℕ) → List (List ℕ)
values_of name fields = map (λ field. field.1) (filter (is_named name) fields)

-- the first of some values, empty if there is none
abbrev pub first_of : List (List ℕ) → List ℕ
first_of [] = []
first_of (value ∷ values) = value

-- the only one of some values, empty if there is none or there are several
abbrev pub only_of : List (List ℕ) → List ℕ
only_of values = if length values == 1 then first_of values else []

-- the value of the only field Authorization, empty if there is none or there are several
abbrev pub authorization : List (List ℕ × List ℕ) → List ℕ
authorization fields = only_of (values_of (codes "authorization") fields)

-- one to nine digits
abbrev pub is_length : List ℕ → Bool
is_length text = list_all is_ascii_digit text && (nat_lt 0 (length text) && nat_le (length text) 9)

-- the number that a length writes, 0 if it is empty: at most 4,096
abbrev pub size_of : List ℕ → Result ℕ WireFault
size_of text =
    if nat_lt 4096 (digits_value 10 text) then Err BodyTooLong else Ok (digits_value 10 text)

-- no value, or one, which is a length
abbrev pub are_lengths : List (List ℕ) → Bool
are_lengths lengths =
    (length lengths == 0) || ((length lengths == 1) && is_length (first_of lengths))

-- how many bytes of body a head announces, or the first of its faults: a second length, or one that
-- is ill-formed, is BadHead; a transfer encoding, or a POST with no length, is NoLength; a length
-- above 4,096 is BodyTooLong
unfoldable pub body_length : List ℕ → List (List ℕ × List ℕ) → Result ℕ WireFault
body_length method fields =
    let lengths = values_of (codes "content-length") fields in
    let encoded = list_any (is_named (codes "transfer-encoding")) fields in
    let lacks_length = bytes_eq method (codes "POST") && (length lengths == 0) in
    unless (fault_where (not (are_lengths lengths)) BadHead) (
    unless (fault_where (encoded || lacks_length) NoLength) (
    size_of (first_of lengths)))

-- the message asks to close the connection: it has version 1.0, or is a HEAD, or has a field that
-- asks for it
abbrev pub asks_to_close : ℕ → List ℕ → List (List ℕ × List ℕ) → Bool
asks_to_close minor method fields =
    (minor == 0) || (bytes_eq method (codes "HEAD") || list_any
    (is_named_with (codes "connection") (codes "close")) fields)
