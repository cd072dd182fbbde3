-- The text of a response.
use Rattle.std.specs.Prelude.{ℕ, ◌==◌, Bool, true, false, List, [], ◌∷◌, ◌++◌, length, codes, unwrap_or, if◌then◌else◌}
use Rattle.std.specs.Fmt.{decimal}
use Rattle.http.specs.StatusCode.{reason_phrase}

-- carriage return, line feed
abbrev pub line_end : List ℕ
line_end = 13 ∷ 10 ∷ []

-- the phrase of a status, empty if it has none
abbrev pub phrase_of : ℕ → List ℕ
phrase_of status = unwrap_or (reason_phrase status) []

abbrev pub status_line : ℕ → List ℕ
status_line status = codes "HTTP/1.1 " ++ decimal status ++ 32 ∷ phrase_of status ++ line_end

-- how a client may ask, where it may not ask as it did: with a token
abbrev pub challenge_text : ℕ → List ℕ
challenge_text status =
    if status == 401 then codes "WWW-Authenticate: Bearer" ++ line_end else []

abbrev pub close_text : Bool → List ℕ
close_text true = codes "Connection: close" ++ line_end
close_text false = []

unfoldable pub type_text : List ℕ
type_text = codes "Content-Type: application/json" ++ line_end ++ codes "Content-Length: "

abbrev pub fields_text : ℕ → Bool → List ℕ
fields_text size close = type_text ++ decimal size ++ line_end ++ close_text close

-- the response of a status with this body; `close` is whether the connection ends after it
unfoldable pub response : ℕ → List ℕ → Bool → List ℕ
response status body close =
    status_line status ++ challenge_text status ++ fields_text (length body) close ++ line_end ++ body
