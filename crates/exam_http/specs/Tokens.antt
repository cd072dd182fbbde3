-- The token of a server: a text that whoever asks has to know.
use Rattle.std.specs.Prelude.{◌&&◌, ℕ, Bool, true, false, List, take, drop, codes, bytes_eq, Option, None, Some}
use Rattle.std.specs.Str.{str_eq_ignore_ascii_case}
use Rattle.exam_http.specs.declared.route.Route.{Route}
use Rattle.exam_http.specs.declared.route.Route.TheVariants.{Sessions, Session, Answers, Close, Exposure, Health}
use Rattle.exam_http.specs.Paths.{method_of}

-- the value is `Bearer`, in any case of its letters, one space, and the token
abbrev pub bears : List ℕ → List ℕ → Bool
bears token value =
    str_eq_ignore_ascii_case (take 7 value) (codes "Bearer ") && bytes_eq (drop 7 value) token

-- who sent this value of a field Authorization may ask: there is no token, or the value bears it
abbrev pub may_ask : Option (List ℕ) → List ℕ → Bool
may_ask None value = true
may_ask (Some token) value = bears token value

-- everyone may ask by this method on this route: how the examination is
abbrev pub is_for_all : Option Route → List ℕ → Bool
is_for_all None method = false
is_for_all (Some Sessions) method = false
is_for_all (Some (Session s)) method = false
is_for_all (Some (Answers s)) method = false
is_for_all (Some (Close s)) method = false
is_for_all (Some Exposure) method = false
is_for_all (Some Health) method = bytes_eq method (method_of Health)
