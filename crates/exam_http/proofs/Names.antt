-- A path and the route that it names.
use Rattle.std.proofs.Common.{◌≡◌, ◌≢◌, ℕ, ◌-◌, ◌<◌, ◌≤◌, true, false, List, [], ◌∷◌, ◌++◌, length, take, drop, Option, Some, None, sym, ap, ◌∙◌, codes, arith, rules, nat_eq, option_map, length-append}
use Rattle.std.specs.Cmp.Lexicographic.{pointwise}
use Rattle.std.specs.Char.{is_ascii_digit}
use Rattle.std.specs.List.{list_all}
use Rattle.std.specs.Fmt.{decimal}
use Rattle.std.specs.Str.{IsUtf8, IsAscii}
use Rattle.std.proofs.Math.Seq.{take-append_seam, drop-append_seam}
use Rattle.std.proofs.lemmas.Bool.{and_parts, leb-true}
use Rattle.std.proofs.lemmas.List.{take-append-drop}
use Rattle.std.proofs.lemmas.Slice.Eq.{bytes_eq-Decides}
use Rattle.std.proofs.lemmas.Str.{IsUtf8-from_ascii, IsAscii-append}
use Rattle.std.proofs.lemmas.Fmt.{IsAscii-from_digits, digits_decimal, decimal_nonempty}
use Rattle.std.specs.Prelude.{IfSome, IfNone, nat_le}
use Rattle.matchit.specs.Router.{RouteOf}
use Rattle.matchit.specs.Seek.{first}
use Rattle.exam_text.proofs.Numerals.{own}
use Rattle.exam_http.specs.declared.route.RouteKind.{RouteKind}
use Rattle.exam_http.specs.declared.route.RouteKind.TheVariants as kind
use Rattle.exam_http.specs.declared.route.Route.{Route}
use Rattle.exam_http.specs.declared.route.Route.TheVariants.{Sessions, Session, Answers, Close, Exposure, Health}
use Rattle.exam_http.specs.Paths.{IsRoute, path_of, Names}
use Rattle.exam_http.specs.Table.{table, kind_of}
use Rattle.exam_http.proofs.RoutePaths.{NoSlash, by_number, answers, close, sessions, exposure, health}

-- ---- a front and a back that are taken off

pub with_front : (p path rest : List ℕ) → pointwise nat_eq (take (length p) path) p ≡ true → rest ≡ drop (length p) path → path ≡ p ++ rest
with_front p path rest h e =
    let same : take (length p) path ≡ p = (bytes_eq-Decides (take (length p) path) p).0 h in
    sym (take-append-drop (length p) path) ∙ ap (λ (x : List ℕ). x ++ drop (length p) path) same ∙ ap (λ (x : List ℕ). p ++ x) (sym e)

pub with_back : (t rest text : List ℕ) → pointwise nat_eq (drop (length rest - length t) rest) t ≡ true
    → text ≡ take (length rest - length t) rest → rest ≡ text ++ t
with_back t rest text h e =
    let same : drop (length rest - length t) rest ≡ t = (bytes_eq-Decides (drop (length rest - length t) rest) t).0 h in
    sym (take-append-drop (length rest - length t) rest) ∙ ap (λ (x : List ℕ). x ++ drop (length rest - length t) rest) (sym e)
    ∙ ap (λ (x : List ℕ). text ++ x) same

pub no_front : (p path x : List ℕ) → pointwise nat_eq (take (length p) path) p ≡ false → path ≢ p ++ x
no_front p path x h e =
    let same : take (length p) path ≡ p = ap (take (length p)) e ∙ take-append_seam p x in
    let yes = (bytes_eq-Decides (take (length p) path) p).1 same in
    absurd cc

pub front_is : (p path rest x : List ℕ) → rest ≡ drop (length p) path → path ≡ p ++ x → rest ≡ x
front_is p path rest x r e = r ∙ ap (drop (length p)) e ∙ drop-append_seam p x

back_at : (t rest x : List ℕ) → rest ≡ x ++ t → length rest - length t ≡ length x
back_at t rest x e =
    let l = length-append x t in
    let s : length rest ≡ length (x ++ t) = ap (λ (y : List ℕ). length y) e in
    omega (arith, l, s)

pub no_back : (t rest x : List ℕ) → pointwise nat_eq (drop (length rest - length t) rest) t ≡ false → rest ≢ x ++ t
no_back t rest x h e =
    let same : drop (length rest - length t) rest ≡ t = ap (λ k. drop k rest) (back_at t rest x e) ∙ ap (drop (length x)) e
    ∙ drop-append_seam x t in
    let yes = (bytes_eq-Decides (drop (length rest - length t) rest) t).1 same in
    absurd cc

pub back_is : (t rest text x : List ℕ) → text ≡ take (length rest - length t) rest → rest ≡ x ++ t → text ≡ x
back_is t rest text x r e = r ∙ ap (λ k. take k rest) (back_at t rest x e) ∙ ap (take (length x)) e ∙ take-append_seam x t

-- ---- numbers in paths

pub if_some : {A : Type 0} (o : Option A) (P Q : A → Type 0) → ((a : A) → P a → Q a) → IfSome o P → IfSome o Q
if_some (Some a) P Q f h = f a h
if_some None P Q f h = h

digit_is : (b : ℕ) → is_ascii_digit b ≡ true → (b ≢ 47) × (b < 128)
digit_is b h =
    let p = and_parts (nat_le 48 b) (nat_le b 57) h in
    let low : 48 ≤ b = leb-true _ _ p.0 in
    let high : b ≤ 57 = leb-true _ _ p.1 in
    (λ e. omega (arith, low, e), omega (arith, high))

no_slash : (t : List ℕ) → list_all is_ascii_digit t ≡ true → NoSlash t
no_slash [] h = tt
no_slash (b ∷ bs) h = let p = and_parts (is_ascii_digit b) (list_all is_ascii_digit bs) h in ((digit_is b p.0).0, no_slash bs p.1)

first_digit : (b : ℕ) (bs : List ℕ) → list_all is_ascii_digit (b ∷ bs) ≡ true → b < 256
first_digit b bs h =
    let small = (digit_is b (and_parts (is_ascii_digit b) (list_all is_ascii_digit bs) h).0).1 in
    omega (arith, small)

-- the digits of a session's number
digits : (s : ℕ) → s ≤ 4294967295 → list_all is_ascii_digit (decimal s) ≡ true
digits s le = digits_decimal own s (omega arith)

some : (s : ℕ) → s ≤ 4294967295 → 0 < length (decimal s)
some s le = decimal_nonempty s (omega arith)

leads_session : (t : List ℕ) → 0 < length t → list_all is_ascii_digit t ≡ true
    → option_map (λ r. r.value) (first table (codes "/sessions/" ++ t)) ≡ Some kind.Session
leads_session [] n h = absurd (omega arith)
leads_session (b ∷ bs) n h = by_number b bs (first_digit b bs h) (no_slash (b ∷ bs) h)

leads_answers : (t : List ℕ) → 0 < length t → list_all is_ascii_digit t ≡ true
    → option_map (λ r. r.value) (first table (codes "/sessions/" ++ t ++ codes "/answers")) ≡ Some kind.Answers
leads_answers [] n h = absurd (omega arith)
leads_answers (b ∷ bs) n h = answers b bs (first_digit b bs h) (no_slash (b ∷ bs) h)

leads_close : (t : List ℕ) → 0 < length t → list_all is_ascii_digit t ≡ true
    → option_map (λ r. r.value) (first table (codes "/sessions/" ++ t ++ codes "/close")) ≡ Some kind.Close
leads_close [] n h = absurd (omega arith)
leads_close (b ∷ bs) n h = close b bs (first_digit b bs h) (no_slash (b ∷ bs) h)

-- the router leads the path of a route to its kind
pub leads : (r : Route) → IsRoute r → option_map (λ x. x.value) (first table (path_of r)) ≡ Some (kind_of r)
leads Sessions h = sessions
leads (Session s) h = leads_session (decimal s) (some s h) (digits s h)
leads (Answers s) h = leads_answers (decimal s) (some s h) (digits s h)
leads (Close s) h = leads_close (decimal s) (some s h) (digits s h)
leads Exposure h = exposure
leads Health h = health

-- ---- the path of a route is a text

ascii_number : (s : ℕ) → s ≤ 4294967295 → IsAscii (decimal s)
ascii_number s le = IsAscii-from_digits (decimal s) (own.to (decimal s) (digits s le))

is_ascii_path : (r : Route) → IsRoute r → IsAscii (path_of r)
is_ascii_path Sessions h = search rules
is_ascii_path (Session s) h = IsAscii-append (codes "/sessions/") (decimal s) (search rules) (ascii_number s h)
is_ascii_path (Answers s) h = IsAscii-append (codes "/sessions/" ++ decimal s) (codes "/answers")
    (IsAscii-append (codes "/sessions/") (decimal s) (search rules) (ascii_number s h)) (search rules)
is_ascii_path (Close s) h = IsAscii-append (codes "/sessions/" ++ decimal s) (codes "/close")
    (IsAscii-append (codes "/sessions/") (decimal s) (search rules) (ascii_number s h)) (search rules)
is_ascii_path Exposure h = search rules
is_ascii_path Health h = search rules

pub is_path : (r : Route) → IsRoute r → IsUtf8 (path_of r)
is_path r h = IsUtf8-from_ascii (path_of r) (is_ascii_path r h)

-- ---- what follows from the router and the parts of the path together

pub names_from : (path : List ℕ) (o : Option Route) (k : RouteKind) → IfSome o (λ r. IsRoute r × (path ≡ path_of r))
    → IfNone o ((r : Route) → IsRoute r → kind_of r ≡ k → path ≢ path_of r)
    → ((r : Route) → IsRoute r → path ≡ path_of r → kind_of r ≡ k) → Names path o
names_from path (Some r) k s n l = s
names_from path None k s n l = λ r h e. n r h (l r h e) e

value_of : {x : Option (RouteOf RouteKind)} {y : RouteOf RouteKind} → x ≡ Some y → option_map (λ r. r.value) x ≡ Some y.value
value_of e = ap (option_map (λ (r : RouteOf RouteKind). r.value)) e

pub kind_is : (path : List ℕ) (found : RouteOf RouteKind) → first table path ≡ Some found → (r : Route) → IsRoute r → path ≡ path_of r
    → kind_of r ≡ found.value
kind_is path found at r h e =
    let same : option_map (λ (x : RouteOf RouteKind). x.value) (first table (path_of r))
    ≡ Some found.value = ap (λ (p : List ℕ). option_map (λ (x : RouteOf RouteKind). x.value) (first table p)) (sym e) ∙ value_of at in
    let both : Some (kind_of r) ≡ Some found.value = sym (leads r h) ∙ same in
    cc

pub not_found : (path : List ℕ) → first table path ≡ None → (r : Route) → IsRoute r → path ≢ path_of r
not_found path none r h e =
    let same : option_map (λ (x : RouteOf RouteKind). x.value) (first table (path_of r))
    ≡ None = ap (λ (p : List ℕ). option_map (λ (x : RouteOf RouteKind). x.value) (first table p)) (sym e)
    ∙ ap (option_map (λ (x : RouteOf RouteKind). x.value)) none in
    let both : Some (kind_of r) ≡ None = sym (leads r h) ∙ same in
    absurd cc
