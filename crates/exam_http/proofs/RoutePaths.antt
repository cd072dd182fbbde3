-- Where the router leads.
use Rattle.std.proofs.Common.{◌≡◌, ◌≢◌, ℕ, zero, suc, ◌-◌, List, [], ◌∷◌, ◌++◌, length, true, false, Option, Some, None, refl, sym, ap, ◌∙◌, codes, ◌==◌, cond, arith, inl, inr, ◌<◌, nat_eq, drop, option_map, length-append}
use Rattle.std.proofs.lemmas.Bool.{ne_eqb, cond-false, cond-true, cases_Bool, and_left, and_right, and_from, lt-ltb}
use Rattle.std.proofs.lemmas.List.{drop_at}
use Rattle.std.specs.Prelude.{ltb}
use Rattle.std.specs.Cmp.Lexicographic.{pointwise}
use Rattle.matchit.specs.Rows.{RowsOf}
use Rattle.matchit.specs.Router.{RouteOf}
use Rattle.matchit.specs.Seek.{first, seek, step, segment, has_slash, param_step, or_else, own, with_suffix, longest_suffix, cuts, better}
use Rattle.matchit.proofs.OnLiterals.{matchit_on_literals}
use Rattle.exam_http.specs.declared.route.RouteKind.{RouteKind}
use Rattle.exam_http.specs.declared.route.RouteKind.TheVariants as kind
use Rattle.exam_http.specs.Table.{table, entry, id_name}

-- no slash in the text
abbrev pub NoSlash : List ℕ → Type 0
NoSlash [] = Unit {0}
NoSlash (b ∷ bs) = (b ≢ 47) × NoSlash bs

segment_all : (id : List ℕ) → NoSlash id → segment id ≡ id
segment_all [] h = refl
segment_all (b ∷ bs) h = cond-false (b == 47) (b ∷ []) (b ∷ segment bs) (ne_eqb b 47 h.0) ∙ ap (λ (t : List ℕ). b ∷ t) (segment_all bs h.1)

no_slash : (id : List ℕ) → NoSlash id → has_slash id ≡ false
no_slash [] h = refl
no_slash (b ∷ bs) h = cond-false (b == 47) true (has_slash bs) (ne_eqb b 47 h.0) ∙ no_slash bs h.1

segment_to : (id rest : List ℕ) → NoSlash id → segment (id ++ 47 ∷ rest) ≡ id ++ 47 ∷ []
segment_to [] rest h = refl
segment_to (b ∷ bs) rest h = cond-false (b == 47) (b ∷ []) (b ∷ segment (bs ++ 47 ∷ rest)) (ne_eqb b 47 h.0)
    ∙ ap (λ (t : List ℕ). b ∷ t) (segment_to bs rest h.1)

-- the rows after "/sessions/"
abbrev after : RowsOf (RouteOf RouteKind)
after =
    (256 ∷ codes "/answers", (entry (codes "/sessions/" ++ 256 ∷ codes "/answers") (codes "/sessions/{id}/answers") id_name kind.Answers).1)
    ∷ (256 ∷ codes "/close", (entry (codes "/sessions/" ++ 256 ∷ codes "/close") (codes "/sessions/{id}/close") id_name kind.Close).1)
    ∷ (256 ∷ [], (entry (codes "/sessions/" ++ 256 ∷ []) (codes "/sessions/{id}") id_name kind.Session).1)
    ∷ []

pub or_none : {K : Type 0} (x : Option K) → or_else x None ≡ x
or_none None = refl
or_none (Some k) = refl

param_rows : {K : Type 0} (path : List ℕ) → (param_step {K = K} [] path).1 ≡ []
unfolding matchit_on_literals
param_rows path = elim (cases_Bool (has_slash path)) [ inl t ↦ rw t refl | inr f ↦ rw f refl ]

pub seek_none : {K : Type 0} (k : ℕ) (path : List ℕ) → seek {K = K} k [] path ≡ None
unfolding matchit_on_literals
seek_none k [] = refl
seek_none (suc k) (b ∷ path) = seek_none k path
seek_none {K} zero (b ∷ path) =
    ap (λ (x : Option K). or_else x (or_else (seek ((param_step {K = K} [] (b ∷ path)).0 - 1)
    (param_step {K = K} [] (b ∷ path)).1 path) None)) (seek_none 0 path)
    ∙ or_none _ ∙ ap (λ (rs : RowsOf K). seek ((param_step {K = K} [] (b ∷ path)).0 - 1) rs path) (param_rows (b ∷ path))
    ∙ seek_none ((param_step {K = K} [] (b ∷ path)).0 - 1) path

-- a byte of a path, where no parameter may begin
byte_step : {K : Type 0} (rs : RowsOf K) (b : ℕ) (path : List ℕ) → step 256 rs ≡ [] → step 257 rs ≡ []
    → seek 0 rs (b ∷ path) ≡ seek 0 (step b rs) path
unfolding matchit_on_literals
byte_step {K} rs b path p q =
    let rest : RowsOf K → RowsOf K → Option K = λ ps cs. or_else
    (seek ((param_step ps (b ∷ path)).0 - 1) (param_step ps (b ∷ path)).1 path) (own cs) in
    let none : rest (step 256 rs) (step 257 rs) ≡ None = ap (λ (ps : RowsOf K). rest ps (step 257 rs)) p
    ∙ ap (λ (cs : RowsOf K). rest [] cs) q
    ∙ or_none _ ∙ ap (λ (r : RowsOf K). seek ((param_step {K = K} [] (b ∷ path)).0 - 1) r path) (param_rows (b ∷ path))
    ∙ seek_none ((param_step {K = K} [] (b ∷ path)).0 - 1) path in
    ap (λ (o : Option K). or_else (seek 0 (step b rs) path) o) none ∙ or_none _

abbrev t1 : RowsOf (RouteOf RouteKind)
t1 = step 47 table

abbrev t2 : RowsOf (RouteOf RouteKind)
t2 = step 115 t1

abbrev t3 : RowsOf (RouteOf RouteKind)
t3 = step 101 t2

abbrev t4 : RowsOf (RouteOf RouteKind)
t4 = step 115 t3

abbrev t5 : RowsOf (RouteOf RouteKind)
t5 = step 115 t4

abbrev t6 : RowsOf (RouteOf RouteKind)
t6 = step 105 t5

abbrev t7 : RowsOf (RouteOf RouteKind)
t7 = step 111 t6

abbrev t8 : RowsOf (RouteOf RouteKind)
t8 = step 110 t7

abbrev t9 : RowsOf (RouteOf RouteKind)
t9 = step 115 t8

-- what comes before the session's number
pub lead : (rest : List ℕ) → first table (codes "/sessions/" ++ rest) ≡ seek 0 after rest
lead rest =
    byte_step table 47 _ refl refl ∙ byte_step t1 115 _ refl refl ∙ byte_step t2 101 _ refl refl ∙ byte_step t3 115 _ refl refl
    ∙ byte_step t4 115 _ refl refl ∙ byte_step t5 105 _ refl refl ∙ byte_step t6 111 _ refl refl ∙ byte_step t7 110 _ refl refl
    ∙ byte_step t8 115 _ refl refl ∙ byte_step t9 47 rest refl refl

-- bytes that are passed over
pub passed : {K : Type 0} (rs : RowsOf K) (bs rest : List ℕ) → seek (length bs) rs (bs ++ rest) ≡ seek 0 rs rest
unfolding matchit_on_literals
passed rs [] rest = refl
passed rs (b ∷ bs) rest = passed rs bs rest

passed_all : {K : Type 0} (rs : RowsOf K) (bs : List ℕ) → seek (length bs) rs bs ≡ own rs
unfolding matchit_on_literals
passed_all rs [] = refl
passed_all rs (b ∷ bs) = passed_all rs bs

-- the last byte is no slash
last_differs : (b : ℕ) (bs : List ℕ) → NoSlash (b ∷ bs) → pointwise nat_eq (47 ∷ []) (drop (length bs) (b ∷ bs)) ≡ false
last_differs b [] h = and_left (47 == b) true (ne_eqb 47 b (λ e. h.0 (sym e)))
last_differs b (c ∷ cs) h = last_differs c cs h.1

abbrev tails : RowsOf (RouteOf RouteKind)
tails = step 256 after

-- no row takes a byte for itself
no_byte : (b : ℕ) → b < 256 → step b after ≡ []
no_byte b h = rw (ne_eqb 256 b (λ e. omega arith)) refl

-- the path's segment doesn't end with a slash
cuts_none : (b : ℕ) (bs : List ℕ) → NoSlash (b ∷ bs) → cuts (b ∷ bs) (47 ∷ []) ≡ false
cuts_none b bs h =
    let e : length (b ∷ bs) - 1 ≡ length bs = omega arith in
    and_right (ltb 1 (length (b ∷ bs))) _ (ap (λ n. pointwise nat_eq (47 ∷ []) (drop n (b ∷ bs))) e ∙ last_differs b bs h)

better_none : (seg best suffix : List ℕ) → cuts seg suffix ≡ false → better seg best suffix ≡ best
better_none seg best suffix h = cond-false _ suffix best (and_right (ltb (length best) (length suffix)) (cuts seg suffix) h)

longest_none : (seg : List ℕ) → cuts seg (47 ∷ []) ≡ false → longest_suffix seg tails ≡ []
longest_none seg h = ap (λ (l : List ℕ). better seg l [])
    (better_none seg (better seg [] (47 ∷ [])) (47 ∷ []) h ∙ better_none seg [] (47 ∷ []) h)

-- how a parameter goes on from the longest suffix that was found
abbrev goes : List ℕ → List ℕ → List ℕ → ℕ × RowsOf (RouteOf RouteKind)
goes seg path l = cond (ltb 0 (length l)) (length seg - length l, with_suffix l tails) (cond (has_slash path) (0, []) (length path, tails))

step_is : (path : List ℕ) → param_step tails path ≡ goes (segment path) path (longest_suffix (segment path) tails)
unfolding matchit_on_literals
step_is path = refl

-- what follows a parameter that begins with b
after_byte : (b : ℕ) (path : List ℕ) (n : ℕ) (rs : RowsOf (RouteOf RouteKind)) (r : RouteOf RouteKind) → b < 256
    → param_step tails (b ∷ path) ≡ (n, rs) → seek (n - 1) rs path ≡ Some r → seek 0 after (b ∷ path) ≡ Some r
unfolding matchit_on_literals
after_byte b path n rs r small is found =
    let first_none : seek 0 (step b after) path ≡ None = ap (λ (t : RowsOf (RouteOf RouteKind)). seek 0 t path) (no_byte b small)
    ∙ seek_none 0 path in
    let second : seek ((param_step tails (b ∷ path)).0 - 1) (param_step tails (b ∷ path)).1 path
    ≡ Some r = ap (λ (q : ℕ × RowsOf (RouteOf RouteKind)). seek (q.0 - 1) q.1 path) is ∙ found in
    ap (λ (o : Option (RouteOf RouteKind)). or_else o
    (or_else (seek ((param_step tails (b ∷ path)).0 - 1) (param_step tails (b ∷ path)).1 path) (own (step 257 after)))) first_none
    ∙ ap (λ (o : Option (RouteOf RouteKind)). or_else o (own (step 257 after))) second

-- a path that is all of a parameter takes the route of a session
pub by_number : (b : ℕ) (bs : List ℕ) → b < 256 → NoSlash (b ∷ bs)
    → option_map (λ r. r.value) (first table (codes "/sessions/" ++ b ∷ bs)) ≡ Some kind.Session
by_number b bs small h =
    let seg = segment_all (b ∷ bs) h in
    let long : longest_suffix (segment (b ∷ bs)) tails ≡ [] = ap (λ (s : List ℕ). longest_suffix s tails) seg
    ∙ longest_none (b ∷ bs) (cuts_none b bs h) in
    let taken : param_step tails (b ∷ bs) ≡ (length (b ∷ bs), tails) =
    step_is (b ∷ bs) ∙ ap (goes (segment (b ∷ bs)) (b ∷ bs)) long
    ∙ cond-false (has_slash (b ∷ bs)) (0, []) (length (b ∷ bs), tails) (no_slash (b ∷ bs) h) in
    let e : length (b ∷ bs) - 1 ≡ length bs = omega arith in
    ap (option_map (λ (r : RouteOf RouteKind). r.value))
    (lead (b ∷ bs) ∙ after_byte b bs (length (b ∷ bs)) tails _ small taken (ap (λ n. seek n tails bs) e ∙ passed_all tails bs))

-- the rows that go on with a slash
abbrev actions : RowsOf (RouteOf RouteKind)
actions = with_suffix (47 ∷ []) tails

cuts_some : (b : ℕ) (bs : List ℕ) → cuts ((b ∷ bs) ++ 47 ∷ []) (47 ∷ []) ≡ true
cuts_some b bs =
    let l = length-append (b ∷ bs) (47 ∷ []) in
    let e : length ((b ∷ bs) ++ 47 ∷ []) - 1 ≡ length (b ∷ bs) = omega arith in
    and_from _ _ (lt-ltb 1 (length ((b ∷ bs) ++ 47 ∷ [])) (omega arith))
    (ap (λ n. pointwise nat_eq (47 ∷ []) (drop n ((b ∷ bs) ++ 47 ∷ []))) e
    ∙ ap (pointwise nat_eq (47 ∷ [])) (drop_at (b ∷ bs) (47 ∷ []) (length (b ∷ bs)) refl))

longest_some : (seg : List ℕ) → cuts seg (47 ∷ []) ≡ true → longest_suffix seg tails ≡ 47 ∷ []
longest_some seg h = ap (λ (l : List ℕ). better seg (better seg l (47 ∷ [])) []) (cond-true (cuts seg (47 ∷ [])) (47 ∷ []) [] h)

-- a path of a parameter and more takes the row of what follows it
pub by_action : (b : ℕ) (bs rest : List ℕ) (r : RouteOf RouteKind) → b < 256 → NoSlash (b ∷ bs) → seek 0 actions (47 ∷ rest) ≡ Some r
    → first table (codes "/sessions/" ++ (b ∷ bs) ++ 47 ∷ rest) ≡ Some r
by_action b bs rest r small h found =
    let seg = segment_to (b ∷ bs) rest h in
    let path : List ℕ = (b ∷ bs) ++ 47 ∷ rest in
    let long : longest_suffix (segment path) tails ≡ 47 ∷ [] = ap (λ (s : List ℕ). longest_suffix s tails) seg
    ∙ longest_some ((b ∷ bs) ++ 47 ∷ []) (cuts_some b bs) in
    let taken : param_step tails path ≡ (length (segment path) - 1, actions) = step_is path ∙ ap (goes (segment path) path) long in
    let e : length (segment path) - 1 - 1 ≡ length bs = omega (arith, ap length seg, length-append (b ∷ bs) (47 ∷ [])) in
    lead path ∙ after_byte b (bs ++ 47 ∷ rest) (length (segment path) - 1) actions r small taken
    (ap (λ n. seek n actions (bs ++ 47 ∷ rest)) e ∙ passed actions bs (47 ∷ rest) ∙ found)

pub answers : (b : ℕ) (bs : List ℕ) → b < 256 → NoSlash (b ∷ bs)
    → option_map (λ r. r.value) (first table (codes "/sessions/" ++ (b ∷ bs) ++ codes "/answers")) ≡ Some kind.Answers
unfolding matchit_on_literals
answers b bs small h = ap (option_map (λ (r : RouteOf RouteKind). r.value)) (by_action b bs (codes "answers") _ small h refl)

pub close : (b : ℕ) (bs : List ℕ) → b < 256 → NoSlash (b ∷ bs)
    → option_map (λ r. r.value) (first table (codes "/sessions/" ++ (b ∷ bs) ++ codes "/close")) ≡ Some kind.Close
unfolding matchit_on_literals
close b bs small h = ap (option_map (λ (r : RouteOf RouteKind). r.value)) (by_action b bs (codes "close") _ small h refl)

pub sessions : option_map (λ r. r.value) (first table (codes "/sessions")) ≡ Some kind.Sessions
unfolding matchit_on_literals
sessions = refl

pub exposure : option_map (λ r. r.value) (first table (codes "/exposure")) ≡ Some kind.Exposure
unfolding matchit_on_literals
exposure = refl

pub health : option_map (λ r. r.value) (first table (codes "/health")) ≡ Some kind.Health
unfolding matchit_on_literals
health = refl
