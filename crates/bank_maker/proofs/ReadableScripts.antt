-- The script of a drill is one that is read: its numbers are small, and so is the whole.
use Rattle.std.proofs.Common.{◌≡◌, ℕ, suc, ◌+◌, ◌-◌, ◌*◌, ◌/◌, ◌<◌, ◌≤◌, min, Bool, true, false, cond, nat_lt, nat_eq, List, [], ◌∷◌, ◌++◌, length, get_or, map, Option, Some, None, refl, sym, ap, subst, inl, arith, length-append}
use Rattle.std.proofs.lemmas.List.{length-map}
use Rattle.std.specs.Fmt.{decimal}
use Rattle.std.specs.List.{All, flat_map, range_with_len}
use Rattle.std.specs.Option.{option_to_list}
use Rattle.std.proofs.lemmas.Fmt.{length-decimal-le}
use Rattle.std.proofs.lemmas.List.Elements.{All-nil, All-cons, All-head, All-tail, All-append, All-map}
use Rattle.std.proofs.lemmas.List.Concat.{length-flat_map}
use Rattle.std.proofs.lemmas.List.FromFn.{length-range_with_len, get_or-range_with_len}
use Rattle.std.proofs.lemmas.List.Sums.{sum_by-le}
use Rattle.history_model.specs.declared.request.Request.{Request}
use Rattle.history_model.specs.declared.request.Request.TheVariants.{Begin, BeginWithout, Answer, Close, Look, Exposure}
use Rattle.exam_text.specs.Words.{text_of_lines}
use Rattle.replay_cli.specs.Scripts.{request_line, text_of_requests, IsInRange, IsScript}
use Rattle.bank_maker.specs.declared.act.Act.{Act}
use Rattle.bank_maker.specs.declared.act.Act.TheVariants.{Begins, Answers, Closes}
use Rattle.bank_maker.specs.Scripts.{group, act_of, step_acts, group_acts, acts, request_at, state_behind, requests_from, script_text}

-- ---- lists
All-flat_map : {X Y : Type 0} (P : Y → Type 0) (f : X → List Y) (xs : List X) → All (λ x. All P (f x)) xs → All P (flat_map f xs)
All-flat_map P f [] each = All-nil P
All-flat_map P f (x ∷ xs) each =
    All-append P (f x) (flat_map f xs) (All-head (λ y. All P (f y)) x xs each) (All-flat_map P f xs (All-tail (λ y. All P (f y)) x xs each))

All-range : (a n : ℕ) → All (λ i. (a ≤ i) × (i < a + n)) (range_with_len a n)
All-range a n k d lt =
    let short : k < n = omega (arith, lt, length-range_with_len a n) in
    let is : get_or (range_with_len a n) k d ≡ a + k = get_or-range_with_len a n k d short in
    subst (λ i. (a ≤ i) × (i < a + n)) (sym is) (omega arith, omega (arith, short))

All-weaken : {X : Type 0} (P Q : X → Type 0) (xs : List X) → ((x : X) → P x → Q x) → All P xs → All Q xs
All-weaken P Q xs f each k d lt = f (get_or xs k d) (each k d lt)

-- ---- the acts
-- an act of so many sessions
abbrev IsAct : ℕ → Act → Type 0
IsAct n (Begins s) = s < n
IsAct n (Answers s k) = (s < n) × (k < 20)
IsAct n (Closes s) = s < n

group_within : (n first : ℕ) → All (λ s. s < n) (group n first)
group_within n first =
    All-weaken (λ s. (first ≤ s) × (s < first + min 10 (n - first))) (λ s. s < n) (group n first)
    (λ s h. omega (arith, h.0, h.1)) (All-range first (min 10 (n - first)))

one_act : (n s k : ℕ) → s < n → k < 20 → All (IsAct n) (option_to_list (act_of n s k))
one_act n s k lt step = go (nat_lt (s + 1) n) (nat_lt k 10) (nat_eq k 10)
  where
    answers : All (IsAct n) (Answers s k ∷ [])
    answers = All-cons (IsAct n) (Answers s k) [] (lt, step) (All-nil (IsAct n))

    closes : All (IsAct n) (Closes s ∷ [])
    closes = All-cons (IsAct n) (Closes s) [] lt (All-nil (IsAct n))

    go : (a b c : Bool) → All (IsAct n) (option_to_list (cond a (Some (Answers s k)) (cond b (Some (Answers s k)) (cond c (Some (Closes s)) None))))
    go true b c = answers
    go false true c = answers
    go false false true = closes
    go false false false = All-nil (IsAct n)

step_within : (n first k : ℕ) → k < 20 → All (IsAct n) (step_acts n first k)
step_within n first k step =
    All-flat_map (IsAct n) (λ s. option_to_list (act_of n s k)) (group n first)
    (All-weaken (λ s. s < n) (λ s. All (IsAct n) (option_to_list (act_of n s k))) (group n first) (λ s lt. one_act n s k lt step) (group_within n first))

group_acts_within : (n first : ℕ) → All (IsAct n) (group_acts n first)
unfolding group_acts
group_acts_within n first =
    All-append (IsAct n) (map (λ s. Begins s) (group n first)) (flat_map (step_acts n first) (range_with_len 0 20))
    (All-map (IsAct n) (λ s. Begins s) (group n first) (group_within n first))
    (All-flat_map (IsAct n) (step_acts n first) (range_with_len 0 20)
    (All-weaken (λ k. (0 ≤ k) × (k < 0 + 20)) (λ k. All (IsAct n) (step_acts n first k)) (range_with_len 0 20) (λ k h. step_within n first k (omega (arith, h.1))) (All-range 0 20)))

acts_within : (n : ℕ) → All (IsAct n) (acts n)
unfolding acts
acts_within n =
    All-flat_map (IsAct n) (λ g. group_acts n (10 * g)) (range_with_len 0 ((n + 9) / 10)) (λ k d lt. group_acts_within n (10 * get_or (range_with_len 0 ((n + 9) / 10)) k d))

-- ---- the requests
-- its numbers are small
abbrev IsSmall : Request → Type 0
IsSmall (Begin booking) = booking < 1000
IsSmall (Answer session step response None) = (session < 1000) × (step < 100) × (response < 10)
IsSmall (Close session None) = session < 1000
IsSmall request = ⊥

small_at : (n state : ℕ) (t : Act) → n ≤ 200 → IsAct n t → IsSmall (request_at state t)
small_at n state (Begins s) few lt = omega (arith, few, lt)
small_at n state (Answers s k) few h = (omega (arith, few, h.0), omega (arith, h.1), omega arith)
small_at n state (Closes s) few lt = omega (arith, few, lt)

requests_small : (n state : ℕ) (ts : List Act) → n ≤ 200 → All (IsAct n) ts → All IsSmall (requests_from state ts)
unfolding requests_from
requests_small n state [] few within = All-nil IsSmall
requests_small n state (t ∷ ts) few within =
    All-cons IsSmall (request_at state t) (requests_from (state_behind state t) ts) (small_at n state t few (All-head (IsAct n) t ts within))
    (requests_small n (state_behind state t) ts few (All-tail (IsAct n) t ts within))

small_in_range : (r : Request) → IsSmall r → IsInRange r
small_in_range (Begin booking) lt = omega (arith, lt)
small_in_range (Answer session step response None) h = (omega (arith, h.0), omega (arith, h.1), omega (arith, h.2), tt)
small_in_range (Answer session step response (Some booking)) h = absurd h
small_in_range (Close session None) lt = (omega (arith, lt), tt)
small_in_range (Close session (Some booking)) h = absurd h
small_in_range (BeginWithout booking items) h = absurd h
small_in_range (Look session) h = absurd h
small_in_range Exposure h = absurd h

-- ---- the length
three : (n : ℕ) → n < 1000 → length (decimal n) ≤ 3
three n lt = length-decimal-le 3 n (omega arith) (omega (arith, lt)) (omega (arith, lt))

-- a line and its line feed have at most 20 bytes
short_line : (r : Request) → IsSmall r → length (request_line r) ≤ 19
short_line (Begin booking) lt = omega (arith, three booking lt)
short_line (Answer session step response None) h =
    omega (
      arith,
      three session h.0,
      three step (omega (arith, h.1)),
      three response (omega (arith, h.2)),
      length-append (decimal session) (32 ∷ (decimal step ++ 32 ∷ decimal response)),
      length-append (decimal step) (32 ∷ decimal response),
    )
short_line (Answer session step response (Some booking)) h = absurd h
short_line (Close session None) lt = omega (arith, three session lt)
short_line (Close session (Some booking)) h = absurd h
short_line (BeginWithout booking items) h = absurd h
short_line (Look session) h = absurd h
short_line Exposure h = absurd h

text_short : (requests : List Request) → All IsSmall requests → length (text_of_requests requests) ≤ 20 * length requests
unfolding text_of_requests
text_short [] small = omega arith
text_short (r ∷ rs) small =
    omega (
      arith,
      short_line r (All-head IsSmall r rs small),
      text_short rs (All-tail IsSmall r rs small),
      length-append (request_line r) (10 ∷ text_of_lines (map request_line rs)),
    )

requests_many : (state : ℕ) (ts : List Act) → length (requests_from state ts) ≡ length ts
unfolding requests_from
requests_many state [] = refl
requests_many state (t ∷ ts) = ap suc (requests_many (state_behind state t) ts)

length-flat_map-le : {X Y : Type 0} (f : X → List Y) (m : ℕ) (xs : List X) → ((x : X) → length (f x) ≤ m) → length (flat_map f xs) ≤ length xs * m
length-flat_map-le f m xs each = rw (length-flat_map f xs) (sum_by-le (λ x. length (f x)) m xs (λ k d lt. each (get_or xs k d)))

group_few : (n first : ℕ) → length (group n first) ≤ 10
group_few n first = rw (length-range_with_len first (min 10 (n - first))) (omega arith)

one_act_few : (o : Option Act) → length (option_to_list o) ≤ 1
one_act_few None = omega arith
one_act_few (Some t) = omega arith

step_few : (n first k : ℕ) → length (step_acts n first k) ≤ 10
step_few n first k =
    omega (arith, group_few n first, length-flat_map-le (λ s. option_to_list (act_of n s k)) 1 (group n first) (λ s. one_act_few (act_of n s k)))

group_acts_few : (n first : ℕ) → length (group_acts n first) ≤ 210
unfolding group_acts
group_acts_few n first =
    omega (
      arith,
      group_few n first,
      length-append (map (λ s. Begins s) (group n first)) (flat_map (step_acts n first) (range_with_len 0 20)),
      length-map {B = Act} (group n first) (λ s. Begins s),
      length-range_with_len 0 20,
      length-flat_map-le (step_acts n first) 10 (range_with_len 0 20) (step_few n first),
    )

acts_few : (n : ℕ) → n ≤ 200 → length (acts n) ≤ 5000
unfolding acts
acts_few n few =
    omega (arith, few, length-range_with_len 0 ((n + 9) / 10), length-flat_map-le (λ g. group_acts n (10 * g)) 210 (range_with_len 0 ((n + 9) / 10)) (λ g. group_acts_few n (10 * g)))

-- ---- the script
module _ (state n : ℕ) (few : n ≤ 200) where
  small : All IsSmall (requests_from state (acts n))
  small = requests_small n state (acts n) few (acts_within n)

  pub is_script : IsScript (script_text state (acts n)) (requests_from state (acts n))
  unfolding script_text
  is_script = record { in_range = All-weaken IsSmall IsInRange (requests_from state (acts n)) small_in_range small; lines = inl refl }

  pub is_short : length (script_text state (acts n)) ≤ 100000
  unfolding script_text
  is_short = omega (arith, text_short (requests_from state (acts n)) small, requests_many state (acts n), acts_few n few)
