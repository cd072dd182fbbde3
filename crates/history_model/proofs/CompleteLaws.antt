-- The items shown in a complete session are the form last served from.
use Rattle.std.proofs.Common.{◌≡◌, ℕ, zero, suc, ◌+◌, ◌≤◌, ◌<◌, ◌⊎◌, inl, inr, Bool, true, false, ◌||◌, ◌==◌, List, [], ◌∷◌, length, slice_get, Option, Some, None, refl, sym, ap, ◌∙◌, subst, arith}
use Rattle.std.specs.List.{list_any}
use Rattle.std.proofs.Math.Bool.{true≢false}
use Rattle.std.proofs.Math.Path.{fun_ext}
use Rattle.std.proofs.lemmas.Bool.{eqb-true, eq-eqb, cases_lt}
use Rattle.bank_tables.specs.Items.{Set, has}
use Rattle.bank_tables.specs.Sums.{count_in}
use Rattle.bank_tables.specs.Tables.{Tables, size}
use Rattle.serving_model.specs.declared.seat.Seat.{Seat}
use Rattle.form_model.specs.Plan.{Plan}
use Rattle.form_model.specs.Forms.{Meets, Form, size_in}
use Rattle.serving_model.specs.Seats.{is_shown, problem_aside}
use Rattle.form_model.proofs.SumLaws.{either, or_true, same_from_count}
use Rattle.history_model.specs.Entries.{seat_of}
use Rattle.history_model.specs.Laws.{CompleteMeets}
use Rattle.history_model.proofs.Standing.{complete}
use Rattle.history_model.proofs.Ordered.{in_order}
use Rattle.history_model.proofs.SeatSteps.{Stands}
use Rattle.history_model.proofs.Running.{shown_number, along}

-- ---- how many numbers a list without repetitions has
last_or : (i n : ℕ) → i < suc n → (i < n) ⊎ (i ≡ n)
last_or i n w = grind arith

-- one member more
one_member : (n x : ℕ) (q : Set) → n ≤ x → count_in n (λ i. x == i || q i) (λ _. true) ≡ count_in n q (λ _. true)
one_member zero x q past = refl
one_member (suc n) x q past =
    let other : (x == n) ≡ false = elim (either (x == n)) [ inl same ↦ absurd (let e = eqb-true x n same in omega arith) | inr differs ↦ differs ] in
    rw (one_member n x q (omega arith), other) refl

new_member : (n x : ℕ) (q : Set) → x < n → q x ≡ false → count_in n (λ i. x == i || q i) (λ _. true) ≡ count_in n q (λ _. true) + 1
new_member zero x q within new = absurd (omega arith)
new_member (suc n) x q within new =
    elim (last_or x n within) [
      | inl below ↦
          let other : (x == n) ≡ false = elim (either (x == n)) [ inl same ↦ absurd (let e = eqb-true x n same in omega arith) | inr differs ↦ differs ] in
          rw (new_member n x q below new, other) (omega arith)
      | inr at ↦
          let same : (x == n) ≡ true = eq-eqb x n at in
          let none : q n ≡ false = sym (ap q at) ∙ new in
          rw (one_member n x q (omega arith), same, none) (omega arith)
    ]

pub number_of_distinct : (n : ℕ) (xs : List ℕ) → ((i : ℕ) → list_any (λ x. x == i) xs ≡ true → i < n) → ((j k x : ℕ) → slice_get xs j ≡ Some x → slice_get xs k ≡ Some x → j ≡ k) → count_in n (λ i. list_any (λ x. x == i) xs) (λ _. true) ≡ length xs
number_of_distinct n [] within once = none n
  where
    none : (m : ℕ) → count_in m (λ i. false) (λ _. true) ≡ 0
    none zero = refl
    none (suc m) = rw (none m) refl
number_of_distinct n (x ∷ xs) within once =
    let new : list_any (λ y. y == x) xs ≡ false = elim (either (list_any (λ y. y == x) xs)) [ inl again ↦ absurd (let place = at xs x again in let e = once 0 (suc place.0) x refl place.1 in omega arith) | inr not ↦ not ] in
    let rest = number_of_distinct n xs (λ i h. within i (or_right' (x == i) _ h)) (λ j k y e f. let same = once (suc j) (suc k) y e f in omega arith) in
    new_member n x (λ i. list_any (λ y. y == i) xs) (within x (or_left' (x == x) _ (eq-eqb x x refl))) new ∙ rw rest (omega arith)
  where
    or_left' : (a b : Bool) → a ≡ true → (a || b) ≡ true
    or_left' true b h = refl
    or_left' false b h = absurd (true≢false (sym h))

    or_right' : (a b : Bool) → b ≡ true → (a || b) ≡ true
    or_right' true b h = refl
    or_right' false b h = h

    at : (ys : List ℕ) (y : ℕ) → list_any (λ z. z == y) ys ≡ true → (k : ℕ) × (slice_get ys k ≡ Some y)
    at [] y h = absurd (true≢false (sym h))
    at (z ∷ ys) y h = elim (or_true (z == y) _ h) [ inl same ↦ (0, ap (λ (w : ℕ). Some w) (eqb-true z y same)) | inr later ↦ let p = at ys y later in (suc p.0, p.1) ]

-- ---- a seat that was shown as many items as the test has
full_seat : (b : Tables) (plan : Plan) (s : ℕ) (seat : Seat) (form : Option (List ℕ)) → seat.form ≡ form → 0 < plan.length → Stands b plan s seat → length seat.shown ≡ plan.length → Meets b plan (is_shown seat)
full_seat b plan s seat None e some stands full = absurd (let none = stands.is_seat.form_none e in omega arith)
full_seat b plan s seat (Some words) e some stands full = subst (λ (X : Set). Meets b plan X) (fun_ext (λ i. same i)) form.meets
  where
    form : Form (problem_aside b plan s seat 0) (has words)
    form = stands.keeps words 0 e

    number : size_in b (is_shown seat) ≡ size_in b (has words)
    number = number_of_distinct (size b) seat.shown stands.is_seat.items stands.is_seat.once ∙ (full ∙ sym form.meets.right_length.n_items)

    within : (i : ℕ) → i < size b → is_shown seat i ≡ has words i
    within = same_from_count (size b) (is_shown seat) (has words) (λ i w h. form.holds_given i h) number

    out : (p : Set) (i : ℕ) → ((j : ℕ) → p j ≡ true → j < size b) → size b ≤ i → p i ≡ false
    out p i items past = elim (either (p i)) [ inl is ↦ absurd (let w = items i is in omega arith) | inr not ↦ not ]

    same : (i : ℕ) → has words i ≡ is_shown seat i
    same i = elim (cases_lt i (size b)) [ inl below ↦ sym (within i below) | inr past ↦ out (has words) i form.meets.right_length.in_bank past ∙ sym (out (is_shown seat) i stands.is_seat.items past) ]

pub complete_meets : CompleteMeets
complete_meets b plan H s some run at =
    let stands = (along b plan H s run).stands in
    let most = stands.is_seat.few in
    let enough = (complete plan H s at).1 in
    let order = (in_order b plan H s run).few in
    let number = shown_number H s in
    full_seat b plan s (seat_of H s) (seat_of H s).form refl some stands (omega arith)
