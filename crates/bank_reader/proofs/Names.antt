-- The names of the columns, kind by kind.
use Rattle.std.proofs.Common.{◌≡◌, ℕ, ◌+◌, ◌-◌, ◌/◌, ◌%◌, ◌<◌, ◌≤◌, true, false, cond, eqb, List, [], length, refl, sym, ap, subst, ◌∙◌, arith, inl, inr}
use Rattle.std.specs.Prelude.{nat_lt, codes}
use Rattle.std.proofs.lemmas.Bool.{ne_eqb, lt-ltb, le-ltb, cases_Bool, cases_lt, cases_eq}
use Rattle.std.proofs.lemmas.List.{get_or_past}
use Rattle.bank_reader.specs.declared.item.Shape.{Shape}
use Rattle.bank_reader.specs.Columns.{field, first_loglik, quantity_name, point_name, loglik_name, name_of}

-- the name of column 3 + k, without the cases of the first three columns
behind : (s : Shape) (k : ℕ) → name_of s (3 + k) ≡ cond (nat_lt (3 + k) (3 + s.quantities)) (quantity_name (3 + k - 3)) (cond (nat_lt (3 + k) (first_loglik s)) (point_name (3 + k - (3 + s.quantities))) (loglik_name ((3 + k - first_loglik s) / s.grid) ((3 + k - first_loglik s) % s.grid)))
behind s k = rw (ne_eqb (3 + k) 0 (λ e. omega (arith, e)), ne_eqb (3 + k) 1 (λ e. omega (arith, e)), ne_eqb (3 + k) 2 (λ e. omega (arith, e))) refl

pub name_quantity : (s : Shape) (k : ℕ) → k < s.quantities → name_of s (3 + k) ≡ quantity_name k
name_quantity s k lt =
    let test : nat_lt (3 + k) (3 + s.quantities) ≡ true = lt-ltb _ _ (omega arith) in
    let place : 3 + k - 3 ≡ k = omega arith in
    behind s k ∙ rw (test, place) refl

pub name_point : (s : Shape) (k : ℕ) → k < s.grid → name_of s (3 + s.quantities + k) ≡ point_name k
name_point s k lt =
    let at : 3 + s.quantities + k ≡ 3 + (s.quantities + k) = omega arith in
    let past : nat_lt (3 + (s.quantities + k)) (3 + s.quantities) ≡ false = le-ltb _ _ (omega arith) in
    let test : nat_lt (3 + (s.quantities + k)) (first_loglik s) ≡ true = lt-ltb _ _ (omega arith) in
    let place : 3 + (s.quantities + k) - (3 + s.quantities) ≡ k = omega arith in
    rw at (behind s (s.quantities + k) ∙ rw (past, test, place) refl)

pub name_loglik : (s : Shape) (k : ℕ) → name_of s (first_loglik s + k) ≡ loglik_name (k / s.grid) (k % s.grid)
name_loglik s k =
    let at : first_loglik s + k ≡ 3 + (s.quantities + s.grid + k) = omega arith in
    let past : nat_lt (3 + (s.quantities + s.grid + k)) (3 + s.quantities) ≡ false = le-ltb _ _ (omega arith) in
    let past_points : nat_lt (3 + (s.quantities + s.grid + k)) (first_loglik s) ≡ false = le-ltb _ _ (omega arith) in
    let place : 3 + (s.quantities + s.grid + k) - first_loglik s ≡ k = omega arith in
    rw at (behind s (s.quantities + s.grid + k) ∙ rw (past, past_points, place) refl)

-- the first n columns have the names of the shape, stated kind by kind
pub record AreNamed (cols : List (List ℕ)) (s : Shape) (n : ℕ) : Type 0 where
  pub item : 0 < n → field cols 0 ≡ codes "item"
  pub stimulus : 1 < n → field cols 1 ≡ codes "stimulus"
  pub categories : 2 < n → field cols 2 ≡ codes "categories"
  pub quantities : (k : ℕ) → k < s.quantities → 3 + k < n → field cols (3 + k) ≡ quantity_name k
  pub points : (k : ℕ) → k < s.grid → 3 + s.quantities + k < n → field cols (3 + s.quantities + k) ≡ point_name k
  pub logliks : (k : ℕ) → first_loglik s + k < n → field cols (first_loglik s + k) ≡ loglik_name (k / s.grid) (k % s.grid)

pub names_from : (cols : List (List ℕ)) (s : Shape) (n : ℕ) → AreNamed cols s n → (c : ℕ) → c < n → field cols c ≡ name_of s c
names_from cols s n h c lt = elim (cases_lt c 3) [
  | inl low ↦ elim (cases_eq c 0) [
    | inl zero' ↦ rw zero' (h.item (omega (arith, lt)))
    | inr not_zero ↦ elim (cases_eq c 1) [
      | inl one ↦ rw one (h.stimulus (omega (arith, lt, one)))
      | inr not_one ↦ (let two : c ≡ 2 = omega arith in rw two (h.categories (omega (arith, lt, two))))
    ]
  ]
  | inr high ↦ elim (cases_lt c (3 + s.quantities)) [
    | inl quantity ↦ (let at : c ≡ 3 + (c - 3) = omega arith in
        subst (λ (i : ℕ). field cols i ≡ name_of s i) (sym at) (h.quantities (c - 3) (omega arith) (omega arith) ∙ sym (name_quantity s (c - 3) (omega arith))))
    | inr later ↦ elim (cases_lt c (first_loglik s)) [
      | inl point ↦ (let k : ℕ = c - (3 + s.quantities) in
          let at : c ≡ 3 + s.quantities + k = omega arith in
          subst (λ (i : ℕ). field cols i ≡ name_of s i) (sym at) (h.points k (omega arith) (omega arith) ∙ sym (name_point s k (omega arith))))
      | inr loglik ↦ (let k : ℕ = c - first_loglik s in
          let at : c ≡ first_loglik s + k = omega arith in
          subst (λ (i : ℕ). field cols i ≡ name_of s i) (sym at) (h.logliks k (omega arith) ∙ sym (name_loglik s k)))
    ]
  ]
]

pub named_from : (cols : List (List ℕ)) (s : Shape) (n : ℕ) → ((c : ℕ) → c < n → field cols c ≡ name_of s c) → AreNamed cols s n
named_from cols s n h = record {
  item = λ lt. h 0 lt;
  stimulus = λ lt. h 1 lt;
  categories = λ lt. h 2 lt;
  quantities = λ k within lt. h (3 + k) lt ∙ name_quantity s k within;
  points = λ k within lt. h (3 + s.quantities + k) lt ∙ name_point s k within;
  logliks = λ k lt. h (first_loglik s + k) lt ∙ name_loglik s k;
}

-- no name is empty
name_some : (s : Shape) (c : ℕ) → 0 < length (name_of s c)
name_some s c = elim (cases_Bool (eqb c 0)) [
  | inl a ↦ rw a (omega arith)
  | inr not_a ↦ elim (cases_Bool (eqb c 1)) [
    | inl b ↦ rw (not_a, b) (omega arith)
    | inr not_b ↦ elim (cases_Bool (eqb c 2)) [
      | inl d ↦ rw (not_a, not_b, d) (omega arith)
      | inr not_d ↦ elim (cases_Bool (nat_lt c (3 + s.quantities))) [
        | inl q ↦ rw (not_a, not_b, not_d, q) (omega arith)
        | inr not_q ↦ elim (cases_Bool (nat_lt c (first_loglik s))) [
          | inl p ↦ rw (not_a, not_b, not_d, not_q, p) (omega arith)
          | inr not_p ↦ rw (not_a, not_b, not_d, not_q, not_p) (omega arith)
        ]
      ]
    ]
  ]
]

-- named columns are there
pub named_there : (cols : List (List ℕ)) (s : Shape) (n : ℕ) → ((c : ℕ) → c < n → field cols c ≡ name_of s c) → n ≤ length cols
named_there cols s n h = elim (cases_lt (length cols) n) [
  | inr fine ↦ fine
  | inl short ↦ (let past : field cols (length cols) ≡ [] = get_or_past cols (length cols) [] (omega arith) in
      let none : length (name_of s (length cols)) ≡ 0 = ap (λ (x : List ℕ). length x) (sym (h (length cols) short) ∙ past) in
      absurd (omega (arith, none, name_some s (length cols))))
]
