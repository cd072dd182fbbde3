-- A header is read, and columns that are none are refused where they depart from every header.
use Rattle.std.proofs.Common.{◌≡◌, ℕ, zero, suc, ◌+◌, ◌*◌, ◌/◌, ◌%◌, ◌<◌, ◌≤◌, Bool, true, false, not, cond, eqb, ◌&&◌, List, [], ◌∷◌, length, get_or, Result, Ok, Err, refl, sym, ap, subst, ◌∙◌, arith, inl, inr, add-one}
use Rattle.std.specs.Prelude.{nat_lt, nat_le, codes}
use Rattle.std.proofs.lemmas.Bool.{and_from, eqb-true, eqb-false, eq-eqb, ne_eqb, ltb-false, ltb-true, le-leb, cases_Bool, cases_lt, cases_eq, false≢true}
use Rattle.std.proofs.Math.Nat.{mul-div_left, mul-mod_left, mul-le-mul_right}
use Rattle.std.proofs.lemmas.List.{get_or_past}
use Rattle.std.proofs.lemmas.Slice.Eq.{bytes_eq-Decides}
use Rattle.std.specs.Fmt.{decimal}
use Rattle.bank_reader.specs.declared.fault.ReadFault.{ReadFault}
use Rattle.bank_reader.specs.declared.fault.ReadFault.TheVariants.{Header}
use Rattle.bank_reader.specs.declared.item.Shape.{Shape}
use Rattle.bank_reader.specs.Columns.{field, first_loglik, width, quantity_name, point_name, loglik_name, IsShape}
use Rattle.bank_reader.specs.Reading.{lead, is_named, leading_fixed, leading_quantities, leading_points, leading_loglik, header_of}
use Rattle.bank_reader.specs.Grammar.{IsHeader, BeginsAs, IsHeaderFault}
use Rattle.bank_reader.proofs.Leads.{lead_stops, lead_more}
use Rattle.bank_reader.proofs.Names.{AreNamed, names_from, named_from, named_there}
use Rattle.bank_reader.proofs.HeaderLaws.{lead_le, lead_passes, named, three}
use Rattle.bank_reader.proofs.Errs.{err_is}

-- ---- what leads

all_lead : (n : ℕ) (p : ℕ → Bool) → ((i : ℕ) → i < n → p i ≡ true) → lead n p ≡ n
all_lead zero p h = refl
all_lead (suc n) p h = sym (ap (λ (k : ℕ). lead k p) (add-one n)) ∙ (lead_more n p (all_lead n p (λ i lt. h i (omega (arith, lt)))) (h n (omega arith)) ∙ add-one n)

-- m of n pass, and no more
lead_is : (n m : ℕ) (p : ℕ → Bool) → m ≤ n → ((i : ℕ) → i < m → p i ≡ true) → (m < n → p m ≡ false) → lead n p ≡ m
lead_is n m p le pass stop = elim (cases_lt m n) [
  | inl lt ↦ lead_stops n m p (all_lead m p pass) (stop lt) lt
  | inr past ↦ (let same : n ≡ m = omega arith in rw same (all_lead m p pass))
]

-- the first number after those that lead does not pass
lead_fails : (n : ℕ) (p : ℕ → Bool) → lead n p < n → p (lead n p) ≡ false
lead_fails zero p lt = absurd (omega (arith, lt))
lead_fails (suc n) p lt = elim (cases_Bool (eqb (lead n p) n && p n)) [
  | inl more ↦ (let all : n + 1 < suc n = rw more at lt in absurd (omega (arith, all)))
  | inr rest ↦ rw rest (elim (cases_lt (lead n p) n) [
    | inl less ↦ lead_fails n p less
    | inr past ↦ (let same : lead n p ≡ n = omega (arith, past, lead_le n p) in
        elim (cases_Bool (p n)) [
          | inr fails ↦ rw same fails
          | inl passes ↦ absurd (false≢true (sym rest ∙ and_from (eqb (lead n p) n) (p n) (eq-eqb (lead n p) n same) passes))
        ])
  ])
]

is_name : (cols : List (List ℕ)) (c : ℕ) (name : List ℕ) → field cols c ≡ name → is_named cols c name ≡ true
is_name cols c name e = (bytes_eq-Decides (get_or cols c []) name).1 e

not_named : (cols : List (List ℕ)) (c : ℕ) (name : List ℕ) → is_named cols c name ≡ false → field cols c ≡ name → ⊥
not_named cols c name other e = false≢true (sym other ∙ is_name cols c name e)

-- names of different kinds begin with different letters
unlike : (cols : List (List ℕ)) (c a b : ℕ) (xs ys : List ℕ) → field cols c ≡ a ∷ xs → eqb a b ≡ false → is_named cols c (b ∷ ys) ≡ false
unlike cols c a b xs ys e other = rw (e, other) refl

-- ---- a header is read

wide : (s : Shape) → IsShape s → 2 * s.grid ≤ s.responses * s.grid
wide s h = mul-le-mul_right s.grid h.responses_low

quantities_again : (cols : List (List ℕ)) (s : Shape) → IsShape s → AreNamed cols s (width s) → leading_quantities cols 8 ≡ s.quantities
unfolding leading_quantities
quantities_again cols s h is =
    let some : 0 < s.grid = omega (arith, h.grid_low) in
    lead_is 8 s.quantities (λ k. is_named cols (3 + k) (quantity_name k)) h.quantities
    (λ k lt. is_name cols (3 + k) (quantity_name k) (is.quantities k lt (omega (arith, lt))))
    (λ _. let at : 3 + s.quantities + 0 ≡ 3 + s.quantities = omega arith in
    let first : field cols (3 + s.quantities) ≡ point_name 0 = subst (λ (c : ℕ). field cols c ≡ point_name 0) at (is.points 0 some (omega (arith, some, wide s h))) in
    unlike cols (3 + s.quantities) 105 113 (decimal 0) (decimal s.quantities) first refl)

points_again : (cols : List (List ℕ)) (s : Shape) → IsShape s → AreNamed cols s (width s) → leading_points cols (3 + s.quantities) 61 ≡ s.grid
unfolding leading_points
points_again cols s h is =
    let some : 0 < s.grid = omega (arith, h.grid_low) in
    lead_is 61 s.grid (λ k. is_named cols (3 + s.quantities + k) (point_name k)) h.grid
    (λ k lt. is_name cols (3 + s.quantities + k) (point_name k) (is.points k lt (omega (arith, lt))))
    (λ _. let at : first_loglik s + 0 ≡ 3 + s.quantities + s.grid = omega arith in
    let first : field cols (3 + s.quantities + s.grid) ≡ loglik_name (0 / s.grid) (0 % s.grid) = subst (λ (c : ℕ). field cols c ≡ loglik_name (0 / s.grid) (0 % s.grid)) at (is.logliks 0 (omega (arith, some, wide s h))) in
    unlike cols (3 + s.quantities + s.grid) 108 105 ((48 + 0 / s.grid) ∷ 95 ∷ decimal (0 % s.grid)) (decimal s.grid) first refl)

logliks_again : (cols : List (List ℕ)) (s : Shape) → IsShape s → length cols ≡ width s → AreNamed cols s (width s) → leading_loglik cols (3 + s.quantities + s.grid) s.grid ≡ s.responses * s.grid
unfolding leading_loglik
logliks_again cols s h count is =
    let past : get_or cols (first_loglik s + s.responses * s.grid) [] ≡ [] = get_or_past cols (first_loglik s + s.responses * s.grid) [] (omega (arith, count)) in
    lead_is (5 * s.grid) (s.responses * s.grid) (λ k. is_named cols (3 + s.quantities + s.grid + k) (loglik_name (k / s.grid) (k % s.grid))) (mul-le-mul_right s.grid h.responses)
    (λ k lt. is_name cols (first_loglik s + k) (loglik_name (k / s.grid) (k % s.grid)) (is.logliks k (omega (arith, lt))))
    (λ _. rw past refl)

pub header_again : (cols : List (List ℕ)) (s : Shape) → IsHeader cols s → header_of cols ≡ Ok s
unfolding header_of
header_again cols s h =
    let is : AreNamed cols s (width s) = named_from cols s (width s) h.names in
    let some : 0 < s.grid = omega (arith, h.shape.grid_low) in
    let item : is_named cols 0 (codes "item") ≡ true = is_name cols 0 (codes "item") (is.item (omega arith)) in
    let stimulus : is_named cols 1 (codes "stimulus") ≡ true = is_name cols 1 (codes "stimulus") (is.stimulus (omega arith)) in
    let categories : is_named cols 2 (codes "categories") ≡ true = is_name cols 2 (codes "categories") (is.categories (omega arith)) in
    let divides : s.responses * s.grid / s.grid ≡ s.responses = mul-div_left s.responses some in
    let whole : s.responses * s.grid % s.grid ≡ 0 = mul-mod_left s.responses s.grid in
    let count : eqb (length cols) (3 + s.quantities + s.grid + s.responses * s.grid) ≡ true = eq-eqb _ _ h.count in
    rw (item, stimulus, categories, quantities_again cols s h.shape is, points_again cols s h.shape is, ne_eqb s.grid 0 (λ e. omega (arith, e, some)), logliks_again cols s h.shape h.count is, count, whole, divides, le-leb 2 s.responses h.shape.responses_low) refl

-- ---- columns that are no header

clash : (x : List ℕ) (a b : ℕ) (xs ys : List ℕ) → x ≡ a ∷ xs → x ≡ b ∷ ys → (a ≡ b → ⊥) → ⊥
clash x a b xs ys e f other = other (ap (λ (l : List ℕ). get_or l 0 0) (sym e ∙ f))

-- if a header has a column after the q columns of quantities that lead, it has q quantities
same_quantities : (cols : List (List ℕ)) (s : Shape) (n q : ℕ) → IsShape s → AreNamed cols s n → 3 + q < n → leading_quantities cols 8 ≡ q → s.quantities ≡ q
unfolding leading_quantities
same_quantities cols s n q h is lt e =
    let p : ℕ → Bool = λ k. is_named cols (3 + k) (quantity_name k) in
    elim (cases_lt s.quantities q) [
      | inl fewer ↦ (let i : ℕ = s.quantities in
          let quantity : field cols (3 + i) ≡ quantity_name i = named cols (3 + i) (quantity_name i) (lead_passes 8 p i (omega (arith, fewer, e))) in
          let at : 3 + i + 0 ≡ 3 + i = omega arith in
          let point : field cols (3 + i) ≡ point_name 0 = subst (λ (c : ℕ). field cols c ≡ point_name 0) at (is.points 0 (omega (arith, h.grid_low)) (omega (arith, lt, fewer))) in
          absurd (clash (field cols (3 + i)) 113 105 (decimal i) (decimal 0) quantity point (λ same. omega (arith, same))))
      | inr enough ↦ elim (cases_lt q s.quantities) [
        | inr fine ↦ omega arith
        | inl more ↦ (let fails : is_named cols (3 + q) (quantity_name q) ≡ false = subst (λ (k : ℕ). p k ≡ false) e (lead_fails 8 p (omega (arith, more, h.quantities, e))) in
            absurd (not_named cols (3 + q) (quantity_name q) fails (is.quantities q more lt)))
      ]
    ]

-- if it also has a column after the g columns of points that lead, it has g points
same_points : (cols : List (List ℕ)) (s : Shape) (n q g : ℕ) → IsShape s → AreNamed cols s n → s.quantities ≡ q → 3 + q + g < n → leading_points cols (3 + q) 61 ≡ g → s.grid ≡ g
unfolding leading_points
same_points cols s n q g h is same lt e =
    let p : ℕ → Bool = λ k. is_named cols (3 + q + k) (point_name k) in
    let points : (k : ℕ) → k < s.grid → 3 + q + k < n → field cols (3 + q + k) ≡ point_name k = subst (λ (m : ℕ). (k : ℕ) → k < s.grid → 3 + m + k < n → field cols (3 + m + k) ≡ point_name k) same is.points in
    elim (cases_lt s.grid g) [
      | inl fewer ↦ (let i : ℕ = s.grid in
          let point : field cols (3 + q + i) ≡ point_name i = named cols (3 + q + i) (point_name i) (lead_passes 61 p i (omega (arith, fewer, e))) in
          let at : first_loglik s + 0 ≡ 3 + q + i = omega (arith, same) in
          let loglik : field cols (3 + q + i) ≡ loglik_name (0 / s.grid) (0 % s.grid) = subst (λ (c : ℕ). field cols c ≡ loglik_name (0 / s.grid) (0 % s.grid)) at (is.logliks 0 (omega (arith, lt, fewer, same))) in
          absurd (clash (field cols (3 + q + i)) 105 108 (decimal i) ((48 + 0 / s.grid) ∷ 95 ∷ decimal (0 % s.grid)) point loglik (λ same. omega (arith, same))))
      | inr enough ↦ elim (cases_lt g s.grid) [
        | inr fine ↦ omega arith
        | inl more ↦ (let fails : is_named cols (3 + q + g) (point_name g) ≡ false = subst (λ (k : ℕ). p k ≡ false) e (lead_fails 61 p (omega (arith, more, h.grid, e))) in
            absurd (not_named cols (3 + q + g) (point_name g) fails (points g more lt)))
      ]
    ]

begins_from : (cols : List (List ℕ)) (s : Shape) (n : ℕ) → n ≤ width s → AreNamed cols s n → BeginsAs cols s n
begins_from cols s n le is = record { there = named_there cols s n (names_from cols s n is); within = le; names = names_from cols s n is }

kinds_of : (cols : List (List ℕ)) (s : Shape) (n : ℕ) → BeginsAs cols s n → AreNamed cols s n
kinds_of cols s n h = named_from cols s n h.names

-- the number of tests that pass before the first that fails, of three in a row
record FixedPass (a b c : Bool) (n : ℕ) : Type 0 where
  first : 0 < n → a ≡ true
  second : 1 < n → b ≡ true
  third : 2 < n → c ≡ true
  first_fails : n ≡ 0 → a ≡ false
  second_fails : n ≡ 1 → b ≡ false
  third_fails : n ≡ 2 → c ≡ false

fixed_pass : (a b c : Bool) → FixedPass a b c (cond (not a) 0 (cond (not b) 1 (cond (not c) 2 3)))
fixed_pass false b c = record { first = λ h. absurd (omega (arith, h)); second = λ h. absurd (omega (arith, h)); third = λ h. absurd (omega (arith, h)); first_fails = λ _. refl; second_fails = λ h. absurd (omega (arith, h)); third_fails = λ h. absurd (omega (arith, h)) }
fixed_pass true false c = record { first = λ _. refl; second = λ h. absurd (omega (arith, h)); third = λ h. absurd (omega (arith, h)); first_fails = λ h. absurd (omega (arith, h)); second_fails = λ _. refl; third_fails = λ h. absurd (omega (arith, h)) }
fixed_pass true true false = record { first = λ _. refl; second = λ _. refl; third = λ h. absurd (omega (arith, h)); first_fails = λ h. absurd (omega (arith, h)); second_fails = λ h. absurd (omega (arith, h)); third_fails = λ _. refl }
fixed_pass true true true = record { first = λ _. refl; second = λ _. refl; third = λ _. refl; first_fails = λ h. absurd (omega (arith, h)); second_fails = λ h. absurd (omega (arith, h)); third_fails = λ h. absurd (omega (arith, h)) }

abbrev small_shape : ℕ → Shape
small_shape q = record { quantities = q; grid = 1; responses = 2 }

fixed_fault : (cols : List (List ℕ)) → leading_fixed cols < 3 → ((s : Shape) → IsHeader cols s → ⊥) → IsHeaderFault cols (leading_fixed cols)
fixed_fault cols few none =
    let n : ℕ = leading_fixed cols in
    let p = fixed_pass (is_named cols 0 (codes "item")) (is_named cols 1 (codes "stimulus")) (is_named cols 2 (codes "categories")) in
    record {
      none = none;
      begins = small_shape 0;
      shape = record { quantities = omega arith; grid_low = omega arith; grid = omega arith; responses_low = omega arith; responses = omega arith };
      before = begins_from cols (small_shape 0) n (omega (arith, few)) (record {
        item = λ lt. named cols 0 (codes "item") (p.first lt);
        stimulus = λ lt. named cols 1 (codes "stimulus") (p.second lt);
        categories = λ lt. named cols 2 (codes "categories") (p.third lt);
        quantities = λ k within lt. absurd (omega (arith, within));
        points = λ k within lt. absurd (omega (arith, few, lt));
        logliks = λ k lt. absurd (omega (arith, few, lt));
      });
      here = λ s is h. elim (cases_eq n 0) [
        | inl zero' ↦ not_named cols 0 (codes "item") (p.first_fails zero') (h.names 0 (omega (arith, zero')))
        | inr not_zero ↦ elim (cases_eq n 1) [
          | inl one ↦ not_named cols 1 (codes "stimulus") (p.second_fails one) (h.names 1 (omega (arith, one)))
          | inr not_one ↦ (let two : n ≡ 2 = omega (arith, few, not_zero, not_one) in not_named cols 2 (codes "categories") (p.third_fails two) (h.names 2 (omega (arith, two))))
        ]
      ];
    }

-- the first three columns
pub record AreFixed (cols : List (List ℕ)) : Type 0 where
  pub item : field cols 0 ≡ codes "item"
  pub stimulus : field cols 1 ≡ codes "stimulus"
  pub categories : field cols 2 ≡ codes "categories"

fixed_named : (cols : List (List ℕ)) → 3 ≤ leading_fixed cols → AreFixed cols
fixed_named cols h =
    let t = three (is_named cols 0 (codes "item")) (is_named cols 1 (codes "stimulus")) (is_named cols 2 (codes "categories")) h in
    record { item = named cols 0 (codes "item") t.0; stimulus = named cols 1 (codes "stimulus") t.1; categories = named cols 2 (codes "categories") t.2 }

quantities_named : (cols : List (List ℕ)) (k : ℕ) → k < leading_quantities cols 8 → field cols (3 + k) ≡ quantity_name k
unfolding leading_quantities
quantities_named cols k lt = named cols (3 + k) (quantity_name k) (lead_passes 8 (λ k. is_named cols (3 + k) (quantity_name k)) k lt)

quantities_few : (cols : List (List ℕ)) → leading_quantities cols 8 ≤ 8
unfolding leading_quantities
quantities_few cols = lead_le 8 (λ k. is_named cols (3 + k) (quantity_name k))

points_named : (cols : List (List ℕ)) (from k : ℕ) → k < leading_points cols from 61 → field cols (from + k) ≡ point_name k
unfolding leading_points
points_named cols from k lt = named cols (from + k) (point_name k) (lead_passes 61 (λ k. is_named cols (from + k) (point_name k)) k lt)

points_few : (cols : List (List ℕ)) (from : ℕ) → leading_points cols from 61 ≤ 61
unfolding leading_points
points_few cols from = lead_le 61 (λ k. is_named cols (from + k) (point_name k))

points_end : (cols : List (List ℕ)) (from : ℕ) → leading_points cols from 61 < 61 → field cols (from + leading_points cols from 61) ≡ point_name (leading_points cols from 61) → ⊥
unfolding leading_points
points_end cols from lt = not_named cols (from + leading_points cols from 61) (point_name (leading_points cols from 61)) (lead_fails 61 (λ k. is_named cols (from + k) (point_name k)) lt)

logliks_named : (cols : List (List ℕ)) (from grid k : ℕ) → k < leading_loglik cols from grid → field cols (from + k) ≡ loglik_name (k / grid) (k % grid)
unfolding leading_loglik
logliks_named cols from grid k lt = named cols (from + k) (loglik_name (k / grid) (k % grid)) (lead_passes (5 * grid) (λ k. is_named cols (from + k) (loglik_name (k / grid) (k % grid))) k lt)

logliks_few : (cols : List (List ℕ)) (from grid : ℕ) → leading_loglik cols from grid ≤ 5 * grid
unfolding leading_loglik
logliks_few cols from grid = lead_le (5 * grid) (λ k. is_named cols (from + k) (loglik_name (k / grid) (k % grid)))

logliks_end : (cols : List (List ℕ)) (from grid : ℕ) → let n = leading_loglik cols from grid in n < 5 * grid → field cols (from + n) ≡ loglik_name (n / grid) (n % grid) → ⊥
unfolding leading_loglik
logliks_end cols from grid lt =
    let n = leading_loglik cols from grid in
    not_named cols (from + n) (loglik_name (n / grid) (n % grid)) (lead_fails (5 * grid) (λ k. is_named cols (from + k) (loglik_name (k / grid) (k % grid))) lt)

-- there is no point after the quantities
no_points_fault : (cols : List (List ℕ)) → AreFixed cols → leading_points cols (3 + leading_quantities cols 8) 61 ≡ 0 → ((s : Shape) → IsHeader cols s → ⊥) → IsHeaderFault cols (3 + leading_quantities cols 8)
no_points_fault cols fixed empty none =
    let q : ℕ = leading_quantities cols 8 in
    record {
      none = none;
      begins = small_shape q;
      shape = record { quantities = quantities_few cols; grid_low = omega arith; grid = omega arith; responses_low = omega arith; responses = omega arith };
      before = begins_from cols (small_shape q) (3 + q) (omega arith) (record {
        item = λ _. fixed.item;
        stimulus = λ _. fixed.stimulus;
        categories = λ _. fixed.categories;
        quantities = λ k within lt. quantities_named cols k within;
        points = λ k within lt. absurd (omega (arith, lt));
        logliks = λ k lt. absurd (omega (arith, lt));
      });
      here = λ s is h.
          let kinds : AreNamed cols s (3 + q + 1) = kinds_of cols s (3 + q + 1) h in
          let same : s.quantities ≡ q = same_quantities cols s (3 + q + 1) q is kinds (omega arith) refl in
          let point : field cols (3 + q + 0) ≡ point_name 0 = subst (λ (m : ℕ). field cols (3 + m + 0) ≡ point_name 0) same (kinds.points 0 (omega (arith, is.grid_low)) (omega (arith, same))) in
          let ends : field cols (3 + q + 0) ≡ point_name 0 → ⊥ = subst (λ (k : ℕ). field cols (3 + q + k) ≡ point_name k → ⊥) empty (points_end cols (3 + q) (omega (arith, empty))) in
          ends point;
    }

-- the likelihoods' columns stop, or are not all
logliks_fault : (cols : List (List ℕ)) → AreFixed cols → ((s : Shape) → IsHeader cols s → ⊥)
    → let q = leading_quantities cols 8 in let g = leading_points cols (3 + q) 61 in 0 < g → IsHeaderFault cols (3 + q + g + leading_loglik cols (3 + q + g) g)
logliks_fault cols fixed none some =
    let q : ℕ = leading_quantities cols 8 in
    let g : ℕ = leading_points cols (3 + q) 61 in
    let l : ℕ = leading_loglik cols (3 + q + g) g in
    let s : Shape = record { quantities = q; grid = g; responses = 5 } in
    let n : ℕ = 3 + q + g + l in
    record {
      none = none;
      begins = s;
      shape = record { quantities = quantities_few cols; grid_low = omega (arith, some); grid = points_few cols (3 + q); responses_low = omega arith; responses = omega arith };
      before = begins_from cols s n (omega (arith, logliks_few cols (3 + q + g) g)) (record {
        item = λ _. fixed.item;
        stimulus = λ _. fixed.stimulus;
        categories = λ _. fixed.categories;
        quantities = λ k within lt. quantities_named cols k within;
        points = λ k within lt. points_named cols (3 + q) k within;
        logliks = λ k lt. logliks_named cols (3 + q + g) g k (omega (arith, lt));
      });
      here = λ t is h.
          let kinds : AreNamed cols t (n + 1) = kinds_of cols t (n + 1) h in
          let same : t.quantities ≡ q = same_quantities cols t (n + 1) q is kinds (omega (arith, some)) refl in
          let points : t.grid ≡ g = same_points cols t (n + 1) q g is kinds same (omega arith) refl in
          let high : t.responses * t.grid ≤ 5 * t.grid = mul-le-mul_right t.grid is.responses in
          let fewer : l < 5 * g = omega (arith, h.within, same, points, high) in
          let at : first_loglik t + l ≡ 3 + q + g + l = omega (arith, same, points) in
          let here : field cols (first_loglik t + l) ≡ loglik_name (l / t.grid) (l % t.grid) = kinds.logliks l (omega (arith, at)) in
          let there : field cols (3 + q + g + l) ≡ loglik_name (l / g) (l % g) = subst (λ (m : ℕ). field cols (3 + q + g + l) ≡ loglik_name (l / m) (l % m)) points (subst (λ (c : ℕ). field cols c ≡ loglik_name (l / t.grid) (l % t.grid)) at here) in
          logliks_end cols (3 + q + g) g fewer there;
    }

ok_or_err : {A F : Type 0} (x : A) (e : F) → (let r : Result A F = Ok x in r ≡ Err e) → ⊥
ok_or_err x e h = cc

no_header : (cols : List (List ℕ)) (e : ReadFault) → header_of cols ≡ Err e → (s : Shape) → IsHeader cols s → ⊥
no_header cols e refused s h = ok_or_err s e (sym (header_again cols s h) ∙ refused)

above : (n : ℕ) → (n ≡ 0 → ⊥) → 0 < n
above n h = omega arith

-- columns that are refused depart from every header, at the column of the fault
pub header_fault : (cols : List (List ℕ)) (e : ReadFault) → header_of cols ≡ Err e → (c : ℕ) × (e ≡ Header c) × IsHeaderFault cols c
unfolding header_of
header_fault cols e refused =
    let none = no_header cols e refused in
    let q : ℕ = leading_quantities cols 8 in
    let g : ℕ = leading_points cols (3 + q) 61 in
    let l : ℕ = leading_loglik cols (3 + q + g) g in
    elim (cases_Bool (nat_lt (leading_fixed cols) 3)) [
      | inl few ↦ (leading_fixed cols, sym (err_is {A = Shape} (Header (leading_fixed cols)) e (rw few at refused)), fixed_fault cols (ltb-true _ _ few) none)
      | inr all ↦ (let fixed : AreFixed cols = fixed_named cols (ltb-false (leading_fixed cols) 3 all) in
          elim (cases_Bool (eqb g 0)) [
            | inl empty ↦ (3 + q, sym (err_is {A = Shape} (Header (3 + q)) e (rw (all, empty) at refused)), no_points_fault cols fixed (eqb-true g 0 empty) none)
            | inr some ↦ elim (cases_Bool ((eqb (length cols) (3 + q + g + l)) && ((eqb (l % g) 0) && nat_le 2 (l / g)))) [
              | inl whole ↦ absurd (ok_or_err (record { quantities = q; grid = g; responses = l / g }) e (rw (all, some, whole) at refused))
              | inr part ↦ (3 + q + g + l, sym (err_is {A = Shape} (Header (3 + q + g + l)) e (rw (all, some, part) at refused)), logliks_fault cols fixed none (above g (eqb-false g 0 some)))
            ]
          ])
    ]
