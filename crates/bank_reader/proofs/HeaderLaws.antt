-- A header that is read has the names of its shape.
use Rattle.std.proofs.Common.{◌≡◌, ℕ, zero, suc, ◌+◌, ◌*◌, ◌/◌, ◌%◌, ◌<◌, ◌≤◌, Bool, true, false, not, cond, eqb, ◌&&◌, List, [], length, get_or, Result, Ok, Err, refl, sym, ap, subst, ◌∙◌, arith, inl, inr, ◌⊎◌, add-zero}
use Rattle.std.specs.Prelude.{nat_lt, nat_le, codes}
use Rattle.std.proofs.lemmas.Bool.{and_parts, eqb-true, eqb-false, ltb-false, leb-true, cases_Bool}
use Rattle.std.proofs.lemmas.Nat.{div-add-mod'}
use Rattle.std.proofs.Math.Nat.{div-le_of_le-mul}
use Rattle.std.proofs.lemmas.Slice.Eq.{bytes_eq-Decides}
use Rattle.bank_reader.proofs.Names.{AreNamed, names_from}
use Rattle.bank_reader.specs.declared.fault.ReadFault.TheVariants.{Header}
use Rattle.bank_reader.specs.declared.item.Shape.{Shape}
use Rattle.bank_reader.specs.Columns.{field, width, quantity_name, point_name, loglik_name}
use Rattle.bank_reader.specs.Grammar.{IsHeader}
use Rattle.bank_reader.specs.Reading.{lead, is_named, leading_fixed, leading_quantities, leading_points, leading_loglik, header_of}

last_or_below : (i n : ℕ) → i < n + 1 → (i < n) ⊎ (i ≡ n)
last_or_below i n lt = grind arith

-- those that lead pass
pub lead_passes : (n : ℕ) (p : ℕ → Bool) (i : ℕ) → i < lead n p → p i ≡ true
lead_passes zero p i lt = absurd (omega (arith, lt))
lead_passes (suc n) p i lt = elim (cases_Bool (eqb (lead n p) n && p n)) [
  | inl more ↦ (let q = and_parts (eqb (lead n p) n) (p n) more in
      let all : lead n p ≡ n = eqb-true (lead n p) n q.0 in
      let here : i < n + 1 = rw more at lt in
      elim (last_or_below i n here) [
        | inl less ↦ lead_passes n p i (omega (arith, less, all))
        | inr same ↦ rw same q.1
      ])
  | inr rest ↦ (let here : i < lead n p = rw rest at lt in lead_passes n p i here)
]

pub lead_le : (n : ℕ) (p : ℕ → Bool) → lead n p ≤ n
lead_le zero p = omega arith
lead_le (suc n) p = elim (cases_Bool (eqb (lead n p) n && p n)) [
  | inl more ↦ rw more (omega arith)
  | inr rest ↦ rw rest (omega (arith, lead_le n p))
]

pub named : (cols : List (List ℕ)) (c : ℕ) (name : List ℕ) → is_named cols c name ≡ true → field cols c ≡ name
named cols c name h = (bytes_eq-Decides (get_or cols c []) name).0 h

not_faulty : {A F : Type 0} (b : Bool) (f : F) (r : Result A F) (y : A) → cond b (Err f) r ≡ Ok y → (b ≡ false) × (r ≡ Ok y)
not_faulty true f r y e = absurd cc
not_faulty false f r y e = (refl, e)

is_whole : {A F : Type 0} (b : Bool) (f : F) (x y : A) → cond b (Ok x) (Err f) ≡ Ok y → (b ≡ true) × (x ≡ y)
is_whole true f x y e = (refl, cc)
is_whole false f x y e = absurd cc

pub three : (a b c : Bool) → 3 ≤ cond (not a) 0 (cond (not b) 1 (cond (not c) 2 3)) → (a ≡ true) × (b ≡ true) × (c ≡ true)
three true true true h = (refl, refl, refl)
three true true false h = absurd (omega (arith, h))
three true false c h = absurd (omega (arith, h))
three false b c h = absurd (omega (arith, h))

times : (l g : ℕ) → 0 < g → l % g ≡ 0 → l ≡ (l / g) * g
times l g some e = sym (div-add-mod' l g) ∙ rw e (add-zero ((l / g) * g))

pub header_is : (cols : List (List ℕ)) (s : Shape) → header_of cols ≡ Ok s → IsHeader cols s
unfolding header_of leading_quantities leading_points leading_loglik
header_is cols s e =
    let a = not_faulty (nat_lt (leading_fixed cols) 3) (Header (leading_fixed cols)) _ s e in
    let q = leading_quantities cols 8 in
    let g = leading_points cols (3 + q) 61 in
    let b = not_faulty (eqb g 0) (Header (3 + q)) _ s a.1 in
    let l = leading_loglik cols (3 + q + g) g in
    let made : Shape = record { quantities = q; grid = g; responses = l / g } in
    let w = is_whole ((eqb (length cols) (3 + q + g + l)) && ((eqb (l % g) 0) && nat_le 2 (l / g))) (Header (3 + q + g + l)) made s b.1 in
    let x = and_parts (eqb (length cols) (3 + q + g + l)) ((eqb (l % g) 0) && nat_le 2 (l / g)) w.0 in
    let y = and_parts (eqb (l % g) 0) (nat_le 2 (l / g)) x.1 in
    let fixed = three (is_named cols 0 (codes "item")) (is_named cols 1 (codes "stimulus")) (is_named cols 2 (codes "categories")) (ltb-false (leading_fixed cols) 3 a.0) in
    let some : 0 < g = positive g (eqb-false g 0 b.0) in
    let whole : l ≡ (l / g) * g = times l g some (eqb-true (l % g) 0 y.0) in
    let most = lead_le (5 * g) (λ k. is_named cols (3 + q + g + k) (loglik_name (k / g) (k % g))) in
    let few : l ≤ g * 5 = omega (arith, most) in
    let high : l / g ≤ 5 = div-le_of_le-mul g {n = 5} few in
    let count : length cols ≡ width made = eqb-true (length cols) (3 + q + g + l) x.0 ∙ ap (λ (n : ℕ). 3 + q + g + n) whole in
    let kinds : AreNamed cols made (width made) = record {
      item = λ _. named cols 0 (codes "item") fixed.0;
      stimulus = λ _. named cols 1 (codes "stimulus") fixed.1;
      categories = λ _. named cols 2 (codes "categories") fixed.2;
      quantities = λ k lt _. named cols (3 + k) (quantity_name k) (lead_passes 8 (λ k. is_named cols (3 + k) (quantity_name k)) k lt);
      points = λ k lt _. named cols (3 + q + k) (point_name k) (lead_passes 61 (λ k. is_named cols (3 + q + k) (point_name k)) k lt);
      logliks = λ i lt. named cols (3 + q + g + i) (loglik_name (i / g) (i % g)) (lead_passes (5 * g) (λ k. is_named cols (3 + q + g + k) (loglik_name (k / g) (k % g))) i (omega (arith, lt, whole)));
    } in
    let is : IsHeader cols made = record {
      shape = record {
        quantities = lead_le 8 (λ k. is_named cols (3 + k) (quantity_name k));
        grid_low = omega (arith, some);
        grid = lead_le 61 (λ k. is_named cols (3 + q + k) (point_name k));
        responses_low = leb-true 2 (l / g) y.1;
        responses = high;
      };
      count = count;
      names = names_from cols made (width made) kinds;
    } in
    subst (λ (t : Shape). IsHeader cols t) w.1 is
  where
    positive : (n : ℕ) → (n ≡ 0 → ⊥) → 0 < n
    positive n h = grind arith
