-- The items shown, one after another.
use Rattle.std.proofs.Common.{◌≡◌, ℕ, ◌+◌, ◌<◌, inl, inr, Bool, true, false, ◌&&◌, ◌||◌, ◌==◌, ◌-◌, List, [], ◌∷◌, ◌++◌, length, take, refl, sym, ap, ◌∙◌, arith, Option, Some, None, get_or, nat_lt, slice_get}
use Rattle.std.specs.Prelude.{IfSome}
use Rattle.std.specs.List.{list_any, zip}
use Rattle.std.proofs.lemmas.Bool.{eq-eqb}
use Rattle.std.proofs.lemmas.Bool.Decides.{eqb_tells}
use Rattle.std.proofs.lemmas.Option.{slice_get_within, get_or_from_slice_get}
use Rattle.std.proofs.lemmas.List.{take_more}
use Rattle.std.proofs.lemmas.Slice.Zip.{get_or-zip, length-zip}
use Rattle.std.proofs.lemmas.Bool.{lt-ltb, le-ltb, cases_lt}
use Rattle.bank_tables.specs.Items.{Set}
use Rattle.bank_tables.specs.Tables.{Tables, size}
use Rattle.serving_model.specs.declared.seat.Seat.{Seat}
use Rattle.serving_model.specs.Seats.{is_shown, last_shown}
use Rattle.std.proofs.lemmas.List.Folds.{list_any_at, list_any_more}

-- a number at a place of the list is found in it
pub found_at : (xs : List ℕ) (k x : ℕ) → slice_get xs k ≡ Some x → list_any (λ item. item == x) xs ≡ true
found_at xs k x e = list_any_at (λ (item : ℕ). item == x) xs k 0 (slice_get_within xs k x e) (eq-eqb (get_or xs k 0) x (get_or_from_slice_get xs k x 0 e))

-- one number more
pub any_more : (p : ℕ → Bool) (xs : List ℕ) (k x : ℕ) → slice_get xs k ≡ Some x → list_any p (take (k + 1) xs) ≡ (list_any p (take k xs) || p x)
any_more p xs k x e = list_any_more p xs k 0 (slice_get_within xs k x e) ∙ ap (λ (y : ℕ). list_any p (take k xs) || p y) (get_or_from_slice_get xs k x 0 e)

pub swapped : (i x : ℕ) (b : Bool) → (i == x || b) ≡ (b || x == i)
swapped i x b = grind arith

-- the item shown last is of the bank
pub last_is_item : (b : Tables) (seat : Seat) (last : Option ℕ) → last ≡ last_shown seat → ((i : ℕ) → is_shown seat i ≡ true → i < size b) → IfSome last (λ item. item < size b)
last_is_item b seat None e items = tt
last_is_item b seat (Some item) e items = items item (found_at seat.shown (length seat.shown - 1) item (sym e))

-- one answer more
pub answer_more : (xs ys : List ℕ) (k x y : ℕ) → slice_get xs k ≡ Some x → slice_get ys k ≡ Some y → take (k + 1) (zip xs ys) ≡ take k (zip xs ys) ++ (x, y) ∷ []
answer_more xs ys k x y e h =
    let first : k < length xs = slice_get_within xs k x e in
    let second : k < length ys = slice_get_within ys k y h in
    let within : k < length (zip xs ys) = omega (arith, length-zip xs ys) in
    let at-x : get_or xs k 0 ≡ x = get_or_from_slice_get xs k x 0 e in
    let at-y : get_or ys k 0 ≡ y = get_or_from_slice_get ys k y 0 h in
    let pair : get_or (zip xs ys) k (0, 0) ≡ (x, y) = get_or-zip xs ys k (0, 0) first second ∙ same _ _ _ _ at-x at-y in
    take_more (zip xs ys) k (0, 0) within ∙ ap (λ (p : ℕ × ℕ). take k (zip xs ys) ++ p ∷ []) pair
  where
    same : (a a' b b' : ℕ) → a ≡ a' → b ≡ b' → ◌≡◌ {A = ℕ × ℕ} (a, b) (a', b')
    same a a' b b' p q = cc

-- ---- a set below a number grows by that number, or doesn't
same_test : (j i : ℕ) → (j ≡ i → ⊥) → nat_lt j i ≡ nat_lt j (i + 1)
same_test j i differs = elim (cases_lt j i) [ inl before ↦ lt-ltb j i before ∙ sym (lt-ltb j (i + 1) (omega arith)) | inr past ↦ le-ltb j i past ∙ sym (le-ltb j (i + 1) (omega arith)) ]

pub grown : (p : Set) (i j : ℕ) (old : Bool) → p i ≡ true → old ≡ (nat_lt j i && p j) → (j == i || old) ≡ (nat_lt j (i + 1) && p j)
grown p i j old passes e =
    elim (eqb_tells j i) [
      | inl (test, same) ↦
          let high : nat_lt j (i + 1) ≡ true = lt-ltb j (i + 1) (omega arith) in
          let here : p j ≡ true = ap p same ∙ passes in
          rw (test, high, here) refl
      | inr (test, differs) ↦ rw test (e ∙ ap (λ (b : Bool). b && p j) (same_test j i differs))
    ]

pub not_grown : (p : Set) (i j : ℕ) → p i ≡ false → (nat_lt j i && p j) ≡ (nat_lt j (i + 1) && p j)
not_grown p i j fails =
    elim (eqb_tells j i) [
      | inl (test, same) ↦
          let here : p j ≡ false = ap p same ∙ fails in
          rw here (and_false (nat_lt j i) ∙ sym (and_false (nat_lt j (i + 1))))
      | inr (test, differs) ↦ ap (λ (b : Bool). b && p j) (same_test j i differs)
    ]
  where
    and_false : (b : Bool) → (b && false) ≡ false
    and_false true = refl
    and_false false = refl
