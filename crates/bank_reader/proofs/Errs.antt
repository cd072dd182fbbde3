-- Taking a fault apart: which step gave it.
use Rattle.std.proofs.Common.{◌≡◌, ℕ, zero, suc, ◌<◌, ◌⊎◌, inl, inr, Bool, true, false, List, [], ◌∷◌, ◌++◌, Option, Some, None, Result, Ok, Err, refl, ap, arith}
use Rattle.exam_text.specs.First.{◌>>=◌, unless, or_fault, fault_where, each_below}

abbrev pub refuse : {A F : Type 0} → F → Result A F
refuse e = Err e

pub err_is : {A F : Type 0} (x y : F) → refuse {A = A} x ≡ refuse {A = A} y → x ≡ y
err_is x y e = cc

pub some_is : {F : Type 0} (x y : F) → Some x ≡ Some y → x ≡ y
some_is x y e = cc

pub bind_err : {A B F : Type 0} (r : Result A F) (f : A → Result B F) (e : F) → (r >>= f) ≡ Err e → (r ≡ Err e) ⊎ ((x : A) × (r ≡ Ok x) × (f x ≡ Err e))
bind_err (Ok x) f e h = inr (x, refl, h)
bind_err {A} {B} {F} (Err d) f e h = inl (ap (λ (x : F). refuse {A = A} x) (err_is {A = B} d e h))

pub unless_err : {A F : Type 0} (o : Option F) (r : Result A F) (e : F) → unless o r ≡ Err e → (o ≡ Some e) ⊎ ((o ≡ None) × (r ≡ Err e))
unless_err None r e h = inr (refl, h)
unless_err {A} {F} (Some f) r e h = inl (ap (λ (x : F). Some x) (err_is {A = A} f e h))

pub or_fault_err : {A F : Type 0} (o : Option A) (f e : F) → or_fault o f ≡ Err e → (o ≡ None) × (f ≡ e)
or_fault_err {A} {F} (Some x) f e h = absurd (ok_err x e h)
  where
    ok_err : (x : A) (e : F) → (let r : Result A F = Ok x in r ≡ Err e) → ⊥
    ok_err x e h = cc
or_fault_err {A} {F} None f e h = (refl, err_is {A = A} f e h)

pub where_some : {F : Type 0} (b : Bool) (f e : F) → fault_where b f ≡ Some e → (b ≡ true) × (f ≡ e)
where_some true f e h = (refl, some_is f e h)
where_some false f e h = absurd cc

-- the first number whose reading has a fault
pub record FirstErr {A F : Type 0} (n : ℕ) (f : ℕ → Result A F) (fault : F) : Type 0 where
  pub at : ℕ
  pub below : at < n
  pub here : f at ≡ Err fault
  pub before : (xs : List A) × (each_below at f ≡ Ok xs)

pub each_err : {A F : Type 0} (n : ℕ) (f : ℕ → Result A F) (fault : F) → each_below n f ≡ Err fault → FirstErr n f fault
each_err {A} {F} zero f fault e = absurd (ok_err [] fault e)
  where
    ok_err : (x : List A) (e : F) → (let r : Result (List A) F = Ok x in r ≡ Err e) → ⊥
    ok_err x e h = cc
each_err {A} {F} (suc n) f fault e = elim (bind_err (each_below n f) (λ xs. f n >>= λ x. Ok (xs ++ x ∷ [])) fault e) [
  | inl early ↦ (let r = each_err n f fault early in
      record { at = r.at; below = omega (arith, r.below); here = r.here; before = r.before })
  | inr late ↦ (elim (bind_err (f n) (λ x. Ok (late.0 ++ x ∷ [])) fault late.2) [
    | inl here ↦ record { at = n; below = omega arith; here = here; before = (late.0, late.1) }
    | inr past ↦ absurd (ok_err (late.0 ++ past.0 ∷ []) fault past.2)
  ])
]
  where
    ok_err : (x : List A) (e : F) → (let r : Result (List A) F = Ok x in r ≡ Err e) → ⊥
    ok_err x e h = cc
