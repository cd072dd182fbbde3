-- Lists: places of new entries, beginnings of one list, the last of a list.
use Rattle.std.proofs.Common.{◌≡◌, ◌⊎◌, ℕ, zero, suc, ◌+◌, ◌<◌, ◌≤◌, List, [], ◌∷◌, ◌++◌, length, refl, sym, ap, ◌∙◌, subst, inl, inr, ⊎_elim, arith, append_assoc, All, Contains, if◌then◌else◌, ltb, length-append}
use Rattle.std.proofs.lemmas.List.{append-nil}
use Rattle.std.proofs.lemmas.List.Elements.{Contains-get_or, Contains-append_cases, All-contains}
use Rattle.std.proofs.lemmas.Bool.{cases_Bool, ltb-false, le-ltb}
use lib.ListN.{get_elem?}
use mathlib.Core.Option.{some, some-injective, some-ne-none}
use Rattle.turn_lock.specs.Histories.{StartsWith, AreComparable, AreDisjoint, places, longer_of}

module _ {A : Type 0} where
  pub all_of : (P : A → Type 0) (xs : List A) → ((x : A) → Contains xs x → P x) → All P xs
  all_of P xs h k d lt = h _ (Contains-get_or xs k d lt)

  pub contains_nothing : (x : A) → Contains [] x → ⊥
  contains_nothing x c = let lt = c.1 in omega arith

  contains_at : (x y : A) (xs : List A) (k : ℕ) → k < length (x ∷ xs) → lib.ListN.get_or (x ∷ xs) k y ≡ y → (x ≡ y) ⊎ Contains xs y
  contains_at x y xs zero lt e = inl e
  contains_at x y xs (suc k) lt e = inr (k, omega arith, e)

  pub contains_cons : (x y : A) (xs : List A) → Contains (x ∷ xs) y → (x ≡ y) ⊎ Contains xs y
  contains_cons x y xs c = contains_at x y xs c.0 c.1 c.2

  pub tail_is : {x y : A} {xs ys : List A} → x ∷ xs ≡ y ∷ ys → xs ≡ ys
  tail_is e = cc

  pub head_is : {x y : A} {xs ys : List A} → x ∷ xs ≡ y ∷ ys → x ≡ y
  head_is e = cc

  -- two beginnings of one list: the one begins the other
  comparable_from : (a b r s : List A) → a ++ r ≡ b ++ s → AreComparable a b
  comparable_from [] b r s e = inr (b, refl)
  comparable_from (x ∷ a) [] r s e = inl (x ∷ a, refl)
  comparable_from (x ∷ a) (y ∷ b) r s e =
      let same = head_is e in
      ⊎_elim
      (λ p. inl (p.0, ap (λ z. z ∷ a) same ∙ ap (λ l. y ∷ l) p.1))
      (λ p. inr (p.0, ap (λ z. z ∷ b) (sym same) ∙ ap (λ l. x ∷ l) p.1))
      (comparable_from a b r s (tail_is e))

  pub comparable : (log a b : List A) → StartsWith log a → StartsWith log b → AreComparable a b
  comparable log a b p q = comparable_from a b p.0 q.0 (sym p.1 ∙ q.1)

  pub starts_length : (a b : List A) → StartsWith a b → length b ≤ length a
  starts_length a b p = let e = ap length p.1 in omega (arith, length-append b p.0)

  pub starts_longer : (a b more : List A) → StartsWith a b → StartsWith (a ++ more) b
  starts_longer a b more p = (p.0 ++ more, ap (λ l. l ++ more) p.1 ∙ append_assoc b p.0 more)

  pub starts_itself : (a : List A) → StartsWith a a
  starts_itself a = ([], sym (append-nil a))

  pub nothing_more : (r : List A) → length r ≡ 0 → r ≡ []
  nothing_more [] e = refl
  nothing_more (x ∷ r) e = absurd (omega arith)

  -- which of the two is the longer
  pub longer_is : (a b : List A) → AreComparable a b → (StartsWith a b × (longer_of a b ≡ a)) ⊎ (StartsWith b a × (longer_of a b ≡ b))
  longer_is a b c = ⊎_elim
      (λ p. inl (p, ap (λ t. if t then b else a) (le-ltb (length a) (length b) (starts_length a b p))))
      (λ p. ⊎_elim
      (λ t. inr (p, ap (λ t. if t then b else a) t))
      (λ f.
      let short = ltb-false (length a) (length b) f in
      let same : b ≡ a = p.1 ∙ ap (λ l. a ++ l) (nothing_more p.0 (let e = ap length p.1 in omega (arith, length-append a p.0)))
      ∙ append-nil a in
      inl (([], sym same ∙ sym (append-nil b)), ap (λ t. if t then b else a) f))
      (cases_Bool (ltb (length a) (length b))))
      c

  -- what is below the length of either is below that of the longer
  pub longer_length : (a b : List A) → AreComparable a b → (length a ≤ length (longer_of a b)) × (length b ≤ length (longer_of a b))
  longer_length a b c = ⊎_elim
      (λ p. let e = ap length p.1 in let le = starts_length a b p.0 in (omega arith, omega arith))
      (λ p. let e = ap length p.1 in let le = starts_length b a p.0 in (omega arith, omega arith))
      (longer_is a b c)

  pub longer_begins : (log a b : List A) → StartsWith log a → StartsWith log b → StartsWith log (longer_of a b)
  longer_begins log a b p q = ⊎_elim (λ t. subst (λ l. StartsWith log l) (sym t.1) p) (λ t. subst (λ l. StartsWith log l)
      (sym t.1) q) (longer_is a b (comparable log a b p q))

  -- the last of a list
  pub at_end : (l : List A) (a b : A) (j : ℕ) → get_elem? (l ++ a ∷ []) j ≡ some b → (get_elem? l j ≡ some b) ⊎ ((j ≡ length l) × (a ≡ b))
  at_end [] a b zero e = inr (refl, some-injective a b e)
  at_end [] a b (suc j) e = absurd (some-ne-none b (sym e))
  at_end (x ∷ xs) a b zero e = inl e
  at_end (x ∷ xs) a b (suc j) e = ⊎_elim (λ t. inl t) (λ t. inr (ap suc t.0, t.1)) (at_end xs a b j e)

pub places_range : (n k x : ℕ) → Contains (places k n) x → (k ≤ x) × (x < k + n)
places_range zero k x c = absurd (contains_nothing x c)
places_range (suc n) k x c = ⊎_elim
    (λ e. (omega arith, omega arith))
    (λ t. let ih = places_range n (suc k) x t in (let a = ih.0 in omega arith, let b = ih.1 in omega arith))
    (contains_cons k x (places (suc k) n) c)

pub all_more : (a b : ℕ) (xs : List ℕ) → a ≤ b → All (λ k. k < a) xs → All (λ k. k < b) xs
all_more a b xs le h k d lt = let t = h k d lt in omega arith

pub disjoint_append : (xs ys zs : List ℕ) → AreDisjoint xs zs → AreDisjoint ys zs → AreDisjoint (xs ++ ys) zs
disjoint_append xs ys zs p q k a b = ⊎_elim (λ t. p k t b) (λ t. q k t b) (Contains-append_cases xs ys k a)

-- numbers from n on, and numbers below it
pub disjoint_new : (n m : ℕ) (ys : List ℕ) (b : ℕ) → All (λ k. k < b) ys → b ≤ n → AreDisjoint (places n m) ys
disjoint_new n m ys b below le k a c = let r = places_range m n k a in let s = All-contains (λ k. k < b) ys k below c in let r' = r.0 in
    omega arith
