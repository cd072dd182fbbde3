-- Lists of views, of which one is set.
use Rattle.std.proofs.Common.{◌≡◌, ◌≢◌, ℕ, zero, suc, ◌+◌, ◌%◌, ◌^◌, ◌<◌, ◌≤◌, true, false, List, [], ◌∷◌, ◌++◌, length, set, refl, sym, ap, ◌∙◌, subst, inl, inr, ⊎_elim, arith, Option, Some, None, slice_index, sum_by}
use Rattle.std.proofs.lemmas.List.Sums.{sum_by-cons}
use Rattle.std.proofs.Math.ListN.{length-set}
use lib.ListN.{get_elem?}
use mathlib.Core.Option.{some, some-injective, some-ne-none}
use Rattle.atomic_table.specs.Table.{State}
use Rattle.atomic_table.proofs.Lists.{at_set, set_else, at_longer}
use Rattle.std.proofs.lemmas.Bool.{true≢false}
use Rattle.turn_lock.specs.declared.view.View.{View}
use Rattle.turn_lock.proofs.Lists.{at_end}
use Rattle.turn_lock.specs.Rule.{Each, Pairs, Fits, AreApart, IsPlaced, AreInTurn, tickets_of, one_ticket}

module _ {A : Type 0} where
  pub at_again : (l : List A) (i : ℕ) (a b : A) → get_elem? l i ≡ some a → get_elem? (set l i b) i ≡ some b
  at_again [] i a b e = absurd (some-ne-none a (sym e))
  at_again (x ∷ xs) zero a b e = refl
  at_again (x ∷ xs) (suc i) a b e = at_again xs i a b e

  pub total_set : (f : A → ℕ) (l : List A) (i : ℕ) (a b : A) → get_elem? l i ≡ some a → sum_by f (set l i b) + f a ≡ sum_by f l + f b
  total_set f [] i a b e = absurd (some-ne-none a (sym e))
  total_set f (x ∷ xs) zero a b e =
      let same : f x ≡ f a = ap f (some-injective x a e) in
      omega (arith, sum_by-cons f b xs, sum_by-cons f x xs)
  total_set f (x ∷ xs) (suc i) a b e =
      let ih = total_set f xs i a b e in
      omega (arith, sum_by-cons f x (set xs i b), sum_by-cons f x xs)

  pub total_le : (f : A → ℕ) (l : List A) → ((a : A) → f a ≤ 1) → sum_by f l ≤ length l
  total_le f [] h = omega arith
  total_le f (x ∷ xs) h = let ih = total_le f xs h in omega (arith, sum_by-cons f x xs, h x)

  pub each_set : (P Q : ℕ → A → Type 0) (l : List A) (i : ℕ) (b : A) → Each P l → Q i b
      → ((j : ℕ) (a : A) → j ≢ i → get_elem? l j ≡ some a → P j a → Q j a) → Each Q (set l i b)
  each_set P Q l i b h here there j a e =
      ⊎_elim (λ t. subst (λ k. Q k a) (sym t.0) (subst (λ z. Q i z) t.1 here)) (λ t. there j a t.0 t.1 (h j a t.1)) (at_set l i j b a e)

  pub pairs_set : (P : A → A → Type 0) (l : List A) (i : ℕ) (b : A) → ((x y : A) → P x y → P y x) → Pairs P l
      → ((j : ℕ) (a : A) → j ≢ i → get_elem? l j ≡ some a → P b a) → Pairs P (set l i b)
  pairs_set P l i b turn h there j k v w ne ej ek =
      ⊎_elim
      (λ s. ⊎_elim (λ t. absurd (ne (s.0 ∙ sym t.0))) (λ t. subst (λ z. P z w) s.1 (there k w t.0 t.1)) (at_set l i k b w ek))
      (λ s. ⊎_elim (λ t. subst (λ z. P v z) t.1 (turn b v (there j v s.0 s.1))) (λ t. h j k v w ne s.1 t.1) (at_set l i k b w ek))
      (at_set l i j b v ej)

  pub at_length : (l : List A) (i : ℕ) (a : A) → get_elem? l i ≡ some a → i < length l
  at_length [] i a e = absurd (some-ne-none a (sym e))
  at_length (x ∷ xs) zero a e = omega arith
  at_length (x ∷ xs) (suc i) a e = let ih = at_length xs i a e in omega arith

pub apart_turned : {E : Type 0} (v w : View E) → AreApart v w → AreApart w v
apart_turned v w h = record { tickets = λ t a b. h.tickets t b a; places = λ k a b. h.places k b a }

pub few_waits : {E : Type 0} (v : View E) → tickets_of v ≤ 1
few_waits v = by_ticket v.ticket
  where
    by_ticket : (t : Option ℕ) → one_ticket t ≤ 1
    by_ticket None = omega arith
    by_ticket (Some t) = omega arith

module _ {V E : Type 0} (history : V → List E) where
  -- the rule after a step that sets one view
  abbrev pub holds_set : (s : State (Option V) (View E)) (h : AreInTurn history s) (id : ℕ) (v w : View E) → get_elem? s.views id ≡ some v
      → (words : List ℕ) (homes : List (mathlib.Core.Option.Option (Option V))) (log : List E) (from to : ℕ)
      → length words ≡ 3 → slice_index words 0 ≡ to % 2 ^ 64 → slice_index words 1 ≡ from % 2 ^ 64 → slice_index words 2 ≡ length log
      → to + h.from + tickets_of v ≡ from + h.to + tickets_of w
      → (w.live ≡ true → (v.live ≡ true) × (w.splits ≡ v.splits))
      → Fits log from to id w
      → ((j : ℕ) (u : View E) → j ≢ id → get_elem? s.views j ≡ some u → Fits h.log h.from h.to j u → Fits log from to j u)
      → ((j : ℕ) (u : View E) → j ≢ id → get_elem? s.views j ≡ some u → AreApart w u)
      → IsPlaced history log (record { words = words; homes = homes; views = set s.views id w })
      → AreInTurn history (record { words = words; homes = homes; views = set s.views id w })
  holds_set s h id v w at words homes log from to long ticket serving count busy alive mine others apart place = record {
    log = log;
    from = from;
    to = to;
    long = long;
    ticket = ticket;
    serving = serving;
    count = count;
    busy = (let t = total_set tickets_of s.views id v w at in omega (arith, h.busy));
    few = simp length-set h.few;
    first = λ u e l. ⊎_elim
        (λ t.
        let here : get_elem? s.views 0 ≡ some v = ap (λ k. get_elem? s.views k) t.0 ∙ at in
        let was = alive (ap (λ (z : View E). z.live) t.1 ∙ l) in
        simp length-set (h.first v here was.0 ∙ ap (λ k. k + 1) (sym was.1 ∙ ap (λ (z : View E). z.splits) t.1)))
        (λ t. simp length-set (h.first u t.1 l))
        (at_set s.views id 0 w u e);
    each = each_set (Fits h.log h.from h.to) (Fits log from to) s.views id w h.each mine others;
    pairs = pairs_set AreApart s.views id w apart_turned h.pairs apart;
    place = place;
  }

  -- tickets less than 2 ^ 64 apart
  pub near : (s : State (Option V) (View E)) (h : AreInTurn history s) → h.to ≤ h.from + 65536
  near s h = let t = total_le tickets_of s.views few_waits in omega (arith, h.busy, h.few)

  -- the value stays where it is, where the view that is set is out neither before nor after
  pub placed_set : (s : State (Option V) (View E)) (id : ℕ) (v w : View E) → get_elem? s.views id ≡ some v → v.out ≡ false
      → w.out ≡ false → (log : List E) (words : List ℕ)
      → IsPlaced history log s → IsPlaced history log (record { words = words; homes = s.homes; views = set s.views id w })
  placed_set s id v w at before after log words place = elim place [
    | inl p ↦ inl (
      p.0,
      p.1,
      p.2,
      λ j u e. ⊎_elim (λ t. ap (λ (z : View E). z.out) (sym t.1)
          ∙ after) (λ t. p.3 j u t.1) (at_set s.views id j w u e),
    )
    | inr p ↦
        let other : p.0 ≢ id = λ same.
        let one : v ≡ p.1 = some-injective v p.1 (sym at ∙ ap (λ k. get_elem? s.views k) (sym same) ∙ p.2) in
        absurd (true≢false (sym p.3 ∙ ap (λ (z : View E). z.out) (sym one) ∙ before)) in
        inr (p.0, p.1, set_else s.views id p.0 w other ∙ p.2, p.3, p.4)
  ]

  -- where the value is, once a view came to the end of the list
  pub placed_end : (words : List ℕ) (homes : List (mathlib.Core.Option.Option (Option V))) (views : List (View E)) (w : View E)
      → w.out ≡ false → (log : List E)
      → IsPlaced history log (record { words = words; homes = homes; views = views })
      → IsPlaced history log (record { words = words; homes = homes; views = views ++ w ∷ [] })
  placed_end words homes views w inside log place = elim place [
    | inl p ↦ inl (
      p.0,
      p.1,
      p.2,
      λ j u e. ⊎_elim (λ t. p.3 j u t) (λ t. ap (λ (z : View E). z.out) (sym t.1)
          ∙ inside) (at_end views w u j e),
    )
    | inr p ↦ inr (p.0, p.1, at_longer views (w ∷ []) p.0 p.1 p.2, p.3, p.4)
  ]

  -- the value is at home where the ticket of a view that isn't out is served
  pub at_home : (s : State (Option V) (View E)) (h : AreInTurn history s) (id : ℕ) (v : View E) → get_elem? s.views id ≡ some v
      → v.out ≡ false → v.ticket ≡ Some h.from
      → (x : V) × (s.homes ≡ some (Some x) ∷ []) × (history x ≡ h.log) × Each (λ _ u. u.out ≡ false) s.views
  at_home s h id v at inside served = elim h.place [
    | inl p ↦ p
    | inr p ↦
        let other : id ≢ p.0 = λ same.
        let one : v ≡ p.1 = some-injective v p.1 (sym at ∙ ap (λ k. get_elem? s.views k) same ∙ p.2) in
        absurd (true≢false (sym p.3 ∙ ap (λ (z : View E). z.out) (sym one) ∙ inside)) in
        let f = h.each p.0 p.1 p.2 in
        absurd ((h.pairs id p.0 v p.1 other at p.2).tickets h.from served (f.served (f.out p.3).0))
  ]

  -- no other view is out where this one's ticket is served
  pub nobody_else : (s : State (Option V) (View E)) (h : AreInTurn history s) (id : ℕ) (v : View E) → get_elem? s.views id ≡ some v
      → v.ticket ≡ Some h.from
      → (j : ℕ) (u : View E) → j ≢ id → get_elem? s.views j ≡ some u → u.served ≡ true → ⊥
  nobody_else s h id v at served j u ne e too = (h.pairs id j v u (λ k. ne (sym k)) at e).tickets h.from served ((h.each j u e).served too)
