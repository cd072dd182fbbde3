-- What a row adds to the weights of items, item by item.
use Rattle.std.proofs.Common.{◌≡◌, ◌≢◌, ℕ, ◌+◌, ◌<◌, ◌≤◌, ◌⊎◌, inl, inr, Bool, true, false, cond, not, ◌&&◌, ◌==◌, List, length, set, refl, sym, ap, ◌∙◌, subst, arith, w64, to_z, of_z}
use Rattle.std.specs.Prelude.{ℤ, pos, ◌+ℤ◌, ◌*ℤ◌}
use Rattle.std.proofs.lemmas.Int.{ints}
use Rattle.std.proofs.lemmas.Bool.{cases_lt, cases_eq, eq-eqb, ne_eqb}
use Rattle.std.proofs.lemmas.List.{get_or-set_same, get_or-set_other}
use Rattle.std.proofs.Math.Bool.{true≢false}
use Rattle.bank_tables.specs.Items.{Set}
use Rattle.certificate_model.specs.Ranges.{IsWithin, at}
use Rattle.certificate_check.specs.Weights.{IsAdded, item_top}

-- what the code adds is the sum
added : (a b : ℤ) → IsWithin item_top a → IsWithin 1099494850560 b → to_z w64 (of_z w64 (to_z w64 (of_z w64 a) +ℤ to_z w64 (of_z w64 b))) ≡ a +ℤ b
added a b wa wb = omega (arith, ints)

no_net : (net : ℤ) → pos 0 ≡ net *ℤ pos 0
no_net net = omega (arith, ints)

plus_none : (a m : ℤ) → pos 0 ≡ m → a ≡ a +ℤ m
plus_none a m e = omega (arith, ints)

none_within : (m : ℤ) → pos 0 ≡ m → IsWithin 1099494850560 m
none_within m e = record { low = omega (arith, ints); high = omega (arith, ints) }

-- where there is nothing to add, the weight stays
pub nothing_added : (a m : ℤ) → pos 0 ≡ m → IsAdded 1099494850560 a m a
nothing_added a m e = record { within = none_within m e; sum = plus_none a m e }

pub no_share : (net : ℤ) (b : Bool) (n : ℕ) → b ≡ false → pos 0 ≡ net *ℤ pos (cond b n 0)
no_share net true n e = absurd (true≢false e)
no_share net false n e = no_net net

-- ---- over all items
-- the items below i have their share added, the others are as they were
pub record AreAdded (share : ℕ → ℤ) (old new : List ℤ) (i : ℕ) : Type 0 where
  pub done : (h : ℕ) → h < i → IsAdded 1099494850560 (at old h) (share h) (at new h)
  pub rest : (h : ℕ) → i ≤ h → at new h ≡ at old h

pub none_added : (share : ℕ → ℤ) (old : List ℤ) → AreAdded share old old 0
none_added share old = record { done = λ h w. absurd (omega arith); rest = λ h w. refl }

pub one_more : (share : ℕ → ℤ) (old now : List ℤ) (i : ℕ) (b : ℤ) → i < length now → IsWithin item_top (at old i) → IsWithin 1099494850560 b → b ≡ share i → AreAdded share old now i
    → AreAdded share old (set now i (to_z w64 (of_z w64 (to_z w64 (of_z w64 (at now i)) +ℤ to_z w64 (of_z w64 b))))) (i + 1)
one_more share old now i b within top small term before =
    let same : at now i ≡ at old i = before.rest i (omega arith) in
    let new : ℤ = to_z w64 (of_z w64 (to_z w64 (of_z w64 (at now i)) +ℤ to_z w64 (of_z w64 b))) in
    let e : new ≡ at now i +ℤ b = added (at now i) b (subst (IsWithin item_top) (sym same) top) small in
    let here : IsAdded 1099494850560 (at old i) (share i) (at (set now i new) i) =
    record {
      within = subst (IsWithin 1099494850560) term small;
      sum = get_or-set_same now i new (pos 0) within ∙ e ∙ ap (λ z. z +ℤ b) same ∙ ap (λ z. at old i +ℤ z) term;
    } in
    record {
      done =
          λ h w.
          elim (cases_lt h i) [
            | inl low ↦ let ne : h ≢ i = omega arith in subst (IsAdded 1099494850560 (at old h) (share h)) (sym (get_or-set_other now i h new (pos 0) ne)) (before.done h low)
            | inr high ↦
                let this : i ≡ h = omega arith in
                subst (λ (k : ℕ). IsAdded 1099494850560 (at old k) (share k) (at (set now i new) k)) this here
          ];
      rest = λ h w. let ne : h ≢ i = omega arith in get_or-set_other now i h new (pos 0) ne ∙ before.rest h (omega arith);
    }

-- ---- over the members of a set
-- of the set X the members outside `left` have the number added, and no other item has
pub record MembersHave (net : ℤ) (X left : Set) (old new : List ℤ) : Type 0 where
  pub done : (h : ℕ) → left h ≡ false → IsAdded 1099494850560 (at old h) (net *ℤ pos (cond (X h) 1 0)) (at new h)
  pub kept : (h : ℕ) → left h ≡ true → at new h ≡ at old h
  pub members : (h : ℕ) → left h ≡ true → X h ≡ true

pub none_has : (net : ℤ) (X left : Set) (old : List ℤ) → ((h : ℕ) → left h ≡ X h) → MembersHave net X left old old
none_has net X left old same = record { done = λ h e. nothing_added (at old h) (net *ℤ pos (cond (X h) 1 0)) (no_share net (X h) 1 (sym (same h) ∙ e)); kept = λ h e. refl; members = λ h e. sym (same h) ∙ e }

out : (a b : Bool) → (not a && b) ≡ false → (a ≡ true) ⊎ (b ≡ false)
out true b e = inl refl
out false b e = inr e

in_both : (a b : Bool) → (not a && b) ≡ true → (a ≡ false) × (b ≡ true)
in_both true b e = absurd (true≢false (sym e))
in_both false b e = (refl, e)

-- what is not in the set stays
pub kept_outside : (net : ℤ) (b : Bool) (old new : ℤ) → b ≡ false → IsAdded 1099494850560 old (net *ℤ pos (cond b 1 0)) new → new ≡ old
kept_outside net true old new e added = absurd (true≢false e)
kept_outside net false old new e added = added.sum ∙ sym (plus_none old (net *ℤ pos 0) (no_net net))

one_times : (net : ℤ) (b : Bool) → b ≡ true → net ≡ net *ℤ pos (cond b 1 0)
one_times net true e = omega (arith, ints)
one_times net false e = absurd (true≢false (sym e))

wide : (net : ℤ) → IsWithin 16777216 net → IsWithin 1099494850560 net
wide net w = record { low = omega (arith, ints, w.low); high = omega (arith, ints, w.high) }

one_net : (net : ℤ) (X left left' : Set) (old now : List ℤ) (i : ℕ) → IsWithin 16777216 net → i < length now → IsWithin item_top (at old i) → left i ≡ true → ((h : ℕ) → left' h ≡ (not (h == i) && left h)) → MembersHave net X left old now
    → MembersHave net X left' old (set now i (to_z w64 (of_z w64 (to_z w64 (of_z w64 (at now i)) +ℤ to_z w64 (of_z w64 net)))))
one_net net X left left' old now i few within top here without before =
    let same : at now i ≡ at old i = before.kept i here in
    let new : ℤ = to_z w64 (of_z w64 (to_z w64 (of_z w64 (at now i)) +ℤ to_z w64 (of_z w64 net))) in
    let e : new ≡ at now i +ℤ net = added (at now i) net (subst (IsWithin item_top) (sym same) top) (wide net few) in
    let term : net ≡ net *ℤ pos (cond (X i) 1 0) = one_times net (X i) (before.members i here) in
    let now_added : IsAdded 1099494850560 (at old i) (net *ℤ pos (cond (X i) 1 0)) (at (set now i new) i) =
    record {
      within = subst (IsWithin 1099494850560) term (wide net few);
      sum = get_or-set_same now i new (pos 0) within ∙ e ∙ ap (λ z. z +ℤ net) same ∙ ap (λ z. at old i +ℤ z) term;
    } in
    record {
      done =
          λ h f.
          elim (cases_eq h i) [
            | inl this ↦ subst (λ (k : ℕ). IsAdded 1099494850560 (at old k) (net *ℤ pos (cond (X k) 1 0)) (at (set now i new) k)) (sym this) now_added
            | inr ne ↦
                let gone : left h ≡ false = was_out (left h) (sym (without h ∙ ap (λ (b : Bool). not b && left h) (ne_eqb h i ne)) ∙ f) in
                subst (IsAdded 1099494850560 (at old h) (net *ℤ pos (cond (X h) 1 0))) (sym (get_or-set_other now i h new (pos 0) ne)) (before.done h gone)
          ];
      kept =
          λ h f.
          let parts = in_both (h == i) (left h) (sym (without h) ∙ f) in
          let ne : h ≢ i = λ this. true≢false (sym (eq-eqb h i this) ∙ parts.0) in
          get_or-set_other now i h new (pos 0) ne ∙ before.kept h parts.1;
      members = λ h f. before.members h (in_both (h == i) (left h) (sym (without h) ∙ f)).1;
    }
  where
    was_out : (b : Bool) → (not false && b) ≡ false → b ≡ false
    was_out b e = e

pub one_member : (net b : ℤ) (X left left' : Set) (old now : List ℤ) (i : ℕ) → b ≡ net → IsWithin 16777216 b → i < length now → IsWithin item_top (at old i) → left i ≡ true → ((h : ℕ) → left' h ≡ (not (h == i) && left h)) → MembersHave net X left old now
    → MembersHave net X left' old (set now i (to_z w64 (of_z w64 (to_z w64 (of_z w64 (at now i)) +ℤ to_z w64 (of_z w64 b)))))
one_member net b X left left' old now i e few within top here without before =
    subst (λ (x : ℤ). MembersHave net X left' old (set now i (to_z w64 (of_z w64 (to_z w64 (of_z w64 (at now i)) +ℤ to_z w64 (of_z w64 x)))))) (sym e)
    (one_net net X left left' old now i (subst (IsWithin 16777216) e few) within top here without before)
