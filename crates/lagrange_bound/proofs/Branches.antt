-- How a branch changes the state of a path.
use Rattle.std.proofs.Common.{◌≡◌, ℕ, ◌<◌, Bool, true, false, not, ◌&&◌, ◌||◌, ◌==◌, nat_lt, inl, inr, refl, sym, ap, ◌∙◌}
use Rattle.std.proofs.lemmas.Bool.{and_parts, and_from, eqb-true, eqb-false, eq-eqb, ne_eqb}
use Rattle.std.proofs.Math.Path.{fun_ext}
use Rattle.bank_tables.specs.Items.{Set}
use Rattle.bank_tables.specs.Sums.{any_below}
use Rattle.bank_tables.specs.Tables.{size, stimulus}
use Rattle.form_model.specs.Forms.{used}
use Rattle.form_model.specs.Problem.{Problem}
use Rattle.certificate_model.specs.Paths.{Path, root, is_free, is_chosen, is_open, with_item, with_stimulus}
use Rattle.form_model.proofs.SumLaws.{either}
use Rattle.lagrange_bound.proofs.Used.{same_truth, used_by, used_from, used_with, used_without, used_dropped}

swapped : (a b : Bool) → (a && not b) ≡ (not b && a)
swapped true true = refl
swapped true false = refl
swapped false true = refl
swapped false false = refl

taken_free : (l e t o : Bool) → (not e && (l && (not t && not o))) ≡ (l && (not (e || t) && not o))
taken_free true true t o = refl
taken_free true false t o = refl
taken_free false true t o = refl
taken_free false false t o = refl

out_free : (l e t o : Bool) → (not e && (l && (not t && not o))) ≡ (l && (not t && not (e || o)))
out_free true true true o = refl
out_free true true false o = refl
out_free true false true o = refl
out_free true false false o = refl
out_free false true t o = refl
out_free false false t o = refl

dropped_free : (l t o e : Bool) → ((l && (not t && not o)) && not (l && ((l && (not t && not o)) && e))) ≡ (l && (not t && not (((l && (not t && not o)) && e) || o)))
dropped_free false t o e = refl
dropped_free true true o e = refl
dropped_free true false true true = refl
dropped_free true false true false = refl
dropped_free true false false true = refl
dropped_free true false false false = refl

dropped_out : (l t o e : Bool) → (o || (l && ((l && (not t && not o)) && e))) ≡ (((l && (not t && not o)) && e) || o)
dropped_out l t true e = sym (or_true_right _)
  where
    or_true_right : (b : Bool) → (b || true) ≡ true
    or_true_right true = refl
    or_true_right false = refl
dropped_out false t false e = refl
dropped_out true true false e = refl
dropped_out true false false true = refl
dropped_out true false false false = refl

chosen_moved : (a b c d : Bool) → (d || (b || c)) ≡ (b || (d || c))
chosen_moved a true c true = refl
chosen_moved a true c false = refl
chosen_moved a false c true = refl
chosen_moved a false c false = refl

or_assoc : (a b c : Bool) → (a || (b || c)) ≡ ((a || b) || c)
or_assoc true b c = refl
or_assoc false b c = refl

open_less : (a c u : Bool) → (not a && (not c && u)) ≡ (not (a || c) && u)
open_less true c u = refl
open_less false c u = refl

open_moved : (e c u : Bool) → (not e && (not c && u)) ≡ (not c && (not e && u))
open_moved true true u = refl
open_moved true false u = refl
open_moved false true u = refl
open_moved false false u = refl

nothing : (a : Bool) → (a && false) ≡ false
nothing true = refl
nothing false = refl

module _ (P : Problem) where
  pub root_open : (F C D : Set) → ((i : ℕ) → F i ≡ is_free P (root P) i) → ((s : ℕ) → C s ≡ used P.bank P.given s) → ((s : ℕ) → D s ≡ (used P.bank F s && not (C s))) → D ≡ is_open P (root P)
  root_open F C D free chosen opened =
      let same : F ≡ is_free P (root P) = fun_ext free in
      fun_ext (λ s. opened s ∙ ap (λ (X : Set). used P.bank X s && not (C s)) same ∙ ap (λ (b : Bool). used P.bank (is_free P (root P)) s && not b) (chosen s) ∙ swapped _ _)

module _ (P : Problem) (p : Path) (i : ℕ) where
  pub free_taken : (F F' : Set) → F ≡ is_free P p → ((j : ℕ) → F' j ≡ (not (j == i) && F j)) → F' ≡ is_free P (with_item p i true)
  free_taken F F' same less = fun_ext (λ j. less j ∙ ap (λ (X : Set). not (j == i) && X j) same ∙ taken_free (nat_lt j (size P.bank)) (j == i) (p.taken j) (p.out j))

  pub free_out : (F F' : Set) → F ≡ is_free P p → ((j : ℕ) → F' j ≡ (not (j == i) && F j)) → F' ≡ is_free P (with_item p i false)
  free_out F F' same less = fun_ext (λ j. less j ∙ ap (λ (X : Set). not (j == i) && X j) same ∙ out_free (nat_lt j (size P.bank)) (j == i) (p.taken j) (p.out j))

  less_taken : is_free P (with_item p i true) ≡ (λ j. not (j == i) && is_free P p j)
  less_taken = fun_ext (λ j. sym (taken_free (nat_lt j (size P.bank)) (j == i) (p.taken j) (p.out j)))

  less_out : is_free P (with_item p i false) ≡ (λ j. not (j == i) && is_free P p j)
  less_out = fun_ext (λ j. sym (out_free (nat_lt j (size P.bank)) (j == i) (p.taken j) (p.out j)))

  module _ (within : i < size P.bank) where
    pub chosen_taken : (C C' : Set) → C ≡ is_chosen P p → ((s : ℕ) → C' s ≡ ((nat_lt 0 s && stimulus P.bank i == s) || C s)) → C' ≡ is_chosen P (with_item p i true)
    chosen_taken C C' same more =
        fun_ext (λ s.
        more s
        ∙ ap (λ (X : Set). (nat_lt 0 s && stimulus P.bank i == s) || X s) same
        ∙ chosen_moved true (p.branched_on s) (used P.bank p.taken s) (nat_lt 0 s && stimulus P.bank i == s)
        ∙ ap (λ (b : Bool). p.branched_on s || b) (sym (used_with P.bank p.taken i s within)))

    open_at : (s : ℕ) → (not (s == stimulus P.bank i) && is_open P p s) ≡ is_open P (with_item p i true) s
    open_at s =
        let was = used P.bank p.taken s in
        let now : is_chosen P (with_item p i true) s ≡ (p.branched_on s || ((nat_lt 0 s && stimulus P.bank i == s) || was)) = ap (λ (b : Bool). p.branched_on s || b) (used_with P.bank p.taken i s within) in
        let free : used P.bank (is_free P (with_item p i true)) s ≡ used P.bank (λ j. not (j == i) && is_free P p j) s = ap (λ (X : Set). used P.bank X s) less_taken in
        elim (either (s == stimulus P.bank i)) [
          | inl at ↦
              elim (either (nat_lt 0 s)) [
                | inl some ↦
                    let same = eq-eqb (stimulus P.bank i) s (sym (eqb-true s (stimulus P.bank i) at)) in
                    let chosen : is_chosen P (with_item p i true) s ≡ true = now ∙ rw (some, same) (or_with (p.branched_on s)) in
                    rw at (sym (ap (λ (b : Bool). not b && used P.bank (is_free P (with_item p i true)) s) chosen))
                | inr none ↦ rw at (sym (ap (λ (b : Bool). not (is_chosen P (with_item p i true) s) && b) (rw none refl) ∙ nothing _))
              ]
          | inr other ↦
              let apart : stimulus P.bank i ≡ s → ⊥ = λ e. eqb-false s (stimulus P.bank i) other (sym e) in
              let differs : (stimulus P.bank i == s) ≡ false = ne_eqb (stimulus P.bank i) s apart in
              let chosen : is_chosen P (with_item p i true) s ≡ is_chosen P p s = now ∙ rw differs (ap (λ (b : Bool). p.branched_on s || (b || was)) (nothing (nat_lt 0 s))) in
              let used_same : used P.bank (is_free P (with_item p i true)) s ≡ used P.bank (is_free P p) s = free ∙ used_without P.bank (is_free P p) i s apart in
              rw other (sym (ap (λ (b : Bool). not b && used P.bank (is_free P (with_item p i true)) s) chosen ∙ ap (λ (b : Bool). not (is_chosen P p s) && b) used_same))
        ]
      where
        or_with : (a : Bool) → (a || true) ≡ true
        or_with true = refl
        or_with false = refl

    pub open_taken : (D D' : Set) → D ≡ is_open P p → ((s : ℕ) → D' s ≡ (not (s == stimulus P.bank i) && D s)) → D' ≡ is_open P (with_item p i true)
    open_taken D D' same less = fun_ext (λ s. less s ∙ ap (λ (X : Set). not (s == stimulus P.bank i) && X s) same ∙ open_at s)

  still : (F' : Set) (s : ℕ) (another : Bool) → s ≡ stimulus P.bank i → F' ≡ (λ j. not (j == i) && is_free P p j) → F' ≡ is_free P (with_item p i false)
      → another ≡ any_below (size P.bank) (λ j. F' j && stimulus P.bank j == stimulus P.bank i)
      → another ≡ true
      → used P.bank (is_free P p) s ≡ used P.bank (is_free P (with_item p i false)) s
  still F' s another here shape now found some =
      same_truth _ _
      (λ h.
      let first : nat_lt 0 s ≡ true = (and_parts (nat_lt 0 s) _ h).0 in
      ap (λ (X : Set). used P.bank X s) (sym now) ∙ and_from _ _ first (ap (λ (t : ℕ). any_below (size P.bank) (λ j. F' j && stimulus P.bank j == t)) here ∙ sym found ∙ some))
      (λ h.
      let has = used_by P.bank (λ j. not (j == i) && is_free P p j) s (ap (λ (X : Set). used P.bank X s) (sym less_out) ∙ h) in
      used_from P.bank (is_free P p) s (record { some = has.some; item = has.item; within = has.within; member = (and_parts (not (has.item == i)) _ has.member).1; of = has.of }))

  -- where the item is out, its stimulus is open as before if another of its items is free
  pub open_out : (F F' D D' : Set) → F ≡ is_free P p → ((j : ℕ) → F' j ≡ (not (j == i) && F j)) → D ≡ is_open P p
      → (another : Bool) → another ≡ any_below (size P.bank) (λ j. F' j && stimulus P.bank j == stimulus P.bank i)
      → (another ≡ true → D' ≡ D)
      → (another ≡ false → (s : ℕ) → D' s ≡ (not (s == stimulus P.bank i) && D s))
      → D' ≡ is_open P (with_item p i false)
  open_out F F' D D' same less is_d another found as_before one_less =
      let now : F' ≡ is_free P (with_item p i false) = free_out F F' same less in
      let shape : F' ≡ (λ j. not (j == i) && is_free P p j) = now ∙ less_out in
      let other_stimulus : (s : ℕ) → (stimulus P.bank i ≡ s → ⊥) → is_open P p s ≡ is_open P (with_item p i false) s =
      λ s apart. ap (λ (b : Bool). not (is_chosen P p s) && b) (sym (used_without P.bank (is_free P p) i s apart) ∙ ap (λ (X : Set). used P.bank X s) (sym less_out)) in
      fun_ext (λ s.
      elim (either (s == stimulus P.bank i)) [
        | inl at ↦
            let here : s ≡ stimulus P.bank i = eqb-true s (stimulus P.bank i) at in
            elim (either another) [
              | inl some ↦ ap (λ (X : Set). X s) (as_before some ∙ is_d) ∙ ap (λ (b : Bool). not (is_chosen P p s) && b) (still F' s another here shape now found some)
              | inr none ↦
                  let gone : used P.bank (is_free P (with_item p i false)) s ≡ false = ap (λ (X : Set). used P.bank X s) (sym now) ∙ (rw here (ap (λ (b : Bool). nat_lt 0 (stimulus P.bank i) && b) (sym found ∙ none) ∙ nothing _)) in
                  one_less none s ∙ rw at (sym (ap (λ (b : Bool). not (is_chosen P p s) && b) gone ∙ nothing _))
            ]
        | inr other ↦
            let apart : stimulus P.bank i ≡ s → ⊥ = λ e. eqb-false s (stimulus P.bank i) other (sym e) in
            elim (either another) [
              | inl some ↦ ap (λ (X : Set). X s) (as_before some ∙ is_d) ∙ other_stimulus s apart
              | inr none ↦ one_less none s ∙ rw other (ap (λ (X : Set). X s) is_d ∙ other_stimulus s apart)
            ]
      ])

module _ (P : Problem) (p : Path) (s : ℕ) where
  pub chosen_branch : (C C' : Set) → C ≡ is_chosen P p → ((t : ℕ) → C' t ≡ ((t == s) || C t)) → C' ≡ is_chosen P (with_stimulus P p s true)
  chosen_branch C C' same more = fun_ext (λ t. more t ∙ ap (λ (X : Set). (t == s) || X t) same ∙ or_assoc (t == s) (p.branched_on t) (used P.bank p.taken t))

  pub open_branch : (D D' : Set) → D ≡ is_open P p → ((t : ℕ) → D' t ≡ (not (t == s) && D t)) → D' ≡ is_open P (with_stimulus P p s true)
  open_branch D D' same less =
      fun_ext (λ t.
      less t
      ∙ ap (λ (X : Set). not (t == s) && X t) same
      ∙ open_less (t == s) (is_chosen P p t) (used P.bank (is_free P p) t)
      ∙ ap (λ (b : Bool). not b && used P.bank (is_free P p) t) (or_assoc (t == s) (p.branched_on t) (used P.bank p.taken t)))

  pub free_dropped : (F L F' : Set) → F ≡ is_free P p → ((j : ℕ) → L j ≡ (nat_lt j (size P.bank) && (F j && stimulus P.bank j == s))) → ((j : ℕ) → F' j ≡ (F j && not (L j))) → F' ≡ is_free P (with_stimulus P p s false)
  free_dropped F L F' same those less =
      fun_ext (λ j.
      less j
      ∙ ap (λ (b : Bool). F j && not b) (those j)
      ∙ ap (λ (X : Set). X j && not (nat_lt j (size P.bank) && (X j && stimulus P.bank j == s))) same
      ∙ dropped_free (nat_lt j (size P.bank)) (p.taken j) (p.out j) (stimulus P.bank j == s))

  pub out_dropped : (F L O O' : Set) → F ≡ is_free P p → O ≡ p.out → ((j : ℕ) → L j ≡ (nat_lt j (size P.bank) && (F j && stimulus P.bank j == s))) → ((j : ℕ) → O' j ≡ (O j || L j)) → O' ≡ (with_stimulus P p s false).out
  out_dropped F L O O' same out those more =
      fun_ext (λ j.
      more j
      ∙ ap (λ (b : Bool). O j || b) (those j)
      ∙ ap (λ (X : Set). X j || (nat_lt j (size P.bank) && (F j && stimulus P.bank j == s))) out
      ∙ ap (λ (X : Set). p.out j || (nat_lt j (size P.bank) && (X j && stimulus P.bank j == s))) same
      ∙ dropped_out (nat_lt j (size P.bank)) (p.taken j) (p.out j) (stimulus P.bank j == s))

  pub open_dropped : (D D' : Set) → D ≡ is_open P p → ((t : ℕ) → D' t ≡ (not (t == s) && D t)) → D' ≡ is_open P (with_stimulus P p s false)
  open_dropped D D' same less =
      let F : Set = is_free P p in
      let shape : (λ j. F j && not (nat_lt j (size P.bank) && (F j && stimulus P.bank j == s))) ≡ is_free P (with_stimulus P p s false) =
      fun_ext (λ j. dropped_free (nat_lt j (size P.bank)) (p.taken j) (p.out j) (stimulus P.bank j == s)) in
      fun_ext (λ t.
      less t
      ∙ ap (λ (X : Set). not (t == s) && X t) same
      ∙ open_moved (t == s) (is_chosen P p t) (used P.bank F t)
      ∙ ap (λ (b : Bool). not (is_chosen P p t) && b) (sym (used_dropped P.bank F s t) ∙ ap (λ (X : Set). used P.bank X t) shape))
