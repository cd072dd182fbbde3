-- The entries of marks, each after the history of the marks before it.
use Rattle.std.specs.Prelude.{⊤}
use Rattle.std.proofs.Common.{◌≡◌, ℕ, suc, ◌+◌, ◌-◌, ◌<◌, List, [], ◌∷◌, ◌++◌, length, refl, sym, ap, ◌∙◌, subst, ⊎_elim, arith, append_assoc, take, All, Contains, slice_get, length-append, Option, Some, None, IfSome}
use Rattle.std.proofs.Math.Seq.{take-append_seam}
use Rattle.std.proofs.lemmas.List.{append-nil, take-append-le}
use Rattle.std.proofs.lemmas.List.Elements.{All-append, All-cons, All-nil}
use Rattle.bank_tables.specs.Tables.{Tables}
use Rattle.form_model.specs.Plan.{Plan}
use Rattle.history_model.specs.declared.entry.Entry.{Entry}
use Rattle.history_model.specs.declared.request.Request.{Request}
use Rattle.history_model.specs.declared.request.Request.TheVariants.{Begin, BeginWithout, Answer, Close, Look, Exposure}
use Rattle.turn_lock.specs.Histories.{places}
use Rattle.turn_lock.specs.Passes.{Known}
use Rattle.turn_lock.proofs.Lists.{all_of, contains_cons, contains_nothing}
use Rattle.exam_office.specs.Asking.{IsGood}
use Rattle.exam_office.specs.Calls.{Finding, add}
use Rattle.exam_office.specs.declared.mark.Mark.{Mark}
use Rattle.exam_office.specs.declared.mark.Mark.TheVariants.{Old, Opened, Own, Adopted, Fault}
use Rattle.exam_office.specs.Marks.{history}
use Rattle.exam_hall.specs.Went.{Went, taken}
use Rattle.exam_hall.specs.Good.{IsFirm, IsGoodMark, AreGoodAt}
use Rattle.exam_hall.specs.Parts.{owns, AtMostOne, IsFirst}
use Rattle.exam_hall.specs.Rounds.{AddsOnly, EndsGood}
use Rattle.exam_hall.proofs.Moved.{only_one, owns_has}
use Rattle.exam_hall.proofs.Went.{get_before, get_after}

-- each mark of T, which follows the marks M, passes P after the history of the marks before it
abbrev pub EachMark : (List Entry → Mark → Type 0) → List Mark → List Mark → Type 0
EachMark P M [] = ⊤
EachMark P M (m ∷ T) = P (history M) m × EachMark P (M ++ m ∷ []) T

pub each_append : (P : List Entry → Mark → Type 0) (A M B : List Mark) → EachMark P M A → EachMark P (M ++ A) B → EachMark P M (A ++ B)
each_append P [] M B a b = subst (λ l. EachMark P l B) (append-nil M) b
each_append P (m ∷ A) M B a b = (a.0, each_append P A (M ++ m ∷ []) B a.1 (subst (λ l. EachMark P l B) (sym (append_assoc M (m ∷ []) A)) b))

-- ---- at their places
abbrev pub PassesAt : (List Entry → Mark → Type 0) → List Mark → ℕ → Type 0
PassesAt P S p = IfSome (slice_get S p) (λ m. P (history (take p S)) m)

module _ (P : List Entry → Mark → Type 0) where
  pub each_at : (T M : List Mark) → EachMark P M T → All (λ p. PassesAt P (M ++ T) p) (places (length M) (length T))
  each_at [] M h = All-nil (λ p. PassesAt P (M ++ []) p)
  each_at (m ∷ T) M h =
      let S = M ++ m ∷ T in
      let there : slice_get S (length M) ≡ Some m = (let at : length M ≡ length M + 0 = omega arith in ap (λ n. slice_get S n) at ∙ get_after M (m ∷ T) 0) in
      let same : (M ++ m ∷ []) ++ T ≡ S = append_assoc M (m ∷ []) T in
      let longer : length (M ++ m ∷ []) ≡ suc (length M) = (let e = length-append M (m ∷ []) in omega arith) in
      let first : PassesAt P S (length M) =
      subst (λ o. IfSome o (λ x. P (history (take (length M) S)) x)) (sym there) (subst (λ l. P (history l) m) (sym (take-append_seam M (m ∷ T))) h.0) in
      let rest : All (λ p. PassesAt P S p) (places (suc (length M)) (length T)) =
      subst (λ k. All (λ p. PassesAt P S p) (places k (length T))) longer (subst (λ l. All (λ p. PassesAt P l p) (places (length (M ++ m ∷ [])) (length T))) same (each_at T (M ++ m ∷ []) h.1)) in
      All-cons (λ p. PassesAt P S p) (length M) (places (suc (length M)) (length T)) first rest

  -- what passes at places passes there later
  pub at_longer : (S rest : List Mark) (ps : List ℕ) → All (λ p. p < length S) ps → All (λ p. PassesAt P S p) ps → All (λ p. PassesAt P (S ++ rest) p) ps
  at_longer S rest ps below h k d lt =
      let p = Rattle.std.specs.Prelude.slice_index_or ps k d in
      let inside : p < length S = below k d lt in
      let same : take p (S ++ rest) ≡ take p S = take-append-le p S rest (omega arith) in
      subst (λ o. IfSome o (λ m. P (history (take p (S ++ rest))) m)) (sym (get_before S rest p inside))
      (subst (λ l. IfSome (slice_get S p) (λ m. P (history l) m)) (sym same) (h k d lt))

-- ---- what a call found
abbrev pub IsFoundMark : (List Entry → Finding → Type 0) → List Entry → Mark → Type 0
IsFoundMark finds H (Own e n) = finds H (add e)
IsFoundMark finds H m = ⊤

-- marks without an own entry
pub none_found : (finds : List Entry → Finding → Type 0) (A M : List Mark) → owns A ≡ [] → EachMark (IsFoundMark finds) M A
none_found finds [] M e = tt
none_found finds (Old d ∷ A) M e = (tt, none_found finds A (M ++ Old d ∷ []) e)
none_found finds (Opened n ∷ A) M e = (tt, none_found finds A (M ++ Opened n ∷ []) e)
none_found finds (Own d n ∷ A) M e = absurd (cc)
none_found finds (Adopted d n ∷ A) M e = (tt, none_found finds A (M ++ Adopted d n ∷ []) e)
none_found finds (Fault d ∷ A) M e = (tt, none_found finds A (M ++ Fault d ∷ []) e)

-- marks without an own entry add none
pub none_only : (P : Entry → Type 0) (T : List Mark) → owns T ≡ [] → AddsOnly P T
none_only P T none = λ e c. absurd (contains_nothing e (subst (λ l. Contains l e) none c))

-- marks with one own entry add it alone
pub one_only : (P : Entry → Type 0) (T : List Mark) (e : Entry) → owns T ≡ e ∷ [] → P e → AddsOnly P T
one_only P T e one h = λ d c. ⊎_elim (λ same. subst P same h) (λ none. absurd (contains_nothing d none)) (contains_cons e d [] (subst (λ l. Contains l d) one c))

-- ---- good servings
module _ (b : Tables) (plan : Plan) (base : List ℕ) where
  pub ends_good : (S M T : List Mark) → S ≡ M ++ T → EachMark (IsGoodMark b plan base) M T → EndsGood b plan base S T
  ends_good S M T is h =
      let number : length M ≡ length (M ++ T) - length T = (let e = length-append M T in omega arith) in
      subst (λ l. EndsGood b plan base l T) (sym is) (subst (λ k. AreGoodAt b plan base (M ++ T) (places k (length T))) number (each_at (IsGoodMark b plan base) T M h))

  -- the first entry of a request is no serving
  first_good : (q : Request) (H : List Entry) (e : Entry) → IsFirst q e → IsFirm b plan H e × IsGood b plan base H e
  first_good (Begin booking) H e h = subst (λ x. IsFirm b plan H x × IsGood b plan base H x) (sym h.is) (tt, tt)
  first_good (BeginWithout booking items) H e h = subst (λ x. IsFirm b plan H x × IsGood b plan base H x) (sym h.1.is) (tt, tt)
  first_good (Answer session step response booking) H e h = subst (λ x. IsFirm b plan H x × IsGood b plan base H x) (sym h) (tt, tt)
  first_good (Close session booking) H e h = subst (λ x. IsFirm b plan H x × IsGood b plan base H x) (sym h) (tt, tt)
  first_good (Look session) H e h = absurd h
  first_good Exposure H e h = absurd h

  pub firsts_good : (q : Request) (S : List Mark) (ps : List ℕ) → AtMostOne (IsFirst q) (owns (taken S ps)) → AreGoodAt b plan base S ps
  firsts_good q S ps one = all_of (λ p. PassesAt (IsGoodMark b plan base) S p) ps (λ p c. by p c (slice_get S p) refl)
    where
      by : (p : ℕ) → Contains ps p → (o : Option Mark) → slice_get S p ≡ o → IfSome o (λ m. IsGoodMark b plan base (history (take p S)) m)
      by p c None is = tt
      by p c (Some (Old e)) is = tt
      by p c (Some (Opened n)) is = tt
      by p c (Some (Own e n)) is = first_good q (history (take p S)) e (only_one (IsFirst q) (owns (taken S ps)) e one (owns_has S ps p e n c is))
      by p c (Some (Adopted e n)) is = tt
      by p c (Some (Fault e)) is = tt

  -- of turns one after another
  pub both_good : (old mid new : Known Mark) (f g ps qs : List ℕ) → Went old mid f ps → Went mid new g qs → AreGoodAt b plan base mid.seen ps → AreGoodAt b plan base new.seen qs
      → AreGoodAt b plan base new.seen (ps ++ qs)
  both_good old mid new f g ps qs p q h i =
      let begins = q.seen in
      let early : AreGoodAt b plan base new.seen ps =
      subst (λ S. AreGoodAt b plan base S ps) (sym begins.1) (at_longer (IsGoodMark b plan base) mid.seen begins.0 ps p.below h) in
      All-append (λ k. PassesAt (IsGoodMark b plan base) new.seen k) ps qs early i
