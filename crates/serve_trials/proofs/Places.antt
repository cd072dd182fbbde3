-- The places of a pass that appends its number.
use Rattle.std.proofs.Common.{◌≡◌, ◌⊎◌, ℕ, zero, suc, ◌+◌, ◌-◌, Bool, true, false, List, [], ◌∷◌, ◌++◌, length, refl, sym, ap, ◌∙◌, subst, ⊎_elim, arith, Some, All, slice_get, length-append}
use Rattle.std.proofs.lemmas.Bool.{true≢false}
use Rattle.std.proofs.lemmas.List.{append-nil, get_or_append_left}
use Rattle.std.proofs.lemmas.List.Elements.{All-append}
use Rattle.std.proofs.lemmas.Option.{slice_get_within, slice_get-get_or, get_or_from_slice_get}
use Rattle.std.proofs.Math.Seq.{get_or-append_seam}
use Rattle.std.specs.Bool.{IsTrue}
use Rattle.turn_lock.specs.Histories.{StartsWith, places}
use Rattle.turn_lock.specs.Passes.{LockId, Known, TakesTurn, TakesIn}
use Rattle.serve_trials.specs.Own.{Appends, AppendsOwn, HasAt, HasBoth, HasRun, IsReady}

get_longer : (xs more : List ℕ) (k n : ℕ) → slice_get xs k ≡ Some n → slice_get (xs ++ more) k ≡ Some n
get_longer xs more k n e =
    let lt = slice_get_within xs k n e in
    slice_get-get_or (xs ++ more) k n (omega (arith, length-append xs more))
    ∙ ap Some (get_or_append_left xs more n k lt ∙ get_or_from_slice_get xs k n n e)

get_last : (xs : List ℕ) (n : ℕ) → slice_get (xs ++ n ∷ []) (length xs) ≡ Some n
get_last xs n =
    slice_get-get_or (xs ++ n ∷ []) (length xs) n (omega (arith, length-append xs (n ∷ []))) ∙ ap Some (get_or-append_seam xs n [] n)

all_one : (P : ℕ → Type 0) (x : ℕ) → P x → All P (x ∷ [])
all_one P x p zero d lt = p
all_one P x p (suc k) d lt = absurd (omega arith)

pub has_longer : (n : ℕ) (xs ys ks : List ℕ) → StartsWith ys xs → HasAt n xs ks → HasAt n ys ks
has_longer n xs ys ks begins h k d lt =
    subst (λ l. slice_get l (lib.ListN.get_or ks k d) ≡ Some n) (sym begins.1)
    (get_longer xs begins.0 (lib.ListN.get_or ks k d) n (h k d lt))

-- one turn that may append the pass's number
module _ (turn : LockId) (old new : Known ℕ) (before : List ℕ) (ready : IsReady turn old) (t : TakesTurn old new before) where
  numbered : HasAt old.number new.seen new.mine → IsReady turn new
  numbered h = record { of = t.turn ∙ ready.of; own = subst (λ n. HasAt n new.seen new.mine) (sym t.number) h }

  had : HasAt old.number before old.mine
  had = has_longer old.number old.seen before old.mine t.begins ready.own

  mine_is : (n : ℕ) → length new.seen - length before ≡ n → new.mine ≡ old.mine ++ places (length before) n
  mine_is n e = t.mine ∙ ap (λ m. old.mine ++ places (length before) m) e

  pub turn_taken : (answer : Bool) → Appends old.number before new.seen answer → AppendsOwn turn 1 old new answer
  turn_taken true a =
      let one = mine_is 1 (omega (arith, ap length a, length-append before (old.number ∷ []))) in
      let last : slice_get new.seen (length before) ≡ Some old.number =
      subst (λ l. slice_get l (length before) ≡ Some old.number) (sym a) (get_last before old.number) in
      let olds : HasAt old.number new.seen old.mine = has_longer old.number before new.seen old.mine (old.number ∷ [], a) had in
      record {
        ready = numbered (subst (λ ks. HasAt old.number new.seen ks) (sym one)
            (All-append (λ k. slice_get new.seen k ≡ Some old.number) old.mine (length before ∷ []) olds
            (all_one (λ k. slice_get new.seen k ≡ Some old.number) (length before) last)));
        number = t.number;
        longer = λ _. ap length one ∙ length-append old.mine (length before ∷ []);
      }
  turn_taken false a =
      let none : new.mine ≡ old.mine = mine_is 0 (omega (arith, ap length a)) ∙ append-nil old.mine in
      let olds : HasAt old.number new.seen old.mine = subst (λ l. HasAt old.number l old.mine) (sym a) had in
      record {
        ready = numbered (subst (λ ks. HasAt old.number new.seen ks) (sym none) olds);
        number = t.number;
        longer = λ h. absurd (true≢false (sym h));
      }

-- no turn
pub none_taken : (turn : LockId) (old : Known ℕ) (all : Bool) → IsReady turn old → AppendsOwn turn 0 old old all
none_taken turn old all ready = record { ready = ready; number = refl; longer = λ _. omega arith }

-- some turns, and then one more
pub one_more_taken : (turn : LockId) (n : ℕ) (old mid new : Known ℕ) (all answer both : Bool)
    → AppendsOwn turn n old mid all → AppendsOwn turn 1 mid new answer → (IsTrue both → IsTrue answer × IsTrue all)
    → AppendsOwn turn (n + 1) old new both
one_more_taken turn n old mid new all answer both p q h = record {
  ready = q.ready;
  number = q.number ∙ p.number;
  longer = λ b. (let x = q.longer (h b).0 in let y = p.longer (h b).1 in omega arith);
}

-- two passes that ran, and were joined before the list came out
pub both : (turn : LockId) (count : ℕ) (a b c : Known ℕ) (items : List ℕ) (x y : Bool) → HasRun turn 0 count a x
    → HasRun turn 1 count b y → TakesIn a b c → StartsWith items c.seen → IsTrue x → IsTrue y → HasBoth count items
both turn count a b c items x y p q j begins hx hy =
    let longer : (s : List ℕ) → StartsWith c.seen s → StartsWith items s = λ s h.
    (h.0 ++ begins.0, begins.1 ∙ ap (λ l. l ++ begins.0) h.1 ∙ Rattle.std.proofs.Common.append_assoc s h.0 begins.0) in
    let same : (s : List ℕ) → c.seen ≡ s → StartsWith c.seen s = λ s e. ([], e ∙ sym (append-nil s)) in
    let firsts : StartsWith c.seen a.seen = ⊎_elim (λ h. same a.seen h.1) (λ h. subst (λ l. StartsWith l a.seen) (sym h.1) h.0) j.seen in
    let seconds : StartsWith c.seen b.seen = ⊎_elim (λ h. subst (λ l. StartsWith l b.seen) (sym h.1) h.0) (λ h. same b.seen h.1) j.seen in
    record {
      first = a.mine;
      second = b.mine;
      apart = j.apart;
      counts = (p.count_is hx, q.count_is hy);
      firsts = has_longer 0 a.seen items a.mine (longer a.seen firsts) p.own;
      seconds = has_longer 1 b.seen items b.mine (longer b.seen seconds) q.own;
    }
