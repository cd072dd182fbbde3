-- No pass and no entry is lost: each step keeps that, and the first pass knows all at the end.
use Rattle.std.proofs.Common.{◌≡◌, ◌≢◌, ◌⊎◌, ℕ, zero, suc, ◌+◌, ◌-◌, ◌<◌, ◌≤◌, Bool, true, false, if◌then◌else◌, List, [], ◌∷◌, ◌++◌, length, set, refl, sym, ap, ◌∙◌, subst, ⊎_elim, arith, Some, None, sum_by, Contains, length-append}
use Rattle.std.proofs.lemmas.Bool.{true≢false, cases_lt, cases_eq}
use Rattle.std.proofs.lemmas.List.Elements.{Contains-append_left, Contains-append_right, All-contains}
use Rattle.std.proofs.lemmas.List.{append-nil}
use Rattle.std.proofs.lemmas.List.Sums.{sum_by-cons, sum_by_push}
use Rattle.std.proofs.Math.ListN.{length-set}
use lib.ListN.{get_elem?}
use mathlib.Core.Option.{some, some-injective, some-ne-none}
use Rattle.atomic_table.proofs.Lists.{set_else, at_longer}
use Rattle.turn_lock.specs.declared.view.View.{View}
use Rattle.turn_lock.specs.Histories.{StartsWith, AreComparable, ArePlacesIn, places}
use Rattle.turn_lock.specs.Rule.{Each, IsSince, IsOwned, AreAllThere, passes_in}
use Rattle.turn_lock.specs.Seats.{first_view, split_view, new_view, joined_view, spent_view}
use Rattle.turn_lock.proofs.Lists.{longer_length, at_end, nothing_more}
use Rattle.turn_lock.proofs.Views.{at_again, total_set, each_set}

none_some : {A : Type 0} {a : A} → None ≡ Some a → ⊥
none_some e = grind arith

pub places_contain : (n k x : ℕ) → k ≤ x → x < k + n → Contains (places k n) x
places_contain zero k x from below = absurd (omega arith)
places_contain (suc n) k x from below = ⊎_elim
    (λ e. (0, omega arith, e))
    (λ apart. let ih = places_contain n (suc k) x (omega arith) (omega arith) in (suc ih.0, (let lt = ih.1 in omega arith), ih.2))
    (cases_eq k x)

-- one of a list adds no more than the list
total_at : {A : Type 0} (f : A → ℕ) (l : List A) (i : ℕ) (a : A) → get_elem? l i ≡ some a → f a ≤ sum_by f l
total_at f [] i a e = absurd (some-ne-none a (sym e))
total_at f (x ∷ xs) zero a e = let same : f x ≡ f a = ap f (some-injective x a e) in omega (arith, sum_by-cons f x xs)
total_at f (x ∷ xs) (suc i) a e = let ih = total_at f xs i a e in omega (arith, sum_by-cons f x xs)

module _ {E : Type 0} where
  abbrev live_of : View E → Bool
  live_of v = v.live

  passes_of_live : (v : View E) → v.live ≡ true → passes_in v ≡ 1 + v.joined
  passes_of_live v alive = ap (λ b. if b then 1 + v.joined else 0) alive

  owned_set : (views : List (View E)) (id : ℕ) (v w : View E) → get_elem? views id ≡ some v → w.live ≡ v.live
      → ((k : ℕ) → Contains v.mine k → Contains w.mine k) → (k : ℕ) → IsOwned views k → IsOwned (set views id w) k
  owned_set views id v w at alive mine k o = ⊎_elim
      (λ same.
      let one : o.1 ≡ v = some-injective o.1 v (sym o.2 ∙ ap (λ i. get_elem? views i) same ∙ at) in (
        id,
        w,
        at_again views id v w at,
        alive ∙ ap live_of (sym one) ∙ o.3,
        mine k (subst (λ (z : View E). Contains z.mine k) one o.4),
      ))
      (λ other. (o.0, o.1, set_else views id o.0 w other ∙ o.2, o.3, o.4))
      (cases_eq o.0 id)

  -- one view is set, whose places become no fewer, and which has for its own what is new in the
  -- history
  pub passes_set : (log after : List E) (views : List (View E)) → AreAllThere log views → (id : ℕ) (v w : View E)
      → get_elem? views id ≡ some v → w.live ≡ v.live → w.joined ≡ v.joined → w.start ≡ v.start → length v.seen ≤ length w.seen
      → ((t : ℕ) → w.ticket ≡ Some t → w.live ≡ true)
      → ((k : ℕ) → Contains v.mine k → Contains w.mine k)
      → ((k : ℕ) → length log ≤ k → k < length after → (w.live ≡ true) × Contains w.mine k)
      → AreAllThere after (set views id w)
  passes_set log after views p id v w at alive joined start longer ticket mine new = record {
    start = p.start;
    each = each_set (IsSince p.start) (IsSince p.start) views id w p.each
        (record {
          began = λ l. (let b = (p.each id v at).began (sym alive ∙ l) in (start ∙ b.0, (let le = b.1 in omega arith)));
          alive = ticket;
        })
        (λ j u ne e f. f);
    many = (let same : passes_in w ≡ passes_in v = ap (λ b. if b then 1 + w.joined else 0) alive
        ∙ ap (λ n. if v.live then 1 + n else 0) joined in
        let t = total_set passes_in views id v w at in
        omega (arith, p.many, length-set views id w));
    owned = λ k from below. ⊎_elim
        (λ old. owned_set views id v w at alive mine k (p.owned k from old))
        (λ late. (let n = new k late below in (id, w, at_again views id v w at, n.0, n.1)))
        (cases_lt k (length log));
  }

  -- one view is set, with the places that it had
  pub passes_same : (log : List E) (views : List (View E)) → AreAllThere log views → (id : ℕ) (v w : View E)
      → get_elem? views id ≡ some v → w.live ≡ v.live → w.joined ≡ v.joined → w.start ≡ v.start → length v.seen ≤ length w.seen
      → ((t : ℕ) → w.ticket ≡ Some t → w.live ≡ true) → w.mine ≡ v.mine → AreAllThere log (set views id w)
  passes_same log views p id v w at alive joined start longer ticket mine =
      passes_set log log views p id v w at alive joined start longer ticket
      (λ k c. subst (λ m. Contains m k) (sym mine) c)
      (λ k late below. absurd (omega arith))

  -- a pass is split from another
  pub passes_split : (log : List E) (views : List (View E)) → AreAllThere log views → (id : ℕ) (v : View E)
      → get_elem? views id ≡ some v → v.live ≡ true → AreAllThere log (set views id (split_view v) ++ new_view v ∷ [])
  passes_split log views p id v at alive =
      let l : View E = split_view v in
      let r : View E = new_view v in
      let left : List (View E) = set views id l in
      let q : AreAllThere log left = passes_same log views p id v l at refl refl refl (omega arith) (p.each id v at).alive refl in
      let began = (q.each id l (at_again views id v l at)).began alive in
      record {
        start = q.start;
        each = λ j u e. ⊎_elim (λ t. q.each j u t)
            (λ t. subst (λ z. IsSince q.start j z) t.1 (record { began = λ _. (began.0, began.1); alive = λ t k. absurd (none_some k) }))
            (at_end left r u j e);
        many = (let one : passes_in r ≡ 1 = refl in omega (arith, q.many, sum_by_push passes_in left r, length-append left (r ∷ [])));
        owned = λ k from below. (let o = q.owned k from below in (o.0, o.1, at_longer left (r ∷ []) o.0 o.1 o.2, o.3, o.4));
      }

  -- a pass is joined into another
  pub passes_join : (log : List E) (views : List (View E)) → AreAllThere log views → (id : ℕ) (v : View E) (other : ℕ) (w : View E)
      → get_elem? views id ≡ some v → get_elem? views other ≡ some w → other ≢ id → v.live ≡ true → w.live ≡ true
      → AreComparable v.seen w.seen → AreAllThere log (set (set views id (joined_view v w)) other spent_view)
  passes_join log views p id v other w at there ne alive alive' near =
      let b : View E = joined_view v w in
      let one : List (View E) = set views id b in
      let two : List (View E) = set one other spent_view in
      let there' : get_elem? one other ≡ some w = set_else views id other b ne ∙ there in
      let here : get_elem? two id ≡ some b = set_else one other id spent_view (λ e. ne (sym e)) ∙ at_again views id v b at in
      let began = (p.each id v at).began alive in
      let longer = (longer_length v.seen w.seen near).0 in
      let first : Each (IsSince p.start) one = each_set (IsSince p.start) (IsSince p.start) views id b p.each
      (record { began = λ _. (began.0, (let le = began.1 in omega arith)); alive = λ t e. alive }) (λ j u n e f. f) in
      record {
        start = p.start;
        each = each_set (IsSince p.start) (IsSince p.start) one other spent_view first
            (record { began = λ e. absurd (true≢false (sym e)); alive = λ t k. absurd (none_some k) }) (λ j u n e f. f);
        many = (let nothing : passes_in {E = E} spent_view ≡ 0 = refl in
            let had = passes_of_live v alive in
            let gave = passes_of_live w alive' in
            let has : passes_in b ≡ 1 + (v.joined + w.joined + 1) = passes_of_live b alive in
            omega (
              arith,
              p.many,
              total_set passes_in views id v b at,
              total_set passes_in one other w spent_view there',
              length-set views id b,
              length-set one other spent_view,
            ));
        owned = λ k from below. (let o = p.owned k from below in
            let own : Contains b.mine k → IsOwned two k = λ c. (id, b, here, alive, c) in
            ⊎_elim
            (λ mine.
            let is : o.1 ≡ v = some-injective o.1 v (sym o.2 ∙ ap (λ i. get_elem? views i) mine ∙ at) in
            own (Contains-append_left v.mine w.mine k (subst (λ (z : View E). Contains z.mine k) is o.4)))
            (λ n. ⊎_elim
            (λ its.
            let is : o.1 ≡ w = some-injective o.1 w (sym o.2 ∙ ap (λ i. get_elem? views i) its ∙ there) in
            own (Contains-append_right v.mine w.mine k (subst (λ (z : View E). Contains z.mine k) is o.4)))
            (λ m. (o.0, o.1, set_else one other o.0 spent_view m ∙ (set_else views id o.0 b n ∙ o.2), o.3, o.4))
            (cases_eq o.0 other))
            (cases_eq o.0 id));
      }

  -- a lock as it is made
  pub passes_open : (log : List E) → AreAllThere log (first_view log ∷ [])
  passes_open log = record {
    start = length log;
    each = λ j u e. subst (λ z. IsSince (length log) j z) (only j u e)
        (record { began = λ _. (refl, omega arith); alive = λ t k. absurd (none_some k) });
    many = refl;
    owned = λ k from below. absurd (omega arith);
  }
    where
      only : (j : ℕ) (u : View E) → get_elem? (first_view log ∷ []) j ≡ some u → first_view log ≡ u
      only zero u e = some-injective (first_view log) u e
      only (suc j) u e = absurd (some-ne-none u (sym e))

  -- the first pass, where as many were joined as were split
  module _ (log : List E) (views : List (View E)) (p : AreAllThere log views) (id : ℕ) (v : View E) (at : get_elem? views id ≡ some v)
      (alive : v.live ≡ true) (many : length views ≤ v.joined + 1) where
    -- each other view is spent
    others_spent : (j : ℕ) (u : View E) → j ≢ id → get_elem? views j ≡ some u → u.live ≡ true → ⊥
    others_spent j u ne e live =
        let kept : get_elem? (set views id spent_view) j ≡ some u = set_else views id j spent_view ne ∙ e in
        let has = passes_of_live v alive in
        let its = passes_of_live u live in
        let nothing : passes_in {E = E} spent_view ≡ 0 = refl in
        omega (arith, p.many, many, total_set passes_in views id v spent_view at, total_at passes_in (set views id spent_view) j u kept)

    pub owns_all : (k : ℕ) → v.start ≤ k → k < length log → Contains v.mine k
    owns_all k from below =
        let began = (p.each id v at).began alive in
        let o = p.owned k (let e = began.0 in omega arith) below in
        ⊎_elim
        (λ same.
        let one : o.1 ≡ v = some-injective o.1 v (sym o.2 ∙ ap (λ i. get_elem? views i) same ∙ at) in
        subst (λ (z : View E). Contains z.mine k) one o.4)
        (λ other. absurd (others_spent o.0 o.1 other o.2 o.3))
        (cases_eq o.0 id)

    pub has_seen_all : StartsWith log v.seen → ArePlacesIn v.mine v.seen → log ≡ v.seen
    has_seen_all begins within =
        let began = (p.each id v at).began alive in
        let long : length log ≡ length v.seen + length begins.0 = ap length begins.1 ∙ length-append v.seen begins.0 in
        let le : length log ≤ length v.seen = ⊎_elim
        (λ lt.
        let last = All-contains (λ k. k < length v.seen) v.mine (length log - 1) within
        (owns_all (length log - 1) (let e = began.0 in omega arith) (omega arith)) in
        omega arith)
        (λ ge. (let b = began.1 in omega arith))
        (cases_lt p.start (length log)) in
        begins.1 ∙ ap (λ r. v.seen ++ r) (nothing_more begins.0 (omega arith)) ∙ append-nil v.seen
