-- Passes that are joined, one after another.
use Rattle.std.proofs.Common.{◌≡◌, ℕ, List, [], ◌∷◌, ◌++◌, length-append, map, refl, sym, ap, ◌∙◌, subst, ⊎_elim, append_assoc, arith, Contains, Bool, true, false, ◌||◌}
use Rattle.std.specs.List.{AllPairs, list_any}
use mathlib.Core.List.{reverse}
use Rattle.std.proofs.lemmas.List.{append-nil, map-append}
use Rattle.std.proofs.lemmas.List.Folds.{list_any-append}
use Rattle.std.proofs.lemmas.List.Elements.{All-push, All-weaker, All-get_or, All-map, Contains-append_left, Contains-append_right, Contains-append_cases, Contains-push}
use Rattle.std.proofs.lemmas.List.Quantifiers.{all_pairs_push}
use Rattle.turn_lock.specs.Histories.{StartsWith, AreDisjoint}
use Rattle.turn_lock.proofs.Lists.{contains_nothing}
use Rattle.turn_lock.specs.Passes.{Known, TakesIn}
use Rattle.exam_workers.specs.declared.Station.{Station}
use Rattle.exam_office.specs.Noting.{NotedMark}
use Rattle.exam_serve.specs.Connections.{AttendantKnown}
use Rattle.exam_serve.specs.Doors.{IsOwnPlace, door_of, seen_of, own_of, has_failed, has_starved}
use Rattle.exam_serve.specs.Joining.{AreJoined, AreCleared, IsSamePass}
use Rattle.exam_serve.proofs.Orders.{moved}

pub starts_through : {E : Type 0} (a b c : List E) → StartsWith a b → StartsWith b c → StartsWith a c
starts_through a b c p q = (q.0 ++ p.0, p.1 ∙ ap (λ l. l ++ p.0) q.1 ∙ append_assoc c q.0 p.0)

pub starts_itself : {E : Type 0} (a : List E) → StartsWith a a
starts_itself a = ([], sym (append-nil a))

module _ (old other new : Known NotedMark) (t : TakesIn old other new) where
  -- the joined pass has seen what both had seen
  pub sees_old : StartsWith new.seen old.seen
  sees_old = ⊎_elim
      (λ h. subst (λ l. StartsWith l old.seen) (sym h.1) (starts_itself old.seen))
      (λ h. subst (λ l. StartsWith l old.seen) (sym h.1) h.0) t.seen

  pub sees_other : StartsWith new.seen other.seen
  sees_other = ⊎_elim
      (λ h. subst (λ l. StartsWith l other.seen) (sym h.1) h.0)
      (λ h. subst (λ l. StartsWith l other.seen) (sym h.1) (starts_itself other.seen)) t.seen

pub same_itself : (p : Known NotedMark) → IsSamePass p p
same_itself p = record { number = refl; splits = refl; start = refl }

pub same_joined : (first old other new : Known NotedMark) → TakesIn old other new → IsSamePass first old → IsSamePass first new
same_joined first old other new t s = record { number = t.number ∙ s.number; splits = t.splits ∙ s.splits; start = t.start ∙ s.start }

module _ {D K : Type 0} where
  pub joined_none : (p : Known NotedMark) → p.mine ≡ [] → AreJoined {D = D} {K = K} p []
  joined_none p new = record {
    seen = λ k d lt. absurd (omega arith);
    own = λ k d lt. absurd (omega arith);
    apart = λ i j d lt below. absurd (omega arith);
    none_else = λ k c. absurd (contains_nothing k (subst (λ l. Contains l k) new c));
    count = omega arith;
  }

  own_later : (done : List (Station D AttendantKnown K)) (s : Station D AttendantKnown K) (k : ℕ) → IsOwnPlace done k → IsOwnPlace (done ++ s ∷ []) k
  own_later done s k o = (o.0, Contains-append_left done (s ∷ []) o.0 o.1, o.2)

  pub joined_more : (old new : Known NotedMark) (done : List (Station D AttendantKnown K)) (s : Station D AttendantKnown K)
      → TakesIn old s.token.caller.pass new → AreJoined old done → AreJoined new (done ++ s ∷ [])
  joined_more old new done s t j =
      let other = s.token.caller.pass in record {
        seen = All-push (λ (x : Station D AttendantKnown K). StartsWith new.seen (seen_of x)) done s
            (All-weaker (λ (x : Station D AttendantKnown K). StartsWith old.seen (seen_of x)) (λ (x : Station D AttendantKnown K). StartsWith new.seen (seen_of x))
            (λ x h. starts_through new.seen old.seen (seen_of x) (sees_old old other new t) h) done j.seen)
            (sees_other old other new t);
        own = All-push (λ (x : Station D AttendantKnown K). (k : ℕ) → Contains (own_of x) k → Contains new.mine k) done s
            (All-weaker (λ (x : Station D AttendantKnown K). (k : ℕ) → Contains (own_of x) k → Contains old.mine k)
            (λ (x : Station D AttendantKnown K). (k : ℕ) → Contains (own_of x) k → Contains new.mine k)
            (λ x h k c. subst (λ l. Contains l k) (sym t.mine) (Contains-append_left old.mine other.mine k (h k c))) done j.own)
            (λ k c. subst (λ l. Contains l k) (sym t.mine) (Contains-append_right old.mine other.mine k c));
        apart = subst (λ l. AllPairs AreDisjoint l) (sym (map-append own_of done (s ∷ [])))
            (all_pairs_push AreDisjoint (map own_of done) (own_of s) j.apart
            (λ i d lt k a b. t.apart k (All-get_or (λ m. (k : ℕ) → Contains m k → Contains old.mine k) (map own_of done) i d lt
            (All-map (λ m. (k : ℕ) → Contains m k → Contains old.mine k) own_of done j.own) k a) b));
        none_else = λ k c. ⊎_elim
            (λ mine. own_later done s k (j.none_else k mine))
            (λ its. (s, Contains-push done s, its))
            (Contains-append_cases old.mine other.mine k (subst (λ l. Contains l k) t.mine c));
        count = omega (arith, j.count, t.joined, length-append done (s ∷ []));
      }

or_false : (b : Bool) → (b || false) ≡ b
or_false true = refl
or_false false = refl

module _ {D K : Type 0} where
  pub cleared_none : (p : Known NotedMark) (all : List (Station D AttendantKnown K)) → p.mine ≡ [] → AreCleared p all all [] false false
  cleared_none p all new = record { done = []; order = refl; doors_are = refl; joined = joined_none p new; failed_is = refl; starved_is = refl }

  pub cleared_more : (old new : Known NotedMark) (all now left : List (Station D AttendantKnown K)) (s : Station D AttendantKnown K)
      (doors : List D) (failed starved : Bool) → now ≡ left ++ s ∷ [] → TakesIn old s.token.caller.pass new
      → AreCleared old all now doors failed starved
      → AreCleared new all left (doors ++ s.door ∷ []) (failed || s.failed) (starved || s.token.starved)
  cleared_more old new all now left s doors failed starved last t u = record {
    done = u.done ++ s ∷ [];
    order = moved (reverse all) u.done now left s last u.order;
    doors_are = ap (λ l. l ++ s.door ∷ []) u.doors_are ∙ sym (map-append door_of u.done (s ∷ []));
    joined = joined_more old new u.done s t u.joined;
    failed_is = ap (λ b. b || s.failed) u.failed_is ∙ ap (λ b. list_any has_failed u.done || b) (sym (or_false s.failed))
        ∙ sym (list_any-append has_failed u.done (s ∷ []));
    starved_is = ap (λ b. b || s.token.starved) u.starved_is ∙ ap (λ b. list_any has_starved u.done || b) (sym (or_false s.token.starved))
        ∙ sym (list_any-append has_starved u.done (s ∷ []));
  }

  -- when no station is left
  cleared_whole : (p : Known NotedMark) (all : List (Station D AttendantKnown K)) (doors : List D) (failed starved : Bool)
      (u : AreCleared p all [] doors failed starved) → reverse all ≡ u.done
  cleared_whole p all doors failed starved u = u.order ∙ append-nil u.done

  pub all_doors : (p : Known NotedMark) (all left : List (Station D AttendantKnown K)) (doors : List D) (failed starved : Bool) → left ≡ []
      → AreCleared p all left doors failed starved
      → (doors ≡ map door_of (reverse all)) × AreJoined p (reverse all) × (failed ≡ list_any has_failed (reverse all))
      × (starved ≡ list_any has_starved (reverse all))
  all_doors p all left doors failed starved none v =
      let u : AreCleared p all [] doors failed starved = subst (λ l. AreCleared p all l doors failed starved) none v in
      let whole = sym (cleared_whole p all doors failed starved u) in (
        u.doors_are ∙ ap (map door_of) whole,
        subst (λ l. AreJoined p l) whole u.joined,
        u.failed_is ∙ ap (list_any has_failed) whole,
        u.starved_is ∙ ap (list_any has_starved) whole,
      )
