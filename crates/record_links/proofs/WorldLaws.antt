-- Whatever happens, the follower follows.
use Rattle.std.proofs.Common.{◌≡◌, ⊎_elim, ℕ, zero, suc, ◌<◌, ◌≤◌, List, [], ◌∷◌, ◌++◌, length, slice_get, Some, refl, sym, ap, ◌∙◌, subst, arith, append_assoc, length-append}
use Rattle.std.specs.Prelude.{Contains}
use Rattle.std.proofs.lemmas.List.Elements.{Contains-push_cases}
use Rattle.record_links.specs.World.{Numbered, World, IsStart, Follows, Delivers, appended, ignored, Happens, grows, sends, delivers, stops_with, stops_without, answers, HappensAlong, nothing, and_then, FollowsAlong}

-- an element of a list has the same place in a longer one
get_longer : {A : Type 0} (xs ys : List A) (k : ℕ) (x : A) → slice_get xs k ≡ Some x → slice_get (xs ++ ys) k ≡ Some x
get_longer [] ys k x e = absurd (cc)
get_longer (y ∷ xs) ys zero x e = e
get_longer (y ∷ xs) ys (suc k) x e = get_longer xs ys k x e

-- below its length a list reads as each longer one
get_below : {A : Type 0} (xs ys : List A) (k : ℕ) → k < length xs → slice_get xs k ≡ slice_get (xs ++ ys) k
get_below [] ys k h = absurd (omega arith)
get_below (x ∷ xs) ys zero h = refl
get_below (x ∷ xs) ys (suc k) h = get_below xs ys k (omega arith)

-- the element at the length of the front is the first one after it
get_next : {A : Type 0} (xs ys : List A) (x : A) → slice_get (xs ++ ys) (length xs) ≡ Some x → (zs : List A) × (ys ≡ x ∷ zs)
get_next [] [] x e = absurd (cc)
get_next [] (y ∷ ys) x e = (ys, first y ys x e)
  where
    first : {A : Type 0} (y : A) (ys : List A) (x : A) → Some y ≡ Some x → y ∷ ys ≡ x ∷ ys
    first y ys x e = cc
get_next (y ∷ xs) ys x e = get_next xs ys x e

-- what is kept from event to event
record Keeps {R : Type 0} (w : World R) : Type 0 where
  rest : List R
  begins : w.leader ≡ w.follower ++ rest
  offers : (o : Numbered R) → Contains w.sent o → slice_get w.leader o.number ≡ Some o.content
  enough : w.most ≤ length w.follower

no_offer : {R : Type 0} (o : Numbered R) → Contains [] o → ⊥
no_offer o c = let h = c.1 in absurd (omega arith)

begun : {R : Type 0} (start : World R) → IsStart start → Keeps start
begun {R} start s =
    record {
      rest = s.rest;
      begins = s.begins;
      offers = λ o c. absurd (no_offer o (subst (λ (sent : List (Numbered R)). Contains sent o) s.none_sent c));
      enough = let none = s.none_answered in omega arith;
    }

module _ {R : Type 0} (may : List R → R → Type 0) where
  -- a delivery leaves a beginning of the leader's records, and no fewer
  delivered : (L F rest : List R) (o : Numbered R) (G : List R) → L ≡ F ++ rest → slice_get L o.number ≡ Some o.content → Delivers may F o G
      → ((more : List R) × (L ≡ G ++ more)) × (length F ≤ length G)
  delivered L F rest o G begins offered (appended next m) =
      let there : slice_get (F ++ rest) (length F) ≡ Some o.content = subst (λ (k : ℕ). slice_get (F ++ rest) k ≡ Some o.content) next (subst (λ (K : List R). slice_get K o.number ≡ Some o.content) begins offered) in
      let found = get_next F rest o.content there in
      let more : List R = found.0 in
      let whole : L ≡ (F ++ o.content ∷ []) ++ more = begins ∙ (ap (λ (K : List R). F ++ K) found.1 ∙ sym (append_assoc F (o.content ∷ []) more)) in
      let longer = length-append F (o.content ∷ []) in
      ((more, whole), omega arith)
  delivered L F rest o G begins offered (ignored otherwise) = ((rest, begins), omega arith)

  kept : (w v : World R) → Keeps w → Happens may w v → Keeps v
  kept w v k (grows u r m) =
      record {
        rest = k.rest ++ r ∷ [];
        begins = ap (λ (K : List R). K ++ r ∷ []) k.begins ∙ append_assoc w.follower k.rest (r ∷ []);
        offers = λ o c. get_longer w.leader (r ∷ []) o.number o.content (k.offers o c);
        enough = k.enough;
      }
  kept w v k (sends u o e) =
      record { rest = k.rest; begins = k.begins; offers = sent_more w.leader w.sent o k.offers e; enough = k.enough }
    where
      sent_more : (L : List R) (sent : List (Numbered R)) (o : Numbered R) → ((q : Numbered R) → Contains sent q → slice_get L q.number ≡ Some q.content)
          → slice_get L o.number ≡ Some o.content → (q : Numbered R) → Contains (sent ++ o ∷ []) q → slice_get L q.number ≡ Some q.content
      sent_more L sent o all e q c = ⊎_elim (λ h. all q h) (λ (s : o ≡ q). subst (λ (x : Numbered R). slice_get L x.number ≡ Some x.content) s e) (Contains-push_cases sent o q c)
  kept w v k (delivers u o G c d) =
      let made = delivered w.leader w.follower k.rest o G k.begins (k.offers o c) d in
      let few = made.1 in
      let before = k.enough in
      record { rest = made.0.0; begins = made.0.1; offers = k.offers; enough = omega arith }
  kept w v k (stops_with u o G c d) =
      let made = delivered w.leader w.follower k.rest o G k.begins (k.offers o c) d in
      let few = made.1 in
      let before = k.enough in
      record { rest = made.0.0; begins = made.0.1; offers = k.offers; enough = omega arith }
  kept w v k (stops_without u) = k
  kept w v k (answers u) = let before = k.enough in record { rest = k.rest; begins = k.begins; offers = k.offers; enough = omega arith }

  kept_along : (start w : World R) → Keeps start → HappensAlong may start w → Keeps w
  kept_along start w k nothing = k
  kept_along start w k (and_then u v along last) = kept u v (kept_along start u k along) last

  pub follows_along : (start w : World R) → IsStart start → HappensAlong may start w → Follows w
  follows_along start w s along =
      let k = kept_along start w (begun start s) along in
      let all = k.enough in
      record {
        rest = k.rest;
        begins = k.begins;
        enough = k.enough;
        same = λ n below. get_below w.follower k.rest n (omega arith) ∙ ap (λ (K : List R). slice_get K n) (sym k.begins);
      }

pub follows : (may : List (List ℕ) → List ℕ → Type 0) → FollowsAlong may
follows may start w s along = follows_along may start w s along
