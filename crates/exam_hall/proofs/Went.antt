-- Turns of a pass, one after another.
use Rattle.std.proofs.Common.{◌≡◌, ℕ, zero, suc, ◌+◌, ◌-◌, ◌<◌, ◌≤◌, List, [], ◌∷◌, ◌++◌, length, refl, sym, ap, ◌∙◌, subst, arith, append_assoc, Some, All, slice_get, length-append}
use Rattle.std.proofs.lemmas.List.{append-nil}
use Rattle.std.proofs.lemmas.List.Elements.{filter_map-append, All-append}
use Rattle.turn_lock.specs.Histories.{StartsWith, places}
use Rattle.turn_lock.specs.Passes.{Known, TakesTurn}
use Rattle.turn_lock.proofs.Lists.{starts_length, starts_itself, places_range, all_of, all_more}
use Rattle.exam_hall.specs.Went.{Went, Rising, GrowsTo, taken}

module _ {E : Type 0} where
  pub starts_through : (a b c : List E) → StartsWith b a → StartsWith c b → StartsWith c a
  starts_through a b c p q = (p.0 ++ q.0, q.1 ∙ ap (λ l. l ++ q.0) p.1 ∙ append_assoc a p.0 q.0)

  pub get_before : (xs ys : List E) (k : ℕ) → k < length xs → slice_get (xs ++ ys) k ≡ slice_get xs k
  get_before [] ys k lt = absurd (omega arith)
  get_before (x ∷ xs) ys zero lt = refl
  get_before (x ∷ xs) ys (suc k) lt = get_before xs ys k (omega arith)

  pub get_after : (xs ys : List E) (k : ℕ) → slice_get (xs ++ ys) (length xs + k) ≡ slice_get ys k
  get_after [] ys k = let same : 0 + k ≡ k = omega arith in ap (λ n. slice_get ys n) same
  get_after (x ∷ xs) ys k = let same : suc (length xs) + k ≡ suc (length xs + k) = omega arith in ap (λ n. slice_get (x ∷ (xs ++ ys)) n) same ∙ get_after xs ys k

  -- what is at places stays there
  pub taken_longer : (S rest : List E) (ps : List ℕ) → All (λ p. p < length S) ps → taken (S ++ rest) ps ≡ taken S ps
  taken_longer S rest [] h = refl
  taken_longer S rest (p ∷ ps) h =
      let here = get_before S rest p (h 0 0 (omega arith)) in
      let ih = taken_longer S rest ps (λ k d lt. h (suc k) d (omega arith)) in
      ap (λ o. Rattle.std.specs.List.cons_option o (taken (S ++ rest) ps)) here ∙ ap (λ l. Rattle.std.specs.List.cons_option (slice_get S p) l) ih

  pub taken_start : (S T : List E) (ps : List ℕ) → StartsWith T S → All (λ p. p < length S) ps → taken T ps ≡ taken S ps
  taken_start S T ps h below = ap (λ l. taken l ps) h.1 ∙ taken_longer S h.0 ps below

  -- the places of new entries have them
  pub taken_new : (S more : List E) → taken (S ++ more) (places (length S) (length more)) ≡ more
  taken_new S [] = refl
  taken_new S (x ∷ more) =
      let here : slice_get (S ++ x ∷ more) (length S) ≡ Some x = (let at : length S ≡ length S + 0 = omega arith in ap (λ n. slice_get (S ++ x ∷ more) n) at ∙ get_after S (x ∷ more) 0) in
      let same : S ++ x ∷ more ≡ (S ++ x ∷ []) ++ more = sym (append_assoc S (x ∷ []) more) in
      let longer : length (S ++ x ∷ []) ≡ suc (length S) = (let e = length-append S (x ∷ []) in omega arith) in
      let ih = taken_new (S ++ x ∷ []) more in
      ap (λ o. Rattle.std.specs.List.cons_option o (taken (S ++ x ∷ more) (places (suc (length S)) (length more)))) here
      ∙ ap (λ l. x ∷ l) (ap (λ l. taken l (places (suc (length S)) (length more))) same ∙ ap (λ n. taken ((S ++ x ∷ []) ++ more) (places n (length more))) (sym longer) ∙ ih)

rising_places : (k n : ℕ) → Rising k (places k n)
rising_places k zero = tt
rising_places k (suc n) = (omega arith, rising_places (suc k) n)

rising_from : (k n : ℕ) (ps : List ℕ) → k ≤ n → Rising n ps → Rising k ps
rising_from k n [] le h = tt
rising_from k n (p ∷ ps) le h = (let a = h.0 in omega arith, h.1)

rising_append : (k m : ℕ) (ps qs : List ℕ) → k ≤ m → Rising k ps → All (λ p. p < m) ps → Rising m qs → Rising k (ps ++ qs)
rising_append k m [] qs le h below r = rising_from k m qs le r
rising_append k m (p ∷ ps) qs le h below r =
    let lt = below 0 0 (omega arith) in
    (h.0, rising_append (suc p) m ps qs (omega arith) h.1 (λ j d l. below (suc j) d (omega arith)) r)

grows_through : (k m n : ℕ) (fs gs : List ℕ) → GrowsTo k fs m → GrowsTo m gs n → GrowsTo k (fs ++ gs) n
grows_through k m n [] gs f g = subst (λ x. GrowsTo x gs n) f g
grows_through k m n (l ∷ fs) gs f g = (f.0, grows_through l m n fs gs f.1 g)

module _ {E : Type 0} where
  pub went_through : (a b c : Known E) (f g ps qs : List ℕ) → Went a b f ps → Went b c g qs → Went a c (f ++ g) (ps ++ qs)
  went_through a b c f g ps qs p q = record {
    turn = q.turn ∙ p.turn;
    number = q.number ∙ p.number;
    splits = q.splits ∙ p.splits;
    seen = starts_through a.seen b.seen c.seen p.seen q.seen;
    turns = q.turns ∙ ap (λ l. l ++ g) p.turns ∙ append_assoc a.fronts f g;
    lengths = grows_through (length a.seen) (length b.seen) (length c.seen) f g p.lengths q.lengths;
    own = q.own ∙ ap (λ l. l ++ qs) p.own ∙ append_assoc a.mine ps qs;
    rising = rising_append (length a.seen) (length b.seen) ps qs (starts_length b.seen a.seen p.seen) p.rising p.below q.rising;
    below = All-append (λ k. k < length c.seen) ps qs (all_more (length b.seen) (length c.seen) ps (starts_length c.seen b.seen q.seen) p.below) q.below;
  }

  pub went_nowhere : (a : Known E) → Went a a [] []
  went_nowhere a = record {
    turn = refl;
    number = refl;
    splits = refl;
    seen = starts_itself a.seen;
    turns = sym (append-nil a.fronts);
    lengths = refl;
    own = sym (append-nil a.mine);
    rising = tt;
    below = λ k d lt. absurd (omega arith);
  }

  -- one turn, which added `more`
  pub went_once : (a b : Known E) (before : List E) (t : TakesTurn a b before) → Went a b (length b.seen ∷ []) (places (length before) (length t.grows.0))
  went_once a b before t =
      let much : length b.seen ≡ length before + length t.grows.0 = ap length t.grows.1 ∙ length-append before t.grows.0 in
      let count : length b.seen - length before ≡ length t.grows.0 = omega arith in
      let le = starts_length before a.seen t.begins in
      record {
        turn = t.turn;
        number = t.number;
        splits = t.splits;
        seen = starts_through a.seen before b.seen t.begins (t.grows.0, t.grows.1);
        turns = t.fronts;
        lengths = (omega arith, refl);
        own = t.mine ∙ ap (λ n. a.mine ++ places (length before) n) count;
        rising = rising_from (length a.seen) (length before) _ le (rising_places (length before) (length t.grows.0));
        below = all_of (λ p. p < length b.seen) _ (λ p c. (let r = places_range (length t.grows.0) (length before) p c in let lt = r.1 in omega arith));
      }

  pub taken_once : (a b : Known E) (before : List E) (t : TakesTurn a b before) → taken b.seen (places (length before) (length t.grows.0)) ≡ t.grows.0
  taken_once a b before t = ap (λ l. taken l (places (length before) (length t.grows.0))) t.grows.1 ∙ taken_new before t.grows.0

  pub taken_both : (a b c : Known E) (f g ps qs : List ℕ) → Went a b f ps → Went b c g qs → taken c.seen (ps ++ qs) ≡ taken b.seen ps ++ taken c.seen qs
  taken_both a b c f g ps qs p q = filter_map-append (λ k. slice_get c.seen k) ps qs ∙ ap (λ l. l ++ taken c.seen qs) (taken_start b.seen c.seen ps q.seen p.below)
