-- Links that are served one after another.
use Rattle.std.proofs.Common.{◌≡◌, ℕ, ◌+◌, ◌-◌, ◌^◌, ◌<◌, ◌≤◌, min, Bool, true, false, List, [], ◌∷◌, ◌++◌, length, refl, sym, ap, ◌∙◌, subst, arith, append_assoc, length-append}
use Rattle.std.proofs.lemmas.List.{append-nil}
use Rattle.std.specs.Bool.{IsTrue}
use Rattle.std.specs.Prelude.{Contains}
use Rattle.std.proofs.lemmas.List.Elements.{Contains-append_right}
use Rattle.exam_edge.specs.Faults.{Rose}
use Rattle.exam_workers.specs.declared.Station.{Station}
use Rattle.exam_workers.specs.Stations.{ServesLinks, ServesLink, Serves, Ends, IsFair}

pub links_then : {K T : Type 0} (serves : T → K → T → K → Type 0) (t : T) (g b : List K) (u : T) (h c : List K) (v : T)
    → ServesLinks serves t g b u → ServesLinks serves u h c v → ServesLinks serves t (g ++ h) (b ++ c) v
links_then serves t [] [] u h c v p q = subst (λ x. ServesLinks serves x h c v) (sym p) q
links_then serves t [] (l ∷ b) u h c v p q = absurd p
links_then serves t (k ∷ g) [] u h c v p q = absurd p
links_then serves t (k ∷ g) (l ∷ b) u h c v p q = (p.0, p.1, links_then serves p.0 g b u h c v p.2 q)

counts_then : (n a b m k M : ℕ) → m ≡ min (n + a) M → k ≡ min (m + b) M → k ≡ min (n + (a + b)) M
counts_then n a b m k M p q = omega arith

counts_none : (n M : ℕ) → n ≤ M → n ≡ min (n + 0) M
counts_none n M le = omega arith

rose_later : (a b c : ℕ) → a ≤ b → Rose b c → Rose a c
rose_later a b c le h = omega arith

-- the first link is one of them
pub comes_first : {K : Type 0} (old new : List K) (k : K) → old ≡ k ∷ new → Contains old k
comes_first old new k e = subst (λ l. Contains l k) (sym e) (0, omega arith, refl)

module _ {D K T : Type 0} (tells : D → Bool) (coming returned : D → List K) (is_out : D → Bool) (faults identity : D → ℕ)
    (serves : T → K → T → K → Type 0) where
  -- no link was served
  pub serves_none : (old new : Station D T K) → old.links < 2 ^ 64 → new.token ≡ old.token → new.links ≡ old.links
      → (IsTrue (tells old.door) → coming new.door ≡ coming old.door)
      → (IsTrue (tells old.door) → returned new.door ≡ returned old.door)
      → tells new.door ≡ tells old.door → identity new.door ≡ identity old.door → is_out new.door ≡ false
      → faults old.door ≤ faults new.door → Serves tells coming returned is_out faults identity serves old new
  serves_none old new fits token links c r s i home f = record {
    given = [];
    back = [];
    served = sym token;
    came = λ h. sym (c h);
    went = λ h. r h ∙ sym (append-nil (returned old.door));
    links = links ∙ counts_none old.links (2 ^ 64 - 1) (omega arith);
    same = (s, i);
    home = home;
    grows = f;
  }

  -- one link was served: `mid` is the station while the link was out
  pub serves_one : (old mid new : Station D T K) (k : K)
      → (IsTrue (tells old.door) → coming old.door ≡ k ∷ coming mid.door) → (IsTrue (tells old.door)
      → returned mid.door ≡ returned old.door)
      → tells mid.door ≡ tells old.door → identity mid.door ≡ identity old.door → faults old.door ≤ faults mid.door
      → mid.token ≡ old.token → mid.links ≡ old.links
      → ServesLink tells coming returned is_out faults identity serves mid k new
      → Serves tells coming returned is_out faults identity serves old new
  serves_one old mid new k c r s i f token links one =
      let tells_too : IsTrue (tells old.door) → IsTrue (tells mid.door) = λ h. subst (λ x. IsTrue x) (sym s) h in
      record {
        given = k ∷ [];
        back = one.back ∷ [];
        served = (new.token, subst (λ t. serves t k new.token one.back) token one.served, refl);
        came = λ h. c h ∙ ap (λ x. k ∷ x) (sym (one.came (tells_too h)));
        went = λ h. one.went (tells_too h) ∙ ap (λ x. x ++ one.back ∷ []) (r h);
        links = one.links ∙ ap (λ n. min (n + 1) (2 ^ 64 - 1)) links;
        same = (one.same.0 ∙ s, one.same.1 ∙ i);
        home = one.home;
        grows = omega (arith, one.faults_same, f);
      }

  -- some links were served, and then some more
  pub serves_then : (old mid new : Station D T K) → Serves tells coming returned is_out faults identity serves old mid
      → Serves tells coming returned is_out faults identity serves mid new
      → Serves tells coming returned is_out faults identity serves old new
  serves_then old mid new a b =
      let tells_too : IsTrue (tells old.door) → IsTrue (tells mid.door) = λ h. subst (λ x. IsTrue x) (sym a.same.0) h in
      record {
        given = a.given ++ b.given;
        back = a.back ++ b.back;
        served = links_then serves old.token a.given a.back mid.token b.given b.back new.token a.served b.served;
        came = λ h. a.came h ∙ ap (λ l. a.given ++ l) (b.came (tells_too h)) ∙ sym (append_assoc a.given b.given (coming new.door));
        went = λ h. b.went (tells_too h) ∙ ap (λ l. l ++ b.back) (a.went h) ∙ append_assoc (returned old.door) a.back b.back;
        links = counts_then old.links (length a.given) (length b.given) mid.links new.links (2 ^ 64 - 1) a.links b.links
            ∙ ap (λ x. min (old.links + x) (2 ^ 64 - 1)) (sym (length-append a.given b.given));
        same = (b.same.0 ∙ a.same.0, b.same.1 ∙ a.same.1);
        home = b.home;
        grows = (let x = a.grows in let y = b.grows in omega arith);
      }

  by_end : (old mid new : D) (failed : Bool) → tells mid ≡ tells old → faults old ≤ faults mid
      → Rattle.std.specs.Prelude.MatchBool failed (Rose (faults mid) (faults new)) (IsTrue (tells mid) → coming new ≡ [])
      → Rattle.std.specs.Prelude.MatchBool failed (Rose (faults old) (faults new)) (IsTrue (tells old) → coming new ≡ [])
  by_end old mid new true s f h = rose_later (faults old) (faults mid) (faults new) f h
  by_end old mid new false s f h = λ t. h (subst (λ x. IsTrue x) (sym s) t)

  pub ends_then : (old mid new : Station D T K) → Serves tells coming returned is_out faults identity serves old mid
      → Ends tells coming faults mid new → Ends tells coming faults old new
  ends_then old mid new a h = by_end old.door mid.door new.door new.failed a.same.0 a.grows h

  -- the links that are still to come are fair on the token that is left
  pub fair_then : (fair : T → K → Type 0) (old now : Station D T K) (link : K) → IsFair tells coming serves fair old
      → Serves tells coming returned is_out faults identity serves old now
      → (IsTrue (tells now.door) → Contains (coming now.door) link) → fair now.token link
  fair_then fair old now link h s comes =
      h s.given s.back now.token link s.served
      (λ told. subst (λ l. Contains l link) (sym (s.came told))
      (Contains-append_right s.given (coming now.door) link (comes (s.same.0 ∙ told))))
