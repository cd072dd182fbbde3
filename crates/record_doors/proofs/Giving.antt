-- Links that a door gives one after another.
use Rattle.std.proofs.Common.{◌≡◌, ℕ, Bool, false, List, [], ◌∷◌, ◌++◌, sym, ap, ◌∙◌, subst, arith, append_assoc}
use Rattle.std.proofs.lemmas.List.{append-nil}
use Rattle.std.specs.Bool.{IsTrue}
use Rattle.exam_edge.specs.Lent.{IsLent}
use Rattle.record_doors.specs.Doors.{Gives, TakesBack}

lent_then : {S : Type 0} (tells : S → Bool) (name count : S → ℕ) (a b c : S) → IsLent tells name count a b → IsLent tells name count b c → IsLent tells name count a c
lent_then tells name count a b c f g = record { grows = (let x = f.grows in let y = g.grows in omega arith); tells = g.tells ∙ f.tells; identity = g.identity ∙ f.identity }

module _ {D K : Type 0} (tells : D → Bool) (coming returned : D → List K) (is_out : D → Bool) (faults identity : D → ℕ) where
  -- the door gave no link
  pub gives_none : (old new : D) → (IsTrue (tells old) → coming new ≡ coming old) → (IsTrue (tells old) → returned new ≡ returned old)
      → IsLent tells identity faults old new → is_out new ≡ false → Gives tells coming returned is_out faults identity old new [] []
  gives_none old new c r frame home = record {
    came = λ h. sym (c h);
    went = λ h. r h ∙ sym (append-nil (returned old));
    lent = frame;
    home = home;
  }

  -- it gave one, which went back: `mid` is the door while the link was out
  pub gives_one : (old mid new : D) (link back : K) → (IsTrue (tells old) → coming old ≡ link ∷ coming mid)
      → (IsTrue (tells old) → returned mid ≡ returned old) → IsLent tells identity faults old mid
      → TakesBack tells coming returned is_out faults identity mid new back
      → Gives tells coming returned is_out faults identity old new (link ∷ []) (back ∷ [])
  gives_one old mid new link back c r frame taken =
      let told : IsTrue (tells old) → IsTrue (tells mid) = λ h. subst (λ x. IsTrue x) (sym frame.tells) h in
      record {
        came = λ h. c h ∙ ap (λ x. link ∷ x) (sym (taken.came (told h)));
        went = λ h. taken.went (told h) ∙ ap (λ x. x ++ back ∷ []) (r h);
        lent = lent_then tells identity faults old mid new frame taken.lent;
        home = taken.home;
      }

  -- some links, and then some more
  pub gives_then : (old mid new : D) (g b h c : List K) → Gives tells coming returned is_out faults identity old mid g b
      → Gives tells coming returned is_out faults identity mid new h c
      → Gives tells coming returned is_out faults identity old new (g ++ h) (b ++ c)
  gives_then old mid new g b h c x y =
      let told : IsTrue (tells old) → IsTrue (tells mid) = λ t. subst (λ z. IsTrue z) (sym x.lent.tells) t in
      record {
        came = λ t. x.came t ∙ ap (λ l. g ++ l) (y.came (told t)) ∙ sym (append_assoc g h (coming new));
        went = λ t. y.went (told t) ∙ ap (λ l. l ++ c) (x.went t) ∙ append_assoc (returned old) b c;
        lent = lent_then tells identity faults old mid new x.lent y.lent;
        home = y.home;
      }
