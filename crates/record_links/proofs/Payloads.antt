-- Records in memory: one more, and what an offer does to them.
use Rattle.std.proofs.Common.{◌≡◌, ◌≢◌, ◌⊎◌, ⊎_elim, inl, inr, ℕ, zero, suc, Bool, true, false, if◌then◌else◌, List, [], ◌∷◌, ◌++◌, length, map, slice_get, Some, Vec, Global, refl, sym, ◌∙◌, subst}
use Rattle.record_links.specs.Messages.{IsPayload}
use Rattle.record_links.specs.Replicas.{sure, as_they_are, Takes, IsDue, StopLeaves}
use Rattle.record_links.specs.World.{Numbered, Delivers, appended, ignored}

-- each of these is a payload that an offer can carry
abbrev pub AreFit : List (Vec ℕ Global) → Type 0
AreFit xs = (k : ℕ) (payload : List ℕ) → slice_get (map (λ (v : Vec ℕ Global). v.items) xs) k ≡ Some payload → IsPayload payload

fit_first : (x p : List ℕ) → Some x ≡ Some p → IsPayload x → IsPayload p
fit_first x p e fits = let same : x ≡ p = cc in subst IsPayload same fits

fit_more : (xs : List (Vec ℕ Global)) (x : Vec ℕ Global) → AreFit xs → IsPayload x.items → AreFit (xs ++ x ∷ [])
fit_more [] x all fits zero p e = fit_first x.items p e fits
fit_more [] x all fits (suc k) p e = absurd (cc)
fit_more (y ∷ ys) x all fits zero p e = all zero p e
fit_more (y ∷ ys) x all fits (suc k) p e = fit_more ys x (λ j q is. all (suc j) q is) fits k p e

pub fit_push : (xs : List (Vec ℕ Global)) (x : Vec ℕ Global) (ok : Bool) → AreFit xs → IsPayload x.items → AreFit (if ok then xs ++ x ∷ [] else xs)
fit_push xs x true all fits = fit_more xs x all fits
fit_push xs x false all fits = all

module _ (may : List (List ℕ) → List ℕ → Type 0) (F : List (List ℕ)) (o : Numbered (List ℕ)) where
  pub passed : (o.number ≢ length F) → Takes may (sure F) o (sure F)
  passed other = record { base = F; mended = as_they_are; delivers = ignored (λ next m. other next); added = λ next. absurd (other next); settled = refl }

  pub taken : (G : List (List ℕ)) → o.number ≡ length F → may F o.content → G ≡ F ++ o.content ∷ [] → Takes may (sure F) o (sure G)
  taken G next m is =
      subst (λ (H : List (List ℕ)). Takes may (sure F) o (sure H)) (sym is)
      (record { base = F; mended = as_they_are; delivers = appended next m; added = λ e. refl; settled = refl })

  pub due : o.number ≡ length F → may F o.content → IsDue may (sure F) F o
  due next m = record { mended = as_they_are; next = next; follows = m }

  -- a stop between a state and one that is the same, or has what was delivered
  pub stays_so : (G left : List (List ℕ)) → G ≡ F → (left ≡ F) ⊎ (left ≡ G) → StopLeaves may (sure F) o left
  stays_so G left same e = (F, as_they_are, inl (⊎_elim (λ x. x) (λ x. x ∙ same) e))

  pub goes_so : (G left : List (List ℕ)) → Takes may (sure F) o (sure G) → (left ≡ F) ⊎ (left ≡ G) → StopLeaves may (sure F) o left
  goes_so G left w e = ⊎_elim (λ x. (F, as_they_are, inl x)) (λ x. (w.base, w.mended, inr (subst (λ (H : List (List ℕ)). Delivers may w.base o H) (sym x) w.delivers))) e
