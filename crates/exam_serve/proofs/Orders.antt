-- Lists from the other end.
use Rattle.std.proofs.Common.{◌≡◌, List, [], ◌∷◌, ◌++◌, map, refl, sym, ap, ◌∙◌, subst, append_assoc, ⊎_elim, arith, Contains}
use Rattle.std.specs.List.{AllZip}
use Rattle.std.proofs.lemmas.List.{map-append, reverse-append}
use Rattle.std.proofs.lemmas.List.Elements.{AllZip-push, Contains-append_right, Contains-push_cases}
use mathlib.Core.List.{reverse}

pub reverse_cons : {A : Type 0} (x : A) (xs : List A) → reverse (x ∷ xs) ≡ reverse xs ++ x ∷ []
reverse_cons x xs = reverse-append (x ∷ []) xs

pub reverse_last : {A : Type 0} (x : A) (xs : List A) → reverse (xs ++ x ∷ []) ≡ x ∷ reverse xs
reverse_last x xs = reverse-append xs (x ∷ [])

pub map_reverse : {A B : Type 0} (f : A → B) (xs : List A) → map f (reverse xs) ≡ reverse (map f xs)
map_reverse f [] = refl
map_reverse f (x ∷ xs) =
    ap (map f) (reverse_cons x xs) ∙ map-append f (reverse xs) (x ∷ []) ∙ ap (λ l. l ++ f x ∷ []) (map_reverse f xs) ∙ sym (reverse_cons (f x) (map f xs))

pub zip_reverse : {A : Type 0} (R : A → A → Type 0) (xs ys : List A) → AllZip R xs ys → AllZip R (reverse xs) (reverse ys)
zip_reverse R [] [] h = tt
zip_reverse R [] (y ∷ ys) h = absurd h
zip_reverse R (x ∷ xs) [] h = absurd h
zip_reverse R (x ∷ xs) (y ∷ ys) h =
    subst (λ l. AllZip R l (reverse (y ∷ ys))) (sym (reverse_cons x xs))
    (subst (λ l. AllZip R (reverse xs ++ x ∷ []) l) (sym (reverse_cons y ys))
    (AllZip-push R (reverse xs) (reverse ys) x y (zip_reverse R xs ys h.1) h.0))

-- the last goes from one list to the front of the rest
pub moved : {A : Type 0} (whole done now left : List A) (x : A) → now ≡ left ++ x ∷ [] → whole ≡ done ++ reverse now
    → whole ≡ (done ++ x ∷ []) ++ reverse left
moved whole done now left x e h =
    h ∙ ap (λ l. done ++ reverse l) e ∙ ap (λ l. done ++ l) (reverse_last x left) ∙ sym (append_assoc done (x ∷ []) (reverse left))

-- what a list from the other end has, it has
pub contains_reverse : {A : Type 0} (xs : List A) (x : A) → Contains (reverse xs) x → Contains xs x
contains_reverse [] x h = h
contains_reverse (a ∷ xs) x h =
    ⊎_elim (λ last. Contains-append_right (a ∷ []) xs x (contains_reverse xs x last))
    (λ same. subst (λ y. Contains (a ∷ xs) y) same (0, omega arith, refl))
    (Contains-push_cases (reverse xs) a x (subst (λ l. Contains l x) (reverse_cons a xs) h))
