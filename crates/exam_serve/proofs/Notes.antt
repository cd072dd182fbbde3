-- Marks, each with what its office was opened with.
use Rattle.std.proofs.Common.{◌≡◌, List, [], ◌∷◌, ◌++◌, length, refl, sym, ap, ◌∙◌, subst, arith, Contains}
use Rattle.std.proofs.lemmas.List.{map-append, length-map}
use Rattle.turn_lock.specs.Histories.{StartsWith}
use Rattle.exam_office.specs.Noting.{NotedMark, OpenedWith, noted, marks_of}
use Rattle.exam_office.specs.declared.mark.Mark.{Mark}

pub marks_noted : (o : OpenedWith) (ms : List Mark) → marks_of (noted o ms) ≡ ms
marks_noted o [] = refl
marks_noted o (m ∷ ms) = ap (λ l. m ∷ l) (marks_noted o ms)

pub noted_number : (o : OpenedWith) (ms : List Mark) → length (noted o ms) ≡ length ms
noted_number o ms = length-map ms (λ (m : Mark). record { mark = m; office = o })

-- the marks of a beginning
pub begins_marks : (o p : OpenedWith) (ms ns : List Mark) → StartsWith (noted p ns) (noted o ms) → StartsWith ns ms
begins_marks o p ms ns h = (
  marks_of h.0,
  sym (marks_noted p ns) ∙ ap marks_of h.1 ∙ map-append (λ (n : NotedMark). n.mark) (noted o ms) h.0
      ∙ ap (λ l. l ++ marks_of h.0) (marks_noted o ms),
)

first_is : {A : Type 0} {x y : A} {xs ys : List A} → x ∷ xs ≡ y ∷ ys → x ≡ y
first_is e = cc

same_first : (o p : OpenedWith) (ms ns : List Mark) (n : NotedMark) → Contains (noted o ms) n → StartsWith (noted p ns) (noted o ms) → p ≡ o
same_first o p [] ns n some h = absurd (let lt = some.1 in omega arith)
same_first o p (m ∷ ms) [] n some h = absurd (no_nil h.1)
  where
    no_nil : {A : Type 0} {x : A} {xs : List A} → [] ≡ x ∷ xs → ⊥
    no_nil e = cc
same_first o p (m ∷ ms) (k ∷ ns) n some h = ap (λ (q : NotedMark). q.office) (first_is h.1)

-- a beginning that isn't empty has the same office
pub same_office : (o p : OpenedWith) (ms ns : List Mark) (seen : List NotedMark) {n : NotedMark} → seen ≡ noted o ms → Contains seen n
    → StartsWith (noted p ns) (noted o ms) → p ≡ o
same_office o p ms ns seen {n} e some h = same_first o p ms ns n (subst (λ l. Contains l n) e some) h
