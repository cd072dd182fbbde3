-- The version that the header of a file names.
use Rattle.std.proofs.Common.{◌≡◌, ℕ, ◌<◌, ◌≤◌, Bool, true, false, ◌==◌, nat_le, if◌then◌else◌, List, [], ◌∷◌, ◌++◌, length, take, get_or, Option, Some, None, inl, inr, refl, sym, ◌∙◌, ap, subst, arith, append_assoc, take-append-drop}
use Rattle.std.specs.Prelude.{drop, nat_eq}
use Rattle.std.specs.Cmp.Lexicographic.{pointwise}
use Rattle.std.proofs.lemmas.Bool.{le-leb, lt-leb}
use Rattle.std.proofs.lemmas.List.{take-take, take_at}
use Rattle.answer_journal.specs.Frames.{FileHeader, shadowj1, shadowj2, begins, frames, front}
use Rattle.answer_journal.specs.Reading.{IsRead}
use Rattle.answer_journal.specs.Standing.{IsEither}
use Rattle.answer_journal.specs.Versions.{header, version_of, version_named}

pub version_of-short : (file : List ℕ) → length file ≤ 9 → version_of file ≡ 2
unfolding version_of
version_of-short file few = let short : nat_le (length file) 9 ≡ true = le-leb (length file) 9 few in rw short refl

pub version_of-long : (file : List ℕ) → 9 < length file → version_of file ≡ (if begins shadowj1 file then 1 else 2)
unfolding version_of
version_of-long file more = let long : nat_le (length file) 9 ≡ false = lt-leb (length file) 9 more in rw long refl

-- ---- a file of more than nine bytes
abbrev name_by : Bool → Bool → Option ℕ
name_by a b = if a then Some 1 else (if b then Some 2 else None)

named-by : (file : List ℕ) (a b : Bool) → begins shadowj1 file ≡ a → begins shadowj2 file ≡ b → (version : ℕ) → name_by a b ≡ Some version
    → (version ≡ (if a then 1 else 2)) × (begins (header version) file ≡ true)
named-by file true b one two version is = let e : 1 ≡ version = cc in (sym e, subst (λ (v : ℕ). begins (header v) file ≡ true) e one)
named-by file false true one two version is = let e : 2 ≡ version = cc in (sym e, subst (λ (v : ℕ). begins (header v) file ≡ true) e two)
named-by file false false one two version is = cc

pub named : (file : List ℕ) (version : ℕ) → 9 < length file → version_named file ≡ Some version → (version ≡ version_of file) × (begins (header version) file ≡ true)
named file version more is =
    let both = named-by file (begins shadowj1 file) (begins shadowj2 file) refl refl version is in
    (both.0 ∙ sym (version_of-long file more), both.1)

unnamed-by : (file : List ℕ) (a b : Bool) → begins shadowj2 file ≡ b → name_by a b ≡ None → begins (header (if◌then◌else◌ {A = ℕ} a 1 2)) file ≡ false
unnamed-by file true b two is = cc
unnamed-by file false true two is = cc
unnamed-by file false false two is = two

pub unnamed : (file : List ℕ) → 9 < length file → version_named file ≡ None → begins (header (version_of file)) file ≡ false
unnamed file more is =
    ap (λ (v : ℕ). begins (header v) file) (version_of-long file more) ∙ unnamed-by file (begins shadowj1 file) (begins shadowj2 file) refl is

-- ---- the first eight bytes
-- of two files with the same first ten bytes
pub same_named : (a b : List ℕ) → take 10 a ≡ take 10 b → version_named a ≡ version_named b
same_named a b same =
    let eight : take 8 a ≡ take 8 b = sym (take-take 8 10 a (omega arith)) ∙ ap (take 8) same ∙ take-take 8 10 b (omega arith) in
    ap (λ (l : List ℕ). name_by (pointwise nat_eq l shadowj1.bytes) (pointwise nat_eq l shadowj2.bytes)) eight

module _ (h : FileHeader) where
  pub front_starts : (ps : List (List ℕ)) (rest file : List ℕ) → file ≡ front h ps ++ rest → take 8 file ≡ h.bytes
  front_starts ps rest file is = ap (take 8) (is ∙ append_assoc h.bytes (frames ps) rest) ∙ take_at h.bytes (frames ps ++ rest) 8 h.eight

  pub read_starts : (content : List ℕ) (ps : List (List ℕ)) (end : ℕ) → IsRead h content ps end → take 8 content ≡ h.bytes
  read_starts content ps end r =
      front_starts ps (drop end content) content (sym (take-append-drop end content) ∙ ap (λ (l : List ℕ). l ++ drop end content) r.before)

  pub either_starts : (ps : List (List ℕ)) (payload file : List ℕ) → IsEither h ps payload file → take 8 file ≡ h.bytes
  either_starts ps payload file (inl u) = front_starts ps (u.gate ∷ u.junk) file u.is
  either_starts ps payload file (inr is) = front_starts (ps ++ payload ∷ []) (0 ∷ []) file is

eighth : (b c : Bool) → (if b then shadowj1 else shadowj2).bytes ≡ (if c then shadowj1 else shadowj2).bytes → b ≡ c
eighth true true same = refl
eighth false false same = refl
eighth true false same = let e : 49 ≡ 50 = ap (λ (l : List ℕ). get_or l 7 0) same in absurd (omega (arith, e))
eighth false true same = let e : 50 ≡ 49 = ap (λ (l : List ℕ). get_or l 7 0) same in absurd (omega (arith, e))

-- two headers that one file begins with are one
pub one_header : (v w : ℕ) → (header v).bytes ≡ (header w).bytes → header v ≡ header w
one_header v w same = ap (λ (b : Bool). if b then shadowj1 else shadowj2) (eighth (v == 1) (w == 1) same)

pub first_named : (v : ℕ) → (header v).bytes ≡ shadowj1.bytes → (v == 1) ≡ true
first_named v same = eighth (v == 1) true same
