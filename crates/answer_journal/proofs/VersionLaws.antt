-- What counts in a file, and how it goes on.
use Rattle.std.proofs.Common.{◌≡◌, inl, inr, ℕ, Bool, true, false, ◌==◌, nat_le, if◌then◌else◌, List, [], ◌∷◌, ◌++◌, length, take, drop, Option, Some, None, refl, sym, ◌∙◌, ap, arith}
use Rattle.std.specs.Cmp.Lexicographic.{pointwise}
use Rattle.std.specs.Prelude.{nat_eq}
use Rattle.std.specs.Option.{option_map}
use Rattle.std.proofs.lemmas.Bool.{cases_Bool}
use Rattle.std.proofs.lemmas.Bool.Decides.{Decides-eqb}
use Rattle.std.proofs.lemmas.Slice.Eq.{slice_eq-Decides}
use Rattle.answer_journal.specs.Frames.{FileHeader, shadowj1, shadowj2, begins, scan, whole, payloads}
use Rattle.answer_journal.specs.Versions.{Counted, header, mark, after_mark, counted_from, counted, contents, second, version_of}
use Rattle.answer_journal.specs.VersionLaws.{CountedGoesOn, MarkCounts, OneVersion}
use Rattle.answer_journal.proofs.Passing.{after-push, marked-after}

some_same : (xs ys : List (List ℕ)) → Some xs ≡ Some ys → xs ≡ ys
some_same xs ys e = cc

-- ---- one payload more
-- where records of the second version count, there is a mark
pub from_second : (all ps : List (List ℕ)) (o : Option (List (List ℕ))) → counted_from all o ≡ second ps → o ≡ Some ps
from_second all ps None e = absurd (omega (arith, ap (λ (c : Counted). c.version) e))
from_second all ps (Some after) e = ap (λ (c : Counted). Some c.payloads) e

goes_by : (all ps : List (List ℕ)) (p : List ℕ) (b : Bool) → (if b then counted_from all (after_mark all) else second all) ≡ second ps
    → (if b then counted_from (all ++ p ∷ []) (after_mark (all ++ p ∷ [])) else second (all ++ p ∷ [])) ≡ second (ps ++ p ∷ [])
goes_by all ps p true e = ap (counted_from (all ++ p ∷ [])) (after-push all ps p (from_second all ps (after_mark all) e))
goes_by all ps p false e = ap (λ (c : Counted). second (c.payloads ++ p ∷ [])) e

pub counted_goes_on : CountedGoesOn
counted_goes_on version all ps p e = goes_by all ps p (version == 1) e

-- ---- a mark
pub mark_counts : MarkCounts
mark_counts ps qs e = ap (counted_from (ps ++ mark ∷ qs)) (marked-after ps qs e)

-- ---- the version that a header names
pub header_begins : (h : FileHeader) (file : List ℕ) → nat_le (length file) 9 ≡ false → (all : List (List ℕ)) → payloads h file ≡ Some all → begins h file ≡ true
unfolding payloads
header_begins h file long all is = by (begins h file) refl (rw long at is)
  where
    by : (b : Bool) → begins h file ≡ b → (if b then whole (scan (length file) 8 (drop 8 file)) else None) ≡ Some all → begins h file ≡ true
    by true e given = e
    by false e given = absurd (cc)

pub begins_is : (h : FileHeader) (file : List ℕ) → begins h file ≡ true → take 8 file ≡ h.bytes
begins_is h file is = (slice_eq-Decides Decides-eqb (take 8 file) h.bytes (begins h file) refl).0 is

-- a file has one header
pub other_header : (file : List ℕ) → begins shadowj2 file ≡ true → begins shadowj1 file ≡ false
other_header file is = ap (λ (l : List ℕ). pointwise nat_eq l shadowj1.bytes) (begins_is shadowj2 file is)

-- the contents of a longer file by its header
pub contents_first : (file : List ℕ) (all : List (List ℕ)) → nat_le (length file) 9 ≡ false → payloads shadowj1 file ≡ Some all → contents file ≡ Some (counted 1 all)
unfolding contents version_of
contents_first file all long is =
    let begun : begins shadowj1 file ≡ true = header_begins shadowj1 file long all is in
    rw (long, begun) (ap (option_map (counted 1)) is)

pub contents_second : (file : List ℕ) (all : List (List ℕ)) → nat_le (length file) 9 ≡ false → payloads shadowj2 file ≡ Some all → contents file ≡ Some (second all)
unfolding contents version_of
contents_second file all long is =
    let other : begins shadowj1 file ≡ false = other_header file (header_begins shadowj2 file long all is) in
    rw (long, other) (ap (option_map (counted 2)) is)

-- a file of at most nine bytes has no payloads, and those are of the second version
pub short_none : (h : FileHeader) (file : List ℕ) → nat_le (length file) 9 ≡ true → payloads h file ≡ Some []
unfolding payloads
short_none h file short = rw short refl

pub contents_short : (file : List ℕ) → nat_le (length file) 9 ≡ true → contents file ≡ Some (second [])
unfolding contents version_of
contents_short file short = rw short (ap (option_map (counted 2)) (short_none shadowj2 file short))

module _ (ps : List (List ℕ)) where
  short_by : (b : Bool) → (if b then counted_from [] (after_mark []) else second []) ≡ second ps → [] ≡ ps
  short_by true e = absurd (omega (arith, ap (λ (c : Counted). c.version) e))
  short_by false e = ap (λ (c : Counted). c.payloads) e

  long_by : (all : List (List ℕ)) (file : List ℕ) → nat_le (length file) 9 ≡ false → (b : Bool) → (if b then counted_from all (after_mark all) else second all) ≡ second ps
      → payloads (if b then shadowj1 else shadowj2) file ≡ Some all → contents file ≡ Some (second ps)
  long_by all file long true e is = contents_first file all long is ∙ ap Some e
  long_by all file long false e is = contents_second file all long is ∙ ap Some e

pub one_version : OneVersion
one_version version all ps file e is = elim (cases_Bool (nat_le (length file) 9)) [
  | inl short ↦
      let none : all ≡ [] = some_same all [] (sym is ∙ short_none (header version) file short) in
      let same : [] ≡ ps = short_by ps (version == 1) (sym (ap (counted version) none) ∙ e) in
      contents_short file short ∙ ap (λ (l : List (List ℕ)). Some (second l)) same
  | inr long ↦ long_by ps all file long (version == 1) e is
]
