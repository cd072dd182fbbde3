-- A file that gives payloads of the second version holds them.
use Rattle.std.proofs.Common.{◌≡◌, ℕ, zero, suc, ◌+◌, ◌<◌, ◌⊎◌, inl, inr, Bool, true, false, cond, ◌||◌, ◌==◌, List, [], ◌∷◌, ◌++◌, length, take, drop, Option, Some, None, refl, sym, ap, ◌∙◌, subst, arith, nat_lt}
use Rattle.std.specs.Prelude.{nat_le, if◌then◌else◌}
use Rattle.std.specs.Int.{from_be_bytes, w32}
use Rattle.std.specs.Option.{option_map}
use Rattle.std.proofs.Math.Bool.{true≢false}
use Rattle.std.proofs.lemmas.Bool.{eqb-true, eq-eqb, leb-true, ltb-true}
use Rattle.std.proofs.lemmas.List.{take-append-drop, length-take-le}
use Rattle.answer_journal.specs.Frames.{FileHeader, shadowj1, shadowj2, Scan, Whole, BadLength, CutOff, OfNoLength, TooShort, Payload, behind, with_payload, goes_on_behind, scan, whole, begins, payloads}
use Rattle.answer_journal.specs.Versions.{header, version_of, is_mark, after_mark, Counted, second, counted_from, counted, contents}
use Rattle.answer_journal.proofs.VersionLaws.{begins_is}
use Rattle.form_model.proofs.SumLaws.{either}
use Rattle.exam_headline.specs.Journals.{Frames, ended, framed, Holds, new, first, second as of_second, moved}

-- ---- frames
whole_same : (a b : List (List ℕ)) → Whole a ≡ Whole b → a ≡ b
whole_same a b e = cc

pub record Frame (payload : List ℕ) (s : Scan) (ps : List (List ℕ)) : Type 0 where
  pub rest : List (List ℕ)
  pub scanned : s ≡ Whole rest
  pub is : ps ≡ payload ∷ rest

with_whole : (payload : List ℕ) (s : Scan) (ps : List (List ℕ)) → with_payload payload s ≡ Whole ps → Frame payload s ps
with_whole payload (Whole qs) ps e = record { rest = qs; scanned = refl; is = sym (whole_same _ _ e) }
with_whole payload (BadLength at) ps e = absurd (cc)
with_whole payload (CutOff at) ps e = absurd (cc)

pub record FramedBy (n at : ℕ) (body : List ℕ) (go : ℕ → List ℕ → Scan) (ps : List (List ℕ)) : Type 0 where
  pub fits : n < length body
  pub frame : Frame (take n body) (go (at + 5 + length (take n body)) (drop n body)) ps

by_length : (n at : ℕ) (body : List ℕ) (go : ℕ → List ℕ → Scan) (ps : List (List ℕ)) (bad fits : Bool) → nat_lt n (length body) ≡ fits
    → goes_on_behind at (if bad then OfNoLength else (if fits then Payload (take n body) (drop n body) else TooShort)) go ≡ Whole ps → FramedBy n at body go ps
by_length n at body go ps true fits f e = absurd (cc)
by_length n at body go ps false false f e = absurd (cc)
by_length n at body go ps false true f e = record { fits = ltb-true n (length body) f; frame = with_whole (take n body) _ ps e }

-- what follows an open gate
scan_open : (more at : ℕ) (rest : List ℕ) → scan (suc more) at (1 ∷ rest) ≡ goes_on_behind at (behind rest) (scan more)
unfolding scan
scan_open more at rest = refl

scan_shut : (more at gate : ℕ) (rest : List ℕ) → (gate == 1) ≡ false → scan (suc more) at (gate ∷ rest) ≡ Whole []
unfolding scan
scan_shut more at gate rest e = ap (λ (c : Bool). cond c (goes_on_behind at (behind rest) (scan more)) (Whole [])) e

scan_none : (at : ℕ) (bytes : List ℕ) (ps : List (List ℕ)) → scan zero at bytes ≡ Whole ps → ⊥
unfolding scan
scan_none at bytes ps e = cc

scan_empty : (more at : ℕ) (ps : List (List ℕ)) → scan (suc more) at [] ≡ Whole ps → ⊥
unfolding scan
scan_empty more at ps e = cc

opened : (more at : ℕ) (rest : List ℕ) (ps : List (List ℕ)) → ((place : ℕ) (bytes : List ℕ) (qs : List (List ℕ)) → scan more place bytes ≡ Whole qs → Frames qs bytes) → goes_on_behind at (behind rest) (scan more) ≡ Whole ps → Frames ps (1 ∷ rest)
opened more at [] ps later e = absurd (cc)
opened more at (a ∷ []) ps later e = absurd (cc)
opened more at (a ∷ b ∷ []) ps later e = absurd (cc)
opened more at (a ∷ b ∷ c ∷ []) ps later e = absurd (cc)
opened more at (a ∷ b ∷ c ∷ d ∷ body) ps later e =
    let n = from_be_bytes w32 (a ∷ b ∷ c ∷ d ∷ []) in
    let by = by_length n at body (scan more) ps (n == 0 || nat_lt 131072 n) (nat_lt n (length body)) refl e in
    let rest = later (at + 5 + length (take n body)) (drop n body) by.frame.rest by.frame.scanned in
    subst (λ (qs : List (List ℕ)). Frames qs (1 ∷ a ∷ b ∷ c ∷ d ∷ body)) (sym by.frame.is)
    (subst (λ (bytes : List ℕ). Frames (take n body ∷ by.frame.rest) (1 ∷ a ∷ b ∷ c ∷ d ∷ bytes)) (take-append-drop n body)
    (framed a b c d (take n body) (drop n body) by.frame.rest (let fits = by.fits in length-take-le n body (omega arith)) rest))

pub frames_of : (more at : ℕ) (bytes : List ℕ) (ps : List (List ℕ)) → scan more at bytes ≡ Whole ps → Frames ps bytes
frames_of zero at bytes ps e = absurd (scan_none at bytes ps e)
frames_of (suc more) at [] ps e = absurd (scan_empty more at ps e)
frames_of (suc more) at (gate ∷ rest) ps e =
    elim (either (gate == 1)) [
      | inl is_open ↦
          let one = eqb-true gate 1 is_open in
          subst (λ (g : ℕ). Frames ps (g ∷ rest)) (sym one) (opened more at rest ps (λ place bytes qs f. frames_of more place bytes qs f) (sym (scan_open more at rest) ∙ (ap (λ (g : ℕ). scan (suc more) at (g ∷ rest)) (sym one) ∙ e)))
      | inr shut ↦
          subst (λ (qs : List (List ℕ)). Frames qs (gate ∷ rest)) (whole_same _ _ (sym (scan_shut more at gate rest shut) ∙ e)) (ended gate rest (λ same. true≢false (sym (eq-eqb gate 1 same) ∙ shut)))
    ]

-- ---- a file
whole_some : (s : Scan) (ps : List (List ℕ)) → whole s ≡ Some ps → s ≡ Whole ps
whole_some (Whole qs) ps e = let same : qs ≡ ps = cc in ap Whole same
whole_some (BadLength at) ps e = absurd (cc)
whole_some (CutOff at) ps e = absurd (cc)

-- the payloads of a file: it is short and has none, or they are those of its frames
pub data Gives (h : FileHeader) (file : List ℕ) (ps : List (List ℕ)) : Type 0 where
  short : nat_le (length file) 9 ≡ true → ps ≡ [] → Gives h file ps
  long : nat_le (length file) 9 ≡ false → (rest : List ℕ) → file ≡ h.bytes ++ rest → Frames ps rest → Gives h file ps

gives_by : (h : FileHeader) (file : List ℕ) (ps : List (List ℕ)) (is_short begun : Bool) → nat_le (length file) 9 ≡ is_short → begins h file ≡ begun
    → (if is_short then Some [] else (if begun then whole (scan (length file) 8 (drop 8 file)) else None)) ≡ Some ps → Gives h file ps
gives_by h file ps true begun f g e = short f (let same : [] ≡ ps = cc in sym same)
gives_by h file ps false true f g e =
    long f (drop 8 file) (sym (take-append-drop 8 file) ∙ ap (λ (front : List ℕ). front ++ drop 8 file) (begins_is h file g)) (frames_of (length file) 8 (drop 8 file) ps (whole_some _ ps e))
gives_by h file ps false false f g e = absurd (cc)

gives : (h : FileHeader) (file : List ℕ) (ps : List (List ℕ)) → payloads h file ≡ Some ps → Gives h file ps
unfolding payloads
gives h file ps e = gives_by h file ps (nat_le (length file) 9) (begins h file) refl refl e

-- ---- those that count
behind_mark : (p : List ℕ) → is_mark p ≡ true → p ≡ 8 ∷ []
behind_mark [] e = absurd (true≢false (sym e))
behind_mark (byte ∷ []) e = ap (λ (n : ℕ). n ∷ []) (eqb-true byte 8 e)
behind_mark (byte ∷ next ∷ rest) e = absurd (true≢false (sym e))

some_same : (a b : List (List ℕ)) → ◌≡◌ {A = Option (List (List ℕ))} (Some a) (Some b) → a ≡ b
some_same a b e = cc

mark_there : (ps after : List (List ℕ)) → after_mark ps ≡ Some after → (old : List (List ℕ)) × (ps ≡ old ++ (8 ∷ []) ∷ after)
mark_there [] after e = absurd (cc)
mark_there (p ∷ ps) after e = by (is_mark p) refl (λ f. mark_there ps after f) e
  where
    by : (c : Bool) → is_mark p ≡ c → (after_mark ps ≡ Some after → (old : List (List ℕ)) × (ps ≡ old ++ (8 ∷ []) ∷ after)) → (if c then Some ps else after_mark ps) ≡ Some after → (old : List (List ℕ)) × (p ∷ ps ≡ old ++ (8 ∷ []) ∷ after)
    by true f later g = ([], ap (λ (q : List ℕ). q ∷ ps) (behind_mark p f) ∙ ap (λ (qs : List (List ℕ)). (8 ∷ []) ∷ qs) (some_same ps after g))
    by false f later g = let rest = later g in (p ∷ rest.0, ap (λ (qs : List (List ℕ)). p ∷ qs) rest.1)

counted_second : (ps : List (List ℕ)) (o : Option (List (List ℕ))) (qs : List (List ℕ)) → counted_from ps o ≡ second qs → o ≡ Some qs
counted_second ps None qs e = let f : 1 ≡ 2 = ap (λ (c : Counted). c.version) e in absurd (omega (arith, f))
counted_second ps (Some after) qs e = ap (λ (c : Counted). Some c.payloads) e

pub record Read (file : List ℕ) (qs : List (List ℕ)) (version : ℕ) : Type 0 where
  pub all : List (List ℕ)
  pub gives : payloads (header version) file ≡ Some all
  pub counts : counted version all ≡ second qs

option_by : (version : ℕ) (o : Option (List (List ℕ))) (qs : List (List ℕ)) → option_map (counted version) o ≡ Some (second qs) → (all : List (List ℕ)) × (o ≡ Some all) × (counted version all ≡ second qs)
option_by version None qs e = absurd (cc)
option_by version (Some all) qs e = (all, refl, cc)

read_by : (file : List ℕ) (qs : List (List ℕ)) → contents file ≡ Some (second qs) → Read file qs (version_of file)
unfolding contents
read_by file qs e = let r = option_by (version_of file) (payloads (header (version_of file)) file) qs e in record { all = r.0; gives = r.1; counts = r.2 }

abbrev version_by : Bool → Bool → ℕ
version_by is_short begun = if is_short then 2 else (if begun then 1 else 2)

version_of_by : (is_short begun : Bool) → ((version_by is_short begun ≡ 1) × (is_short ≡ false)) ⊎ (version_by is_short begun ≡ 2)
version_of_by true begun = inr refl
version_of_by false true = inl (refl, refl)
version_of_by false false = inr refl

pub version_is : (file : List ℕ) → ((version_of file ≡ 1) × (nat_le (length file) 9 ≡ false)) ⊎ (version_of file ≡ 2)
unfolding version_of
version_is file = version_of_by (nat_le (length file) 9) (begins shadowj1 file)

of_first : (file : List ℕ) (qs : List (List ℕ)) → nat_le (length file) 9 ≡ false → Read file qs 1 → Holds file 2 qs
of_first file qs is_long r = by (gives shadowj1 file r.all r.gives)
  where
    by : Gives shadowj1 file r.all → Holds file 2 qs
    by (short f e) = absurd (true≢false (sym f ∙ is_long))
    by (long f rest is frames) =
        let there = mark_there r.all qs (counted_second r.all (after_mark r.all) qs r.counts) in
        subst (λ (bytes : List ℕ). Holds bytes 2 qs) (sym is) (moved rest there.0 qs (subst (λ (ps : List (List ℕ)). Frames ps rest) there.1 frames))

of_other : (file : List ℕ) (qs : List (List ℕ)) → Read file qs 2 → Holds file 2 qs
of_other file qs r = by (gives shadowj2 file r.all r.gives)
  where
    same : r.all ≡ qs
    same = ap (λ (c : Counted). c.payloads) r.counts

    by : Gives shadowj2 file r.all → Holds file 2 qs
    by (short f e) = subst (λ (ps : List (List ℕ)). Holds file 2 ps) (sym e ∙ same) (new file (leb-true _ _ f))
    by (long f rest is frames) = subst (λ (bytes : List ℕ). Holds bytes 2 qs) (sym is) (of_second rest qs (subst (λ (ps : List (List ℕ)). Frames ps rest) same frames))

pub holds : (file : List ℕ) (qs : List (List ℕ)) → contents file ≡ Some (second qs) → Holds file 2 qs
holds file qs e =
    elim (version_is file) [
      | inl one ↦ of_first file qs one.1 (subst (λ (v : ℕ). Read file qs v) one.0 (read_by file qs e))
      | inr other ↦ of_other file qs (subst (λ (v : ℕ). Read file qs v) other (read_by file qs e))
    ]

-- ---- the same of the first version
counted_first : (ps : List (List ℕ)) (o : Option (List (List ℕ))) (qs : List (List ℕ)) → counted_from ps o ≡ record { version = 1; payloads = qs } → ps ≡ qs
counted_first ps None qs e = ap (λ (c : Counted). c.payloads) e
counted_first ps (Some after) qs e = let f : 2 ≡ 1 = ap (λ (c : Counted). c.version) e in absurd (omega (arith, f))

option_first : (version : ℕ) (o : Option (List (List ℕ))) (c : Counted) → option_map (counted version) o ≡ Some c → (all : List (List ℕ)) × (o ≡ Some all) × (counted version all ≡ c)
option_first version None c e = absurd (cc)
option_first version (Some all) c e = (all, refl, cc)

pub read_first : (file : List ℕ) (c : Counted) → contents file ≡ Some c → (all : List (List ℕ)) × (payloads (header (version_of file)) file ≡ Some all) × (counted (version_of file) all ≡ c)
unfolding contents
read_first file c e = option_first (version_of file) (payloads (header (version_of file)) file) c e

second_first : (all qs : List (List ℕ)) → second all ≡ record { version = 1; payloads = qs } → ⊥
second_first all qs e = let f : 2 ≡ 1 = ap (λ (c : Counted). c.version) e in omega (arith, f)

pub holds_first : (file : List ℕ) (qs : List (List ℕ)) → contents file ≡ Some (record { version = 1; payloads = qs }) → Holds file 1 qs
holds_first file qs e = elim (version_is file) [ inl one ↦ of_one one.0 one.1 | inr other ↦ absurd (of_two other) ]
  where
    Found : ℕ → Type 0
    Found v = (all : List (List ℕ)) × (payloads (header v) file ≡ Some all) × (counted v all ≡ record { version = 1; payloads = qs })

    of_two : version_of file ≡ 2 → ⊥
    of_two two = let r = read_first file (record { version = 1; payloads = qs }) e in second_first r.0 qs (subst (λ (v : ℕ). counted v r.0 ≡ record { version = 1; payloads = qs }) two r.2)

    by : (all : List (List ℕ)) → counted_from all (after_mark all) ≡ record { version = 1; payloads = qs } → nat_le (length file) 9 ≡ false → Gives shadowj1 file all → Holds file 1 qs
    by all counts is_long (short f g) = absurd (true≢false (sym f ∙ is_long))
    by all counts is_long (long f rest is frames) =
        subst (λ (bytes : List ℕ). Holds bytes 1 qs) (sym is) (first rest qs (subst (λ (ps : List (List ℕ)). Frames ps rest) (counted_first all (after_mark all) qs counts) frames))

    of_one : version_of file ≡ 1 → nat_le (length file) 9 ≡ false → Holds file 1 qs
    of_one one is_long =
        let r = read_first file (record { version = 1; payloads = qs }) e in
        by r.0 (subst (λ (v : ℕ). counted v r.0 ≡ record { version = 1; payloads = qs }) one r.2) is_long (gives shadowj1 file r.0 (subst (λ (v : ℕ). payloads (header v) file ≡ Some r.0) one r.1))
