-- The old records of a journal that was moved, and the mark after them.
use Rattle.std.proofs.Common.{◌≡◌, ◌⊎◌, inl, inr, ℕ, zero, suc, ◌+◌, ◌<◌, ◌≤◌, List, [], ◌∷◌, ◌++◌, length, take, drop, get_or, Option, Some, None, refl, sym, ◌∙◌, ap, subst, arith, w32, append_assoc, length-append, length-take, length-drop}
use Rattle.std.specs.Prelude.{slice_get}
use Rattle.std.specs.Int.{to_be_bytes, from_be_bytes}
use Rattle.std.specs.List.{AllByRecursion}
use Rattle.std.proofs.lemmas.Bool.{cases_lt, cases_Bool}
use Rattle.std.proofs.lemmas.List.{take-append-le, take_all, take_at, take-take, get_or-take}
use Rattle.std.proofs.lemmas.Nat.{from_be_bytes-to_be_bytes_4}
use Rattle.answer_journal.specs.Frames.{FileHeader, IsPayload, frames, shadowj1, shadowj2}
use Rattle.answer_journal.specs.Payload.{end_of}
use Rattle.answer_journal.specs.Reading.{length_at}
use Rattle.answer_journal.specs.Standing.{IsEither}
use Rattle.answer_journal.specs.Versions.{mark, is_mark, after_mark}
use Rattle.journal_stream.specs.First.{IsOldGate, IsOldHead, IsPassed, Passes}
use Rattle.journal_stream.specs.Tail.{IsGateOf}
use Rattle.journal_stream.specs.declared.first.Old.{Old}
use Rattle.journal_stream.specs.declared.first.Old.TheVariants.{Mark, Payload, Unknown}
use Rattle.journal_stream.specs.Served.{IsBegun, IsOpened, IsServed, first_of, header_of, skipped_of}
use Rattle.journal_stream.proofs.Placed.{end_after, end_of-append, end_is_after, frames_from, from_number, get_front}
use Rattle.journal_stream.proofs.Settled.{fits_at}

-- the frames of a moved journal go on after the mark
record HasOld (old : List (List ℕ)) (file : List ℕ) : Type 0 where
  pub more : List (List ℕ)
  pub rest : List ℕ
  pub is : file ≡ shadowj1.bytes ++ (frames (old ++ mark ∷ more) ++ rest)
  pub fits : AllByRecursion IsPayload (old ++ mark ∷ [])
  pub unmarked : after_mark old ≡ None

fits_left : (ps qs : List (List ℕ)) → AllByRecursion IsPayload (ps ++ qs) → AllByRecursion IsPayload ps
fits_left [] qs fits = tt
fits_left (p ∷ ps) qs fits = (fits.0, fits_left ps qs fits.1)

module _ (old : List (List ℕ)) where
  regroup : (records : List (List ℕ)) → (old ++ mark ∷ []) ++ records ≡ old ++ mark ∷ records
  regroup records = append_assoc old (mark ∷ []) records

  of_either : (records : List (List ℕ)) (payload file : List ℕ) → IsEither shadowj1 ((old ++ mark ∷ []) ++ records) payload file
      → (more : List (List ℕ)) × (rest : List ℕ) × (file ≡ shadowj1.bytes ++ (frames (old ++ mark ∷ more) ++ rest))
  of_either records payload file (inl u) = (
    records,
    u.gate ∷ u.junk,
    u.is ∙ append_assoc shadowj1.bytes (frames ((old ++ mark ∷ []) ++ records)) (u.gate ∷ u.junk)
        ∙ ap (λ (l : List (List ℕ)). shadowj1.bytes ++ (frames l ++ u.gate ∷ u.junk)) (regroup records),
  )
  of_either records payload file (inr is) = (
    records ++ payload ∷ [],
    0 ∷ [],
    is ∙ append_assoc shadowj1.bytes (frames (((old ++ mark ∷ []) ++ records) ++ payload ∷ [])) (0 ∷ [])
        ∙ ap (λ (l : List (List ℕ)). shadowj1.bytes ++ (frames l ++ 0 ∷ [])) (append_assoc (old ++ mark ∷ []) records (payload ∷ []) ∙ regroup (records ++ payload ∷ [])),
  )

  of_begun : (records : List (List ℕ)) (file : List ℕ) → IsBegun (Some old) records file → HasOld old file
  of_begun records file begun =
      let parts = of_either records begun.payload file begun.either in record {
        more = parts.0;
        rest = parts.1;
        is = parts.2;
        fits = fits_left (old ++ mark ∷ []) records begun.fits;
        unmarked = begun.unmarked;
      }

  of_served : (settled : List (List ℕ)) (file : List ℕ) → IsServed (Some old) settled file → HasOld old file ⊎ (length file ≤ 8)
  of_served settled file (inl begun) = inl (of_begun settled file begun)
  of_served settled file (inr (inl being)) =
      let e : Some old ≡ Some being.old = being.was in
      let same : old ≡ being.old = cc in
      inl (of_begun being.records file being.begun)
  of_served settled file (inr (inr short)) = inr short.0

-- the head that was read of a payload's frame
module _ (p rest head : List ℕ) (k size : ℕ) (read : head ≡ take k (1 ∷ (to_be_bytes w32 (length p) ++ (p ++ rest)))) (long : 6 ≤ length head) (few : length p ≤ 131072)
    (is : size ≡ length_at head 0) where
  abbrev all : List ℕ
  all = 1 ∷ (to_be_bytes w32 (length p) ++ (p ++ rest))

  at : (i : ℕ) → i < 6 → get_or head i 0 ≡ get_or all i 0
  at i lt = ap (λ (l : List ℕ). get_or l i 0) read ∙ get_or-take k all i 0 (omega (arith, long, ap length read, length-take k all, lt))

  size_is : size ≡ length p
  size_is =
      is
      ∙ ap (λ (a : ℕ). from_be_bytes w32 (a ∷ get_or head 2 0 ∷ get_or head 3 0 ∷ get_or head 4 0 ∷ [])) (at 1 (omega arith))
      ∙ ap (λ (a : ℕ). from_be_bytes w32 (get_or all 1 0 ∷ a ∷ get_or head 3 0 ∷ get_or head 4 0 ∷ [])) (at 2 (omega arith))
      ∙ ap (λ (a : ℕ). from_be_bytes w32 (get_or all 1 0 ∷ get_or all 2 0 ∷ a ∷ get_or head 4 0 ∷ [])) (at 3 (omega arith))
      ∙ ap (λ (a : ℕ). from_be_bytes w32 (get_or all 1 0 ∷ get_or all 2 0 ∷ get_or all 3 0 ∷ a ∷ [])) (at 4 (omega arith))
      ∙ from_be_bytes-to_be_bytes_4 (length p) (omega (arith, few))

  byte_is : get_or head 5 0 ≡ get_or (p ++ rest) 0 0
  byte_is = at 5 (omega arith)

is_the_mark : (p rest : List ℕ) → length p ≡ 1 → get_or (p ++ rest) 0 0 ≡ 8 → p ≡ mark
is_the_mark [] rest one byte = absurd (omega (arith, one))
is_the_mark (a ∷ []) rest one byte = ap (λ (x : ℕ). x ∷ []) byte
is_the_mark (a ∷ b ∷ p) rest one byte = absurd (omega (arith, one))

no_mark_at : (old : List (List ℕ)) (k : ℕ) (p : List ℕ) → after_mark old ≡ None → slice_get old k ≡ Some p → p ≡ mark → ⊥
no_mark_at [] k p none is m = absurd cc
no_mark_at (q ∷ old) zero p none is m =
    let e : q ≡ p = cc in
    let same : q ≡ mark = e ∙ m in
    let first : after_mark (mark ∷ old) ≡ None = subst (λ (x : List ℕ). after_mark (x ∷ old) ≡ None) same none in
    absurd cc
no_mark_at (q ∷ old) (suc k) p none is m = elim (cases_Bool (is_mark q)) [
  | inl m1 ↦ let e : Some old ≡ None = rw m1 at none in absurd cc
  | inr other ↦ no_mark_at old k p (rw other at none) is m
]

past_old : (old more : List (List ℕ)) (q : List ℕ) (k : ℕ) → k ≡ length old → slice_get (old ++ q ∷ more) k ≡ Some q
past_old [] more q k is = rw is refl
past_old (p ∷ old) more q zero is = absurd (omega (arith, is))
past_old (p ∷ old) more q (suc k) is = past_old old more q k (omega (arith, is))

module _ (moved : Option (List (List ℕ))) (settled : List (List ℕ)) (file : List ℕ) (place : ℕ) (gate : IsOldGate moved place)
    (served : IsServed moved settled file) (head : List ℕ) (k size : ℕ) (read : head ≡ take k (drop place file)) (long : 6 ≤ length head)
    (one : get_or head 0 0 ≡ 1) (is : size ≡ length_at head 0) where
  abbrev old : List (List ℕ)
  old = gate.old

  abbrev number : ℕ
  number = gate.number

  has : HasOld old file
  has = by (of_served old settled file (subst (λ (m : Option (List (List ℕ))). IsServed m settled file) gate.was served))
    where
      by : HasOld old file ⊎ (length file ≤ 8) → HasOld old file
      by (inl h) = h
      by (inr short) = absurd (omega (
        arith,
        short,
        long,
        ap length read,
        length-take k (drop place file),
        length-drop place file,
        gate.place,
        end_is_after 8 (take number old),
      ))

  abbrev whole : List (List ℕ)
  whole = old ++ mark ∷ has.more

  in_whole : number < length whole
  in_whole = omega (arith, gate.some, length-append old (mark ∷ has.more))

  place_is : place ≡ end_of 8 (take number whole)
  place_is = gate.place ∙ ap (end_of 8) (sym (take-append-le number old (mark ∷ has.more) gate.some))

  found : (p : List ℕ) × (qs : List (List ℕ)) × (slice_get whole number ≡ Some p) × (drop number whole ≡ p ∷ qs)
  found = from_number whole number in_whole

  abbrev p : List ℕ
  p = found.0

  abbrev after : List ℕ
  after = frames found.1 ++ has.rest

  here : drop place file ≡ 1 ∷ (to_be_bytes w32 (length p) ++ (p ++ after))
  here =
      let b = to_be_bytes w32 (length p) in
      ap (λ (i : ℕ). drop i file) place_is ∙ ap (drop (end_of 8 (take number whole))) has.is
      ∙ frames_from whole number shadowj1.bytes has.rest 8 shadowj1.eight (omega (arith, in_whole))
      ∙ ap (λ (l : List (List ℕ)). frames l ++ has.rest) found.3
      ∙ ap (λ (l : List ℕ). 1 ∷ l) (append_assoc (b ++ p) (frames found.1) has.rest ∙ append_assoc b p (frames found.1 ++ has.rest))

  read_here : head ≡ take k (1 ∷ (to_be_bytes w32 (length p) ++ (p ++ after)))
  read_here = read ∙ ap (take k) here

  -- it is an old record, or the mark
  either : ((number < length old) × (slice_get old number ≡ Some p)) ⊎ ((number ≡ length old) × (p ≡ mark))
  either = elim (cases_lt number (length old)) [
    | inl lt ↦ inl (lt, sym (get_front old (mark ∷ has.more) number lt) ∙ found.2)
    | inr le ↦
        let e : number ≡ length old = omega (arith, le, gate.some) in
        let same : Some mark ≡ Some p = sym (past_old old has.more mark number e) ∙ found.2 in
        let m : mark ≡ p = cc in
        inr (e, sym m)
  ]

  fit : IsPayload p
  fit = by either
    where
      by : ((number < length old) × (slice_get old number ≡ Some p)) ⊎ ((number ≡ length old) × (p ≡ mark)) → IsPayload p
      by (inl o) = fits_at (old ++ mark ∷ []) number p has.fits (get_front old (mark ∷ []) number o.0 ∙ o.1)
      by (inr m) = subst IsPayload (sym m.1) (record { some = omega arith; few = omega arith })

  length_is : size ≡ length p
  length_is = size_is p after head k size read_here long fit.few is

  first_byte : get_or head 5 0 ≡ get_or (p ++ after) 0 0
  first_byte = byte_is p after head k size read_here long fit.few is

  passed_mark : size ≡ 1 → get_or head 5 0 ≡ 8 → IsPassed moved place None
  passed_mark s byte = by either
    where
      m : p ≡ mark
      m = is_the_mark p after (sym length_is ∙ s) (sym first_byte ∙ byte)

      by : ((number < length old) × (slice_get old number ≡ Some p)) ⊎ ((number ≡ length old) × (p ≡ mark)) → IsPassed moved place None
      by (inl o) = absurd (no_mark_at old number p has.unmarked o.1 m)
      by (inr e) =
          let ends : place ≡ end_of 8 old = gate.place ∙ ap (end_of 8) (take_all number old (omega (arith, e.0))) in
          let all : first_of moved ≡ end_of (end_of 8 old) (mark ∷ []) = ap first_of gate.was ∙ end_of-append 8 old (mark ∷ []) in
          omega (arith, ends, all)

  passed_old : (size ≡ 1 → get_or head 5 0 ≡ 8 → ⊥) → IsPassed moved place (Some size)
  passed_old other = by either
    where
      by : ((number < length old) × (slice_get old number ≡ Some p)) ⊎ ((number ≡ length old) × (p ≡ mark)) → IsPassed moved place (Some size)
      by (inl o) = record {
        old = old;
        was = gate.was;
        number = number + 1;
        some = omega (arith, o.0);
        place = (let e : place + (5 + size) ≡ end_of 8 (take number old) + 5 + length p = omega (arith, gate.place, length_is) in e ∙ sym (end_after 8 old number p o.1));
      }
      by (inr e) = absurd (other (length_is ∙ ap length e.1) (first_byte ∙ ap (λ (x : List ℕ). get_or (x ++ after) 0 0) e.1))

-- what was found after the gate of an old record
pub passed_so : (moved : Option (List (List ℕ))) (settled : List (List ℕ)) (file : List ℕ) (place : ℕ) → IsOldGate moved place → IsServed moved settled file
    → (head : List ℕ) (k : ℕ) → head ≡ take k (drop place file) → (found : Old) → IsOldHead head found → Passes moved place found
passed_so moved settled file place gate served head k read Mark is =
    passed_mark moved settled file place gate served head k 1 read is.0 is.1 is.2 refl is.3
passed_so moved settled file place gate served head k read (Payload size) is =
    passed_old moved settled file place gate served head k size read is.0 is.1 is.3 is.4
passed_so moved settled file place gate served head k read Unknown is = tt

-- ---- the header
header_there : (moved : Option (List (List ℕ))) (records : List (List ℕ)) (file : List ℕ) → IsBegun moved records file → take 8 file ≡ (header_of moved).bytes
header_there moved records file begun = by begun.either
  where
    h : FileHeader
    h = header_of moved

    at_front : (rest : List ℕ) → file ≡ h.bytes ++ rest → take 8 file ≡ h.bytes
    at_front rest is = ap (take 8) is ∙ take_at h.bytes rest 8 h.eight

    by : IsEither (header_of moved) (skipped_of moved ++ records) begun.payload file → take 8 file ≡ (header_of moved).bytes
    by (inl u) = at_front (frames (skipped_of moved ++ records) ++ u.gate ∷ u.junk) (u.is ∙ append_assoc (header_of moved).bytes (frames (skipped_of moved ++ records)) (u.gate ∷ u.junk))
    by (inr is) =
        at_front (frames ((skipped_of moved ++ records) ++ begun.payload ∷ []) ++ 0 ∷ [])
        (is ∙ append_assoc (header_of moved).bytes (frames ((skipped_of moved ++ records) ++ begun.payload ∷ [])) (0 ∷ []))

header_is : (moved : Option (List (List ℕ))) (settled : List (List ℕ)) (file : List ℕ) → IsServed moved settled file → 9 ≤ length file → take 8 file ≡ (header_of moved).bytes
header_is moved settled file (inl begun) long = header_there moved settled file begun
header_is moved settled file (inr (inl being)) long = header_there moved being.records file being.begun
header_is moved settled file (inr (inr short)) long = absurd (omega (arith, short.0, long))

two_headers : shadowj1.bytes ≡ shadowj2.bytes → ⊥
two_headers e = absurd (omega (arith, ap (λ (l : List ℕ). get_or l 7 0) e))

-- what was read of a header
module _ (settled : List (List ℕ)) (file header : List ℕ) (k : ℕ) (read : header ≡ take k (drop 0 file)) (long : 9 ≤ length header) where
  nine : 9 ≤ length file
  nine = omega (arith, ap length read, length-take k (drop 0 file), length-drop 0 file, long)

  same : take 8 header ≡ take 8 file
  same = ap (take 8) read ∙ take-take 8 k file (omega (arith, ap length read, length-take k (drop 0 file), long))

  pub second_first : (moved : Option (List (List ℕ))) → IsServed moved settled file → take 8 header ≡ shadowj2.bytes → 8 ≡ first_of moved
  second_first None served is = refl
  second_first (Some old) served is = absurd (two_headers (sym (header_is (Some old) settled file served nine) ∙ sym same ∙ is))

  pub first_begins : (moved : Option (List (List ℕ))) → IsServed moved settled file → take 8 header ≡ shadowj1.bytes → IsOldGate moved 8
  first_begins None served is = absurd (two_headers (sym is ∙ same ∙ header_is None settled file served nine))
  first_begins (Some old) served is = record { old = old; was = refl; number = 0; some = omega arith; place = refl }

-- ---- the first record that counts
moved_first : (old : List (List ℕ)) → 14 ≤ first_of (Some old)
moved_first old = omega (arith, end_of-append 8 old (mark ∷ []), end_is_after 8 old)

pub first_gate : (moved : Option (List (List ℕ))) (settled : List (List ℕ)) (place told : ℕ) → place ≡ first_of moved → (place ≡ 8) ⊎ (0 < told) → told ≤ length settled
    → IsGateOf moved settled 0 place
first_gate moved settled place told first sure few = record { some = omega arith; place = first; sure = by sure }
  where
    at_eight : (m : Option (List (List ℕ))) → place ≡ first_of m → place ≡ 8 → IsOpened m settled
    at_eight None f e = inl refl
    at_eight (Some old) f e = absurd (omega (arith, moved_first old, f, e))

    by : (place ≡ 8) ⊎ (0 < told) → IsOpened moved settled
    by (inl e) = at_eight moved first e
    by (inr some) = inr (omega (arith, some, few))
