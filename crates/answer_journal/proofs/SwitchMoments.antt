-- The closed gate of a journal of the first version is opened, so that the records after the mark
-- count.
use Rattle.std.proofs.Common.{◌≡◌, inl, inr, ℕ, ◌+◌, ◌≤◌, List, [], ◌∷◌, ◌++◌, length, get_or, Some, false, sym, ◌∙◌, ap, subst, arith, length-append}
use Rattle.std.specs.Prelude.{Result, Ok, Err, OnOk}
use Rattle.std.specs.Result.{is_err}
use Rattle.std.specs.List.{AllByRecursion}
use Rattle.std.proofs.lemmas.Bool.{cases_eq}
use Rattle.exam_edge.specs.Images.{Account, AtEachMoment, Grows, IsClean, IsWithin, dropped, latest, overwritten, rewritten, settled, written}
use Rattle.exam_edge.specs.ImageLaws.{Torn, dropped_within, goes_on, image_of_dropped, joined, only, rewritten_clean, settled_clean, started, torn, weaker, within_trans, within_written, written_within}
use Rattle.answer_journal.specs.Frames.{IsPayload, front, payloads, shadowj1}
use Rattle.answer_journal.specs.FrameLaws.{payloads-front}
use Rattle.answer_journal.specs.Moving.{GivesEither, IsUnmoved, IsWritten}
use Rattle.answer_journal.specs.Standing.{IsAsLeft, moved_records}
use Rattle.answer_journal.specs.Versions.{contents, mark, second}
use Rattle.answer_journal.proofs.Crash.{torn_byte, written_byte}
use Rattle.answer_journal.proofs.MovingMoments.{unopened_unmoved}
use Rattle.answer_journal.proofs.Switching.{fits-append, front-marked}
use Rattle.answer_journal.proofs.Syncing.{latest_dropped}
use Rattle.answer_journal.proofs.VersionLaws.{mark_counts, one_version}

-- a call that did not fail
pub not_err : {T E P : Type 0} (r : Result T E) → is_err r ≡ false → OnOk r P → P
not_err (Ok x) e p = p
not_err (Err x) e p = absurd (cc)

module _ (ps qs : List (List ℕ)) (content : List ℕ) (a0 : List Account) (gate : ℕ) (w : IsWritten ps qs content a0 gate) where
  abbrev tail : List ℕ
  tail = moved_records qs ++ 0 ∷ []

  pub written_size : length content ≡ gate + 1 + length tail
  written_size = omega (arith, w.gate_is, ap length w.is, length-append (front shadowj1 ps) (w.byte ∷ tail))

  -- once the gate is open
  pub switched_gives : (file : List ℕ) → file ≡ front shadowj1 (ps ++ mark ∷ qs) ++ 0 ∷ [] → contents file ≡ Some (second qs)
  switched_gives file is =
      let fits : AllByRecursion IsPayload (ps ++ mark ∷ qs) = fits-append ps (mark ∷ qs) w.fits (record { some = omega arith; few = omega arith }, w.more_fit) in
      let gives : payloads shadowj1 file ≡ Some (ps ++ mark ∷ qs) = ap (payloads shadowj1) is ∙ payloads-front shadowj1 (ps ++ mark ∷ qs) 0 [] fits (λ e. absurd (omega (arith, e))) in
      one_version 1 (ps ++ mark ∷ qs) qs file (mark_counts ps qs w.unmoved) gives

  by_gate : (file : List ℕ) (byte : ℕ) → file ≡ front shadowj1 ps ++ byte ∷ tail → GivesEither ps qs file
  by_gate file byte is = elim (cases_eq byte 1) [
    | inl is_open ↦ inr (switched_gives file (is ∙ ap (λ (b : ℕ). front shadowj1 ps ++ b ∷ tail) is_open ∙ sym (front-marked ps qs)))
    | inr is_shut ↦ inl (unopened_unmoved ps file w.fits w.unmoved (record { gate = byte; junk = tail; closed = is_shut; is = is }))
  ]

  pub switching : (a1 : List Account) → Grows (dropped (written gate 1 (latest a0))) a0 a1 → AtEachMoment a0 a1 (GivesEither ps qs)
  switching a1 g =
      goes_on (GivesEither ps qs) (dropped (written gate 1 (latest a0))) a0 a0 a1
      (started (GivesEither ps qs) a0 (λ file i. by_gate file w.byte (only (latest a0) content file w.settled i ∙ w.is))) g
      (λ file i.
      let t : Torn gate 1 content file = torn gate 1 (latest a0) content file w.settled (image_of_dropped (written gate 1 (latest a0)) file i) in
      by_gate file (get_or file gate 0) (torn_byte (front shadowj1 ps) w.byte tail gate file w.gate_is (subst (λ (f : List ℕ). Torn gate 1 f file) w.is t)))

  -- the gate was being opened
  pub switch_left : (a1 : List Account) → Grows (dropped (written gate 1 (latest a0))) a0 a1 → IsAsLeft a1
  switch_left a1 g =
      let file = front shadowj1 ps ++ w.byte ∷ tail in
      let settles : IsWithin (latest a0) (settled file) = subst (λ (f : List ℕ). IsWithin (latest a0) (settled f)) w.is w.settled in
      let within : IsWithin (latest a1) (dropped (written gate 1 (settled file))) =
      within_trans (latest a1) (dropped (written gate 1 (latest a0))) (dropped (written gate 1 (settled file)))
      (latest_dropped (written gate 1 (latest a0)) a0 a1 (within_written gate 1 (latest a0)) g)
      (dropped_within (written gate 1 (latest a0)) (written gate 1 (settled file)) (written_within gate 1 (latest a0) (settled file) settles)) in
      inr (inr (inr (record {
        before = ps;
        after = qs;
        fits = w.fits;
        after_fits = w.more_fit;
        unmoved = w.unmoved;
        gate = w.byte;
        closed = w.closed;
        within = subst (λ (at : ℕ). IsWithin (latest a1) (dropped (written at 1 (settled file)))) w.gate_is within;
      })))

  pub switched_is : (c1 : List ℕ) → c1 ≡ overwritten content gate (1 ∷ []) → c1 ≡ front shadowj1 (ps ++ mark ∷ qs) ++ 0 ∷ []
  switched_is c1 is =
      is ∙ ap (λ (f : List ℕ). overwritten f gate (1 ∷ [])) w.is ∙ written_byte (front shadowj1 ps) w.byte tail 1 gate w.gate_is ∙ sym (front-marked ps qs)

  pub switched_size : (c1 : List ℕ) → c1 ≡ front shadowj1 (ps ++ mark ∷ qs) ++ 0 ∷ [] → length c1 ≡ length content
  switched_size c1 is = omega (arith, written_size, w.gate_is, ap length (is ∙ front-marked ps qs), length-append (front shadowj1 ps) (1 ∷ tail))

  pub switch_clean : IsClean (rewritten gate 1 (latest a0))
  switch_clean = rewritten_clean gate 1 (latest a0) (settled_clean (latest a0) content w.settled)

  pub gate_in_file : gate ≤ length content
  gate_in_file = omega (arith, written_size)

-- the gate at the end is written, and then the one before the mark
pub closed_then : (ps qs : List (List ℕ)) (a0 a1 : List Account) → AtEachMoment a0 a1 (IsUnmoved ps) → AtEachMoment a0 a1 (GivesEither ps qs)
closed_then ps qs a0 a1 moments = weaker (IsUnmoved ps) (GivesEither ps qs) (λ file is. inl is) a0 a1 moments

pub both_then : (ps qs : List (List ℕ)) (a0 a1 a2 : List Account) → AtEachMoment a0 a1 (IsUnmoved ps) → AtEachMoment a1 a2 (GivesEither ps qs) → AtEachMoment a0 a2 (GivesEither ps qs)
both_then ps qs a0 a1 a2 first then = joined (GivesEither ps qs) a0 a1 a2 (closed_then ps qs a0 a1 first) then
