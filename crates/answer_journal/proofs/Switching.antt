-- A file of the first version whose gate that moves it was being opened.
use Rattle.std.proofs.Common.{◌≡◌, ◌≢◌, ℕ, ◌+◌, ◌<◌, ◌≤◌, List, [], ◌∷◌, ◌++◌, length, take, get_or, Option, Some, None, unwrap_or, refl, sym, ◌∙◌, ap, arith, append_assoc, length-append}
use Rattle.std.specs.List.{AllByRecursion}
use Rattle.std.proofs.lemmas.List.{take_at}
use Rattle.exam_edge.specs.Images.{Account, IsClean, IsImage, IsWithin, latest, settled, written, renewed, dropped}
use Rattle.exam_edge.specs.ImageLaws.{torn, within_refl, image_within, image_of_dropped}
use Rattle.answer_journal.specs.Frames.{IsPayload, shadowj1, frames, front, payloads}
use Rattle.answer_journal.specs.FrameLaws.{payloads-front}
use Rattle.answer_journal.specs.Payload.{end_of}
use Rattle.answer_journal.specs.Standing.{payload_list, moved_records, IsBeingSwitched}
use Rattle.answer_journal.specs.Versions.{mark, after_mark, second, uncounted, first_place}
use Rattle.answer_journal.proofs.Passing.{counted-moved, counted-unmoved, marked-after, uncounted-by}
use Rattle.answer_journal.proofs.Crash.{torn_byte}
use Rattle.answer_journal.proofs.Ends.{end_of-append, frames-append, front_ends}
use Rattle.answer_journal.proofs.Naming.{front_starts}
use Rattle.answer_journal.proofs.Staging.{one_place_clean}

pub fits-append : (ps qs : List (List ℕ)) → AllByRecursion IsPayload ps → AllByRecursion IsPayload qs → AllByRecursion IsPayload (ps ++ qs)
fits-append [] qs a b = b
fits-append (p ∷ ps) qs a b = (a.0, fits-append ps qs a.1 b)

-- frames of payloads before the mark, of the mark, and of payloads after it
pub front-marked : (ps qs : List (List ℕ)) → front shadowj1 (ps ++ mark ∷ qs) ++ 0 ∷ [] ≡ front shadowj1 ps ++ 1 ∷ (moved_records qs ++ 0 ∷ [])
front-marked ps qs =
    ap (λ (l : List ℕ). shadowj1.bytes ++ l ++ 0 ∷ []) (frames-append ps (mark ∷ qs))
    ∙ ap (λ (l : List ℕ). l ++ 0 ∷ []) (sym (append_assoc shadowj1.bytes (frames ps) (frames (mark ∷ qs))))
    ∙ append_assoc (front shadowj1 ps) (frames (mark ∷ qs)) (0 ∷ [])

-- so many payloads up to the mark, and the place after them
module _ (ps qs : List (List ℕ)) (unmoved : after_mark ps ≡ None) where
  uncounted-marked : uncounted 1 (ps ++ mark ∷ qs) ≡ length ps + 1
  uncounted-marked =
      omega (arith, uncounted-by 1 (ps ++ mark ∷ qs) (second qs) (counted-moved 1 (ps ++ mark ∷ qs) qs refl (marked-after ps qs unmoved)), length-append ps (mark ∷ qs))

  pub first-marked : first_place 1 (ps ++ mark ∷ qs) ≡ length (front shadowj1 ps) + 6
  first-marked =
      let n = uncounted 1 (ps ++ mark ∷ qs) in
      let kept : take n (ps ++ mark ∷ qs) ≡ ps ++ mark ∷ [] =
      ap (take n) (sym (append_assoc ps (mark ∷ []) qs)) ∙ take_at (ps ++ mark ∷ []) qs n (omega (arith, uncounted-marked, length-append ps (mark ∷ []))) in
      omega (arith, ap (end_of 8) kept ∙ end_of-append 8 ps (mark ∷ []), front_ends shadowj1 ps)

module _ {a : List Account} (s : IsBeingSwitched a) where
  abbrev pub behind_mark : List ℕ
  behind_mark = moved_records s.after ++ 0 ∷ []

  abbrev whole : List ℕ
  whole = front shadowj1 s.before ++ s.gate ∷ behind_mark

  abbrev pub gate_place : ℕ
  gate_place = length (front shadowj1 s.before)

  abbrev pub switching : Account
  switching = written gate_place 1 (settled whole)

  pub gate_after_header : 8 ≤ gate_place
  gate_after_header = omega (arith, length-append shadowj1.bytes (frames s.before))

  whole_long : gate_place < length whole
  whole_long = omega (arith, length-append (front shadowj1 s.before) (s.gate ∷ behind_mark))

  pub gate_renewed : (l : Account) → IsWithin l (dropped switching) → IsClean (renewed gate_place 1 l)
  gate_renewed l within = one_place_clean whole gate_place l whole_long within

  pub mark_place : first_place 1 (s.before ++ mark ∷ s.after) ≡ gate_place + 6
  mark_place = first-marked s.before s.after s.unmoved

  pub unmoved_none : uncounted 1 s.before ≡ 0
  unmoved_none = omega (arith, uncounted-by 1 s.before (record { version = 1; payloads = s.before }) (counted-unmoved 1 s.before refl s.unmoved))

-- what a read gives
module _ (content : List ℕ) (a : List Account) (image : IsImage (latest a) content) (s : IsBeingSwitched a) where
  reads : content ≡ front shadowj1 s.before ++ get_or content (gate_place s) 0 ∷ behind_mark s
  reads =
      let file = whole s in
      let left : IsImage (switching s) content = image_of_dropped (switching s) content (image_within (latest a) (dropped (switching s)) s.within content image) in
      torn_byte (front shadowj1 s.before) s.gate (behind_mark s) (gate_place s) content refl (torn (gate_place s) 1 (settled file) file content (within_refl (settled file)) left)

  pub gate_in_file : gate_place s < length content
  gate_in_file = omega (arith, ap length reads, length-append (front shadowj1 s.before) (get_or content (gate_place s) 0 ∷ behind_mark s))

  pub switched_starts : take 8 content ≡ shadowj1.bytes
  switched_starts = front_starts shadowj1 s.before (get_or content (gate_place s) 0 ∷ behind_mark s) content reads

  listed : (ps : List (List ℕ)) → payloads shadowj1 content ≡ Some ps → payload_list shadowj1 content ≡ ps
  listed ps gives = ap (λ (o : Option (List (List ℕ))). unwrap_or o []) gives

  pub open_list : get_or content (gate_place s) 0 ≡ 1 → payload_list shadowj1 content ≡ s.before ++ mark ∷ s.after
  open_list is_open =
      let all = s.before ++ mark ∷ s.after in
      let file : content ≡ front shadowj1 all ++ 0 ∷ [] =
      reads ∙ ap (λ (g : ℕ). front shadowj1 s.before ++ g ∷ behind_mark s) is_open ∙ sym (front-marked s.before s.after) in
      let mark_fits : IsPayload mark = record { some = omega arith; few = omega arith } in
      listed all (ap (payloads shadowj1) file ∙ payloads-front shadowj1 all 0 [] (fits-append s.before (mark ∷ s.after) s.fits (mark_fits, s.after_fits)) (λ e. absurd (omega (arith, e))))

  pub shut_list : get_or content (gate_place s) 0 ≢ 1 → payload_list shadowj1 content ≡ s.before
  shut_list shut =
      listed s.before (ap (payloads shadowj1) reads ∙ payloads-front shadowj1 s.before (get_or content (gate_place s) 0) (behind_mark s) s.fits shut)
