-- What may be suspect while a record is added or mended.
use Rattle.std.proofs.Common.{◌≡◌, ◌≢◌, ◌⊎◌, inl, inr, ℕ, ◌+◌, ◌-◌, ◌<◌, ◌≤◌, List, [], ◌∷◌, ◌++◌, length, take, drop, take-append-drop, get_or, refl, sym, ◌∙◌, ap, subst, arith, append_assoc, length-append}
use Rattle.std.proofs.lemmas.List.{get_or_append_left, drop-drop}
use Rattle.std.proofs.lemmas.Bool.{cases_lt, cases_eq}
use Rattle.exam_edge.specs.Images.{Account, IsUntouched, IsImage, IsWithin, IsClean, IsSettled, AllImages, settled, written, cut_to, renewed, rewritten, shortened, dropped, overwritten, latest, Grows, AtEachMoment}
use Rattle.exam_edge.specs.ImageLaws.{torn, within_refl, within_trans, within_written, within_cut, within_dropped, dropped_within, dropped_twice, written_within, cut_within, image_within, image_of_dropped, settled_clean, rewritten_clean, without_keeps, without_clears, below_keeps, below_clears, grows_to, goes_on}
use Rattle.answer_journal.specs.Frames.{FileHeader, frame_of, front}
use Rattle.answer_journal.specs.Standing.{IsAtRest, IsStaged, Unopened, IsBeingWritten, IsBeingOpened, payload_list}
use Rattle.answer_journal.proofs.Crash.{torn_behind}
use Rattle.answer_journal.proofs.Syncing.{latest_dropped}

-- a sync that fails leaves a settled file settled
between_length : (n p : ℕ) → (p < n) ⊎ (n ≤ p)
between_length n p = cases_lt p n

pub dropped_settled : (bytes : List ℕ) → IsWithin (dropped (settled bytes)) (settled bytes)
dropped_settled bytes = record { least = omega arith; greatest = omega arith; untouched = λ p free. free; clean = λ p free. (between_length (length bytes) p, tt); same = λ p lt free. refl }

pub still_settled : (bytes : List ℕ) (a0 a1 : List Account) → IsSettled bytes a0 → Grows (dropped (latest a0)) a0 a1 → IsSettled bytes a1
still_settled bytes a0 a1 settles g =
    within_trans (latest a1) (dropped (latest a0)) (settled bytes) (grows_to (dropped (latest a0)) a0 a1 (within_dropped (latest a0)) g)
    (within_trans (dropped (latest a0)) (dropped (settled bytes)) (settled bytes) (dropped_within (latest a0) (settled bytes) settles) (dropped_settled bytes))

pub same_settled : (bytes : List ℕ) (a0 a1 : List Account) → IsSettled bytes a0 → Grows (latest a0) a0 a1 → IsSettled bytes a1
same_settled bytes a0 a1 settles g = within_trans (latest a1) (latest a0) (settled bytes) (grows_to (latest a0) a0 a1 (within_refl (latest a0)) g) settles

-- what a sync that fails leaves of a bound that one has failed in
pub kept_in : (bound : Account) (a0 a1 : List Account) → IsWithin (latest a0) (dropped bound) → Grows (dropped (latest a0)) a0 a1 → IsWithin (latest a1) (dropped bound)
kept_in bound a0 a1 w g =
    within_trans (latest a1) (dropped (latest a0)) (dropped bound) (grows_to (dropped (latest a0)) a0 a1 (within_dropped (latest a0)) g)
    (within_trans (dropped (latest a0)) (dropped (dropped bound)) (dropped bound) (dropped_within (latest a0) (dropped bound) w) (dropped_twice bound))

pub dropped_moments : (P : List ℕ → Type 0) (a0 a1 a2 : List Account) → AtEachMoment a0 a1 P → AllImages P (latest a1) → Grows (dropped (latest a1)) a1 a2 → AtEachMoment a0 a2 P
dropped_moments P a0 a1 a2 so_far here g = goes_on P (dropped (latest a1)) a0 a1 a2 so_far g (λ file i. here file (image_of_dropped (latest a1) file i))

-- where one byte of a settled file was being written, that byte written again leaves nothing
-- suspect
pub one_place_clean : (whole : List ℕ) (at : ℕ) (l : Account) → at < length whole → IsWithin l (dropped (written at 1 (settled whole))) → IsClean (renewed at 1 l)
one_place_clean whole at l lt within p = elim (cases_eq p at) [
  | inl here ↦ without_clears at 1 l.suspect p (omega (arith, here)) (omega (arith, here))
  | inr other ↦ without_keeps at 1 l.suspect p (within.clean p (in_length p, (outside p other, tt)))
]
  where
    outside : (k : ℕ) → k ≢ at → (k < at) ⊎ (at + 1 ≤ k)
    outside k other = elim (cases_lt k at) [ inl below ↦ inl below | inr le ↦ inr (omega (arith, le, other)) ]

    in_length : (k : ℕ) → (k < (dropped (written at 1 (settled whole))).least) ⊎ ((dropped (written at 1 (settled whole))).greatest ≤ k)
    in_length k = elim (cases_lt k (length whole)) [
      | inl below ↦ inl below
      | inr le ↦ inr (omega (arith, le, lt))
    ]

module _ (h : FileHeader) where
  -- ---- a record is added
  module _ (content : List ℕ) (a0 : List Account) (size : ℕ) (rest : IsAtRest h content a0 size) where
    pub being_written : (n : ℕ) (a1 : List Account) → Grows (dropped (written size n (latest a0))) a0 a1 → IsBeingWritten h (payload_list h content) a1 size
    being_written n a1 g =
        let file = front h (payload_list h content) ++ rest.gate ∷ [] in
        let settles : IsWithin (latest a0) (settled file) = subst (λ (f : List ℕ). IsWithin (latest a0) (settled f)) rest.file rest.settled in
        record {
          gate = rest.gate;
          closed = rest.closed;
          n = n;
          within = within_trans (latest a1) (dropped (written size n (latest a0))) (dropped (written size n (settled file)))
              (latest_dropped (written size n (latest a0)) a0 a1 (within_written size n (latest a0)) g)
              (dropped_within (written size n (latest a0)) (written size n (settled file)) (written_within size n (latest a0) (settled file) settles));
        }

    pub rest_clean : (at n : ℕ) → IsClean (rewritten at n (latest a0))
    rest_clean at n = rewritten_clean at n (latest a0) (settled_clean (latest a0) content rest.settled)

  module _ (ps : List (List ℕ)) (payload content : List ℕ) (a0 : List Account) (size : ℕ) (s : IsStaged h ps payload content a0 size) where
    pub being_opened : (a1 : List Account) → Grows (dropped (written (size - 1) 1 (latest a0))) a0 a1 → IsBeingOpened h ps payload a1 size
    being_opened a1 g =
        let file = front h ps ++ s.gate ∷ frame_of payload in
        let at = size - 1 in
        let settles : IsWithin (latest a0) (settled file) = subst (λ (f : List ℕ). IsWithin (latest a0) (settled f)) s.file s.settled in
        record {
          gate = s.gate;
          closed = s.closed;
          within = within_trans (latest a1) (dropped (written at 1 (latest a0))) (dropped (written at 1 (settled file)))
              (latest_dropped (written at 1 (latest a0)) a0 a1 (within_written at 1 (latest a0)) g)
              (dropped_within (written at 1 (latest a0)) (written at 1 (settled file)) (written_within at 1 (latest a0) (settled file) settles));
        }

    pub staged_clean : (at n : ℕ) → IsClean (rewritten at n (latest a0))
    staged_clean at n = rewritten_clean at n (latest a0) (settled_clean (latest a0) content s.settled)

  -- ---- a record is mended, whose frame may be suspect
  module _ (ps : List (List ℕ)) (size : ℕ) (size_is : size ≡ length (front h ps) + 1) (a0 : List Account) (w : IsBeingWritten h ps a0 size) where
    abbrev kept : List ℕ
    kept = front h ps ++ w.gate ∷ []

    abbrev bound : Account
    bound = written size w.n (settled kept)

    long : length kept ≡ size
    long = omega (arith, length-append (front h ps) (w.gate ∷ []), size_is)

    -- its gate is closed on the disk
    unopened_in : (l : Account) → IsWithin l (dropped bound) → AllImages (Unopened h ps) l
    unopened_in l within file i =
        let image : IsImage bound file = image_of_dropped bound file (image_within l (dropped bound) within file i) in
        torn_behind h ps w.gate w.closed size w.n file size_is (torn size w.n (settled kept) kept file (within_refl (settled kept)) image)

    pub written_unopened : AllImages (Unopened h ps) (latest a0)
    written_unopened = unopened_in (latest a0) w.within

    pub kept_written : (a1 : List Account) → Grows (latest a0) a0 a1 → IsBeingWritten h ps a1 size
    kept_written a1 g = record { gate = w.gate; closed = w.closed; n = w.n; within = within_trans (latest a1) (latest a0) (dropped bound) (grows_to (latest a0) a0 a1 (within_refl (latest a0)) g) w.within }

    pub written_still : (a1 : List Account) → Grows (dropped (latest a0)) a0 a1 → IsBeingWritten h ps a1 size
    written_still a1 g = record { gate = w.gate; closed = w.closed; n = w.n; within = kept_in bound a0 a1 w.within g }

    -- the cut leaves nothing suspect
    pub cut_clean : IsClean (shortened size (latest a0))
    cut_clean p = elim (cases_lt p size) [
      | inl lt ↦
          let here : IsUntouched (dropped bound).suspect p = (inl (omega (arith, lt, long)), (inl lt, tt)) in
          below_keeps size (latest a0).suspect p (w.within.clean p here)
      | inr le ↦ below_clears size (latest a0).suspect p le
    ]

    cut_in : IsWithin (cut_to size (latest a0)) (dropped bound)
    cut_in = record {
      least = omega (arith, w.within.least, long);
      greatest = w.within.greatest;
      untouched = w.within.untouched;
      clean = w.within.clean;
      same = λ p lt free. w.within.same p lt free;
    }

    pub cut_still : (a1 : List Account) → Grows (dropped (cut_to size (latest a0))) a0 a1 → IsBeingWritten h ps a1 size
    cut_still a1 g = record {
      gate = w.gate;
      closed = w.closed;
      n = w.n;
      within = within_trans (latest a1) (dropped (cut_to size (latest a0))) (dropped bound)
          (latest_dropped (cut_to size (latest a0)) a0 a1 (within_cut size (latest a0)) g)
          (within_trans (dropped (cut_to size (latest a0))) (dropped (dropped bound)) (dropped bound) (dropped_within (cut_to size (latest a0)) (dropped bound) cut_in) (dropped_twice bound));
    }

    pub cut_images : AllImages (Unopened h ps) (dropped (cut_to size (latest a0)))
    cut_images file i = unopened_in (cut_to size (latest a0)) cut_in file (image_of_dropped (cut_to size (latest a0)) file i)

  -- ---- a record is mended, whose gate may be suspect
  module _ (ps : List (List ℕ)) (payload : List ℕ) (size : ℕ) (size_is : size ≡ length (front h ps) + 1) (a0 : List Account) (o : IsBeingOpened h ps payload a0 size) where
    abbrev whole : List ℕ
    whole = front h ps ++ o.gate ∷ frame_of payload

    abbrev opening_bound : Account
    opening_bound = written (size - 1) 1 (settled whole)

    pub opened_still : (a1 : List Account) → Grows (dropped (latest a0)) a0 a1 → IsBeingOpened h ps payload a1 size
    opened_still a1 g = record { gate = o.gate; closed = o.closed; within = kept_in opening_bound a0 a1 o.within g }

    pub kept_opened : (a1 : List Account) → Grows (latest a0) a0 a1 → IsBeingOpened h ps payload a1 size
    kept_opened a1 g = record { gate = o.gate; closed = o.closed; within = within_trans (latest a1) (latest a0) (dropped opening_bound) (grows_to (latest a0) a0 a1 (within_refl (latest a0)) g) o.within }

    -- the gate written again leaves nothing suspect
    pub gate_clean : IsClean (renewed (size - 1) 1 (latest a0))
    gate_clean = one_place_clean whole (size - 1) (latest a0) (omega (arith, size_is, length-append (front h ps) (o.gate ∷ frame_of payload))) o.within

-- ---- once the gate is on the disk
module _ (h : FileHeader) (ps : List (List ℕ)) (size : ℕ) (size_is : size ≡ length (front h ps) + 1) (content : List ℕ) (u : Unopened h ps content) (a1 : List Account) (settles : IsSettled content a1) where
  abbrev closed_bound : Account
  closed_bound = written size (length u.junk) (settled (front h ps ++ u.gate ∷ []))

  content_is : content ≡ (front h ps ++ u.gate ∷ []) ++ u.junk
  content_is = u.is ∙ sym (append_assoc (front h ps) (u.gate ∷ []) u.junk)

  size_of : length (front h ps ++ u.gate ∷ []) ≡ size
  size_of = omega (arith, length-append (front h ps) (u.gate ∷ []), size_is)

  cut_bound : IsWithin (dropped (cut_to size (settled content))) (dropped closed_bound)
  cut_bound = record {
    least = omega (arith, size_of, ap length content_is, length-append (front h ps ++ u.gate ∷ []) u.junk);
    greatest = omega (arith, size_of, ap length content_is, length-append (front h ps ++ u.gate ∷ []) u.junk);
    untouched = λ p free. tt;
    clean = λ p free. (between p free.0, tt);
    same = λ p lt free. ap (λ (l : List ℕ). get_or l p 0) content_is ∙ get_or_append_left (front h ps ++ u.gate ∷ []) u.junk 0 p lt;
  }
    where
      between : (p : ℕ) → (p < closed_bound.least) ⊎ (closed_bound.greatest ≤ p) → (p < (cut_to size (settled content)).least) ⊎ ((cut_to size (settled content)).greatest ≤ p)
      between p (inl lt) = inl (omega (arith, lt, size_of, ap length content_is, length-append (front h ps ++ u.gate ∷ []) u.junk))
      between p (inr le) = inr (omega (arith, le, size_of, ap length content_is, length-append (front h ps ++ u.gate ∷ []) u.junk))

  -- a cut that was not synced leaves the record as one that was being written
  pub closed_still : (a2 : List Account) → Grows (dropped (cut_to size (latest a1))) a1 a2 → IsBeingWritten h ps a2 size
  closed_still a2 g = record {
    gate = u.gate;
    closed = u.closed;
    n = length u.junk;
    within = within_trans (latest a2) (dropped (cut_to size (latest a1))) (dropped closed_bound)
        (latest_dropped (cut_to size (latest a1)) a1 a2 (within_cut size (latest a1)) g)
        (within_trans (dropped (cut_to size (latest a1))) (dropped (cut_to size (settled content))) (dropped closed_bound)
        (dropped_within (cut_to size (latest a1)) (cut_to size (settled content)) (cut_within size (latest a1) (settled content) settles)) cut_bound);
  }

-- ---- a byte that was written again as it reads
pub same_bytes : (file : List ℕ) (at : ℕ) (bytes : List ℕ) → bytes ≡ take 1 (drop at file) → length bytes ≡ 1 → overwritten file at bytes ≡ file
same_bytes file at bytes is one =
    ap (λ (l : List ℕ). take at file ++ l ++ drop (at + length bytes) file) is
    ∙ ap (λ (k : ℕ). take at file ++ take 1 (drop at file) ++ drop (at + k) file) one
    ∙ append_assoc (take at file) (take 1 (drop at file)) (drop (at + 1) file)
    ∙ ap (λ (l : List ℕ). take at file ++ (take 1 (drop at file) ++ l)) (sym (drop-drop 1 at file))
    ∙ ap (λ (l : List ℕ). take at file ++ l) (take-append-drop 1 (drop at file))
    ∙ take-append-drop at file
