-- A journal of the first version that is moved: what is written after its closed gate.
use Rattle.std.proofs.Common.{◌≡◌, ◌≢◌, ◌⊎◌, inl, inr, ℕ, ◌+◌, ◌-◌, ◌<◌, ◌≤◌, nat_le, List, [], ◌∷◌, ◌++◌, length, take, get_or, Option, Some, None, refl, sym, ◌∙◌, ap, subst, arith, w32, append_assoc, length-append}
use Rattle.std.specs.Int.{to_be_bytes}
use Rattle.std.specs.List.{AllByRecursion}
use Rattle.std.proofs.lemmas.Bool.{cases_Bool}
use Rattle.std.proofs.lemmas.List.{append-nil, take_at, get_or_at}
use Rattle.exam_edge.specs.Images.{Account, AllImages, AtEachMoment, Grows, IsClean, IsSettled, IsWithin, dropped, latest, overwritten, rewritten, settled, written}
use Rattle.exam_edge.specs.ImageLaws.{dropped_within, goes_on, grows_to, image_of_dropped, image_within, rewritten_clean, started, torn, within_refl, within_trans, within_written, written_within}
use Rattle.answer_journal.specs.Frames.{IsPayload, frames, front, payloads, shadowj1}
use Rattle.answer_journal.specs.FrameLaws.{payloads-front}
use Rattle.answer_journal.specs.Moving.{IsMoving, IsMovingWith, IsUnmoved, IsWritten}
use Rattle.answer_journal.specs.Payload.{end_of}
use Rattle.answer_journal.specs.Reading.{IsRead}
use Rattle.answer_journal.specs.Standing.{IsAsLeft, IsAtRest, IsBeingWritten, Unopened, moved_records, payload_list}
use Rattle.answer_journal.specs.Versions.{after_mark, counted_from, mark}
use Rattle.answer_journal.specs.Walk.{HasRecord}
use Rattle.answer_journal.proofs.Crash.{torn_behind, written_end}
use Rattle.answer_journal.proofs.Ends.{frames-append}
use Rattle.answer_journal.proofs.Switching.{fits-append}
use Rattle.answer_journal.proofs.Syncing.{changed_dropped, latest_dropped}
use Rattle.answer_journal.proofs.VersionLaws.{contents_first, contents_short, short_none}
use Rattle.answer_journal.proofs.Walking.{has_next, next_fits}

some_same : (xs ys : List (List ℕ)) → Some xs ≡ Some ys → xs ≡ ys
some_same xs ys e = cc

-- frames of the first version without a mark, and a closed gate, give their payloads
pub unopened_unmoved : (ps : List (List ℕ)) (file : List ℕ) → AllByRecursion IsPayload ps → after_mark ps ≡ None → Unopened shadowj1 ps file → IsUnmoved ps file
unopened_unmoved ps file fits unmoved u =
    let gives : payloads shadowj1 file ≡ Some ps = ap (payloads shadowj1) u.is ∙ payloads-front shadowj1 ps u.gate u.junk fits u.closed in
    elim (cases_Bool (nat_le (length file) 9)) [
      | inl short ↦ inr (some_same ps [] (sym gives ∙ short_none shadowj1 file short), contents_short file short)
      | inr long ↦ inl (contents_first file ps long gives ∙ ap (λ (o : Option (List (List ℕ))). Some (counted_from ps o)) unmoved)
    ]

-- ---- what a crash leaves while bytes are written after the closed gate
module _ (ps : List (List ℕ)) (byte : ℕ) (closed : byte ≢ 1) (at : ℕ) (at_is : at ≡ length (front shadowj1 ps) + 1) where
  abbrev pub kept : List ℕ
  kept = front shadowj1 ps ++ byte ∷ []

  abbrev pub bound : ℕ → Account
  bound n = written at n (settled kept)

  wider : (n end k : ℕ) → at ≤ end → IsWithin (written end k (bound n)) (bound (n + end + k))
  wider n end k le = record {
    least = omega arith;
    greatest = omega arith;
    untouched = λ p free. (outside p free.0, (within p free.0, tt));
    clean = λ p free. tt;
    same = λ p lt free. refl;
  }
    where
      outside : (p : ℕ) → (p < at) ⊎ (at + (n + end + k) ≤ p) → (p < end) ⊎ (end + k ≤ p)
      outside p (inl lt) = inl (omega (arith, lt, le))
      outside p (inr more) = inr (omega (arith, more))

      within : (p : ℕ) → (p < at) ⊎ (at + (n + end + k) ≤ p) → (p < at) ⊎ (at + n ≤ p)
      within p (inl lt) = inl lt
      within p (inr more) = inr (omega (arith, more))

  unopened : (n : ℕ) → AllImages (Unopened shadowj1 ps) (bound n)
  unopened n file i = torn_behind shadowj1 ps byte closed at n file at_is (torn at n (settled kept) kept file (within_refl (settled kept)) i)

  module _ (n : ℕ) (a0 : List Account) (here : IsWithin (latest a0) (bound n)) (end k : ℕ) (le : at ≤ end) where
    more_within : IsWithin (written end k (latest a0)) (bound (n + end + k))
    more_within = within_trans (written end k (latest a0)) (written end k (bound n)) (bound (n + end + k)) (written_within end k (latest a0) (bound n) here) (wider n end k le)

    pub still_within : (a1 : List Account) → Grows (written end k (latest a0)) a0 a1 → IsWithin (latest a1) (bound (n + end + k))
    still_within a1 g = within_trans (latest a1) (written end k (latest a0)) (bound (n + end + k)) (grows_to (written end k (latest a0)) a0 a1 (within_written end k (latest a0)) g) more_within

    module _ (fits : AllByRecursion IsPayload ps) (unmoved : after_mark ps ≡ None) where
      gives : (m : ℕ) → AllImages (IsUnmoved ps) (bound m)
      gives m file i = unopened_unmoved ps file fits unmoved (unopened m file i)

      pub unmoved_start : AtEachMoment a0 a0 (IsUnmoved ps)
      unmoved_start = started (IsUnmoved ps) a0 (λ file i. gives n file (image_within (latest a0) (bound n) here file i))

      pub unmoved_moments : (a1 : List Account) → Grows (dropped (written end k (latest a0))) a0 a1 → AtEachMoment a0 a1 (IsUnmoved ps)
      unmoved_moments a1 g =
          goes_on (IsUnmoved ps) (dropped (written end k (latest a0))) a0 a0 a1 unmoved_start g
          (λ file i. gives (n + end + k) file (image_within (written end k (latest a0)) (bound (n + end + k)) more_within file (image_of_dropped (written end k (latest a0)) file i)))

    -- a record was being written
    pub left_after : AllByRecursion IsPayload ps → (a1 : List Account) → Grows (dropped (written end k (latest a0))) a0 a1 → IsAsLeft a1
    left_after fits a1 g =
        let m = n + end + k in
        let within : IsWithin (latest a1) (dropped (bound m)) =
        within_trans (latest a1) (dropped (written end k (latest a0))) (dropped (bound m)) (latest_dropped (written end k (latest a0)) a0 a1 (within_written end k (latest a0)) g) (dropped_within (written end k (latest a0)) (bound m) more_within) in
        let stage : IsBeingWritten shadowj1 ps a1 at = record { gate = byte; closed = closed; n = m; within = within } in
        inr (inl (record {
          version = 1;
          doubt = record {
            before = ps;
            payload = mark;
            size = at;
            with_it = at + 5 + length mark;
            doubt = record {
              fits = fits;
              one = record { some = omega arith; few = omega arith };
              size_is = at_is;
              with_is = refl;
              each = λ file i. inl (unopened m file (image_of_dropped (bound m) file (image_within (latest a1) (dropped (bound m)) within file i)));
              stage = inl stage;
            };
          };
        }))

-- ---- the mark is written
module _ (content : List ℕ) (a0 : List Account) (gate : ℕ) (rest : IsAtRest shadowj1 content a0 (gate + 1)) (unmoved : after_mark (payload_list shadowj1 content) ≡ None) where
  abbrev old : List (List ℕ)
  old = payload_list shadowj1 content

  gate_at : gate ≡ length (front shadowj1 old)
  gate_at = omega (arith, rest.size_is, ap length rest.file, length-append (front shadowj1 old) (rest.gate ∷ []))

  place : gate + 1 ≡ length (front shadowj1 old) + 1
  place = omega (arith, gate_at)

  at_first : IsWithin (latest a0) (written (gate + 1) 0 (settled (front shadowj1 old ++ rest.gate ∷ [])))
  at_first =
      let file = front shadowj1 old ++ rest.gate ∷ [] in
      within_trans (latest a0) (settled file) (written (gate + 1) 0 (settled file)) (subst (λ (f : List ℕ). IsWithin (latest a0) (settled f)) rest.file rest.settled) (within_written (gate + 1) 0 (settled file))

  pub mark_moments : (k : ℕ) (a1 : List Account) → Grows (written (gate + 1) k (latest a0)) a0 a1 → AtEachMoment a0 a1 (IsUnmoved old)
  mark_moments k a1 g =
      unmoved_moments old rest.gate rest.closed (gate + 1) place 0 a0 at_first (gate + 1) k (omega arith) rest.fits unmoved a1 (changed_dropped (written (gate + 1) k (latest a0)) a0 a1 g)

  pub mark_written : (c1 : List ℕ) (a1 : List Account) → c1 ≡ overwritten content (gate + 1) (moved_records []) → Grows (written (gate + 1) 5 (latest a0)) a0 a1 → IsMoving old [] c1 a1 gate (gate + 6)
  mark_written c1 a1 is g =
      let whole : c1 ≡ front shadowj1 old ++ rest.gate ∷ moved_records [] =
      is ∙ written_end content (moved_records []) (gate + 1) rest.size_is ∙ ap (λ (l : List ℕ). l ++ moved_records []) rest.file ∙ append_assoc (front shadowj1 old) (rest.gate ∷ []) (moved_records []) in
      record {
        fits = rest.fits;
        unmoved = unmoved;
        more_fit = tt;
        byte = rest.gate;
        closed = rest.closed;
        gate_is = gate_at;
        end_is = omega (arith, gate_at, ap length whole, length-append (front shadowj1 old) (rest.gate ∷ moved_records []));
        is = whole;
        n = 0 + (gate + 1) + 5;
        within = still_within old rest.gate rest.closed (gate + 1) place 0 a0 at_first (gate + 1) 5 (omega arith) a1 g;
      }

-- ---- records are written after it
moved-append : (qs more : List (List ℕ)) → moved_records qs ++ frames more ≡ moved_records (qs ++ more)
moved-append qs more =
    append_assoc (to_be_bytes w32 (length mark)) (mark ++ frames qs) (frames more)
    ∙ ap (λ (l : List ℕ). to_be_bytes w32 (length mark) ++ l) (append_assoc mark (frames qs) (frames more))
    ∙ ap (λ (l : List ℕ). to_be_bytes w32 (length mark) ++ (mark ++ l)) (sym (frames-append qs more))

module _ (ps qs : List (List ℕ)) (content : List ℕ) (a0 : List Account) (gate end : ℕ) (m : IsMoving ps qs content a0 gate end) where
  moving_place : gate + 1 ≡ length (front shadowj1 ps) + 1
  moving_place = omega (arith, m.gate_is)

  moving_size : end ≡ gate + 1 + length (moved_records qs)
  moving_size = omega (arith, m.gate_is, m.end_is, ap length m.is, length-append (front shadowj1 ps) (m.byte ∷ moved_records qs))

  pub ends_after : gate + 1 ≤ end
  ends_after = omega (arith, moving_size)

  pub moving_moments : (k : ℕ) (a1 : List Account) → Grows (dropped (written end k (latest a0))) a0 a1 → AtEachMoment a0 a1 (IsUnmoved ps)
  moving_moments k a1 g = unmoved_moments ps m.byte m.closed (gate + 1) moving_place m.n a0 m.within end k ends_after m.fits m.unmoved a1 g

  pub moving_left : (k : ℕ) (a1 : List Account) → Grows (dropped (written end k (latest a0))) a0 a1 → IsAsLeft a1
  moving_left k a1 g = left_after ps m.byte m.closed (gate + 1) moving_place m.n a0 m.within end k ends_after m.fits a1 g

  -- nothing is written yet
  pub moving_start : AtEachMoment a0 a0 (IsUnmoved ps)
  moving_start = unmoved_start ps m.byte m.closed (gate + 1) moving_place m.n a0 m.within end 0 ends_after m.fits m.unmoved

  -- nothing is suspect
  pub moving_clean : IsClean (latest a0)
  moving_clean p = m.within.clean p tt

  -- bytes are written at the end
  module _ (k : ℕ) (a1 : List Account) (g : Grows (written end k (latest a0)) a0 a1) where
    pub piece_moments : AtEachMoment a0 a1 (IsUnmoved ps)
    piece_moments = moving_moments k a1 (changed_dropped (written end k (latest a0)) a0 a1 g)

    pub piece_left : IsAsLeft a1
    piece_left = moving_left k a1 (changed_dropped (written end k (latest a0)) a0 a1 g)

  -- the frames of more records
  pub records_written : (more : List (List ℕ)) (c1 : List ℕ) (a1 : List Account) → AllByRecursion IsPayload more → c1 ≡ overwritten content end (frames more)
      → Grows (written end (length (frames more)) (latest a0)) a0 a1 → IsMoving ps (qs ++ more) c1 a1 gate (end + length (frames more))
  records_written more c1 a1 fit is g =
      let longer : c1 ≡ content ++ frames more = is ∙ written_end content (frames more) end m.end_is in
      record {
        fits = m.fits;
        unmoved = m.unmoved;
        more_fit = fits-append qs more m.more_fit fit;
        byte = m.byte;
        closed = m.closed;
        gate_is = m.gate_is;
        end_is = omega (arith, m.end_is, ap length longer, length-append content (frames more));
        is = longer
            ∙ ap (λ (l : List ℕ). l ++ frames more) m.is
            ∙ append_assoc (front shadowj1 ps) (m.byte ∷ moved_records qs) (frames more)
            ∙ ap (λ (l : List ℕ). front shadowj1 ps ++ m.byte ∷ l) (moved-append qs more);
        n = m.n + end + length (frames more);
        within = still_within ps m.byte m.closed (gate + 1) moving_place m.n a0 m.within end (length (frames more)) ends_after a1 g;
      }

  -- the closed gate at the end
  pub closed_is : (c1 : List ℕ) → c1 ≡ overwritten content end (0 ∷ []) → c1 ≡ content ++ 0 ∷ []
  closed_is c1 is = is ∙ written_end content (0 ∷ []) end m.end_is

  pub closing_clean : IsClean (rewritten end 1 (latest a0))
  closing_clean = rewritten_clean end 1 (latest a0) moving_clean

  pub closed_written : (c1 : List ℕ) (a1 : List Account) → c1 ≡ content ++ 0 ∷ [] → IsSettled c1 a1 → IsWritten ps qs c1 a1 gate
  closed_written c1 a1 is settles = record {
    fits = m.fits;
    unmoved = m.unmoved;
    more_fit = m.more_fit;
    byte = m.byte;
    closed = m.closed;
    gate_is = m.gate_is;
    is = is ∙ ap (λ (l : List ℕ). l ++ 0 ∷ []) m.is ∙ append_assoc (front shadowj1 ps) (m.byte ∷ moved_records qs) (0 ∷ []);
    settled = settles;
  }

  -- ---- an old record is read
  is_read : IsRead shadowj1 content ps gate
  is_read = record {
    gives = ap (payloads shadowj1) m.is ∙ payloads-front shadowj1 ps m.byte (moved_records qs) m.fits m.closed;
    in_file = omega (arith, ends_after, m.end_is);
    closed = λ e. m.closed (sym (ap (λ (l : List ℕ). get_or l gate 0) m.is ∙ get_or_at (front shadowj1 ps) m.byte (moved_records qs) 0 gate (sym m.gate_is)) ∙ e);
    before = ap (take gate) m.is ∙ take_at (front shadowj1 ps) (m.byte ∷ moved_records qs) gate (sym m.gate_is);
    fits = m.fits;
  }

  module _ (k at : ℕ) (lt : k < length ps) (place_is : at ≡ end_of 8 (take k ps)) where
    pub old_record : HasRecord content at (get_or ps k [])
    old_record = has_next shadowj1 content ps gate is_read k at place_is lt

    pub old_fits : at + 5 + length (get_or ps k []) ≤ gate
    old_fits = next_fits shadowj1 content ps gate is_read k at place_is lt

-- ---- records wait to be written
no_frames : (qs : List (List ℕ)) → frames qs ≡ [] → qs ≡ []
no_frames [] e = refl
no_frames (q ∷ qs) e = absurd (cc)

none_long : (l : List ℕ) → length l ≡ 0 → l ≡ []
none_long [] e = refl
none_long (x ∷ l) e = absurd (omega (arith, e))

frames-one : (p : List ℕ) → 1 ∷ (to_be_bytes w32 (length p) ++ p) ≡ frames (p ∷ [])
frames-one p = ap (λ (l : List ℕ). 1 ∷ l) (sym (append-nil (to_be_bytes w32 (length p) ++ p)))

-- none waits
pub none_waits : (ps qs : List (List ℕ)) (content : List ℕ) (accounts : List Account) (gate end : ℕ) → IsMoving ps qs content accounts gate end → IsMovingWith ps qs content [] accounts gate end
none_waits ps qs content accounts gate end m = record {
  here = qs;
  later = [];
  all = sym (append-nil qs);
  moving = subst (λ (n : ℕ). IsMoving ps qs content accounts gate n) m.end_is m;
  later_fit = tt;
  waiting_is = refl;
  end_is = omega (arith, m.end_is);
}

module _ (ps qs : List (List ℕ)) (content waiting : List ℕ) (a0 : List Account) (gate end : ℕ) (m : IsMovingWith ps qs content waiting a0 gate end) where
  pub waiting_place : end - length waiting ≡ length content
  waiting_place = omega (arith, m.end_is)

  pub waiting_size : end ≡ gate + 1 + length (moved_records qs)
  waiting_size =
      omega (arith, m.end_is, moving_size ps m.here content a0 gate (length content) m.moving, ap length m.waiting_is, ap (λ (l : List (List ℕ)). length (moved_records l)) m.all, ap length (moved-append m.here m.later), length-append (moved_records m.here) (frames m.later))

  -- nothing is written yet
  pub waiting_start : AtEachMoment a0 a0 (IsUnmoved ps)
  waiting_start = moving_start ps m.here content a0 gate (length content) m.moving

  pub waiting_left : IsAsLeft a0
  waiting_left = inl (moving_clean ps m.here content a0 gate (length content) m.moving)

  -- they are written, or a part of them
  module _ (at : ℕ) (a1 : List Account) (g : Grows (written at (length waiting) (latest a0)) a0 a1) (at_is : at ≡ end - length waiting) where
    at_the_end : Grows (written (length content) (length waiting) (latest a0)) a0 a1
    at_the_end = subst (λ (n : ℕ). Grows (written n (length waiting) (latest a0)) a0 a1) (at_is ∙ waiting_place) g

    pub batch_moments : AtEachMoment a0 a1 (IsUnmoved ps)
    batch_moments = piece_moments ps m.here content a0 gate (length content) m.moving (length waiting) a1 at_the_end

    pub batch_left : IsAsLeft a1
    batch_left = piece_left ps m.here content a0 gate (length content) m.moving (length waiting) a1 at_the_end

    pub batch_written : (c1 : List ℕ) → c1 ≡ overwritten content at waiting → IsMoving ps qs c1 a1 gate end
    batch_written c1 is =
        let there : c1 ≡ overwritten content (length content) (frames m.later) = is ∙ ap (λ (n : ℕ). overwritten content n waiting) (at_is ∙ waiting_place) ∙ ap (overwritten content (length content)) m.waiting_is in
        let grows : Grows (written (length content) (length (frames m.later)) (latest a0)) a0 a1 = subst (λ (l : List ℕ). Grows (written (length content) (length l) (latest a0)) a0 a1) m.waiting_is at_the_end in
        let whole = records_written ps m.here content a0 gate (length content) m.moving m.later c1 a1 m.later_fit there grows in
        let size : length content + length (frames m.later) ≡ end = omega (arith, m.end_is, ap length m.waiting_is) in
        subst (λ (n : ℕ). IsMoving ps qs c1 a1 gate n) size (subst (λ (l : List (List ℕ)). IsMoving ps l c1 a1 gate (length content + length (frames m.later))) (sym m.all) whole)

  pub nothing_waits : length waiting ≡ 0 → IsMoving ps qs content a0 gate end
  nothing_waits none =
      let none_later : m.later ≡ [] = no_frames m.later (sym m.waiting_is ∙ none_long waiting none) in
      let all : m.here ≡ qs = sym (m.all ∙ ap (λ (l : List (List ℕ)). m.here ++ l) none_later ∙ append-nil m.here) in
      let size : length content ≡ end = omega (arith, m.end_is, none) in
      subst (λ (n : ℕ). IsMoving ps qs content a0 gate n) size (subst (λ (l : List (List ℕ)). IsMoving ps l content a0 gate (length content)) all m.moving)

  -- one more waits
  pub one_more : (p w1 : List ℕ) (e1 : ℕ) → IsPayload p → w1 ≡ waiting ++ 1 ∷ (to_be_bytes w32 (length p) ++ p) → e1 ≡ end + 5 + length p → IsMovingWith ps (qs ++ p ∷ []) content w1 a0 gate e1
  one_more p w1 e1 one is size = record {
    here = m.here;
    later = m.later ++ p ∷ [];
    all = ap (λ (l : List (List ℕ)). l ++ p ∷ []) m.all ∙ append_assoc m.here m.later (p ∷ []);
    moving = m.moving;
    later_fit = fits-append m.later (p ∷ []) m.later_fit (one, tt);
    waiting_is = is ∙ ap (λ (l : List ℕ). waiting ++ l) (frames-one p) ∙ ap (λ (l : List ℕ). l ++ frames (p ∷ [])) m.waiting_is ∙ sym (frames-append m.later (p ∷ []));
    end_is = omega (arith, size, m.end_is, ap length is, length-append waiting (1 ∷ (to_be_bytes w32 (length p) ++ p)), length-append (to_be_bytes w32 (length p)) p);
  }
