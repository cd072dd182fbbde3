-- What opening settles of a disk that a journal left.
use Rattle.std.proofs.Common.{◌≡◌, ◌⊎◌, inl, inr, ℕ, ◌+◌, ◌-◌, ◌<◌, ◌≤◌, List, [], ◌∷◌, ◌++◌, length, take, get_or, Option, Some, unwrap_or, refl, sym, ◌∙◌, ap, subst, arith, length-append, length-take}
use Rattle.std.proofs.lemmas.Bool.{cases_eq, cases_lt, eqb-true}
use Rattle.std.proofs.lemmas.List.{take_at}
use Rattle.exam_edge.specs.Images.{Account, IsUntouched, IsClean, IsImage, IsSettled, IsWithin, AllImages, AtEachMoment, latest, settled, written, cut_to, renewed, rewritten, shortened, dropped, Grows}
use Rattle.exam_edge.specs.ImageLaws.{image_within, image_of_dropped, within_refl, within_trans, within_cut, dropped_within, dropped_twice, clean_within, settled_clean, rewritten_clean, shortened_clean, without_keeps, without_clears, grows_to, started, goes_on, still}
use Rattle.answer_journal.specs.Frames.{FileHeader, shadowj1, frame_of, frames, front, payloads}
use Rattle.answer_journal.specs.FrameLaws.{fits-push, payloads-front}
use Rattle.answer_journal.specs.Opening.{AreGatesSettled, last_gate}
use Rattle.answer_journal.specs.Payload.{end_of}
use Rattle.answer_journal.specs.Reading.{IsRead}
use Rattle.answer_journal.specs.Standing.{payload_list, moved_records, Unopened, IsEither, IsStage, IsInDoubt, IsBeingWritten, IsBeingOpened, HasDoubt, HasSomeDoubt, IsBeingMade, IsBeingSwitched, IsInterrupted, IsAsLeft, IsSettledOrInterrupted}
use Rattle.answer_journal.specs.StandingLaws.{unopened_gives}
use Rattle.answer_journal.specs.Versions.{header, uncounted, first_place}
use Rattle.answer_journal.proofs.Crash.{gate_tells, length-either}
use Rattle.answer_journal.proofs.Ends.{end_is, front_ends}
use Rattle.answer_journal.proofs.Lasting.{length-frame_of, doubtful_still}
use Rattle.answer_journal.proofs.Naming.{either_starts, read_starts, one_header, first_named}
use Rattle.answer_journal.proofs.Staging.{written_unopened, written_still, opened_still, kept_written, kept_opened, kept_in, cut_clean, gate_clean, same_settled, still_settled, dropped_moments}
use Rattle.answer_journal.proofs.Switching.{switching, behind_mark, gate_place, gate_after_header, gate_in_file, gate_renewed, switched_starts, open_list, shut_list, mark_place, unmoved_none}
use Rattle.answer_journal.proofs.Syncing.{latest_dropped}
use Rattle.answer_journal.proofs.Tidying.{short_gives}

-- what is clean stays so
pub clean_kept : (a0 a1 : List Account) → IsClean (latest a0) → Grows (latest a0) a0 a1 → IsClean (latest a1)
clean_kept a0 a1 clean g = clean_within (latest a1) (latest a0) (grows_to (latest a0) a0 a1 (within_refl (latest a0)) g) clean

within_kept : (bound : Account) (a0 a1 : List Account) → IsWithin (latest a0) bound → Grows (latest a0) a0 a1 → IsWithin (latest a1) bound
within_kept bound a0 a1 w g = within_trans (latest a1) (latest a0) bound (grows_to (latest a0) a0 a1 (within_refl (latest a0)) g) w

-- ---- a record in doubt
module _ (h : FileHeader) (a0 a1 : List Account) (x : HasDoubt h a0) where
  abbrev P : List ℕ → Type 0
  P = IsEither h x.before x.payload

  doubt_on : AtEachMoment a0 a1 P → IsStage h x.before x.payload a1 x.size → HasDoubt h a1
  doubt_on moments stage = record { before = x.before; payload = x.payload; size = x.size; with_it = x.with_it; doubt = doubtful_still h x.before x.payload a0 a1 x.size x.with_it x.doubt moments stage }

  -- after a call that leaves no more than there was
  pub doubt_kept : Grows (latest a0) a0 a1 → HasDoubt h a1
  doubt_kept g =
      doubt_on (still P a0 a0 a1 (started P a0 x.doubt.each) g)
      (elim x.doubt.stage [
        | inl w ↦ inl (kept_written h x.before x.size x.doubt.size_is a0 w a1 g)
        | inr o ↦ inr (kept_opened h x.before x.payload x.size x.doubt.size_is a0 o a1 g)
      ])

  -- after a sync that may have failed
  doubt_still : Grows (dropped (latest a0)) a0 a1 → HasDoubt h a1
  doubt_still g =
      doubt_on (dropped_moments P a0 a0 a1 (started P a0 x.doubt.each) x.doubt.each g)
      (elim x.doubt.stage [
        | inl w ↦ inl (written_still h x.before x.size x.doubt.size_is a0 w a1 g)
        | inr o ↦ inr (opened_still h x.before x.payload x.size x.doubt.size_is a0 o a1 g)
      ])

-- ---- an interruption
pub switched_on : (a0 a1 : List Account) (s : IsBeingSwitched a0) → IsWithin (latest a1) (dropped (switching s)) → IsBeingSwitched a1
switched_on a0 a1 s within = record {
  before = s.before;
  after = s.after;
  fits = s.fits;
  after_fits = s.after_fits;
  unmoved = s.unmoved;
  gate = s.gate;
  closed = s.closed;
  within = within;
}

module _ (a0 a1 : List Account) (doubt : (h : FileHeader) → HasDoubt h a0 → HasDoubt h a1) (on : (bound : Account) → IsWithin (latest a0) (dropped bound) → IsWithin (latest a1) (dropped bound)) where
  interrupted_on : IsInterrupted a0 → IsInterrupted a1
  interrupted_on (inl x) = inl (record { version = x.version; doubt = doubt (header x.version) x.doubt })
  interrupted_on (inr (inl m)) = inr (inl (record { bytes = m.bytes; few = m.few; within = on (written 0 9 (settled m.bytes)) m.within }))
  interrupted_on (inr (inr s)) = inr (inr (switched_on a0 a1 s (on (switching s) s.within)))

interrupted_kept : (a0 a1 : List Account) → IsInterrupted a0 → Grows (latest a0) a0 a1 → IsInterrupted a1
interrupted_kept a0 a1 x g = interrupted_on a0 a1 (λ h d. doubt_kept h a0 a1 d g) (λ bound w. within_kept (dropped bound) a0 a1 w g) x

interrupted_still : (a0 a1 : List Account) → IsInterrupted a0 → Grows (dropped (latest a0)) a0 a1 → IsInterrupted a1
interrupted_still a0 a1 x g = interrupted_on a0 a1 (λ h d. doubt_still h a0 a1 d g) (λ bound w. kept_in bound a0 a1 w g) x

pub switching_kept : (a0 a1 : List Account) → IsBeingSwitched a0 → Grows (latest a0) a0 a1 → IsBeingSwitched a1
switching_kept a0 a1 s g = switched_on a0 a1 s (within_kept (dropped (switching s)) a0 a1 s.within g)

pub left_synced : (content : List ℕ) (a0 a1 : List Account) → IsAsLeft a0 → (IsClean (latest a0) → IsSettled content a1) → Grows (latest a0) a0 a1 → IsSettledOrInterrupted content a1
left_synced content a0 a1 (inl clean) settles g = inl (settles clean)
left_synced content a0 a1 (inr x) settles g = inr (interrupted_kept a0 a1 x g)

pub left_kept : (content : List ℕ) (a0 a1 : List Account) → IsSettledOrInterrupted content a0 → Grows (latest a0) a0 a1 → IsSettledOrInterrupted content a1
left_kept content a0 a1 (inl settles) g = inl (same_settled content a0 a1 settles g)
left_kept content a0 a1 (inr x) g = inr (interrupted_kept a0 a1 x g)

pub left_still : (content : List ℕ) (a0 a1 : List Account) → IsSettledOrInterrupted content a0 → Grows (dropped (latest a0)) a0 a1 → IsSettledOrInterrupted content a1
left_still content a0 a1 (inl settles) g = inl (still_settled content a0 a1 settles g)
left_still content a0 a1 (inr x) g = inr (interrupted_still a0 a1 x g)

pub left_over : (content content1 : List ℕ) (a a1 : List Account) → content1 ≡ content → a1 ≡ a → IsSettledOrInterrupted content a → IsSettledOrInterrupted content1 a1
left_over content content1 a a1 same_content same_accounts left =
    subst (λ (f : List ℕ). IsSettledOrInterrupted f a1) (sym same_content) (subst (IsSettledOrInterrupted content) (sym same_accounts) left)

-- ---- a file of at most nine bytes
module _ (content : List ℕ) (a0 : List Account) (image : IsImage (latest a0) content) where
  -- a cut to the length that a read gives leaves no more than there was
  own_cut : IsWithin (cut_to (length content) (latest a0)) (latest a0)
  own_cut = record { least = omega (arith, image.least); greatest = omega arith; untouched = λ p free. free; clean = λ p free. free; same = λ p lt free. refl }

  pub own_length : AllImages (IsImage (latest a0)) (dropped (cut_to (length content) (latest a0)))
  own_length file i = image_within (cut_to (length content) (latest a0)) (latest a0) own_cut file (image_of_dropped (cut_to (length content) (latest a0)) file i)

  module _ (few : length content ≤ 9) where
    -- the record of a gate that is being opened is on the disk: such a file is longer
    not_opened : (h : FileHeader) (ps : List (List ℕ)) (payload : List ℕ) (size : ℕ) → IsBeingOpened h ps payload a0 size → ⊥
    not_opened h ps payload size o =
        absurd (omega (arith, o.within.least, image.least, few, length-append (front h ps) (o.gate ∷ frame_of payload), length-frame_of payload, length-append h.bytes (frames ps), h.eight))

    not_switched : IsBeingSwitched a0 → ⊥
    not_switched s =
        absurd (omega (arith, s.within.least, image.least, few, length-append (front shadowj1 s.before) (s.gate ∷ behind_mark s), length-append (moved_records s.after) (0 ∷ []), length-append shadowj1.bytes (frames s.before)))

    doubt_clean : (h : FileHeader) → HasDoubt h a0 → IsClean (shortened (length content) (latest a0))
    doubt_clean h x =
        let d = x.doubt in
        let long = length-either h x.before x.payload content (d.each content image) in
        let same : x.size ≡ length content = omega (arith, few, long, d.size_is, length-append h.bytes (frames x.before), h.eight) in
        elim d.stage [
          | inl w ↦ subst (λ (n : ℕ). IsClean (shortened n (latest a0))) same (cut_clean h x.before x.size d.size_is a0 w)
          | inr o ↦ absurd (not_opened h x.before x.payload x.size o)
        ]

    -- after such a cut and a sync that succeeded
    pub short_settled : (a1 : List Account) → IsSettledOrInterrupted content a0 → (IsClean (shortened (length content) (latest a0)) → IsSettled content a1)
        → Grows (dropped (cut_to (length content) (latest a0))) a0 a1 → IsSettled content a1 ⊎ IsBeingMade a1
    short_settled a1 (inl settles) synced g = inl (synced (shortened_clean (length content) (latest a0) (settled_clean (latest a0) content settles)))
    short_settled a1 (inr (inl x)) synced g = inl (synced (doubt_clean (header x.version) x.doubt))
    short_settled a1 (inr (inr (inr s))) synced g = absurd (not_switched s)
    short_settled a1 (inr (inr (inl m))) synced g =
        let l = latest a0 in
        let cut = cut_to (length content) l in
        let bound = written 0 9 (settled m.bytes) in
        inr (record {
          bytes = m.bytes;
          few = m.few;
          within = within_trans (latest a1) (dropped cut) (dropped bound) (latest_dropped cut a0 a1 (within_cut (length content) l) g)
              (within_trans (dropped cut) (dropped (dropped bound)) (dropped bound) (dropped_within cut (dropped bound) (within_trans cut l (dropped bound) own_cut m.within)) (dropped_twice bound));
        })

module _ (h : FileHeader) where
  -- ---- the header
  module _ (content : List ℕ) (a0 : List Account) (few : length content ≤ 9) where
    no_longer : IsSettled content a0 ⊎ IsBeingMade a0 → (latest a0).greatest ≤ 9
    no_longer (inl settles) = omega (arith, settles.greatest, few)
    no_longer (inr m) = omega (arith, m.within.greatest, m.few)

    pub header_moments : (a1 : List Account) → IsSettled content a0 ⊎ IsBeingMade a0 → Grows (dropped (written 0 9 (latest a0))) a0 a1 → AtEachMoment a0 a1 (λ file. payloads h file ≡ payloads h content)
    header_moments a1 left g =
        let P : List ℕ → Type 0 = λ file. payloads h file ≡ payloads h content in
        let most = no_longer left in
        goes_on P (dropped (written 0 9 (latest a0))) a0 a0 a1 (started P a0 (λ file i. short_gives h file (omega (arith, i.greatest, most)) ∙ sym (short_gives h content few))) g
        (λ file i. short_gives h file (omega (arith, i.greatest, most)) ∙ sym (short_gives h content few))

    pub header_clean : IsSettled content a0 ⊎ IsBeingMade a0 → IsClean (rewritten 0 9 (latest a0))
    header_clean (inl settles) = rewritten_clean 0 9 (latest a0) (settled_clean (latest a0) content settles)
    header_clean (inr m) = λ p. elim (cases_lt p 9) [
      | inl lt ↦ without_clears 0 9 (latest a0).suspect p (omega arith) (omega (arith, lt))
      | inr le ↦
          let free : IsUntouched (dropped (written 0 9 (settled m.bytes))).suspect p = (inr (omega (arith, le, m.few)), (inr le, tt)) in
          without_keeps 0 9 (latest a0).suspect p (m.within.clean p free)
    ]

  -- ---- the gates of a longer file
  list_of : (content : List ℕ) (ps : List (List ℕ)) → payloads h content ≡ Some ps → payload_list h content ≡ ps
  list_of content ps gives = ap (λ (o : Option (List (List ℕ))). unwrap_or o []) gives

  last_gate-push : (ps : List (List ℕ)) (payload : List ℕ) → last_gate (ps ++ payload ∷ []) ≡ length (front h ps)
  last_gate-push ps payload =
      let all = ps ++ payload ∷ [] in
      let count : length all - 1 ≡ length ps = omega (arith, length-append ps (payload ∷ [])) in
      ap (λ (k : ℕ). end_of 8 (take k all)) count ∙ ap (end_of 8) (take_at ps (payload ∷ []) (length ps) refl) ∙ sym (front_ends h ps)

  module _ (content : List ℕ) (end last : ℕ) (r : IsRead h content (payload_list h content) end) (last_is : last ≡ last_gate (payload_list h content)) where
    read_end : (ps : List (List ℕ)) → payload_list h content ≡ ps → end ≡ length (front h ps)
    read_end ps list = omega (arith, ap length (r.before ∙ ap (front h) list), length-take end content, r.in_file)

    module _ (a0 a1 a2 a3 : List Account) (image : IsImage (latest a0) content)
        (g1 : Grows (latest a0) a0 a1) (renewed_last : last < length content → IsWithin (latest a1) (renewed last 1 (latest a0)))
        (g2 : Grows (latest a1) a1 a2) (renewed_end : end < length content → IsWithin (latest a2) (renewed end 1 (latest a1)))
        (g3 : Grows (latest a2) a2 a3) (synced : IsClean (latest a2) → IsSettled content a3) where
      module _ (ps : List (List ℕ)) (payload : List ℕ) (size with_it : ℕ) (d : IsInDoubt h ps payload a0 size with_it) where
        -- the record was being written: its gate is closed, on the disk too
        written_gates : IsBeingWritten h ps a0 size → AreGatesSettled h content a3 end
        written_gates w =
            let list : payload_list h content ≡ ps = list_of content ps (unopened_gives h ps content d.fits (written_unopened h ps size d.size_is a0 w content image)) in
            let w1 = kept_written h ps size d.size_is a0 w a1 g1 in
            let w2 = kept_written h ps size d.size_is a1 w1 a2 g2 in
            let w3 = kept_written h ps size d.size_is a2 w2 a3 g3 in
            let here : size ≡ end + 1 = omega (arith, read_end ps list, d.size_is) in
            inr (subst (λ (qs : List (List ℕ)). IsBeingWritten h qs a3 (end + 1)) (sym list) (subst (λ (n : ℕ). IsBeingWritten h ps a3 n) here w3))

        -- its gate reads open: it is that of the last record
        open_gates : IsBeingOpened h ps payload a0 size → content ≡ front h (ps ++ payload ∷ []) ++ 0 ∷ [] → AreGatesSettled h content a3 end
        open_gates o is =
            let all = ps ++ payload ∷ [] in
            let list : payload_list h content ≡ all = list_of content all (ap (payloads h) is ∙ payloads-front h all 0 [] (fits-push ps payload d.fits d.one) (λ e. absurd (omega (arith, e)))) in
            let here : size - 1 ≡ last = omega (arith, d.size_is, last_is, ap last_gate list, last_gate-push ps payload) in
            let within : IsWithin (latest a1) (renewed last 1 (latest a0)) = renewed_last (omega (arith, here, d.size_is, length-either h ps payload content (d.each content image))) in
            let clean0 : IsClean (renewed last 1 (latest a0)) = subst (λ (n : ℕ). IsClean (renewed n 1 (latest a0))) here (gate_clean h ps payload size d.size_is a0 o) in
            let clean1 : IsClean (latest a1) = clean_within (latest a1) (renewed last 1 (latest a0)) within clean0 in
            inl (synced (clean_kept a1 a2 clean1 g2))

        -- its gate reads closed: it is the first closed one
        closed_gates : IsBeingOpened h ps payload a0 size → Unopened h ps content → AreGatesSettled h content a3 end
        closed_gates o u =
            let list : payload_list h content ≡ ps = list_of content ps (unopened_gives h ps content d.fits u) in
            let here : size - 1 ≡ end = omega (arith, read_end ps list, d.size_is) in
            let o1 = kept_opened h ps payload size d.size_is a0 o a1 g1 in
            let clean1 : IsClean (renewed end 1 (latest a1)) = subst (λ (n : ℕ). IsClean (renewed n 1 (latest a1))) here (gate_clean h ps payload size d.size_is a1 o1) in
            inl (synced (clean_within (latest a2) (renewed end 1 (latest a1)) (renewed_end r.in_file) clean1))

        pub doubt_gates : AreGatesSettled h content a3 end
        doubt_gates = elim d.stage [
          | inl w ↦ written_gates w
          | inr o ↦ elim (gate_tells h ps payload content (size - 1) (omega (arith, d.size_is)) (d.each content image)) [
            | inl is_open ↦ open_gates o is_open.1
            | inr shut ↦ closed_gates o shut.1
          ]
        ]

-- ---- the gate of the mark
module _ (content : List ℕ) (start : ℕ) (start_is : start ≡ first_place 1 (payload_list shadowj1 content)) (z a0 : List Account) (image : IsImage (latest z) content) (s : IsBeingSwitched z)
    (renewed_mark : 14 ≤ start → start - 6 < length content → IsWithin (latest a0) (renewed (start - 6) 1 (latest z))) where
  -- it reads open: it is on the disk once it was written again
  open_mark : get_or content (gate_place s) 0 ≡ 1 → IsClean (latest a0)
  open_mark is_open =
      let place = start_is ∙ ap (first_place 1) (open_list content z image s is_open) ∙ mark_place s in
      let low = gate_after_header s in
      let here : gate_place s ≡ start - 6 = omega (arith, place) in
      let clean : IsClean (renewed (start - 6) 1 (latest z)) = subst (λ (n : ℕ). IsClean (renewed n 1 (latest z))) here (gate_renewed s (latest z) s.within) in
      clean_within (latest a0) (renewed (start - 6) 1 (latest z)) (renewed_mark (omega (arith, place, low)) (omega (arith, here, gate_in_file content z image s))) clean

  -- the file was moved
  pub mark_clean : 0 < uncounted 1 (payload_list shadowj1 content) → IsClean (latest a0)
  mark_clean some = elim (cases_eq (get_or content (gate_place s) 0) 1) [
    | inl is_open ↦ open_mark is_open
    | inr shut ↦ absurd (omega (arith, some, ap (uncounted 1) (shut_list content z image s shut), unmoved_none s))
  ]

-- ---- the gates of a longer file, of either version
module _ (version : ℕ) (content : List ℕ) (start end last : ℕ) (r : IsRead (header version) content (payload_list (header version) content) end)
    (start_is : start ≡ first_place version (payload_list (header version) content)) (last_is : last ≡ last_gate (payload_list (header version) content))
    (z a0 a1 a2 a3 : List Account) (image : IsImage (latest z) content) (image0 : IsImage (latest a0) content)
    (g0 : Grows (latest z) z a0) (renewed_mark : 14 ≤ start → start - 6 < length content → IsWithin (latest a0) (renewed (start - 6) 1 (latest z)))
    (g1 : Grows (latest a0) a0 a1) (renewed_last : last < length content → IsWithin (latest a1) (renewed last 1 (latest a0)))
    (g2 : Grows (latest a1) a1 a2) (renewed_end : end < length content → IsWithin (latest a2) (renewed end 1 (latest a1)))
    (g3 : Grows (latest a2) a2 a3) (synced : IsClean (latest a2) → IsSettled content a3) where
  -- two headers that the file begins with are one
  some_doubt : HasSomeDoubt z → AreGatesSettled (header version) content a3 end
  some_doubt some =
      let x = some.doubt in
      let begun = either_starts (header some.version) x.before x.payload content (x.doubt.each content image) in
      let same : header some.version ≡ header version = one_header some.version version (sym begun ∙ read_starts (header version) content _ end r) in
      let y = doubt_kept (header version) z a0 (subst (λ (h : FileHeader). HasDoubt h z) same x) g0 in
      doubt_gates (header version) content end last r last_is a0 a1 a2 a3 image0 g1 renewed_last g2 renewed_end g3 synced y.before y.payload y.size y.with_it y.doubt

  -- the gate of the mark reads closed: it is the first closed one
  shut_mark : (s : IsBeingSwitched z) → payload_list (header version) content ≡ s.before → IsSettled content a3
  shut_mark s list =
      let here : gate_place s ≡ end = front_ends shadowj1 s.before ∙ ap (end_of 8) (sym list) ∙ sym (end_is (header version) content _ end r) in
      let bound = dropped (switching s) in
      let within1 = within_kept bound a0 a1 (within_kept bound z a0 s.within g0) g1 in
      let clean1 : IsClean (renewed end 1 (latest a1)) = subst (λ (n : ℕ). IsClean (renewed n 1 (latest a1))) here (gate_renewed s (latest a1) within1) in
      synced (clean_within (latest a2) (renewed end 1 (latest a1)) (renewed_end r.in_file) clean1)

  switched : IsBeingSwitched z → IsSettled content a3
  switched s =
      let first : version ≡ 1 = eqb-true version 1 (first_named version (sym (read_starts (header version) content _ end r) ∙ switched_starts content z image s)) in
      let start_so : start ≡ first_place 1 (payload_list shadowj1 content) = start_is ∙ ap (λ (v : ℕ). first_place v (payload_list (header v) content)) first in
      elim (cases_eq (get_or content (gate_place s) 0) 1) [
        | inl is_open ↦
            let clean0 = open_mark content start start_so z a0 image s renewed_mark is_open in
            synced (clean_kept a1 a2 (clean_kept a0 a1 clean0 g1) g2)
        | inr shut ↦ shut_mark s (ap (λ (v : ℕ). payload_list (header v) content) first ∙ shut_list content z image s shut)
      ]

  pub gates_settled : 9 < length content → IsSettledOrInterrupted content z → AreGatesSettled (header version) content a3 end
  gates_settled long (inl settles) =
      inl (same_settled content a2 a3 (same_settled content a1 a2 (same_settled content a0 a1 (same_settled content z a0 settles g0) g1) g2) g3)
  gates_settled long (inr (inl some)) = some_doubt some
  gates_settled long (inr (inr (inl m))) = absurd (omega (arith, long, image.greatest, m.within.greatest, m.few))
  gates_settled long (inr (inr (inr s))) = inl (switched s)
