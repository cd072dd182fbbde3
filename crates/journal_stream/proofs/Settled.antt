-- What is read after a gate is a settled record.
use Rattle.std.proofs.Common.{◌≡◌, ◌≢◌, ◌⊎◌, ⊎_elim, inl, inr, ℕ, zero, suc, ◌+◌, ◌<◌, ◌≤◌, List, [], ◌∷◌, ◌++◌, length, take, drop, get_or, Option, Some, None, refl, sym, ◌∙◌, ap, subst, arith, w32, append_assoc, length-append, length-take, length-drop}
use Rattle.std.specs.Prelude.{slice_get}
use Rattle.std.specs.Int.{to_be_bytes, from_be_bytes}
use Rattle.std.specs.List.{AllByRecursion}
use Rattle.std.proofs.lemmas.Bool.{cases_lt}
use Rattle.std.proofs.lemmas.List.{take-take, take_at, drop_at, take-append-le, get_or-take}
use Rattle.std.proofs.lemmas.Nat.{from_be_bytes-to_be_bytes_4}
use Rattle.answer_journal.specs.FrameLaws.{fits-push}
use Rattle.answer_journal.specs.Frames.{FileHeader, IsPayload, frames, front}
use Rattle.answer_journal.specs.Payload.{end_of}
use Rattle.answer_journal.specs.Standing.{IsEither}
use Rattle.journal_stream.specs.declared.look.Look.{Look}
use Rattle.journal_stream.specs.declared.look.Look.TheVariants.{Record, Closed, Unsettled}
use Rattle.journal_stream.specs.Look.{HasFrame, IsReadFrom}
use Rattle.journal_stream.specs.Served.{IsBegun, IsOpened, IsServed, first_of, header_of, skipped_of}
use Rattle.journal_stream.specs.Tail.{Finds, IsGateOf}
use Rattle.journal_stream.proofs.Placed.{frames-append, frames_from, from_number, drop_all, end_is_after, get_front}

-- the bytes from the gate of a number on, in a file with the frames of these records after others
module _ (pre : List ℕ) (start : ℕ) (size : length pre ≡ start) (ps : List (List ℕ)) (rest file : List ℕ) (is : file ≡ pre ++ (frames ps ++ rest)) where
  pub from_gate : (k at : ℕ) → k ≤ length ps → at ≡ end_of start (take k ps) → drop at file ≡ frames (drop k ps) ++ rest
  from_gate k at le place =
      ap (λ (i : ℕ). drop i file) place
      ∙ ap (drop (end_of start (take k ps))) is
      ∙ frames_from ps k pre rest start size le

-- two payloads after an open gate, of which the bytes of one are all read
same_payload : (p q more : List ℕ) → length p ≤ 131072 → length q ≤ 131072
    → take (length p + 5) (1 ∷ (to_be_bytes w32 (length q) ++ (q ++ more))) ≡ 1 ∷ (to_be_bytes w32 (length p) ++ p)
    → length p ≤ length (q ++ more) → q ≡ p
same_payload p q more small few is long =
    let b = to_be_bytes w32 (length q) in
    let c = to_be_bytes w32 (length p) in
    let inner : take (length p + 5) (1 ∷ (b ++ (q ++ more))) ≡ (1 ∷ b) ++ take (length p) (q ++ more) = take_more (1 ∷ b) (q ++ more) (length p) in
    let both : (1 ∷ b) ++ take (length p) (q ++ more) ≡ (1 ∷ c) ++ p = sym inner ∙ is in
    let heads : 1 ∷ b ≡ 1 ∷ c =
    sym (take_at (1 ∷ b) (take (length p) (q ++ more)) 5 refl) ∙ ap (take 5) both ∙ take_at (1 ∷ c) p 5 refl in
    let bs : b ≡ c = ap (drop 1) heads in
    let sizes : length q ≡ length p =
    sym (from_be_bytes-to_be_bytes_4 (length q) (omega (arith, few))) ∙ ap (from_be_bytes w32) bs ∙ from_be_bytes-to_be_bytes_4 (length p) (omega (arith, small)) in
    let rests : take (length p) (q ++ more) ≡ p =
    sym (drop_at (1 ∷ b) (take (length p) (q ++ more)) 5 refl) ∙ ap (drop 5) both ∙ drop_at (1 ∷ c) p 5 refl in
    sym (take_at q more (length p) sizes) ∙ rests
  where
    take_more : (h t : List ℕ) (n : ℕ) → take (n + length h) (h ++ t) ≡ h ++ take n t
    take_more [] t n = ap (λ (i : ℕ). take i t) (omega arith)
    take_more (x ∷ h) t n = ap (λ (i : ℕ). take i (x ∷ (h ++ t))) (more_one n (length h)) ∙ ap (λ (l : List ℕ). x ∷ l) (take_more h t n)
      where
        more_one : (n l : ℕ) → n + suc l ≡ suc (n + l)
        more_one n l = omega arith

pub fits_at : (ps : List (List ℕ)) (k : ℕ) (p : List ℕ) → AllByRecursion IsPayload ps → slice_get ps k ≡ Some p → IsPayload p
fits_at [] k p fits is = absurd cc
fits_at (q ∷ ps) zero p fits is = let e : q ≡ p = cc in subst IsPayload e fits.0
fits_at (q ∷ ps) (suc k) p fits is = fits_at ps k p fits.1 is

module _ (pre : List ℕ) (start : ℕ) (size : length pre ≡ start) (ps : List (List ℕ)) (rest file : List ℕ) (is : file ≡ pre ++ (frames ps ++ rest)) (fits : AllByRecursion IsPayload ps)
    (k at : ℕ) (place : at ≡ end_of start (take k ps)) where
  -- the record of a number, and what follows it
  record_from : k < length ps → (p : List ℕ) × (qs : List (List ℕ)) × (slice_get ps k ≡ Some p) × (drop k ps ≡ p ∷ qs)
      × (drop at file ≡ 1 ∷ (to_be_bytes w32 (length p) ++ (p ++ (frames qs ++ rest))))
  record_from lt =
      let f = from_number ps k lt in
      let p = f.0 in
      let b = to_be_bytes w32 (length p) in (
        p,
        f.1,
        f.2,
        f.3,
        from_gate pre start size ps rest file is k at (omega (arith, lt)) place
            ∙ ap (λ (l : List (List ℕ)). frames l ++ rest) f.3
            ∙ ap (λ (l : List ℕ). 1 ∷ l) (append_assoc (b ++ p) (frames f.1) rest ∙ append_assoc b p (frames f.1 ++ rest)),
      )

  pub opens : k < length ps → get_or (drop at file) 0 0 ≡ 1
  opens lt = ap (λ (l : List ℕ). get_or l 0 0) (record_from lt).4

  module _ (bytes payload : List ℕ) (m more : ℕ) (read : bytes ≡ take m (drop at file)) (has : HasFrame bytes payload more) (few : length payload ≤ 131072) where
    reaches : length payload + 5 + more ≤ m
    reaches = omega (arith, has.long, ap length read, length-take m (drop at file))

    there : length payload + 5 + more ≤ length (drop at file)
    there = omega (arith, has.long, ap length read, length-take m (drop at file))

    head : take (length payload + 5) (drop at file) ≡ 1 ∷ (to_be_bytes w32 (length payload) ++ payload)
    head = sym (take-take (length payload + 5) m (drop at file) (omega (arith, reaches))) ∙ ap (take (length payload + 5)) (sym read) ∙ has.frame

    pub is_record : k < length ps → slice_get ps k ≡ Some payload
    is_record lt =
        let r = record_from lt in
        let p = r.0 in
        let after = frames r.1 ++ rest in
        let b = to_be_bytes w32 (length p) in
        let fit = fits_at ps k p fits r.2 in
        let whole : take (length payload + 5) (1 ∷ (b ++ (p ++ after))) ≡ 1 ∷ (to_be_bytes w32 (length payload) ++ payload) = ap (take (length payload + 5)) (sym r.4) ∙ head in
        let long : length payload ≤ length (p ++ after) = omega (arith, there, ap length r.4, length-append b (p ++ after)) in
        let same : p ≡ payload = same_payload payload p after few fit.few whole long in
        r.2 ∙ ap Some same

    -- of the last record nothing follows the closed gate
    pub is_not_last : (q : List ℕ) → rest ≡ 0 ∷ [] → length ps ≡ k + 1 → more ≡ 2 → ⊥
    is_not_last q end last two =
        let lt : k < length ps = omega (arith, last) in
        let r = record_from lt in
        let p = r.0 in
        let got : slice_get ps k ≡ Some payload = is_record lt in
        let same : p ≡ payload = (let e : Some p ≡ Some payload = sym r.2 ∙ got in cc) in
        let none : r.1 ≡ [] = rest_none ps k p r.1 r.3 last in
        let all : drop at file ≡ 1 ∷ (to_be_bytes w32 (length p) ++ (p ++ (0 ∷ []))) =
        r.4 ∙ ap (λ (l : List (List ℕ)). 1 ∷ (to_be_bytes w32 (length p) ++ (p ++ (frames l ++ rest)))) none
        ∙ ap (λ (l : List ℕ). 1 ∷ (to_be_bytes w32 (length p) ++ (p ++ l))) end in
        absurd (omega (arith, there, two, ap length all, ap length same, length-append (to_be_bytes w32 (length p)) (p ++ (0 ∷ [])), length-append p (0 ∷ [])))
      where
        rest_none : (ps : List (List ℕ)) (k : ℕ) (p : List ℕ) (qs : List (List ℕ)) → drop k ps ≡ p ∷ qs → length ps ≡ k + 1 → qs ≡ []
        rest_none ps k p [] e l = refl
        rest_none ps k p (q ∷ qs) e l = absurd (omega (arith, ap length e, length-drop k ps, l))

-- ---- a served file
-- the frames of these records after others, and a closed gate with anything after it; or theirs and
-- those of one more, and a closed gate
abbrev pub IsShown : List ℕ → List (List ℕ) → List ℕ → List ℕ → Type 0
IsShown pre records payload file =
    ((gate : ℕ) × (junk : List ℕ) × (gate ≢ 1) × (file ≡ pre ++ (frames records ++ gate ∷ junk)))
    ⊎ (file ≡ pre ++ (frames (records ++ payload ∷ []) ++ 0 ∷ []))

-- a file with frames of these records, of which the first ones do not count
module _ (h : FileHeader) (skipped : List (List ℕ)) where
  pub split_front : (records : List (List ℕ)) (rest : List ℕ) → front h (skipped ++ records) ++ rest ≡ front h skipped ++ (frames records ++ rest)
  split_front records rest =
      ap (λ (l : List ℕ). (h.bytes ++ l) ++ rest) (frames-append skipped records)
      ∙ ap (λ (l : List ℕ). l ++ rest) (sym (append_assoc h.bytes (frames skipped) (frames records)))
      ∙ append_assoc (front h skipped) (frames records) rest

  pub shown : (records : List (List ℕ)) (payload file : List ℕ) → IsEither h (skipped ++ records) payload file → IsShown (front h skipped) records payload file
  shown records payload file (inl u) = inl (u.gate, u.junk, u.closed, u.is ∙ split_front records (u.gate ∷ u.junk))
  shown records payload file (inr is) =
      inr (is ∙ ap (λ (l : List (List ℕ)). front h l ++ 0 ∷ []) (append_assoc skipped records (payload ∷ [])) ∙ split_front (records ++ payload ∷ []) (0 ∷ []))

  pub front_ends : length (front h skipped) ≡ end_of 8 skipped
  front_ends = omega (arith, length-append h.bytes (frames skipped), h.eight, end_is_after 8 skipped)

pub fits_right : (ps qs : List (List ℕ)) → AllByRecursion IsPayload (ps ++ qs) → AllByRecursion IsPayload qs
fits_right [] qs fits = fits
fits_right (p ∷ ps) qs fits = fits_right ps qs fits.1

-- of a journal that its server has opened for sure the settled records are those of the file
opened_served : (moved : Option (List (List ℕ))) (settled : List (List ℕ)) (file : List ℕ) → IsServed moved settled file → IsOpened moved settled
    → IsBegun moved settled file ⊎ ((length file ≤ 8) × (settled ≡ []))
opened_served moved settled file (inl begun) sure = inl begun
opened_served moved settled file (inr (inl being)) (inl none) = let e : None ≡ Some being.old = sym none ∙ being.was in absurd cc
opened_served moved settled file (inr (inl being)) (inr some) = absurd (omega (arith, some, ap length being.none))
opened_served moved settled file (inr (inr short)) sure = inr short

module _ (moved : Option (List (List ℕ))) (settled : List (List ℕ)) (file : List ℕ) (number at : ℕ) (gate : IsGateOf moved settled number at) where
  abbrev pre : List ℕ
  pre = front (header_of moved) (skipped_of moved)

  size : length pre ≡ first_of moved
  size = front_ends (header_of moved) (skipped_of moved)

  -- the gate is after the header
  past : 8 ≤ at
  past = omega (arith, gate.place, end_is_after (first_of moved) (take number settled), end_is_after 8 (skipped_of moved))

  module _ (bytes payload : List ℕ) (m more : ℕ) (read : bytes ≡ take m (drop at file)) (has : HasFrame bytes payload more) (few : length payload ≤ 131072)
      (known : (number < length settled) ⊎ (more ≡ 2)) (fits : AllByRecursion IsPayload settled) where
    closed_after : (g : ℕ) (junk : List ℕ) → g ≢ 1 → file ≡ pre ++ (frames settled ++ g ∷ junk) → slice_get settled number ≡ Some payload
    closed_after g junk shut is = elim (cases_lt number (length settled)) [
      | inl lt ↦ is_record pre (first_of moved) size settled (g ∷ junk) file is fits number at gate.place bytes payload m more read has few lt
      | inr le ↦
          let all : number ≡ length settled = omega (arith, le, gate.some) in
          let tail : drop at file ≡ g ∷ junk =
          from_gate pre (first_of moved) size settled (g ∷ junk) file is number at gate.some gate.place ∙ ap (λ (l : List (List ℕ)). frames l ++ g ∷ junk) (drop_all settled number all) in
          let h = head pre (first_of moved) size settled (g ∷ junk) file is fits number at gate.place bytes payload m more read has few in
          let one : g ≡ 1 = ap (λ (l : List ℕ). get_or l 0 0) (sym (first (length payload + 4) g junk) ∙ ap (λ (n : ℕ). take n (g ∷ junk)) (plus_five (length payload)) ∙ ap (take (length payload + 5)) (sym tail) ∙ h) in
          absurd (shut one)
    ]
      where
        first : (n a : ℕ) (l : List ℕ) → take (suc n) (a ∷ l) ≡ a ∷ take n l
        first n a l = refl

        plus_five : (n : ℕ) → suc (n + 4) ≡ n + 5
        plus_five n = omega arith

    opened_after : (q : List ℕ) → IsPayload q → file ≡ pre ++ (frames (settled ++ q ∷ []) ++ 0 ∷ []) → slice_get settled number ≡ Some payload
    opened_after q one is =
        let ps = settled ++ q ∷ [] in
        let count : length ps ≡ length settled + 1 = length-append settled (q ∷ []) in
        let place : at ≡ end_of (first_of moved) (take number ps) = gate.place ∙ ap (end_of (first_of moved)) (sym (take-append-le number settled (q ∷ []) gate.some)) in
        let all = fits-push settled q fits one in
        elim (cases_lt number (length settled)) [
          | inl lt ↦ sym (get_front settled (q ∷ []) number lt)
              ∙ is_record pre (first_of moved) size ps (0 ∷ []) file is all number at place bytes payload m more read has few (omega (arith, lt, count))
          | inr le ↦ ⊎_elim (λ lt. absurd (omega (arith, lt, le)))
              (λ two. absurd (is_not_last pre (first_of moved) size ps (0 ∷ []) file is all number at place bytes payload m more read has few q refl (omega (arith, count, le, gate.some)) two)) known
        ]

    shown_after : (q : List ℕ) → IsPayload q → IsShown pre settled q file → slice_get settled number ≡ Some payload
    shown_after q one (inl u) = closed_after u.0 u.1 u.2 u.3
    shown_after q one (inr is) = opened_after q one is

  -- the frame that was read is that of the settled record
  pub settled_record : IsServed moved settled file → (bytes payload : List ℕ) (m more : ℕ) → bytes ≡ take m (drop at file) → HasFrame bytes payload more
      → length payload ≤ 131072 → (number < length settled) ⊎ (more ≡ 2) → slice_get settled number ≡ Some payload
  settled_record served bytes payload m more read has few known = by (opened_served moved settled file served gate.sure)
    where
      by : IsBegun moved settled file ⊎ ((length file ≤ 8) × (settled ≡ [])) → slice_get settled number ≡ Some payload
      by (inl begun) =
          shown_after bytes payload m more read has few known (fits_right (skipped_of moved) settled begun.fits) begun.payload begun.one
          (shown (header_of moved) (skipped_of moved) settled begun.payload file begun.either)
      by (inr short) = absurd (omega (arith, past, short.0, has.long, ap length read, length-take m (drop at file), length-drop at file))

  -- what was read after the gate of a number
  pub found_record : IsServed moved settled file → (bytes : List ℕ) (m more : ℕ) → bytes ≡ take m (drop at file) → (number < length settled) ⊎ (more ≡ 2)
      → (look : Look) → IsReadFrom bytes more look → Finds settled number look
  found_record served bytes m more read known (Record payload) is = settled_record served bytes payload.items m more read is.0 is.1.few known
  found_record served bytes m more read known Closed is = absurd is
  found_record served bytes m more read known Unsettled is = tt

  settled_open : IsServed moved settled file → number < length settled → get_or (drop at file) 0 0 ≡ 1
  settled_open served lt = by (opened_served moved settled file served gate.sure)
    where
      first_open : (ps : List (List ℕ)) (rest : List ℕ) (k : ℕ) → k < length ps → get_or (frames (drop k ps) ++ rest) 0 0 ≡ 1
      first_open ps rest k l = let f = from_number ps k l in ap (λ (x : List (List ℕ)). get_or (frames x ++ rest) 0 0) f.3

      opens : (ps : List (List ℕ)) (rest : List ℕ) → file ≡ pre ++ (frames ps ++ rest) → at ≡ end_of (first_of moved) (take number ps) → number < length ps → get_or (drop at file) 0 0 ≡ 1
      opens ps rest is place l =
          ap (λ (x : List ℕ). get_or x 0 0) (from_gate pre (first_of moved) size ps rest file is number at (omega (arith, l)) place) ∙ first_open ps rest number l

      in_shown : (q : List ℕ) → IsShown pre settled q file → get_or (drop at file) 0 0 ≡ 1
      in_shown q (inl u) = opens settled (u.0 ∷ u.1) u.3 gate.place lt
      in_shown q (inr is) =
          opens (settled ++ q ∷ []) (0 ∷ []) is (gate.place ∙ ap (end_of (first_of moved)) (sym (take-append-le number settled (q ∷ []) gate.some)))
          (omega (arith, lt, length-append settled (q ∷ [])))

      by : IsBegun moved settled file ⊎ ((length file ≤ 8) × (settled ≡ [])) → get_or (drop at file) 0 0 ≡ 1
      by (inl begun) = in_shown begun.payload (shown (header_of moved) (skipped_of moved) settled begun.payload file begun.either)
      by (inr short) = absurd (omega (arith, lt, ap length short.1))

  -- a gate that reads closed, or is not there, is that of no settled record
  pub settled_none : IsServed moved settled file → (head : List ℕ) (k : ℕ) → head ≡ take k (drop at file) → (k < 5 → length file ≤ at + k) → get_or head 0 0 ≢ 1 → length settled ≡ number
  settled_none served head k read all closed = elim (cases_lt number (length settled)) [
    | inr le ↦ omega (arith, le, gate.some)
    | inl lt ↦
        let one = settled_open served lt in
        elim (cases_lt 0 k) [
          | inl some ↦ absurd (closed (ap (λ (l : List ℕ). get_or l 0 0) read ∙ get_or-take k (drop at file) 0 0 some ∙ one))
          | inr none ↦ absurd (gone (drop at file) one (omega (arith, none, all (omega (arith, none)), length-drop at file)))
        ]
  ]
    where
      gone : (l : List ℕ) → get_or l 0 0 ≡ 1 → length l ≤ 0 → ⊥
      gone [] one le = absurd (omega (arith, one))
      gone (a ∷ l) one le = absurd (omega (arith, le))
