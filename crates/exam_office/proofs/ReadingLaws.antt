-- Where the records of an office's journal are, and what reading them leaves.
use Rattle.std.proofs.Common.{◌≡◌, inl, inr, ℕ, ◌+◌, ◌-◌, ◌<◌, ◌≤◌, Bool, true, false, ◌==◌, if◌then◌else◌, List, [], ◌∷◌, ◌++◌, length, take, get_or, Option, Some, None, IsTrue, suc, refl, sym, ◌∙◌, ap, subst, arith, w32, length-append}
use Rattle.std.specs.List.{slice_get}
use Rattle.std.specs.Int.{to_be_bytes}
use Rattle.std.proofs.Math.Seq.{take-suc}
use Rattle.std.proofs.lemmas.Bool.{cases_Bool, cases_lt}
use Rattle.std.proofs.lemmas.List.{take_at, take_all}
use Rattle.std.proofs.lemmas.Option.{slice_get-get_or, slice_get_past}
use Rattle.bank_tables.specs.Tables.{Tables}
use Rattle.form_model.specs.Plan.{Plan}
use Rattle.certificate_model.specs.Relaxed.{Multipliers}
use Rattle.history_model.specs.declared.entry.Entry.{Entry}
use Rattle.history_model.specs.Judging.{Record}
use Rattle.exam_session.specs.Ledgers.{Ledger}
use Rattle.answer_journal.specs.Frames.{FileHeader, frames, front}
use Rattle.answer_journal.specs.Journal.{JournalState, length_of, limit_of, tells_of, accounts_of, content_of, payloads_of, start_of, faults_of, IsReady}
use Rattle.answer_journal.specs.Payload.{end_of}
use Rattle.answer_journal.specs.Reading.{IsRoomFor}
use Rattle.answer_journal.specs.Standing.{payload_list}
use Rattle.answer_journal.specs.Versions.{header, is_mark, after_mark, Counted, counted_from, counted, counted_in, second, uncounted}
use Rattle.answer_journal.proofs.VersionLaws.{from_second}
use Rattle.exam_office.specs.declared.cursor.Cursor.{Cursor}
use Rattle.exam_office.specs.declared.mark.Mark.{Mark}
use Rattle.exam_office.specs.declared.vectors.NewVector.{NewVector}
use Rattle.exam_office.specs.Keeping.{IsSure, IsKept}
use Rattle.exam_office.specs.KeptVectors.{AreKeptVectors}
use Rattle.exam_office.specs.Marks.{history}
use Rattle.exam_office.specs.Moments.{AreMoments}
use Rattle.exam_office.specs.Payloads.{IsPlaceOf, IsCursorOf}
use Rattle.exam_office.specs.Running.{HandedDisk}
use Rattle.exam_office.specs.Warm.{Holds}
use Rattle.exam_office.proofs.Marking.{counted-still}
use Rattle.exam_office.proofs.Opened.{end-push}

-- ---- the gate that ends the file
end_is_after : (a : ℕ) (ps : List (List ℕ)) → end_of a ps ≡ a + length (frames ps)
end_is_after a [] = omega arith
end_is_after a (p ∷ ps) =
    omega (arith, end_is_after (a + 5 + length p) ps, length-append (to_be_bytes w32 (length p) ++ p) (frames ps), length-append (to_be_bytes w32 (length p)) p)

end_of-append : (a : ℕ) (ps qs : List (List ℕ)) → end_of a (ps ++ qs) ≡ end_of (end_of a ps) qs
end_of-append a [] qs = refl
end_of-append a (p ∷ ps) qs = end_of-append (a + 5 + length p) ps qs

front_ends : (h : FileHeader) (ps : List (List ℕ)) → length (front h ps) ≡ end_of 8 ps
front_ends h ps = omega (arith, length-append h.bytes (frames ps), h.eight, end_is_after 8 ps)

-- the payloads that count are the last ones
after_is : (all ps : List (List ℕ)) → after_mark all ≡ Some ps → (before : List (List ℕ)) × (all ≡ before ++ ps)
after_is [] ps e = absurd (cc)
after_is (x ∷ all) ps e = elim (cases_Bool (is_mark x)) [
  | inl m ↦
      let both : Some all ≡ Some ps = rw m at e in
      let same : all ≡ ps = cc in
      (x ∷ [], ap (λ (l : List (List ℕ)). x ∷ l) same)
  | inr not ↦
      let rest : after_mark all ≡ Some ps = rw not at e in
      let r = after_is all ps rest in
      (x ∷ r.0, ap (λ (l : List (List ℕ)). x ∷ l) r.1)
]

last_by : (all ps : List (List ℕ)) (b : Bool) → (if b then counted_from all (after_mark all) else second all) ≡ second ps → (before : List (List ℕ)) × (all ≡ before ++ ps)
last_by all ps true e = after_is all ps (from_second all ps (after_mark all) e)
last_by all ps false e = ([], ap (λ (c : Counted). c.payloads) e)

module _ {D : Type 0} (j : JournalState D) (ready : IsReady j) (told : IsTrue (tells_of j)) where
  abbrev all : List (List ℕ)
  all = payload_list (header j.version) (content_of j)

  abbrev ps : List (List ℕ)
  ps = payloads_of j

  pub ends_there : end_of (start_of j) ps + 1 ≡ length_of j
  ends_there =
      let rest = ready.rest told in
      let c = ready.counts told in
      let cut = last_by all ps (j.version == 1) c.counts in
      let before = cut.0 in
      let n : uncounted j.version all ≡ length before =
      omega (arith, ap (λ (x : Counted). length x.payloads) c.counts, ap length cut.1, length-append before ps) in
      let taken : take (uncounted j.version all) all ≡ before =
      ap (take (uncounted j.version all)) cut.1 ∙ take_at before ps (uncounted j.version all) (sym n) in
      let begins : start_of j ≡ end_of 8 before = c.starts ∙ ap (end_of 8) taken in
      let last : end_of (start_of j) ps ≡ end_of 8 all =
      ap (λ (s : ℕ). end_of s ps) begins ∙ (sym (end_of-append 8 before ps) ∙ ap (end_of 8) (sym cut.1)) in
      omega (arith, last, front_ends (header j.version) all, rest.size_is, ap length rest.file, length-append (front (header j.version) all) (rest.gate ∷ []))

  -- a cursor past the last record is at that gate
  pub at_end : (number at : ℕ) → IsPlaceOf (start_of j) ps number at → length ps ≤ number → at + 1 ≡ length_of j
  at_end number at p past =
      let every : take number ps ≡ ps = take_all number ps past in
      ap (λ (n : ℕ). n + 1) (p.place ∙ ap (end_of (start_of j)) every) ∙ ends_there

-- one payload on
pub place_on : (start : ℕ) (ps : List (List ℕ)) (number at : ℕ) (p : List ℕ) → IsPlaceOf start ps number at → number < length ps → p ≡ get_or ps number [] → IsPlaceOf start ps (number + 1) (at + (5 + length p))
place_on start ps number at p here within is = record {
  few = omega (arith, within);
  place =
      let next : take (number + 1) ps ≡ take number ps ++ p ∷ [] =
      ap (λ (k : ℕ). take k ps) plus_one ∙ (take-suc ps number [] within ∙ ap (λ (q : List ℕ). take number ps ++ q ∷ []) (sym is)) in
      let ends : end_of start (take (number + 1) ps) ≡ end_of start (take number ps) + 5 + length p = ap (end_of start) next ∙ end-push start (take number ps) p in
      omega (arith, here.place, ends);
}
  where
    plus_one : number + 1 ≡ suc number
    plus_one = omega arith

-- ---- what reading leaves
module _ {D : Type 0} (b : Tables) (plan : Plan) (j j1 : JournalState D) (tells : tells_of j1 ≡ tells_of j) (content : IsTrue (tells_of j) → content_of j1 ≡ content_of j) where
  pub payloads_same : IsTrue (tells_of j) → payloads_of j1 ≡ payloads_of j
  payloads_same told = ap (λ (file : List ℕ). (counted_in file).payloads) (content told)

  pub kept_read : (base : List ℕ) (was : HandedDisk) (book : Ledger) (M : List Mark) (doubt : Option Entry) → doubt ≡ None → IsKept b plan base book j M doubt was
      → IsReady j1 → length_of j1 ≡ length_of j → limit_of j1 ≡ limit_of j → start_of j1 ≡ start_of j → faults_of j ≤ faults_of j1
      → (IsTrue (tells_of j) → accounts_of j1 ≡ accounts_of j)
      → IsKept b plan base book j1 M doubt was
  kept_read base was book M doubt none kept ready size limit start grows accounts =
      let k : IsKept b plan base book j M None was = subst (λ (d : Option Entry). IsKept b plan base book j M d was) none kept in
      let s : IsSure b plan (history M) j = k.backed in
      subst (λ (d : Option Entry). IsKept b plan base book j1 M d was) (sym none) (record {
        bank = k.bank;
        plan_is = k.plan_is;
        entries = k.entries;
        size = size ∙ k.size;
        limit = limit ∙ k.limit;
        start = λ told1. start ∙ k.start (sym tells ∙ told1);
        marks_are = k.marks_are;
        counted = counted-still M was.faults (faults_of j) (faults_of j1) k.counted grows;
        grows = omega (arith, k.grows, grows);
        backed = record { records = s.records; are = s.are; ready = ready; holds = λ told1. payloads_same (sym tells ∙ told1) ∙ s.holds (sym tells ∙ told1) };
        base_is = k.base_is;
        moments = λ told1. subst (AreMoments b plan was.accounts M) (sym (accounts (sym tells ∙ told1))) (k.moments (sym tells ∙ told1));
      })

  held_read : (H : List Entry) (R : List Record) (last : Option Record) → Holds b plan H j R None last → Holds b plan H j1 R None last
  held_read H R None held = λ told1. payloads_same (sym tells ∙ told1) ∙ held (sym tells ∙ told1)
  held_read H R (Some r) held = held

  pub vectors_read : (H : List Entry) (doubt : Option Entry) (each : List (Option Multipliers)) (new : Option NewVector) → doubt ≡ None → AreKeptVectors b plan H j doubt each new → AreKeptVectors b plan H j1 doubt each new
  vectors_read H doubt each new none kept =
      let k : AreKeptVectors b plan H j None each new = subst (λ (d : Option Entry). AreKeptVectors b plan H j d each new) none kept in
      subst (λ (d : Option Entry). AreKeptVectors b plan H j1 d each new) (sym none) (record {
        records = k.records;
        are = k.are;
        last = k.last;
        holds = held_read H k.records k.last k.holds;
        each_is = k.each_is;
        new_is = k.new_is;
        room = k.room;
      })

-- ---- the cursor
module _ {D : Type 0} (j : JournalState D) (ready : IsReady j) (cursor : Cursor) (here : IsCursorOf j cursor) where
  -- a payload was read: there is a record of this number
  pub is_there : (cursor.at + 1 ≡ length_of j → ⊥) → IsTrue (tells_of j) → cursor.number < length (payloads_of j)
  is_there not_last told = elim (cases_lt cursor.number (length (payloads_of j))) [
    | inl lt ↦ lt
    | inr past ↦ absurd (not_last (at_end j ready told cursor.number cursor.at (here.place told) past))
  ]

  -- no payload was read: there is none
  pub is_past : (IsTrue (tells_of j) → (k : ℕ) → k < length (payloads_of j) → cursor.at ≡ end_of (start_of j) (take k (payloads_of j)) → ⊥) → IsTrue (tells_of j) → slice_get (payloads_of j) cursor.number ≡ None
  is_past none told = elim (cases_lt cursor.number (length (payloads_of j))) [
    | inl lt ↦ absurd (none told cursor.number lt (here.place told).place)
    | inr past ↦ slice_get_past (payloads_of j) cursor.number past
  ]

  module _ (p : List ℕ) (not_last : cursor.at + 1 ≡ length_of j → ⊥) (reads : IsTrue (tells_of j) → (k : ℕ) → k < length (payloads_of j) → cursor.at ≡ end_of (start_of j) (take k (payloads_of j)) → p ≡ get_or (payloads_of j) k []) where
    pub is_payload : IsTrue (tells_of j) → p ≡ get_or (payloads_of j) cursor.number []
    is_payload told = reads told cursor.number (is_there not_last told) (here.place told).place

    pub record_there : IsTrue (tells_of j) → Some p ≡ slice_get (payloads_of j) cursor.number
    record_there told = ap Some (is_payload told) ∙ sym (slice_get-get_or (payloads_of j) cursor.number [] (is_there not_last told))

    module _ (j1 : JournalState D) (tells : tells_of j1 ≡ tells_of j) (content : IsTrue (tells_of j) → content_of j1 ≡ content_of j) (size : length_of j1 ≡ length_of j) (start : start_of j1 ≡ start_of j) (room : IsRoomFor cursor.at (length_of j) (length p)) where
      pub cursor_on : IsCursorOf j1 (record { number = cursor.number + 1; at = cursor.at + (5 + length p) })
      cursor_on = record {
        within = omega (arith, room.within, size);
        few = omega (arith, here.few);
        place = λ told1.
            let told = sym tells ∙ told1 in
            let on = place_on (start_of j) (payloads_of j) cursor.number cursor.at p (here.place told) (is_there not_last told) (is_payload told) in
            subst (λ (s : ℕ). IsPlaceOf s (payloads_of j1) (cursor.number + 1) (cursor.at + (5 + length p))) (sym start)
            (subst (λ (qs : List (List ℕ)). IsPlaceOf (start_of j) qs (cursor.number + 1) (cursor.at + (5 + length p))) (sym (ap (λ (file : List ℕ). (counted_in file).payloads) (content told))) on);
      }

  pub cursor_still : (j1 : JournalState D) → tells_of j1 ≡ tells_of j → (IsTrue (tells_of j) → content_of j1 ≡ content_of j) → length_of j1 ≡ length_of j → start_of j1 ≡ start_of j → IsCursorOf j1 cursor
  cursor_still j1 tells content size start = record {
    within = omega (arith, here.within, size);
    few = here.few;
    place = λ told1.
        let told = sym tells ∙ told1 in
        subst (λ (s : ℕ). IsPlaceOf s (payloads_of j1) cursor.number cursor.at) (sym start)
        (subst (λ (qs : List (List ℕ)). IsPlaceOf (start_of j) qs cursor.number cursor.at) (sym (ap (λ (file : List ℕ). (counted_in file).payloads) (content told))) (here.place told));
  }

pub cursor_first : {D : Type 0} (j : JournalState D) (at : ℕ) → at ≡ start_of j → at < length_of j → IsCursorOf j (record { number = 0; at = at })
cursor_first j at is within = record {
  within = within;
  few = omega arith;
  place = λ told. record { few = omega arith; place = is };
}
