-- Which payloads may follow a follower's records, and which may not.
use Rattle.std.proofs.Common.{◌≡◌, ℕ, ◌+◌, List, [], ◌∷◌, ◌++◌, length, map, drop, Ok, Err, refl, sym, ap, ◌∙◌, subst, append_assoc}
use Rattle.std.proofs.lemmas.List.{append_cancel_left}
use Rattle.history_model.specs.declared.entry.Entry.{Entry}
use Rattle.history_model.specs.declared.illegal.Illegal.{Illegal}
use Rattle.history_model.specs.Judging.{Record, MayFollow, entries_of}
use Rattle.history_model.specs.Reasons.{IsIllegal}
use Rattle.history_model.proofs.ReasonLaws.{no_reason_if_may}
use Rattle.exam_records.specs.declared.fault.RecordFault.{RecordFault}
use Rattle.exam_records.specs.Reading.{record_of}
use Rattle.exam_records.specs.Shape.{IsRecord}
use Rattle.exam_records.specs.Spelling.{payload_of}
use Rattle.exam_records.proofs.SecondLaws.{no_two_records, written_is_read}
use Rattle.answer_journal.specs.Payload.{end_of}
use Rattle.exam_office.specs.Marks.{history, reach}
use Rattle.exam_follower.specs.Followers.{FollowerState, found, opened_size, found_payloads, records_of, may_follow, size_with, IsFollower}
use Rattle.exam_follower.proofs.Marked.{same_records, drop_found, end-push}
use Rattle.exam_follower.proofs.Keeping.{found_count}

module _ {D : Type 0} (f : FollowerState D) (is : IsFollower f) (r : Record) (spells : IsRecord r) (payload : List ℕ) (spelling : payload_of r ≡ payload) where
  -- the record may follow the history
  pub follows_so : MayFollow f.office.bank f.office.plan (history f.office.marks) r.entry r.tree → may_follow f (records_of f) payload
  follows_so may = record {
    taken = f.taken;
    spell = is.spell;
    are = refl;
    last = r;
    spells = spells;
    is = spelling;
    may = subst (λ (H : List Entry). MayFollow f.office.bank f.office.plan H r.entry r.tree) is.entries may;
  }

  -- it may not
  pub refused_so : (reason : Illegal) → IsIllegal f.office.bank f.office.plan (history f.office.marks) r.entry r.tree reason → may_follow f (records_of f) payload → ⊥
  refused_so reason illegal w =
      let ps : map payload_of w.taken ≡ map payload_of f.taken = append_cancel_left (found_payloads f.office) (map payload_of w.taken) (map payload_of f.taken) (sym w.are) in
      let taken : w.taken ≡ f.taken = same_records w.taken f.taken w.spell is.spell ps in
      let last : w.last ≡ r = no_two_records w.last r w.spells spells (w.is ∙ sym spelling) in
      let H : found f.office.marks ++ entries_of w.taken ≡ history f.office.marks = ap (λ (R : List Record). found f.office.marks ++ entries_of R) taken ∙ sym is.entries in
      let may : MayFollow f.office.bank f.office.plan (history f.office.marks) r.entry r.tree =
      subst (λ (x : Record). MayFollow f.office.bank f.office.plan (history f.office.marks) x.entry x.tree) last
      (subst (λ (G : List Entry). MayFollow f.office.bank f.office.plan G w.last.entry w.last.tree) H w.may) in
      no_reason_if_may f.office.bank f.office.plan (history f.office.marks) r.entry r.tree reason illegal may

-- a payload that is no record may not follow
pub no_record : {D : Type 0} (f : FollowerState D) (F : List (List ℕ)) (payload : List ℕ) (fault : RecordFault) → record_of payload ≡ Err fault → may_follow f F payload → ⊥
no_record f F payload fault e w =
    let read : record_of payload ≡ Ok w.last = ap record_of (sym w.is) ∙ written_is_read w.last w.spells in
    absurd (cc (read, e))

-- the length with one more
pub size_more : {D : Type 0} (f : FollowerState D) → IsFollower f → (payload : List ℕ) → size_with f (records_of f ++ payload ∷ []) ≡ reach f.office.marks + 5 + length payload
size_more f is payload =
    ap (λ (ps : List (List ℕ)). end_of (opened_size f.office.marks) (drop (length (found f.office.marks)) ps)) (append_assoc (found_payloads f.office) (map payload_of f.taken) (payload ∷ []))
    ∙ (ap (end_of (opened_size f.office.marks)) (drop_found (length (found f.office.marks)) (found_payloads f.office) (map payload_of f.taken ++ payload ∷ []) (found_count f is))
    ∙ (end-push (opened_size f.office.marks) (map payload_of f.taken) payload ∙ ap (λ (n : ℕ). n + 5 + length payload) (sym is.size)))
