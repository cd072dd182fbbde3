-- What appending a record does to a follower with nothing in doubt.
use Rattle.std.proofs.Common.{◌≡◌, ◌⊎◌, ⊎_elim, inl, inr, ℕ, ◌+◌, List, [], ◌∷◌, ◌++◌, length, Some, None, Err, IsTrue, refl, sym, ap, ◌∙◌, subst}
use Rattle.exam_edge.specs.Faults.{Rose}
use Rattle.exam_edge.specs.Images.{AllImages, AtEachMoment, latest}
use Rattle.exam_edge.specs.Lent.{IsLent}
use Rattle.history_model.specs.declared.illegal.Illegal.{Illegal as Reason}
use Rattle.history_model.specs.declared.refusal.Refusal.TheVariants.{Disk as DiskFailed}
use Rattle.history_model.specs.Judging.{Record, MayFollow}
use Rattle.history_model.specs.Reasons.{IsIllegal}
use Rattle.exam_records.specs.declared.fault.RecordFault.{RecordFault}
use Rattle.exam_records.specs.Reading.{record_of}
use Rattle.exam_records.specs.Shape.{IsRecord}
use Rattle.exam_records.specs.Spelling.{payload_of}
use Rattle.answer_journal.specs.Journal.{tells_of, accounts_of, identity_of, faults_of, payloads_of, length_of, IsDoubtful, IsInDoubtAfter}
use Rattle.answer_journal.specs.Versions.{contents, second, HoldsOrOneMore}
use Rattle.exam_office.specs.declared.mark.Mark.{Mark}
use Rattle.exam_office.specs.declared.mark.Mark.TheVariants.{Own, Fault}
use Rattle.exam_office.specs.Appending.{IsNext, IsAppended, IsRefusedFor, IsAbove, IsLeftInDoubt}
use Rattle.exam_office.specs.Marks.{history, reach}
use Rattle.exam_office.specs.Running.{Running}
use Rattle.exam_office.specs.Writing.{IsSameOffice, IsUnmended, with_record}
use Rattle.record_links.specs.Messages.{offer_of}
use Rattle.record_links.specs.Replicas.{as_they_are, StopLeaves}
use Rattle.exam_follower.specs.declared.fault.DeliverFault.TheVariants.{BadRecord, Refused, Full, Disk, Memory}
use Rattle.exam_follower.specs.Delivering.{IsNotAppended, HasRecords}
use Rattle.exam_follower.specs.Followers.{FollowerState, records_of, held_of, may_follow, IsSameFollower, IsFollower}
use Rattle.exam_follower.proofs.Keeping.{records_same, records_more, stays_follower, takes_follower, mended_none}
use Rattle.exam_follower.proofs.Judged.{follows_so, refused_so, no_record, size_more}
use Rattle.exam_follower.proofs.Steps.{IsOn, on_own, IsBeside, beside_fault, sure_none, held_none, images_none}
use Rattle.exam_follower.proofs.Stops.{still, while_taken}

module _ {D : Type 0} (f : FollowerState D) (is : IsFollower f) (none : f.doubt ≡ None) where
  office_sure : f.office.doubt ≡ None
  office_sure = (sure_none f.office (records_of f) f.doubt is.sure none).0

  payloads_are : IsTrue (tells_of f.office.journal) → payloads_of f.office.journal ≡ records_of f
  payloads_are = (sure_none f.office (records_of f) f.doubt is.sure none).1

  -- nothing is written
  pub stops_unwritten : (payload : List ℕ) → (f.office.doubt ≡ None → IsTrue (tells_of f.office.journal) → AllImages (λ file. contents file ≡ Some (second (payloads_of f.office.journal))) (latest (accounts_of f.office.journal)))
      → IsTrue (tells_of f.office.journal)
      → AtEachMoment (accounts_of f.office.journal) (accounts_of f.office.journal) (HasRecords (StopLeaves (may_follow f) (held_of f) (offer_of (length (records_of f)) payload)))
  stops_unwritten payload images told =
      still (StopLeaves (may_follow f) (held_of f) (offer_of (length (records_of f)) payload)) (records_of f) (accounts_of f.office.journal)
      (records_of f, as_they_are, inl refl) (images_none f is none images told)

  pub not_record : (payload : List ℕ) (fault : RecordFault) → record_of payload ≡ Err fault → IsNotAppended f f payload (BadRecord fault)
  not_record payload fault e = record {
    fails = (records_of f, as_they_are, held_none f none, refl, no_record f (records_of f) payload fault e);
    found_out = e;
  }

  pub not_memory : (payload : List ℕ) → IsNotAppended f f payload Memory
  not_memory payload = record { fails = inl refl; found_out = tt }

  module _ (r : Record) (spells : IsRecord r) (payload : List ℕ) (spelling : payload_of r ≡ payload) where
    pub not_refused : (o : Running D) (reason : Reason) → IsRefusedFor f.office o r reason → IsNotAppended f f payload (Refused reason)
    not_refused o reason w =
        let M : w.marks ≡ f.office.marks = mended_none f.office.marks f.office.doubt w.marks w.mended office_sure in
        let illegal : IsIllegal f.office.bank f.office.plan (history f.office.marks) r.entry r.tree reason =
        subst (λ (N : List Mark). IsIllegal f.office.bank f.office.plan (history N) r.entry r.tree reason) M w.illegal in
        record {
          fails = (records_of f, as_they_are, held_none f none, refl, refused_so f is r spells payload spelling reason illegal);
          found_out = record { last = r; spells = spells; is = spelling; illegal = illegal };
        }

    -- the record may follow
    may_here : (o : Running D) (M : List Mark) → IsNext f.office r M → may_follow f (records_of f) payload
    may_here o M next =
        follows_so f is r spells payload spelling
        (subst (λ (N : List Mark). MayFollow f.office.bank f.office.plan (history N) r.entry r.tree) (mended_none f.office.marks f.office.doubt M next.mended office_sure) next.may)

    pub not_full : (o : Running D) (size : ℕ) → IsAbove f.office o r size → IsNotAppended f f payload (Full size)
    not_full o size w =
        let M : w.put_off.marks ≡ f.office.marks = mended_none f.office.marks f.office.doubt w.put_off.marks w.put_off.next.mended office_sure in
        record {
          fails = (
            records_of f,
            record { mended = as_they_are; next = refl; follows = may_here o w.put_off.marks w.put_off.next },
            held_none f none,
            w.size_is ∙ (ap (λ (N : List Mark). with_record N r) M ∙ (ap (λ (p : List ℕ). reach f.office.marks + 5 + length p) spelling ∙ sym (size_more f is payload))),
            w.above,
          );
          found_out = tt;
        }

    module _ (o : Running D) (same : IsSameOffice f.office o) (frame : IsLent tells_of identity_of faults_of f.office.journal o.journal) where
      stops_taken : may_follow f (records_of f) payload → (IsTrue (tells_of f.office.journal) → AtEachMoment (accounts_of f.office.journal) (accounts_of o.journal) (HoldsOrOneMore (payloads_of f.office.journal) (payload_of r)))
          → IsTrue (tells_of f.office.journal)
          → AtEachMoment (accounts_of f.office.journal) (accounts_of o.journal) (HasRecords (StopLeaves (may_follow f) (held_of f) (offer_of (length (records_of f)) payload)))
      stops_taken may left told =
          while_taken (may_follow f) (held_of f) payload (accounts_of f.office.journal) (accounts_of o.journal) may
          (subst (λ (p : List ℕ). AtEachMoment (accounts_of f.office.journal) (accounts_of o.journal) (HoldsOrOneMore (records_of f) p)) spelling
          (subst (λ (ps : List (List ℕ)). AtEachMoment (accounts_of f.office.journal) (accounts_of o.journal) (HoldsOrOneMore ps (payload_of r))) (payloads_are told) (left told)))

      -- it was appended
      module _ (w : IsAppended f.office o r) where
        pub on_appended : IsOn f.office.marks o.marks r
        on_appended = on_own f.office.marks o.marks r (w.at.marks_are ∙ ap (λ (N : List Mark). N ++ Own r.entry (with_record N r) ∷ []) (mended_none f.office.marks f.office.doubt w.marks w.next.mended office_sure))

        pub follows_appended : may_follow f (records_of f) payload
        follows_appended = may_here o w.marks w.next

        pub follower_appended : (f.office.doubt ≡ None → IsTrue (tells_of f.office.journal) → payloads_of o.journal ≡ payloads_of f.office.journal ++ payload_of r ∷ []) → IsFollower (record { office = o; taken = f.taken ++ r ∷ []; doubt = None })
        follower_appended payloads =
            takes_follower f is o frame.tells same.opened on_appended.found_same on_appended.size_same r spells on_appended.entries on_appended.size w.at.sure
            (λ told. payloads office_sure (sym frame.tells ∙ told) ∙ ap (λ (ps : List (List ℕ)). ps ++ payload_of r ∷ []) (payloads_are (sym frame.tells ∙ told)))

        pub records_appended : records_of (record { office = o; taken = f.taken ++ r ∷ []; doubt = None }) ≡ records_of f ++ payload ∷ []
        records_appended = records_more f is o frame.tells same.opened on_appended.found_same on_appended.size_same r None ∙ ap (λ (p : List ℕ). records_of f ++ p ∷ []) spelling

        pub later_appended : IsSameFollower f (record { office = o; taken = f.taken ++ r ∷ []; doubt = None })
        later_appended = record { same = same; found_same = on_appended.found_same; opened_same = on_appended.size_same; frame = frame }

        pub stops_appended : (f.office.doubt ≡ None → IsTrue (tells_of f.office.journal) → AtEachMoment (accounts_of f.office.journal) (accounts_of o.journal) (HoldsOrOneMore (payloads_of f.office.journal) (payload_of r)))
            → IsTrue (tells_of f.office.journal)
            → AtEachMoment (accounts_of f.office.journal) (accounts_of o.journal) (HasRecords (StopLeaves (may_follow f) (held_of f) (offer_of (length (records_of f)) payload)))
        stops_appended left = stops_taken follows_appended (left office_sure)

      -- the disk failed
      pub left_in_doubt : IsUnmended f.office o DiskFailed ⊎ IsLeftInDoubt f.office o r → IsLeftInDoubt f.office o r
      left_in_doubt w = ⊎_elim (λ u. absurd (cc (u.1, office_sure))) (λ l. l) w

      module _ (w : IsLeftInDoubt f.office o r) where
        beside : IsBeside f.office.marks o.marks
        beside = beside_fault f.office.marks o.marks r.entry (w.faulted.mark ∙ ap (λ (N : List Mark). N ++ Fault r.entry ∷ []) (mended_none f.office.marks f.office.doubt w.marks w.next.mended office_sure))

        records_doubtful : records_of (record { office = o; taken = f.taken; doubt = Some r }) ≡ records_of f
        records_doubtful = records_same f is o frame.tells same.opened beside.found_same beside.size_same (Some r)

        pub follower_doubtful : IsDoubtful (payloads_of f.office.journal) (payload_of r) o.journal → IsFollower (record { office = o; taken = f.taken; doubt = Some r })
        follower_doubtful d =
            stays_follower f is o frame.tells same.opened beside.found_same beside.size_same beside.entries beside.size (Some r) (
              w.faulted.doubt,
              spells,
              record {
                with_it = d.with_it;
                doubt = d.doubt;
                with_is = d.with_is;
                is = λ told.
                    subst (λ (ps : List (List ℕ)). IsInDoubtAfter o.journal.version o.journal.start ps (payload_of r) (accounts_of o.journal) (length_of o.journal) d.with_it)
                    (payloads_are (sym frame.tells ∙ told) ∙ sym records_doubtful) (d.is told);
              },
            )

        pub not_disk : IsNotAppended f (record { office = o; taken = f.taken; doubt = Some r }) payload Disk
        not_disk = record {
          fails = inr (
            records_of f,
            record { mended = as_they_are; next = refl; follows = may_here o w.marks w.next },
            ap (λ (ps : List (List ℕ)). record { records = ps; doubt = Some (payload_of r) }) records_doubtful ∙ ap (λ (p : List ℕ). record { records = records_of f; doubt = Some p }) spelling,
          );
          found_out = tt;
        }

        pub later_doubtful : IsSameFollower f (record { office = o; taken = f.taken; doubt = Some r })
        later_doubtful = record { same = same; found_same = beside.found_same; opened_same = beside.size_same; frame = frame }

        pub stops_doubtful : (f.office.doubt ≡ None → IsTrue (tells_of f.office.journal) → AtEachMoment (accounts_of f.office.journal) (accounts_of o.journal) (HoldsOrOneMore (payloads_of f.office.journal) (payload_of r)))
            → IsTrue (tells_of f.office.journal)
            → AtEachMoment (accounts_of f.office.journal) (accounts_of o.journal) (HasRecords (StopLeaves (may_follow f) (held_of f) (offer_of (length (records_of f)) payload)))
        stops_doubtful left = stops_taken (may_here o w.marks w.next) (left office_sure)

        pub rose_doubtful : Rose (faults_of f.office.journal) (faults_of o.journal)
        rose_doubtful = w.faulted.rose
