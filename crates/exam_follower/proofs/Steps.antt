-- What one call of the office does to a follower.
use Rattle.std.proofs.Common.{◌≡◌, ◌⊎◌, ⊎_elim, ℕ, ◌+◌, ◌<◌, ◌^◌, List, [], ◌∷◌, ◌++◌, length, Option, Some, None, IsTrue, refl, sym, ap, ◌∙◌, subst, arith, length-append}
use Rattle.std.specs.Option.{option_map}
use Rattle.std.proofs.lemmas.List.{length-map}
use Rattle.exam_edge.specs.Faults.{Rose}
use Rattle.exam_edge.specs.Images.{AllImages, AtEachMoment, latest}
use Rattle.exam_edge.specs.Lent.{IsLent}
use Rattle.history_model.specs.declared.entry.Entry.{Entry}
use Rattle.history_model.specs.declared.refusal.Refusal.{Refusal}
use Rattle.history_model.specs.declared.refusal.Refusal.TheVariants.{NoSession, OtherBooking, WrongStep, Other, BadResponse, IsClosed, Stale, OtherList, NoItem, SessionsFull, NoForm, NoneFound, JournalFull, Disk, Memory}
use Rattle.history_model.specs.Judging.{Record, entries_of}
use Rattle.exam_records.specs.Shape.{IsRecord}
use Rattle.exam_records.specs.Spelling.{payload_of}
use Rattle.answer_journal.specs.Journal.{tells_of, accounts_of, identity_of, faults_of, payloads_of, IsDoubtful}
use Rattle.answer_journal.specs.Versions.{contents, second, HoldsOrOneMore}
use Rattle.exam_office.specs.declared.mark.Mark.{Mark}
use Rattle.exam_office.specs.declared.mark.Mark.TheVariants.{Own, Adopted, Fault}
use Rattle.exam_office.specs.Marks.{history, reach}
use Rattle.exam_office.specs.Payloads.{IsResolved}
use Rattle.exam_office.specs.Running.{Running}
use Rattle.exam_office.proofs.Moments.{in_doubt_images}
use Rattle.exam_office.specs.Writing.{IsSameOffice, IsMended, IsUnmended, with_record}
use Rattle.record_links.specs.Replicas.{sure, IsMended as Mends, as_they_are, with_doubt}
use Rattle.exam_follower.specs.Delivering.{HasRecords}
use Rattle.exam_follower.specs.Followers.{FollowerState, found, opened_size, records_of, held_of, IsSameFollower, IsSureOrNot, IsFollower}
use Rattle.exam_follower.proofs.Marked.{history-own, history-adopted, history-fault, reach-push, opened-push, found-own, found-adopted, found-fault}
use Rattle.exam_follower.proofs.Keeping.{records_same, records_more, stays_follower, takes_follower, IsKeptThen, resolved_so}
use Rattle.exam_follower.proofs.Stops.{still, while_mended}

-- ---- the marks
-- a record more
pub record IsOn (M N : List Mark) (r : Record) : Type 0 where
  pub entries : history N ≡ history M ++ r.entry ∷ []
  pub size : reach N ≡ reach M + 5 + length (payload_of r)
  pub found_same : found N ≡ found M
  pub size_same : opened_size N ≡ opened_size M

-- no record more
pub record IsBeside (M N : List Mark) : Type 0 where
  pub entries : history N ≡ history M
  pub size : reach N ≡ reach M
  pub found_same : found N ≡ found M
  pub size_same : opened_size N ≡ opened_size M

pub on_adopted : (M N : List Mark) (r : Record) (n : ℕ) → n ≡ reach M + 5 + length (payload_of r) → N ≡ M ++ Adopted r.entry n ∷ [] → IsOn M N r
on_adopted M N r n size is = record {
  entries = ap history is ∙ history-adopted M r.entry n;
  size = ap reach is ∙ (reach-push M (Adopted r.entry n) ∙ size);
  found_same = ap found is ∙ found-adopted M r.entry n;
  size_same = ap opened_size is ∙ opened-push M (Adopted r.entry n);
}

pub on_own : (M N : List Mark) (r : Record) → N ≡ M ++ Own r.entry (with_record M r) ∷ [] → IsOn M N r
on_own M N r is = record {
  entries = ap history is ∙ history-own M r.entry (with_record M r);
  size = ap reach is ∙ reach-push M (Own r.entry (with_record M r));
  found_same = ap found is ∙ found-own M r.entry (with_record M r);
  size_same = ap opened_size is ∙ opened-push M (Own r.entry (with_record M r));
}

pub beside_fault : (M N : List Mark) (e : Entry) → N ≡ M ++ Fault e ∷ [] → IsBeside M N
beside_fault M N e is = record {
  entries = ap history is ∙ history-fault M e;
  size = ap reach is ∙ reach-push M (Fault e);
  found_same = ap found is ∙ found-fault M e;
  size_same = ap opened_size is ∙ opened-push M (Fault e);
}

pub beside_none : (M N : List Mark) → N ≡ M → IsBeside M N
beside_none M N is = record { entries = ap history is; size = ap reach is; found_same = ap found is; size_same = ap opened_size is }

-- ---- in doubt or not
pub sure_none : {D : Type 0} (o : Running D) (ps : List (List ℕ)) (d : Option Record) → IsSureOrNot o ps d → d ≡ None → (o.doubt ≡ None) × (IsTrue (tells_of o.journal) → payloads_of o.journal ≡ ps)
sure_none o ps None w e = w
sure_none o ps (Some last) w e = absurd (cc)

pub sure_some : {D : Type 0} (o : Running D) (ps : List (List ℕ)) (d : Option Record) → IsSureOrNot o ps d → (last : Record) → d ≡ Some last → (o.doubt ≡ Some last.entry) × IsRecord last × IsDoubtful ps (payload_of last) o.journal
sure_some o ps None w last e = absurd (cc)
sure_some o ps (Some r) w last e =
    let same : r ≡ last = cc in
    subst (λ (x : Record). (o.doubt ≡ Some x.entry) × IsRecord x × IsDoubtful ps (payload_of x) o.journal) same w

pub held_none : {D : Type 0} (f : FollowerState D) → f.doubt ≡ None → held_of f ≡ sure (records_of f)
held_none f none = ap (λ (d : Option Record). record { records = records_of f; doubt = option_map payload_of d }) none

module _ {D : Type 0} (f : FollowerState D) (is : IsFollower f) where
  -- nothing is in doubt: what a crash may leave has the records
  pub images_none : f.doubt ≡ None → (f.office.doubt ≡ None → IsTrue (tells_of f.office.journal) → AllImages (λ file. contents file ≡ Some (second (payloads_of f.office.journal))) (latest (accounts_of f.office.journal)))
      → IsTrue (tells_of f.office.journal) → AllImages (λ file. contents file ≡ Some (second (records_of f))) (latest (accounts_of f.office.journal))
  images_none none images told =
      let s = sure_none f.office (records_of f) f.doubt is.sure none in
      subst (λ (ps : List (List ℕ)). AllImages (λ file. contents file ≡ Some (second ps)) (latest (accounts_of f.office.journal))) (s.1 told) (images s.0 told)

  -- what a crash may leave has the mended records
  images_held_by : (d : Option Record) → f.doubt ≡ d → (f.office.doubt ≡ None → IsTrue (tells_of f.office.journal) → AllImages (λ file. contents file ≡ Some (second (payloads_of f.office.journal))) (latest (accounts_of f.office.journal)))
      → IsTrue (tells_of f.office.journal) → AllImages (HasRecords (Mends (held_of f))) (latest (accounts_of f.office.journal))
  images_held_by None none images told = λ file i. (records_of f, as_they_are, images_none none images told file i)
  images_held_by (Some last) some images told = λ file i.
      let doubt = (sure_some f.office (records_of f) f.doubt is.sure last some).2 in
      let mends : Mends (held_of f) (records_of f ++ payload_of last ∷ []) = with_doubt (payload_of last) (ap (option_map payload_of) some) in
      ⊎_elim (λ e. (records_of f, as_they_are, e)) (λ e. (records_of f ++ payload_of last ∷ [], mends, e)) (in_doubt_images f.office.journal (records_of f) (payload_of last) doubt told file i)

  pub images_held : (f.office.doubt ≡ None → IsTrue (tells_of f.office.journal) → AllImages (λ file. contents file ≡ Some (second (payloads_of f.office.journal))) (latest (accounts_of f.office.journal)))
      → IsTrue (tells_of f.office.journal) → AllImages (HasRecords (Mends (held_of f))) (latest (accounts_of f.office.journal))
  images_held = images_held_by f.doubt refl

  pub stops_none : f.doubt ≡ None → (f.office.doubt ≡ None → IsTrue (tells_of f.office.journal) → AllImages (λ file. contents file ≡ Some (second (payloads_of f.office.journal))) (latest (accounts_of f.office.journal)))
      → IsTrue (tells_of f.office.journal) → AtEachMoment (accounts_of f.office.journal) (accounts_of f.office.journal) (HasRecords (Mends (held_of f)))
  stops_none none images told = still (Mends (held_of f)) (records_of f) (accounts_of f.office.journal) as_they_are (images_none none images told)

  -- the office resolves the record in doubt
  module _ (last : Record) (some : f.doubt ≡ Some last) where
    pub doubtful : IsDoubtful (records_of f) (payload_of last) f.office.journal
    doubtful = (sure_some f.office (records_of f) f.doubt is.sure last some).2

    pub stops_some : (later : Running D) → ((ps : List (List ℕ)) (payload : List ℕ) → IsDoubtful ps payload f.office.journal → AtEachMoment (accounts_of f.office.journal) (accounts_of later.journal) (HoldsOrOneMore ps payload))
        → AtEachMoment (accounts_of f.office.journal) (accounts_of later.journal) (HasRecords (Mends (held_of f)))
    stops_some later left = while_mended (held_of f) (payload_of last) (accounts_of f.office.journal) (accounts_of later.journal) (ap (option_map payload_of) some) (left (records_of f) (payload_of last) doubtful)

    pub mends_more : Mends (held_of f) (records_of f ++ payload_of last ∷ [])
    mends_more = with_doubt (payload_of last) (ap (option_map payload_of) some)

    module _ (o : Running D) (same : IsSameOffice f.office o) (frame : IsLent tells_of identity_of faults_of f.office.journal o.journal) (none : o.doubt ≡ None) (mended : IsMended f.office.marks f.office.doubt o.marks)
        (resolved : IsResolved f.office.marks (records_of f) (payload_of last) o.journal o.marks) where
      what : ((o.marks ≡ f.office.marks) × (IsTrue (tells_of o.journal) → payloads_of o.journal ≡ records_of f)) ⊎ IsKeptThen f.office.marks (records_of f) (payload_of last) last.entry o.journal o.marks
      what = resolved_so f.office.marks (records_of f) (payload_of last) o.journal o.marks resolved f.office.doubt mended last.entry (sure_some f.office (records_of f) f.doubt is.sure last some).0

      -- it was kept
      pub kept_then : length (history f.office.marks) < length (history o.marks) → IsKeptThen f.office.marks (records_of f) (payload_of last) last.entry o.journal o.marks
      kept_then more =
          ⊎_elim (λ w. let e = ap (λ (M : List Mark). length (history M)) w.0 in absurd (omega (arith, e, more)))
          (λ k. k) what

      -- it was dropped
      pub dropped_then : (length (history f.office.marks) < length (history o.marks) → ⊥) → (o.marks ≡ f.office.marks) × (IsTrue (tells_of o.journal) → payloads_of o.journal ≡ records_of f)
      dropped_then no_more =
          ⊎_elim (λ w. w)
          (λ k.
          let on = on_adopted f.office.marks o.marks last k.size k.size_is k.marks in
          let e = ap (λ (H : List Entry). length H) on.entries in
          let n = length-append (history f.office.marks) (last.entry ∷ []) in
          absurd (no_more (omega (arith, e, n)))) what

      pub follower_kept : length (history f.office.marks) < length (history o.marks) → IsFollower (record { office = o; taken = f.taken ++ last ∷ []; doubt = None })
      follower_kept more =
          let k = kept_then more in
          let on = on_adopted f.office.marks o.marks last k.size k.size_is k.marks in
          takes_follower f is o frame.tells same.opened on.found_same on.size_same last (sure_some f.office (records_of f) f.doubt is.sure last some).1 on.entries on.size none k.holds

      pub records_kept : length (history f.office.marks) < length (history o.marks) → records_of (record { office = o; taken = f.taken ++ last ∷ []; doubt = None }) ≡ records_of f ++ payload_of last ∷ []
      records_kept more =
          let k = kept_then more in
          let on = on_adopted f.office.marks o.marks last k.size k.size_is k.marks in
          records_more f is o frame.tells same.opened on.found_same on.size_same last None

      pub mends_kept : length (history f.office.marks) < length (history o.marks) → Mends (held_of f) (records_of (record { office = o; taken = f.taken ++ last ∷ []; doubt = None }))
      mends_kept more = subst (Mends (held_of f)) (sym (records_kept more)) mends_more

      pub later_kept : length (history f.office.marks) < length (history o.marks) → IsSameFollower f (record { office = o; taken = f.taken ++ last ∷ []; doubt = None })
      later_kept more =
          let k = kept_then more in
          let on = on_adopted f.office.marks o.marks last k.size k.size_is k.marks in
          record { same = same; found_same = on.found_same; opened_same = on.size_same; frame = frame }

      module _ (no_more : length (history f.office.marks) < length (history o.marks) → ⊥) where
        beside : IsBeside f.office.marks o.marks
        beside = beside_none f.office.marks o.marks (dropped_then no_more).0

        records_dropped : records_of (record { office = o; taken = f.taken; doubt = None }) ≡ records_of f
        records_dropped = records_same f is o frame.tells same.opened beside.found_same beside.size_same None

        pub follower_dropped : IsFollower (record { office = o; taken = f.taken; doubt = None })
        follower_dropped =
            stays_follower f is o frame.tells same.opened beside.found_same beside.size_same beside.entries beside.size None
            (none, λ told. (dropped_then no_more).1 told ∙ sym records_dropped)

        pub mends_dropped : Mends (held_of f) (records_of (record { office = o; taken = f.taken; doubt = None }))
        mends_dropped = subst (Mends (held_of f)) (sym records_dropped) as_they_are

        pub later_dropped : IsSameFollower f (record { office = o; taken = f.taken; doubt = None })
        later_dropped = record { same = same; found_same = beside.found_same; opened_same = beside.size_same; frame = frame }

    -- it was not resolved
    module _ (o : Running D) (same : IsSameOffice f.office o) (frame : IsLent tells_of identity_of faults_of f.office.journal o.journal) (beside : IsBeside f.office.marks o.marks) (doubt_same : o.doubt ≡ f.office.doubt)
        (still_so : IsDoubtful (records_of f) (payload_of last) o.journal) where
      records_still : records_of (record { office = o; taken = f.taken; doubt = f.doubt }) ≡ records_of f
      records_still = records_same f is o frame.tells same.opened beside.found_same beside.size_same f.doubt

      sure_still : (d : Option Record) → d ≡ Some last → IsSureOrNot o (records_of (record { office = o; taken = f.taken; doubt = d })) d
      sure_still None e = absurd (cc)
      sure_still (Some r) e =
          let x : r ≡ last = cc in
          let s = sure_some f.office (records_of f) f.doubt is.sure last some in
          let rs = records_same f is o frame.tells same.opened beside.found_same beside.size_same (Some r) in
          subst (λ (y : Record). (o.doubt ≡ Some y.entry) × IsRecord y × IsDoubtful (records_of (record { office = o; taken = f.taken; doubt = Some r })) (payload_of y) o.journal) (sym x)
          (doubt_same ∙ s.0, s.1, subst (λ (ps : List (List ℕ)). IsDoubtful ps (payload_of last) o.journal) (sym rs) still_so)

      pub follower_still : IsFollower (record { office = o; taken = f.taken; doubt = f.doubt })
      follower_still = stays_follower f is o frame.tells same.opened beside.found_same beside.size_same beside.entries beside.size f.doubt (sure_still f.doubt some)

      pub held_still : held_of (record { office = o; taken = f.taken; doubt = f.doubt }) ≡ held_of f
      held_still = ap (λ (ps : List (List ℕ)). record { records = ps; doubt = option_map payload_of f.doubt }) records_still

      pub later_still : IsSameFollower f (record { office = o; taken = f.taken; doubt = f.doubt })
      later_still = record { same = same; found_same = beside.found_same; opened_same = beside.size_same; frame = frame }

-- ---- why the office did not resolve it
unmended_beside : {D : Type 0} (old new : Running D) (refusal : Refusal) → IsUnmended old new refusal → IsBeside old.marks new.marks × (new.doubt ≡ old.doubt)
unmended_beside old new Memory why = (beside_none old.marks new.marks (ap (λ (o : Running _). o.marks) why.0), ap (λ (o : Running _). o.doubt) why.0)
unmended_beside old new Disk why = (beside_fault old.marks new.marks why.0 why.2.mark, why.2.doubt ∙ sym why.1)
unmended_beside old new (JournalFull size) why = absurd why
unmended_beside old new (NoSession count) why = absurd why
unmended_beside old new OtherBooking why = absurd why
unmended_beside old new (WrongStep step) why = absurd why
unmended_beside old new (Other response) why = absurd why
unmended_beside old new (BadResponse number) why = absurd why
unmended_beside old new (IsClosed at) why = absurd why
unmended_beside old new (Stale at aside) why = absurd why
unmended_beside old new (SessionsFull count) why = absurd why
unmended_beside old new (OtherList session) why = absurd why
unmended_beside old new (NoItem number) why = absurd why
unmended_beside old new NoForm why = absurd why
unmended_beside old new NoneFound why = absurd why

pub beside_unmended : {D : Type 0} (old new : Running D) (refusal : Refusal) → IsUnmended old new refusal → IsBeside old.marks new.marks
beside_unmended old new refusal why = (unmended_beside old new refusal why).0

pub doubt_unmended : {D : Type 0} (old new : Running D) (refusal : Refusal) → IsUnmended old new refusal → new.doubt ≡ old.doubt
doubt_unmended old new refusal why = (unmended_beside old new refusal why).1

pub rose_unmended : {D : Type 0} (old new : Running D) (refusal : Refusal) → IsUnmended old new refusal → (refusal ≡ Memory → ⊥) → Rose (faults_of old.journal) (faults_of new.journal)
rose_unmended old new Memory why other = absurd (other refl)
rose_unmended old new Disk why other = why.2.rose
rose_unmended old new (JournalFull size) why other = absurd why
rose_unmended old new (NoSession count) why other = absurd why
rose_unmended old new OtherBooking why other = absurd why
rose_unmended old new (WrongStep step) why other = absurd why
rose_unmended old new (Other response) why other = absurd why
rose_unmended old new (BadResponse number) why other = absurd why
rose_unmended old new (IsClosed at) why other = absurd why
rose_unmended old new (Stale at aside) why other = absurd why
rose_unmended old new (SessionsFull count) why other = absurd why
rose_unmended old new (OtherList session) why other = absurd why
rose_unmended old new (NoItem number) why other = absurd why
rose_unmended old new NoForm why other = absurd why
rose_unmended old new NoneFound why other = absurd why

-- there is room for one record more
pub push_room : {D : Type 0} (f : FollowerState D) → IsFollower f → (N : List Mark) (r : Record) → IsOn f.office.marks N r → (n : ℕ) → n ≡ length (history N) → n < 2 ^ 64 → length f.taken + 1 < 2 ^ 64
push_room f is N r on n is_n lt =
    let a = ap (λ (H : List Entry). length H) on.entries in
    let b = length-append (history f.office.marks) (r.entry ∷ []) in
    let d = ap (λ (H : List Entry). length H) is.entries in
    let e = length-append (found f.office.marks) (entries_of f.taken) in
    let g = length-map f.taken (λ (x : Record). x.entry) in
    omega (arith, a, b, d, e, g, is_n, lt)
