-- What appending a record that another office wrote does, from the contracts of its steps.
use Rattle.std.proofs.Common.{◌≡◌, inl, inr, ℕ, ◌<◌, ◌≤◌, List, [], ◌∷◌, ◌++◌, Some, None, IsTrue, refl, sym, subst, arith}
use Rattle.bank_tables.specs.Tables.{Tables}
use Rattle.form_model.specs.Plan.{Plan}
use Rattle.exam_edge.specs.Faults.{Rose}
use Rattle.exam_edge.specs.Images.{AllImages, AtEachMoment, latest}
use Rattle.exam_edge.specs.ImageLaws.{started}
use Rattle.history_model.specs.declared.illegal.Illegal.{Illegal as Reason}
use Rattle.history_model.specs.declared.refusal.Refusal.{Refusal}
use Rattle.history_model.specs.declared.refusal.Refusal.TheVariants.{NoSession, OtherBooking, WrongStep, Other, BadResponse, IsClosed, Stale, OtherList, NoItem, SessionsFull, NoForm, NoneFound, JournalFull, Disk as DiskFailed, Memory as NoMemory}
use Rattle.history_model.specs.Judging.{Record, MayFollow}
use Rattle.history_model.specs.Reasons.{IsIllegal}
use Rattle.answer_journal.specs.Journal.{faults_of, tells_of, accounts_of, payloads_of, IsDoubtful}
use Rattle.answer_journal.specs.Versions.{contents, second, HoldsOrOneMore}
use Rattle.exam_records.specs.Shape.{IsRecord}
use Rattle.exam_office.specs.Appending.{FindsRecord, IsNext, IsAppended, IsRefusedFor, IsPutOff, IsNotAppended, taken_by}
use Rattle.exam_office.specs.Calls.{add, IsAt}
use Rattle.exam_office.specs.declared.appending.Taken.TheVariants.{Disk}
use Rattle.exam_office.specs.declared.mark.Mark.TheVariants.{Own}
use Rattle.exam_office.specs.Marks.{history}
use Rattle.exam_office.specs.Running.{Running}
use Rattle.exam_office.specs.Writing.{IsMended, IsSameOffice, IsUnmended, IsUnwritten, with_record}

-- ---- the refusals
-- only a fault of the disk is told so
pub disk_by : {D : Type 0} (old new : Running D) (rec : Record) (refusal : Refusal) → IsUnwritten old new rec refusal → taken_by refusal ≡ Disk → refusal ≡ DiskFailed
disk_by old new rec NoMemory why e = absurd (cc)
disk_by old new rec DiskFailed why e = refl
disk_by old new rec (JournalFull size) why e = absurd (cc)
disk_by old new rec (NoSession count) why e = absurd why
disk_by old new rec OtherBooking why e = absurd why
disk_by old new rec (WrongStep step) why e = absurd why
disk_by old new rec (Other response) why e = absurd why
disk_by old new rec (BadResponse number) why e = absurd why
disk_by old new rec (IsClosed at) why e = absurd why
disk_by old new rec (Stale at aside) why e = absurd why
disk_by old new rec (SessionsFull count) why e = absurd why
disk_by old new rec (OtherList session) why e = absurd why
disk_by old new rec (NoItem number) why e = absurd why
disk_by old new rec NoForm why e = absurd why
disk_by old new rec NoneFound why e = absurd why

-- mending is refused only with an entry in doubt
pub unmended_some : {D : Type 0} (old new : Running D) (refusal : Refusal) → IsUnmended old new refusal → old.doubt ≡ None → ⊥
unmended_some old new NoMemory why none = let some : old.doubt ≡ Some why.1 = why.2 in absurd (cc)
unmended_some old new DiskFailed why none = let some : old.doubt ≡ Some why.0 = why.1 in absurd (cc)
unmended_some old new (JournalFull size) why none = absurd why
unmended_some old new (NoSession count) why none = absurd why
unmended_some old new OtherBooking why none = absurd why
unmended_some old new (WrongStep step) why none = absurd why
unmended_some old new (Other response) why none = absurd why
unmended_some old new (BadResponse number) why none = absurd why
unmended_some old new (IsClosed at) why none = absurd why
unmended_some old new (Stale at aside) why none = absurd why
unmended_some old new (SessionsFull count) why none = absurd why
unmended_some old new (OtherList session) why none = absurd why
unmended_some old new (NoItem number) why none = absurd why
unmended_some old new NoForm why none = absurd why
unmended_some old new NoneFound why none = absurd why

-- nothing else changes an office
pub unwritten_same : {D : Type 0} (old new : Running D) (rec : Record) (refusal : Refusal) → IsUnwritten old new rec refusal → (taken_by refusal ≡ Disk → ⊥) → new ≡ old
unwritten_same old new rec NoMemory why other = why
unwritten_same old new rec DiskFailed why other = absurd (other refl)
unwritten_same old new rec (JournalFull size) why other = why.0
unwritten_same old new rec (NoSession count) why other = absurd why
unwritten_same old new rec OtherBooking why other = absurd why
unwritten_same old new rec (WrongStep step) why other = absurd why
unwritten_same old new rec (Other response) why other = absurd why
unwritten_same old new rec (BadResponse number) why other = absurd why
unwritten_same old new rec (IsClosed at) why other = absurd why
unwritten_same old new rec (Stale at aside) why other = absurd why
unwritten_same old new rec (SessionsFull count) why other = absurd why
unwritten_same old new rec (OtherList session) why other = absurd why
unwritten_same old new rec (NoItem number) why other = absurd why
unwritten_same old new rec NoForm why other = absurd why
unwritten_same old new rec NoneFound why other = absurd why

-- the entry in doubt was not resolved
pub not_mended : {D : Type 0} (old new : Running D) (rec : Record) (refusal : Refusal) → IsUnmended old new refusal → IsNotAppended old new rec (taken_by refusal)
not_mended old new rec NoMemory why = inl why
not_mended old new rec DiskFailed why = inl why
not_mended old new rec (JournalFull size) why = absurd why
not_mended old new rec (NoSession count) why = absurd why
not_mended old new rec OtherBooking why = absurd why
not_mended old new rec (WrongStep step) why = absurd why
not_mended old new rec (Other response) why = absurd why
not_mended old new rec (BadResponse number) why = absurd why
not_mended old new rec (IsClosed at) why = absurd why
not_mended old new rec (Stale at aside) why = absurd why
not_mended old new rec (SessionsFull count) why = absurd why
not_mended old new rec (OtherList session) why = absurd why
not_mended old new rec (NoItem number) why = absurd why
not_mended old new rec NoForm why = absurd why
not_mended old new rec NoneFound why = absurd why

-- ---- the entry in doubt was resolved
module _ {D : Type 0} (old mid : Running D) (same : IsSameOffice old mid) (sure : mid.doubt ≡ None) (mended : IsMended old.marks old.doubt mid.marks) (rec : Record) where
  at_mid : IsAt mid mid.marks
  at_mid = record { marks_are = refl; sure = sure }

  pub refused_so : (reason : Reason) → IsIllegal mid.bank mid.plan (history mid.marks) rec.entry rec.tree reason → IsRefusedFor old mid rec reason
  refused_so reason illegal = record {
    marks = mid.marks;
    mended = mended;
    illegal =
        subst (λ (p : Plan). IsIllegal old.bank p (history mid.marks) rec.entry rec.tree reason) same.plan
        (subst (λ (b : Tables). IsIllegal b mid.plan (history mid.marks) rec.entry rec.tree reason) same.bank illegal);
    at = at_mid;
  }

  module _ (may : MayFollow mid.bank mid.plan (history mid.marks) rec.entry rec.tree) where
    may_then : MayFollow old.bank old.plan (history mid.marks) rec.entry rec.tree
    may_then =
        subst (λ (p : Plan). MayFollow old.bank p (history mid.marks) rec.entry rec.tree) same.plan
        (subst (λ (b : Tables). MayFollow b mid.plan (history mid.marks) rec.entry rec.tree) same.bank may)

    next : IsNext old rec mid.marks
    next = record { mended = mended; may = may_then }

    pub finds : FindsRecord old.bank old.plan rec (history mid.marks) (add rec.entry)
    finds = (refl, may_then)

    put_off : (new : Running D) → new ≡ mid → IsPutOff old new rec
    put_off new is = record { marks = mid.marks; next = next; at = subst (λ (o : Running D). IsAt o mid.marks) (sym is) at_mid }

    module _ (new : Running D) where
      pub appended_so : new.marks ≡ mid.marks ++ Own rec.entry (with_record mid.marks rec) ∷ [] → new.doubt ≡ None → IsRecord rec → IsAppended old new rec
      appended_so marks none spells = record { marks = mid.marks; next = next; spells = spells; at = record { marks_are = marks; sure = none } }

      rose_too : faults_of old.journal ≤ faults_of mid.journal → Rose (faults_of mid.journal) (faults_of new.journal) → Rose (faults_of old.journal) (faults_of new.journal)
      rose_too grows rose = omega arith

      pub not_written : (refusal : Refusal) → faults_of old.journal ≤ faults_of mid.journal → (refusal ≡ DiskFailed → IsRecord rec) → IsUnwritten mid new rec refusal → IsNotAppended old new rec (taken_by refusal)
      not_written NoMemory grows spells why = inr (put_off new why)
      not_written (JournalFull size) grows spells why = record {
        put_off = record { marks = mid.marks; next = next; at = subst (λ (o : Running D). IsAt o mid.marks) (sym why.0) at_mid };
        spells = why.3;
        size_is = why.1;
        above = subst (λ (p : Plan). p.journal < size) same.plan why.2;
      }
      not_written DiskFailed grows spells why = inr (record {
        marks = mid.marks;
        next = next;
        spells = spells refl;
        faulted = record { mark = why.mark; doubt = why.doubt; rose = rose_too grows why.rose };
      })
      not_written (NoSession count) grows spells why = absurd why
      not_written OtherBooking grows spells why = absurd why
      not_written (WrongStep step) grows spells why = absurd why
      not_written (Other response) grows spells why = absurd why
      not_written (BadResponse number) grows spells why = absurd why
      not_written (IsClosed at) grows spells why = absurd why
      not_written (Stale at aside) grows spells why = absurd why
      not_written (SessionsFull count) grows spells why = absurd why
      not_written (OtherList session) grows spells why = absurd why
      not_written (NoItem number) grows spells why = absurd why
      not_written NoForm grows spells why = absurd why
      not_written NoneFound grows spells why = absurd why

-- ---- where nothing was in doubt
module _ {D : Type 0} (old mid : Running D) (is : mid ≡ old) (payload : List ℕ) where
  pub left_judged : (IsTrue (tells_of mid.journal) → AllImages (λ file. contents file ≡ Some (second (payloads_of mid.journal))) (latest (accounts_of mid.journal)))
      → IsTrue (tells_of old.journal) → AtEachMoment (accounts_of old.journal) (accounts_of mid.journal) (HoldsOrOneMore (payloads_of old.journal) payload)
  left_judged images =
      subst (λ (o : Running D). IsTrue (tells_of o.journal) → AtEachMoment (accounts_of o.journal) (accounts_of mid.journal) (HoldsOrOneMore (payloads_of o.journal) payload)) is
      (λ told. started (HoldsOrOneMore (payloads_of mid.journal) payload) (accounts_of mid.journal) (λ file i. inl (images told file i)))

  module _ (new : Running D) where
    pub left_written : (IsTrue (tells_of mid.journal) → AtEachMoment (accounts_of mid.journal) (accounts_of new.journal) (HoldsOrOneMore (payloads_of mid.journal) payload))
        → IsTrue (tells_of old.journal) → AtEachMoment (accounts_of old.journal) (accounts_of new.journal) (HoldsOrOneMore (payloads_of old.journal) payload)
    left_written moments =
        subst (λ (o : Running D). IsTrue (tells_of o.journal) → AtEachMoment (accounts_of o.journal) (accounts_of new.journal) (HoldsOrOneMore (payloads_of o.journal) payload)) is moments

    pub payloads_then : (IsTrue (tells_of mid.journal) → payloads_of new.journal ≡ payloads_of mid.journal ++ payload ∷ []) → IsTrue (tells_of old.journal) → payloads_of new.journal ≡ payloads_of old.journal ++ payload ∷ []
    payloads_then added = subst (λ (o : Running D). IsTrue (tells_of o.journal) → payloads_of new.journal ≡ payloads_of o.journal ++ payload ∷ []) is added

    pub doubtful_then : IsDoubtful (payloads_of mid.journal) payload new.journal → IsDoubtful (payloads_of old.journal) payload new.journal
    doubtful_then d = subst (λ (o : Running D). IsDoubtful (payloads_of o.journal) payload new.journal) is d
