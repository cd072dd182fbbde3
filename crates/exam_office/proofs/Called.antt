-- What a call does to an office, from the contracts of its steps.
use Rattle.std.proofs.Common.{◌≡◌, ℕ, ◌<◌, ◌≤◌, List, [], ◌∷◌, ◌++◌, Some, None, refl, sym, subst, arith}
use Rattle.bank_tables.specs.Tables.{Tables}
use Rattle.form_model.specs.Plan.{Plan}
use Rattle.exam_edge.specs.Faults.{Rose}
use Rattle.exam_edge.specs.Images.{AtEachMoment}
use Rattle.history_model.specs.declared.entry.Entry.{Entry}
use Rattle.history_model.specs.Judging.{Record, MayFollow}
use Rattle.answer_journal.specs.Journal.{faults_of, accounts_of}
use Rattle.exam_office.specs.declared.mark.Mark.TheVariants.{Own}
use Rattle.history_model.specs.declared.refusal.Refusal.{Refusal}
use Rattle.history_model.specs.declared.refusal.Refusal.TheVariants.{NoSession, OtherBooking, WrongStep, Other, BadResponse, IsClosed, Stale, OtherList, NoItem, SessionsFull, NoForm, NoneFound, JournalFull, Disk, Memory}
use Rattle.exam_office.specs.Marks.{history}
use Rattle.exam_office.specs.Running.{Running}
use Rattle.exam_office.specs.Writing.{IsMending, IsWriting, IsMended, IsSameOffice, IsUnwritten}
use Rattle.exam_office.specs.Calls.{Finding, refuse, nothing, add, IsAt, IsHalted, IsLeft, Calls, refused, found, written, unwritten}
use Rattle.exam_office.proofs.Calling.{mended_one_of, mending_left, writing_left}

module _ {D : Type 0} (finds : List Entry → Finding → Type 0) (old mid new : Running D) (same : IsSameOffice old mid) (sure : mid.doubt ≡ None) (mended : IsMended old.marks old.doubt mid.marks) where
  at_mid : IsAt mid mid.marks
  at_mid = record { marks_are = refl; sure = sure }

  pub call_refused : (refusal : Refusal) → finds (history mid.marks) (refuse refusal) → Calls finds old mid (Some refusal)
  call_refused refusal says = refused mid.marks refusal mended says at_mid

  pub call_found : finds (history mid.marks) nothing → Calls finds old mid None
  call_found says = found mid.marks mended says at_mid

  pub call_written : (entry : Entry) (size : ℕ) → finds (history mid.marks) (add entry) → new.marks ≡ mid.marks ++ Own entry size ∷ [] → new.doubt ≡ None → Calls finds old new None
  call_written entry size says marks_are still_sure = written mid.marks entry size mended says (record { marks_are = marks_are; sure = still_sure })

  rose_too : faults_of old.journal ≤ faults_of mid.journal → Rose (faults_of mid.journal) (faults_of new.journal) → Rose (faults_of old.journal) (faults_of new.journal)
  rose_too grows rose = omega arith

  halted : (rec : Record) (refusal : Refusal) → faults_of old.journal ≤ faults_of mid.journal → MayFollow mid.bank mid.plan (history mid.marks) rec.entry rec.tree → IsUnwritten mid new rec refusal → IsHalted old new mid.marks rec.entry refusal
  halted rec Memory grows may why = subst (λ (o : Running D). IsAt o mid.marks) (sym why) at_mid
  halted rec (JournalFull size) grows may why = (
    subst (λ (o : Running D). IsAt o mid.marks) (sym why.0) at_mid,
    record {
      last = record { entry = rec.entry; tree = rec.tree };
      is_entry = refl;
      spells = why.3;
      may = subst (λ (p : Plan). MayFollow old.bank p (history mid.marks) rec.entry rec.tree) same.plan (subst (λ (b : Tables). MayFollow b mid.plan (history mid.marks) rec.entry rec.tree) same.bank may);
      size_is = why.1;
      above = subst (λ (p : Plan). p.journal < size) same.plan why.2;
    },
  )
  halted rec Disk grows may why = record { mark = why.mark; doubt = why.doubt; rose = rose_too grows why.rose }
  halted rec (NoSession count) grows may why = absurd why
  halted rec OtherBooking grows may why = absurd why
  halted rec (WrongStep step) grows may why = absurd why
  halted rec (Other response) grows may why = absurd why
  halted rec (BadResponse number) grows may why = absurd why
  halted rec (IsClosed at) grows may why = absurd why
  halted rec (Stale at aside) grows may why = absurd why
  halted rec (SessionsFull count) grows may why = absurd why
  halted rec (OtherList session) grows may why = absurd why
  halted rec (NoItem number) grows may why = absurd why
  halted rec NoForm grows may why = absurd why
  halted rec NoneFound grows may why = absurd why

  pub call_unwritten : (rec : Record) (refusal : Refusal) → finds (history mid.marks) (add rec.entry) → faults_of old.journal ≤ faults_of mid.journal → MayFollow mid.bank mid.plan (history mid.marks) rec.entry rec.tree → IsUnwritten mid new rec refusal → Calls finds old new (Some refusal)
  call_unwritten rec refusal says grows may why = unwritten mid.marks rec.entry refusal mended says (halted rec refusal grows may why)

  pub left_mending : AtEachMoment (accounts_of old.journal) (accounts_of mid.journal) (IsMending old.bank old.plan (history old.marks) old.doubt) → AtEachMoment (accounts_of old.journal) (accounts_of mid.journal) (IsLeft old.bank old.plan finds (history old.marks) old.doubt)
  left_mending moments = mending_left old.bank old.plan finds (history old.marks) old.doubt (accounts_of old.journal) (accounts_of mid.journal) moments

  pub left_writing : (entry : Entry) → finds (history mid.marks) (add entry) → AtEachMoment (accounts_of old.journal) (accounts_of mid.journal) (IsMending old.bank old.plan (history old.marks) old.doubt) → AtEachMoment (accounts_of mid.journal) (accounts_of new.journal) (IsWriting mid.bank mid.plan (history mid.marks) entry) → AtEachMoment (accounts_of old.journal) (accounts_of new.journal) (IsLeft old.bank old.plan finds (history old.marks) old.doubt)
  left_writing entry says before after =
      writing_left old.bank old.plan finds (history old.marks) old.doubt (history mid.marks) (mended_one_of old.marks old.doubt mid.marks mended) entry says (accounts_of old.journal) (accounts_of mid.journal) (accounts_of new.journal) before
      (subst (λ (p : Plan). AtEachMoment (accounts_of mid.journal) (accounts_of new.journal) (IsWriting old.bank p (history mid.marks) entry)) same.plan
      (subst (λ (b : Tables). AtEachMoment (accounts_of mid.journal) (accounts_of new.journal) (IsWriting b mid.plan (history mid.marks) entry)) same.bank after))
