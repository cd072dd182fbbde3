-- What may be committed before a call may be committed after it.
use Rattle.std.proofs.Common.{◌≡◌, ℕ, List, [], ◌∷◌, ◌++◌, Option, sym, ◌∙◌, subst, ap}
use Rattle.bank_tables.specs.Tables.{Tables}
use Rattle.form_model.specs.Plan.{Plan}
use Rattle.history_model.specs.declared.entry.Entry.{Entry}
use Rattle.history_model.specs.declared.refusal.Refusal.{Refusal}
use Rattle.history_model.specs.declared.refusal.Refusal.TheVariants.{NoSession, OtherBooking, WrongStep, Other, BadResponse, IsClosed, Stale, OtherList, NoItem, SessionsFull, NoForm, NoneFound, JournalFull, Disk, Memory}
use Rattle.branch_bound.specs.Assembled.{Assembly}
use Rattle.exam_office.specs.declared.mark.Mark.{Mark}
use Rattle.exam_office.specs.declared.mark.Mark.TheVariants.{Fault}
use Rattle.exam_office.specs.Marks.{history}
use Rattle.exam_office.specs.Running.{Running}
use Rattle.exam_office.specs.Writing.{IsMended, IsSameOffice, IsUnmended}
use Rattle.exam_office.specs.Calls.{Finding, IsHalted, Calls, unmended, refused, found, written, unwritten}
use Rattle.exam_office.specs.Commits.{MayBeCommitted}
use Rattle.exam_office.proofs.Marking.{history-own, history-fault}
use Rattle.exam_office.proofs.Committed.{still_may, mended_may}

module _ {D : Type 0} (old new : Running D) (a : Assembly) where
  abbrev May : List Entry → Type 0
  May H = MayBeCommitted old.bank old.plan old.base H a

  faulted : (M : List Mark) (entry : Entry) → new.marks ≡ M ++ Fault entry ∷ [] → May (history M) → May (history new.marks)
  faulted M entry is m = subst May (sym (ap history is ∙ history-fault M entry)) m

  not_mended : (r : Refusal) → IsUnmended old new r → May (history old.marks) → May (history new.marks)
  not_mended Memory why m = subst (λ (o : Running D). May (history o.marks)) (sym why.0) m
  not_mended Disk why m = faulted old.marks why.0 why.2.mark m
  not_mended (JournalFull size) why m = absurd why
  not_mended (NoSession count) why m = absurd why
  not_mended OtherBooking why m = absurd why
  not_mended (WrongStep k) why m = absurd why
  not_mended (Other k) why m = absurd why
  not_mended (BadResponse k) why m = absurd why
  not_mended (IsClosed at) why m = absurd why
  not_mended (Stale at aside) why m = absurd why
  not_mended (SessionsFull count) why m = absurd why
  not_mended (OtherList session) why m = absurd why
  not_mended (NoItem number) why m = absurd why
  not_mended NoForm why m = absurd why
  not_mended NoneFound why m = absurd why

  not_written : (M : List Mark) (entry : Entry) (r : Refusal) → IsHalted old new M entry r → May (history M) → May (history new.marks)
  not_written M entry Memory why m = subst May (sym (ap history why.marks_are)) m
  not_written M entry Disk why m = faulted M entry why.mark m
  not_written M entry (JournalFull size) why m = subst May (sym (ap history why.0.marks_are)) m
  not_written M entry (NoSession count) why m = absurd why
  not_written M entry OtherBooking why m = absurd why
  not_written M entry (WrongStep k) why m = absurd why
  not_written M entry (Other k) why m = absurd why
  not_written M entry (BadResponse k) why m = absurd why
  not_written M entry (IsClosed at) why m = absurd why
  not_written M entry (Stale at aside) why m = absurd why
  not_written M entry (SessionsFull count) why m = absurd why
  not_written M entry (OtherList session) why m = absurd why
  not_written M entry (NoItem number) why m = absurd why
  not_written M entry NoForm why m = absurd why
  not_written M entry NoneFound why m = absurd why

  may_after : (M : List Mark) → IsMended old.marks old.doubt M → May (history old.marks) → May (history M)
  may_after M mended m = mended_may old.bank old.plan old.base old.marks M old.doubt a mended m

  at_last : (finds : List Entry → Finding → Type 0) (o : Option Refusal) → Calls finds old new o → May (history old.marks) → May (history new.marks)
  at_last finds o (unmended r why) m = not_mended r why m
  at_last finds o (refused M r mended says at) m = subst May (sym (ap history at.marks_are)) (may_after M mended m)
  at_last finds o (found M mended says at) m = subst May (sym (ap history at.marks_are)) (may_after M mended m)
  at_last finds o (written M entry size mended says at) m =
      subst May (sym (ap history at.marks_are ∙ history-own M entry size)) (still_may old.bank old.plan old.base (history M) (entry ∷ []) a (may_after M mended m))
  at_last finds o (unwritten M entry r mended says why) m = not_written M entry r why (may_after M mended m)

  pub may_later : (finds : List Entry → Finding → Type 0) (o : Option Refusal) → IsSameOffice old new → Calls finds old new o → May (history old.marks) → MayBeCommitted new.bank new.plan new.base (history new.marks) a
  may_later finds o same call m =
      subst (λ (base : List ℕ). MayBeCommitted new.bank new.plan base (history new.marks) a) (sym same.base)
      (subst (λ (p : Plan). MayBeCommitted new.bank p old.base (history new.marks) a) (sym same.plan)
      (subst (λ (b : Tables). MayBeCommitted b old.plan old.base (history new.marks) a) (sym same.bank) (at_last finds o call m)))
