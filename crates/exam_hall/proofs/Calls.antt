-- What one call of an office does to its marks, and what it adds to them.
use Rattle.std.proofs.Common.{◌≡◌, ◌≢◌, ◌⊎◌, ℕ, zero, suc, ◌≤◌, List, [], ◌∷◌, ◌++◌, length, refl, sym, ap, ◌∙◌, subst, inl, inr, ⊎_elim, arith, append_assoc, Option, Some, None, All, length-append}
use Rattle.std.proofs.lemmas.List.{append-nil}
use Rattle.std.proofs.lemmas.List.Elements.{All-append}
use Rattle.bank_tables.specs.Tables.{Tables}
use Rattle.form_model.specs.Plan.{Plan}
use Rattle.history_model.specs.declared.entry.Entry.{Entry}
use Rattle.history_model.specs.declared.refusal.Refusal.{Refusal}
use Rattle.history_model.specs.declared.refusal.Refusal.TheVariants.{NoSession, OtherBooking, WrongStep, Other, BadResponse, IsClosed, Stale, OtherList, NoItem, SessionsFull, NoForm, NoneFound, JournalFull, Disk, Memory}
use Rattle.history_model.specs.Legality.{Legal}
use Rattle.turn_lock.proofs.Lists.{tail_is}
use Rattle.exam_office.specs.declared.mark.Mark.{Mark}
use Rattle.exam_office.specs.declared.mark.Mark.TheVariants.{Own, Adopted, Fault}
use Rattle.exam_office.specs.Calls.{Finding, refuse, nothing, add, Calls, IsHalted, IsTooLong}
use Rattle.exam_office.specs.Calls.{unmended as office_unmended, refused as office_refused, found as office_found, written as office_written, unwritten as office_unwritten}
use Rattle.exam_office.specs.Marks.{history}
use Rattle.exam_office.specs.Noting.{IsDoubtOf, EndsInFault}
use Rattle.exam_office.specs.Running.{Running}
use Rattle.exam_office.specs.Writing.{IsMended, sure, dropped, kept, IsUnmended}
use Rattle.exam_office.proofs.Marking.{history-own}
use Rattle.exam_hall.specs.Parts.{owns, NoFault, IsAfterFault, Fails}
use Rattle.exam_hall.proofs.Moved.{owns_append}
use Rattle.exam_hall.proofs.Owned.{EachMark, IsFoundMark, each_append, none_found}

-- ---- what one call of an office does to its marks
-- the marks after the entry in doubt, if there was one, was kept or dropped
abbrev pub Settled : List Mark → List Mark → Type 0
Settled before mid = (mid ≡ before) ⊎ ((e : Entry) × (size : ℕ) × (mid ≡ before ++ Adopted e size ∷ []))

-- why the entry in doubt was neither kept nor dropped
abbrev pub StaysInDoubt : List Mark → List Mark → Refusal → Type 0
StaysInDoubt before after Disk = (e : Entry) × EndsInFault before e × (after ≡ before ++ Fault e ∷ [])
StaysInDoubt before after Memory = (after ≡ before) × IsAfterFault before
StaysInDoubt before after r = ⊥

-- why the entry e was not added after the marks `mid`
abbrev pub FailsAs : Tables → Plan → List Mark → Entry → List Mark → Refusal → Type 0
FailsAs b plan mid e after Disk = after ≡ mid ++ Fault e ∷ []
FailsAs b plan mid e after (JournalFull size) = (after ≡ mid) × IsTooLong b plan mid e size
FailsAs b plan mid e after Memory = after ≡ mid
FailsAs b plan mid e after r = ⊥

-- a call settles the entry in doubt; then it tests the history that it finds, and adds no entry, or
-- one
pub data CallsOn (b : Tables) (plan : Plan) (finds : List Entry → Finding → Type 0) (before after : List Mark) : Option Refusal → Type 0 where
  unmended : (r : Refusal) → StaysInDoubt before after r → CallsOn b plan finds before after (Some r)
  refused : (mid : List Mark) (r : Refusal) → Settled before mid → finds (history mid) (refuse r) → after ≡ mid → CallsOn b plan finds before after (Some r)
  found : (mid : List Mark) → Settled before mid → finds (history mid) nothing → after ≡ mid → CallsOn b plan finds before after None
  written : (mid : List Mark) (e : Entry) (size : ℕ) → Settled before mid → finds (history mid) (add e) → after ≡ mid ++ Own e size ∷ []
      → CallsOn b plan finds before after None
  unwritten : (mid : List Mark) (e : Entry) (r : Refusal) → Settled before mid → finds (history mid) (add e) → FailsAs b plan mid e after r
      → CallsOn b plan finds before after (Some r)

-- ---- the call, by the marks
pub settled_by : (M N : List Mark) (doubt : Option Entry) → IsMended M doubt N → Settled M N
settled_by M N doubt sure = inl refl
settled_by M N doubt (dropped e) = inl refl
settled_by M N doubt (kept e size) = inr (e, size, refl)

module _ {D : Type 0} (old new : Running D) where
  unmended_on : (r : Refusal) → IsDoubtOf old.marks old.doubt → IsUnmended old new r → StaysInDoubt old.marks new.marks r
  unmended_on Memory doubt h = (ap (λ (o : Running D). o.marks) h.0, (h.1, subst (λ d. IsDoubtOf old.marks d) h.2 doubt))
  unmended_on Disk doubt h = (h.0, subst (λ d. IsDoubtOf old.marks d) h.1 doubt, h.2.mark)
  unmended_on (JournalFull size) doubt h = absurd h
  unmended_on (NoSession count) doubt h = absurd h
  unmended_on OtherBooking doubt h = absurd h
  unmended_on (WrongStep k) doubt h = absurd h
  unmended_on (Other k) doubt h = absurd h
  unmended_on (BadResponse k) doubt h = absurd h
  unmended_on (IsClosed at) doubt h = absurd h
  unmended_on (Stale at flag) doubt h = absurd h
  unmended_on (OtherList session) doubt h = absurd h
  unmended_on (NoItem count) doubt h = absurd h
  unmended_on (SessionsFull count) doubt h = absurd h
  unmended_on NoForm doubt h = absurd h
  unmended_on NoneFound doubt h = absurd h

  halted_on : (marks : List Mark) (e : Entry) (r : Refusal) → IsHalted old new marks e r → FailsAs old.bank old.plan marks e new.marks r
  halted_on marks e Memory h = h.marks_are
  halted_on marks e Disk h = h.mark
  halted_on marks e (JournalFull size) h = (h.0.marks_are, h.1)
  halted_on marks e (NoSession count) h = absurd h
  halted_on marks e OtherBooking h = absurd h
  halted_on marks e (WrongStep k) h = absurd h
  halted_on marks e (Other k) h = absurd h
  halted_on marks e (BadResponse k) h = absurd h
  halted_on marks e (IsClosed at) h = absurd h
  halted_on marks e (Stale at flag) h = absurd h
  halted_on marks e (OtherList session) h = absurd h
  halted_on marks e (NoItem count) h = absurd h
  halted_on marks e (SessionsFull count) h = absurd h
  halted_on marks e NoForm h = absurd h
  halted_on marks e NoneFound h = absurd h

  pub calls_on : (finds : List Entry → Finding → Type 0) (o : Option Refusal) → IsDoubtOf old.marks old.doubt → Calls finds old new o → CallsOn old.bank old.plan finds old.marks new.marks o
  calls_on finds o doubt (office_unmended r h) = unmended r (unmended_on r doubt h)
  calls_on finds o doubt (office_refused marks r m says at) = refused marks r (settled_by old.marks marks old.doubt m) says at.marks_are
  calls_on finds o doubt (office_found marks m says at) = found marks (settled_by old.marks marks old.doubt m) says at.marks_are
  calls_on finds o doubt (office_written marks e size m says at) = written marks e size (settled_by old.marks marks old.doubt m) says at.marks_are
  calls_on finds o doubt (office_unwritten marks e r m says h) = unwritten marks e r (settled_by old.marks marks old.doubt m) says (halted_on marks e r h)

-- ---- what is added
all_one : {A : Type 0} (P : A → Type 0) (x : A) → P x → All P (x ∷ [])
all_one P x h zero d lt = h
all_one P x h (suc k) d lt = absurd (omega arith)

own_fault : (e d : Entry) (n : ℕ) → Own e n ≡ Fault d → ⊥
own_fault e d n h = cc

adopted_fault : (e d : Entry) (n : ℕ) → Adopted e n ≡ Fault d → ⊥
adopted_fault e d n h = cc

pub none_faulty : NoFault []
none_faulty k d lt = absurd (omega arith)

pub own_faultless : (e : Entry) (n : ℕ) → NoFault (Own e n ∷ [])
own_faultless e n = all_one (λ m. (d : Entry) → m ≢ Fault d) (Own e n) (λ d. own_fault e d n)

pub both_faultless : (S T : List Mark) → NoFault S → NoFault T → NoFault (S ++ T)
both_faultless S T h i = All-append (λ m. (e : Entry) → m ≢ Fault e) S T h i

pub cancel : {A : Type 0} (xs ys zs : List A) → xs ++ ys ≡ xs ++ zs → ys ≡ zs
cancel [] ys zs e = e
cancel (x ∷ xs) ys zs e = cancel xs ys zs (tail_is e)

-- settling adds nothing, or an adopted entry
pub record Settles (before mid : List Mark) : Type 0 where
  pub added : List Mark
  pub is : mid ≡ before ++ added
  pub few : length added ≤ 1
  pub none : owns added ≡ []
  pub no_fault : NoFault added

pub settles : (before mid : List Mark) → Settled before mid → Settles before mid
settles before mid h = ⊎_elim
    (λ e. record { added = []; is = e ∙ sym (append-nil before); few = omega arith; none = refl; no_fault = none_faulty })
    (λ t. record { added = Adopted t.0 t.1 ∷ []; is = t.2; few = omega arith; none = refl; no_fault = all_one (λ m. (d : Entry) → m ≢ Fault d) (Adopted t.0 t.1) (λ d. adopted_fault t.0 d t.1) })
    h

-- what one call came to: S are the marks after it, T those that it added
pub data CameTo (b : Tables) (plan : Plan) (finds : List Entry → Finding → Type 0) (S T : List Mark) : Option Refusal → Type 1 where
  to_refusal : (r : Refusal) → finds (history S) (refuse r) → owns T ≡ [] → NoFault T → CameTo b plan finds S T (Some r)
  to_nothing : finds (history S) nothing → owns T ≡ [] → NoFault T → CameTo b plan finds S T None
  to_entry : (H : List Entry) (e : Entry) → finds H (add e) → history S ≡ H ++ e ∷ [] → owns T ≡ e ∷ [] → NoFault T → CameTo b plan finds S T None
  to_failure : (r : Refusal) → ((K : Entry → Type 0) → ((H : List Entry) (e : Entry) → finds H (add e) → K e × Legal b plan H e) → Fails b plan K S T r) → owns T ≡ []
      → IsAfterFault S ⊎ ((e : Entry) × finds (history S) (add e)) → CameTo b plan finds S T (Some r)

pub record Addition (b : Tables) (plan : Plan) (finds : List Entry → Finding → Type 0) (before after : List Mark) (o : Option Refusal) : Type 1 where
  pub added : List Mark
  pub is : after ≡ before ++ added
  pub few : length added ≤ 2
  pub found : EachMark (IsFoundMark finds) before added
  pub came : CameTo b plan finds after added o

module _ (b : Tables) (plan : Plan) (finds : List Entry → Finding → Type 0) (before after : List Mark) where
  by_doubt : (r : Refusal) → StaysInDoubt before after r → Addition b plan finds before after (Some r)
  by_doubt Memory h = record {
    added = [];
    is = h.0 ∙ sym (append-nil before);
    few = omega arith;
    found = tt;
    came = to_failure Memory (λ K leads. none_faulty) refl (inl (subst IsAfterFault (sym h.0) h.1));
  }
  by_doubt Disk h = record {
    added = Fault h.0 ∷ [];
    is = h.2;
    few = omega arith;
    found = (tt, tt);
    came = to_failure Disk (λ K leads. record { front = before; before = []; entry = h.0; last = h.2; added = refl; cause = inl h.1 }) refl (inl (h.0, (before, h.2)));
  }
  by_doubt (JournalFull size) h = absurd h
  by_doubt (NoSession count) h = absurd h
  by_doubt OtherBooking h = absurd h
  by_doubt (WrongStep k) h = absurd h
  by_doubt (Other k) h = absurd h
  by_doubt (BadResponse k) h = absurd h
  by_doubt (IsClosed at) h = absurd h
  by_doubt (Stale at flag) h = absurd h
  by_doubt (OtherList session) h = absurd h
  by_doubt (NoItem count) h = absurd h
  by_doubt (SessionsFull count) h = absurd h
  by_doubt NoForm h = absurd h
  by_doubt NoneFound h = absurd h

  module _ (mid : List Mark) (s : Settles before mid) where
    longer : (X : List Mark) → after ≡ mid ++ X → after ≡ before ++ (s.added ++ X)
    longer X e = e ∙ (ap (λ l. l ++ X) s.is ∙ append_assoc before s.added X)

    own_too : (X : List Mark) → owns (s.added ++ X) ≡ owns X
    own_too X = owns_append s.added X ∙ ap (λ l. l ++ owns X) s.none

    by_failure : (e : Entry) (r : Refusal) → finds (history mid) (add e) → FailsAs b plan mid e after r → Addition b plan finds before after (Some r)
    by_failure e Memory says h = record { added = s.added; is = h ∙ s.is; few = (let n = s.few in omega arith); found = none_found finds s.added before s.none; came = to_failure Memory (λ K leads. s.no_fault) s.none (inr (e, subst (λ l. finds (history l) (add e)) (sym h) says)) }
    by_failure e Disk says h = record {
      added = s.added ++ Fault e ∷ [];
      is = longer (Fault e ∷ []) h;
      few = (let n = s.few in let l = length-append s.added (Fault e ∷ []) in omega arith);
      found = none_found finds (s.added ++ Fault e ∷ []) before (own_too (Fault e ∷ []));
      came = to_failure Disk
          (λ K leads. record { front = mid; before = s.added; entry = e; last = h; added = refl; cause = inr (leads (history mid) e says) })
          (own_too (Fault e ∷ []))
          (inl (e, (mid, h)));
    }
    by_failure e (JournalFull size) says h = record {
      added = s.added;
      is = h.0 ∙ s.is;
      few = (let n = s.few in omega arith);
      found = none_found finds s.added before s.none;
      came = to_failure (JournalFull size)
          (λ K leads. ((e, (leads (history mid) e says).0, subst (λ l. IsTooLong b plan l e size) (sym h.0) h.1), s.no_fault))
          s.none
          (inr (e, subst (λ l. finds (history l) (add e)) (sym h.0) says));
    }
    by_failure e (NoSession count) says h = absurd h
    by_failure e OtherBooking says h = absurd h
    by_failure e (WrongStep k) says h = absurd h
    by_failure e (Other k) says h = absurd h
    by_failure e (BadResponse k) says h = absurd h
    by_failure e (IsClosed at) says h = absurd h
    by_failure e (Stale at flag) says h = absurd h
    by_failure e (OtherList session) says h = absurd h
    by_failure e (NoItem count) says h = absurd h
    by_failure e (SessionsFull count) says h = absurd h
    by_failure e NoForm says h = absurd h
    by_failure e NoneFound says h = absurd h

  pub addition : (o : Option Refusal) → CallsOn b plan finds before after o → Addition b plan finds before after o
  addition o (unmended r h) = by_doubt r h
  addition o (refused mid r m says at) =
      let s = settles before mid m in
      record { added = s.added; is = at ∙ s.is; few = (let n = s.few in omega arith); found = none_found finds s.added before s.none; came = to_refusal r (subst (λ l. finds (history l) (refuse r)) (sym at) says) s.none s.no_fault }
  addition o (found mid m says at) =
      let s = settles before mid m in
      record { added = s.added; is = at ∙ s.is; few = (let n = s.few in omega arith); found = none_found finds s.added before s.none; came = to_nothing (subst (λ l. finds (history l) nothing) (sym at) says) s.none s.no_fault }
  addition o (written mid e size m says at) =
      let s = settles before mid m in
      record {
        added = s.added ++ Own e size ∷ [];
        is = longer mid s (Own e size ∷ []) at;
        few = (let n = s.few in let l = length-append s.added (Own e size ∷ []) in omega arith);
        found = each_append (IsFoundMark finds) s.added before (Own e size ∷ []) (none_found finds s.added before s.none) (subst (λ l. finds (history l) (add e)) s.is says, tt);
        came = to_entry (history mid) e says (ap history at ∙ history-own mid e size) (own_too mid s (Own e size ∷ [])) (both_faultless s.added (Own e size ∷ []) s.no_fault (own_faultless e size));
      }
  addition o (unwritten mid e r m says h) = by_failure mid (settles before mid m) e r says h
