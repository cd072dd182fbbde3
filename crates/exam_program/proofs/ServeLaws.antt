-- A server over a disk, from its office.
use Rattle.std.proofs.Common.{◌≡◌, ℕ, ◌≤◌, ◌⊎◌, Bool, List, [], ◌∷◌, ◌++◌, length, inl, inr, map, Option, None, IsTrue, refl, sym, ◌∙◌, ap, subst, arith}
use Rattle.std.specs.Prelude.{Result, Ok, Err, IfOk, IfErr}
use Rattle.std.specs.declared.alloc.AllocError.{AllocError}
use Rattle.bank_tables.specs.Tables.{Tables}
use Rattle.exam_edge.specs.Images.{AllImages}
use Rattle.form_model.specs.Plan.{Plan}
use Rattle.exam_text.specs.Texts.{no_memory}
use Rattle.history_model.specs.declared.entry.Entry.{Entry}
use Rattle.history_model.specs.declared.summary.Summary.{Summary}
use Rattle.history_model.specs.Legality.{LegalRun}
use Rattle.history_model.specs.Summaries.{summary}
use Rattle.answer_journal.specs.Journal.{tells_of}
use Rattle.exam_office.specs.Files.{StandsSecond}
use Rattle.exam_office.specs.declared.mark.Mark.{Mark}
use Rattle.exam_office.specs.declared.mark.Mark.TheVariants.{Old, Opened}
use Rattle.exam_office.specs.Marks.{history, reach, AreMarks, AreCounted}
use Rattle.exam_office.specs.Moments.{AreMoments}
use Rattle.exam_office.specs.Noting.{OpenedWith, NotedMark, noted, marks_of, opened_with, IsDoubtOf}
use Rattle.exam_office.specs.Running.{Running}
use Rattle.exam_office.specs.Writing.{IsMending}
use Rattle.exam_serve.specs.declared.serve.End.{End}
use Rattle.exam_serve.specs.declared.serve.End.TheVariants.{Done, Starved, DoorFailed, Memory}
use Rattle.exam_serve.specs.Doors.{AreServed}
use Rattle.exam_serve.specs.Results.{IsResult, notes_of}
use Rattle.exam_serve.proofs.Notes.{marks_noted}
use Rattle.exam_program.specs.declared.halt.Halt.{Halt}
use Rattle.exam_program.specs.Outcomes.{Outcome, without_memory, server_refused, server_without_journal, server_without_memory, Halts, EndsBy, Ends, IsStatusOfRun}
use Rattle.exam_program.specs.Outside.{Outside, DiskSeen}
use Rattle.exam_program.specs.Runs.{RunEnds, idle, busy, EndsWith, IsEnding, IsLastOf, IsLastWritten, IsStatusOfEnding, IsOver}
use Rattle.exam_program.specs.Serves.{IsServeOf, IsExamined, WorkSeen, IsLast, numbers, no_numbers, a_disk, a_door, IsServedBy, starved_numbers, starved_no_numbers, starved_disk}
use Rattle.exam_program.specs.Texts.{disk_failed}
use Rattle.exam_lines.specs.Texts.{summary_text}
use Rattle.exam_program.specs.Stopping.{IsUnopened, refused, failed, out_of_memory}
use Rattle.exam_program.specs.Writing.{IsWritten}
use Rattle.exam_program.proofs.CauseLaws.{server_refuses}
use Rattle.exam_program.proofs.OutcomeLaws.{also, is_8, ends_by}

-- ---- a journal that was not opened
pub server_unopened : (words : List (List ℕ)) (o : Outside) (told : Bool) (old new : List ℕ) (b : Tables) (p : Plan) (base : List ℕ)
    → IsServeOf words o b p base → (h : Halt) → IsWritten told old new [] → IsUnopened b p o.disk h → Halts words o told old new h
server_unopened words o told old new b p base is _ written (refused fault so) = (
  server_refuses words o b p base fault is so,
  (
    record { text = []; written = written; outcome = server_refused b p base fault is so },
    record { text = []; written = written; outcome = without_memory so.untouched },
  ),
)
server_unopened words o told old new b p base is _ written (failed so) =
    record { text = []; written = written; outcome = server_without_journal b p base is so }
server_unopened words o told old new b p base is _ written (out_of_memory untouched) =
    record { text = []; written = written; outcome = without_memory untouched }

-- ---- a journal that was opened
-- what is known of an office when it was opened, and of it and its disk when they are handed back
pub record IsClosed {D : Type 0} (b : Tables) (p : Plan) (base : List ℕ) (disk : DiskSeen) (old new : Running D) : Type 0 where
  pub bank : old.bank ≡ b
  pub plan_is : old.plan ≡ p
  pub base_is : old.base ≡ base
  pub told : tells_of old.journal ≡ disk.told
  pub handed : old.opened ≡ record { content = disk.found; accounts = disk.moments_before; faults = disk.before }
  pub found : IsTrue disk.told → StandsSecond b p (history old.marks) disk.found
  pub short : IsTrue disk.told → length disk.found ≤ p.journal
  pub marks : old.marks ≡ map Old (history old.marks) ++ Opened (reach old.marks) ∷ []
  pub same : opened_with new ≡ opened_with old
  pub added : List Entry
  pub extends : history new.marks ≡ history old.marks ++ added
  pub legal : LegalRun new.bank new.plan (history new.marks)
  pub doubt : IsDoubtOf new.marks new.doubt
  pub marks_are : AreMarks new.marks
  pub counted : AreCounted new.marks disk.before disk.after
  pub length_is : IsTrue disk.told → new.doubt ≡ None → length disk.left ≡ reach new.marks
  pub left : IsTrue disk.told → IsMending new.bank new.plan (history new.marks) new.doubt disk.left
  pub images : IsTrue disk.told → AllImages (IsMending new.bank new.plan (history new.marks) new.doubt) disk.images
  pub moments : IsTrue disk.told → AreMoments new.bank new.plan disk.moments_before new.marks disk.moments

module _ {D : Type 0} (b : Tables) (p : Plan) (base : List ℕ) (disk : DiskSeen) (old new : Running D)
    (k : IsClosed b p base disk old new) where
  same_bank : new.bank ≡ b
  same_bank = ap (λ (w : OpenedWith). w.bank) k.same ∙ k.bank

  pub same_plan : new.plan ≡ p
  same_plan = ap (λ (w : OpenedWith). w.plan) k.same ∙ k.plan_is

  -- what holds of the office's bank and plan
  so : (P : Tables → Plan → Type 0) → P new.bank new.plan → P b p
  so P h = subst (λ (x : Tables). P x p) same_bank (subst (λ (y : Plan). P new.bank y) same_plan h)

  pub examined_so : IsExamined b p base disk (notes_of old) (notes_of new) (history new.marks)
  examined_so =
      let office = opened_with old in
      let noted_so : marks_of (notes_of new) ≡ new.marks = marks_noted (opened_with new) new.marks in
      record {
        office = office;
        is_of = record { bank = k.bank; plan_is = k.plan_is; base_is = k.base_is; told = k.told; handed = k.handed };
        found = history old.marks;
        stands = k.found;
        short = k.short;
        opening = record { size = reach old.marks; is = ap (noted office) k.marks };
        same_office = ap (λ (w : OpenedWith). noted w new.marks) k.same ∙ ap (noted office) (sym noted_so);
        history_is = ap history (sym noted_so);
        legal = so (λ (x : Tables) (y : Plan). LegalRun x y (history new.marks)) k.legal;
        added = k.added;
        extends = k.extends;
        doubt = new.doubt;
        doubt_is = subst (λ (m : List Mark). IsDoubtOf m new.doubt) (sym noted_so) k.doubt;
        marks_are = subst AreMarks (sym noted_so) k.marks_are;
        counted = subst (λ (m : List Mark). AreCounted m disk.before disk.after) (sym noted_so) k.counted;
        length_is = λ t sure. k.length_is t sure ∙ ap reach (sym noted_so);
        left = λ t. so (λ (x : Tables) (y : Plan). IsMending x y (history new.marks) new.doubt disk.left) (k.left t);
        images = λ t. so (λ (x : Tables) (y : Plan). AllImages (IsMending x y (history new.marks) new.doubt) disk.images) (k.images t);
        moments = λ t.
            so (λ (x : Tables) (y : Plan). AreMoments x y disk.moments_before (marks_of (notes_of new)) disk.moments)
            (subst (λ (m : List Mark). AreMoments new.bank new.plan disk.moments_before m disk.moments) (sym noted_so) (k.moments t));
      }

-- ---- what is printed in the end
-- the numbers of a history, as far as there was memory for their text
pub last_text : {A : Type 0} (bytes : A → List ℕ) (told : Bool) (old new : List ℕ) (result : ℕ) (end : End) (s : Summary) → end ≡ Done
    → (text : Result A AllocError)
    → IfOk text (λ t. bytes t ≡ summary_text s)
    → IfOk text (λ t. IsLastWritten told old new 0 (bytes t) result) → IfErr text (λ _. IsLastWritten told old new 10 no_memory result)
    → EndsWith (IsLastOf end s) told old new result
last_text bytes told old new result end s is (Ok t) made whole none = record {
  status = 0;
  text = bytes t;
  is_allowed = subst (λ (e : End). IsLastOf e s 0 (bytes t)) (sym is) (inl (refl, made));
  written = whole;
}
last_text bytes told old new result end s is (Err e) made whole none = record {
  status = 10;
  text = no_memory;
  is_allowed = subst (λ (x : End). IsLastOf x s 10 no_memory) (sym is) (inr (refl, refl));
  written = none;
}

-- so where a connection ended for lack of memory
pub starved_text : {A : Type 0} (bytes : A → List ℕ) (told : Bool) (old new : List ℕ) (result : ℕ) (end : End) (s : Summary) → end ≡ Starved
    → (text : Result A AllocError)
    → IfOk text (λ t. bytes t ≡ summary_text s)
    → IfOk text (λ t. IsLastWritten told old new 10 (bytes t) result) → IfErr text (λ _. IsLastWritten told old new 10 no_memory result)
    → EndsWith (IsLastOf end s) told old new result
starved_text bytes told old new result end s is (Ok t) made whole none = record {
  status = 10;
  text = bytes t;
  is_allowed = subst (λ (e : End). IsLastOf e s 10 (bytes t)) (sym is) (refl, inl made);
  written = whole;
}
starved_text bytes told old new result end s is (Err e) made whole none = record {
  status = 10;
  text = no_memory;
  is_allowed = subst (λ (x : End). IsLastOf x s 10 no_memory) (sym is) (refl, inr refl);
  written = none;
}

-- what is printed over a disk that works
ending_allowed : (end : End) (s : Summary) (status : ℕ) (text : List ℕ) → IsLastOf end s status text → IsEnding end s status text
ending_allowed Done s status text allowed = inl allowed
ending_allowed Starved s status text allowed = inl allowed
ending_allowed DoorFailed s status text allowed = allowed
ending_allowed Memory s status text allowed = allowed

pub ends_over : (told : Bool) (old new : List ℕ) (result : ℕ) (end : End) (s : Summary) → EndsWith (IsLastOf end s) told old new result
    → EndsWith (IsEnding end s) told old new result
ends_over told old new result end s ends = record {
  status = ends.status;
  text = ends.text;
  is_allowed = ending_allowed end s ends.status ends.text ends.is_allowed;
  written = ends.written;
}

-- and over one that failed
disk_allowed : (end : End) (s : Summary) → IsOver end → IsEnding end s 9 disk_failed
disk_allowed Done s over = inr (refl, refl)
disk_allowed Starved s over = inr (refl, refl)
disk_allowed DoorFailed s over = absurd over
disk_allowed Memory s over = absurd over

pub disk_ends : (told : Bool) (old new : List ℕ) (result : ℕ) (end : End) (s : Summary) → IsOver end → IsLastWritten told old new 9 disk_failed result
    → EndsWith (IsEnding end s) told old new result
disk_ends told old new result end s over whole = record {
  status = 9;
  text = disk_failed;
  is_allowed = disk_allowed end s over;
  written = whole;
}

-- a part of a text that is printed last
last_part : (words : List (List ℕ)) (o : Outside) (told : Bool) (old new : List ℕ) (result status : ℕ) (text : List ℕ) → Outcome words o status text
    → IsLastWritten told old new status text result → Ends words o told old new result
last_part words o told old new result status text outcome (inl whole) =
    inl (record { text = text; written = whole.1; outcome = subst (λ (n : ℕ). Outcome words o n text) (sym whole.0) outcome })
last_part words o told old new result status text outcome (inr cut) = inr (
  cut.0,
  record {
    text = cut.1.part;
    rest = cut.1.rest;
    status = status;
    written = cut.1.written;
    outcome = subst (λ (t : List ℕ). Outcome words o status t) cut.1.whole outcome;
    unfinished = cut.1.unfinished;
  },
)

module _ {A D K : Type 0} (token : Option (List ℕ)) (tells : D → Bool) (coming returned : D → List K) (is_out : D → Bool)
    (faults identity : D → ℕ) (link_tells : K → Bool) (left written : K → List ℕ) (link_faults link_identity : K → ℕ)
    (words : List (List ℕ)) (o : Outside) (told : Bool) (was now : List ℕ) (result : ℕ) (b : Tables) (p : Plan) (base : List ℕ)
    (is : IsServeOf words o b p base) (old new : Running A)
    (examined : IsExamined b p base o.disk (notes_of old) (notes_of new) (history new.marks))
    (numbers_of : Summary) (are : numbers_of ≡ summary p (history new.marks)) (doors back : List D) (Unused : Type 0) where
  abbrev pub Served : List NotedMark → List NotedMark → End → Type 0
  Served opened closed end =
      AreServed token tells coming returned is_out faults identity link_tells left written link_faults link_identity opened closed doors back end

  abbrev work_of : End → WorkSeen
  work_of end = record { opened = notes_of old; closed = notes_of new; end = end }

  by_last : (end : End) (status : ℕ) (text : List ℕ) → IsLast p (history new.marks) end status text → IsServedBy words o (work_of end) status text
  by_last end status text last = record { b = b; plan = p; base = base; H = history new.marks; is = is; examined = examined; last = last }

  last_of : (status : ℕ) (text : List ℕ) → IsLastOf Done numbers_of status text → IsLast p (history new.marks) Done status text
  last_of status text (inl e) = subst (λ (n : ℕ). IsLast p (history new.marks) Done n text) (sym e.0)
      (subst (λ (t : List ℕ). IsLast p (history new.marks) Done 0 t) (ap summary_text (sym are) ∙ sym e.1) numbers)
  last_of status text (inr e) = subst (λ (n : ℕ). IsLast p (history new.marks) Done n text) (sym e.0)
      (subst (λ (t : List ℕ). IsLast p (history new.marks) Done 10 t) (sym e.1) no_numbers)

  ending_of : (status : ℕ) (text : List ℕ) → IsEnding Done numbers_of status text → IsLast p (history new.marks) Done status text
  ending_of status text (inl e) = last_of status text e
  ending_of status text (inr e) = subst (λ (n : ℕ). IsLast p (history new.marks) Done n text) (sym e.0)
      (subst (λ (t : List ℕ). IsLast p (history new.marks) Done 9 t) (sym e.1) a_disk)

  starved_with : (status : ℕ) (text : List ℕ) → status ≡ 10 → (text ≡ summary_text numbers_of) ⊎ (text ≡ no_memory)
      → IsLast p (history new.marks) Starved status text
  starved_with status text is (inl e) = subst (λ (n : ℕ). IsLast p (history new.marks) Starved n text) (sym is)
      (subst (λ (t : List ℕ). IsLast p (history new.marks) Starved 10 t) (ap summary_text (sym are) ∙ sym e) starved_numbers)
  starved_with status text is (inr e) = subst (λ (n : ℕ). IsLast p (history new.marks) Starved n text) (sym is)
      (subst (λ (t : List ℕ). IsLast p (history new.marks) Starved 10 t) (sym e) starved_no_numbers)

  starved_of : (status : ℕ) (text : List ℕ) → IsEnding Starved numbers_of status text → IsLast p (history new.marks) Starved status text
  starved_of status text (inl e) = starved_with status text e.0 e.1
  starved_of status text (inr e) = subst (λ (n : ℕ). IsLast p (history new.marks) Starved n text) (sym e.0)
      (subst (λ (t : List ℕ). IsLast p (history new.marks) Starved 9 t) (sym e.1) starved_disk)

  cut_of : (status : ℕ) (text : List ℕ) → IsLastOf DoorFailed numbers_of status text → IsLast p (history new.marks) DoorFailed status text
  cut_of status text e = subst (λ (n : ℕ). IsLast p (history new.marks) DoorFailed n text) (sym e.0)
      (subst (λ (t : List ℕ). IsLast p (history new.marks) DoorFailed 14 t) (sym e.1) a_door)

  pub ends_serving : (end : End)
      → IsResult token tells coming returned is_out faults identity link_tells left written link_faults link_identity old doors new back end
      → (end ≡ Memory → new ≡ old) → (end ≡ Memory → Unused) → EndsWith (IsEnding end numbers_of) told was now result
      → RunEnds Served Unused words o told was now result
  ends_serving Done served none unused ends = busy (work_of Done) served record {
    status = ends.status;
    text = ends.text;
    is_allowed = by_last Done ends.status ends.text (ending_of ends.status ends.text ends.is_allowed);
    written = ends.written;
  }
  ends_serving Starved served none unused ends = busy (work_of Starved) served record {
    status = ends.status;
    text = ends.text;
    is_allowed = by_last Starved ends.status ends.text (starved_of ends.status ends.text ends.is_allowed);
    written = ends.written;
  }
  ends_serving DoorFailed served none unused ends = busy (work_of DoorFailed) served record {
    status = ends.status;
    text = ends.text;
    is_allowed = by_last DoorFailed ends.status ends.text (cut_of ends.status ends.text ends.is_allowed);
    written = ends.written;
  }
  ends_serving Memory served none unused ends =
      let opened : IsExamined b p base o.disk (notes_of old) (notes_of old) (history old.marks) =
      subst (λ (w : Running A). IsExamined b p base o.disk (notes_of old) (notes_of w) (history w.marks)) (none refl) examined in
      let outcome : Outcome words o ends.status ends.text =
      subst (λ (n : ℕ). Outcome words o n ends.text) (sym ends.is_allowed.0) (subst (λ (t : List ℕ). Outcome words o 10 t) (sym ends.is_allowed.1)
      (server_without_memory b p base (notes_of old) (history old.marks) is opened)) in
      idle (unused refl) (last_part words o told was now result ends.status ends.text outcome ends.written)

-- ---- the statuses
-- the status of a halt, or that of a sink that failed, is one of a run
pub halt_status : {R : Type 0} (h : Halt) (status : ℕ) → (EndsBy h status) ⊎ ((status ≡ 8) × R) → IsStatusOfRun status
halt_status h status (inl e) = inl (ends_by h status e)
halt_status h status (inr e) = inl (also 8 status e.0 is_8)

-- the status of work at doors, of a disk that failed then, or of a sink that failed
pub ending_status : {R : Type 0} (end : End) (status : ℕ) → (IsStatusOfEnding end status) ⊎ ((status ≡ 8) × R) → IsStatusOfRun status
ending_status end status (inr e) = inl (also 8 status e.0 is_8)
ending_status Done status (inl (inl (inl e))) = inl (also 0 status e (0, omega arith, refl))
ending_status Done status (inl (inl (inr e))) = inl (also 10 status e (9, omega arith, refl))
ending_status Done status (inl (inr e)) = inl (also 9 status e (8, omega arith, refl))
ending_status Starved status (inl (inl e)) = inl (also 10 status e (9, omega arith, refl))
ending_status Starved status (inl (inr e)) = inl (also 9 status e (8, omega arith, refl))
ending_status DoorFailed status (inl e) = inr e
ending_status Memory status (inl e) = inl (also 10 status e (9, omega arith, refl))

-- status 14 is that of a door that failed
pub failed_door_so : {Q R : Type 0} (end : End) (status : ℕ) → (end ≡ DoorFailed → Q) → (IsStatusOfEnding end status) ⊎ ((status ≡ 8) × R)
    → status ≡ 14 → Q
failed_door_so end status why (inr e) is = let is_8 : status ≡ 8 = e.0 in absurd (omega (arith, is_8, is))
failed_door_so Done status why (inl (inl (inl e))) is = absurd (omega (arith, e, is))
failed_door_so Done status why (inl (inl (inr e))) is = absurd (omega (arith, e, is))
failed_door_so Done status why (inl (inr e)) is = absurd (omega (arith, e, is))
failed_door_so Starved status why (inl (inl e)) is = absurd (omega (arith, e, is))
failed_door_so Starved status why (inl (inr e)) is = absurd (omega (arith, e, is))
failed_door_so DoorFailed status why (inl e) is = why refl
failed_door_so Memory status why (inl e) is = absurd (omega (arith, e, is))
