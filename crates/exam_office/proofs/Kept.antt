-- What an office keeps from call to call.
use Rattle.std.proofs.Common.{◌≡◌, max, ℕ, ◌+◌, ◌<◌, ◌≤◌, List, [], ◌∷◌, ◌++◌, map, Option, Some, None, IsTrue, refl, sym, ◌∙◌, ap, subst, arith}
use Rattle.std.proofs.lemmas.List.{map-append}
use Rattle.bank_tables.specs.Tables.{Tables}
use Rattle.form_model.specs.Plan.{Plan}
use Rattle.exam_edge.specs.Faults.{Rose}
use Rattle.exam_edge.specs.Images.{AtEachMoment}
use Rattle.history_model.specs.declared.entry.Entry.{Entry}
use Rattle.history_model.specs.Judging.{MayFollow, Record}
use Rattle.exam_session.specs.Ledgers.{Ledger}
use Rattle.answer_journal.specs.Journal.{JournalState, length_of, limit_of, start_of, tells_of, accounts_of, payloads_of, IsReady, IsDoubtful, faults_of}
use Rattle.answer_journal.specs.Journal.{IsInDoubtAfter as OfJournal}
use Rattle.exam_records.specs.Shape.{IsRecord}
use Rattle.exam_records.specs.Spelling.{payload_of}
use Rattle.exam_office.specs.declared.mark.Mark.{Mark}
use Rattle.exam_office.specs.declared.mark.Mark.TheVariants.{Own, Adopted, Fault}
use Rattle.exam_office.specs.Files.{AreRecordsOf}
use Rattle.exam_office.specs.Marks.{history, AreMarks, own, fault, adopted}
use Rattle.exam_office.specs.Keeping.{IsSure, IsUnsure, IsKept}
use Rattle.exam_office.specs.Moments.{IsInHand, written, failed, kept as kept_on_disk, dropped, AreMoments, one_more}
use Rattle.exam_office.specs.Running.{HandedDisk}
use Rattle.exam_office.specs.Writing.{IsWriting}
use Rattle.exam_office.proofs.Records.{are_more}
use Rattle.exam_office.proofs.Marking.{history-own, history-adopted, history-fault, reach-push, counted-own, counted-adopted, counted-fault, counted-still}

-- room for one entry, where it was made or was there
pub some_room : (now before : ℕ) → now ≡ max 1 before → 0 < now
some_room now before is = omega (arith, is)

module _ {D : Type 0} (b : Tables) (plan : Plan) (base : List ℕ) (was : HandedDisk) (book book1 : Ledger) (j j1 : JournalState D) (M : List Mark) where
  sure_more : (H : List Entry) (r : Record) (s : IsSure b plan H j) → IsRecord r → MayFollow b plan H r.entry r.tree → IsReady j1 → tells_of j1 ≡ tells_of j
      → (IsTrue (tells_of j) → payloads_of j1 ≡ payloads_of j ++ payload_of r ∷ []) → IsSure b plan (H ++ r.entry ∷ []) j1
  sure_more H r s spells may ready tells added = record {
    records = s.records ++ r ∷ [];
    are = are_more b plan H s.records s.are r spells may;
    ready = ready;
    holds = λ told1.
        let told = sym tells ∙ told1 in
        added told ∙ (ap (λ (ps : List (List ℕ)). ps ++ payload_of r ∷ []) (s.holds told) ∙ sym (map-append payload_of s.records (r ∷ [])));
  }

  -- an entry was in hand
  moments_more : (doubt : Option Entry) → IsKept b plan base book j M doubt was → tells_of j1 ≡ tells_of j → (entry : Entry) (N : List Mark) → IsInHand entry M N
      → (IsTrue (tells_of j) → AtEachMoment (accounts_of j) (accounts_of j1) (IsWriting b plan (history M) entry))
      → IsTrue (tells_of j1) → AreMoments b plan was.accounts N (accounts_of j1)
  moments_more doubt kept tells entry N hand writing told1 =
      let told = sym tells ∙ told1 in
      one_more entry M N (accounts_of j) (accounts_of j1) (kept.moments told) hand (writing told)

  -- an entry of its own was written
  pub kept_own : (kept : IsKept b plan base book j M None was) (r : Record) → IsRecord r → MayFollow b plan (history M) r.entry r.tree
      → book1.bank ≡ book.bank → book1.plan ≡ book.plan → book1.entries ≡ book.entries ++ r.entry ∷ []
      → IsReady j1 → limit_of j1 ≡ limit_of j → start_of j1 ≡ start_of j → faults_of j ≤ faults_of j1 → tells_of j1 ≡ tells_of j
      → (IsTrue (tells_of j) → payloads_of j1 ≡ payloads_of j ++ payload_of r ∷ [])
      → (IsTrue (tells_of j) → AtEachMoment (accounts_of j) (accounts_of j1) (IsWriting b plan (history M) r.entry))
      → IsKept b plan base book1 j1 (M ++ Own r.entry (length_of j1) ∷ []) None was
  kept_own kept r spells may bank plan_is entries ready limit start grows tells added writing =
      let e : history (M ++ Own r.entry (length_of j1) ∷ []) ≡ history M ++ r.entry ∷ [] = history-own M r.entry (length_of j1) in
      record {
        bank = bank ∙ kept.bank;
        plan_is = plan_is ∙ kept.plan_is;
        entries = entries ∙ (ap (λ (H : List Entry). H ++ r.entry ∷ []) kept.entries ∙ sym e);
        size = sym (reach-push M (Own r.entry (length_of j1)));
        limit = limit ∙ kept.limit;
        start = λ told1. start ∙ kept.start (sym tells ∙ told1);
        marks_are = own M r.entry (length_of j1) kept.marks_are;
        counted = counted-own M was.faults (faults_of j) (faults_of j1) kept.counted r.entry (length_of j1) grows;
        grows = omega (arith, kept.grows, grows);
        backed = subst (λ (H : List Entry). IsSure b plan H j1) (sym e) (sure_more (history M) r kept.backed spells may ready tells added);
        base_is = kept.base_is;
        moments = moments_more None kept tells r.entry (M ++ Own r.entry (length_of j1) ∷ []) (written M (length_of j1)) writing;
      }

  doubtful_so : (H : List Entry) (s : IsSure b plan H j) (payload : List ℕ) → tells_of j1 ≡ tells_of j → IsDoubtful (payloads_of j) payload j1 → IsDoubtful (map payload_of s.records) payload j1
  doubtful_so H s payload tells d = record {
    with_it = d.with_it;
    doubt = d.doubt;
    with_is = d.with_is;
    is = λ told1. subst (λ (ps : List (List ℕ)). OfJournal j1.version j1.start ps payload (accounts_of j1) (length_of j1) d.with_it) (s.holds (sym tells ∙ told1)) (d.is told1);
  }

  -- the disk failed while an entry was written
  pub kept_fault : (kept : IsKept b plan base book j M None was) (r : Record) → IsRecord r → MayFollow b plan (history M) r.entry r.tree
      → book1.bank ≡ book.bank → book1.plan ≡ book.plan → book1.entries ≡ book.entries → 0 < book1.room
      → IsDoubtful (payloads_of j) (payload_of r) j1 → length_of j1 ≡ length_of j → limit_of j1 ≡ limit_of j → start_of j1 ≡ start_of j → Rose (faults_of j) (faults_of j1) → faults_of j ≤ faults_of j1 → tells_of j1 ≡ tells_of j
      → (IsTrue (tells_of j) → AtEachMoment (accounts_of j) (accounts_of j1) (IsWriting b plan (history M) r.entry))
      → IsKept b plan base book1 j1 (M ++ Fault r.entry ∷ []) (Some r.entry) was
  kept_fault kept r spells may bank plan_is entries room doubtful size limit start rose grows tells writing =
      let e : history (M ++ Fault r.entry ∷ []) ≡ history M = history-fault M r.entry in
      let s : IsSure b plan (history M) j = kept.backed in
      record {
        bank = bank ∙ kept.bank;
        plan_is = plan_is ∙ kept.plan_is;
        entries = entries ∙ (kept.entries ∙ sym e);
        size = size ∙ (kept.size ∙ sym (reach-push M (Fault r.entry)));
        limit = limit ∙ kept.limit;
        start = λ told1. start ∙ kept.start (sym tells ∙ told1);
        marks_are = fault M r.entry kept.marks_are;
        counted = counted-fault M was.faults (faults_of j) (faults_of j1) kept.counted r.entry rose;
        grows = omega (arith, kept.grows, grows);
        backed = record {
          records = s.records;
          are = subst (λ (H : List Entry). AreRecordsOf b plan 2 H s.records) (sym e) s.are;
          last = r;
          is_entry = refl;
          spells = spells;
          may = subst (λ (H : List Entry). MayFollow b plan H r.entry r.tree) (sym e) may;
          doubtful = doubtful_so (history M) s (payload_of r) tells doubtful;
          has_room = room;
          before = M;
          fault = refl;
        };
        base_is = kept.base_is;
        moments = moments_more None kept tells r.entry (M ++ Fault r.entry ∷ []) (failed M) writing;
      }

  -- the entry in doubt was kept
  pub kept_adopted : (entry : Entry) (kept : IsKept b plan base book j M (Some entry) was)
      → book1.bank ≡ book.bank → book1.plan ≡ book.plan → book1.entries ≡ book.entries ++ entry ∷ []
      → IsReady j1 → limit_of j1 ≡ limit_of j → start_of j1 ≡ start_of j → faults_of j ≤ faults_of j1 → tells_of j1 ≡ tells_of j
      → (IsTrue (tells_of j) → (ps : List (List ℕ)) (payload : List ℕ) → IsDoubtful ps payload j → payloads_of j1 ≡ ps ++ payload ∷ [])
      → (IsTrue (tells_of j) → AtEachMoment (accounts_of j) (accounts_of j1) (IsWriting b plan (history M) entry))
      → IsKept b plan base book1 j1 (M ++ Adopted entry (length_of j1) ∷ []) None was
  kept_adopted entry kept bank plan_is entries ready limit start grows tells mended writing =
      let u : IsUnsure b plan M entry book.room j = kept.backed in
      let H = history M in
      let size = length_of j1 in
      let e : history (M ++ Adopted entry size ∷ []) ≡ H ++ entry ∷ [] = history-adopted M entry size in
      let sure : IsSure b plan (H ++ u.last.entry ∷ []) j1 = record {
        records = u.records ++ u.last ∷ [];
        are = are_more b plan H u.records u.are u.last u.spells u.may;
        ready = ready;
        holds = λ told1. mended (sym tells ∙ told1) (map payload_of u.records) (payload_of u.last) u.doubtful ∙ sym (map-append payload_of u.records (u.last ∷ []));
      } in
      record {
        bank = bank ∙ kept.bank;
        plan_is = plan_is ∙ kept.plan_is;
        entries = entries ∙ (ap (λ (G : List Entry). G ++ entry ∷ []) kept.entries ∙ sym e);
        size = sym (reach-push M (Adopted entry size));
        limit = limit ∙ kept.limit;
        start = λ told1. start ∙ kept.start (sym tells ∙ told1);
        marks_are = subst (λ (N : List Mark). AreMarks (N ++ Adopted entry size ∷ [])) (sym u.fault) (adopted u.before entry size (subst AreMarks u.fault kept.marks_are));
        counted = counted-adopted M was.faults (faults_of j) (faults_of j1) kept.counted entry size grows;
        grows = omega (arith, kept.grows, grows);
        backed = subst (λ (G : List Entry). IsSure b plan G j1) (ap (λ (last : Entry). H ++ last ∷ []) u.is_entry ∙ sym e) sure;
        base_is = kept.base_is;
        moments =
            moments_more (Some entry) kept tells entry (M ++ Adopted entry size ∷ [])
            (subst (λ (N : List Mark). IsInHand entry N (N ++ Adopted entry size ∷ [])) (sym u.fault) (kept_on_disk u.before size)) writing;
      }

  -- the entry in doubt was dropped
  pub kept_dropped : (entry : Entry) (kept : IsKept b plan base book j M (Some entry) was)
      → book1.bank ≡ book.bank → book1.plan ≡ book.plan → book1.entries ≡ book.entries
      → IsReady j1 → length_of j1 ≡ length_of j → limit_of j1 ≡ limit_of j → start_of j1 ≡ start_of j → faults_of j ≤ faults_of j1 → tells_of j1 ≡ tells_of j
      → (IsTrue (tells_of j) → (ps : List (List ℕ)) (payload : List ℕ) → IsDoubtful ps payload j → payloads_of j1 ≡ ps)
      → (IsTrue (tells_of j) → AtEachMoment (accounts_of j) (accounts_of j1) (IsWriting b plan (history M) entry))
      → IsKept b plan base book1 j1 M None was
  kept_dropped entry kept bank plan_is entries ready size limit start grows tells mended writing =
      let u : IsUnsure b plan M entry book.room j = kept.backed in
      record {
        bank = bank ∙ kept.bank;
        plan_is = plan_is ∙ kept.plan_is;
        entries = entries ∙ kept.entries;
        size = size ∙ kept.size;
        limit = limit ∙ kept.limit;
        start = λ told1. start ∙ kept.start (sym tells ∙ told1);
        marks_are = kept.marks_are;
        counted = counted-still M was.faults (faults_of j) (faults_of j1) kept.counted grows;
        grows = omega (arith, kept.grows, grows);
        backed = record { records = u.records; are = u.are; ready = ready; holds = λ told1. mended (sym tells ∙ told1) (map payload_of u.records) (payload_of u.last) u.doubtful };
        base_is = kept.base_is;
        moments = moments_more (Some entry) kept tells entry M (subst (λ (N : List Mark). IsInHand entry N N) (sym u.fault) (dropped u.before)) writing;
      }

  -- the disk failed once more, and the entry stays in doubt
  pub kept_unmended : (entry : Entry) (kept : IsKept b plan base book j M (Some entry) was)
      → book1.bank ≡ book.bank → book1.plan ≡ book.plan → book1.entries ≡ book.entries → book1.room ≡ book.room
      → length_of j1 ≡ length_of j → limit_of j1 ≡ limit_of j → start_of j1 ≡ start_of j → Rose (faults_of j) (faults_of j1) → faults_of j ≤ faults_of j1 → tells_of j1 ≡ tells_of j
      → ((ps : List (List ℕ)) (payload : List ℕ) → IsDoubtful ps payload j → IsDoubtful ps payload j1)
      → (IsTrue (tells_of j) → AtEachMoment (accounts_of j) (accounts_of j1) (IsWriting b plan (history M) entry))
      → IsKept b plan base book1 j1 (M ++ Fault entry ∷ []) (Some entry) was
  kept_unmended entry kept bank plan_is entries room size limit start rose grows tells still writing =
      let u : IsUnsure b plan M entry book.room j = kept.backed in
      let e : history (M ++ Fault entry ∷ []) ≡ history M = history-fault M entry in
      record {
        bank = bank ∙ kept.bank;
        plan_is = plan_is ∙ kept.plan_is;
        entries = entries ∙ (kept.entries ∙ sym e);
        size = size ∙ (kept.size ∙ sym (reach-push M (Fault entry)));
        limit = limit ∙ kept.limit;
        start = λ told1. start ∙ kept.start (sym tells ∙ told1);
        marks_are = fault M entry kept.marks_are;
        counted = counted-fault M was.faults (faults_of j) (faults_of j1) kept.counted entry rose;
        grows = omega (arith, kept.grows, grows);
        backed = record {
          records = u.records;
          are = subst (λ (H : List Entry). AreRecordsOf b plan 2 H u.records) (sym e) u.are;
          last = u.last;
          is_entry = u.is_entry;
          spells = u.spells;
          may = subst (λ (H : List Entry). MayFollow b plan H u.last.entry u.last.tree) (sym e) u.may;
          doubtful = still (map payload_of u.records) (payload_of u.last) u.doubtful;
          has_room = subst (λ (n : ℕ). 0 < n) (sym room) u.has_room;
          before = M;
          fault = refl;
        };
        base_is = kept.base_is;
        moments = moments_more (Some entry) kept tells entry (M ++ Fault entry ∷ []) (failed M) writing;
      }
