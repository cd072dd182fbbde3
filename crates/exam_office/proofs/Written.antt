-- What writing a record does to an office that is open.
use Rattle.std.proofs.Common.{◌≡◌, ℕ, ◌<◌, ◌≤◌, List, [], ◌∷◌, ◌++◌, Option, Some, None, IsTrue, sym, ◌∙◌, ap, subst}
use Rattle.bank_tables.specs.Tables.{Tables}
use Rattle.form_model.specs.Plan.{Plan}
use Rattle.exam_edge.specs.Faults.{Rose}
use Rattle.exam_edge.specs.Images.{Account, latest, AllImages, AtEachMoment}
use Rattle.history_model.specs.declared.entry.Entry.{Entry}
use Rattle.history_model.specs.Judging.{MayFollow, Record}
use Rattle.exam_session.specs.Ledgers.{Ledger}
use Rattle.answer_journal.specs.Journal.{JournalState, length_of, limit_of, start_of, tells_of, accounts_of, payloads_of, IsReady, IsDoubtful, faults_of}
use Rattle.answer_journal.specs.Versions.{HoldsOrOneMore}
use Rattle.exam_records.specs.Shape.{IsRecord}
use Rattle.exam_records.specs.Spelling.{payload_of}
use Rattle.exam_office.specs.declared.mark.Mark.{Mark}
use Rattle.exam_office.specs.declared.mark.Mark.TheVariants.{Own, Fault}
use Rattle.exam_office.specs.Files.{StandsSecond}
use Rattle.exam_office.specs.Marks.{history}
use Rattle.exam_office.specs.Running.{HandedDisk, Running}
use Rattle.exam_office.specs.Keeping.{IsBacked, IsKept}
use Rattle.exam_office.specs.Writing.{IsWriting}
use Rattle.certificate_model.specs.Relaxed.{Multipliers}
use Rattle.exam_office.specs.declared.vectors.NewVector.{NewVector}
use Rattle.exam_office.specs.KeptVectors.{vector_at, new_vector, HasRoom, AreVectorsWith, AreKeptVectors}
use Rattle.exam_office.proofs.Marking.{history-own, history-fault}
use Rattle.exam_office.proofs.KeepingVectors.{with_room, vectors_written, vectors_faulted}
use Rattle.exam_office.proofs.Kept.{kept_own, kept_fault}
use Rattle.exam_office.proofs.Moments.{sure_images, writing_moments, still_writing}

module _ {D : Type 0} (b : Tables) (plan : Plan) (base : List ℕ) (book : Ledger) (j : JournalState D) (M : List Mark) (doubt : Option Entry) (was : HandedDisk) (kept : IsKept b plan base book j M doubt was)
    (now : Running D) (view : record { bank = b; plan = plan; base = base; marks = M; doubt = doubt; journal = j; opened = was } ≡ now)
    (sure : now.doubt ≡ None) (r : Record) (may : MayFollow now.bank now.plan (history now.marks) r.entry r.tree) where
  none : doubt ≡ None
  none = ap (λ (o : Running D). o.doubt) view ∙ sure

  pub kept_sure : IsKept b plan base book j M None was
  kept_sure = subst (λ (d : Option Entry). IsKept b plan base book j M d was) none kept

  pub may_here : MayFollow b plan (history M) r.entry r.tree
  may_here = subst (λ (o : Running D). MayFollow o.bank o.plan (history o.marks) r.entry r.tree) (sym view) may

  told_here : IsTrue (tells_of now.journal) → IsTrue (tells_of j)
  told_here told = subst (λ (o : Running D). IsTrue (tells_of o.journal)) (sym view) told

  seen : (later : List Account) → AtEachMoment (accounts_of j) later (IsWriting b plan (history M) r.entry) → AtEachMoment (accounts_of now.journal) later (IsWriting now.bank now.plan (history now.marks) r.entry)
  seen later moments = subst (λ (o : Running D). AtEachMoment (accounts_of o.journal) later (IsWriting o.bank o.plan (history o.marks) r.entry)) view moments

  -- before anything is written
  pub moments_before : IsTrue (tells_of now.journal) → AtEachMoment (accounts_of now.journal) (accounts_of j) (IsWriting now.bank now.plan (history now.marks) r.entry)
  moments_before told = seen (accounts_of j) (still_writing b plan j (history M) r.entry kept_sure.backed (told_here told))

  pub moments_still : IsTrue (tells_of now.journal) → AtEachMoment (accounts_of now.journal) (accounts_of now.journal) (IsWriting now.bank now.plan (history now.marks) r.entry)
  moments_still told = subst (λ (o : Running D). AtEachMoment (accounts_of o.journal) (accounts_of o.journal) (IsWriting o.bank o.plan (history o.marks) r.entry)) view (still_writing b plan j (history M) r.entry kept_sure.backed (told_here told))

  -- while it is written
  in_hand : (later : List Account) (payload : List ℕ) → payload ≡ payload_of r → IsRecord r → (IsTrue (tells_of j) → AtEachMoment (accounts_of j) later (HoldsOrOneMore (payloads_of j) payload)) → IsTrue (tells_of j) → AtEachMoment (accounts_of j) later (IsWriting b plan (history M) r.entry)
  in_hand later payload is spells moments told =
      writing_moments b plan j (history M) kept_sure.backed r spells may_here later told (subst (λ (p : List ℕ). AtEachMoment (accounts_of j) later (HoldsOrOneMore (payloads_of j) p)) is (moments told))

  pub moments_of : (later : List Account) (payload : List ℕ) → payload ≡ payload_of r → IsRecord r → (IsTrue (tells_of j) → AtEachMoment (accounts_of j) later (HoldsOrOneMore (payloads_of j) payload)) → IsTrue (tells_of now.journal) → AtEachMoment (accounts_of now.journal) later (IsWriting now.bank now.plan (history now.marks) r.entry)
  moments_of later payload is spells moments told = seen later (in_hand later payload is spells moments (told_here told))

  -- room was taken in the book
  pub kept_roomy : (book1 : Ledger) → book1.bank ≡ book.bank → book1.plan ≡ book.plan → book1.entries ≡ book.entries → IsKept b plan base book1 j M doubt was
  kept_roomy book1 bank plan_is entries = record {
    bank = bank ∙ kept.bank;
    plan_is = plan_is ∙ kept.plan_is;
    entries = entries ∙ kept.entries;
    size = kept.size;
    limit = kept.limit;
    start = kept.start;
    marks_are = kept.marks_are;
    counted = kept.counted;
    grows = kept.grows;
    backed = subst (λ (d : Option Entry). IsBacked b plan M book1.room j d) (sym none) kept_sure.backed;
    base_is = kept.base_is;
    moments = kept.moments;
  }

  -- it was written
  pub kept_written : (book1 : Ledger) (j1 : JournalState D) (payload : List ℕ) → payload ≡ payload_of r → IsRecord r
      → book1.bank ≡ book.bank → book1.plan ≡ book.plan → book1.entries ≡ book.entries ++ r.entry ∷ []
      → IsReady j1 → limit_of j1 ≡ limit_of j → start_of j1 ≡ start_of j → faults_of j ≤ faults_of j1 → tells_of j1 ≡ tells_of j
      → (IsTrue (tells_of j) → payloads_of j1 ≡ payloads_of j ++ payload ∷ [])
      → (IsTrue (tells_of j) → AtEachMoment (accounts_of j) (accounts_of j1) (HoldsOrOneMore (payloads_of j) payload))
      → IsKept b plan base book1 j1 (M ++ Own r.entry (length_of j1) ∷ []) doubt was
  kept_written book1 j1 payload is spells bank plan_is entries ready limit start grows tells added moments =
      subst (λ (d : Option Entry). IsKept b plan base book1 j1 (M ++ Own r.entry (length_of j1) ∷ []) d was) (sym none)
      (kept_own b plan base was book book1 j j1 M kept_sure r spells may_here bank plan_is entries ready limit start grows tells (λ told. added told ∙ ap (λ (p : List ℕ). payloads_of j ++ p ∷ []) is)
      (in_hand (accounts_of j1) payload is spells moments))

  pub images_written : (j1 : JournalState D) (M1 : List Mark) (book1 : Ledger) → IsKept b plan base book1 j1 M1 doubt was → tells_of j1 ≡ tells_of j → IsTrue (tells_of now.journal) → AllImages (StandsSecond now.bank now.plan (history M1)) (latest (accounts_of j1))
  images_written j1 M1 book1 kept1 tells told =
      let k : IsKept b plan base book1 j1 M1 None was = subst (λ (d : Option Entry). IsKept b plan base book1 j1 M1 d was) none kept1 in
      subst (λ (o : Running D). AllImages (StandsSecond o.bank o.plan (history M1)) (latest (accounts_of j1))) view
      (sure_images b plan j1 (history M1) k.backed (subst IsTrue (sym tells) (told_here told)))

  -- the disk failed
  pub kept_faulted : (book1 : Ledger) (j1 : JournalState D) (payload : List ℕ) → payload ≡ payload_of r → IsRecord r
      → book1.bank ≡ book.bank → book1.plan ≡ book.plan → book1.entries ≡ book.entries → 0 < book1.room
      → IsDoubtful (payloads_of j) payload j1 → length_of j1 ≡ length_of j → limit_of j1 ≡ limit_of j → start_of j1 ≡ start_of j → Rose (faults_of j) (faults_of j1) → faults_of j ≤ faults_of j1 → tells_of j1 ≡ tells_of j
      → (IsTrue (tells_of j) → AtEachMoment (accounts_of j) (accounts_of j1) (HoldsOrOneMore (payloads_of j) payload))
      → IsKept b plan base book1 j1 (M ++ Fault r.entry ∷ []) (Some r.entry) was
  kept_faulted book1 j1 payload is spells bank plan_is entries room doubtful size limit start rose grows tells moments =
      kept_fault b plan base was book book1 j j1 M kept_sure r spells may_here bank plan_is entries room (subst (λ (p : List ℕ). IsDoubtful (payloads_of j) p j1) is doubtful) size limit start rose grows tells
      (in_hand (accounts_of j1) payload is spells moments)

  -- the vectors: room was taken
  module _ (each each0 : List (Option Multipliers)) (new new0 : Option NewVector) (same : (s : ℕ) → vector_at each0 s ≡ vector_at each s) (same_new : new0 ≡ new)
      (vectors : AreKeptVectors b plan (history M) j doubt each new) where
    vectors_sure : AreKeptVectors b plan (history M) j None each new
    vectors_sure = subst (λ (d : Option Entry). AreKeptVectors b plan (history M) j d each new) none vectors

    pub roomy_vectors : AreKeptVectors b plan (history M) j doubt each0 new0
    roomy_vectors = subst (λ (d : Option Entry). AreKeptVectors b plan (history M) j d each0 new0) (sym none) (with_room b plan (history M) j each each0 new new0 same same_new vectors_sure)

    module _ (j1 : JournalState D) (payload : List ℕ) (is : payload ≡ payload_of r) (spells : IsRecord r) (tells : tells_of j1 ≡ tells_of j) (fresh : Option NewVector) (fresh_is : fresh ≡ new_vector b plan r)
        (each1 : List (Option Multipliers)) (new1 : Option NewVector) where
      -- the record was written
      pub written_vectors : (IsTrue (tells_of j) → payloads_of j1 ≡ payloads_of j ++ payload ∷ []) → AreVectorsWith each0 fresh each1 → new1 ≡ new0
          → AreKeptVectors b plan (history (M ++ Own r.entry (length_of j1) ∷ [])) j1 doubt each1 new1
      written_vectors added kept1 same1 =
          subst (λ (d : Option Entry). AreKeptVectors b plan (history (M ++ Own r.entry (length_of j1) ∷ [])) j1 d each1 new1) (sym none)
          (subst (λ (H : List Entry). AreKeptVectors b plan H j1 None each1 new1) (sym (history-own M r.entry (length_of j1)))
          (vectors_written b plan (history M) j each each0 new new0 same same_new vectors_sure j1 r spells may_here tells fresh fresh_is
          (λ told. added told ∙ ap (λ (p : List ℕ). payloads_of j ++ p ∷ []) is) each1 new1 kept1 same1))

      -- the disk failed
      pub faulted_vectors : IsDoubtful (payloads_of j) payload j1 → HasRoom each0 fresh → each1 ≡ each0 → new1 ≡ fresh
          → AreKeptVectors b plan (history (M ++ Fault r.entry ∷ [])) j1 (Some r.entry) each1 new1
      faulted_vectors doubtful room each_same new_same =
          subst (λ (H : List Entry). AreKeptVectors b plan H j1 (Some r.entry) each1 new1) (sym (history-fault M r.entry))
          (vectors_faulted b plan (history M) j each each0 new new0 same same_new vectors_sure j1 r spells may_here tells fresh fresh_is
          (subst (λ (p : List ℕ). IsDoubtful (payloads_of j) p j1) is doubtful) room each1 new1 each_same new_same)
