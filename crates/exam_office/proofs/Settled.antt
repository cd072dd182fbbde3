-- What resolving the entry in doubt does to an office that is open.
use Rattle.std.proofs.Common.{◌≡◌, ℕ, ◌<◌, ◌≤◌, List, [], ◌∷◌, ◌++◌, map, Option, Some, None, IsTrue, sym, subst}
use Rattle.bank_tables.specs.Tables.{Tables}
use Rattle.form_model.specs.Plan.{Plan}
use Rattle.exam_edge.specs.Faults.{Rose}
use Rattle.exam_edge.specs.Images.{Account, latest, AllImages, AtEachMoment}
use Rattle.history_model.specs.declared.entry.Entry.{Entry}
use Rattle.history_model.specs.Legality.{Legal}
use Rattle.history_model.specs.Laws.{MayIsLegal}
use Rattle.exam_session.specs.Ledgers.{Ledger}
use Rattle.answer_journal.specs.Journal.{JournalState, length_of, limit_of, start_of, tells_of, accounts_of, payloads_of, IsReady, IsDoubtful, faults_of}
use Rattle.answer_journal.specs.Versions.{HoldsOrOneMore}
use Rattle.exam_office.specs.declared.mark.Mark.{Mark}
use Rattle.exam_office.specs.declared.mark.Mark.TheVariants.{Adopted, Fault}
use Rattle.exam_records.specs.Spelling.{payload_of}
use Rattle.exam_office.specs.Files.{StandsSecond}
use Rattle.exam_office.specs.Marks.{history}
use Rattle.exam_office.specs.Running.{HandedDisk, Running}
use Rattle.exam_office.specs.Keeping.{IsUnsure, IsKept}
use Rattle.exam_office.specs.Writing.{IsMending, IsWriting, IsMended, sure, dropped, kept}
use Rattle.certificate_model.specs.Relaxed.{Multipliers}
use Rattle.exam_office.specs.declared.vectors.NewVector.{NewVector}
use Rattle.exam_office.specs.KeptVectors.{AreVectorsWith, AreKeptVectors}
use Rattle.exam_office.proofs.Marking.{history-adopted, history-fault}
use Rattle.exam_office.proofs.KeepingVectors.{vectors_adopted, vectors_dropped, vectors_unmended}
use Rattle.exam_office.proofs.Kept.{kept_adopted, kept_dropped, kept_unmended}
use Rattle.exam_office.proofs.Moments.{sure_images, still_sure, still_mending, mending_moments, in_hand_moments}

module _ {D : Type 0} (b : Tables) (plan : Plan) (base : List ℕ) (book : Ledger) (j : JournalState D) (M : List Mark) (doubt : Option Entry) (was : HandedDisk) (all : IsKept b plan base book j M doubt was)
    (now : Running D) (view : record { bank = b; plan = plan; base = base; marks = M; doubt = doubt; journal = j; opened = was } ≡ now) where
  told_here : IsTrue (tells_of now.journal) → IsTrue (tells_of j)
  told_here told = subst (λ (o : Running D). IsTrue (tells_of o.journal)) (sym view) told

  seen : (later : List Account) → AtEachMoment (accounts_of j) later (IsMending b plan (history M) doubt) → AtEachMoment (accounts_of now.journal) later (IsMending now.bank now.plan (history now.marks) now.doubt)
  seen later moments = subst (λ (o : Running D). AtEachMoment (accounts_of o.journal) later (IsMending o.bank o.plan (history o.marks) o.doubt)) view moments

  pub images_settled : (j1 : JournalState D) (M1 : List Mark) (book1 : Ledger) → IsKept b plan base book1 j1 M1 None was → tells_of j1 ≡ tells_of j → IsTrue (tells_of now.journal) → AllImages (StandsSecond now.bank now.plan (history M1)) (latest (accounts_of j1))
  images_settled j1 M1 book1 kept1 tells told =
      subst (λ (o : Running D). AllImages (StandsSecond o.bank o.plan (history M1)) (latest (accounts_of j1))) view
      (sure_images b plan j1 (history M1) kept1.backed (subst IsTrue (sym tells) (told_here told)))

  -- ---- nothing is in doubt
  module _ (none : doubt ≡ None) where
    kept_none : IsKept b plan base book j M None was
    kept_none = subst (λ (d : Option Entry). IsKept b plan base book j M d was) none all

    pub mended_none : IsMended now.marks now.doubt now.marks
    mended_none = subst (λ (o : Running D). IsMended o.marks o.doubt o.marks) view (subst (λ (d : Option Entry). IsMended M d M) (sym none) sure)

    pub images_none : IsTrue (tells_of now.journal) → AllImages (StandsSecond now.bank now.plan (history now.marks)) (latest (accounts_of now.journal))
    images_none told =
        subst (λ (o : Running D). AllImages (StandsSecond o.bank o.plan (history o.marks)) (latest (accounts_of o.journal))) view (sure_images b plan j (history M) kept_none.backed (told_here told))

    pub moments_none : IsTrue (tells_of now.journal) → AtEachMoment (accounts_of now.journal) (accounts_of now.journal) (IsMending now.bank now.plan (history now.marks) now.doubt)
    moments_none told =
        subst (λ (o : Running D). AtEachMoment (accounts_of o.journal) (accounts_of o.journal) (IsMending o.bank o.plan (history o.marks) o.doubt)) view
        (subst (λ (d : Option Entry). AtEachMoment (accounts_of j) (accounts_of j) (IsMending b plan (history M) d)) (sym none) (still_sure b plan j (history M) kept_none.backed (told_here told)))

  -- ---- an entry is
  module _ (entry : Entry) (is : doubt ≡ Some entry) where
    kept_some : IsKept b plan base book j M (Some entry) was
    kept_some = subst (λ (d : Option Entry). IsKept b plan base book j M d was) is all

    pub unsure : IsUnsure b plan M entry book.room j
    unsure = kept_some.backed

    pub has_doubt : (ps : List (List ℕ)) × (payload : List ℕ) × IsDoubtful ps payload j
    has_doubt = (map payload_of unsure.records, payload_of unsure.last, unsure.doubtful)

    pub room_is : 0 < book.room
    room_is = unsure.has_room

    pub legal_is : MayIsLegal → Legal book.bank book.plan book.entries entry
    legal_is law =
        let here : Legal b plan (history M) entry = subst (Legal b plan (history M)) unsure.is_entry (law b plan (history M) unsure.last.entry unsure.last.tree unsure.may) in
        let there : Legal b plan book.entries entry = subst (λ (H : List Entry). Legal b plan H entry) (sym kept_some.entries) here in
        let next : Legal b book.plan book.entries entry = subst (λ (p : Plan). Legal b p book.entries entry) (sym kept_some.plan_is) there in
        subst (λ (t : Tables). Legal t book.plan book.entries entry) (sym kept_some.bank) next

    pub moments_same : IsTrue (tells_of now.journal) → AtEachMoment (accounts_of now.journal) (accounts_of now.journal) (IsMending now.bank now.plan (history now.marks) now.doubt)
    moments_same told =
        subst (λ (o : Running D). AtEachMoment (accounts_of o.journal) (accounts_of o.journal) (IsMending o.bank o.plan (history o.marks) o.doubt)) view
        (subst (λ (d : Option Entry). AtEachMoment (accounts_of j) (accounts_of j) (IsMending b plan (history M) d)) (sym is) (still_mending b plan j M entry book.room unsure (told_here told)))

    pub moments_mended : (later : List Account) → (IsTrue (tells_of j) → (ps : List (List ℕ)) (payload : List ℕ) → IsDoubtful ps payload j → AtEachMoment (accounts_of j) later (HoldsOrOneMore ps payload)) → IsTrue (tells_of now.journal) → AtEachMoment (accounts_of now.journal) later (IsMending now.bank now.plan (history now.marks) now.doubt)
    moments_mended later moments told =
        seen later (subst (λ (d : Option Entry). AtEachMoment (accounts_of j) later (IsMending b plan (history M) d)) (sym is)
        (mending_moments b plan j M entry book.room unsure later (moments (told_here told) (map payload_of unsure.records) (payload_of unsure.last) unsure.doubtful)))

    pub mended_kept : (size : ℕ) → IsMended now.marks now.doubt (M ++ Adopted entry size ∷ [])
    mended_kept size = subst (λ (o : Running D). IsMended o.marks o.doubt (M ++ Adopted entry size ∷ [])) view (subst (λ (d : Option Entry). IsMended M d (M ++ Adopted entry size ∷ [])) (sym is) (kept entry size))

    pub mended_dropped : IsMended now.marks now.doubt M
    mended_dropped = subst (λ (o : Running D). IsMended o.marks o.doubt M) view (subst (λ (d : Option Entry). IsMended M d M) (sym is) (dropped entry))

    in_hand : (j1 : JournalState D) → (IsTrue (tells_of j) → (ps : List (List ℕ)) (payload : List ℕ) → IsDoubtful ps payload j → AtEachMoment (accounts_of j) (accounts_of j1) (HoldsOrOneMore ps payload))
        → IsTrue (tells_of j) → AtEachMoment (accounts_of j) (accounts_of j1) (IsWriting b plan (history M) entry)
    in_hand j1 moments told =
        in_hand_moments b plan j M entry book.room unsure (accounts_of j1) (moments told (map payload_of unsure.records) (payload_of unsure.last) unsure.doubtful)

    module _ (book1 : Ledger) (j1 : JournalState D) where
      pub kept_so : book1.bank ≡ book.bank → book1.plan ≡ book.plan → book1.entries ≡ book.entries ++ entry ∷ []
          → IsReady j1 → limit_of j1 ≡ limit_of j → start_of j1 ≡ start_of j → faults_of j ≤ faults_of j1 → tells_of j1 ≡ tells_of j
          → (IsTrue (tells_of j) → (ps : List (List ℕ)) (payload : List ℕ) → IsDoubtful ps payload j → payloads_of j1 ≡ ps ++ payload ∷ [])
          → (IsTrue (tells_of j) → (ps : List (List ℕ)) (payload : List ℕ) → IsDoubtful ps payload j → AtEachMoment (accounts_of j) (accounts_of j1) (HoldsOrOneMore ps payload))
          → IsKept b plan base book1 j1 (M ++ Adopted entry (length_of j1) ∷ []) None was
      kept_so bank plan_is entries ready limit start grows tells mended moments =
          kept_adopted b plan base was book book1 j j1 M entry kept_some bank plan_is entries ready limit start grows tells mended (in_hand j1 moments)

      pub dropped_so : book1.bank ≡ book.bank → book1.plan ≡ book.plan → book1.entries ≡ book.entries
          → IsReady j1 → length_of j1 ≡ length_of j → limit_of j1 ≡ limit_of j → start_of j1 ≡ start_of j → faults_of j ≤ faults_of j1 → tells_of j1 ≡ tells_of j
          → (IsTrue (tells_of j) → (ps : List (List ℕ)) (payload : List ℕ) → IsDoubtful ps payload j → payloads_of j1 ≡ ps)
          → (IsTrue (tells_of j) → (ps : List (List ℕ)) (payload : List ℕ) → IsDoubtful ps payload j → AtEachMoment (accounts_of j) (accounts_of j1) (HoldsOrOneMore ps payload))
          → IsKept b plan base book1 j1 M None was
      dropped_so bank plan_is entries ready size limit start grows tells mended moments =
          kept_dropped b plan base was book book1 j j1 M entry kept_some bank plan_is entries ready size limit start grows tells mended (in_hand j1 moments)

      pub still_so : book1.bank ≡ book.bank → book1.plan ≡ book.plan → book1.entries ≡ book.entries → book1.room ≡ book.room
          → length_of j1 ≡ length_of j → limit_of j1 ≡ limit_of j → start_of j1 ≡ start_of j → Rose (faults_of j) (faults_of j1) → faults_of j ≤ faults_of j1 → tells_of j1 ≡ tells_of j
          → ((ps : List (List ℕ)) (payload : List ℕ) → IsDoubtful ps payload j → IsDoubtful ps payload j1)
          → (IsTrue (tells_of j) → (ps : List (List ℕ)) (payload : List ℕ) → IsDoubtful ps payload j → AtEachMoment (accounts_of j) (accounts_of j1) (HoldsOrOneMore ps payload))
          → IsKept b plan base book1 j1 (M ++ Fault entry ∷ []) doubt was
      still_so bank plan_is entries room size limit start rose grows tells still moments =
          subst (λ (d : Option Entry). IsKept b plan base book1 j1 (M ++ Fault entry ∷ []) d was) (sym is)
          (kept_unmended b plan base was book book1 j j1 M entry kept_some bank plan_is entries room size limit start rose grows tells still (in_hand j1 moments))

    -- the vectors
    module _ (each : List (Option Multipliers)) (new : Option NewVector) (vectors : AreKeptVectors b plan (history M) j doubt each new) where
      vectors_some : AreKeptVectors b plan (history M) j (Some entry) each new
      vectors_some = subst (λ (d : Option Entry). AreKeptVectors b plan (history M) j d each new) is vectors

      module _ (j1 : JournalState D) (tells : tells_of j1 ≡ tells_of j) (each1 : List (Option Multipliers)) (new1 : Option NewVector) where
        pub adopted_vectors : (IsTrue (tells_of j) → (ps : List (List ℕ)) (payload : List ℕ) → IsDoubtful ps payload j → payloads_of j1 ≡ ps ++ payload ∷ [])
            → AreVectorsWith each new each1 → new1 ≡ None → AreKeptVectors b plan (history (M ++ Adopted entry (length_of j1) ∷ [])) j1 None each1 new1
        adopted_vectors mended kept1 empty =
            subst (λ (H : List Entry). AreKeptVectors b plan H j1 None each1 new1) (sym (history-adopted M entry (length_of j1)))
            (vectors_adopted b plan (history M) j each new entry vectors_some j1 tells each1 new1 mended kept1 empty)

        pub dropped_vectors : (IsTrue (tells_of j) → (ps : List (List ℕ)) (payload : List ℕ) → IsDoubtful ps payload j → payloads_of j1 ≡ ps)
            → each1 ≡ each → new1 ≡ None → AreKeptVectors b plan (history M) j1 None each1 new1
        dropped_vectors mended same empty = vectors_dropped b plan (history M) j each new entry vectors_some j1 tells each1 new1 mended same empty

      pub unmended_vectors : (j1 : JournalState D) → ((ps : List (List ℕ)) (payload : List ℕ) → IsDoubtful ps payload j → IsDoubtful ps payload j1)
          → AreKeptVectors b plan (history (M ++ Fault entry ∷ [])) j1 doubt each new
      unmended_vectors j1 still =
          subst (λ (d : Option Entry). AreKeptVectors b plan (history (M ++ Fault entry ∷ [])) j1 d each new) (sym is)
          (subst (λ (H : List Entry). AreKeptVectors b plan H j1 (Some entry) each new) (sym (history-fault M entry))
          (vectors_unmended b plan (history M) j each new entry vectors_some j1 still))
