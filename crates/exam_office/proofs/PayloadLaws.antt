-- What mending and writing do to the payloads of an office's journal.
use Rattle.std.proofs.Common.{◌≡◌, inl, ℕ, ◌+◌, List, [], ◌∷◌, ◌++◌, length, Option, Some, None, IsTrue, sym, ◌∙◌, ap, subst}
use Rattle.std.specs.Prelude.{unwrap_or}
use Rattle.bank_tables.specs.Tables.{Tables}
use Rattle.form_model.specs.Plan.{Plan}
use Rattle.exam_edge.specs.Images.{Account, AllImages, AtEachMoment, latest}
use Rattle.exam_edge.specs.ImageLaws.{started}
use Rattle.history_model.specs.declared.entry.Entry.{Entry}
use Rattle.history_model.specs.Judging.{Record}
use Rattle.exam_session.specs.Ledgers.{Ledger}
use Rattle.answer_journal.specs.Journal.{JournalState, length_of, limit_of, tells_of, accounts_of, doubt_of, payloads_of, IsReady, IsDoubtful}
use Rattle.answer_journal.specs.Versions.{contents, second, HoldsOrOneMore}
use Rattle.exam_records.specs.Spelling.{payload_of}
use Rattle.exam_office.specs.declared.mark.Mark.{Mark}
use Rattle.exam_office.specs.declared.mark.Mark.TheVariants.{Adopted}
use Rattle.exam_office.specs.Keeping.{IsKept, IsSure}
use Rattle.exam_office.specs.Marks.{history, reach}
use Rattle.exam_office.specs.Payloads.{HoldsRecords, IsResolved, dropped, kept}
use Rattle.exam_office.specs.Running.{HandedDisk, Running}
use Rattle.exam_office.proofs.Moments.{ready_images, in_doubt_images}

-- before the first call of the disk: nothing is in doubt, or this payload
pub ready_left : {D : Type 0} (j : JournalState D) (payload : List ℕ) → IsReady j → IsTrue (tells_of j) → AtEachMoment (accounts_of j) (accounts_of j) (HoldsOrOneMore (payloads_of j) payload)
ready_left j payload ready told = started (HoldsOrOneMore (payloads_of j) payload) (accounts_of j) (λ file i. inl (ready_images j ready told file i))

pub doubtful_left : {D : Type 0} (j : JournalState D) (ps : List (List ℕ)) (payload : List ℕ) → IsDoubtful ps payload j → IsTrue (tells_of j) → AtEachMoment (accounts_of j) (accounts_of j) (HoldsOrOneMore ps payload)
doubtful_left j ps payload d told = started (HoldsOrOneMore ps payload) (accounts_of j) (in_doubt_images j ps payload d told)

never_both : {D : Type 0} (j : JournalState D) (ps : List (List ℕ)) (payload : List ℕ) → IsReady j → IsDoubtful ps payload j → ⊥
never_both j ps payload ready d =
    let none : doubt_of j ≡ None = ready.sure in
    let some : doubt_of j ≡ Some d.with_it = d.doubt in
    absurd (cc)

module _ {D : Type 0} (b : Tables) (plan : Plan) (base : List ℕ) (book : Ledger) (j : JournalState D) (M : List Mark) (doubt : Option Entry) (was : HandedDisk) (all : IsKept b plan base book j M doubt was)
    (now : Running D) (view : record { bank = b; plan = plan; base = base; marks = M; doubt = doubt; journal = j; opened = was } ≡ now) where
  -- ---- nothing is in doubt
  module _ (none : doubt ≡ None) where
    pub ready_here : IsReady j
    ready_here = (subst (λ (d : Option Entry). IsKept b plan base book j M d was) none all).backed.ready

    pub ready_now : IsReady now.journal
    ready_now = subst (λ (o : Running D). IsReady o.journal) view ready_here

    pub images_now : IsTrue (tells_of now.journal) → AllImages (λ file. contents file ≡ Some (second (payloads_of now.journal))) (latest (accounts_of now.journal))
    images_now told = ready_images now.journal ready_now told

    pub holds_now : HoldsRecords now
    holds_now =
        let s : IsSure b plan (history M) j = (subst (λ (d : Option Entry). IsKept b plan base book j M d was) none all).backed in
        subst (λ (o : Running D). HoldsRecords o) view (record { records = s.records; are = s.are; holds = s.holds })

    pub never_doubtful : (ps : List (List ℕ)) (payload : List ℕ) → IsDoubtful ps payload now.journal → ⊥
    never_doubtful ps payload d = never_both now.journal ps payload ready_now d

  pub length_now : length_of now.journal ≡ reach now.marks
  length_now = subst (λ (o : Running D). length_of o.journal ≡ reach o.marks) view all.size

  pub limit_now : limit_of now.journal ≡ now.plan.journal
  limit_now = subst (λ (o : Running D). limit_of o.journal ≡ o.plan.journal) view all.limit

  -- ---- an entry is
  pub some_is_none : (entry : Entry) → doubt ≡ Some entry → now.doubt ≡ None → ⊥
  some_is_none entry some none =
      let same : doubt ≡ now.doubt = ap (λ (o : Running D). o.doubt) view in
      absurd (cc)

  module _ (j1 : JournalState D) (tells : tells_of j1 ≡ tells_of j) (ps : List (List ℕ)) (payload : List ℕ) (there : IsDoubtful ps payload now.journal) where
    here : IsDoubtful ps payload j
    here = subst (λ (o : Running D). IsDoubtful ps payload o.journal) (sym view) there

    pub resolved_kept : (entry : Entry) (M1 : List Mark) → M1 ≡ M ++ Adopted entry (length_of j1) ∷ [] → length_of j1 ≡ unwrap_or (doubt_of j) (length_of j)
        → (IsTrue (tells_of j) → (qs : List (List ℕ)) (p : List ℕ) → IsDoubtful qs p j → payloads_of j1 ≡ qs ++ p ∷ [])
        → IsResolved now.marks ps payload j1 M1
    resolved_kept entry M1 is long mended =
        let size : length_of j1 ≡ reach M + 5 + length payload =
        long ∙ (ap (λ (o : Option ℕ). unwrap_or o (length_of j)) here.doubt ∙ (here.with_is ∙ ap (λ (n : ℕ). n + 5 + length payload) all.size)) in
        let marks : M ++ Adopted entry (reach M + 5 + length payload) ∷ [] ≡ M1 =
        ap (λ (n : ℕ). M ++ Adopted entry n ∷ []) (sym size) ∙ sym is in
        subst (λ (o : Running D). IsResolved o.marks ps payload j1 M1) view
        (subst (IsResolved M ps payload j1) marks (kept entry (λ told1. mended (sym tells ∙ told1) ps payload here)))

    pub resolved_dropped : (IsTrue (tells_of j) → (qs : List (List ℕ)) (p : List ℕ) → IsDoubtful qs p j → payloads_of j1 ≡ qs)
        → IsResolved now.marks ps payload j1 M
    resolved_dropped mended =
        subst (λ (o : Running D). IsResolved o.marks ps payload j1 M) view
        (dropped (λ told1. mended (sym tells ∙ told1) ps payload here))

    pub still_doubtful : ((qs : List (List ℕ)) (p : List ℕ) → IsDoubtful qs p j → IsDoubtful qs p j1) → IsDoubtful ps payload j1
    still_doubtful still = still ps payload here

  pub mending_left : (later : List Account) → (IsTrue (tells_of j) → (ps : List (List ℕ)) (payload : List ℕ) → IsDoubtful ps payload j → AtEachMoment (accounts_of j) later (HoldsOrOneMore ps payload))
      → IsTrue (tells_of now.journal) → (ps : List (List ℕ)) (payload : List ℕ) → IsDoubtful ps payload now.journal → AtEachMoment (accounts_of now.journal) later (HoldsOrOneMore ps payload)
  mending_left later moments =
      subst (λ (o : Running D). IsTrue (tells_of o.journal) → (ps : List (List ℕ)) (payload : List ℕ) → IsDoubtful ps payload o.journal → AtEachMoment (accounts_of o.journal) later (HoldsOrOneMore ps payload)) view moments

  -- ---- a record is written
  module _ (sure : now.doubt ≡ None) (r : Record) where
    no_doubt : doubt ≡ None
    no_doubt = ap (λ (o : Running D). o.doubt) view ∙ sure

    pub writing_still : IsTrue (tells_of now.journal) → AtEachMoment (accounts_of now.journal) (accounts_of now.journal) (HoldsOrOneMore (payloads_of now.journal) (payload_of r))
    writing_still told = ready_left now.journal (payload_of r) (ready_now no_doubt) told

    pub writing_before : IsTrue (tells_of now.journal) → AtEachMoment (accounts_of now.journal) (accounts_of j) (HoldsOrOneMore (payloads_of now.journal) (payload_of r))
    writing_before =
        subst (λ (o : Running D). IsTrue (tells_of o.journal) → AtEachMoment (accounts_of o.journal) (accounts_of j) (HoldsOrOneMore (payloads_of o.journal) (payload_of r))) view
        (ready_left j (payload_of r) (ready_here no_doubt))

    module _ (payload : List ℕ) (is : payload ≡ payload_of r) (j1 : JournalState D) where
      pub writing_left : (IsTrue (tells_of j) → AtEachMoment (accounts_of j) (accounts_of j1) (HoldsOrOneMore (payloads_of j) payload))
          → IsTrue (tells_of now.journal) → AtEachMoment (accounts_of now.journal) (accounts_of j1) (HoldsOrOneMore (payloads_of now.journal) (payload_of r))
      writing_left moments =
          subst (λ (o : Running D). IsTrue (tells_of o.journal) → AtEachMoment (accounts_of o.journal) (accounts_of j1) (HoldsOrOneMore (payloads_of o.journal) (payload_of r))) view
          (subst (λ (p : List ℕ). IsTrue (tells_of j) → AtEachMoment (accounts_of j) (accounts_of j1) (HoldsOrOneMore (payloads_of j) p)) is moments)

      pub payloads_written : (IsTrue (tells_of j) → payloads_of j1 ≡ payloads_of j ++ payload ∷ []) → IsTrue (tells_of now.journal) → payloads_of j1 ≡ payloads_of now.journal ++ payload_of r ∷ []
      payloads_written added =
          subst (λ (o : Running D). IsTrue (tells_of o.journal) → payloads_of j1 ≡ payloads_of o.journal ++ payload_of r ∷ []) view
          (subst (λ (p : List ℕ). IsTrue (tells_of j) → payloads_of j1 ≡ payloads_of j ++ p ∷ []) is added)

      pub written_doubtful : IsDoubtful (payloads_of j) payload j1 → IsDoubtful (payloads_of now.journal) (payload_of r) j1
      written_doubtful d =
          subst (λ (o : Running D). IsDoubtful (payloads_of o.journal) (payload_of r) j1) view
          (subst (λ (p : List ℕ). IsDoubtful (payloads_of j) p j1) is d)
