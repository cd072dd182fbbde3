-- What a crash may leave, in histories.
use Rattle.std.proofs.Common.{◌≡◌, inl, inr, ℕ, ◌+◌, List, [], ◌∷◌, ◌++◌, map, Option, Some, None, IsTrue, ◌∙◌, ap, subst}
use Rattle.bank_tables.specs.Tables.{Tables}
use Rattle.form_model.specs.Plan.{Plan}
use Rattle.exam_edge.specs.Images.{Account, latest, AllImages, AtEachMoment}
use Rattle.exam_edge.specs.ImageLaws.{started, weaker}
use Rattle.history_model.specs.declared.entry.Entry.{Entry}
use Rattle.history_model.specs.Judging.{MayFollow, Record}
use Rattle.answer_journal.specs.Journal.{JournalState, length_of, tells_of, accounts_of, content_of, payloads_of, IsReady, IsDoubtful}
use Rattle.answer_journal.specs.Standing.{payload_list}
use Rattle.answer_journal.specs.Versions.{header, contents, second, HoldsOrOneMore}
use Rattle.answer_journal.specs.StandingLaws.{images_give, doubtful_images}
use Rattle.answer_journal.proofs.VersionLaws.{counted_goes_on, one_version}
use Rattle.exam_records.specs.Shape.{IsRecord}
use Rattle.exam_records.specs.Spelling.{payload_of}
use Rattle.exam_office.specs.declared.mark.Mark.{Mark}
use Rattle.exam_office.specs.Files.{StandsSecond}
use Rattle.exam_office.specs.Marks.{history}
use Rattle.exam_office.specs.Keeping.{IsSure, IsUnsure, IsBacked}
use Rattle.exam_office.specs.Writing.{as_before, with_doubt, IsMending, IsWriting}
use Rattle.exam_office.proofs.Records.{stands_so, stands_more, writes}

-- ---- what a crash may leave of a journal, in payloads that count
module _ {D : Type 0} (j : JournalState D) where
  pub ready_images : IsReady j → IsTrue (tells_of j) → AllImages (λ file. contents file ≡ Some (second (payloads_of j))) (latest (accounts_of j))
  ready_images ready told file i =
      let h = header j.version in
      one_version j.version (payload_list h (content_of j)) (payloads_of j) file (ready.counts told).counts (images_give h (content_of j) (accounts_of j) (length_of j) (ready.rest told) file i)

  pub in_doubt_images : (ps : List (List ℕ)) (payload : List ℕ) → IsDoubtful ps payload j → IsTrue (tells_of j) → AllImages (HoldsOrOneMore ps payload) (latest (accounts_of j))
  in_doubt_images ps payload d told file i =
      let is = d.is told in
      let v = j.version in
      elim (doubtful_images (header v) is.all payload (accounts_of j) (length_of j) d.with_it is.doubt file i) [
        | inl before ↦ inl (one_version v is.all ps file is.counts.counts before)
        | inr after ↦ inr (one_version v (is.all ++ payload ∷ []) (ps ++ payload ∷ []) file (counted_goes_on v is.all ps payload is.counts.counts) after)
      ]

-- ---- in histories
module _ {D : Type 0} (b : Tables) (plan : Plan) (j : JournalState D) where
  -- nothing is in doubt: each file that a crash may leave represents the history
  pub sure_images : (H : List Entry) → IsSure b plan H j → IsTrue (tells_of j) → AllImages (StandsSecond b plan H) (latest (accounts_of j))
  sure_images H s told file i = stands_so b plan H s.records s.are file (ready_images j s.ready told file i ∙ ap (λ (ps : List (List ℕ)). Some (second ps)) (s.holds told))

  mending_so : (M : List Mark) (entry : Entry) (room : ℕ) (u : IsUnsure b plan M entry room j) (file : List ℕ) → HoldsOrOneMore (map payload_of u.records) (payload_of u.last) file → IsMending b plan (history M) (Some entry) file
  mending_so M entry room u file either = elim either [
    | inl before ↦ record { so_far = history M; is_one_of = as_before (Some entry); stands = stands_so b plan (history M) u.records u.are file before }
    | inr after ↦ record {
      so_far = history M ++ entry ∷ [];
      is_one_of = with_doubt entry;
      stands = subst (λ (last : Entry). StandsSecond b plan (history M ++ last ∷ []) file) u.is_entry (stands_more b plan (history M) u.records u.are u.last u.spells u.may file after);
    }
  ]

  pub mending_images : (M : List Mark) (entry : Entry) (room : ℕ) → IsUnsure b plan M entry room j → IsTrue (tells_of j) → AllImages (IsMending b plan (history M) (Some entry)) (latest (accounts_of j))
  mending_images M entry room u told file i =
      mending_so M entry room u file (in_doubt_images j (map payload_of u.records) (payload_of u.last) u.doubtful told file i)

  pub mending_moments : (M : List Mark) (entry : Entry) (room : ℕ) (u : IsUnsure b plan M entry room j) (later : List Account) → AtEachMoment (accounts_of j) later (HoldsOrOneMore (map payload_of u.records) (payload_of u.last)) → AtEachMoment (accounts_of j) later (IsMending b plan (history M) (Some entry))
  mending_moments M entry room u later moments = weaker (HoldsOrOneMore (map payload_of u.records) (payload_of u.last)) (IsMending b plan (history M) (Some entry)) (mending_so M entry room u) (accounts_of j) later moments

  -- the same, by the entry alone
  pub in_hand_moments : (M : List Mark) (entry : Entry) (room : ℕ) (u : IsUnsure b plan M entry room j) (later : List Account) → AtEachMoment (accounts_of j) later (HoldsOrOneMore (map payload_of u.records) (payload_of u.last)) → AtEachMoment (accounts_of j) later (IsWriting b plan (history M) entry)
  in_hand_moments M entry room u later moments =
      weaker (HoldsOrOneMore (map payload_of u.records) (payload_of u.last)) (IsWriting b plan (history M) entry)
      (λ file either. subst (λ (last : Entry). IsWriting b plan (history M) last file) u.is_entry (writes b plan (history M) u.records u.are u.last u.spells u.may file either))
      (accounts_of j) later moments

  pub writing_moments : (H : List Entry) (s : IsSure b plan H j) (r : Record) → IsRecord r → MayFollow b plan H r.entry r.tree → (later : List Account) → IsTrue (tells_of j) → AtEachMoment (accounts_of j) later (HoldsOrOneMore (payloads_of j) (payload_of r)) → AtEachMoment (accounts_of j) later (IsWriting b plan H r.entry)
  writing_moments H s r spells may later told moments = weaker (HoldsOrOneMore (payloads_of j) (payload_of r)) (IsWriting b plan H r.entry) (λ file either. writes b plan H s.records s.are r spells may file (subst (λ (ps : List (List ℕ)). HoldsOrOneMore ps (payload_of r) file) (s.holds told) either)) (accounts_of j) later moments

  pub still_writing : (H : List Entry) (entry : Entry) → IsSure b plan H j → IsTrue (tells_of j) → AtEachMoment (accounts_of j) (accounts_of j) (IsWriting b plan H entry)
  still_writing H entry s told = started (IsWriting b plan H entry) (accounts_of j) (λ file i. inl (sure_images H s told file i))

  pub still_sure : (H : List Entry) → IsSure b plan H j → IsTrue (tells_of j) → AtEachMoment (accounts_of j) (accounts_of j) (IsMending b plan H None)
  still_sure H s told = started (IsMending b plan H None) (accounts_of j) (λ file i. record { so_far = H; is_one_of = as_before None; stands = sure_images H s told file i })

  pub still_mending : (M : List Mark) (entry : Entry) (room : ℕ) → IsUnsure b plan M entry room j → IsTrue (tells_of j) → AtEachMoment (accounts_of j) (accounts_of j) (IsMending b plan (history M) (Some entry))
  still_mending M entry room u told = started (IsMending b plan (history M) (Some entry)) (accounts_of j) (mending_images M entry room u told)

  -- what a crash may leave of an open office: by its history, or by that with the entry in doubt
  pub each_image : (M : List Mark) (doubt : Option Entry) (room : ℕ) → IsBacked b plan M room j doubt → IsTrue (tells_of j) → AllImages (IsMending b plan (history M) doubt) (latest (accounts_of j))
  each_image M None room s told file i = record { so_far = history M; is_one_of = as_before None; stands = sure_images (history M) s told file i }
  each_image M (Some entry) room u told file i = mending_images M entry room u told file i
