-- What a disk allows of the files that an office writes.
use Rattle.std.proofs.Common.{◌≡◌, inl, inr, ℕ, List, [], ◌∷◌, ◌++◌, map, sym, ◌∙◌, subst, append_assoc, IsTrue}
use Rattle.std.proofs.lemmas.List.{append-nil}
use Rattle.bank_tables.specs.Tables.{Tables}
use Rattle.form_model.specs.Plan.{Plan}
use Rattle.exam_edge.specs.Images.{Allows}
use Rattle.history_model.specs.declared.entry.Entry.{Entry}
use Rattle.history_model.specs.Judging.{Record, MayFollow}
use Rattle.exam_records.specs.Shape.{IsRecord}
use Rattle.exam_records.specs.Spelling.{payload_of}
use Rattle.answer_journal.specs.Journal.{JournalState, tells_of, payloads_of}
use Rattle.answer_journal.specs.Moving.{GivesEither, IsUnmoved}
use Rattle.answer_journal.specs.Opening.{AllowsSame}
use Rattle.answer_journal.specs.Versions.{contents, HoldsJust, HoldsOrOneMore}
use Rattle.exam_office.specs.declared.mark.Mark.{Mark}
use Rattle.exam_office.specs.Allowing.{AllowsHistories, HistoriesGoOn}
use Rattle.exam_office.specs.Files.{payload_in, AreRecordsOf, Stands}
use Rattle.exam_office.specs.Keeping.{IsSure, IsUnsure}
use Rattle.exam_office.specs.Marks.{history}
use Rattle.exam_office.specs.Writing.{IsWriting}
use Rattle.exam_office.proofs.FileLaws.{one_history}
use Rattle.exam_office.proofs.MigratingFiles.{either_stands, unmoved_stands}
use Rattle.exam_office.proofs.Records.{stands_so, writes}

module _ (b : Tables) (plan : Plan) (may_become : List ℕ → List ℕ → Type 0) (all : AllowsHistories b plan may_become) where
  -- the same history
  pub alike : (H : List Entry) → Allows may_become (Stands b plan H) (Stands b plan H)
  alike H before file s t = all H [] before file s (subst (λ (G : List Entry). Stands b plan G file) (sym (append-nil H)) t)

  pub same_allowed : (H : List Entry) (content : List ℕ) → Stands b plan H content → AllowsSame may_become contents content
  same_allowed H content s file is = alike H content file s (record { records = s.records; version = s.version; are = s.are; holds = is ∙ s.holds })

  -- one entry more
  one_more : (H : List Entry) (entry : Entry) → Allows may_become (Stands b plan H) (IsWriting b plan H entry)
  one_more H entry before file s (inl same) = alike H before file s same.stands
  one_more H entry before file s (inr more) = all H (entry ∷ []) before file s more.stands

  module _ {D : Type 0} (j : JournalState D) where
    pub appending : (H : List Entry) (r : Record) → IsSure b plan H j → IsRecord r → MayFollow b plan H r.entry r.tree → (payload : List ℕ) → payload ≡ payload_of r
        → IsTrue (tells_of j) → Allows may_become (HoldsJust (payloads_of j)) (HoldsOrOneMore (payloads_of j) payload)
    appending H r s spells may payload is told =
        subst (λ (p : List ℕ). Allows may_become (HoldsJust (payloads_of j)) (HoldsOrOneMore (payloads_of j) p)) (sym is)
        (subst (λ (ps : List (List ℕ)). Allows may_become (HoldsJust ps) (HoldsOrOneMore ps (payload_of r))) (sym (s.holds told))
        (λ before file here either. one_more H r.entry before file (stands_so b plan H s.records s.are before here).stands (writes b plan H s.records s.are r spells may file either)))

    pub mending : (M : List Mark) (entry : Entry) (room : ℕ) (u : IsUnsure b plan M entry room j) → Allows may_become (HoldsJust (map payload_of u.records)) (HoldsJust (map payload_of u.records))
    mending M entry room u before file x y =
        alike (history M) before file (stands_so b plan (history M) u.records u.are before x).stands (stands_so b plan (history M) u.records u.are file y).stands

  -- a journal that is moved
  module _ (H : List Entry) (R : List Record) (are : AreRecordsOf b plan 1 H R) where
    pub moving : Allows may_become (IsUnmoved (map (payload_in b plan 1) R)) (IsUnmoved (map (payload_in b plan 1) R))
    moving before file x y = alike H before file (unmoved_stands b plan H R are before x) (unmoved_stands b plan H R are file y)

    pub switching : Allows may_become (IsUnmoved (map (payload_in b plan 1) R)) (GivesEither (map (payload_in b plan 1) R) (map payload_of R))
    switching before file x y = alike H before file (unmoved_stands b plan H R are before x) (either_stands b plan H R are file y)

-- the same of a book with the same bank and plan
pub allowed_by : (b c : Tables) (plan plan1 : Plan) → c ≡ b → plan1 ≡ plan → (may_become : List ℕ → List ℕ → Type 0) → AllowsHistories b plan may_become → AllowsHistories c plan1 may_become
allowed_by b c plan plan1 bank same may_become all =
    subst (λ (x : Tables). AllowsHistories x plan1 may_become) (sym bank) (subst (λ (x : Plan). AllowsHistories b x may_become) (sym same) all)

-- what a disk may allow
pub histories_go_on : (b : Tables) (plan : Plan) → HistoriesGoOn b plan
histories_go_on b plan = record {
  allowed = λ H more before file s t G other.
      (more, subst (λ (start : List Entry). Stands b plan (start ++ more) file) (one_history b plan H G before s other) t);
  itself = λ file H s. ([], subst (λ (G : List Entry). Stands b plan G file) (sym (append-nil H)) s);
  further = λ first second third one two H s.
      let a = one H s in
      let c = two (H ++ a.0) a.1 in
      (a.0 ++ c.0, subst (λ (G : List Entry). Stands b plan G third) (append_assoc H a.0 c.0) c.1);
}
