-- Records after records.
use Rattle.std.proofs.Common.{◌≡◌, inl, inr, ℕ, List, [], ◌∷◌, ◌++◌, map, Option, Some, None, refl, sym, ◌∙◌, ap, subst}
use Rattle.std.specs.List.{AllByRecursion}
use Rattle.std.proofs.lemmas.List.{map-append}
use Rattle.bank_tables.specs.Tables.{Tables}
use Rattle.form_model.specs.Plan.{Plan}
use Rattle.certificate_model.specs.ProofTrees.{ProofTree}
use Rattle.history_model.specs.declared.entry.Entry.{Entry}
use Rattle.history_model.specs.declared.entry.Entry.TheVariants.{Started, SetAside, Served, Answered, Closed}
use Rattle.history_model.specs.Judging.{MayFollow, Record, more}
use Rattle.exam_records.specs.Shape.{GoesWith, IsRecord}
use Rattle.exam_records.specs.Spelling.{payload_of}
use Rattle.answer_journal.specs.Versions.{contents, second, HoldsOrOneMore}
use Rattle.exam_office.specs.Files.{counted_of, IsRecordIn, AreRecordsOf, Stands, StandsSecond}
use Rattle.exam_office.specs.Writing.{IsWriting}

-- a record that may follow has a tree if its entry needs one, with as many nodes as its entry has
pub goes_with : (b : Tables) (plan : Plan) (H : List Entry) (entry : Entry) (tree : Option ProofTree) → MayFollow b plan H entry tree → GoesWith entry tree
goes_with b plan H (Started session booking eligible without) None may = tt
goes_with b plan H (Started session booking eligible without) (Some T) may = let e = may.1 in absurd (cc)
goes_with b plan H (SetAside session step band cause nodes) None may = absurd may.shows.has_tree
goes_with b plan H (SetAside session step band cause nodes) (Some T) may = may.shows.has_tree.number
goes_with b plan H (Served session step item form proved nodes) None may = absurd may.shows.has_tree
goes_with b plan H (Served session step item form proved nodes) (Some T) may = may.shows.has_tree.number
goes_with b plan H (Answered session step response) None may = tt
goes_with b plan H (Answered session step response) (Some T) may = let e = may.1 in absurd (cc)
goes_with b plan H (Closed session) None may = tt
goes_with b plan H (Closed session) (Some T) may = let e = may.1 in absurd (cc)

all-push : (P : Record → Type 0) (R : List Record) (r : Record) → AllByRecursion P R → P r → AllByRecursion P (R ++ r ∷ [])
all-push P [] r all here = (here, tt)
all-push P (q ∷ R) r all here = (all.0, all-push P R r all.1 here)

module _ (b : Tables) (plan : Plan) (H : List Entry) (version : ℕ) (R : List Record) (are : AreRecordsOf b plan version H R) where
  pub are_more_in : (r : Record) → IsRecordIn version r → MayFollow b plan H r.entry r.tree → AreRecordsOf b plan version (H ++ r.entry ∷ []) (R ++ r ∷ [])
  are_more_in r spells may = record {
    spell = all-push (IsRecordIn version) R r are.spell spells;
    backed = more R r are.backed (subst (λ (G : List Entry). MayFollow b plan G r.entry r.tree) (sym are.entries) may);
    entries = map-append (λ (q : Record). q.entry) R (r ∷ []) ∙ ap (λ (G : List Entry). G ++ r.entry ∷ []) are.entries;
  }

  pub stands_by : (file : List ℕ) → contents file ≡ Some (counted_of b plan version R) → Stands b plan H file
  stands_by file holds = record { records = R; are = are; version = version; holds = holds }

-- a record of the second version
pub in_second : (r : Record) → IsRecord r → IsRecordIn 2 r
in_second r spells = record { is_record = spells; unlisted = λ e. absurd (let clash : 2 ≡ 1 = e in cc) }

pub all_in_second : (R : List Record) → AllByRecursion IsRecord R → AllByRecursion (IsRecordIn 2) R
all_in_second [] all = tt
all_in_second (r ∷ R) all = (in_second r all.0, all_in_second R all.1)

all_second : (R : List Record) → AllByRecursion (IsRecordIn 1) R → AllByRecursion (IsRecordIn 2) R
all_second [] all = tt
all_second (r ∷ R) all = (in_second r all.0.is_record, all_second R all.1)

-- records of the first version are records of the second
pub as_second : (b : Tables) (plan : Plan) (H : List Entry) (R : List Record) → AreRecordsOf b plan 1 H R → AreRecordsOf b plan 2 H R
as_second b plan H R are = record { spell = all_second R are.spell; backed = are.backed; entries = are.entries }

module _ (b : Tables) (plan : Plan) (H : List Entry) (R : List Record) (are : AreRecordsOf b plan 2 H R) where
  pub are_more : (r : Record) → IsRecord r → MayFollow b plan H r.entry r.tree → AreRecordsOf b plan 2 (H ++ r.entry ∷ []) (R ++ r ∷ [])
  are_more r spells may = are_more_in b plan H 2 R are r (in_second r spells) may

  pub stands_so : (file : List ℕ) → contents file ≡ Some (second (map payload_of R)) → StandsSecond b plan H file
  stands_so file holds = record { stands = record { records = R; are = are; version = 2; holds = holds }; second = refl }

  pub stands_more : (r : Record) → IsRecord r → MayFollow b plan H r.entry r.tree → (file : List ℕ) → contents file ≡ Some (second (map payload_of R ++ payload_of r ∷ [])) → StandsSecond b plan (H ++ r.entry ∷ []) file
  stands_more r spells may file holds = record {
    stands = record {
      records = R ++ r ∷ [];
      are = are_more r spells may;
      version = 2;
      holds = holds ∙ ap (λ (ps : List (List ℕ)). Some (second ps)) (sym (map-append payload_of R (r ∷ [])));
    };
    second = refl;
  }

  pub writes : (r : Record) → IsRecord r → MayFollow b plan H r.entry r.tree → (file : List ℕ) → HoldsOrOneMore (map payload_of R) (payload_of r) file → IsWriting b plan H r.entry file
  writes r spells may file either = elim either [
    | inl before ↦ inl (stands_so file before)
    | inr after ↦ inr (stands_more r spells may file after)
  ]
