-- A file that represents a history by records of the second version holds it.
use Rattle.std.proofs.Common.{◌≡◌, ℕ, List, [], ◌∷◌, ◌++◌, map, Option, Some, refl, sym, ap, subst, ◌⊎◌, inl, inr, None}
use Rattle.std.specs.List.{AllZip}
use Rattle.answer_journal.specs.Versions.{second, contents, Counted, counted, counted_from, after_mark}
use Rattle.bank_tables.specs.Tables.{Tables}
use Rattle.exam_headline.specs.Journals.{Spells, HoldsHistory}
use Rattle.exam_headline.proofs.Bytes.{holds, holds_first, read_first, version_is}
use Rattle.exam_office.specs.Files.{counted_of, payload_in, Stands, StandsSecond}
use Rattle.exam_records.specs.Spelling.{payload_of, old_payload_of, entry_bytes, old_entry_bytes, tree_bytes}
use Rattle.serving_model.specs.Seats.{first_band}
use Rattle.form_model.specs.Plan.{Plan}
use Rattle.headline_model.proofs.Told.{is_legal}
use Rattle.history_model.specs.declared.entry.Entry.{Entry}
use Rattle.history_model.specs.Judging.{Record, entries_of}
use Rattle.history_model.specs.Legality.{LegalRun}
use Rattle.history_model.proofs.JudgingLaws.{backed_is_legal_run}

spelling : (r : Record) → payload_of r ≡ entry_bytes r.entry ++ tree_bytes r.tree
unfolding payload_of
spelling r = refl

old_spelling : (first : ℕ) (r : Record) → old_payload_of first r ≡ old_entry_bytes first r.entry ++ tree_bytes r.tree
unfolding old_payload_of
old_spelling first r = refl

spell : (b : Tables) (plan : Plan) (R : List Record) → AllZip (Spells b plan 2) (entries_of R) (map (payload_in b plan 2) R)
spell b plan [] = tt
spell b plan (r ∷ R) = ((tree_bytes r.tree, spelling r), spell b plan R)

old_spell : (b : Tables) (plan : Plan) (R : List Record) → AllZip (Spells b plan 1) (entries_of R) (map (payload_in b plan 1) R)
old_spell b plan [] = tt
old_spell b plan (r ∷ R) = ((tree_bytes r.tree, old_spelling (first_band b plan) r), old_spell b plan R)

run_of : (b : Tables) (plan : Plan) (H : List Entry) (file : List ℕ) → Stands b plan H file → LegalRun b plan H
run_of b plan H file st = subst (λ (K : List Entry). LegalRun b plan K) st.are.entries (backed_is_legal_run b plan st.records st.are.backed)

pub legal_file : (b : Tables) (plan : Plan) (H : List Entry) (file : List ℕ) → StandsSecond b plan H file → LegalRun b plan H
legal_file b plan H file st = run_of b plan H file st.stands

second_holds : (b : Tables) (plan : Plan) (H : List Entry) (file : List ℕ) (st : Stands b plan H file) → st.version ≡ 2 → HoldsHistory b plan 2 H file
second_holds b plan H file st two = record {
  payloads = map (payload_in b plan 2) st.records;
  holds = holds file (map (payload_in b plan 2) st.records) (subst (λ (v : ℕ). contents file ≡ Some (counted_of b plan v st.records)) two st.holds);
  spell = subst (λ (K : List Entry). AllZip (Spells b plan 2) K (map (payload_in b plan 2) st.records)) st.are.entries (spell b plan st.records);
  legal = is_legal b plan H (run_of b plan H file st);
}

first_holds : (b : Tables) (plan : Plan) (H : List Entry) (file : List ℕ) (st : Stands b plan H file) → st.version ≡ 1 → HoldsHistory b plan 1 H file
first_holds b plan H file st one = record {
  payloads = map (payload_in b plan 1) st.records;
  holds = holds_first file (map (payload_in b plan 1) st.records) (subst (λ (v : ℕ). contents file ≡ Some (counted_of b plan v st.records)) one st.holds);
  spell = subst (λ (K : List Entry). AllZip (Spells b plan 1) K (map (payload_in b plan 1) st.records)) st.are.entries (old_spell b plan st.records);
  legal = is_legal b plan H (run_of b plan H file st);
}

pub holds_history : (b : Tables) (plan : Plan) (H : List Entry) (file : List ℕ) → StandsSecond b plan H file → HoldsHistory b plan 2 H file
holds_history b plan H file st = second_holds b plan H file st.stands st.second

-- ---- of either version
from_version : (all : List (List ℕ)) (o : Option (List (List ℕ))) → ((counted_from all o).version ≡ 1) ⊎ ((counted_from all o).version ≡ 2)
from_version all None = inl refl
from_version all (Some after) = inr refl

one_or_two : (file : List ℕ) (c : Counted) → contents file ≡ Some c → (c.version ≡ 1) ⊎ (c.version ≡ 2)
one_or_two file c e =
    let r = read_first file c e in
    elim (version_is file) [
      | inl one ↦ subst (λ (d : Counted). (d.version ≡ 1) ⊎ (d.version ≡ 2)) (subst (λ (v : ℕ). counted v r.0 ≡ c) one.0 r.2) (from_version r.0 (after_mark r.0))
      | inr two ↦ inr (sym (ap (λ (d : Counted). d.version) (subst (λ (v : ℕ). counted v r.0 ≡ c) two r.2)))
    ]

pub either_holds : (b : Tables) (plan : Plan) (H : List Entry) (file : List ℕ) → Stands b plan H file → (version : ℕ) × HoldsHistory b plan version H file
either_holds b plan H file st =
    elim (one_or_two file (counted_of b plan st.version st.records) st.holds) [ inl one ↦ (1, first_holds b plan H file st one) | inr two ↦ (2, second_holds b plan H file st two) ]
