-- What a call that writes does to the vectors that an office keeps.
use Rattle.std.proofs.Common.{◌≡◌, ℕ, List, [], ◌∷◌, ◌++◌, map, Option, Some, None, IsTrue, refl, sym, ◌∙◌, ap, subst}
use Rattle.std.specs.Option.{option_and_then}
use Rattle.std.proofs.lemmas.List.{map-append}
use Rattle.bank_tables.specs.Tables.{Tables}
use Rattle.form_model.specs.Plan.{Plan}
use Rattle.certificate_model.specs.Relaxed.{Multipliers}
use Rattle.history_model.specs.declared.entry.Entry.{Entry}
use Rattle.history_model.specs.Judging.{MayFollow, Record}
use Rattle.answer_journal.specs.Journal.{JournalState, length_of, tells_of, payloads_of, accounts_of, IsDoubtful}
use Rattle.answer_journal.specs.Journal.{IsInDoubtAfter as OfJournal}
use Rattle.exam_records.specs.Shape.{IsRecord}
use Rattle.exam_records.specs.Spelling.{payload_of}
use Rattle.exam_office.specs.declared.vectors.NewVector.{NewVector}
use Rattle.exam_office.specs.Warm.{IsInDoubtAfter, Holds}
use Rattle.exam_office.specs.KeptVectors.{vector_at, AreVectorsOf, new_vector, HasRoom, AreVectorsWith, AreKeptVectors}
use Rattle.exam_office.proofs.Records.{are_more}

module _ {D : Type 0} (b : Tables) (plan : Plan) (H : List Entry) (j : JournalState D) where
  no_last : (R : List Record) (last : Option Record) → Holds b plan H j R None last → last ≡ None
  no_last R None held = refl
  no_last R (Some r) held = absurd held

  held_surely : (R : List Record) (last : Option Record) → Holds b plan H j R None last → IsTrue (tells_of j) → payloads_of j ≡ map payload_of R
  held_surely R None held = held
  held_surely R (Some r) held = absurd held

  has_last : (R : List Record) (entry : Entry) (last : Option Record) → Holds b plan H j R (Some entry) last → (r : Record) × (last ≡ Some r) × IsInDoubtAfter b plan H j R entry r
  has_last R entry None held = absurd held
  has_last R entry (Some r) held = (r, refl, held)

  doubtful_so : (R : List Record) (j1 : JournalState D) (payload : List ℕ) → (IsTrue (tells_of j) → payloads_of j ≡ map payload_of R) → tells_of j1 ≡ tells_of j
      → IsDoubtful (payloads_of j) payload j1 → IsDoubtful (map payload_of R) payload j1
  doubtful_so R j1 payload holds tells d = record {
    with_it = d.with_it;
    doubt = d.doubt;
    with_is = d.with_is;
    is = λ told1. subst (λ (ps : List (List ℕ)). OfJournal j1.version j1.start ps payload (accounts_of j1) (length_of j1) d.with_it) (holds (sym tells ∙ told1)) (d.is told1);
  }

  module _ (each each0 : List (Option Multipliers)) (new new0 : Option NewVector) (same : (s : ℕ) → vector_at each0 s ≡ vector_at each s) (same_new : new0 ≡ new) where
    -- ---- nothing is in doubt
    module _ (kept : AreKeptVectors b plan H j None each new) where
      none_new : new0 ≡ None
      none_new = same_new ∙ (kept.new_is ∙ ap (option_and_then (new_vector b plan)) (no_last kept.records kept.last kept.holds))

      holds_surely : IsTrue (tells_of j) → payloads_of j ≡ map payload_of kept.records
      holds_surely = held_surely kept.records kept.last kept.holds

      each_is : AreVectorsOf b plan kept.records each0
      each_is s = same s ∙ kept.each_is s

      -- room was taken
      pub with_room : AreKeptVectors b plan H j None each0 new0
      with_room = record {
        records = kept.records;
        are = kept.are;
        last = None;
        holds = holds_surely;
        each_is = each_is;
        new_is = none_new;
        room = subst (HasRoom each0) (sym none_new) tt;
      }

      module _ (j1 : JournalState D) (r : Record) (spells : IsRecord r) (may : MayFollow b plan H r.entry r.tree) (tells : tells_of j1 ≡ tells_of j) (fresh : Option NewVector) (fresh_is : fresh ≡ new_vector b plan r) where
        -- the record was written
        pub vectors_written : (IsTrue (tells_of j) → payloads_of j1 ≡ payloads_of j ++ payload_of r ∷ []) → (each1 : List (Option Multipliers)) (new1 : Option NewVector) → AreVectorsWith each0 fresh each1 → new1 ≡ new0
            → AreKeptVectors b plan (H ++ r.entry ∷ []) j1 None each1 new1
        vectors_written added each1 new1 kept1 same1 = record {
          records = kept.records ++ r ∷ [];
          are = are_more b plan H kept.records kept.are r spells may;
          last = None;
          holds = λ told1.
              let told = sym tells ∙ told1 in
              added told ∙ (ap (λ (ps : List (List ℕ)). ps ++ payload_of r ∷ []) (holds_surely told) ∙ sym (map-append payload_of kept.records (r ∷ [])));
          each_is = kept1 b plan r fresh_is kept.records each_is;
          new_is = same1 ∙ none_new;
          room = subst (HasRoom each1) (sym (same1 ∙ none_new)) tt;
        }

        -- the disk failed meanwhile
        pub vectors_faulted : IsDoubtful (payloads_of j) (payload_of r) j1 → HasRoom each0 fresh → (each1 : List (Option Multipliers)) (new1 : Option NewVector) → each1 ≡ each0 → new1 ≡ fresh
            → AreKeptVectors b plan H j1 (Some r.entry) each1 new1
        vectors_faulted doubtful room each1 new1 each_same new_same =
            subst (λ (vs : List (Option Multipliers)). AreKeptVectors b plan H j1 (Some r.entry) vs new1) (sym each_same)
            (subst (λ (n : Option NewVector). AreKeptVectors b plan H j1 (Some r.entry) each0 n) (sym new_same) (record {
              records = kept.records;
              are = kept.are;
              last = Some r;
              holds = record { is_entry = refl; spells = spells; may = may; doubtful = doubtful_so kept.records j1 (payload_of r) holds_surely tells doubtful };
              each_is = each_is;
              new_is = fresh_is;
              room = room;
            }))

  -- ---- an entry is in doubt
  module _ (each : List (Option Multipliers)) (new : Option NewVector) (entry : Entry) (kept : AreKeptVectors b plan H j (Some entry) each new) where
    found : (r : Record) × (kept.last ≡ Some r) × IsInDoubtAfter b plan H j kept.records entry r
    found = has_last kept.records entry kept.last kept.holds

    new_found : new ≡ new_vector b plan found.0
    new_found = kept.new_is ∙ ap (option_and_then (new_vector b plan)) found.1

    module _ (j1 : JournalState D) (tells : tells_of j1 ≡ tells_of j) (each1 : List (Option Multipliers)) (new1 : Option NewVector) where
      -- its record was kept
      pub vectors_adopted : (IsTrue (tells_of j) → (ps : List (List ℕ)) (payload : List ℕ) → IsDoubtful ps payload j → payloads_of j1 ≡ ps ++ payload ∷ [])
          → AreVectorsWith each new each1 → new1 ≡ None → AreKeptVectors b plan (H ++ entry ∷ []) j1 None each1 new1
      vectors_adopted mended kept1 none =
          let r : Record = found.0 in
          let d : IsInDoubtAfter b plan H j kept.records entry r = found.2 in
          subst (λ (e : Entry). AreKeptVectors b plan (H ++ e ∷ []) j1 None each1 new1) d.is_entry (record {
            records = kept.records ++ r ∷ [];
            are = are_more b plan H kept.records kept.are r d.spells d.may;
            last = None;
            holds = λ told1. mended (sym tells ∙ told1) (map payload_of kept.records) (payload_of r) d.doubtful ∙ sym (map-append payload_of kept.records (r ∷ []));
            each_is = kept1 b plan r new_found kept.records kept.each_is;
            new_is = none;
            room = subst (HasRoom each1) (sym none) tt;
          })

      -- it was dropped
      pub vectors_dropped : (IsTrue (tells_of j) → (ps : List (List ℕ)) (payload : List ℕ) → IsDoubtful ps payload j → payloads_of j1 ≡ ps)
          → each1 ≡ each → new1 ≡ None → AreKeptVectors b plan H j1 None each1 new1
      vectors_dropped mended same none =
          let r : Record = found.0 in
          let d : IsInDoubtAfter b plan H j kept.records entry r = found.2 in
          record {
            records = kept.records;
            are = kept.are;
            last = None;
            holds = λ told1. mended (sym tells ∙ told1) (map payload_of kept.records) (payload_of r) d.doubtful;
            each_is = λ s. ap (λ (vs : List (Option Multipliers)). vector_at vs s) same ∙ kept.each_is s;
            new_is = none;
            room = subst (HasRoom each1) (sym none) tt;
          }

    -- the disk failed once more
    pub vectors_unmended : (j1 : JournalState D) → ((ps : List (List ℕ)) (payload : List ℕ) → IsDoubtful ps payload j → IsDoubtful ps payload j1) → AreKeptVectors b plan H j1 (Some entry) each new
    vectors_unmended j1 still =
        let r : Record = found.0 in
        let d : IsInDoubtAfter b plan H j kept.records entry r = found.2 in
        record {
          records = kept.records;
          are = kept.are;
          last = Some r;
          holds = record { is_entry = d.is_entry; spells = d.spells; may = d.may; doubtful = still (map payload_of kept.records) (payload_of r) d.doubtful };
          each_is = kept.each_is;
          new_is = new_found;
          room = kept.room;
        }
