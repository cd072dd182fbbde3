-- The first bytes of a record of the second version, cut off anywhere before its end.
use Rattle.std.proofs.Common.{◌≡◌, ℕ, zero, suc, ◌+◌, ◌*◌, ◌^◌, ◌<◌, ◌≤◌, inl, inr, true, false, ltb, List, [], ◌∷◌, ◌++◌, length, take, get_or, Option, Some, None, Result, Ok, refl, sym, ap, subst, ◌∙◌, arith, add-one}
use Rattle.std.specs.Int.{w16, w32, w64, to_be_bytes}
use Rattle.std.proofs.lemmas.Bool.{le-ltb}
use Rattle.std.proofs.lemmas.List.{append-nil, take_more}
use Rattle.std.proofs.Math.Seq.{drop-length}
use Rattle.bank_tables.specs.Items.{has}
use Rattle.bank_tables.specs.Sums.{any_below}
use Rattle.exam_text.specs.First.{◌>>=◌, each_below}
use Rattle.certificate_model.specs.ProofTrees.{ProofTree}
use Rattle.history_model.specs.declared.entry.Bands.{Bands}
use Rattle.history_model.specs.declared.entry.Cause.{Cause}
use Rattle.history_model.specs.declared.entry.Entry.{Entry}
use Rattle.history_model.specs.declared.entry.Without.{Without}
use Rattle.history_model.specs.declared.entry.Entry.TheVariants.{Started, SetAside, Served, Answered, Closed}
use Rattle.proof_tree.specs.Shape.{IsTree}
use Rattle.proof_tree.specs.Spelling.{bytes_of}
use Rattle.proof_tree.specs.Reading.{number_at, byte_at}
use Rattle.proof_tree.proofs.Fields.{Stands, stand_first, stand_second, wide16, wide32}
use Rattle.exam_records.specs.declared.fault.RecordFault.{RecordFault}
use Rattle.history_model.specs.Judging.{Record}
use Rattle.exam_records.specs.Shape.{GoesWith, HasBands, IsInRange, AreEligible, AreSets, AreListSets, IsTreeOrNone, IsRecord}
use Rattle.exam_records.specs.Spelling.{cause_byte, answered_bytes, closed_bytes, tree_bytes, sets_bytes, list_bytes, entry_bytes, payload_of}
use Rattle.exam_records.specs.Reading.{field, set_at, flag_at, count_at, band_at, bands_of, bands_at, list_at, tree_at, started, started_with_list, set_aside, record_by, record_of_kind, record_of}
use Rattle.exam_records.specs.Cuts.{IsCutOff}
use Rattle.exam_records.proofs.FieldLaws.{wide64}
use Rattle.exam_records.proofs.BandFields.{sets_len, set_stands, count_fits, bands_again}
use Rattle.exam_records.proofs.AgainLaws.{alone}
use Rattle.exam_records.proofs.CutLaws.{ReadsOrShort, and_then, and_stays, no_tree, cut_number, cut_byte, cut_set, cut_tree, cause_cut, from_kind, cut_served, cut_answered, cut_closed}
use Rattle.exam_records.proofs.ListFields.{some_bit, list_len, cut_list}
use Rattle.exam_records.proofs.SecondLaws.{kind_3, kind_4, kind_5}

-- a field, and what follows it up to a later place
then_reads : {A B : Type 0} (k mid next : ℕ) (r : Result A RecordFault) (x : A) (f : A → Result B RecordFault) (y : B) → mid ≤ next → ReadsOrShort k mid r x → ReadsOrShort k next (f x) y → ReadsOrShort k next (r >>= f) y
then_reads k mid next r x f y le (inl h) g = rw h.1 g
then_reads k mid next r x f y le (inr h) g = inr (omega (arith, h.0), rw h.1 refl)

-- and what is made of it
reads_as : {A B : Type 0} (k next : ℕ) (r : Result A RecordFault) (x : A) (f : A → Result B RecordFault) (y : B) → ReadsOrShort k next r x → f x ≡ Ok y → ReadsOrShort k next (r >>= f) y
reads_as k next r x f y (inl h) e = rw h.1 (inl (h.0, e))
reads_as k next r x f y (inr h) e = inr (h.0, rw h.1 refl)

cut_count : (bytes : List ℕ) (k at count next : ℕ) → k ≤ length bytes → 0 < count → count ≤ 8 → Stands bytes at (count ∷ []) next → ReadsOrShort k next (count_at (take k bytes) at) count
unfolding count_at
cut_count bytes k at count next kb some few p = reads_as k next (field (byte_at (take k bytes) at)) count _ count (cut_byte bytes k at count next kb p) (rw (count_fits count some few) refl)

cut_band : (bytes : List ℕ) (k at band next : ℕ) → k ≤ length bytes → band < 8 → Stands bytes at (band ∷ []) next → ReadsOrShort k next (band_at (take k bytes) at) band
unfolding band_at
cut_band bytes k at band next kb low p =
    let few : ltb 7 band ≡ false = le-ltb 7 band (omega arith) in
    reads_as k next (field (byte_at (take k bytes) at)) band _ band (cut_byte bytes k at band next kb p) (rw few refl)

cut_sets : (n : ℕ) (eligible : Bands) (bytes : List ℕ) (k at next : ℕ) → k ≤ length bytes → n ≤ eligible.count → eligible.count ≤ 8 → AreSets eligible → at ≤ k → Stands bytes at (sets_bytes eligible.count eligible.sets) next → ReadsOrShort k (at + 64 * n) (each_below n (λ band. set_at (take k bytes) (at + 64 * band))) (take n eligible.sets)
cut_sets zero eligible bytes k at next kb le few sets there p = inl (omega (arith, there), refl)
cut_sets (suc n) eligible bytes k at next kb le few sets there p =
    let before = cut_sets n eligible bytes k at next kb (omega (arith, le)) few sets there p in
    let end : at + 64 * n + 64 ≡ at + 64 * suc n = omega arith in
    let here = cut_set bytes k (at + 64 * n) (get_or eligible.sets n []) (at + 64 * n + 64) kb (sets.each n (omega (arith, le, few))) (set_stands eligible.count n eligible.sets bytes at next le p) in
    let more : take n eligible.sets ++ get_or eligible.sets n [] ∷ [] ≡ take (suc n) eligible.sets = sym (take_more eligible.sets n [] (omega (arith, le, few, sets.eight))) ∙ ap (λ (m : ℕ). take m eligible.sets) (add-one n) in
    subst (λ (m : ℕ). ReadsOrShort k m (each_below (suc n) (λ band. set_at (take k bytes) (at + 64 * band))) (take (suc n) eligible.sets)) end
    (then_reads k (at + 64 * n) (at + 64 * n + 64) (each_below n (λ band. set_at (take k bytes) (at + 64 * band))) (take n eligible.sets) _ (take (suc n) eligible.sets) (omega arith) before
    (reads_as k (at + 64 * n + 64) (set_at (take k bytes) (at + 64 * n)) (get_or eligible.sets n []) _ (take (suc n) eligible.sets) here (ap (λ (t : List (List ℕ)). Ok t) more)))

cut_bands : (eligible : Bands) (bytes : List ℕ) (k at next : ℕ) → k ≤ length bytes → AreEligible eligible → AreSets eligible → Stands bytes at (eligible.count ∷ sets_bytes eligible.count eligible.sets) next → ReadsOrShort k next (bands_at (take k bytes) at) eligible
unfolding bands_at
cut_bands eligible bytes k at next kb are sets p =
    let n : ℕ = eligible.count in
    let first : Stands bytes at (n ∷ []) (at + 1) = stand_first bytes at (n ∷ []) (sets_bytes n eligible.sets) next p in
    let behind : Stands bytes (at + 1) (sets_bytes n eligible.sets) next = stand_second bytes at (n ∷ []) (sets_bytes n eligible.sets) next p in
    let end : at + 1 + 64 * n ≡ next = omega (arith, behind.ends, sets_len n eligible.sets) in
    elim (cut_count bytes k at n (at + 1) kb are.some are.few first) [
      | inl h ↦
          let each = cut_sets n eligible bytes k (at + 1) next kb (omega arith) are.few sets h.0 behind in
          rw h.1 (subst (λ (m : ℕ). ReadsOrShort k m (each_below n (λ band. set_at (take k bytes) (at + 1 + 64 * band)) >>= λ found. Ok (bands_of n found)) eligible) end
          (reads_as k (at + 1 + 64 * n) (each_below n (λ band. set_at (take k bytes) (at + 1 + 64 * band))) (take n eligible.sets) (λ found. Ok (bands_of n found)) eligible each (ap (λ (b : Bands). Ok b) (bands_again eligible are sets))))
      | inr h ↦ inr (omega (arith, h.0, end), rw h.1 refl)
    ]

-- ---- each kind

cut_started : (session booking : ℕ) (eligible : Bands) (bytes : List ℕ) (k : ℕ) → k < length bytes → session < 2 ^ 32 → booking < 2 ^ 64 → AreEligible eligible → AreSets eligible → Stands bytes 0 (entry_bytes (Started session booking eligible None)) (length bytes) → IsCutOff (length (entry_bytes (Started session booking eligible None))) k (record_by record_of_kind (take k bytes))
unfolding entry_bytes record_of_kind started
cut_started session booking eligible bytes k lt few low are sets p =
    let S : List ℕ = to_be_bytes w32 session in
    let B : List ℕ = to_be_bytes w64 booking in
    let E : List ℕ = eligible.count ∷ sets_bytes eligible.count eligible.sets in
    let end : ℕ = length bytes in
    let kb : k ≤ end = omega (arith, lt) in
    let fields : Stands bytes 1 (S ++ (B ++ E)) end = stand_second bytes 0 (6 ∷ []) (S ++ (B ++ E)) end p in
    let later : Stands bytes 5 (B ++ E) end = stand_second bytes 1 S (B ++ E) end fields in
    let last : Stands bytes 13 E end = stand_second bytes 5 B E end later in
    let long : 14 ≤ end = omega (arith, last.ends) in
    let whole : end ≡ length (6 ∷ (S ++ (B ++ E))) = omega (arith, p.ends) in
    let cut : IsCutOff end k (record_by record_of_kind (take k bytes)) = from_kind record_of_kind bytes k 6 end kb (omega (arith, long)) (stand_first bytes 0 (6 ∷ []) (S ++ (B ++ E)) end p) (λ _.
    and_then end k 5 (field (number_at w32 (take k bytes) 1)) session _ (omega (arith, long)) (cut_number w32 (2 ^ 32) wide32 bytes k 1 session 5 kb few (stand_first bytes 1 S (B ++ E) end fields)) (λ _.
    and_then end k 13 (field (number_at w64 (take k bytes) 5)) booking _ (omega (arith, long)) (cut_number w64 (2 ^ 64) wide64 bytes k 5 booking 13 kb low (stand_first bytes 5 B E end later)) (λ _.
    and_then end k end (bands_at (take k bytes) 13) eligible _ (omega arith) (cut_bands eligible bytes k 13 end kb are sets last) (λ le. no_tree end k _ lt le)))) in
    subst (λ (n : ℕ). IsCutOff n k (record_by record_of_kind (take k bytes))) whole cut

cut_started_with_list : (session booking : ℕ) (eligible : Bands) (list : Without) (bytes : List ℕ) (k : ℕ) → k < length bytes → session < 2 ^ 32 → booking < 2 ^ 64 → AreEligible eligible → AreSets eligible → any_below 512 (has list.items) ≡ true → AreListSets (Some list)
    → Stands bytes 0 (entry_bytes (Started session booking eligible (Some list))) (length bytes) → IsCutOff (length (entry_bytes (Started session booking eligible (Some list)))) k (record_by record_of_kind (take k bytes))
unfolding entry_bytes record_of_kind started_with_list
cut_started_with_list session booking eligible list bytes k lt few low are sets some words p =
    let S : List ℕ = to_be_bytes w32 session in
    let B : List ℕ = to_be_bytes w64 booking in
    let E : List ℕ = eligible.count ∷ sets_bytes eligible.count eligible.sets in
    let L : List ℕ = list_bytes list in
    let end : ℕ = length bytes in
    let at : ℕ = 14 + 64 * eligible.count in
    let kb : k ≤ end = omega (arith, lt) in
    let fields : Stands bytes 1 (S ++ (B ++ (E ++ L))) end = stand_second bytes 0 (9 ∷ []) (S ++ (B ++ (E ++ L))) end p in
    let later : Stands bytes 5 (B ++ (E ++ L)) end = stand_second bytes 1 S (B ++ (E ++ L)) end fields in
    let from_bands : Stands bytes 13 (E ++ L) end = stand_second bytes 5 B (E ++ L) end later in
    let there : 13 + length E ≡ at = omega (arith, sets_len eligible.count eligible.sets) in
    let bands : Stands bytes 13 E at = subst (λ (n : ℕ). Stands bytes 13 E n) there (stand_first bytes 13 E L end from_bands) in
    let last : Stands bytes at L end = subst (λ (n : ℕ). Stands bytes n L end) there (stand_second bytes 13 E L end from_bands) in
    let long : at + 128 ≡ end = omega (arith, last.ends, list_len list) in
    let whole : end ≡ length (9 ∷ (S ++ (B ++ (E ++ L)))) = omega (arith, p.ends) in
    let cut : IsCutOff end k (record_by record_of_kind (take k bytes)) = from_kind record_of_kind bytes k 9 end kb (omega (arith, long)) (stand_first bytes 0 (9 ∷ []) (S ++ (B ++ (E ++ L))) end p) (λ _.
    and_then end k 5 (field (number_at w32 (take k bytes) 1)) session _ (omega (arith, long)) (cut_number w32 (2 ^ 32) wide32 bytes k 1 session 5 kb few (stand_first bytes 1 S (B ++ (E ++ L)) end fields)) (λ _.
    and_then end k 13 (field (number_at w64 (take k bytes) 5)) booking _ (omega (arith, long)) (cut_number w64 (2 ^ 64) wide64 bytes k 5 booking 13 kb low (stand_first bytes 5 B (E ++ L) end later)) (λ _.
    and_then end k at (bands_at (take k bytes) 13) eligible _ (omega (arith, long)) (cut_bands eligible bytes k 13 at kb are sets bands) (λ _.
    and_then end k end (list_at (take k bytes) at) list _ (omega arith) (cut_list list bytes k at end kb words.0 words.1 some last) (λ le. no_tree end k _ lt le))))) in
    subst (λ (n : ℕ). IsCutOff n k (record_by record_of_kind (take k bytes))) whole cut

cut_set_aside : (session step band : ℕ) (cause : Cause) (nodes : ℕ) (T : ProofTree) (bytes : List ℕ) (k : ℕ) → k < length bytes → (session < 2 ^ 32) × (step < 2 ^ 16) → band < 8 → nodes ≡ length T.nodes → IsTree T → Stands bytes 0 (entry_bytes (SetAside session step band cause nodes) ++ bytes_of T) (length bytes) → IsCutOff (length (entry_bytes (SetAside session step band cause nodes))) k (record_by record_of_kind (take k bytes))
unfolding entry_bytes record_of_kind set_aside
cut_set_aside session step band cause nodes T bytes k lt fits low number is p =
    let S : List ℕ = to_be_bytes w32 session in
    let P : List ℕ = to_be_bytes w16 step in
    let B : List ℕ = band ∷ [] in
    let C : List ℕ = cause_byte cause ∷ [] in
    let N : List ℕ = to_be_bytes w16 nodes in
    let kb : k ≤ length bytes = omega (arith, lt) in
    let few : nodes < 2 ^ 16 = omega (arith, number, is.shape.few_nodes) in
    let entry : Stands bytes 0 (7 ∷ (S ++ (P ++ (B ++ (C ++ N))))) 11 = stand_first bytes 0 (7 ∷ (S ++ (P ++ (B ++ (C ++ N))))) (bytes_of T) (length bytes) p in
    let tree : Stands bytes 11 (bytes_of T) (length bytes) = stand_second bytes 0 (7 ∷ (S ++ (P ++ (B ++ (C ++ N))))) (bytes_of T) (length bytes) p in
    let fields : Stands bytes 1 (S ++ (P ++ (B ++ (C ++ N)))) 11 = stand_second bytes 0 (7 ∷ []) (S ++ (P ++ (B ++ (C ++ N)))) 11 entry in
    let from_step : Stands bytes 5 (P ++ (B ++ (C ++ N))) 11 = stand_second bytes 1 S (P ++ (B ++ (C ++ N))) 11 fields in
    let from_band : Stands bytes 7 (B ++ (C ++ N)) 11 = stand_second bytes 5 P (B ++ (C ++ N)) 11 from_step in
    let from_cause : Stands bytes 8 (C ++ N) 11 = stand_second bytes 7 B (C ++ N) 11 from_band in
    let last : Stands bytes 9 N 11 = stand_second bytes 8 C N 11 from_cause in
    let flag = cause_cut cause bytes k 8 9 kb (stand_first bytes 8 C N 11 from_cause) in
    from_kind record_of_kind bytes k 7 11 kb (omega arith) (stand_first bytes 0 (7 ∷ []) (S ++ (P ++ (B ++ (C ++ N)))) 11 entry) (λ _.
    and_then 11 k 5 (field (number_at w32 (take k bytes) 1)) session _ (omega arith) (cut_number w32 (2 ^ 32) wide32 bytes k 1 session 5 kb fits.0 (stand_first bytes 1 S (P ++ (B ++ (C ++ N))) 11 fields)) (λ _.
    and_then 11 k 7 (field (number_at w16 (take k bytes) 5)) step _ (omega arith) (cut_number w16 (2 ^ 16) wide16 bytes k 5 step 7 kb fits.1 (stand_first bytes 5 P (B ++ (C ++ N)) 11 from_step)) (λ _.
    and_then 11 k 8 (band_at (take k bytes) 7) band _ (omega arith) (cut_band bytes k 7 band 8 kb low (stand_first bytes 7 B (C ++ N) 11 from_band)) (λ _.
    and_then 11 k 9 (flag_at (take k bytes) 8) flag.0 _ (omega arith) flag.1 (λ _.
    and_then 11 k 11 (field (number_at w16 (take k bytes) 9)) nodes _ (omega arith) (cut_number w16 (2 ^ 16) wide16 bytes k 9 nodes 11 kb few last) (λ le.
    and_stays 11 k (tree_at nodes (take k bytes) 11) _ (cut_tree nodes bytes k 11 T is lt le tree)))))))

cut_entry : (entry : Entry) (tree : Option ProofTree) (bytes : List ℕ) (k : ℕ) → GoesWith entry tree → HasBands entry → IsInRange entry → IsTreeOrNone tree → k < length bytes → Stands bytes 0 (entry_bytes entry ++ tree_bytes tree) (length bytes) → IsCutOff (length (entry_bytes entry)) k (record_by record_of_kind (take k bytes))
unfolding entry_bytes
cut_entry (Started session booking eligible None) None bytes k goes bands fits is lt p = cut_started session booking eligible bytes k lt fits.0 fits.1 bands.0 fits.2 (alone bytes (entry_bytes (Started session booking eligible None)) (length bytes) p)
cut_entry (Started session booking eligible (Some list)) None bytes k goes bands fits is lt p = cut_started_with_list session booking eligible list bytes k lt fits.0 fits.1 bands.0 fits.2 (some_bit list.items fits.3.0 bands.1) fits.3 (alone bytes (entry_bytes (Started session booking eligible (Some list))) (length bytes) p)
cut_entry (Started session booking eligible without) (Some T) bytes k goes bands fits is lt p = absurd goes
cut_entry (SetAside session step band cause nodes) None bytes k goes bands fits is lt p = absurd goes
cut_entry (SetAside session step band cause nodes) (Some T) bytes k goes bands fits is lt p = cut_set_aside session step band cause nodes T bytes k lt fits bands goes is p
cut_entry (Served session step item form proved nodes) None bytes k goes bands fits is lt p = absurd goes
cut_entry (Served session step item form proved nodes) (Some T) bytes k goes bands fits is lt p = cut_served record_of_kind kind_3 session step item form proved nodes T bytes k lt fits goes is p
cut_entry (Answered session step response) None bytes k goes bands fits is lt p = cut_answered record_of_kind kind_4 session step response bytes k lt fits (alone bytes (answered_bytes session step response) (length bytes) p)
cut_entry (Answered session step response) (Some T) bytes k goes bands fits is lt p = absurd goes
cut_entry (Closed session) None bytes k goes bands fits is lt p = cut_closed record_of_kind kind_5 session bytes k lt fits (alone bytes (closed_bytes session) (length bytes) p)
cut_entry (Closed session) (Some T) bytes k goes bands fits is lt p = absurd goes

pub cut_off_is_told : (r : Record) (k : ℕ) → IsRecord r → k < length (payload_of r) → IsCutOff (length (entry_bytes r.entry)) k (record_of (take k (payload_of r)))
unfolding payload_of record_of
cut_off_is_told r k is lt =
    let payload : List ℕ = entry_bytes r.entry ++ tree_bytes r.tree in
    let p : Stands payload 0 payload (length payload) = record { parts = sym (ap (λ (t : List ℕ). payload ++ t) (drop-length payload) ∙ append-nil payload); ends = omega arith } in
    cut_entry r.entry r.tree payload k is.goes_with is.bands is.fits is.tree lt p
