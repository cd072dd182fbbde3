-- Records of the second version of the journal: what is read was written, and what was written is
-- read again.
use Rattle.std.proofs.Common.{◌≡◌, ℕ, ◌+◌, ◌*◌, ◌^◌, ◌<◌, ◌≤◌, ◌==◌, inl, inr, true, false, List, [], ◌∷◌, ◌++◌, length, Option, Some, None, Result, Ok, Err, refl, sym, ap, subst, ◌∙◌, arith, length-append}
use Rattle.std.specs.Prelude.{IfOk}
use Rattle.std.specs.Int.{w16, w32, w64, to_be_bytes}
use Rattle.std.proofs.lemmas.Bool.{ne_eqb}
use Rattle.bank_tables.specs.Items.{has}
use Rattle.bank_tables.specs.Sums.{any_below}
use Rattle.exam_text.specs.First.{◌>>=◌, Gives}
use Rattle.exam_text.proofs.Firsts.{bind_ok, ok_is}
use Rattle.certificate_model.specs.ProofTrees.{ProofTree}
use Rattle.history_model.specs.declared.entry.Bands.{Bands}
use Rattle.history_model.specs.declared.entry.Cause.{Cause}
use Rattle.history_model.specs.declared.entry.Entry.{Entry}
use Rattle.history_model.specs.declared.entry.Without.{Without}
use Rattle.history_model.specs.declared.entry.Entry.TheVariants.{Started, SetAside, Served, Answered, Closed}
use Rattle.proof_tree.specs.Shape.{IsTree}
use Rattle.proof_tree.specs.Spelling.{bytes_of}
use Rattle.proof_tree.specs.Reading.{number_at}
use Rattle.proof_tree.proofs.Fields.{IsBytes, Stands, stand_both, stand_first, stand_second, wide16, wide32}
use Rattle.proof_tree.proofs.NodeLaws.{chosen}
use Rattle.proof_tree.proofs.TreeLaws.{few_bytes}
use Rattle.exam_records.specs.declared.fault.RecordFault.{RecordFault}
use Rattle.exam_records.specs.declared.fault.RecordFault.TheVariants.{Extra, Memory}
use Rattle.history_model.specs.Judging.{Record}
use Rattle.exam_records.specs.Shape.{GoesWith, HasBands, IsInRange, AreEligible, AreSets, AreListSets, IsTreeOrNone, IsRecord}
use Rattle.exam_records.specs.Sets.{set_bytes}
use Rattle.exam_records.specs.Spelling.{cause_byte, mark_byte, answered_bytes, closed_bytes, tree_bytes, sets_bytes, list_bytes, entry_bytes, payload_of}
use Rattle.exam_records.specs.Reading.{field, flag_at, band_at, bands_at, list_at, cause_of, tree_at, served, answered, closed, shared_of_kind, started, started_with_list, set_aside, record_of_kind, record_of}
use Rattle.exam_records.proofs.SetLaws.{numbers_len}
use Rattle.exam_records.proofs.FieldLaws.{wide64, number_found, number_read, flag_found, tree_found, tree_read}
use Rattle.exam_records.proofs.BandFields.{sets_len, band_found, band_read, bands_found, bands_read}
use Rattle.exam_records.proofs.ListFields.{some_item, some_bit, list_len, list_found, list_read}
use Rattle.exam_records.proofs.RecordLaws.{IsFound, entry_alone, as_kind, cause_again, shared_found}
use Rattle.exam_records.proofs.AgainLaws.{ReadsTo, kind_read, alone, cause_read, served_again, answered_again, closed_again, found_whole, read_again, extra_after}

-- ---- what is read was written

abbrev IsNewFound : List ℕ → Record × ℕ → Type 0
IsNewFound bytes x = IsFound IsRecord entry_bytes bytes x

started_found : (bytes : List ℕ) (x : Record × ℕ) → IsBytes bytes → Stands bytes 0 (6 ∷ []) 1 → started bytes ≡ Ok x → IsNewFound bytes x
unfolding started entry_bytes
started_found bytes x fits kind e =
    let a = bind_ok (field (number_at w32 bytes 1)) (λ session. field (number_at w64 bytes 5) >>= λ booking. bands_at bytes 13 >>= λ eligible. Ok (record { entry = Started session booking eligible None; tree = None }, 14 + 64 * eligible.count)) x e in
    let b = bind_ok (field (number_at w64 bytes 5)) (λ booking. bands_at bytes 13 >>= λ eligible. Ok (record { entry = Started a.0 booking eligible None; tree = None }, 14 + 64 * eligible.count)) x a.2 in
    let s = bind_ok (bands_at bytes 13) (λ eligible. Ok (record { entry = Started a.0 b.0 eligible None; tree = None }, 14 + 64 * eligible.count)) x b.2 in
    let session = number_found w32 (2 ^ 32) wide32 bytes 1 a.0 fits a.1 in
    let booking = number_found w64 (2 ^ 64) wide64 bytes 5 b.0 fits b.1 in
    let eligible = bands_found bytes 13 s.0 fits s.1 in
    let next : ℕ = 14 + 64 * s.0.count in
    let bands : List ℕ = s.0.count ∷ sets_bytes s.0.count s.0.sets in
    let last = stand_both bytes 5 (to_be_bytes w64 b.0) 13 bands next booking.0 eligible.stands in
    let fields = stand_both bytes 1 (to_be_bytes w32 a.0) 5 (to_be_bytes w64 b.0 ++ bands) next session.0 last in
    let whole : Stands bytes 0 (entry_bytes (Started a.0 b.0 s.0 None)) next = stand_both bytes 0 (6 ∷ []) 1 (to_be_bytes w32 a.0 ++ (to_be_bytes w64 b.0 ++ bands)) next kind fields in
    let made : Record × ℕ = (record { entry = Started a.0 b.0 s.0 None; tree = None }, next) in
    let found : IsNewFound bytes made = record {
      is = record { goes_with = tt; bands = (eligible.are, tt); fits = (session.1, booking.1, eligible.sets, tt); tree = tt };
      stands = entry_alone bytes (entry_bytes (Started a.0 b.0 s.0 None)) next whole;
    } in
    subst (IsNewFound bytes) {x = made} (ok_is {F = RecordFault} made x s.2) found

started_with_list_found : (bytes : List ℕ) (x : Record × ℕ) → IsBytes bytes → Stands bytes 0 (9 ∷ []) 1 → started_with_list bytes ≡ Ok x → IsNewFound bytes x
unfolding started_with_list entry_bytes
started_with_list_found bytes x fits kind e =
    let a = bind_ok (field (number_at w32 bytes 1)) (λ session. field (number_at w64 bytes 5) >>= λ booking. bands_at bytes 13 >>= λ eligible. list_at bytes (14 + 64 * eligible.count) >>= λ list. Ok (record { entry = Started session booking eligible (Some list); tree = None }, 14 + 64 * eligible.count + 128)) x e in
    let b = bind_ok (field (number_at w64 bytes 5)) (λ booking. bands_at bytes 13 >>= λ eligible. list_at bytes (14 + 64 * eligible.count) >>= λ list. Ok (record { entry = Started a.0 booking eligible (Some list); tree = None }, 14 + 64 * eligible.count + 128)) x a.2 in
    let s = bind_ok (bands_at bytes 13) (λ eligible. list_at bytes (14 + 64 * eligible.count) >>= λ list. Ok (record { entry = Started a.0 b.0 eligible (Some list); tree = None }, 14 + 64 * eligible.count + 128)) x b.2 in
    let l = bind_ok (list_at bytes (14 + 64 * s.0.count)) (λ list. Ok (record { entry = Started a.0 b.0 s.0 (Some list); tree = None }, 14 + 64 * s.0.count + 128)) x s.2 in
    let session = number_found w32 (2 ^ 32) wide32 bytes 1 a.0 fits a.1 in
    let booking = number_found w64 (2 ^ 64) wide64 bytes 5 b.0 fits b.1 in
    let eligible = bands_found bytes 13 s.0 fits s.1 in
    let list = list_found bytes (14 + 64 * s.0.count) l.0 fits l.1 in
    let next : ℕ = 14 + 64 * s.0.count + 128 in
    let bands : List ℕ = s.0.count ∷ sets_bytes s.0.count s.0.sets in
    let from_bands = stand_both bytes 13 bands (14 + 64 * s.0.count) (list_bytes l.0) next eligible.stands list.stands in
    let last = stand_both bytes 5 (to_be_bytes w64 b.0) 13 (bands ++ list_bytes l.0) next booking.0 from_bands in
    let fields = stand_both bytes 1 (to_be_bytes w32 a.0) 5 (to_be_bytes w64 b.0 ++ (bands ++ list_bytes l.0)) next session.0 last in
    let whole : Stands bytes 0 (entry_bytes (Started a.0 b.0 s.0 (Some l.0))) next = stand_both bytes 0 (9 ∷ []) 1 (to_be_bytes w32 a.0 ++ (to_be_bytes w64 b.0 ++ (bands ++ list_bytes l.0))) next kind fields in
    let made : Record × ℕ = (record { entry = Started a.0 b.0 s.0 (Some l.0); tree = None }, next) in
    let found : IsNewFound bytes made = record {
      is = record { goes_with = tt; bands = (eligible.are, some_item l.0.items list.some); fits = (session.1, booking.1, eligible.sets, (list.items, list.form)); tree = tt };
      stands = entry_alone bytes (entry_bytes (Started a.0 b.0 s.0 (Some l.0))) next whole;
    } in
    subst (IsNewFound bytes) {x = made} (ok_is {F = RecordFault} made x l.2) found

set_aside_found : (bytes : List ℕ) (x : Record × ℕ) → IsBytes bytes → Stands bytes 0 (7 ∷ []) 1 → set_aside bytes ≡ Ok x → IsNewFound bytes x
unfolding set_aside entry_bytes
set_aside_found bytes x fits kind e =
    let a = bind_ok (field (number_at w32 bytes 1)) (λ session. field (number_at w16 bytes 5) >>= λ step. band_at bytes 7 >>= λ band. flag_at bytes 8 >>= λ spent. field (number_at w16 bytes 9) >>= λ nodes. tree_at nodes bytes 11 >>= λ found. Ok (record { entry = SetAside session step band (cause_of spent) nodes; tree = Some found.0 }, found.1)) x e in
    let p = bind_ok (field (number_at w16 bytes 5)) (λ step. band_at bytes 7 >>= λ band. flag_at bytes 8 >>= λ spent. field (number_at w16 bytes 9) >>= λ nodes. tree_at nodes bytes 11 >>= λ found. Ok (record { entry = SetAside a.0 step band (cause_of spent) nodes; tree = Some found.0 }, found.1)) x a.2 in
    let b = bind_ok (band_at bytes 7) (λ band. flag_at bytes 8 >>= λ spent. field (number_at w16 bytes 9) >>= λ nodes. tree_at nodes bytes 11 >>= λ found. Ok (record { entry = SetAside a.0 p.0 band (cause_of spent) nodes; tree = Some found.0 }, found.1)) x p.2 in
    let f = bind_ok (flag_at bytes 8) (λ spent. field (number_at w16 bytes 9) >>= λ nodes. tree_at nodes bytes 11 >>= λ found. Ok (record { entry = SetAside a.0 p.0 b.0 (cause_of spent) nodes; tree = Some found.0 }, found.1)) x b.2 in
    let n = bind_ok (field (number_at w16 bytes 9)) (λ nodes. tree_at nodes bytes 11 >>= λ found. Ok (record { entry = SetAside a.0 p.0 b.0 (cause_of f.0) nodes; tree = Some found.0 }, found.1)) x f.2 in
    let t = bind_ok (tree_at n.0 bytes 11) (λ found. Ok (record { entry = SetAside a.0 p.0 b.0 (cause_of f.0) n.0; tree = Some found.0 }, found.1)) x n.2 in
    let session = number_found w32 (2 ^ 32) wide32 bytes 1 a.0 fits a.1 in
    let step = number_found w16 (2 ^ 16) wide16 bytes 5 p.0 fits p.1 in
    let band = band_found bytes 7 b.0 fits b.1 in
    let flag = subst (λ (c : ℕ). Stands bytes 8 (c ∷ []) 9) (sym (cause_again f.0)) (flag_found bytes 8 f.0 fits f.1) in
    let nodes = number_found w16 (2 ^ 16) wide16 bytes 9 n.0 fits n.1 in
    let tree = tree_found n.0 bytes 11 t.0 fits t.1 in
    let C : ℕ = cause_byte (cause_of f.0) in
    let N : List ℕ = to_be_bytes w16 n.0 in
    let last = stand_both bytes 8 (C ∷ []) 9 N 11 flag nodes.0 in
    let from_band = stand_both bytes 7 (b.0 ∷ []) 8 (C ∷ N) 11 band.0 last in
    let from_step = stand_both bytes 5 (to_be_bytes w16 p.0) 7 (b.0 ∷ C ∷ N) 11 step.0 from_band in
    let fields = stand_both bytes 1 (to_be_bytes w32 a.0) 5 (to_be_bytes w16 p.0 ++ b.0 ∷ C ∷ N) 11 session.0 from_step in
    let whole : Stands bytes 0 (entry_bytes (SetAside a.0 p.0 b.0 (cause_of f.0) n.0)) 11 = stand_both bytes 0 (7 ∷ []) 1 (to_be_bytes w32 a.0 ++ (to_be_bytes w16 p.0 ++ b.0 ∷ C ∷ N)) 11 kind fields in
    let made : Record × ℕ = (record { entry = SetAside a.0 p.0 b.0 (cause_of f.0) n.0; tree = Some t.0.0 }, t.0.1) in
    let found : IsNewFound bytes made = record {
      is = record { goes_with = tree.number; bands = band.1; fits = (session.1, step.1); tree = tree.is_tree };
      stands = stand_both bytes 0 (entry_bytes (SetAside a.0 p.0 b.0 (cause_of f.0) n.0)) 11 (bytes_of t.0.0) t.0.1 whole tree.stands;
    } in
    subst (IsNewFound bytes) {x = made} (ok_is {F = RecordFault} made x t.2) found

kind_found : (bytes : List ℕ) (kind : ℕ) (x : Record × ℕ) → IsBytes bytes → Stands bytes 0 (kind ∷ []) 1 → record_of_kind kind bytes ≡ Ok x → IsNewFound bytes x
unfolding record_of_kind entry_bytes
kind_found bytes kind x fits p e =
    elim (chosen (kind == 6) (started bytes) _ (Ok x) e) [
      | inl h ↦ started_found bytes x fits (as_kind bytes kind 6 h.0 p) h.1
      | inr r6 ↦ elim (chosen (kind == 7) (set_aside bytes) _ (Ok x) r6.1) [
        | inl h ↦ set_aside_found bytes x fits (as_kind bytes kind 7 h.0 p) h.1
        | inr r7 ↦ elim (chosen (kind == 9) (started_with_list bytes) _ (Ok x) r7.1) [
          | inl h ↦ started_with_list_found bytes x fits (as_kind bytes kind 9 h.0 p) h.1
          | inr r9 ↦ shared_found IsRecord entry_bytes
              (λ session step item form proved nodes. refl) (λ session step response. refl) (λ session. refl)
              (λ session step item form proved nodes T is. is) (λ session step response is. is) (λ session is. is)
              bytes kind x fits p r9.1
        ]
      ]
    ]

-- ---- what was written is read again

started_again : (session booking : ℕ) (eligible : Bands) (bytes : List ℕ) (next : ℕ) → session < 2 ^ 32 → booking < 2 ^ 64 → AreEligible eligible → AreSets eligible → Stands bytes 0 (entry_bytes (Started session booking eligible None)) next → ReadsTo record_of_kind bytes (record { entry = Started session booking eligible None; tree = None }) next
unfolding entry_bytes record_of_kind started
started_again session booking eligible bytes next few low are sets p =
    let S : List ℕ = to_be_bytes w32 session in
    let B : List ℕ = to_be_bytes w64 booking in
    let E : List ℕ = eligible.count ∷ sets_bytes eligible.count eligible.sets in
    let fields : Stands bytes 1 (S ++ (B ++ E)) next = stand_second bytes 0 (6 ∷ []) (S ++ (B ++ E)) next p in
    let later : Stands bytes 5 (B ++ E) next = stand_second bytes 1 S (B ++ E) next fields in
    let last : Stands bytes 13 E next = stand_second bytes 5 B E next later in
    let session_read = number_read w32 (2 ^ 32) wide32 bytes 1 session 5 (stand_first bytes 1 S (B ++ E) next fields) few in
    let booking_read = number_read w64 (2 ^ 64) wide64 bytes 5 booking 13 (stand_first bytes 5 B E next later) low in
    let eligible_read = bands_read bytes 13 eligible next are sets last in
    let end : 14 + 64 * eligible.count ≡ next = omega (arith, last.ends, sets_len eligible.count eligible.sets) in
    (6, kind_read bytes 6 (S ++ (B ++ E)) next p, rw (session_read, booking_read, eligible_read) (ap (λ (n : ℕ). Ok (record { entry = Started session booking eligible None; tree = None }, n)) end))

started_with_list_again : (session booking : ℕ) (eligible : Bands) (list : Without) (bytes : List ℕ) (next : ℕ) → session < 2 ^ 32 → booking < 2 ^ 64 → AreEligible eligible → AreSets eligible → any_below 512 (has list.items) ≡ true → AreListSets (Some list)
    → Stands bytes 0 (entry_bytes (Started session booking eligible (Some list))) next → ReadsTo record_of_kind bytes (record { entry = Started session booking eligible (Some list); tree = None }) next
unfolding entry_bytes record_of_kind started_with_list
started_with_list_again session booking eligible list bytes next few low are sets some words p =
    let S : List ℕ = to_be_bytes w32 session in
    let B : List ℕ = to_be_bytes w64 booking in
    let E : List ℕ = eligible.count ∷ sets_bytes eligible.count eligible.sets in
    let L : List ℕ = list_bytes list in
    let fields : Stands bytes 1 (S ++ (B ++ (E ++ L))) next = stand_second bytes 0 (9 ∷ []) (S ++ (B ++ (E ++ L))) next p in
    let later : Stands bytes 5 (B ++ (E ++ L)) next = stand_second bytes 1 S (B ++ (E ++ L)) next fields in
    let from_bands : Stands bytes 13 (E ++ L) next = stand_second bytes 5 B (E ++ L) next later in
    let end : 13 + length E ≡ 14 + 64 * eligible.count = omega (arith, sets_len eligible.count eligible.sets) in
    let bands : Stands bytes 13 E (14 + 64 * eligible.count) = subst (λ (n : ℕ). Stands bytes 13 E n) end (stand_first bytes 13 E L next from_bands) in
    let last : Stands bytes (14 + 64 * eligible.count) L next = subst (λ (n : ℕ). Stands bytes n L next) end (stand_second bytes 13 E L next from_bands) in
    let session_read = number_read w32 (2 ^ 32) wide32 bytes 1 session 5 (stand_first bytes 1 S (B ++ (E ++ L)) next fields) few in
    let booking_read = number_read w64 (2 ^ 64) wide64 bytes 5 booking 13 (stand_first bytes 5 B (E ++ L) next later) low in
    let eligible_read = bands_read bytes 13 eligible (14 + 64 * eligible.count) are sets bands in
    let list_is_read = list_read bytes (14 + 64 * eligible.count) list next words.0 words.1 some last in
    let whole : 14 + 64 * eligible.count + 128 ≡ next = omega (arith, last.ends, list_len list) in
    (9, kind_read bytes 9 (S ++ (B ++ (E ++ L))) next p, rw (session_read, booking_read, eligible_read, list_is_read) (ap (λ (n : ℕ). Ok (record { entry = Started session booking eligible (Some list); tree = None }, n)) whole))

set_aside_again : (session step band : ℕ) (cause : Cause) (nodes : ℕ) (T : ProofTree) (bytes : List ℕ) (next : ℕ) → (session < 2 ^ 32) × (step < 2 ^ 16) → band < 8 → nodes ≡ length T.nodes → IsTree T → Stands bytes 0 (entry_bytes (SetAside session step band cause nodes) ++ bytes_of T) next → ReadsTo record_of_kind bytes (record { entry = SetAside session step band cause nodes; tree = Some T }) next
unfolding entry_bytes record_of_kind set_aside
set_aside_again session step band cause nodes T bytes next fits low number is p =
    let S : List ℕ = to_be_bytes w32 session in
    let P : List ℕ = to_be_bytes w16 step in
    let B : List ℕ = band ∷ [] in
    let C : List ℕ = cause_byte cause ∷ [] in
    let N : List ℕ = to_be_bytes w16 nodes in
    let few : nodes < 2 ^ 16 = omega (arith, number, is.shape.few_nodes) in
    let entry : Stands bytes 0 (7 ∷ (S ++ (P ++ (B ++ (C ++ N))))) 11 = stand_first bytes 0 (7 ∷ (S ++ (P ++ (B ++ (C ++ N))))) (bytes_of T) next p in
    let tree : Stands bytes 11 (bytes_of T) next = stand_second bytes 0 (7 ∷ (S ++ (P ++ (B ++ (C ++ N))))) (bytes_of T) next p in
    let fields : Stands bytes 1 (S ++ (P ++ (B ++ (C ++ N)))) 11 = stand_second bytes 0 (7 ∷ []) (S ++ (P ++ (B ++ (C ++ N)))) 11 entry in
    let from_step : Stands bytes 5 (P ++ (B ++ (C ++ N))) 11 = stand_second bytes 1 S (P ++ (B ++ (C ++ N))) 11 fields in
    let from_band : Stands bytes 7 (B ++ (C ++ N)) 11 = stand_second bytes 5 P (B ++ (C ++ N)) 11 from_step in
    let from_cause : Stands bytes 8 (C ++ N) 11 = stand_second bytes 7 B (C ++ N) 11 from_band in
    let last : Stands bytes 9 N 11 = stand_second bytes 8 C N 11 from_cause in
    let session_read = number_read w32 (2 ^ 32) wide32 bytes 1 session 5 (stand_first bytes 1 S (P ++ (B ++ (C ++ N))) 11 fields) fits.0 in
    let step_read = number_read w16 (2 ^ 16) wide16 bytes 5 step 7 (stand_first bytes 5 P (B ++ (C ++ N)) 11 from_step) fits.1 in
    let band_is_read = band_read bytes 7 band 8 (stand_first bytes 7 B (C ++ N) 11 from_band) low in
    let cause_is_read = cause_read cause bytes 8 9 (stand_first bytes 8 C N 11 from_cause) in
    let nodes_read = number_read w16 (2 ^ 16) wide16 bytes 9 nodes 11 last few in
    let tree_is_read = tree_read nodes bytes 11 T next (record { is_tree = is; stands = tree; number = number }) in
    (7, kind_read bytes 7 (S ++ (P ++ (B ++ (C ++ N)))) 11 entry, rw (session_read, step_read, band_is_read, cause_is_read.1, nodes_read, tree_is_read, cause_is_read.2) refl)

pub shared_kind : (kind : ℕ) (bytes : List ℕ) → kind ≤ 5 → record_of_kind kind bytes ≡ shared_of_kind kind bytes
unfolding record_of_kind
shared_kind kind bytes few =
    let six : (kind == 6) ≡ false = ne_eqb kind 6 (λ e. absurd (omega (arith, e, few))) in
    let seven : (kind == 7) ≡ false = ne_eqb kind 7 (λ e. absurd (omega (arith, e, few))) in
    let nine : (kind == 9) ≡ false = ne_eqb kind 9 (λ e. absurd (omega (arith, e, few))) in
    rw (six, seven, nine) refl

pub kind_3 : (bytes : List ℕ) → record_of_kind 3 bytes ≡ served bytes
unfolding record_of_kind shared_of_kind
kind_3 bytes = refl

pub kind_4 : (bytes : List ℕ) → record_of_kind 4 bytes ≡ answered bytes
unfolding record_of_kind shared_of_kind
kind_4 bytes = refl

pub kind_5 : (bytes : List ℕ) → record_of_kind 5 bytes ≡ closed bytes
unfolding record_of_kind shared_of_kind
kind_5 bytes = refl

entry_again : (entry : Entry) (tree : Option ProofTree) (bytes : List ℕ) (next : ℕ) → GoesWith entry tree → HasBands entry → IsInRange entry → IsTreeOrNone tree → Stands bytes 0 (entry_bytes entry ++ tree_bytes tree) next → ReadsTo record_of_kind bytes (record { entry = entry; tree = tree }) next
unfolding entry_bytes
entry_again (Started session booking eligible None) None bytes next goes bands fits is p = started_again session booking eligible bytes next fits.0 fits.1 bands.0 fits.2 (alone bytes (entry_bytes (Started session booking eligible None)) next p)
entry_again (Started session booking eligible (Some list)) None bytes next goes bands fits is p = started_with_list_again session booking eligible list bytes next fits.0 fits.1 bands.0 fits.2 (some_bit list.items fits.3.0 bands.1) fits.3 (alone bytes (entry_bytes (Started session booking eligible (Some list))) next p)
entry_again (Started session booking eligible without) (Some T) bytes next goes bands fits is p = absurd goes
entry_again (SetAside session step band cause nodes) None bytes next goes bands fits is p = absurd goes
entry_again (SetAside session step band cause nodes) (Some T) bytes next goes bands fits is p = set_aside_again session step band cause nodes T bytes next fits bands goes is p
entry_again (Served session step item form proved nodes) None bytes next goes bands fits is p = absurd goes
entry_again (Served session step item form proved nodes) (Some T) bytes next goes bands fits is p = served_again record_of_kind kind_3 session step item form proved nodes T bytes next fits goes is p
entry_again (Answered session step response) None bytes next goes bands fits is p = answered_again record_of_kind kind_4 session step response bytes next fits (alone bytes (answered_bytes session step response) next p)
entry_again (Answered session step response) (Some T) bytes next goes bands fits is p = absurd goes
entry_again (Closed session) None bytes next goes bands fits is p = closed_again record_of_kind kind_5 session bytes next fits (alone bytes (closed_bytes session) next p)
entry_again (Closed session) (Some T) bytes next goes bands fits is p = absurd goes

reads_to : (r : Record) → IsRecord r → (bytes : List ℕ) (next : ℕ) → Stands bytes 0 (entry_bytes r.entry ++ tree_bytes r.tree) next → ReadsTo record_of_kind bytes r next
reads_to r is bytes next p = entry_again r.entry r.tree bytes next is.goes_with is.bands is.fits is.tree p

-- ---- the laws

pub written_is_read : (r : Record) → IsRecord r → record_of (payload_of r) ≡ Ok r
unfolding record_of payload_of
written_is_read r is = read_again IsRecord entry_bytes record_of_kind r (reads_to r is)

pub one_spelling : (payload : List ℕ) (r : Record) → IsBytes payload → record_of payload ≡ Ok r → IsRecord r × (payload ≡ payload_of r)
unfolding record_of payload_of
one_spelling payload r fits e = found_whole IsRecord entry_bytes record_of_kind kind_found payload r fits e

pub no_two_records : (r s : Record) → IsRecord r → IsRecord s → payload_of r ≡ payload_of s → r ≡ s
no_two_records r s is_r is_s same = ok_is {F = RecordFault} r s (sym (written_is_read r is_r) ∙ (ap record_of same ∙ written_is_read s is_s))

pub more_is_told : (r : Record) (rest : List ℕ) → IsRecord r → 0 < length rest → record_of (payload_of r ++ rest) ≡ Err (Extra (length (payload_of r)))
unfolding record_of payload_of
more_is_told r rest is some = extra_after IsRecord entry_bytes record_of_kind r rest (reads_to r is) some

-- ---- for decode and encode

pub is_found : (payload : List ℕ) (r : Result Record RecordFault) → IsBytes payload → Gives Memory (λ (x : Record). x) r (record_of payload) → IfOk r (λ x. IsRecord x × (payload ≡ payload_of x))
is_found payload (Ok x) fits given = one_spelling payload x fits given
is_found payload (Err e) fits given = tt

pub is_read : (r : Record) (payload : List ℕ) → IsRecord r → payload ≡ payload_of r → record_of payload ≡ Ok r
is_read r payload is spelled = ap record_of spelled ∙ written_is_read r is

whole_len : (entry : Entry) (tree : Option ProofTree) → GoesWith entry tree → HasBands entry → IsTreeOrNone tree → (0 < length (entry_bytes entry ++ tree_bytes tree)) × (length (entry_bytes entry ++ tree_bytes tree) ≤ 98885)
unfolding entry_bytes
whole_len (Started session booking eligible None) None goes bands is = (omega arith, omega (arith, bands.0.few, length-append (sets_bytes eligible.count eligible.sets) [], sets_len eligible.count eligible.sets))
whole_len (Started session booking eligible (Some list)) None goes bands is =
    (omega arith, omega (arith, bands.0.few, length-append (sets_bytes eligible.count eligible.sets ++ list_bytes list) [], length-append (sets_bytes eligible.count eligible.sets) (list_bytes list), sets_len eligible.count eligible.sets, list_len list))
whole_len (Started session booking eligible without) (Some T) goes bands is = absurd goes
whole_len (SetAside session step band cause nodes) None goes bands is = absurd goes
whole_len (SetAside session step band cause nodes) (Some T) goes bands is = (omega arith, omega (arith, few_bytes T is))
whole_len (Served session step item form proved nodes) None goes bands is = absurd goes
whole_len (Served session step item form proved nodes) (Some T) goes bands is = (omega arith, omega (arith, length-append (set_bytes (has form) ++ mark_byte proved ∷ to_be_bytes w16 nodes) (bytes_of T), length-append (set_bytes (has form)) (mark_byte proved ∷ to_be_bytes w16 nodes), numbers_len 64 8 (has form), few_bytes T is))
whole_len (Answered session step response) None goes bands is = (omega arith, omega arith)
whole_len (Answered session step response) (Some T) goes bands is = absurd goes
whole_len (Closed session) None goes bands is = (omega arith, omega arith)
whole_len (Closed session) (Some T) goes bands is = absurd goes

-- a payload has some bytes, and not many
pub record_len : (r : Record) → GoesWith r.entry r.tree → HasBands r.entry → IsTreeOrNone r.tree → (0 < length (payload_of r)) × (length (payload_of r) ≤ 98885)
unfolding payload_of
record_len r goes bands tree = whole_len r.entry r.tree goes bands tree
