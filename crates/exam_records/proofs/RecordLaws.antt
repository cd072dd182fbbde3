-- A record that is read is the record that was written, and what was written is read again, up to
-- the end of the record.
use Rattle.std.proofs.Common.{◌≡◌, ℕ, ◌^◌, ◌==◌, inl, inr, Bool, true, false, List, [], ◌∷◌, ◌++◌, Some, None, Ok, refl, sym, subst, arith}
use Rattle.std.specs.Int.{w16, w32, w64, to_be_bytes}
use Rattle.std.proofs.lemmas.Bool.{eqb-true}
use Rattle.std.proofs.lemmas.List.{append-nil}
use Rattle.bank_tables.specs.Items.{has}
use Rattle.exam_text.specs.First.{◌>>=◌}
use Rattle.exam_text.proofs.Firsts.{bind_ok, ok_is}
use Rattle.certificate_model.specs.ProofTrees.{ProofTree}
use Rattle.history_model.specs.declared.entry.Entry.{Entry}
use Rattle.history_model.specs.declared.entry.Entry.TheVariants.{Started, SetAside, Served, Answered, Closed}
use Rattle.proof_tree.specs.Spelling.{bytes_of}
use Rattle.proof_tree.specs.Reading.{number_at, byte_at}
use Rattle.proof_tree.proofs.Fields.{IsBytes, Stands, stand_both, wide16, wide32}
use Rattle.proof_tree.proofs.NodeLaws.{chosen}
use Rattle.exam_records.specs.declared.fault.RecordFault.{RecordFault}
use Rattle.history_model.specs.Judging.{Record}
use Rattle.exam_records.specs.Shape.{IsRecord}
use Rattle.exam_records.specs.Sets.{set_bytes}
use Rattle.exam_records.specs.Old.{one_band, IsOldRecord}
use Rattle.exam_records.specs.Spelling.{cause_byte, mark_byte, served_bytes, answered_bytes, closed_bytes, tree_bytes, old_entry_bytes}
use Rattle.exam_records.specs.Reading.{field, set_at, flag_at, cause_of, tree_at, served, answered, closed, shared_of_kind, old_started, old_set_aside, old_record_of_kind}
use Rattle.exam_records.proofs.BandLaws.{one_band_eligible, one_band_sets}
use Rattle.exam_records.proofs.FieldLaws.{wide64, number_found, byte_found, set_found, flag_found, tree_found}

-- what was read is a record, and its spelling is at the front of the payload
pub record IsFound (P : Record → Type 0) (spell : Entry → List ℕ) (bytes : List ℕ) (x : Record × ℕ) : Type 0 where
  pub is : P x.0
  pub stands : Stands bytes 0 (spell x.0.entry ++ tree_bytes x.0.tree) x.1

-- nothing more follows an entry without a tree
pub entry_alone : (bytes text : List ℕ) (next : ℕ) → Stands bytes 0 text next → Stands bytes 0 (text ++ []) next
entry_alone bytes text next p = subst (λ (t : List ℕ). Stands bytes 0 t next) (sym (append-nil text)) p

-- ---- the entries that have the same bytes in each version, with what the version asks of a
-- record, and its spelling of entries

module _ (P : Record → Type 0) (spell : Entry → List ℕ)
    (same : (session step item : ℕ) (form : List ℕ) (proved : Bool) (nodes : ℕ) → spell (Served session step item form proved nodes) ≡ served_bytes session step item form proved nodes)
    (good : (session step item : ℕ) (form : List ℕ) (proved : Bool) (nodes : ℕ) (T : ProofTree) → (let r : Record = record { entry = Served session step item form proved nodes; tree = Some T } in IsRecord r → P r)) where
  pub served_found : (bytes : List ℕ) (x : Record × ℕ) → IsBytes bytes → Stands bytes 0 (3 ∷ []) 1 → served bytes ≡ Ok x → IsFound P spell bytes x
  unfolding served
  served_found bytes x fits kind e =
      let a = bind_ok (field (number_at w32 bytes 1)) (λ session. field (number_at w16 bytes 5) >>= λ step. field (number_at w16 bytes 7) >>= λ item. set_at bytes 9 >>= λ form. flag_at bytes 73 >>= λ proved. field (number_at w16 bytes 74) >>= λ nodes. tree_at nodes bytes 76 >>= λ found. Ok (record { entry = Served session step item form proved nodes; tree = Some found.0 }, found.1)) x e in
      let p = bind_ok (field (number_at w16 bytes 5)) (λ step. field (number_at w16 bytes 7) >>= λ item. set_at bytes 9 >>= λ form. flag_at bytes 73 >>= λ proved. field (number_at w16 bytes 74) >>= λ nodes. tree_at nodes bytes 76 >>= λ found. Ok (record { entry = Served a.0 step item form proved nodes; tree = Some found.0 }, found.1)) x a.2 in
      let i = bind_ok (field (number_at w16 bytes 7)) (λ item. set_at bytes 9 >>= λ form. flag_at bytes 73 >>= λ proved. field (number_at w16 bytes 74) >>= λ nodes. tree_at nodes bytes 76 >>= λ found. Ok (record { entry = Served a.0 p.0 item form proved nodes; tree = Some found.0 }, found.1)) x p.2 in
      let s = bind_ok (set_at bytes 9) (λ form. flag_at bytes 73 >>= λ proved. field (number_at w16 bytes 74) >>= λ nodes. tree_at nodes bytes 76 >>= λ found. Ok (record { entry = Served a.0 p.0 i.0 form proved nodes; tree = Some found.0 }, found.1)) x i.2 in
      let f = bind_ok (flag_at bytes 73) (λ proved. field (number_at w16 bytes 74) >>= λ nodes. tree_at nodes bytes 76 >>= λ found. Ok (record { entry = Served a.0 p.0 i.0 s.0 proved nodes; tree = Some found.0 }, found.1)) x s.2 in
      let n = bind_ok (field (number_at w16 bytes 74)) (λ nodes. tree_at nodes bytes 76 >>= λ found. Ok (record { entry = Served a.0 p.0 i.0 s.0 f.0 nodes; tree = Some found.0 }, found.1)) x f.2 in
      let t = bind_ok (tree_at n.0 bytes 76) (λ found. Ok (record { entry = Served a.0 p.0 i.0 s.0 f.0 n.0; tree = Some found.0 }, found.1)) x n.2 in
      let session = number_found w32 (2 ^ 32) wide32 bytes 1 a.0 fits a.1 in
      let step = number_found w16 (2 ^ 16) wide16 bytes 5 p.0 fits p.1 in
      let item = number_found w16 (2 ^ 16) wide16 bytes 7 i.0 fits i.1 in
      let form = set_found bytes 9 s.0 fits s.1 in
      let flag = flag_found bytes 73 f.0 fits f.1 in
      let nodes = number_found w16 (2 ^ 16) wide16 bytes 74 n.0 fits n.1 in
      let tree = tree_found n.0 bytes 76 t.0 fits t.1 in
      let last = stand_both bytes 73 (mark_byte f.0 ∷ []) 74 (to_be_bytes w16 n.0) 76 flag nodes.0 in
      let from_form = stand_both bytes 9 (set_bytes (has s.0)) 73 (mark_byte f.0 ∷ to_be_bytes w16 n.0) 76 form.0 last in
      let from_item = stand_both bytes 7 (to_be_bytes w16 i.0) 9 (set_bytes (has s.0) ++ mark_byte f.0 ∷ to_be_bytes w16 n.0) 76 item.0 from_form in
      let from_step = stand_both bytes 5 (to_be_bytes w16 p.0) 7 (to_be_bytes w16 i.0 ++ (set_bytes (has s.0) ++ mark_byte f.0 ∷ to_be_bytes w16 n.0)) 76 step.0 from_item in
      let fields = stand_both bytes 1 (to_be_bytes w32 a.0) 5 (to_be_bytes w16 p.0 ++ (to_be_bytes w16 i.0 ++ (set_bytes (has s.0) ++ mark_byte f.0 ∷ to_be_bytes w16 n.0))) 76 session.0 from_step in
      let whole : Stands bytes 0 (served_bytes a.0 p.0 i.0 s.0 f.0 n.0) 76 = stand_both bytes 0 (3 ∷ []) 1 (to_be_bytes w32 a.0 ++ (to_be_bytes w16 p.0 ++ (to_be_bytes w16 i.0 ++ (set_bytes (has s.0) ++ mark_byte f.0 ∷ to_be_bytes w16 n.0)))) 76 kind fields in
      let made : Record × ℕ = (record { entry = Served a.0 p.0 i.0 s.0 f.0 n.0; tree = Some t.0.0 }, t.0.1) in
      let found : IsFound P spell bytes made = record {
        is = good a.0 p.0 i.0 s.0 f.0 n.0 t.0.0 (record { goes_with = tree.number; bands = tt; fits = (session.1, step.1, item.1, form.1); tree = tree.is_tree });
        stands = subst (λ (t' : List ℕ). Stands bytes 0 (t' ++ bytes_of t.0.0) t.0.1) (sym {a = spell (Served a.0 p.0 i.0 s.0 f.0 n.0)} {b = served_bytes a.0 p.0 i.0 s.0 f.0 n.0} (same a.0 p.0 i.0 s.0 f.0 n.0)) (stand_both bytes 0 (served_bytes a.0 p.0 i.0 s.0 f.0 n.0) 76 (bytes_of t.0.0) t.0.1 whole tree.stands);
      } in
      subst (IsFound P spell bytes) {x = made} (ok_is {F = RecordFault} made x t.2) found

module _ (P : Record → Type 0) (spell : Entry → List ℕ)
    (same : (session step response : ℕ) → spell (Answered session step response) ≡ answered_bytes session step response)
    (good : (session step response : ℕ) → (let r : Record = record { entry = Answered session step response; tree = None } in IsRecord r → P r)) where
  pub answered_found : (bytes : List ℕ) (x : Record × ℕ) → IsBytes bytes → Stands bytes 0 (4 ∷ []) 1 → answered bytes ≡ Ok x → IsFound P spell bytes x
  unfolding answered
  answered_found bytes x fits kind e =
      let a = bind_ok (field (number_at w32 bytes 1)) (λ session. field (number_at w16 bytes 5) >>= λ step. field (byte_at bytes 7) >>= λ response. Ok (record { entry = Answered session step response; tree = None }, 8)) x e in
      let p = bind_ok (field (number_at w16 bytes 5)) (λ step. field (byte_at bytes 7) >>= λ response. Ok (record { entry = Answered a.0 step response; tree = None }, 8)) x a.2 in
      let r = bind_ok (field (byte_at bytes 7)) (λ response. Ok (record { entry = Answered a.0 p.0 response; tree = None }, 8)) x p.2 in
      let session = number_found w32 (2 ^ 32) wide32 bytes 1 a.0 fits a.1 in
      let step = number_found w16 (2 ^ 16) wide16 bytes 5 p.0 fits p.1 in
      let response = byte_found bytes 7 r.0 fits r.1 in
      let last = stand_both bytes 5 (to_be_bytes w16 p.0) 7 (r.0 ∷ []) 8 step.0 response.0 in
      let fields = stand_both bytes 1 (to_be_bytes w32 a.0) 5 (to_be_bytes w16 p.0 ++ r.0 ∷ []) 8 session.0 last in
      let whole : Stands bytes 0 (answered_bytes a.0 p.0 r.0) 8 = stand_both bytes 0 (4 ∷ []) 1 (to_be_bytes w32 a.0 ++ (to_be_bytes w16 p.0 ++ r.0 ∷ [])) 8 kind fields in
      let made : Record × ℕ = (record { entry = Answered a.0 p.0 r.0; tree = None }, 8) in
      let found : IsFound P spell bytes made = record {
        is = good a.0 p.0 r.0 (record { goes_with = tt; bands = tt; fits = (session.1, step.1, response.1); tree = tt });
        stands = entry_alone bytes (spell (Answered a.0 p.0 r.0)) 8 (subst (λ (t : List ℕ). Stands bytes 0 t 8) (sym {a = spell (Answered a.0 p.0 r.0)} {b = answered_bytes a.0 p.0 r.0} (same a.0 p.0 r.0)) whole);
      } in
      subst (IsFound P spell bytes) {x = made} (ok_is {F = RecordFault} made x r.2) found

module _ (P : Record → Type 0) (spell : Entry → List ℕ)
    (same : (session : ℕ) → spell (Closed session) ≡ closed_bytes session)
    (good : (session : ℕ) → (let r : Record = record { entry = Closed session; tree = None } in IsRecord r → P r)) where
  pub closed_found : (bytes : List ℕ) (x : Record × ℕ) → IsBytes bytes → Stands bytes 0 (5 ∷ []) 1 → closed bytes ≡ Ok x → IsFound P spell bytes x
  unfolding closed
  closed_found bytes x fits kind e =
      let a = bind_ok (field (number_at w32 bytes 1)) (λ session. Ok (record { entry = Closed session; tree = None }, 5)) x e in
      let session = number_found w32 (2 ^ 32) wide32 bytes 1 a.0 fits a.1 in
      let whole : Stands bytes 0 (closed_bytes a.0) 5 = stand_both bytes 0 (5 ∷ []) 1 (to_be_bytes w32 a.0) 5 kind session.0 in
      let made : Record × ℕ = (record { entry = Closed a.0; tree = None }, 5) in
      let found : IsFound P spell bytes made = record {
        is = good a.0 (record { goes_with = tt; bands = tt; fits = session.1; tree = tt });
        stands = entry_alone bytes (spell (Closed a.0)) 5 (subst (λ (t : List ℕ). Stands bytes 0 t 5) (sym {a = spell (Closed a.0)} {b = closed_bytes a.0} (same a.0)) whole);
      } in
      subst (IsFound P spell bytes) {x = made} (ok_is {F = RecordFault} made x a.2) found

-- the kind is this one
pub as_kind : (bytes : List ℕ) (kind k : ℕ) → (kind == k) ≡ true → Stands bytes 0 (kind ∷ []) 1 → Stands bytes 0 (k ∷ []) 1
as_kind bytes kind k test p = subst (λ (n : ℕ). Stands bytes 0 (n ∷ []) 1) (eqb-true kind k test) p

module _ (P : Record → Type 0) (spell : Entry → List ℕ)
    (same_served : (session step item : ℕ) (form : List ℕ) (proved : Bool) (nodes : ℕ) → spell (Served session step item form proved nodes) ≡ served_bytes session step item form proved nodes)
    (same_answered : (session step response : ℕ) → spell (Answered session step response) ≡ answered_bytes session step response)
    (same_closed : (session : ℕ) → spell (Closed session) ≡ closed_bytes session)
    (good_served : (session step item : ℕ) (form : List ℕ) (proved : Bool) (nodes : ℕ) (T : ProofTree) → (let r : Record = record { entry = Served session step item form proved nodes; tree = Some T } in IsRecord r → P r))
    (good_answered : (session step response : ℕ) → (let r : Record = record { entry = Answered session step response; tree = None } in IsRecord r → P r))
    (good_closed : (session : ℕ) → (let r : Record = record { entry = Closed session; tree = None } in IsRecord r → P r)) where
  pub shared_found : (bytes : List ℕ) (kind : ℕ) (x : Record × ℕ) → IsBytes bytes → Stands bytes 0 (kind ∷ []) 1 → shared_of_kind kind bytes ≡ Ok x → IsFound P spell bytes x
  unfolding shared_of_kind
  shared_found bytes kind x fits p e =
      elim (chosen (kind == 3) (served bytes) _ (Ok x) e) [
        | inl h ↦ served_found P spell same_served good_served bytes x fits (as_kind bytes kind 3 h.0 p) h.1
        | inr r3 ↦ elim (chosen (kind == 4) (answered bytes) _ (Ok x) r3.1) [
          | inl h ↦ answered_found P spell same_answered good_answered bytes x fits (as_kind bytes kind 4 h.0 p) h.1
          | inr r4 ↦ elim (chosen (kind == 5) (closed bytes) _ (Ok x) r4.1) [
            | inl h ↦ closed_found P spell same_closed good_closed bytes x fits (as_kind bytes kind 5 h.0 p) h.1
            | inr r5 ↦ absurd (let no = r5.1 in cc)
          ]
        ]
      ]

-- ---- the first version

abbrev pub IsOldFound : List ℕ → Record × ℕ → Type 0
IsOldFound bytes x = IsFound IsOldRecord (old_entry_bytes 0) bytes x

old_started_found : (bytes : List ℕ) (x : Record × ℕ) → IsBytes bytes → Stands bytes 0 (1 ∷ []) 1 → old_started bytes ≡ Ok x → IsOldFound bytes x
unfolding old_started old_entry_bytes
old_started_found bytes x fits kind e =
    let a = bind_ok (field (number_at w32 bytes 1)) (λ session. field (number_at w64 bytes 5) >>= λ booking. set_at bytes 13 >>= λ eligible. Ok (record { entry = Started session booking (one_band eligible) None; tree = None }, 77)) x e in
    let b = bind_ok (field (number_at w64 bytes 5)) (λ booking. set_at bytes 13 >>= λ eligible. Ok (record { entry = Started a.0 booking (one_band eligible) None; tree = None }, 77)) x a.2 in
    let s = bind_ok (set_at bytes 13) (λ eligible. Ok (record { entry = Started a.0 b.0 (one_band eligible) None; tree = None }, 77)) x b.2 in
    let session = number_found w32 (2 ^ 32) wide32 bytes 1 a.0 fits a.1 in
    let booking = number_found w64 (2 ^ 64) wide64 bytes 5 b.0 fits b.1 in
    let eligible = set_found bytes 13 s.0 fits s.1 in
    let last = stand_both bytes 5 (to_be_bytes w64 b.0) 13 (set_bytes (has s.0)) 77 booking.0 eligible.0 in
    let fields = stand_both bytes 1 (to_be_bytes w32 a.0) 5 (to_be_bytes w64 b.0 ++ set_bytes (has s.0)) 77 session.0 last in
    let whole : Stands bytes 0 (old_entry_bytes 0 (Started a.0 b.0 (one_band s.0) None)) 77 = stand_both bytes 0 (1 ∷ []) 1 (to_be_bytes w32 a.0 ++ (to_be_bytes w64 b.0 ++ set_bytes (has s.0))) 77 kind fields in
    let made : Record × ℕ = (record { entry = Started a.0 b.0 (one_band s.0) None; tree = None }, 77) in
    let found : IsOldFound bytes made = record {
      is = record { is_record = record { goes_with = tt; bands = (one_band_eligible s.0, tt); fits = (session.1, booking.1, one_band_sets s.0 eligible.1, tt); tree = tt }; all = refl };
      stands = entry_alone bytes (old_entry_bytes 0 (Started a.0 b.0 (one_band s.0) None)) 77 whole;
    } in
    subst (IsOldFound bytes) {x = made} (ok_is {F = RecordFault} made x s.2) found

pub cause_again : (spent : Bool) → cause_byte (cause_of spent) ≡ mark_byte spent
cause_again true = refl
cause_again false = refl

old_set_aside_found : (bytes : List ℕ) (x : Record × ℕ) → IsBytes bytes → Stands bytes 0 (2 ∷ []) 1 → old_set_aside bytes ≡ Ok x → IsOldFound bytes x
unfolding old_set_aside old_entry_bytes
old_set_aside_found bytes x fits kind e =
    let a = bind_ok (field (number_at w32 bytes 1)) (λ session. flag_at bytes 5 >>= λ spent. field (number_at w16 bytes 6) >>= λ nodes. tree_at nodes bytes 8 >>= λ found. Ok (record { entry = SetAside session 0 0 (cause_of spent) nodes; tree = Some found.0 }, found.1)) x e in
    let f = bind_ok (flag_at bytes 5) (λ spent. field (number_at w16 bytes 6) >>= λ nodes. tree_at nodes bytes 8 >>= λ found. Ok (record { entry = SetAside a.0 0 0 (cause_of spent) nodes; tree = Some found.0 }, found.1)) x a.2 in
    let n = bind_ok (field (number_at w16 bytes 6)) (λ nodes. tree_at nodes bytes 8 >>= λ found. Ok (record { entry = SetAside a.0 0 0 (cause_of f.0) nodes; tree = Some found.0 }, found.1)) x f.2 in
    let t = bind_ok (tree_at n.0 bytes 8) (λ found. Ok (record { entry = SetAside a.0 0 0 (cause_of f.0) n.0; tree = Some found.0 }, found.1)) x n.2 in
    let session = number_found w32 (2 ^ 32) wide32 bytes 1 a.0 fits a.1 in
    let flag = subst (λ (b : ℕ). Stands bytes 5 (b ∷ []) 6) (sym (cause_again f.0)) (flag_found bytes 5 f.0 fits f.1) in
    let nodes = number_found w16 (2 ^ 16) wide16 bytes 6 n.0 fits n.1 in
    let tree = tree_found n.0 bytes 8 t.0 fits t.1 in
    let last = stand_both bytes 5 (cause_byte (cause_of f.0) ∷ []) 6 (to_be_bytes w16 n.0) 8 flag nodes.0 in
    let fields = stand_both bytes 1 (to_be_bytes w32 a.0) 5 (cause_byte (cause_of f.0) ∷ to_be_bytes w16 n.0) 8 session.0 last in
    let whole : Stands bytes 0 (old_entry_bytes 0 (SetAside a.0 0 0 (cause_of f.0) n.0)) 8 = stand_both bytes 0 (2 ∷ []) 1 (to_be_bytes w32 a.0 ++ cause_byte (cause_of f.0) ∷ to_be_bytes w16 n.0) 8 kind fields in
    let made : Record × ℕ = (record { entry = SetAside a.0 0 0 (cause_of f.0) n.0; tree = Some t.0.0 }, t.0.1) in
    let found : IsOldFound bytes made = record {
      is = record { is_record = record { goes_with = tree.number; bands = omega arith; fits = (session.1, omega arith); tree = tree.is_tree }; all = refl };
      stands = stand_both bytes 0 (old_entry_bytes 0 (SetAside a.0 0 0 (cause_of f.0) n.0)) 8 (bytes_of t.0.0) t.0.1 whole tree.stands;
    } in
    subst (IsOldFound bytes) {x = made} (ok_is {F = RecordFault} made x t.2) found

pub old_kind_found : (bytes : List ℕ) (kind : ℕ) (x : Record × ℕ) → IsBytes bytes → Stands bytes 0 (kind ∷ []) 1 → old_record_of_kind kind bytes ≡ Ok x → IsOldFound bytes x
unfolding old_record_of_kind old_entry_bytes
old_kind_found bytes kind x fits p e =
    elim (chosen (kind == 1) (old_started bytes) _ (Ok x) e) [
      | inl h ↦ old_started_found bytes x fits (as_kind bytes kind 1 h.0 p) h.1
      | inr r1 ↦ elim (chosen (kind == 2) (old_set_aside bytes) _ (Ok x) r1.1) [
        | inl h ↦ old_set_aside_found bytes x fits (as_kind bytes kind 2 h.0 p) h.1
        | inr r2 ↦ shared_found IsOldRecord (old_entry_bytes 0)
            (λ session step item form proved nodes. refl) (λ session step response. refl) (λ session. refl)
            (λ session step item form proved nodes T is. record { is_record = is; all = refl }) (λ session step response is. record { is_record = is; all = refl }) (λ session is. record { is_record = is; all = refl })
            bytes kind x fits p r2.1
      ]
    ]
