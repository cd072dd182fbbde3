-- What was written is read again, whatever follows; and the laws.
use Rattle.std.proofs.Common.{◌≡◌, ℕ, ◌+◌, ◌^◌, ◌<◌, ◌≤◌, ◌==◌, Bool, true, false, ltb, List, [], ◌∷◌, ◌++◌, length, drop, get_or, Option, Some, None, Result, Ok, Err, refl, sym, ap, subst, ◌∙◌, arith, length-append}
use Rattle.std.specs.Prelude.{IfOk}
use Rattle.std.specs.Int.{w16, w32, w64, to_be_bytes}
use Rattle.std.proofs.lemmas.Bool.{ltb-false, le-ltb, lt-ltb, ne_eqb}
use Rattle.std.proofs.lemmas.List.{append-nil, length-drop, nil_from_length}
use Rattle.bank_tables.specs.Items.{has, AreWords}
use Rattle.exam_text.specs.First.{◌>>=◌, unless, fault_where, Gives}
use Rattle.exam_text.proofs.Firsts.{bind_ok, unless_ok, none_where, ok_is}
use Rattle.certificate_model.specs.ProofTrees.{ProofTree}
use Rattle.history_model.specs.declared.entry.Cause.{Cause}
use Rattle.history_model.specs.declared.entry.Cause.TheVariants.{NoForm, Spent}
use Rattle.history_model.specs.declared.entry.Entry.{Entry}
use Rattle.history_model.specs.declared.entry.Entry.TheVariants.{Started, SetAside, Served, Answered, Closed}
use Rattle.proof_tree.specs.Shape.{IsTree}
use Rattle.proof_tree.specs.Spelling.{bytes_of}
use Rattle.proof_tree.specs.Reading.{byte_at}
use Rattle.proof_tree.proofs.Fields.{IsBytes, Stands, stand_first, stand_second, wide16, wide32}
use Rattle.proof_tree.proofs.TreeLaws.{stands_at_front, few_bytes}
use Rattle.exam_records.specs.declared.fault.RecordFault.{RecordFault}
use Rattle.exam_records.specs.declared.fault.RecordFault.TheVariants.{Extra, Memory}
use Rattle.history_model.specs.Judging.{Record}
use Rattle.exam_records.specs.Shape.{GoesWith, IsInRange, IsTreeOrNone, IsRecord}
use Rattle.exam_records.specs.Old.{one_band, old_entry, old_record, IsOldRecord}
use Rattle.exam_records.specs.Sets.{set_bytes}
use Rattle.exam_records.specs.Spelling.{cause_byte, mark_byte, served_bytes, answered_bytes, closed_bytes, tree_bytes, old_entry_bytes, old_payload_of}
use Rattle.exam_records.specs.Reading.{field, flag_at, cause_of, served, answered, closed, shared_of_kind, record_by, old_started, old_set_aside, old_record_of_kind, old_record_of}
use Rattle.exam_records.proofs.SetLaws.{numbers_len}
use Rattle.exam_records.proofs.FieldLaws.{wide64, number_read, byte_found, byte_read, set_read, flag_read, tree_read}
use Rattle.exam_records.proofs.BandLaws.{kept_is_old, kept_payload}
use Rattle.exam_records.proofs.RecordLaws.{IsFound, old_kind_found}

-- what follows the kind of a record, in a version of the journal
abbrev pub Kinds : Type 0
Kinds = ℕ → List ℕ → Result (Record × ℕ) RecordFault

-- the record at the front is this one, and ends there
abbrev pub ReadsTo : Kinds → List ℕ → Record → ℕ → Type 0
ReadsTo kinds bytes r next = (kind : ℕ) × (field (byte_at bytes 0) ≡ Ok kind) × (kinds kind bytes ≡ Ok (r, next))

pub kind_read : (bytes : List ℕ) (kind : ℕ) (fields : List ℕ) (next : ℕ) → Stands bytes 0 (kind ∷ fields) next → field (byte_at bytes 0) ≡ Ok kind
kind_read bytes kind fields next p = byte_read bytes 0 kind 1 (stand_first bytes 0 (kind ∷ []) fields next p)

-- ---- the entries that have the same bytes in each version

pub served_again : (kinds : Kinds) → ((bytes : List ℕ) → kinds 3 bytes ≡ served bytes) → (session step item : ℕ) (form : List ℕ) (proved : Bool) (nodes : ℕ) (T : ProofTree) (bytes : List ℕ) (next : ℕ) → (session < 2 ^ 32) × (step < 2 ^ 16) × (item < 2 ^ 16) × AreWords form → nodes ≡ length T.nodes → IsTree T → Stands bytes 0 (served_bytes session step item form proved nodes ++ bytes_of T) next → ReadsTo kinds bytes (record { entry = Served session step item form proved nodes; tree = Some T }) next
unfolding served
served_again kinds is_kind session step item form proved nodes T bytes next fits number is p =
    let S : List ℕ = to_be_bytes w32 session in
    let P : List ℕ = to_be_bytes w16 step in
    let I : List ℕ = to_be_bytes w16 item in
    let X : List ℕ = set_bytes (has form) in
    let M : List ℕ = mark_byte proved ∷ [] in
    let N : List ℕ = to_be_bytes w16 nodes in
    let few : nodes < 2 ^ 16 = omega (arith, number, is.shape.few_nodes) in
    let start : Stands bytes 0 (3 ∷ (S ++ (P ++ (I ++ (X ++ (M ++ N)))))) (0 + length (3 ∷ (S ++ (P ++ (I ++ (X ++ (M ++ N))))))) = stand_first bytes 0 (3 ∷ (S ++ (P ++ (I ++ (X ++ (M ++ N)))))) (bytes_of T) next p in
    let len : 0 + length (3 ∷ (S ++ (P ++ (I ++ (X ++ (M ++ N)))))) ≡ 76 = omega (arith, length-append X (M ++ N), numbers_len 64 8 (has form)) in
    let entry : Stands bytes 0 (3 ∷ (S ++ (P ++ (I ++ (X ++ (M ++ N)))))) 76 = subst (λ (n : ℕ). Stands bytes 0 (3 ∷ (S ++ (P ++ (I ++ (X ++ (M ++ N)))))) n) len start in
    let behind = stand_second bytes 0 (3 ∷ (S ++ (P ++ (I ++ (X ++ (M ++ N)))))) (bytes_of T) next p in
    let tree : Stands bytes 76 (bytes_of T) next = subst (λ (n : ℕ). Stands bytes n (bytes_of T) next) len behind in
    let fields : Stands bytes 1 (S ++ (P ++ (I ++ (X ++ (M ++ N))))) 76 = stand_second bytes 0 (3 ∷ []) (S ++ (P ++ (I ++ (X ++ (M ++ N))))) 76 entry in
    let from_step : Stands bytes 5 (P ++ (I ++ (X ++ (M ++ N)))) 76 = stand_second bytes 1 S (P ++ (I ++ (X ++ (M ++ N)))) 76 fields in
    let from_item : Stands bytes 7 (I ++ (X ++ (M ++ N))) 76 = stand_second bytes 5 P (I ++ (X ++ (M ++ N))) 76 from_step in
    let from_form : Stands bytes 9 (X ++ (M ++ N)) 76 = stand_second bytes 7 I (X ++ (M ++ N)) 76 from_item in
    let set_len : 9 + length X ≡ 73 = omega (arith, numbers_len 64 8 (has form)) in
    let form_there : Stands bytes 9 X 73 = subst (λ (n : ℕ). Stands bytes 9 X n) set_len (stand_first bytes 9 X (M ++ N) 76 from_form) in
    let from_mark : Stands bytes 73 (M ++ N) 76 = subst (λ (n : ℕ). Stands bytes n (M ++ N) 76) set_len (stand_second bytes 9 X (M ++ N) 76 from_form) in
    let last : Stands bytes 74 N 76 = stand_second bytes 73 M N 76 from_mark in
    let session_read = number_read w32 (2 ^ 32) wide32 bytes 1 session 5 (stand_first bytes 1 S (P ++ (I ++ (X ++ (M ++ N)))) 76 fields) fits.0 in
    let step_read = number_read w16 (2 ^ 16) wide16 bytes 5 step 7 (stand_first bytes 5 P (I ++ (X ++ (M ++ N))) 76 from_step) fits.1 in
    let item_read = number_read w16 (2 ^ 16) wide16 bytes 7 item 9 (stand_first bytes 7 I (X ++ (M ++ N)) 76 from_item) fits.2 in
    let form_read = set_read bytes 9 form 73 fits.3 form_there in
    let mark_read = flag_read bytes 73 proved 74 (stand_first bytes 73 M N 76 from_mark) in
    let nodes_read = number_read w16 (2 ^ 16) wide16 bytes 74 nodes 76 last few in
    let tree_is_read = tree_read nodes bytes 76 T next (record { is_tree = is; stands = tree; number = number }) in
    (3, kind_read bytes 3 (S ++ (P ++ (I ++ (X ++ (M ++ N))))) 76 entry, is_kind bytes ∙ rw (session_read, step_read, item_read, form_read, mark_read, nodes_read, tree_is_read) refl)

pub answered_again : (kinds : Kinds) → ((bytes : List ℕ) → kinds 4 bytes ≡ answered bytes) → (session step response : ℕ) (bytes : List ℕ) (next : ℕ) → (session < 2 ^ 32) × (step < 2 ^ 16) × (response < 2 ^ 8) → Stands bytes 0 (answered_bytes session step response) next → ReadsTo kinds bytes (record { entry = Answered session step response; tree = None }) next
unfolding answered
answered_again kinds is_kind session step response bytes next fits p =
    let S : List ℕ = to_be_bytes w32 session in
    let P : List ℕ = to_be_bytes w16 step in
    let R : List ℕ = response ∷ [] in
    let fields : Stands bytes 1 (S ++ (P ++ R)) next = stand_second bytes 0 (4 ∷ []) (S ++ (P ++ R)) next p in
    let later : Stands bytes 5 (P ++ R) next = stand_second bytes 1 S (P ++ R) next fields in
    let last : Stands bytes 7 R next = stand_second bytes 5 P R next later in
    let session_read = number_read w32 (2 ^ 32) wide32 bytes 1 session 5 (stand_first bytes 1 S (P ++ R) next fields) fits.0 in
    let step_read = number_read w16 (2 ^ 16) wide16 bytes 5 step 7 (stand_first bytes 5 P R next later) fits.1 in
    let response_read = byte_read bytes 7 response next last in
    let end : 8 ≡ next = omega (arith, last.ends) in
    (4, kind_read bytes 4 (S ++ (P ++ R)) next p, is_kind bytes ∙ rw (session_read, step_read, response_read) (ap (λ (n : ℕ). Ok (record { entry = Answered session step response; tree = None }, n)) end))

pub closed_again : (kinds : Kinds) → ((bytes : List ℕ) → kinds 5 bytes ≡ closed bytes) → (session : ℕ) (bytes : List ℕ) (next : ℕ) → session < 2 ^ 32 → Stands bytes 0 (closed_bytes session) next → ReadsTo kinds bytes (record { entry = Closed session; tree = None }) next
unfolding closed
closed_again kinds is_kind session bytes next fits p =
    let fields : Stands bytes 1 (to_be_bytes w32 session) next = stand_second bytes 0 (5 ∷ []) (to_be_bytes w32 session) next p in
    let session_read = number_read w32 (2 ^ 32) wide32 bytes 1 session next fields fits in
    let end : 5 ≡ next = omega (arith, fields.ends) in
    (5, kind_read bytes 5 (to_be_bytes w32 session) next p, is_kind bytes ∙ rw session_read (ap (λ (n : ℕ). Ok (record { entry = Closed session; tree = None }, n)) end))

pub alone : (bytes text : List ℕ) (next : ℕ) → Stands bytes 0 (text ++ []) next → Stands bytes 0 text next
alone bytes text next p = subst (λ (t : List ℕ). Stands bytes 0 t next) (append-nil text) p

-- ---- the whole payload

nothing_left : (n : ℕ) (bytes : List ℕ) → length bytes ≤ n → drop n bytes ≡ []
nothing_left n bytes all = nil_from_length (drop n bytes) (omega (arith, length-drop n bytes))

-- what a version asks of a record, its spelling of entries, and its reading of kinds
module _ (P : Record → Type 0) (spell : Entry → List ℕ) (kinds : Kinds) where
  payload : Record → List ℕ
  payload r = spell r.entry ++ tree_bytes r.tree

  -- nothing is left after a record that ends where the bytes end
  pub found_whole : ((bytes : List ℕ) (kind : ℕ) (x : Record × ℕ) → IsBytes bytes → Stands bytes 0 (kind ∷ []) 1 → kinds kind bytes ≡ Ok x → IsFound P spell bytes x)
      → (bytes : List ℕ) (r : Record) → IsBytes bytes → record_by kinds bytes ≡ Ok r → P r × (bytes ≡ spell r.entry ++ tree_bytes r.tree)
  unfolding record_by payload
  found_whole kind_found bytes r fits e =
      let a = bind_ok (field (byte_at bytes 0)) (λ kind. kinds kind bytes >>= λ found. unless (fault_where (ltb found.1 (length bytes)) (Extra found.1)) (Ok found.0)) r e in
      let b = bind_ok (kinds a.0 bytes) (λ found. unless (fault_where (ltb found.1 (length bytes)) (Extra found.1)) (Ok found.0)) r a.2 in
      let u = unless_ok (fault_where (ltb b.0.1 (length bytes)) (Extra b.0.1)) (Ok b.0.0) r b.2 in
      let kind = byte_found bytes 0 a.0 fits a.1 in
      let found = kind_found bytes a.0 b.0 fits kind.0 b.1 in
      let all : length bytes ≤ b.0.1 = ltb-false _ _ (none_where (ltb b.0.1 (length bytes)) (Extra b.0.1) u.0) in
      let none : drop b.0.1 bytes ≡ [] = nothing_left b.0.1 bytes all in
      let whole : bytes ≡ payload b.0.0 = found.stands.parts ∙ (ap (λ (t : List ℕ). payload b.0.0 ++ t) none ∙ append-nil (payload b.0.0)) in
      subst (λ (x : Record). P x × (bytes ≡ payload x)) (ok_is {F = RecordFault} b.0.0 r u.1) (found.is, whole)

  -- a record at the front, and what follows it
  pub with_more : (r : Record) (rest : List ℕ) → ((bytes : List ℕ) (next : ℕ) → Stands bytes 0 (spell r.entry ++ tree_bytes r.tree) next → ReadsTo kinds bytes r next)
      → record_by kinds ((spell r.entry ++ tree_bytes r.tree) ++ rest) ≡ unless (fault_where (ltb (length (spell r.entry ++ tree_bytes r.tree)) (length ((spell r.entry ++ tree_bytes r.tree) ++ rest))) (Extra (length (spell r.entry ++ tree_bytes r.tree)))) (Ok r)
  unfolding record_by
  with_more r rest reads_to =
      let p = stands_at_front (spell r.entry ++ tree_bytes r.tree) rest in
      let reads = reads_to ((spell r.entry ++ tree_bytes r.tree) ++ rest) (length (spell r.entry ++ tree_bytes r.tree)) p in
      rw (reads.1, reads.2) refl

  pub read_again : (r : Record) → ((bytes : List ℕ) (next : ℕ) → Stands bytes 0 (spell r.entry ++ tree_bytes r.tree) next → ReadsTo kinds bytes r next)
      → record_by kinds (spell r.entry ++ tree_bytes r.tree) ≡ Ok r
  unfolding payload
  read_again r reads_to =
      let e = with_more r [] reads_to in
      let none : payload r ++ [] ≡ payload r = append-nil (payload r) in
      let test : ltb (length (payload r)) (length (payload r ++ [])) ≡ false = le-ltb _ _ (omega (arith, ap length none)) in
      ap (record_by kinds) (sym none) ∙ (e ∙ rw test refl)

  pub extra_after : (r : Record) (rest : List ℕ) → ((bytes : List ℕ) (next : ℕ) → Stands bytes 0 (spell r.entry ++ tree_bytes r.tree) next → ReadsTo kinds bytes r next)
      → 0 < length rest → record_by kinds ((spell r.entry ++ tree_bytes r.tree) ++ rest) ≡ Err (Extra (length (spell r.entry ++ tree_bytes r.tree)))
  unfolding payload
  extra_after r rest reads_to some =
      let test : ltb (length (payload r)) (length (payload r ++ rest)) ≡ true = lt-ltb _ _ (omega (arith, length-append (payload r) rest)) in
      with_more r rest reads_to ∙ rw test refl

-- ---- the first version

old_started_again : (session booking : ℕ) (eligible bytes : List ℕ) (next : ℕ) → (session < 2 ^ 32) × (booking < 2 ^ 64) × AreWords eligible → Stands bytes 0 (old_entry_bytes 0 (Started session booking (one_band eligible) None)) next → ReadsTo old_record_of_kind bytes (record { entry = Started session booking (one_band eligible) None; tree = None }) next
unfolding old_entry_bytes old_record_of_kind old_started
old_started_again session booking eligible bytes next fits p =
    let S : List ℕ = to_be_bytes w32 session in
    let B : List ℕ = to_be_bytes w64 booking in
    let X : List ℕ = set_bytes (has eligible) in
    let fields : Stands bytes 1 (S ++ (B ++ X)) next = stand_second bytes 0 (1 ∷ []) (S ++ (B ++ X)) next p in
    let later : Stands bytes 5 (B ++ X) next = stand_second bytes 1 S (B ++ X) next fields in
    let last : Stands bytes 13 X next = stand_second bytes 5 B X next later in
    let session_read = number_read w32 (2 ^ 32) wide32 bytes 1 session 5 (stand_first bytes 1 S (B ++ X) next fields) fits.0 in
    let booking_read = number_read w64 (2 ^ 64) wide64 bytes 5 booking 13 (stand_first bytes 5 B X next later) fits.1 in
    let set_is_read = set_read bytes 13 eligible next fits.2 last in
    let end : 77 ≡ next = omega (arith, last.ends, numbers_len 64 8 (has eligible)) in
    (1, kind_read bytes 1 (S ++ (B ++ X)) next p, rw (session_read, booking_read, set_is_read) (ap (λ (n : ℕ). Ok (record { entry = Started session booking (one_band eligible) None; tree = None }, n)) end))

pub cause_read : (cause : Cause) (bytes : List ℕ) (at next : ℕ) → Stands bytes at (cause_byte cause ∷ []) next → (spent : Bool) × (flag_at bytes at ≡ Ok spent) × (cause_of spent ≡ cause)
cause_read NoForm bytes at next p = (false, flag_read bytes at false next p, refl)
cause_read Spent bytes at next p = (true, flag_read bytes at true next p, refl)

old_set_aside_again : (session : ℕ) (cause : Cause) (nodes : ℕ) (T : ProofTree) (bytes : List ℕ) (next : ℕ) → session < 2 ^ 32 → nodes ≡ length T.nodes → IsTree T → Stands bytes 0 (old_entry_bytes 0 (SetAside session 0 0 cause nodes) ++ bytes_of T) next → ReadsTo old_record_of_kind bytes (record { entry = SetAside session 0 0 cause nodes; tree = Some T }) next
unfolding old_entry_bytes old_record_of_kind old_set_aside
old_set_aside_again session cause nodes T bytes next fits number is p =
    let S : List ℕ = to_be_bytes w32 session in
    let N : List ℕ = to_be_bytes w16 nodes in
    let C : List ℕ = cause_byte cause ∷ [] in
    let few : nodes < 2 ^ 16 = omega (arith, number, is.shape.few_nodes) in
    let entry : Stands bytes 0 (2 ∷ (S ++ (C ++ N))) 8 = stand_first bytes 0 (2 ∷ (S ++ (C ++ N))) (bytes_of T) next p in
    let tree : Stands bytes 8 (bytes_of T) next = stand_second bytes 0 (2 ∷ (S ++ (C ++ N))) (bytes_of T) next p in
    let fields : Stands bytes 1 (S ++ (C ++ N)) 8 = stand_second bytes 0 (2 ∷ []) (S ++ (C ++ N)) 8 entry in
    let later : Stands bytes 5 (C ++ N) 8 = stand_second bytes 1 S (C ++ N) 8 fields in
    let last : Stands bytes 6 N 8 = stand_second bytes 5 C N 8 later in
    let session_read = number_read w32 (2 ^ 32) wide32 bytes 1 session 5 (stand_first bytes 1 S (C ++ N) 8 fields) fits in
    let cause_is_read = cause_read cause bytes 5 6 (stand_first bytes 5 C N 8 later) in
    let nodes_read = number_read w16 (2 ^ 16) wide16 bytes 6 nodes 8 last few in
    let tree_is_read = tree_read nodes bytes 8 T next (record { is_tree = is; stands = tree; number = number }) in
    (2, kind_read bytes 2 (S ++ (C ++ N)) 8 entry, rw (session_read, cause_is_read.1, nodes_read, tree_is_read, cause_is_read.2) refl)

pub old_shared_kind : (kind : ℕ) (bytes : List ℕ) → 3 ≤ kind → old_record_of_kind kind bytes ≡ shared_of_kind kind bytes
unfolding old_record_of_kind
old_shared_kind kind bytes some =
    let one : (kind == 1) ≡ false = ne_eqb kind 1 (λ e. absurd (omega (arith, e, some))) in
    let two : (kind == 2) ≡ false = ne_eqb kind 2 (λ e. absurd (omega (arith, e, some))) in
    rw (one, two) refl

pub old_kind_3 : (bytes : List ℕ) → old_record_of_kind 3 bytes ≡ served bytes
unfolding old_record_of_kind shared_of_kind
old_kind_3 bytes = refl

pub old_kind_4 : (bytes : List ℕ) → old_record_of_kind 4 bytes ≡ answered bytes
unfolding old_record_of_kind shared_of_kind
old_kind_4 bytes = refl

pub old_kind_5 : (bytes : List ℕ) → old_record_of_kind 5 bytes ≡ closed bytes
unfolding old_record_of_kind shared_of_kind
old_kind_5 bytes = refl

entry_again : (entry : Entry) (tree : Option ProofTree) (bytes : List ℕ) (next : ℕ) → GoesWith entry tree → IsInRange entry → IsTreeOrNone tree → Stands bytes 0 (old_entry_bytes 0 entry ++ tree_bytes tree) next → ReadsTo old_record_of_kind bytes (record { entry = old_entry 0 entry; tree = tree }) next
unfolding old_entry_bytes
entry_again (Started session booking eligible without) None bytes next goes fits is p = old_started_again session booking (get_or eligible.sets 0 []) bytes next (fits.0, fits.1, fits.2.each 0 (omega arith)) (alone bytes (old_entry_bytes 0 (Started session booking eligible without)) next p)
entry_again (Started session booking eligible without) (Some T) bytes next goes fits is p = absurd goes
entry_again (SetAside session step band cause nodes) None bytes next goes fits is p = absurd goes
entry_again (SetAside session step band cause nodes) (Some T) bytes next goes fits is p = old_set_aside_again session cause nodes T bytes next fits.0 goes is p
entry_again (Served session step item form proved nodes) None bytes next goes fits is p = absurd goes
entry_again (Served session step item form proved nodes) (Some T) bytes next goes fits is p = served_again old_record_of_kind old_kind_3 session step item form proved nodes T bytes next fits goes is p
entry_again (Answered session step response) None bytes next goes fits is p = answered_again old_record_of_kind old_kind_4 session step response bytes next fits (alone bytes (answered_bytes session step response) next p)
entry_again (Answered session step response) (Some T) bytes next goes fits is p = absurd goes
entry_again (Closed session) None bytes next goes fits is p = closed_again old_record_of_kind old_kind_5 session bytes next fits (alone bytes (closed_bytes session) next p)
entry_again (Closed session) (Some T) bytes next goes fits is p = absurd goes

pub old_reads_to : (r : Record) → IsOldRecord r → (bytes : List ℕ) (next : ℕ) → Stands bytes 0 (old_entry_bytes 0 r.entry ++ tree_bytes r.tree) next → ReadsTo old_record_of_kind bytes r next
old_reads_to r is bytes next p =
    subst (λ (e : Entry). ReadsTo old_record_of_kind bytes (record { entry = e; tree = r.tree }) next) is.all
    (entry_again r.entry r.tree bytes next is.is_record.goes_with is.is_record.fits is.is_record.tree p)

-- ---- the laws

pub all_is_read : (r : Record) → IsOldRecord r → old_record_of (old_payload_of 0 r) ≡ Ok r
unfolding old_record_of old_payload_of
all_is_read r is = read_again IsOldRecord (old_entry_bytes 0) old_record_of_kind r (old_reads_to r is)

pub written_is_read : (first : ℕ) (r : Record) → first < 8 → IsRecord r → old_record_of (old_payload_of first r) ≡ Ok (old_record first r)
written_is_read first r lt is = ap old_record_of (sym (kept_payload first r)) ∙ all_is_read (old_record first r) (kept_is_old first r lt is)

pub one_spelling : (payload : List ℕ) (r : Record) → IsBytes payload → old_record_of payload ≡ Ok r → IsOldRecord r × (payload ≡ old_payload_of 0 r)
unfolding old_record_of old_payload_of
one_spelling payload r fits e = found_whole IsOldRecord (old_entry_bytes 0) old_record_of_kind old_kind_found payload r fits e

pub no_two_records : (first : ℕ) (r s : Record) → first < 8 → IsRecord r → IsRecord s → old_payload_of first r ≡ old_payload_of first s → old_record first r ≡ old_record first s
no_two_records first r s lt is_r is_s same =
    ok_is {F = RecordFault} (old_record first r) (old_record first s) (sym (written_is_read first r lt is_r) ∙ (ap old_record_of same ∙ written_is_read first s lt is_s))

old_more : (r : Record) (rest : List ℕ) → IsOldRecord r → 0 < length rest → old_record_of (old_payload_of 0 r ++ rest) ≡ Err (Extra (length (old_payload_of 0 r)))
unfolding old_record_of old_payload_of
old_more r rest is some = extra_after IsOldRecord (old_entry_bytes 0) old_record_of_kind r rest (old_reads_to r is) some

pub more_is_told : (first : ℕ) (r : Record) (rest : List ℕ) → first < 8 → IsRecord r → 0 < length rest → old_record_of (old_payload_of first r ++ rest) ≡ Err (Extra (length (old_payload_of first r)))
more_is_told first r rest lt is some =
    subst (λ (p : List ℕ). old_record_of (p ++ rest) ≡ Err (Extra (length p))) (kept_payload first r) (old_more (old_record first r) rest (kept_is_old first r lt is) some)

-- ---- for decode_old

pub is_found : (payload : List ℕ) (r : Result Record RecordFault) → IsBytes payload → Gives Memory (λ (x : Record). x) r (old_record_of payload) → IfOk r (λ x. IsOldRecord x × (payload ≡ old_payload_of 0 x))
is_found payload (Ok x) fits given = one_spelling payload x fits given
is_found payload (Err e) fits given = tt

pub is_read : (r : Record) (payload : List ℕ) → IsOldRecord r → payload ≡ old_payload_of 0 r → old_record_of payload ≡ Ok r
is_read r payload is spelled = ap old_record_of spelled ∙ all_is_read r is

-- ---- how many bytes

whole_len : (first : ℕ) (entry : Entry) (tree : Option ProofTree) → GoesWith entry tree → IsTreeOrNone tree → (0 < length (old_entry_bytes first entry ++ tree_bytes tree)) × (length (old_entry_bytes first entry ++ tree_bytes tree) ≤ 98885)
unfolding old_entry_bytes
whole_len first (Started session booking eligible without) None goes is = (omega arith, omega (arith, length-append (set_bytes (has (get_or eligible.sets first []))) [], numbers_len 64 8 (has (get_or eligible.sets first []))))
whole_len first (Started session booking eligible without) (Some T) goes is = absurd goes
whole_len first (SetAside session step band cause nodes) None goes is = absurd goes
whole_len first (SetAside session step band cause nodes) (Some T) goes is = (omega arith, omega (arith, few_bytes T is))
whole_len first (Served session step item form proved nodes) None goes is = absurd goes
whole_len first (Served session step item form proved nodes) (Some T) goes is = (omega arith, omega (arith, length-append (set_bytes (has form) ++ mark_byte proved ∷ to_be_bytes w16 nodes) (bytes_of T), length-append (set_bytes (has form)) (mark_byte proved ∷ to_be_bytes w16 nodes), numbers_len 64 8 (has form), few_bytes T is))
whole_len first (Answered session step response) None goes is = (omega arith, omega arith)
whole_len first (Answered session step response) (Some T) goes is = absurd goes
whole_len first (Closed session) None goes is = (omega arith, omega arith)
whole_len first (Closed session) (Some T) goes is = absurd goes

-- a payload has some bytes, and not many
pub record_len : (first : ℕ) (r : Record) → GoesWith r.entry r.tree → IsTreeOrNone r.tree → (0 < length (old_payload_of first r)) × (length (old_payload_of first r) ≤ 98885)
unfolding old_payload_of
record_len first r goes tree = whole_len first r.entry r.tree goes tree
