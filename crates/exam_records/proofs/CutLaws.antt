-- The first bytes of a record, cut off anywhere before its end, are Short before the tree, and
-- within it the tree's own fault.
use Rattle.std.proofs.Common.{◌≡◌, ℕ, ◌+◌, ◌-◌, ◌^◌, ◌<◌, ◌≤◌, ◌⊎◌, inl, inr, Bool, true, false, ltb, List, [], ◌∷◌, ◌++◌, length, take, drop, get_or, Option, Some, None, Result, Ok, Err, refl, sym, ap, subst, ◌∙◌, arith, length-append}
use Rattle.std.specs.Int.{Width, w16, w32, w64, byte_len, to_be_bytes}
use Rattle.std.proofs.lemmas.Bool.{cases_lt, lt-ltb, le-ltb}
use Rattle.std.proofs.lemmas.List.{append-nil, drop-take, length-take-le}
use Rattle.std.proofs.Math.Seq.{take-append-add, drop-length}
use Rattle.bank_tables.specs.Items.{has, AreWords}
use Rattle.exam_text.specs.First.{◌>>=◌, unless, fault_where}
use Rattle.certificate_model.specs.ProofTrees.{ProofTree}
use Rattle.history_model.specs.declared.entry.Cause.{Cause}
use Rattle.history_model.specs.declared.entry.Cause.TheVariants.{NoForm, Spent}
use Rattle.history_model.specs.declared.entry.Entry.{Entry}
use Rattle.history_model.specs.declared.entry.Entry.TheVariants.{Started, SetAside, Served, Answered, Closed}
use Rattle.proof_tree.specs.declared.fault.TreeFault.{TreeFault}
use Rattle.proof_tree.specs.declared.fault.TreeFault.TheVariants as tree_fault
use Rattle.proof_tree.specs.Shape.{IsTree}
use Rattle.proof_tree.specs.Spelling.{bytes_of}
use Rattle.proof_tree.specs.Reading.{number_at, byte_at, read}
use Rattle.proof_tree.specs.Cuts.{IsCutOff as IsTreeCutOff}
use Rattle.proof_tree.proofs.Fields.{Stands, IsWide, stand_first, stand_second, wide16, wide32}
use Rattle.proof_tree.proofs.CutLaws.{cut_off_is_told as cut_off_tree_is_told}
use Rattle.exam_records.specs.declared.fault.RecordFault.{RecordFault}
use Rattle.exam_records.specs.declared.fault.RecordFault.TheVariants.{Short, Tree, Extra}
use Rattle.history_model.specs.Judging.{Record}
use Rattle.exam_records.specs.Shape.{GoesWith, IsInRange, IsTreeOrNone, IsRecord}
use Rattle.exam_records.specs.Old.{one_band, old_record, IsOldRecord}
use Rattle.exam_records.specs.Sets.{set_bytes}
use Rattle.exam_records.specs.Spelling.{cause_byte, mark_byte, served_bytes, answered_bytes, closed_bytes, tree_bytes, old_entry_bytes, old_payload_of}
use Rattle.exam_records.specs.Reading.{field, of_tree, set_at, flag_at, tree_at, served, answered, closed, record_by, old_started, old_set_aside, old_record_of_kind, old_record_of}
use Rattle.exam_records.specs.Cuts.{IsCutOff}
use Rattle.exam_records.proofs.SetLaws.{numbers_len}
use Rattle.exam_records.proofs.BandLaws.{kept_is_old, kept_payload, kept_entry_bytes}
use Rattle.exam_records.proofs.AgainLaws.{Kinds, alone, old_kind_3, old_kind_4, old_kind_5}
use Rattle.exam_records.proofs.FieldLaws.{wide64, number_read, byte_read, set_read, flag_read}

-- what was read up to `next` is read of the first k bytes too, or they are short
abbrev pub ReadsOrShort : {A : Type 0} → ℕ → ℕ → Result A RecordFault → A → Type 0
ReadsOrShort k next cut x = ((next ≤ k) × (cut ≡ Ok x)) ⊎ ((k < next) × (cut ≡ Err Short))

-- a field before the tree, and what follows
pub and_then : {A B : Type 0} (tree k next : ℕ) (r : Result A RecordFault) (x : A) (f : A → Result B RecordFault) → next ≤ tree → ReadsOrShort k next r x → (next ≤ k → IsCutOff tree k (f x)) → IsCutOff tree k (r >>= f)
and_then tree k next r x f le (inl h) g = rw h.1 (g h.0)
and_then tree k next r x f le (inr h) g = (λ _. rw h.1 refl, λ behind. absurd (omega (arith, h.0)))

-- what was cut off stays so
pub and_stays : {A B : Type 0} (tree k : ℕ) (r : Result A RecordFault) (f : A → Result B RecordFault) → IsCutOff tree k r → IsCutOff tree k (r >>= f)
and_stays tree k r f h = (λ lt. rw (h.0 lt) refl, λ le. let t = h.1 le in (t.0, rw t.1 refl, t.2))

-- nothing follows in a record without a tree
pub no_tree : {A : Type 0} (tree k : ℕ) (r : Result A RecordFault) → k < tree → tree ≤ k → IsCutOff tree k r
no_tree tree k r lt le = absurd (omega arith)

-- ---- fields

-- a text within the first k bytes is at the same place in them alone
stands_cut : (bytes : List ℕ) (k at : ℕ) (text : List ℕ) (next : ℕ) → k ≤ length bytes → next ≤ k → Stands bytes at text next → Stands (take k bytes) at text next
stands_cut bytes k at text next kb le p =
    let whole : at + (k - at) ≡ k = omega (arith, p.ends) in
    let rest : next + (k - next) ≡ k = omega arith in
    let front : drop at (take k bytes) ≡ take (k - at) (drop at bytes) = subst (λ (n : ℕ). drop at (take n bytes) ≡ take (k - at) (drop at bytes)) whole (drop-take at (k - at) bytes) in
    let behind : drop next (take k bytes) ≡ take (k - next) (drop next bytes) = subst (λ (n : ℕ). drop next (take n bytes) ≡ take (k - next) (drop next bytes)) rest (drop-take next (k - next) bytes) in
    let sum : k - at ≡ length text + (k - next) = omega (arith, p.ends) in
    record {
      parts = front ∙ (ap (take (k - at)) p.parts ∙ (ap (λ (n : ℕ). take n (text ++ drop next bytes)) sum ∙ (take-append-add text (drop next bytes) (k - next) ∙ ap (λ (t : List ℕ). text ++ t) (sym behind))));
      ends = p.ends;
    }

pub cut_number : (w : Width) (limit : ℕ) (wide : IsWide w limit) (bytes : List ℕ) (k at n next : ℕ) → k ≤ length bytes → n < limit → Stands bytes at (to_be_bytes w n) next → ReadsOrShort k next (field (number_at w (take k bytes) at)) n
cut_number w limit wide bytes k at n next kb lt p =
    let len : length (take k bytes) ≡ k = length-take-le k bytes kb in
    elim (cases_lt k next) [
      | inl past ↦ (let test : ltb k (at + byte_len w) ≡ true = lt-ltb _ _ (omega (arith, p.ends, wide.len n)) in inr (past, rw (len, test) refl))
      | inr le ↦ inl (le, number_read w limit wide (take k bytes) at n next (stands_cut bytes k at (to_be_bytes w n) next kb le p) lt)
    ]

pub cut_byte : (bytes : List ℕ) (k at b next : ℕ) → k ≤ length bytes → Stands bytes at (b ∷ []) next → ReadsOrShort k next (field (byte_at (take k bytes) at)) b
cut_byte bytes k at b next kb p =
    let len : length (take k bytes) ≡ k = length-take-le k bytes kb in
    elim (cases_lt k next) [
      | inl past ↦ (let test : ltb at k ≡ false = le-ltb _ _ (omega (arith, p.ends)) in inr (past, rw (len, test) refl))
      | inr le ↦ inl (le, byte_read (take k bytes) at b next (stands_cut bytes k at (b ∷ []) next kb le p))
    ]

pub cut_set : (bytes : List ℕ) (k at : ℕ) (words : List ℕ) (next : ℕ) → k ≤ length bytes → AreWords words → Stands bytes at (set_bytes (has words)) next → ReadsOrShort k next (set_at (take k bytes) at) words
unfolding set_at
cut_set bytes k at words next kb are p =
    let len : length (take k bytes) ≡ k = length-take-le k bytes kb in
    elim (cases_lt k next) [
      | inl past ↦ (let test : ltb k (at + 64) ≡ true = lt-ltb _ _ (omega (arith, p.ends, numbers_len 64 8 (has words))) in inr (past, rw (len, test) refl))
      | inr le ↦ inl (le, set_read (take k bytes) at words next are (stands_cut bytes k at (set_bytes (has words)) next kb le p))
    ]

cut_flag : (bytes : List ℕ) (k at : ℕ) (flag : Bool) (next : ℕ) → k ≤ length bytes → Stands bytes at (mark_byte flag ∷ []) next → ReadsOrShort k next (flag_at (take k bytes) at) flag
unfolding flag_at
cut_flag bytes k at flag next kb p =
    let len : length (take k bytes) ≡ k = length-take-le k bytes kb in
    elim (cases_lt k next) [
      | inl past ↦ (let test : ltb at k ≡ false = le-ltb _ _ (omega (arith, p.ends)) in inr (past, rw (len, test) refl))
      | inr le ↦ inl (le, flag_read (take k bytes) at flag next (stands_cut bytes k at (mark_byte flag ∷ []) next kb le p))
    ]

-- ---- the tree

of_cut_tree : {A : Type 0} (k : ℕ) (r : Result A TreeFault) → IsTreeCutOff k r → (fault : TreeFault) × (of_tree r ≡ Err (Tree fault)) × ((fault ≡ tree_fault.Short) ⊎ (fault ≡ tree_fault.Unfinished k))
of_cut_tree k r (inl e) = (tree_fault.Short, ap of_tree e, inl refl)
of_cut_tree k r (inr e) = (tree_fault.Unfinished k, ap of_tree e, inr refl)

pub cut_tree : (nodes : ℕ) (bytes : List ℕ) (k at : ℕ) (T : ProofTree) → IsTree T → k < length bytes → at ≤ k → Stands bytes at (bytes_of T) (length bytes) → IsCutOff at k (tree_at nodes (take k bytes) at)
unfolding tree_at
cut_tree nodes bytes k at T is lt le p =
    let whole : at + (k - at) ≡ k = omega arith in
    let none : drop (length bytes) bytes ≡ [] = drop-length bytes in
    let there : drop at bytes ≡ bytes_of T = p.parts ∙ (ap (λ (t : List ℕ). bytes_of T ++ t) none ∙ append-nil (bytes_of T)) in
    let front : drop at (take k bytes) ≡ take (k - at) (bytes_of T) = subst (λ (n : ℕ). drop at (take n bytes) ≡ take (k - at) (drop at bytes)) whole (drop-take at (k - at) bytes) ∙ ap (take (k - at)) there in
    let cut = of_cut_tree (k - at) (read (take (k - at) (bytes_of T))) (cut_off_tree_is_told T (k - at) is (omega (arith, p.ends))) in
    (λ before. absurd (omega arith), λ _. (cut.0, rw (front, cut.1) refl, cut.2))

-- ---- each kind

-- the first byte, and the fields after it
pub from_kind : (kinds : Kinds) (bytes : List ℕ) (k kind tree : ℕ) → k ≤ length bytes → 1 ≤ tree → Stands bytes 0 (kind ∷ []) 1 → (1 ≤ k → IsCutOff tree k (kinds kind (take k bytes))) → IsCutOff tree k (record_by kinds (take k bytes))
unfolding record_by
from_kind kinds bytes k kind tree kb some p g =
    and_then tree k 1 (field (byte_at (take k bytes) 0)) kind (λ first. kinds first (take k bytes) >>= λ found. unless (fault_where (ltb found.1 (length (take k bytes))) (Extra found.1)) (Ok found.0)) some (cut_byte bytes k 0 kind 1 kb p)
    (λ le. and_stays tree k (kinds kind (take k bytes)) (λ found. unless (fault_where (ltb found.1 (length (take k bytes))) (Extra found.1)) (Ok found.0)) (g le))

pub cut_served : (kinds : Kinds) → ((bytes : List ℕ) → kinds 3 bytes ≡ served bytes) → (session step item : ℕ) (form : List ℕ) (proved : Bool) (nodes : ℕ) (T : ProofTree) (bytes : List ℕ) (k : ℕ) → k < length bytes → (session < 2 ^ 32) × (step < 2 ^ 16) × (item < 2 ^ 16) × AreWords form → nodes ≡ length T.nodes → IsTree T → Stands bytes 0 (served_bytes session step item form proved nodes ++ bytes_of T) (length bytes) → IsCutOff (length (served_bytes session step item form proved nodes)) k (record_by kinds (take k bytes))
unfolding served
cut_served kinds is_kind session step item form proved nodes T bytes k lt fits number is p =
    let S : List ℕ = to_be_bytes w32 session in
    let P : List ℕ = to_be_bytes w16 step in
    let I : List ℕ = to_be_bytes w16 item in
    let X : List ℕ = set_bytes (has form) in
    let M : List ℕ = mark_byte proved ∷ [] in
    let N : List ℕ = to_be_bytes w16 nodes in
    let kb : k ≤ length bytes = omega (arith, lt) in
    let few : nodes < 2 ^ 16 = omega (arith, number, is.shape.few_nodes) in
    let len : 0 + length (3 ∷ (S ++ (P ++ (I ++ (X ++ (M ++ N)))))) ≡ 76 = omega (arith, length-append X (M ++ N), numbers_len 64 8 (has form)) in
    let start = stand_first bytes 0 (3 ∷ (S ++ (P ++ (I ++ (X ++ (M ++ N)))))) (bytes_of T) (length bytes) p in
    let entry : Stands bytes 0 (3 ∷ (S ++ (P ++ (I ++ (X ++ (M ++ N)))))) 76 = subst (λ (n : ℕ). Stands bytes 0 (3 ∷ (S ++ (P ++ (I ++ (X ++ (M ++ N)))))) n) len start in
    let behind = stand_second bytes 0 (3 ∷ (S ++ (P ++ (I ++ (X ++ (M ++ N)))))) (bytes_of T) (length bytes) p in
    let tree : Stands bytes 76 (bytes_of T) (length bytes) = subst (λ (n : ℕ). Stands bytes n (bytes_of T) (length bytes)) len behind in
    let fields : Stands bytes 1 (S ++ (P ++ (I ++ (X ++ (M ++ N))))) 76 = stand_second bytes 0 (3 ∷ []) (S ++ (P ++ (I ++ (X ++ (M ++ N))))) 76 entry in
    let from_step : Stands bytes 5 (P ++ (I ++ (X ++ (M ++ N)))) 76 = stand_second bytes 1 S (P ++ (I ++ (X ++ (M ++ N)))) 76 fields in
    let from_item : Stands bytes 7 (I ++ (X ++ (M ++ N))) 76 = stand_second bytes 5 P (I ++ (X ++ (M ++ N))) 76 from_step in
    let from_form : Stands bytes 9 (X ++ (M ++ N)) 76 = stand_second bytes 7 I (X ++ (M ++ N)) 76 from_item in
    let set_len : 9 + length X ≡ 73 = omega (arith, numbers_len 64 8 (has form)) in
    let form_there : Stands bytes 9 X 73 = subst (λ (n : ℕ). Stands bytes 9 X n) set_len (stand_first bytes 9 X (M ++ N) 76 from_form) in
    let from_mark : Stands bytes 73 (M ++ N) 76 = subst (λ (n : ℕ). Stands bytes n (M ++ N) 76) set_len (stand_second bytes 9 X (M ++ N) 76 from_form) in
    let last : Stands bytes 74 N 76 = stand_second bytes 73 M N 76 from_mark in
    let cut : IsCutOff 76 k (record_by kinds (take k bytes)) = from_kind kinds bytes k 3 76 kb (omega arith) (stand_first bytes 0 (3 ∷ []) (S ++ (P ++ (I ++ (X ++ (M ++ N))))) 76 entry) (λ _. subst (λ (x : Result (Record × ℕ) RecordFault). IsCutOff 76 k x) (sym (is_kind (take k bytes))) (
    and_then 76 k 5 (field (number_at w32 (take k bytes) 1)) session _ (omega arith) (cut_number w32 (2 ^ 32) wide32 bytes k 1 session 5 kb fits.0 (stand_first bytes 1 S (P ++ (I ++ (X ++ (M ++ N)))) 76 fields)) (λ _.
    and_then 76 k 7 (field (number_at w16 (take k bytes) 5)) step _ (omega arith) (cut_number w16 (2 ^ 16) wide16 bytes k 5 step 7 kb fits.1 (stand_first bytes 5 P (I ++ (X ++ (M ++ N))) 76 from_step)) (λ _.
    and_then 76 k 9 (field (number_at w16 (take k bytes) 7)) item _ (omega arith) (cut_number w16 (2 ^ 16) wide16 bytes k 7 item 9 kb fits.2 (stand_first bytes 7 I (X ++ (M ++ N)) 76 from_item)) (λ _.
    and_then 76 k 73 (set_at (take k bytes) 9) form _ (omega arith) (cut_set bytes k 9 form 73 kb fits.3 form_there) (λ _.
    and_then 76 k 74 (flag_at (take k bytes) 73) proved _ (omega arith) (cut_flag bytes k 73 proved 74 kb (stand_first bytes 73 M N 76 from_mark)) (λ _.
    and_then 76 k 76 (field (number_at w16 (take k bytes) 74)) nodes _ (omega arith) (cut_number w16 (2 ^ 16) wide16 bytes k 74 nodes 76 kb few last) (λ le.
    and_stays 76 k (tree_at nodes (take k bytes) 76) _ (cut_tree nodes bytes k 76 T is lt le tree))))))))) in
    let whole : 76 ≡ length (3 ∷ (S ++ (P ++ (I ++ (X ++ (M ++ N)))))) = omega (arith, len) in
    subst (λ (n : ℕ). IsCutOff n k (record_by kinds (take k bytes))) whole cut

pub cut_answered : (kinds : Kinds) → ((bytes : List ℕ) → kinds 4 bytes ≡ answered bytes) → (session step response : ℕ) (bytes : List ℕ) (k : ℕ) → k < length bytes → (session < 2 ^ 32) × (step < 2 ^ 16) × (response < 2 ^ 8) → Stands bytes 0 (answered_bytes session step response) (length bytes) → IsCutOff (length (answered_bytes session step response)) k (record_by kinds (take k bytes))
unfolding answered
cut_answered kinds is_kind session step response bytes k lt fits p =
    let S : List ℕ = to_be_bytes w32 session in
    let P : List ℕ = to_be_bytes w16 step in
    let R : List ℕ = response ∷ [] in
    let kb : k ≤ length bytes = omega (arith, lt) in
    let fields : Stands bytes 1 (S ++ (P ++ R)) (length bytes) = stand_second bytes 0 (4 ∷ []) (S ++ (P ++ R)) (length bytes) p in
    let later : Stands bytes 5 (P ++ R) (length bytes) = stand_second bytes 1 S (P ++ R) (length bytes) fields in
    let last : Stands bytes 7 R (length bytes) = stand_second bytes 5 P R (length bytes) later in
    let end : length bytes ≡ 8 = omega (arith, last.ends) in
    from_kind kinds bytes k 4 8 kb (omega arith) (stand_first bytes 0 (4 ∷ []) (S ++ (P ++ R)) (length bytes) p) (λ _. subst (λ (x : Result (Record × ℕ) RecordFault). IsCutOff 8 k x) (sym (is_kind (take k bytes))) (
    and_then 8 k 5 (field (number_at w32 (take k bytes) 1)) session _ (omega arith) (cut_number w32 (2 ^ 32) wide32 bytes k 1 session 5 kb fits.0 (stand_first bytes 1 S (P ++ R) (length bytes) fields)) (λ _.
    and_then 8 k 7 (field (number_at w16 (take k bytes) 5)) step _ (omega arith) (cut_number w16 (2 ^ 16) wide16 bytes k 5 step 7 kb fits.1 (stand_first bytes 5 P R (length bytes) later)) (λ _.
    and_then 8 k (length bytes) (field (byte_at (take k bytes) 7)) response _ (omega (arith, end)) (cut_byte bytes k 7 response (length bytes) kb last) (λ le. no_tree 8 k _ (omega (arith, lt, end)) (omega (arith, le, end)))))))

pub cut_closed : (kinds : Kinds) → ((bytes : List ℕ) → kinds 5 bytes ≡ closed bytes) → (session : ℕ) (bytes : List ℕ) (k : ℕ) → k < length bytes → session < 2 ^ 32 → Stands bytes 0 (closed_bytes session) (length bytes) → IsCutOff (length (closed_bytes session)) k (record_by kinds (take k bytes))
unfolding closed
cut_closed kinds is_kind session bytes k lt fits p =
    let S : List ℕ = to_be_bytes w32 session in
    let kb : k ≤ length bytes = omega (arith, lt) in
    let fields : Stands bytes 1 S (length bytes) = stand_second bytes 0 (5 ∷ []) S (length bytes) p in
    let end : length bytes ≡ 5 = omega (arith, fields.ends) in
    from_kind kinds bytes k 5 5 kb (omega arith) (stand_first bytes 0 (5 ∷ []) S (length bytes) p) (λ _. subst (λ (x : Result (Record × ℕ) RecordFault). IsCutOff 5 k x) (sym (is_kind (take k bytes))) (
    and_then 5 k (length bytes) (field (number_at w32 (take k bytes) 1)) session _ (omega (arith, end)) (cut_number w32 (2 ^ 32) wide32 bytes k 1 session (length bytes) kb fits fields) (λ le. no_tree 5 k _ (omega (arith, lt, end)) (omega (arith, le, end)))))

-- ---- the first version

cut_old_started : (session booking : ℕ) (eligible bytes : List ℕ) (k : ℕ) → k < length bytes → (session < 2 ^ 32) × (booking < 2 ^ 64) × AreWords eligible → Stands bytes 0 (old_entry_bytes 0 (Started session booking (one_band eligible) None)) (length bytes) → IsCutOff (length (old_entry_bytes 0 (Started session booking (one_band eligible) None))) k (record_by old_record_of_kind (take k bytes))
unfolding old_entry_bytes old_record_of_kind old_started
cut_old_started session booking eligible bytes k lt fits p =
    let S : List ℕ = to_be_bytes w32 session in
    let B : List ℕ = to_be_bytes w64 booking in
    let X : List ℕ = set_bytes (has eligible) in
    let kb : k ≤ length bytes = omega (arith, lt) in
    let fields : Stands bytes 1 (S ++ (B ++ X)) (length bytes) = stand_second bytes 0 (1 ∷ []) (S ++ (B ++ X)) (length bytes) p in
    let later : Stands bytes 5 (B ++ X) (length bytes) = stand_second bytes 1 S (B ++ X) (length bytes) fields in
    let last : Stands bytes 13 X (length bytes) = stand_second bytes 5 B X (length bytes) later in
    let len = numbers_len 64 8 (has eligible) in
    let end : length bytes ≡ 77 = omega (arith, last.ends, len) in
    let whole : 77 ≡ length (1 ∷ (S ++ (B ++ X))) = omega (arith, len) in
    let cut : IsCutOff 77 k (record_by old_record_of_kind (take k bytes)) = from_kind old_record_of_kind bytes k 1 77 kb (omega arith) (stand_first bytes 0 (1 ∷ []) (S ++ (B ++ X)) (length bytes) p) (λ _.
    and_then 77 k 5 (field (number_at w32 (take k bytes) 1)) session _ (omega arith) (cut_number w32 (2 ^ 32) wide32 bytes k 1 session 5 kb fits.0 (stand_first bytes 1 S (B ++ X) (length bytes) fields)) (λ _.
    and_then 77 k 13 (field (number_at w64 (take k bytes) 5)) booking _ (omega arith) (cut_number w64 (2 ^ 64) wide64 bytes k 5 booking 13 kb fits.1 (stand_first bytes 5 B X (length bytes) later)) (λ _.
    and_then 77 k (length bytes) (set_at (take k bytes) 13) eligible _ (omega (arith, end)) (cut_set bytes k 13 eligible (length bytes) kb fits.2 last) (λ le. no_tree 77 k _ (omega (arith, lt, end)) (omega (arith, le, end)))))) in
    subst (λ (n : ℕ). IsCutOff n k (record_by old_record_of_kind (take k bytes))) whole cut

pub cause_cut : (cause : Cause) (bytes : List ℕ) (k at next : ℕ) → k ≤ length bytes → Stands bytes at (cause_byte cause ∷ []) next → (spent : Bool) × ReadsOrShort k next (flag_at (take k bytes) at) spent
cause_cut NoForm bytes k at next kb p = (false, cut_flag bytes k at false next kb p)
cause_cut Spent bytes k at next kb p = (true, cut_flag bytes k at true next kb p)

cut_old_set_aside : (session : ℕ) (cause : Cause) (nodes : ℕ) (T : ProofTree) (bytes : List ℕ) (k : ℕ) → k < length bytes → session < 2 ^ 32 → nodes ≡ length T.nodes → IsTree T → Stands bytes 0 (old_entry_bytes 0 (SetAside session 0 0 cause nodes) ++ bytes_of T) (length bytes) → IsCutOff (length (old_entry_bytes 0 (SetAside session 0 0 cause nodes))) k (record_by old_record_of_kind (take k bytes))
unfolding old_entry_bytes old_record_of_kind old_set_aside
cut_old_set_aside session cause nodes T bytes k lt fits number is p =
    let S : List ℕ = to_be_bytes w32 session in
    let N : List ℕ = to_be_bytes w16 nodes in
    let C : List ℕ = cause_byte cause ∷ [] in
    let kb : k ≤ length bytes = omega (arith, lt) in
    let few : nodes < 2 ^ 16 = omega (arith, number, is.shape.few_nodes) in
    let entry : Stands bytes 0 (2 ∷ (S ++ (C ++ N))) 8 = stand_first bytes 0 (2 ∷ (S ++ (C ++ N))) (bytes_of T) (length bytes) p in
    let tree : Stands bytes 8 (bytes_of T) (length bytes) = stand_second bytes 0 (2 ∷ (S ++ (C ++ N))) (bytes_of T) (length bytes) p in
    let fields : Stands bytes 1 (S ++ (C ++ N)) 8 = stand_second bytes 0 (2 ∷ []) (S ++ (C ++ N)) 8 entry in
    let later : Stands bytes 5 (C ++ N) 8 = stand_second bytes 1 S (C ++ N) 8 fields in
    let last : Stands bytes 6 N 8 = stand_second bytes 5 C N 8 later in
    let flag = cause_cut cause bytes k 5 6 kb (stand_first bytes 5 C N 8 later) in
    from_kind old_record_of_kind bytes k 2 8 kb (omega arith) (stand_first bytes 0 (2 ∷ []) (S ++ (C ++ N)) 8 entry) (λ _.
    and_then 8 k 5 (field (number_at w32 (take k bytes) 1)) session _ (omega arith) (cut_number w32 (2 ^ 32) wide32 bytes k 1 session 5 kb fits (stand_first bytes 1 S (C ++ N) 8 fields)) (λ _.
    and_then 8 k 6 (flag_at (take k bytes) 5) flag.0 _ (omega arith) flag.1 (λ _.
    and_then 8 k 8 (field (number_at w16 (take k bytes) 6)) nodes _ (omega arith) (cut_number w16 (2 ^ 16) wide16 bytes k 6 nodes 8 kb few last) (λ le.
    and_stays 8 k (tree_at nodes (take k bytes) 8) _ (cut_tree nodes bytes k 8 T is lt le tree)))))

cut_entry : (entry : Entry) (tree : Option ProofTree) (bytes : List ℕ) (k : ℕ) → GoesWith entry tree → IsInRange entry → IsTreeOrNone tree → k < length bytes → Stands bytes 0 (old_entry_bytes 0 entry ++ tree_bytes tree) (length bytes) → IsCutOff (length (old_entry_bytes 0 entry)) k (record_by old_record_of_kind (take k bytes))
unfolding old_entry_bytes
cut_entry (Started session booking eligible without) None bytes k goes fits is lt p = cut_old_started session booking (get_or eligible.sets 0 []) bytes k lt (fits.0, fits.1, fits.2.each 0 (omega arith)) (alone bytes (old_entry_bytes 0 (Started session booking eligible without)) (length bytes) p)
cut_entry (Started session booking eligible without) (Some T) bytes k goes fits is lt p = absurd goes
cut_entry (SetAside session step band cause nodes) None bytes k goes fits is lt p = absurd goes
cut_entry (SetAside session step band cause nodes) (Some T) bytes k goes fits is lt p = cut_old_set_aside session cause nodes T bytes k lt fits.0 goes is p
cut_entry (Served session step item form proved nodes) None bytes k goes fits is lt p = absurd goes
cut_entry (Served session step item form proved nodes) (Some T) bytes k goes fits is lt p = cut_served old_record_of_kind old_kind_3 session step item form proved nodes T bytes k lt fits goes is p
cut_entry (Answered session step response) None bytes k goes fits is lt p = cut_answered old_record_of_kind old_kind_4 session step response bytes k lt fits (alone bytes (answered_bytes session step response) (length bytes) p)
cut_entry (Answered session step response) (Some T) bytes k goes fits is lt p = absurd goes
cut_entry (Closed session) None bytes k goes fits is lt p = cut_closed old_record_of_kind old_kind_5 session bytes k lt fits (alone bytes (closed_bytes session) (length bytes) p)
cut_entry (Closed session) (Some T) bytes k goes fits is lt p = absurd goes

old_cut : (r : Record) (k : ℕ) → IsOldRecord r → k < length (old_payload_of 0 r) → IsCutOff (length (old_entry_bytes 0 r.entry)) k (old_record_of (take k (old_payload_of 0 r)))
unfolding old_payload_of old_record_of
old_cut r k is lt =
    let payload : List ℕ = old_entry_bytes 0 r.entry ++ tree_bytes r.tree in
    let p : Stands payload 0 payload (length payload) = record { parts = sym (ap (λ (t : List ℕ). payload ++ t) (drop-length payload) ∙ append-nil payload); ends = omega arith } in
    cut_entry r.entry r.tree payload k is.is_record.goes_with is.is_record.fits is.is_record.tree lt p

pub cut_off_is_told : (first : ℕ) (r : Record) (k : ℕ) → first < 8 → IsRecord r → k < length (old_payload_of first r) → IsCutOff (length (old_entry_bytes first r.entry)) k (old_record_of (take k (old_payload_of first r)))
cut_off_is_told first r k below is lt =
    let same = kept_payload first r in
    subst (λ (p : List ℕ). IsCutOff (length (old_entry_bytes first r.entry)) k (old_record_of (take k p))) same
    (subst (λ (e : List ℕ). IsCutOff (length e) k (old_record_of (take k (old_payload_of 0 (old_record first r))))) (kept_entry_bytes first r.entry)
    (old_cut (old_record first r) k (kept_is_old first r below is) (subst (λ (p : List ℕ). k < length p) (sym same) lt)))
