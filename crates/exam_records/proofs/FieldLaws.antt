-- A field that is read is the field that was written there, and what was written is read.
use Rattle.std.proofs.Common.{◌≡◌, ℕ, ◌+◌, ◌-◌, ◌^◌, ◌<◌, ◌≤◌, ◌==◌, Bool, true, false, not, cond, ltb, List, [], ◌∷◌, ◌++◌, length, take, drop, Result, Ok, Err, refl, sym, ap, subst, ◌∙◌, arith, inl, inr}
use Rattle.std.specs.Int.{Width, w64, byte_len, to_be_bytes}
use Rattle.std.proofs.lemmas.Bool.{ltb-false, le-ltb, eqb-true, eq-eqb, cases_eq}
use Rattle.std.proofs.lemmas.List.{take-append-drop, drop-drop, get_or-drop}
use Rattle.std.proofs.lemmas.Nat.{be_bytes_8, from_be_bytes-to_be_bytes_8}
use Rattle.bank_tables.specs.Items.{has, AreWords}
use Rattle.exam_text.specs.First.{unless, fault_where}
use Rattle.exam_text.proofs.Firsts.{bind_ok, unless_ok, none_where, ok_is}
use Rattle.certificate_model.specs.ProofTrees.{ProofTree}
use Rattle.proof_tree.specs.declared.fault.TreeFault.{TreeFault}
use Rattle.proof_tree.specs.Shape.{IsTree}
use Rattle.proof_tree.specs.Spelling.{bytes_of}
use Rattle.proof_tree.specs.Reading.{number_at, byte_at, read}
use Rattle.proof_tree.proofs.Fields.{IsBytes, Stands, IsWide, stands_within, number_stands, number_again, byte_stands, byte_again}
use Rattle.proof_tree.proofs.TreeLaws.{read_stands, read_again}
use Rattle.exam_records.specs.declared.fault.RecordFault.{RecordFault}
use Rattle.exam_records.specs.declared.fault.RecordFault.TheVariants.{Short, Field}
use Rattle.exam_records.specs.Sets.{set_bytes, words_of, items_at}
use Rattle.exam_records.specs.Spelling.{mark_byte}
use Rattle.exam_records.specs.Reading.{field, of_tree, set_at, flag_at, tree_at}
use Rattle.exam_records.proofs.SetLaws.{numbers_len, are_words, set_bytes_again, set_items_again}

pub field_ok : {A : Type 0} (r : Result A TreeFault) (x : A) → field r ≡ Ok x → r ≡ Ok x
field_ok (Ok y) x e = ap Ok (ok_is {F = RecordFault} y x e)
field_ok (Err f) x e = absurd cc

pub of_tree_ok : {A : Type 0} (r : Result A TreeFault) (x : A) → of_tree r ≡ Ok x → r ≡ Ok x
of_tree_ok (Ok y) x e = ap Ok (ok_is {F = RecordFault} y x e)
of_tree_ok (Err f) x e = absurd cc

-- a number of eight bytes
pub wide64 : IsWide w64 (2 ^ 64)
wide64 = record {
  some = omega arith;
  len = λ n. refl;
  back = λ bytes len fits. be_bytes_8 bytes _ len fits refl;
  again = λ n lt. from_be_bytes-to_be_bytes_8 n lt;
  below = λ bytes fits. omega (arith, fits 0, fits 1, fits 2, fits 3, fits 4, fits 5, fits 6, fits 7);
}

-- ---- numbers and bytes

pub number_found : (w : Width) (limit : ℕ) (wide : IsWide w limit) (bytes : List ℕ) (at n : ℕ) → IsBytes bytes → field (number_at w bytes at) ≡ Ok n → Stands bytes at (to_be_bytes w n) (at + byte_len w) × (n < limit)
number_found w limit wide bytes at n fits e = number_stands w limit wide bytes at n fits (field_ok (number_at w bytes at) n e)

pub number_read : (w : Width) (limit : ℕ) (wide : IsWide w limit) (bytes : List ℕ) (at n next : ℕ) → Stands bytes at (to_be_bytes w n) next → n < limit → field (number_at w bytes at) ≡ Ok n
number_read w limit wide bytes at n next p lt = ap field (number_again w limit wide bytes at n next p lt)

pub byte_found : (bytes : List ℕ) (at b : ℕ) → IsBytes bytes → field (byte_at bytes at) ≡ Ok b → Stands bytes at (b ∷ []) (at + 1) × (b < 256)
byte_found bytes at b fits e = byte_stands bytes at b fits (field_ok (byte_at bytes at) b e)

pub byte_read : (bytes : List ℕ) (at b next : ℕ) → Stands bytes at (b ∷ []) next → field (byte_at bytes at) ≡ Ok b
byte_read bytes at b next p = ap field (byte_again bytes at b next p)

-- ---- sets

guard_ok : {A : Type 0} (b : Bool) (d : RecordFault) (x y : A) → cond b (Err d) (Ok x) ≡ Ok y → (b ≡ false) × (x ≡ y)
guard_ok true d x y e = absurd cc
guard_ok false d x y e = (refl, cc)

pub set_found : (bytes : List ℕ) (at : ℕ) (words : List ℕ) → IsBytes bytes → set_at bytes at ≡ Ok words → Stands bytes at (set_bytes (has words)) (at + 64) × AreWords words
unfolding set_at
set_found bytes at words fits e =
    let g = guard_ok (ltb (length bytes) (at + 64)) Short (words_of (items_at bytes at)) words e in
    let there : at + 64 ≤ length bytes = ltb-false _ _ g.0 in
    let text = set_bytes_again bytes at fits there in
    let stands : Stands bytes at (set_bytes (has (words_of (items_at bytes at)))) (at + 64) = record {
      parts = sym (ap (λ (t : List ℕ). t ++ drop (at + 64) bytes) text ∙ (ap (λ (t : List ℕ). take 64 (drop at bytes) ++ t) (sym (drop-drop 64 at bytes)) ∙ take-append-drop 64 (drop at bytes)));
      ends = omega (arith, numbers_len 64 8 (has (words_of (items_at bytes at))));
    } in
    subst (λ (ws : List ℕ). Stands bytes at (set_bytes (has ws)) (at + 64) × AreWords ws) g.1 (stands, are_words (items_at bytes at))

pub set_read : (bytes : List ℕ) (at : ℕ) (words : List ℕ) (next : ℕ) → AreWords words → Stands bytes at (set_bytes (has words)) next → set_at bytes at ≡ Ok words
unfolding set_at
set_read bytes at words next are p =
    let len = numbers_len 64 8 (has words) in
    let within = stands_within bytes at (set_bytes (has words)) next p (omega (arith, len)) in
    let long : ltb (length bytes) (at + 64) ≡ false = le-ltb _ _ (omega (arith, p.ends, len, within)) in
    rw (long, set_items_again bytes at words next are p) refl

-- ---- flags

flag_byte : (byte : ℕ) → byte ≤ 1 → mark_byte (byte == 1) ≡ byte
flag_byte byte le = elim (cases_eq byte 0) [ inl none ↦ rw none refl | inr some ↦ (let one : byte ≡ 1 = omega (arith, some) in rw one refl) ]

pub flag_found : (bytes : List ℕ) (at : ℕ) (flag : Bool) → IsBytes bytes → flag_at bytes at ≡ Ok flag → Stands bytes at (mark_byte flag ∷ []) (at + 1)
unfolding flag_at
flag_found bytes at flag fits e =
    let a = bind_ok (field (byte_at bytes at)) (λ byte. unless (fault_where (ltb 1 byte) (Field at)) (Ok (byte == 1))) flag e in
    let u = unless_ok (fault_where (ltb 1 a.0) (Field at)) (Ok (a.0 == 1)) flag a.2 in
    let few : a.0 ≤ 1 = ltb-false _ _ (none_where (ltb 1 a.0) (Field at) u.0) in
    let here = byte_found bytes at a.0 fits a.1 in
    let same : mark_byte flag ≡ a.0 = ap mark_byte (sym (ok_is {F = RecordFault} (a.0 == 1) flag u.1)) ∙ flag_byte a.0 few in
    subst (λ (b : ℕ). Stands bytes at (b ∷ []) (at + 1)) (sym same) here.0

pub flag_read : (bytes : List ℕ) (at : ℕ) (flag : Bool) (next : ℕ) → Stands bytes at (mark_byte flag ∷ []) next → flag_at bytes at ≡ Ok flag
unfolding flag_at
flag_read bytes at true next p = rw (byte_read bytes at 1 next p) refl
flag_read bytes at false next p = rw (byte_read bytes at 0 next p) refl

-- ---- trees

bytes_behind : (n : ℕ) (bytes : List ℕ) → IsBytes bytes → IsBytes (drop n bytes)
bytes_behind n bytes fits i = rw get_or-drop (fits (n + i))

-- a text at the front of the bytes from a place on is at that place
pub stands_behind : (bytes : List ℕ) (at : ℕ) (text : List ℕ) (used : ℕ) → Stands (drop at bytes) 0 text used → Stands bytes at text (at + used)
stands_behind bytes at text used p = record { parts = p.parts ∙ ap (λ (t : List ℕ). text ++ t) (drop-drop used at bytes); ends = omega (arith, p.ends) }

pub behind_stands : (bytes : List ℕ) (at : ℕ) (text : List ℕ) (next : ℕ) → Stands bytes at text next → Stands (drop at bytes) 0 text (next - at)
behind_stands bytes at text next p =
    let whole : at + (next - at) ≡ next = omega (arith, p.ends) in
    record { parts = p.parts ∙ ap (λ (t : List ℕ). text ++ t) (ap (λ (n : ℕ). drop n bytes) (sym whole) ∙ sym (drop-drop (next - at) at bytes)); ends = omega (arith, p.ends) }

-- the tree is at this place, and has so many nodes
pub record IsTreeAt (nodes : ℕ) (bytes : List ℕ) (at : ℕ) (x : ProofTree × ℕ) : Type 0 where
  pub is_tree : IsTree x.0
  pub stands : Stands bytes at (bytes_of x.0) x.1
  pub number : nodes ≡ length x.0.nodes

not_ok : (b : Bool) → not b ≡ false → b ≡ true
not_ok true e = refl
not_ok false e = absurd cc

pub tree_found : (nodes : ℕ) (bytes : List ℕ) (at : ℕ) (x : ProofTree × ℕ) → IsBytes bytes → tree_at nodes bytes at ≡ Ok x → IsTreeAt nodes bytes at x
unfolding tree_at
tree_found nodes bytes at x fits e =
    let a = bind_ok (of_tree (read (drop at bytes))) (λ found. unless (fault_where (not (nodes == length found.0.nodes)) (Field (at - 2))) (Ok (found.0, at + found.1))) x e in
    let u = unless_ok (fault_where (not (nodes == length a.0.0.nodes)) (Field (at - 2))) (Ok (a.0.0, at + a.0.1)) x a.2 in
    let number : nodes ≡ length a.0.0.nodes = eqb-true _ _ (not_ok _ (none_where (not (nodes == length a.0.0.nodes)) (Field (at - 2)) u.0)) in
    let stands = read_stands (drop at bytes) a.0 (bytes_behind at bytes fits) (of_tree_ok (read (drop at bytes)) a.0 a.1) in
    let is : IsTreeAt nodes bytes at (a.0.0, at + a.0.1) = record { is_tree = stands.0; stands = stands_behind bytes at (bytes_of a.0.0) a.0.1 stands.1; number = number } in
    subst (IsTreeAt nodes bytes at) (ok_is {F = RecordFault} (a.0.0, at + a.0.1) x u.1) is

pub tree_read : (nodes : ℕ) (bytes : List ℕ) (at : ℕ) (T : ProofTree) (next : ℕ) → IsTreeAt nodes bytes at (T, next) → tree_at nodes bytes at ≡ Ok (T, next)
unfolding tree_at
tree_read nodes bytes at T next is =
    let whole : at + (next - at) ≡ next = omega (arith, is.stands.ends) in
    let found : read (drop at bytes) ≡ Ok (T, next - at) = read_again T (drop at bytes) (next - at) is.is_tree (behind_stands bytes at (bytes_of T) next is.stands) in
    let number : (nodes == length T.nodes) ≡ true = eq-eqb nodes (length T.nodes) is.number in
    rw (found, number) (ap (λ (n : ℕ). Ok (T, n)) whole)
