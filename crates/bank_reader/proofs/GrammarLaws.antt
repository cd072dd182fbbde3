-- What is read is in the grammar, and what is in the grammar is read.
use Rattle.std.proofs.Common.{◌≡◌, ℕ, ◌+◌, ◌-◌, ◌*◌, true, not, eqb, List, length, get_or, min, Option, Some, None, Ok, ℤ, pos, refl, ap, subst, ◌∙◌, arith}
use Rattle.std.specs.Prelude.{nat_lt}
use Rattle.std.proofs.lemmas.Bool.{not-false, eqb-true, eq-eqb, ltb-false}
use Rattle.exam_text.specs.Numbers.{number_of, signed_of}
use Rattle.exam_text.specs.First.{or_fault, fault_where}
use Rattle.exam_text.proofs.Numerals.{number_is, number_again, signed_is, signed_again}
use Rattle.exam_text.proofs.Firsts.{bind_ok, unless_ok, or_fault_ok, none_where, ok_is, each_is, each_from, none_each, none_from}
use Rattle.bank_reader.specs.declared.fault.ReadFault.{ReadFault}
use Rattle.bank_reader.specs.declared.fault.ReadFault.TheVariants.{Csv, Field}
use Rattle.bank_reader.specs.declared.item.Shape.{Shape}
use Rattle.bank_tables.specs.Tables.{Item}
use Rattle.bank_reader.specs.Columns.{field, nine_digits, first_loglik, width}
use Rattle.bank_reader.specs.Grammar.{IsNumber, IsSigned, IsItem}
use Rattle.bank_reader.specs.Reading.{number_at, signed_at, numbers_at, signeds_at, not_empty_at, item_at}

pub column_is : (k c n : ℕ) (fields : List (List ℕ)) → number_at k c fields ≡ Ok n → IsNumber fields c n
unfolding number_at
column_is k c n fields e =
    let q = number_is nine_digits (field fields c) n (omega arith) (or_fault_ok (number_of nine_digits (field fields c)) (Field k c) n e) in
    record { small = q.0; text = q.1 }

pub column_again : (k c n : ℕ) (fields : List (List ℕ)) → IsNumber fields c n → number_at k c fields ≡ Ok n
unfolding number_at
column_again k c n fields h =
    let read : number_of nine_digits (field fields c) ≡ Some n = ap (number_of nine_digits) h.text ∙ number_again nine_digits n (omega arith) h.small in
    ap (λ (o : Option ℕ). or_fault o (Field k c)) read

pub signed_column_is : (k c : ℕ) (z : ℤ) (fields : List (List ℕ)) → signed_at k c fields ≡ Ok z → IsSigned fields c z
unfolding signed_at
signed_column_is k c z fields e =
    let q = signed_is nine_digits (field fields c) z (omega arith) (or_fault_ok (signed_of nine_digits (field fields c)) (Field k c) z e) in
    record { small = q.0; text = q.1 }

pub signed_column_again : (k c : ℕ) (z : ℤ) (fields : List (List ℕ)) → IsSigned fields c z → signed_at k c fields ≡ Ok z
unfolding signed_at
signed_column_again k c z fields h =
    let read : signed_of nine_digits (field fields c) ≡ Some z = ap (signed_of nine_digits) h.text ∙ signed_again nine_digits z (omega arith) h.small in
    ap (λ (o : Option ℤ). or_fault o (Field k c)) read

empty_where : (n : ℕ) (f : ReadFault) → fault_where (nat_lt 0 n) f ≡ None → n ≡ 0
empty_where n f e = let h = ltb-false 0 n (none_where (nat_lt 0 n) f e) in omega (arith, h)

same_where : (a b : ℕ) (f : ReadFault) → fault_where (not (eqb a b)) f ≡ None → a ≡ b
same_where a b f e = eqb-true a b (not-false (eqb a b) (none_where (not (eqb a b)) f e))

-- what is read is in the grammar
pub item_is : (s : Shape) (k : ℕ) (fields : List (List ℕ)) (r : Item) → item_at s k fields ≡ Ok r → IsItem s k fields r
unfolding item_at
item_is s k fields r e =
    let u = unless_ok (fault_where (not (eqb (length fields) (width s))) (Csv k)) _ r e in
    let n = bind_ok (number_at k 0 fields) _ r u.1 in
    let v = unless_ok (fault_where (not (eqb n.0 (k - 1))) (Field k 0)) _ r n.2 in
    let a = bind_ok (number_at k 1 fields) _ r v.1 in
    let b = bind_ok (number_at k 2 fields) _ r a.2 in
    let q = bind_ok (numbers_at k 3 s.quantities fields) _ r b.2 in
    let g = bind_ok (numbers_at k (3 + s.quantities) s.grid fields) _ r q.2 in
    let l = bind_ok (signeds_at k (first_loglik s) (min b.0 s.responses * s.grid) fields) _ r g.2 in
    let w = unless_ok (not_empty_at k (first_loglik s + min b.0 s.responses * s.grid) ((s.responses - min b.0 s.responses) * s.grid) fields) _ r l.2 in
    let made : Item = record { stimulus = a.0; categories = b.0; quantities = q.0; info = g.0; loglik = l.0 } in
    let quantities = each_is s.quantities (λ i. number_at k (3 + i) fields) q.0 q.1 in
    let info = each_is s.grid (λ i. number_at k (3 + s.quantities + i) fields) g.0 g.1 in
    let loglik = each_is (min b.0 s.responses * s.grid) (λ i. signed_at k (first_loglik s + i) fields) l.0 l.1 in
    let is : IsItem s k fields made = record {
      count = same_where (length fields) (width s) (Csv k) u.0;
      number = subst (λ (m : ℕ). IsNumber fields 0 m) (same_where n.0 (k - 1) (Field k 0) v.0) (column_is k 0 n.0 fields n.1);
      stimulus = column_is k 1 a.0 fields a.1;
      categories = column_is k 2 b.0 fields b.1;
      quantity_count = quantities.0;
      quantities = λ i lt. column_is k (3 + i) (get_or q.0 i 0) fields (quantities.1 i 0 lt);
      info_count = info.0;
      info = λ i lt. column_is k (3 + s.quantities + i) (get_or g.0 i 0) fields (info.1 i 0 lt);
      loglik_count = loglik.0;
      loglik = λ i lt. signed_column_is k (first_loglik s + i) (get_or l.0 i (pos 0)) fields (loglik.1 i (pos 0) lt);
      empty = λ i lt. empty_where _ _ (none_each ((s.responses - min b.0 s.responses) * s.grid) (λ i. fault_where (nat_lt 0 (length (field fields (first_loglik s + min b.0 s.responses * s.grid + i)))) (Field k (first_loglik s + min b.0 s.responses * s.grid + i))) w.0 i lt);
    } in
    subst (λ (r : Item). IsItem s k fields r) (ok_is {F = ReadFault} made r w.1) is

-- what is in the grammar is read
pub item_again : (s : Shape) (k : ℕ) (fields : List (List ℕ)) (r : Item) → IsItem s k fields r → item_at s k fields ≡ Ok r
unfolding item_at
item_again s k fields r h =
    let count : eqb (length fields) (width s) ≡ true = eq-eqb _ _ h.count in
    let same : eqb (k - 1) (k - 1) ≡ true = eq-eqb (k - 1) (k - 1) refl in
    let quantities : numbers_at k 3 s.quantities fields ≡ Ok r.quantities = each_from s.quantities (λ i. number_at k (3 + i) fields) r.quantities 0 h.quantity_count (λ i lt. column_again k (3 + i) (get_or r.quantities i 0) fields (h.quantities i lt)) in
    let info : numbers_at k (3 + s.quantities) s.grid fields ≡ Ok r.info = each_from s.grid (λ i. number_at k (3 + s.quantities + i) fields) r.info 0 h.info_count (λ i lt. column_again k (3 + s.quantities + i) (get_or r.info i 0) fields (h.info i lt)) in
    let loglik : signeds_at k (first_loglik s) (min r.categories s.responses * s.grid) fields ≡ Ok r.loglik = each_from (min r.categories s.responses * s.grid) (λ i. signed_at k (first_loglik s + i) fields) r.loglik (pos 0) h.loglik_count (λ i lt. signed_column_again k (first_loglik s + i) (get_or r.loglik i (pos 0)) fields (h.loglik i lt)) in
    let empty : not_empty_at k (first_loglik s + min r.categories s.responses * s.grid) ((s.responses - min r.categories s.responses) * s.grid) fields ≡ None = none_from ((s.responses - min r.categories s.responses) * s.grid) (λ i. fault_where (nat_lt 0 (length (field fields (first_loglik s + min r.categories s.responses * s.grid + i)))) (Field k (first_loglik s + min r.categories s.responses * s.grid + i))) (λ i lt. rw (h.empty i lt) refl) in
    rw (count, column_again k 0 (k - 1) fields h.number, same, column_again k 1 r.stimulus fields h.stimulus, column_again k 2 r.categories fields h.categories, quantities, info, loglik, empty) refl
