-- A record that is refused is no item, in the first column that holds what it may not.
use Rattle.std.proofs.Common.{◌≡◌, ◌≢◌, ℕ, ◌+◌, ◌-◌, ◌*◌, ◌<◌, ◌≤◌, not, eqb, List, [], length, get_or, min, Option, Some, Result, Ok, Err, ℤ, pos, refl, sym, ap, subst, ◌∙◌, arith, inl, inr}
use Rattle.std.specs.Prelude.{nat_lt}
use Rattle.std.proofs.lemmas.Bool.{cases_lt, not-true, not-false, eqb-true, eqb-false, ltb-true, ltb-false}
use Rattle.std.proofs.lemmas.List.{nil_from_length}
use Rattle.std.proofs.Math.Nat.{mul-le-mul_right, min-le_right}
use Rattle.exam_text.specs.Numbers.{number_of, signed_of}
use Rattle.exam_text.specs.First.{◌>>=◌, unless, fault_where}
use Rattle.exam_text.proofs.Firsts.{ok_is, each_is, none_where, first_is}
use Rattle.bank_tables.specs.Tables.{Item}
use Rattle.bank_reader.specs.declared.fault.ReadFault.{ReadFault}
use Rattle.bank_reader.specs.declared.fault.ReadFault.TheVariants.{Csv, Field}
use Rattle.bank_reader.specs.declared.item.Shape.{Shape}
use Rattle.bank_reader.specs.Columns.{field, nine_digits, first_loglik, width}
use Rattle.bank_reader.specs.Grammar.{IsNumber, IsSigned, IsColumn, IsItemFault}
use Rattle.bank_reader.specs.Reading.{number_at, signed_at, numbers_at, signeds_at, not_empty_at, item_at}
use Rattle.bank_reader.proofs.Errs.{bind_err, unless_err, or_fault_err, where_some, each_err}
use Rattle.bank_reader.proofs.GrammarLaws.{column_is, column_again, signed_column_is, signed_column_again}

ok_or_err : {A : Type 0} (x : A) (e : ReadFault) → (let r : Result A ReadFault = Ok x in r ≡ Err e) → ⊥
ok_or_err x e h = cc

number_place : (k c : ℕ) (fields : List (List ℕ)) (e : ReadFault) → number_at k c fields ≡ Err e → e ≡ Field k c
unfolding number_at
number_place k c fields e h = sym (or_fault_err (number_of nine_digits (field fields c)) (Field k c) e h).1

signed_place : (k c : ℕ) (fields : List (List ℕ)) (e : ReadFault) → signed_at k c fields ≡ Err e → e ≡ Field k c
unfolding signed_at
signed_place k c fields e h = sym (or_fault_err (signed_of nine_digits (field fields c)) (Field k c) e h).1

-- a column that is refused is no number
number_refused : (k c : ℕ) (fields : List (List ℕ)) (e : ReadFault) → number_at k c fields ≡ Err e → (e ≡ Field k c) × ((n : ℕ) → IsNumber fields c n → ⊥)
number_refused k c fields e h = (number_place k c fields e h, λ n is. ok_or_err n e (sym (column_again k c n fields is) ∙ h))

signed_refused : (k c : ℕ) (fields : List (List ℕ)) (e : ReadFault) → signed_at k c fields ≡ Err e → (e ≡ Field k c) × ((z : ℤ) → IsSigned fields c z → ⊥)
signed_refused k c fields e h = (signed_place k c fields e h, λ z is. ok_or_err z e (sym (signed_column_again k c z fields is) ∙ h))

-- a column has one number
one_number : (fields : List (List ℕ)) (c m n : ℕ) → IsNumber fields c m → IsNumber fields c n → m ≡ n
one_number fields c m n a b = ok_is {F = ReadFault} m n (sym (column_again 0 c m fields a) ∙ column_again 0 c n fields b)

item_fine : (s : Shape) (k : ℕ) (fields : List (List ℕ)) → IsNumber fields 0 (k - 1) → IsColumn s k fields 0
item_fine s k fields h = record {
  item = λ _. h;
  number = λ lt _. absurd (omega (arith, lt));
  loglik = λ n i _ e _. absurd (omega (arith, e));
  empty = λ n i _ e _. absurd (omega (arith, e));
}

number_fine : (s : Shape) (k c n : ℕ) (fields : List (List ℕ)) → 0 < c → c < first_loglik s → IsNumber fields c n → IsColumn s k fields c
number_fine s k c n fields some below h = record {
  item = λ e. absurd (omega (arith, e, some));
  number = λ _ _. (n, h);
  loglik = λ n i _ e _. absurd (omega (arith, e, below));
  empty = λ n i _ e _. absurd (omega (arith, e, below));
}

-- the responses that an item has, of those that the header has
within_own : (categories responses grid i : ℕ) → i < min categories responses * grid → i < categories * grid
within_own categories responses grid i lt =
    let less : min categories responses ≤ categories = omega arith in
    omega (arith, lt, mul-le-mul_right grid less)

past_own : (categories responses grid i : ℕ) → min categories responses * grid ≤ i → i < responses * grid → categories * grid ≤ i
past_own categories responses grid i le lt = elim (cases_lt responses categories) [
  | inl more ↦ (let e : min categories responses ≡ responses = omega arith in
      let full : responses * grid ≤ i = subst (λ (m : ℕ). m * grid ≤ i) e le in absurd (omega (arith, full, lt)))
  | inr fewer ↦ (let e : min categories responses ≡ categories = omega arith in subst (λ (m : ℕ). m * grid ≤ i) e le)
]

loglik_fine : (s : Shape) (k n i : ℕ) (z : ℤ) (fields : List (List ℕ)) → IsNumber fields 2 n → i < n * s.grid → IsSigned fields (first_loglik s + i) z → IsColumn s k fields (first_loglik s + i)
loglik_fine s k n i z fields has lt h = record {
  item = λ e. absurd (omega (arith, e));
  number = λ _ below. absurd (omega (arith, below));
  loglik = λ m j _ e _. (z, h);
  empty = λ m j other e past.
      let same : m ≡ n = one_number fields 2 m n other has in
      let at : i ≡ j = omega (arith, e) in
      let none : n * s.grid ≤ i = subst (λ (x : ℕ). x * s.grid ≤ i) same (omega (arith, past, at)) in
      absurd (omega (arith, none, lt));
}

empty_fine : (s : Shape) (k n i : ℕ) (fields : List (List ℕ)) → IsNumber fields 2 n → n * s.grid ≤ i → field fields (first_loglik s + i) ≡ [] → IsColumn s k fields (first_loglik s + i)
empty_fine s k n i fields has past h = record {
  item = λ e. absurd (omega (arith, e));
  number = λ _ below. absurd (omega (arith, below));
  loglik = λ m j other e lt.
      let same : m ≡ n = one_number fields 2 m n other has in
      let at : i ≡ j = omega (arith, e) in
      let some : i < n * s.grid = subst (λ (x : ℕ). i < x * s.grid) same (omega (arith, lt, at)) in
      absurd (omega (arith, some, past));
  empty = λ m j _ e _. h;
}

abbrev FineBelow : Shape → ℕ → List (List ℕ) → ℕ → Type 0
FineBelow s k fields n = (d : ℕ) → d < n → IsColumn s k fields d

-- columns after those that are fine
fine_on : (s : Shape) (k : ℕ) (fields : List (List ℕ)) (from n : ℕ) → FineBelow s k fields from → ((i : ℕ) → i < n → IsColumn s k fields (from + i)) → FineBelow s k fields (from + n)
fine_on s k fields from n before more d lt = elim (cases_lt d from) [
  | inl early ↦ before d early
  | inr late ↦ (let at : from + (d - from) ≡ d = omega arith in subst (λ (c : ℕ). IsColumn s k fields c) at (more (d - from) (omega arith)))
]

fine_next : (s : Shape) (k : ℕ) (fields : List (List ℕ)) (n : ℕ) → FineBelow s k fields n → IsColumn s k fields n → FineBelow s k fields (n + 1)
fine_next s k fields n before here d lt = elim (cases_lt d n) [
  | inl early ↦ before d early
  | inr late ↦ (let at : n ≡ d = omega arith in subst (λ (c : ℕ). IsColumn s k fields c) at here)
]

-- a fault in this column
at_column : (s : Shape) (k c : ℕ) (fields : List (List ℕ)) (e : ReadFault) → length fields ≡ width s → e ≡ Field k c → c < width s → FineBelow s k fields c → (IsColumn s k fields c → ⊥) → IsItemFault s k fields e
at_column s k c fields e count at within before here = subst (λ (f : ReadFault). IsItemFault s k fields f) (sym at) (refl, count, within, before, here)

-- numbers side by side that are refused
numbers_fault : (s : Shape) (k from count : ℕ) (fields : List (List ℕ)) (e : ReadFault) → length fields ≡ width s → 0 < from → from + count ≤ first_loglik s → FineBelow s k fields from → numbers_at k from count fields ≡ Err e → IsItemFault s k fields e
numbers_fault s k from count fields e wide some within before h =
    let first = each_err count (λ i. number_at k (from + i) fields) e h in
    let i : ℕ = first.at in
    let refused = number_refused k (from + i) fields e first.here in
    let each = each_is i (λ i. number_at k (from + i) fields) first.before.0 first.before.1 in
    at_column s k (from + i) fields e wide refused.0 (omega (arith, first.below, within))
    (fine_on s k fields from i before (λ j lt. number_fine s k (from + j) (get_or first.before.0 j 0) fields (omega (arith, some)) (omega (arith, first.below, within, lt)) (column_is k (from + j) (get_or first.before.0 j 0) fields (each.1 j 0 lt))))
    (λ is. let n = is.number (omega (arith, some)) (omega (arith, first.below, within)) in refused.1 n.0 n.1)

numbers_fine : (s : Shape) (k from count : ℕ) (fields : List (List ℕ)) (xs : List ℕ) → 0 < from → from + count ≤ first_loglik s → FineBelow s k fields from → numbers_at k from count fields ≡ Ok xs → FineBelow s k fields (from + count)
numbers_fine s k from count fields xs some within before h =
    let each = each_is count (λ i. number_at k (from + i) fields) xs h in
    fine_on s k fields from count before (λ j lt. number_fine s k (from + j) (get_or xs j 0) fields (omega (arith, some)) (omega (arith, within, lt)) (column_is k (from + j) (get_or xs j 0) fields (each.1 j 0 lt)))

-- likelihoods that are refused
logliks_fault : (s : Shape) (k n : ℕ) (fields : List (List ℕ)) (e : ReadFault) → length fields ≡ width s → IsNumber fields 2 n → FineBelow s k fields (first_loglik s)
    → signeds_at k (first_loglik s) (min n s.responses * s.grid) fields ≡ Err e → IsItemFault s k fields e
logliks_fault s k n fields e wide has before h =
    let count : ℕ = min n s.responses * s.grid in
    let few : count ≤ s.responses * s.grid = mul-le-mul_right s.grid (min-le_right n s.responses) in
    let first = each_err count (λ i. signed_at k (first_loglik s + i) fields) e h in
    let i : ℕ = first.at in
    let refused = signed_refused k (first_loglik s + i) fields e first.here in
    let each = each_is i (λ i. signed_at k (first_loglik s + i) fields) first.before.0 first.before.1 in
    at_column s k (first_loglik s + i) fields e wide refused.0 (omega (arith, first.below, few))
    (fine_on s k fields (first_loglik s) i before (λ j lt. loglik_fine s k n j (get_or first.before.0 j (pos 0)) fields has (within_own n s.responses s.grid j (omega (arith, lt, first.below))) (signed_column_is k (first_loglik s + j) (get_or first.before.0 j (pos 0)) fields (each.1 j (pos 0) lt))))
    (λ is. let z = is.loglik n i has refl (within_own n s.responses s.grid i first.below) in refused.1 z.0 z.1)

logliks_fine : (s : Shape) (k n : ℕ) (fields : List (List ℕ)) (zs : List ℤ) → IsNumber fields 2 n → FineBelow s k fields (first_loglik s)
    → signeds_at k (first_loglik s) (min n s.responses * s.grid) fields ≡ Ok zs → FineBelow s k fields (first_loglik s + min n s.responses * s.grid)
logliks_fine s k n fields zs has before h =
    let count : ℕ = min n s.responses * s.grid in
    let each = each_is count (λ i. signed_at k (first_loglik s + i) fields) zs h in
    fine_on s k fields (first_loglik s) count before (λ j lt. loglik_fine s k n j (get_or zs j (pos 0)) fields has (within_own n s.responses s.grid j lt) (signed_column_is k (first_loglik s + j) (get_or zs j (pos 0)) fields (each.1 j (pos 0) lt)))

-- columns that are not empty where they must be
empty_fault : (s : Shape) (k n : ℕ) (fields : List (List ℕ)) (e : ReadFault) → length fields ≡ width s → IsNumber fields 2 n → FineBelow s k fields (first_loglik s + min n s.responses * s.grid)
    → not_empty_at k (first_loglik s + min n s.responses * s.grid) ((s.responses - min n s.responses) * s.grid) fields ≡ Some e → IsItemFault s k fields e
empty_fault s k n fields e wide has before h =
    let own : ℕ = min n s.responses in
    let rest : ℕ = s.responses - own in
    let from : ℕ = first_loglik s + own * s.grid in
    let all : own + rest ≡ s.responses = omega arith in
    let product : (own + rest) * s.grid ≡ s.responses * s.grid = ap (λ (m : ℕ). m * s.grid) all in
    let test : ℕ → Option ReadFault = λ i. fault_where (nat_lt 0 (length (field fields (from + i)))) (Field k (from + i)) in
    let first = first_is (rest * s.grid) test e h in
    let i : ℕ = first.at in
    let within : own * s.grid + i < s.responses * s.grid = omega (arith, product, first.below) in
    let found = where_some (nat_lt 0 (length (field fields (from + i)))) (Field k (from + i)) e first.here in
    let move : (j : ℕ) → first_loglik s + (own * s.grid + j) ≡ from + j = λ j. omega arith in
    let past : (j : ℕ) → j ≤ i → n * s.grid ≤ own * s.grid + j = λ j le. past_own n s.responses s.grid (own * s.grid + j) (omega arith) (omega (arith, within, le)) in
    let none : (j : ℕ) → j < i → field fields (from + j) ≡ [] = λ j lt. nil_from_length (field fields (from + j)) (zero_of (length (field fields (from + j))) (ltb-false 0 (length (field fields (from + j))) (none_where (nat_lt 0 (length (field fields (from + j)))) (Field k (from + j)) (first.before j lt)))) in
    at_column s k (from + i) fields e wide (sym found.1) (omega (arith, within))
    (fine_on s k fields from i before (λ j lt. subst (λ (c : ℕ). IsColumn s k fields c) (move j) (empty_fine s k n (own * s.grid + j) fields has (past j (omega (arith, lt))) (subst (λ (c : ℕ). field fields c ≡ []) (sym (move j)) (none j lt)))))
    (λ is. not_none (field fields (from + i)) (ltb-true 0 (length (field fields (from + i))) found.0) (is.empty n (own * s.grid + i) has (sym (move i)) (past i (omega arith))))
  where
    zero_of : (m : ℕ) → m ≤ 0 → m ≡ 0
    zero_of m h = omega arith

    not_none : (x : List ℕ) → 0 < length x → x ≡ [] → ⊥
    not_none x some e = let z : length x ≡ 0 = ap (λ (y : List ℕ). length y) e in omega arith

-- the columns after the item's number
abbrev values_at : Shape → ℕ → List (List ℕ) → Result Item ReadFault
values_at s k fields = do
  stimulus ← number_at k 1 fields
  categories ← number_at k 2 fields
  quantities ← numbers_at k 3 s.quantities fields
  info ← numbers_at k (3 + s.quantities) s.grid fields
  loglik ← signeds_at k (first_loglik s) (min categories s.responses * s.grid) fields
  unless (not_empty_at k (first_loglik s + min categories s.responses * s.grid) ((s.responses - min categories s.responses) * s.grid) fields)
      (Ok (record { stimulus = stimulus; categories = categories; quantities = quantities; info = info; loglik = loglik }))

values_fault : (s : Shape) (k : ℕ) (fields : List (List ℕ)) (e : ReadFault) → length fields ≡ width s → FineBelow s k fields 1 → values_at s k fields ≡ Err e → IsItemFault s k fields e
values_fault s k fields e wide fine h = elim (bind_err (number_at k 1 fields) _ e h) [
  | inl bad ↦ (let refused = number_refused k 1 fields e bad in
      at_column s k 1 fields e wide refused.0 (omega arith) fine (λ is. let n = is.number (omega arith) (omega arith) in refused.1 n.0 n.1))
  | inr stimulus ↦ (let fine_2 : FineBelow s k fields 2 = fine_next s k fields 1 fine (number_fine s k 1 stimulus.0 fields (omega arith) (omega arith) (column_is k 1 stimulus.0 fields stimulus.1)) in
      elim (bind_err (number_at k 2 fields) _ e stimulus.2) [
        | inl bad ↦ (let refused = number_refused k 2 fields e bad in
            at_column s k 2 fields e wide refused.0 (omega arith) fine_2 (λ is. let n = is.number (omega arith) (omega arith) in refused.1 n.0 n.1))
        | inr categories ↦ (let n : ℕ = categories.0 in
            let has : IsNumber fields 2 n = column_is k 2 n fields categories.1 in
            let fine_3 : FineBelow s k fields 3 = fine_next s k fields 2 fine_2 (number_fine s k 2 n fields (omega arith) (omega arith) has) in
            elim (bind_err (numbers_at k 3 s.quantities fields) _ e categories.2) [
              | inl bad ↦ numbers_fault s k 3 s.quantities fields e wide (omega arith) (omega arith) fine_3 bad
              | inr quantities ↦ (let fine_q : FineBelow s k fields (3 + s.quantities) = numbers_fine s k 3 s.quantities fields quantities.0 (omega arith) (omega arith) fine_3 quantities.1 in
                  elim (bind_err (numbers_at k (3 + s.quantities) s.grid fields) _ e quantities.2) [
                    | inl bad ↦ numbers_fault s k (3 + s.quantities) s.grid fields e wide (omega arith) (omega arith) fine_q bad
                    | inr info ↦ (let fine_i : FineBelow s k fields (first_loglik s) = numbers_fine s k (3 + s.quantities) s.grid fields info.0 (omega arith) (omega arith) fine_q info.1 in
                        elim (bind_err (signeds_at k (first_loglik s) (min n s.responses * s.grid) fields) _ e info.2) [
                          | inl bad ↦ logliks_fault s k n fields e wide has fine_i bad
                          | inr logliks ↦ (let fine_l = logliks_fine s k n fields logliks.0 has fine_i logliks.1 in
                              elim (unless_err (not_empty_at k (first_loglik s + min n s.responses * s.grid) ((s.responses - min n s.responses) * s.grid) fields) _ e logliks.2) [
                                | inl bad ↦ empty_fault s k n fields e wide has fine_l bad
                                | inr whole ↦ absurd (ok_or_err (record { stimulus = stimulus.0; categories = n; quantities = quantities.0; info = info.0; loglik = logliks.0 }) e whole.1)
                              ])
                        ])
                  ])
            ])
      ])
]

-- a record that is refused is no item, for the reason that the fault gives
pub item_fault : (s : Shape) (k : ℕ) (fields : List (List ℕ)) (e : ReadFault) → item_at s k fields ≡ Err e → IsItemFault s k fields e
unfolding item_at
item_fault s k fields e h = elim (unless_err (fault_where (not (eqb (length fields) (width s))) (Csv k)) _ e h) [
  | inl short ↦ (let w = where_some (not (eqb (length fields) (width s))) (Csv k) e short in
      let other : length fields ≢ width s = eqb-false _ _ (not-true _ w.0) in
      subst (λ (f : ReadFault). IsItemFault s k fields f) w.1 (refl, other))
  | inr counted ↦ (let wide : length fields ≡ width s = eqb-true _ _ (not-false _ (none_where _ _ counted.0)) in
      elim (bind_err (number_at k 0 fields) _ e counted.1) [
        | inl bad ↦ (let refused = number_refused k 0 fields e bad in
            at_column s k 0 fields e wide refused.0 (omega arith) (λ d lt. absurd (omega (arith, lt))) (λ is. refused.1 (k - 1) (is.item refl)))
        | inr number ↦ elim (unless_err (fault_where (not (eqb number.0 (k - 1))) (Field k 0)) _ e number.2) [
          | inl other ↦ (let w = where_some (not (eqb number.0 (k - 1))) (Field k 0) e other in
              let unlike : number.0 ≢ k - 1 = eqb-false _ _ (not-true _ w.0) in
              at_column s k 0 fields e wide (sym w.1) (omega arith) (λ d lt. absurd (omega (arith, lt))) (λ is. unlike (one_number fields 0 number.0 (k - 1) (column_is k 0 number.0 fields number.1) (is.item refl))))
          | inr rest ↦ (let same : number.0 ≡ k - 1 = eqb-true _ _ (not-false _ (none_where _ _ rest.0)) in
              let fine : FineBelow s k fields 1 = λ d lt. let z : 0 ≡ d = omega (arith, lt) in subst (λ (c : ℕ). IsColumn s k fields c) z (item_fine s k fields (subst (λ (m : ℕ). IsNumber fields 0 m) same (column_is k 0 number.0 fields number.1))) in
              values_fault s k fields e wide fine rest.1)
        ]
      ])
]
